use Rattle.std.proofs.Common.{◌≡◌, count_by, ◌≤◌, take}
use Rattle.sg_selection.specs.Readiness.{is_ready}
use Rattle.sg_selection.proofs.readiness.ready_of_number.Given as goal

-- those so far are counted
abbrev pub invariant-places : goal.invariant-places
invariant-places l = record {
  counted : l.passed ≡ count_by is_ready (take l.place l.ready);
  few : l.passed ≤ l.n;
  within : l.passed ≤ l.place;
}
