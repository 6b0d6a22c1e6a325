use Rattle.std.proofs.Common.{◌≡◌, ◌<◌, ◌≤◌, ℕ, Some}
use Rattle.std.specs.Prelude.{slice_get}
use Rattle.sg_search.specs.declared.event.Ready.{Ready}
use Rattle.sg_selection_tests.proofs.steps.is_askable.Given as goal

-- the lanes so far have choices
abbrev pub invariant-lanes : goal.invariant-lanes
invariant-lanes l = (place n : ℕ) → place < l.lane-index → slice_get l.ready place ≡ Some (Ready.Begin n) → (1 ≤ n) × (n ≤ l.count)
