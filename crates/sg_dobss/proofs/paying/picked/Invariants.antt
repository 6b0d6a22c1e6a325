use Rattle.std.proofs.Common.{◌≡◌, map, take}
use Rattle.std.specs.Prelude.{if◌then◌else◌}
use Rattle.sg_dobss.proofs.paying.picked.Given as goal

abbrev pub invariant-loop-b : goal.invariant-loop-b
invariant-loop-b l = l.pays ≡ map (λ b. if b then l.inside else l.outside) (take l.b-index l.covered)
