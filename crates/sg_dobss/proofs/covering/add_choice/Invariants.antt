use Rattle.std.proofs.Common.{◌≡◌, ◌++◌, ◌||◌, map, take}
use Rattle.sg_dobss.proofs.covering.add_choice.Given as goal

abbrev pub invariant-loop-b : goal.invariant-loop-b
invariant-loop-b l = l.all ≡ l.fn.all ++ map (λ b. l.holds || b) (take l.b-index l.rest)
