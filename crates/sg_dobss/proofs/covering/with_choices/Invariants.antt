use Rattle.std.proofs.Common.{◌≡◌, ◌||◌, flat_map, map}
use Rattle.sg_model.specs.Sums.{numbers_from}
use Rattle.sg_dobss.specs.Covering.{holds_target}
use Rattle.sg_dobss.proofs.covering.with_choices.Given as goal

abbrev pub invariant-loop-c : goal.invariant-loop-c
invariant-loop-c l = l.all ≡ flat_map (λ c. map (λ b. holds_target l.game l.r l.t c || b) l.rest) (numbers_from 0 l.c)
