use Rattle.std.proofs.Common.{◌≡◌, ◌+◌, ◌-◌, ◌++◌, ◌∷◌, [], flat_map, map}
use Rattle.sg_model.specs.Sums.{numbers, numbers_from}
use Rattle.sg_gen.specs.Making.{member_lists}
use Rattle.sg_gen.proofs.block.add_pairs.Given as goal

-- the lists so far
abbrev pub invariant-loop-i : goal.invariant-loop-i
invariant-loop-i l = member_lists l.lists.items ≡ member_lists l.initial.lists.items ++ flat_map (λ a. map (λ b. (l.before + a) ∷ (l.before + b) ∷ []) (numbers_from (a + 1) (l.width - a))) (numbers l.i)
