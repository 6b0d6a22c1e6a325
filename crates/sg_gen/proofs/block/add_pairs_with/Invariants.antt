use Rattle.std.proofs.Common.{◌≡◌, ◌+◌, ◌++◌, ◌∷◌, [], map}
use Rattle.sg_model.specs.Sums.{numbers_from}
use Rattle.sg_gen.specs.Making.{member_lists}
use Rattle.sg_gen.proofs.block.add_pairs_with.Given as goal

-- the lists so far
abbrev pub invariant-loop-i : goal.invariant-loop-i
invariant-loop-i l = member_lists l.lists.items ≡ member_lists l.initial.lists.items ++ map (λ b. (l.before + l.a) ∷ (l.before + b) ∷ []) (numbers_from (l.a + 1) l.i)
