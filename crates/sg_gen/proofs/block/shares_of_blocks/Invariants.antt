use Rattle.std.proofs.Common.{◌≡◌, ◌+◌, ◌*◌, map}
use Rattle.sg_model.specs.Sums.{numbers_from}
use Rattle.sg_gen.specs.Making.{member_lists}
use Rattle.sg_gen.proofs.block.shares_of_blocks.Given as goal

-- the lists so far
abbrev pub invariant-loop-k : goal.invariant-loop-k
invariant-loop-k l = member_lists l.lists.items ≡ map (λ k. numbers_from (k * l.count + 1) l.count) (numbers_from 0 l.k)
