use Rattle.std.proofs.Common.{◌≡◌, ◌*◌, flat_map}
use Rattle.sg_model.specs.Sums.{numbers_from}
use Rattle.sg_gen.specs.Generated.{block_lists}
use Rattle.sg_gen.specs.Making.{member_lists}
use Rattle.sg_gen.proofs.block.schedules_of_blocks.Given as goal

-- the lists so far
abbrev pub invariant-loop-k : goal.invariant-loop-k
invariant-loop-k l = member_lists l.lists.items ≡ flat_map (λ k. block_lists l.width (k * l.width)) (numbers_from 0 l.k)
