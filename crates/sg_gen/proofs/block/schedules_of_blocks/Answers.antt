use Rattle.std.proofs.Common.{◌≡◌, ℕ, ◌+◌, ◌*◌, [], ap, arith}
use Rattle.sg_gen.specs.Generated.{block_lists}
use Rattle.sg_gen.specs.Making.{member_lists}
use Rattle.sg_gen.proofs.Lists.{joined-more}
use Rattle.sg_gen.proofs.block.schedules_of_blocks.Goals as goal

pub loop-k-preserved : goal.loop-k-preserved
loop-k-preserved c =
    let f = λ (k : ℕ). block_lists c.args.width (k * c.args.width) in
    let on : c.loop-k.k ≡ 0 + c.loop-k.k = omega arith in
    joined-more [] (member_lists c.loop-k.lists.items) (member_lists c.add_block.new.lists.items) f 0 c.loop-k.k (f c.loop-k.k) c.loop-k.invariant
    c.in_ok-add_block.ensures (ap f on)
