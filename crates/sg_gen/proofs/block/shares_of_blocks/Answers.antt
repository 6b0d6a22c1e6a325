use Rattle.std.proofs.Common.{◌≡◌, ◌∙◌, ℕ, ◌+◌, ◌*◌, [], ap, arith}
use Rattle.sg_model.specs.Sums.{numbers_from}
use Rattle.sg_gen.specs.Making.{member_lists}
use Rattle.sg_gen.proofs.Lists.{behind-more, lists-push}
use Rattle.sg_gen.proofs.block.shares_of_blocks.Goals as goal

pub loop-k-preserved : goal.loop-k-preserved
loop-k-preserved c =
    let f = λ (k : ℕ). numbers_from (k * c.args.count + 1) c.args.count in
    let on : c.loop-k.k ≡ 0 + c.loop-k.k = omega arith in
    behind-more [] (member_lists c.loop-k.lists.items) (member_lists c.push.new.self.items) f 0 c.loop-k.k c.in_ok-row_of_numbers.field-0.items c.loop-k.invariant
    (lists-push c.loop-k.lists.items c.push.new.self.items c.in_ok-row_of_numbers.field-0 c.in_ok-push.ensures.items) (c.in_ok-row_of_numbers.ensures ∙ ap f on)
