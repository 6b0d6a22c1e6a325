use Rattle.std.proofs.Common.{◌≡◌, ◌∙◌, ℕ, ◌+◌, ◌∷◌, [], ap, arith}
use Rattle.sg_gen.specs.Making.{member_lists}
use Rattle.sg_gen.proofs.Lists.{behind-more, lists-push}
use Rattle.sg_gen.proofs.block.add_singles.Goals as goal

pub loop-i-preserved : goal.loop-i-preserved
loop-i-preserved c =
    let f = λ (a : ℕ). (c.args.before + a) ∷ [] in
    let on : c.loop-i.i + 1 ≡ 1 + c.loop-i.i = omega arith in
    behind-more (member_lists c.args.lists.now.items) (member_lists c.loop-i.lists.items) (member_lists c.push.new.self.items) f 1 c.loop-i.i c.in_ok-single.field-0.items c.loop-i.invariant
    (lists-push c.loop-i.lists.items c.push.new.self.items c.in_ok-single.field-0 c.in_ok-push.ensures.items) (c.in_ok-single.ensures ∙ ap f on)
