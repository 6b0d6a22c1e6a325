use Rattle.std.proofs.Common.{ℕ, ◌+◌, ◌∷◌, []}
use Rattle.sg_gen.specs.Making.{member_lists}
use Rattle.sg_gen.proofs.Lists.{behind-more, lists-push}
use Rattle.sg_gen.proofs.block.add_pairs_with.Goals as goal

pub loop-i-preserved : goal.loop-i-preserved
loop-i-preserved c =
    let f = λ (b : ℕ). (c.args.before + c.args.a) ∷ (c.args.before + b) ∷ [] in
    behind-more (member_lists c.args.lists.now.items) (member_lists c.loop-i.lists.items) (member_lists c.push.new.self.items) f (c.args.a + 1) c.loop-i.i c.in_ok-pair.field-0.items c.loop-i.invariant
    (lists-push c.loop-i.lists.items c.push.new.self.items c.in_ok-pair.field-0 c.in_ok-push.ensures.items) c.in_ok-pair.ensures
