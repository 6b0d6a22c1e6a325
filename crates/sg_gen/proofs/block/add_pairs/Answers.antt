use Rattle.std.proofs.Common.{◌≡◌, ℕ, ◌+◌, ◌-◌, ◌∷◌, [], ap, arith, map}
use Rattle.sg_model.specs.Sums.{numbers_from}
use Rattle.sg_gen.specs.Making.{member_lists}
use Rattle.sg_gen.proofs.Lists.{joined-more}
use Rattle.sg_gen.proofs.block.add_pairs.Goals as goal

pub loop-i-preserved : goal.loop-i-preserved
loop-i-preserved c =
    let f = λ (a : ℕ). map (λ (b : ℕ). (c.args.before + a) ∷ (c.args.before + b) ∷ []) (numbers_from (a + 1) (c.args.width - a)) in
    let on : c.loop-i.i + 1 ≡ 1 + c.loop-i.i = omega arith in
    joined-more (member_lists c.args.lists.now.items) (member_lists c.loop-i.lists.items) (member_lists c.add_pairs_with.new.lists.items) f 1 c.loop-i.i (f (c.loop-i.i + 1)) c.loop-i.invariant
    c.in_ok-add_pairs_with.ensures (ap f on)
