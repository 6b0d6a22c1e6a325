use Rattle.std.proofs.Common.{◌∙◌, sym, arith, eqb-true, eq-eqb}
use Rattle.sg_check.proofs.Trees.{part_count-length}
use Rattle.sg_check.proofs.fork.is_fork.Goals as goal

pub returns : goal.returns
returns c =
    let ps = c.args.parts.now in
    let count = part_count-length ps in (
      λ same. (c.if-l-acts.false, omega (arith, c.if-types-l.false, c.types.ensures.count), count ∙ (eqb-true _ _ same ∙ c.actions.ensures.count)),
      λ p. eq-eqb _ _ (sym count ∙ (p.2 ∙ sym c.actions.ensures.count)),
    )
