use Rattle.std.proofs.Common.{sym, subst}
use Rattle.sg_frac.specs.Fractions.{Fraction}
use Rattle.sg_model.specs.Origami.{SpendsAll}
use Rattle.sg_check.proofs.Watered.{spent-small}
use Rattle.sg_check.proofs.water.is_spent.Goals as goal

pub returns-in-Some : goal.returns-in-Some
returns-in-Some c =
    let e = c.in-Some.ensures in (
      λ t. subst (λ (h : Fraction). SpendsAll c.args.game.now h.num h.den) e (c.spends_all.ensures.0 t),
      λ s. c.spends_all.ensures.1 (subst (λ (h : Fraction). SpendsAll c.args.game.now h.num h.den) (sym e) s),
    )

pub returns-in-None : goal.returns-in-None
returns-in-None c = (λ f. cc, λ s. absurd (c.in-None.ensures (spent-small c.args.game.now c.promises.ensures c.requires.fillable c.args.level.now.num c.args.level.now.den c.den-lowest.ensures.reduced s)))
