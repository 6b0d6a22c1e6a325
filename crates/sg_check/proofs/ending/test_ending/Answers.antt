use Rattle.std.proofs.Common.{◌≡◌, ◌+◌, ◌∷◌, inl, inr, refl, arith, subst}
use Rattle.sg_frac.specs.Fractions.{Fraction}
use Rattle.sg_bounds.specs.Accepted.{IsGreatest}
use Rattle.sg_bounds.specs.Checking.{upper_line}
use Rattle.sg_bounds.specs.Leaves.{tree_bounds_of}
use Rattle.sg_bounds.specs.Trees.{node_of}
use Rattle.sg_check.specs.Answering.{held_line}
use Rattle.sg_check.proofs.Tops.{top-is_one}
use Rattle.sg_check.proofs.ending.test_ending.Goals as goal

pub returns-then-not-is_same : goal.returns-then-not-is_same
returns-then-not-is_same c =
    (upper_line c.args.report.now, inl ((λ g. let same = c.if-not-is_same.ensures.1 (top-is_one c.args.top.now.best c.args.report.now.upper _ c.requires.top c.den-upper.ensures.reduced g) in absurd (cc)), refl, refl), c.requires.line)

pub returns-then-not-has_ending : goal.returns-then-not-has_ending
returns-then-not-has_ending c =
    let same = c.if-not-is_same.ensures.0 refl in
    let top = subst (λ (f : Fraction). IsGreatest f (c.args.report.now.value ∷ tree_bounds_of c.args.game.now c.args.report.now.caps (node_of c.args.report.now.tree))) same c.requires.top.greatest in
    let line : c.saturating_add.result ≡ held_line (upper_line c.args.report.now + 1) = omega (arith, c.saturating_add.ensures, c.requires.line) in
    (upper_line c.args.report.now + 1, inr (top, inl ((λ p. let ends = c.if-not-has_ending.ensures.1 p in absurd (cc)), refl, refl)), line)

pub returns : goal.returns
returns c =
    let same = c.if-not-is_same.ensures.0 refl in
    (subst (λ (f : Fraction). IsGreatest f (c.args.report.now.value ∷ tree_bounds_of c.args.game.now c.args.report.now.caps (node_of c.args.report.now.tree))) same c.requires.top.greatest, (c.if-not-has_ending.ensures.0 refl, tt))
