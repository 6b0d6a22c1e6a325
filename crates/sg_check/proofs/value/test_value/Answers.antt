use Rattle.std.proofs.Common.{sym, subst, refl, inl, inr, arith}
use Rattle.std.proofs.lemmas.Int.{ints}
use Rattle.sg_bounds.specs.Checking.{value_line}
use Rattle.sg_bounds.proofs.Claims.{claim_commits}
use Rattle.sg_model.specs.Commitments.{AreLegal}
use Rattle.sg_model.proofs.Covers.{ArePositive}
use Rattle.sg_check.proofs.Valued.{crossed, den-positive, legal-from, value-is}
use Rattle.sg_check.proofs.value.test_value.Goals as goal

pub value_of-requires-clause-positive : goal.value_of-requires-clause-positive
value_of-requires-clause-positive c =
    subst ArePositive (sym c.tickets-tickets.ensures.value)
    (claim_commits c.args.game.now c.args.report.now.tickets.tickets c.tickets-tickets.ensures.rules (legal-from c.args.game.now c.args.report.now 3 c.args.report.now.tickets.tickets c.requires.plays)).positive

pub value_of-requires-clause-legal : goal.value_of-requires-clause-legal
value_of-requires-clause-legal c =
    subst (AreLegal c.args.game.now) (sym c.tickets-tickets.ensures.value) (legal-from c.args.game.now c.args.report.now 3 c.args.report.now.tickets.tickets c.requires.plays)

pub returns-in-None : goal.returns-in-None
returns-in-None c =
    (value_line c.args.report.now, inl (rw c.tickets-tickets.ensures.value at c.in-None.ensures, refl, refl), c.value_line-line.ensures)

pub is_value-requires : goal.is_value-requires
is_value-requires c =
    let g = c.args.game.now in
    let h = rw c.tickets-tickets.ensures.value at c.in-Some.ensures in
    let p = den-positive g c.args.report.now.tickets.tickets c.promises.ensures c.tickets-tickets.ensures.rules (legal-from g c.args.report.now 3 c.args.report.now.tickets.tickets c.requires.plays) in
    omega (arith, ints, p, h.1.den)

pub returns-then-not-is_value : goal.returns-then-not-is_value
returns-then-not-is_value c =
    let r = c.args.report.now in
    let h = rw c.tickets-tickets.ensures.value at c.in-Some.ensures in
    (value_line r, inr (h.0, inl ((λ v. let bad = c.if-not-is_value.ensures.1 (crossed c.args.game.now r.tickets.tickets c.in-Some.value r.value.num r.value.den h.1 v) in cc), refl, refl)), c.value_line-line.ensures)

pub returns : goal.returns
returns c =
    let r = c.args.report.now in
    let h = rw c.tickets-tickets.ensures.value at c.in-Some.ensures in
    (h.0, (value-is c.args.game.now r.tickets.tickets c.in-Some.value r.value.num r.value.den h.1 c.den-lowest.ensures.reduced.positive (c.if-not-is_value.ensures.0 refl), tt))
