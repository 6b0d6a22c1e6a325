use Rattle.std.proofs.Common.{refl, inl, inr, arith}
use Rattle.std.proofs.lemmas.Int.{ints}
use Rattle.sg_check.proofs.Totals.{divided_by, lowest_by}
use Rattle.sg_check.proofs.tickets.test_total.Goals as goal

pub returns-in-None : goal.returns-in-None
returns-in-None c = (2, inl (rw c.tickets-tickets.ensures.value at c.in-None.ensures, refl, refl), refl)

pub returns-then-total : goal.returns-then-total
returns-then-total c =
    let h = rw c.tickets-tickets.ensures.value at c.in-Some.ensures in
    (2, inr (h.0, inl ((λ e. c.if-total.true (cc)), refl, refl)), refl)

pub returns-then-common_divisor-ne1 : goal.returns-then-common_divisor-ne1
returns-then-common_divisor-ne1 c =
    let h = rw c.tickets-tickets.ensures.value at c.in-Some.ensures in
    let d = rw c.tickets-tickets.ensures.value at c.common_divisor.ensures.divides in
    (2, inr (h.0, inr (omega (arith, ints, h.1, c.if-total.false, c.total.ensures), inl ((λ low. c.if-common_divisor-ne1.true (divided_by _ _ low d)), refl, refl))), refl)

pub returns : goal.returns
returns c =
    let h = rw c.tickets-tickets.ensures.value at c.in-Some.ensures in
    let d = rw c.tickets-tickets.ensures.value at c.common_divisor.ensures.greatest in
    (h.0, (omega (arith, ints, h.1, c.if-total.false, c.total.ensures), (lowest_by _ _ c.if-common_divisor-ne1.false d, tt)))
