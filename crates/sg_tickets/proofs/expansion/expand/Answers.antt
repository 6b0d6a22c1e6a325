use Rattle.std.proofs.Common.{◌≡◌, ◌<◌, ◌≤ℤ◌, All, List, ap, arith, length, pos, rules, subst, sym, ℕ, ℤ}
use Rattle.std.specs.Prelude.{unsigned_abs}
use Rattle.std.proofs.lemmas.Int.{ints}
use Rattle.sg_model.specs.Commitments.{weight_total}
use Rattle.sg_model.proofs.Covers.{weight_total-nonneg}
use Rattle.sg_tickets.proofs.Listing.{counted, known}
use Rattle.sg_tickets.proofs.expansion.expand.Goals as goal

pub overflow_cast-total : goal.overflow_cast-total
overflow_cast-total c =
    let rules_of = c.tickets-tickets.ensures.rules in
    let low = weight_total-nonneg _ rules_of.positive in
    grind (arith, ints, low, rules_of.sum, c.total-total.ensures)

pub listed-requires-clause-total : goal.listed-requires-clause-total
listed-requires-clause-total c =
    let rules_of = c.tickets-tickets.ensures.rules in
    let low = weight_total-nonneg _ rules_of.positive in
    omega (arith, ints, low, rules_of.sum, c.total-total.ensures, ap weight_total c.tickets-tickets.ensures.value)

pub listed-requires-clause-few : goal.listed-requires-clause-few
listed-requires-clause-few c =
    let rules_of = c.tickets-tickets.ensures.rules in
    let low = weight_total-nonneg _ rules_of.positive in
    omega (arith, ints, low, rules_of.sum, c.total-total.ensures)

pub returns-in-Ok-clause-known : goal.returns-in-Ok-clause-known
returns-in-Ok-clause-known c =
    let k = c.tickets-tickets.result.now in
    let all : All (λ i. i < length k) c.in-Ok.list.items = subst (All (λ i. i < length k)) (sym c.in-Ok.ensures) (known k) in
    λ i d lt. omega (arith, all i d lt, ap length c.tickets-tickets.ensures.value)
