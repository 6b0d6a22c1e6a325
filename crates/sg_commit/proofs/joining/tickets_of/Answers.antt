use Rattle.std.proofs.Common.{◌≡◌, ◌≤◌, ◌∙◌, ap, sym, subst, length, List, arith, pos, ◌≤ℤ◌}
use Rattle.std.specs.Int.{w128}
use Rattle.std.specs.Prelude.{FitsSigned, int_div, unsigned_abs}
use Rattle.std.proofs.lemmas.Int.{ints, to_z-of_z}
use Rattle.std.proofs.lemmas.List.Sorted.{All-permutation}
use Rattle.sg_model.specs.declared.ticket.Ticket.{Ticket}
use Rattle.sg_model.specs.Commitments.{scaled, weight_total}
use Rattle.sg_model.proofs.Sums.{total-IsPermutation}
use Rattle.sg_commit.specs.Joining.{IsCommonDivisor, joined}
use Rattle.sg_commit.proofs.Joins.{positive-joined}
use Rattle.sg_commit.proofs.Shares.{IsMade, made, some-permuted, some_joined}
use Rattle.sg_model.proofs.Covers.{ArePositive}
use Rattle.sg_commit.proofs.joining.tickets_of.Goals as goal

pub gather-requires-clause-some : goal.gather-requires-clause-some
gather-requires-clause-some c = some-permuted c.args.parts.items c.sort.new.tickets.items c.requires.some c.sort.ensures.permutation

pub gather-requires-clause-positive : goal.gather-requires-clause-positive
gather-requires-clause-positive c = All-permutation (λ (x : Ticket). pos 1 ≤ℤ x.weight) c.args.parts.items c.sort.new.tickets.items c.sort.ensures.permutation c.requires.positive

pub gather-requires-clause-fits : goal.gather-requires-clause-fits
gather-requires-clause-fits c =
    let e : weight_total c.sort.new.tickets.items ≡ weight_total c.args.parts.items = total-IsPermutation (λ (x : Ticket). x.weight) c.args.parts.items c.sort.new.tickets.items c.sort.ensures.permutation in
    omega (arith, ints, e, c.requires.sum, c.ranges.total)

pub reduce-by-requires-clause-some : goal.reduce-by-requires-clause-some
reduce-by-requires-clause-some c =
    subst (λ (k : List Ticket). 1 ≤ length k) (sym c.gather.ensures)
    (some_joined c.sort.new.tickets.items (some-permuted c.args.parts.items c.sort.new.tickets.items c.requires.some c.sort.ensures.permutation))

pub reduce-by-requires-clause-positive : goal.reduce-by-requires-clause-positive
reduce-by-requires-clause-positive c =
    subst ArePositive (sym c.gather.ensures)
    (positive-joined c.sort.new.tickets.items (All-permutation (λ (x : Ticket). pos 1 ≤ℤ x.weight) c.args.parts.items c.sort.new.tickets.items c.sort.ensures.permutation c.requires.positive))

made_here : (c : goal.After-quotient) → IsMade c.args.parts.items c.from_vec.result c.quotient.result
made_here c =
    let total_fits : FitsSigned w128 c.args.total = c.ranges.total in
    let by_fits : FitsSigned w128 c.reduce-by.result = record { sfits = c.reduce-by.type_inv } in
    let q : c.quotient.result ≡ int_div c.args.total c.reduce-by.result = simp to_z-of_z at c.quotient.ensures in
    let divisor : IsCommonDivisor (joined c.sort.new.tickets.items) (unsigned_abs c.reduce-by.result) = subst (λ (k : List Ticket). IsCommonDivisor k (unsigned_abs c.reduce-by.result)) c.gather.ensures c.reduce-by.ensures.divisor in
    let same : scaled c.reduce-by.result c.from_vec.result ≡ joined c.sort.new.tickets.items =
    ap (scaled c.reduce-by.result) c.from_vec.ensures ∙ (c.reduce-by.ensures.tickets ∙ c.gather.ensures) in
    made c.args.parts.items c.sort.new.tickets.items c.from_vec.result c.reduce-by.result c.args.total c.quotient.result
    c.requires.some c.requires.positive c.requires.sum c.sort.ensures.permutation c.sort.ensures.sorted c.reduce-by.ensures.positive divisor same q

pub invariant_of-result : goal.invariant_of-result
invariant_of-result c =
    let fits : FitsSigned w128 c.quotient.result = record { sfits = c.quotient.type_inv } in
    simp to_z-of_z ((made_here c).committed)

pub returns : goal.returns
returns c = (made_here c).multiple
