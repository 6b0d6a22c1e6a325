use Rattle.std.proofs.Common.{◌≡◌, ◌<◌, ◌^◌, ◌∙◌, ap, subst, sym, ℤ, pos, arith, slice_index_or, to_z, ◌≤ℤ◌}
use Rattle.std.specs.Int.{w128}
use Rattle.std.specs.Prelude.{FitsSigned, unsigned_abs}
use Rattle.std.proofs.lemmas.Int.{ints, to_z-of_z}
use Rattle.sg_commit.specs.Joining.{IsCommonDivisor, no_ticket}
use Rattle.sg_commit.proofs.Shares.{first_divisor, more_divisor, divisor_range, all_of}
use Rattle.sg_commit.proofs.joining.common_divisor.Goals as goal

pub loop-i-init : goal.loop-i-init
loop-i-init c =
    let fits : FitsSigned w128 c.weight_at.result = record { sfits = c.weight_at.type_inv } in
    let e : c.unsigned_abs-divisor.result ≡ unsigned_abs c.weight_at.result = simp to_z-of_z at c.unsigned_abs-divisor.ensures.value in
    first_divisor c.args.tickets.now c.unsigned_abs-divisor.result (omega (arith, c.requires.some)) (e ∙ ap unsigned_abs c.weight_at.ensures)

pub loop-i-preserved : goal.loop-i-preserved
loop-i-preserved c =
    let fits : FitsSigned w128 c.weight_at-in-loop-i.result = record { sfits = c.weight_at-in-loop-i.type_inv } in
    let e : c.unsigned_abs.result ≡ unsigned_abs c.weight_at-in-loop-i.result = simp to_z-of_z at c.unsigned_abs.ensures.value in
    more_divisor c.args.tickets.now c.loop-i.i c.loop-i.divisor c.unsigned_abs.result c.gcd-divisor.result c.loop-i-test.true c.loop-i.invariant (e ∙ ap unsigned_abs c.weight_at-in-loop-i.ensures) c.gcd-divisor.ensures

-- it divides the first weight
range : (c : goal.After-loop-i) → (0 < c.loop-i.divisor) × (c.loop-i.divisor < 2 ^ 127)
range c =
    let whole = all_of c.args.tickets.now c.loop-i.i c.loop-i.divisor c.loop-i-test.false c.loop-i.invariant in
    let r = divisor_range c.args.tickets.now c.loop-i.divisor (omega (arith, c.requires.some)) c.requires.positive whole in
    let fits : FitsSigned w128 c.weight_at.result = record { sfits = c.weight_at.type_inv } in
    let e : unsigned_abs c.weight_at.result ≡ unsigned_abs (slice_index_or c.args.tickets.now 0 no_ticket).weight = ap unsigned_abs c.weight_at.ensures in
    let low : pos 1 ≤ℤ c.weight_at.result = omega (arith, ints, c.weight_at.ensures, c.requires.positive 0 no_ticket (omega (arith, c.requires.some))) in
    (r.0, omega (arith, ints, r.1, e, low, c.weight_at.type_inv))

as_signed : (c : goal.After-loop-i) → to_z w128 c.loop-i.divisor ≡ pos c.loop-i.divisor
as_signed c = let r = range c in omega (arith, ints, r.1)

pub overflow_cast-result : goal.overflow_cast-result
overflow_cast-result c = let r = range c in omega (arith, ints, r.1)

pub returns-clause-positive : goal.returns-clause-positive
returns-clause-positive c = let r = range c in let e = as_signed c in omega (arith, ints, r.0, e)

pub returns-clause-divisor : goal.returns-clause-divisor
returns-clause-divisor c =
    let whole = all_of c.args.tickets.now c.loop-i.i c.loop-i.divisor c.loop-i-test.false c.loop-i.invariant in
    subst (λ (z : ℤ). IsCommonDivisor c.args.tickets.now (unsigned_abs z)) (sym (as_signed c)) whole
