use Rattle.std.proofs.Common.{◌≡◌, ◌∙◌, ◌+◌, ◌++◌, ap, sym, subst, List, ℤ, arith, take, drop, slice_index_or}
use Rattle.std.specs.Int.{w128}
use Rattle.std.specs.Prelude.{FitsSigned, int_div}
use Rattle.std.proofs.lemmas.Int.{to_z-of_z}
use Rattle.sg_model.specs.declared.ticket.Ticket.{Ticket}
use Rattle.sg_model.specs.Commitments.{scaled}
use Rattle.sg_commit.specs.Joining.{no_ticket}
use Rattle.sg_commit.proofs.Shares.{divide_one}
use Rattle.sg_commit.proofs.joining.divide.Goals as goal

pub loop-i-preserved : goal.loop-i-preserved
loop-i-preserved c =
    let by_fits : FitsSigned w128 c.args.by = c.ranges.by in
    let w_fits : FitsSigned w128 c.weight_at.result = record { sfits = c.weight_at.type_inv } in
    let q_fits : FitsSigned w128 c.quotient-weight.result = record { sfits = c.quotient-weight.type_inv } in
    let old : List Ticket = c.args.tickets.now in
    let k : List Ticket = c.loop-i.tickets in
    let by : ℤ = c.args.by in
    let q : c.quotient-weight.result ≡ int_div c.weight_at.result by = simp to_z-of_z at c.quotient-weight.ensures in
    let is : c.quotient-weight.result ≡ int_div (slice_index_or k c.loop-i.i no_ticket).weight by = q ∙ ap (λ (z : ℤ). int_div z by) c.weight_at.ensures in
    let inv : scaled by (take c.loop-i.i k) ++ drop c.loop-i.i k ≡ old = simp to_z-of_z at c.loop-i.invariant in
    let new : c.set_weight.new.tickets ≡ _ = simp to_z-of_z at c.set_weight.ensures in
    let step = divide_one by k old c.loop-i.i c.quotient-weight.result (omega (arith, c.loop-i-test.true, c.loop-i.auto)) c.requires.by_positive c.requires.positive c.requires.divisor inv is in
    simp to_z-of_z (subst (λ (xs : List Ticket). scaled by (take (c.loop-i.i + 1) xs) ++ drop (c.loop-i.i + 1) xs ≡ old) (sym new) step)
