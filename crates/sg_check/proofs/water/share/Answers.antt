use Rattle.std.proofs.Common.{◌∙◌, ◌^◌, ◌*ℤ◌, ap, arith, ℤ}
use Rattle.std.proofs.lemmas.Int.{ints}
use Rattle.sg_model.proofs.Spans.{Spans}
use Rattle.sg_check.proofs.Spans.{made, read}
use Rattle.sg_check.proofs.water.share.Goals as goal

pub overflow_mul-result : goal.overflow_mul-result
overflow_mul-result c =
    let p = c.requires.pays.multiple in
    let m : Spans (2 ^ 32) c.args.pays.now.multiple = record { low = omega (arith, ints, p.at_least); high = p.at_most } in
    let e : Spans (2 ^ 78) c.excess.result = record { low = c.excess.ensures.low; high = c.excess.ensures.high } in
    (made (2 ^ 32) (2 ^ 78) c.args.pays.now.multiple c.excess.result _ _ (read (2 ^ 32) c.args.pays.now.multiple (omega arith) m) (read (2 ^ 78) c.excess.result (omega arith) e) m e (omega arith)).fits

pub returns-clause-value : goal.returns-clause-value
returns-clause-value c =
    let p = c.requires.pays.multiple in
    let m : Spans (2 ^ 32) c.args.pays.now.multiple = record { low = omega (arith, ints, p.at_least); high = p.at_most } in
    let e : Spans (2 ^ 78) c.excess.result = record { low = c.excess.ensures.low; high = c.excess.ensures.high } in
    (made (2 ^ 32) (2 ^ 78) c.args.pays.now.multiple c.excess.result _ _ (read (2 ^ 32) c.args.pays.now.multiple (omega arith) m) (read (2 ^ 78) c.excess.result (omega arith) e) m e (omega arith)).value
    ∙ ap (λ (z : ℤ). c.args.pays.now.multiple *ℤ z) c.excess.ensures.value

pub returns-clause-high : goal.returns-clause-high
returns-clause-high c =
    let p = c.requires.pays.multiple in
    let m : Spans (2 ^ 32) c.args.pays.now.multiple = record { low = omega (arith, ints, p.at_least); high = p.at_most } in
    let e : Spans (2 ^ 78) c.excess.result = record { low = c.excess.ensures.low; high = c.excess.ensures.high } in
    let r = made (2 ^ 32) (2 ^ 78) c.args.pays.now.multiple c.excess.result _ _ (read (2 ^ 32) c.args.pays.now.multiple (omega arith) m) (read (2 ^ 78) c.excess.result (omega arith) e) m e (omega arith) in
    omega (arith, ints, r.value, r.spans.high)
