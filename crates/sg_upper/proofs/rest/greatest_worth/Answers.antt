use Rattle.std.proofs.Common.{◌≡◌, ◌+◌, ℕ, FitsSigned, ◌*ℤ◌, ap, arith}
use Rattle.std.specs.Int.{w128}
use Rattle.std.proofs.lemmas.Int.{ints, to_z-of_z}
use Rattle.sg_model.specs.Games.{attacker}
use Rattle.sg_model.specs.Payoffs.{greatest_of}
use Rattle.sg_upper.proofs.Totals.{product-by, total-last}
use Rattle.sg_upper.proofs.rest.greatest_worth.Goals as goal

pub loop-i-preserved : goal.loop-i-preserved
loop-i-preserved c =
    let f : ℕ → _ = λ (k : ℕ). (attacker c.args.game.now k).prior *ℤ greatest_of c.args.game.now k in
    let p : FitsSigned w128 c.prior.result = record { sfits = c.prior.type_inv } in
    let m : FitsSigned w128 c.most.result = record { sfits = c.most.type_inv } in
    let e = simp (to_z-of_z, p, m) at c.product-worth.ensures.value in
    let term : c.product-worth.result ≡ f (c.loop-i.i + 1) = product-by c.product-worth.result c.prior.result c.most.result _ _ e c.prior.ensures.value c.most.ensures.value in
    let at : c.loop-i.i + 1 ≡ 1 + c.loop-i.i = omega arith in
    let more = total-last f 1 c.loop-i.i in
    record {
      sum = omega (arith, ints, more, term, ap f at, c.product-worth.ensures, c.loop-i.invariant.sum);
      low = omega (arith, ints, c.product-worth.ensures);
      high = omega (arith, ints, c.product-worth.ensures);
    }
