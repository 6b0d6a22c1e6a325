use Rattle.std.proofs.Common.{◌≡◌, ◌+◌, ℕ, FitsSigned, ◌*ℤ◌, ap, arith}
use Rattle.std.specs.Int.{w128}
use Rattle.std.proofs.lemmas.Int.{ints, to_z-of_z}
use Rattle.sg_model.specs.Games.{attacker}
use Rattle.sg_bounds.specs.Caps.{cap_of}
use Rattle.sg_upper.proofs.Totals.{product-by, total-last}
use Rattle.sg_upper.proofs.rest.open_worth.Goals as goal

pub loop-i-preserved : goal.loop-i-preserved
loop-i-preserved c =
    let f : ℕ → _ = λ (k : ℕ). (attacker c.args.game.now k).prior *ℤ (cap_of c.args.caps.now k).v in
    let p : FitsSigned w128 c.prior.result = record { sfits = c.prior.type_inv } in
    let m : FitsSigned w128 c.cap_at.result = record { sfits = c.cap_at.type_inv } in
    let e = simp (to_z-of_z, p, m) at c.product-worth.ensures.value in
    let at : c.args.n + c.loop-i.i + 1 ≡ c.args.n + 1 + c.loop-i.i = omega arith in
    let term : c.product-worth.result ≡ f (c.args.n + c.loop-i.i + 1) = product-by c.product-worth.result c.prior.result c.cap_at.result _ _ e c.prior.ensures.value c.cap_at.ensures.value in
    let more = total-last f (c.args.n + 1) c.loop-i.i in
    record {
      sum = omega (arith, ints, more, term, ap f at, c.product-worth.ensures, c.loop-i.invariant.sum);
      low = omega (arith, ints, c.product-worth.ensures);
      high = omega (arith, ints, c.product-worth.ensures);
    }
