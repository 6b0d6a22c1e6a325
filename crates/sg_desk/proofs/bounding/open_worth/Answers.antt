use Rattle.std.proofs.Common.{◌≡◌, ◌+◌, ℕ, FitsSigned, ◌*ℤ◌, ap, arith}
use Rattle.std.specs.Int.{w128}
use Rattle.std.proofs.lemmas.Int.{ints, to_z-of_z}
use Rattle.sg_model.specs.Games.{attacker}
use Rattle.sg_upper.proofs.Totals.{product-by, total-last}
use Rattle.sg_desk.specs.Bounding.{end_cap}
use Rattle.sg_desk.proofs.bounding.open_worth.Goals as goal

pub loop-i-preserved : goal.loop-i-preserved
loop-i-preserved c =
    let f : ℕ → _ = λ (k : ℕ). (attacker c.args.game.now k).prior *ℤ end_cap c.args.game.now c.args.caps k in
    let p : FitsSigned w128 c.from.result = record { sfits = c.from.type_inv } in
    let m : FitsSigned w128 c.cap.result = record { sfits = c.cap.type_inv } in
    let e = simp (to_z-of_z, p, m) at c.product-worth.ensures.value in
    let at : c.args.n + c.loop-i.i + 1 ≡ c.args.n + 1 + c.loop-i.i = omega arith in
    let prior : c.from.result ≡ (attacker c.args.game.now (c.args.n + c.loop-i.i + 1)).prior = omega (arith, ints, c.from.ensures, c.prior.ensures.prior) in
    let term : c.product-worth.result ≡ f (c.args.n + c.loop-i.i + 1) = product-by c.product-worth.result c.from.result c.cap.result _ _ e prior c.cap.ensures.value in
    let more = total-last f (c.args.n + 1) c.loop-i.i in
    record {
      sum = omega (arith, ints, more, term, ap f at, c.product-worth.ensures, c.loop-i.invariant.sum);
      low = omega (arith, ints, c.product-worth.ensures, c.loop-i.invariant.low);
      high = omega (arith, ints, c.product-worth.ensures, c.loop-i.invariant.high);
    }
