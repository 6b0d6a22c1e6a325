use Rattle.std.proofs.Common.{◌≡◌, ◌∙◌, FitsSigned, ℕ, ◌*ℤ◌, arith}
use Rattle.std.specs.Int.{w128}
use Rattle.std.proofs.lemmas.Int.{ints, to_z-of_z}
use Rattle.sg_model.specs.Games.{attacker}
use Rattle.sg_model.specs.Payoffs.{shift_of}
use Rattle.sg_model.specs.Sums.{numbers, total}
use Rattle.sg_upper.proofs.Totals.{product-by, turned}
use Rattle.sg_upper.proofs.rest.rest.Goals as goal

pub returns : goal.returns
returns c =
    let p : FitsSigned w128 c.fixed_priors.result = record { sfits = c.fixed_priors.type_inv } in
    let s : FitsSigned w128 c.from-shift.result = record { sfits = c.from-shift.type_inv } in
    let e = simp (to_z-of_z, p, s) at c.product.ensures.value in
    let shift : c.from-shift.result ≡ shift_of c.args.game.now = omega (arith, ints, c.from-shift.ensures, c.shift.ensures.shift) in
    let fixed = total (λ (l : ℕ). (attacker c.args.game.now l).prior) (numbers c.args.n) in
    let share : c.product.result ≡ shift_of c.args.game.now *ℤ fixed = product-by c.product.result c.fixed_priors.result c.from-shift.result _ _ e c.fixed_priors.ensures.value shift ∙ turned fixed (shift_of c.args.game.now) in
    record { value = omega (arith, ints, share, c.product.ensures, c.open_worth.ensures) }
