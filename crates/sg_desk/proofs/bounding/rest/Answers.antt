use Rattle.std.proofs.Common.{◌≡◌, ◌∙◌, FitsSigned, ℕ, ◌*ℤ◌, arith}
use Rattle.std.specs.Int.{w128}
use Rattle.std.proofs.lemmas.Int.{ints, to_z-of_z}
use Rattle.sg_model.specs.Games.{attacker}
use Rattle.sg_model.specs.Payoffs.{shift_of}
use Rattle.sg_model.specs.Sums.{numbers, total}
use Rattle.sg_upper.proofs.Totals.{product-by, turned}
use Rattle.sg_desk.proofs.Opened.{rest-is}
use Rattle.sg_desk.proofs.bounding.rest.Goals as goal

pub returns : goal.returns
returns c =
    let g = c.args.game.now in
    let p : FitsSigned w128 c.priors_from-priors.result = record { sfits = c.priors_from-priors.type_inv } in
    let s : FitsSigned w128 c.from.result = record { sfits = c.from.type_inv } in
    let e = simp (to_z-of_z, p, s) at c.product.ensures.value in
    let shift : c.from.result ≡ shift_of g = omega (arith, ints, c.from.ensures, c.shift.ensures.shift) in
    let fixed = total (λ (l : ℕ). (attacker g l).prior) (numbers c.args.n) in
    let share : c.product.result ≡ shift_of g *ℤ fixed = product-by c.product.result c.priors_from-priors.result c.from.result _ _ e c.priors_from-priors.ensures.value shift ∙ turned fixed (shift_of g) in
    omega (arith, ints, share, c.product.ensures, c.open_worth.ensures, rest-is g c.args.caps c.args.n c.requires.some c.requires.few)
