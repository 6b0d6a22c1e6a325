use Rattle.std.proofs.Common.{ℤ, ◌≡◌, inl, inr, refl, arith}
use Rattle.std.specs.Int.{w128}
use Rattle.std.specs.Prelude.{FitsSigned}
use Rattle.std.proofs.lemmas.Int.{ints, to_z-of_z}
use Rattle.sg_frac.proofs.Lowered.{fits_lowered}
use Rattle.sg_origami.proofs.filling.lowest_terms.Goals as goal

pub unreachable-requires : goal.unreachable-requires
unreachable-requires c =
    let r = c.den.ensures.range in
    let num : ℤ = c.num.result in
    let den : ℤ = c.den.result in
    let a : FitsSigned w128 num = record { sfits = c.num.type_inv } in
    let b : FitsSigned w128 den = record { sfits = c.den.type_inv } in
    let h = simp to_z-of_z at c.in-None.ensures.none in
    elim (h.0 refl) [
      | inl zero ↦ absurd (omega (arith, ints, r.den.at_least, c.den.ensures.value, zero))
      | inr wide ↦ fits_lowered num den (omega (arith, ints, r.den.at_least, c.den.ensures.value)) a b wide
    ]
