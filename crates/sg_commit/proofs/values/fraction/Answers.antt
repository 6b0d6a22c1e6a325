use Rattle.std.proofs.Common.{arith, refl, inl, inr}
use Rattle.std.specs.Int.{w128}
use Rattle.std.specs.Prelude.{FitsSigned}
use Rattle.std.proofs.lemmas.Int.{ints, to_z-of_z}
use Rattle.sg_frac.proofs.Lowered.{fits_lowered}
use Rattle.sg_commit.proofs.values.fraction.Goals as goal

pub unreachable-requires : goal.unreachable-requires
unreachable-requires c =
    let num_fits : FitsSigned w128 c.args.num = c.ranges.num in
    let den_fits : FitsSigned w128 c.args.den = c.ranges.den in
    let none = simp to_z-of_z at ((c.in-None.ensures).none.0 refl) in
    elim none [ inl zero ↦ absurd (omega (arith, ints, c.requires, zero)) | inr wide ↦ fits_lowered c.args.num c.args.den c.requires num_fits den_fits wide ]
