use Rattle.std.proofs.Common.{rules, FitsSigned, refl, inl, inr, arith}
use Rattle.std.specs.Int.{w128}
use Rattle.std.proofs.lemmas.Int.{ints, to_z-of_z}
use Rattle.sg_num.proofs.Steps.{fits-from_FitsSigned}
use Rattle.sg_frac.proofs.Steps.{not_wide_of_fits}
use Rattle.sg_lanes.proofs.bound.quotient.Goals as goal

pub unreachable-requires : goal.unreachable-requires
unreachable-requires c =
    let n : FitsSigned w128 c.args.num = search rules in
    let d : FitsSigned w128 c.args.den = search rules in
    let none = simp to_z-of_z at c.in-None.ensures.none in
    elim (none.0 refl) [
      | inl e ↦ omega (arith, ints, e, c.requires)
      | inr w ↦ not_wide_of_fits c.args.num c.args.den c.requires (fits-from_FitsSigned _ n) (fits-from_FitsSigned _ d) w
    ]
