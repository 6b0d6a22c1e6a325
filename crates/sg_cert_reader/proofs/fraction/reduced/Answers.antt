use Rattle.std.proofs.Common.{◌∙◌, sym, refl}
use Rattle.std.specs.Prelude.{FitsSigned}
use Rattle.std.specs.Int.{w128}
use Rattle.std.proofs.lemmas.Int.{to_z-of_z}
use Rattle.sg_cert_reader.proofs.Fractions.{reduced_some, reduced_none}
use Rattle.sg_cert_reader.proofs.fraction.reduced.Goals as goal

pub returns-in-Some : goal.returns-in-Some
returns-in-Some c =
    let n : FitsSigned w128 c.args.num = c.ranges.num in
    let d : FitsSigned w128 c.args.den = c.ranges.den in
    let u = simp to_z-of_z at c.unsigned_abs.ensures.value in
    let v = simp to_z-of_z at c.unsigned_abs-2.ensures.value in
    let form = simp to_z-of_z at c.in-Some.ensures.value in
    reduced_some c.args.num c.args.den c.unsigned_abs.result c.unsigned_abs-2.result c.in-Some.fraction u v c.requires (sym c.has_common.ensures ∙ c.if-has_common.false) form

pub returns-in-None : goal.returns-in-None
returns-in-None c =
    let n : FitsSigned w128 c.args.num = c.ranges.num in
    let d : FitsSigned w128 c.args.den = c.ranges.den in
    let u = simp to_z-of_z at c.unsigned_abs.ensures.value in
    let v = simp to_z-of_z at c.unsigned_abs-2.ensures.value in
    let wide = simp to_z-of_z at c.in-None.ensures.none in
    reduced_none c.args.num c.args.den c.unsigned_abs.result c.unsigned_abs-2.result u v c.requires n d (sym c.has_common.ensures ∙ c.if-has_common.false) (wide.0 refl)
