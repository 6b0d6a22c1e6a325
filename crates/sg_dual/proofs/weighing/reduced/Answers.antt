use Rattle.std.proofs.Common.{◌≡◌, rules, FitsSigned, arith}
use Rattle.std.specs.Int.{w128}
use Rattle.std.specs.Prelude.{unsigned_abs}
use Rattle.std.proofs.lemmas.Int.{to_z-of_z}
use Rattle.std.proofs.lemmas.Nat.Gcd.{same_from_IsGcd}
use Rattle.sg_num.proofs.Divisors.{some_from_IsGcd}
use Rattle.sg_programs.specs.Points.{gcd_of}
use Rattle.sg_programs.proofs.Multiples.{common_divisor, den-some}
use Rattle.sg_dual.proofs.Shared.{quotient-is}
use Rattle.sg_dual.proofs.weighing.reduced.Goals as goal

pub nonzero_div-whole : goal.nonzero_div-whole
nonzero_div-whole c =
    let den : FitsSigned w128 c.args.den = search rules in
    let is : c.unsigned_abs.result ≡ unsigned_abs c.args.den = simp to_z-of_z at c.unsigned_abs.ensures.value in
    let some = den-some c.args.den c.requires.den in
    some_from_IsGcd c.unsigned_abs-whole.result c.unsigned_abs.result c.gcd-divisor.result c.gcd-divisor.ensures (omega (arith, is, some))

pub returns : goal.returns
returns c =
    let multiple : FitsSigned w128 c.args.multiple = search rules in
    let den : FitsSigned w128 c.args.den = search rules in
    let result : FitsSigned w128 c.signed.result = search rules in
    let is : c.unsigned_abs.result ≡ unsigned_abs c.args.den = simp to_z-of_z at c.unsigned_abs.ensures.value in
    let whole : c.unsigned_abs-whole.result ≡ unsigned_abs c.args.multiple = simp to_z-of_z at c.unsigned_abs-whole.ensures.value in
    let divisor : c.gcd-divisor.result ≡ gcd_of c.unsigned_abs-whole.result c.unsigned_abs.result =
    same_from_IsGcd c.unsigned_abs-whole.result c.unsigned_abs.result _ _ c.gcd-divisor.ensures (common_divisor c.unsigned_abs-whole.result c.unsigned_abs.result) in
    simp to_z-of_z (quotient-is gcd_of c.signed.result c.unsigned_abs-whole.result c.unsigned_abs.result c.gcd-divisor.result (unsigned_abs c.args.multiple) (unsigned_abs c.args.den) c.signed.ensures whole is divisor)
