use Rattle.std.proofs.Common.{ℕ, [], ◌∷◌, ◌++◌, arith, rules, subst}
use Rattle.std.specs.Int.{w128, ◌∣◌}
use Rattle.std.specs.Prelude.{FitsSigned}
use Rattle.std.proofs.lemmas.Int.{to_z-of_z}
use Rattle.std.proofs.lemmas.Nat.Gcd.{dvd_trans}
use Rattle.sg_rows.proofs.Commons.{common-with, large_lowest, quotients-with, small_lowest}
use Rattle.sg_rows.proofs.lowering.primitive_with.Goals as goal

pub divide-requires-clause-divides : goal.divide-requires-clause-divides
divide-requires-clause-divides c = λ k d h. dvd_trans c.gcd-common.result c.gcd-common.ensures.0 (c.common_divisor.ensures.divides k d h)

pub divided-requires-clause-divides : goal.divided-requires-clause-divides
divided-requires-clause-divides c =
    let fl : FitsSigned w128 c.args.last = c.ranges.last in
    let w = simp to_z-of_z at c.unsigned_abs.ensures.value in
    simp to_z-of_z (subst (λ (n : ℕ). c.gcd-common.result ∣ n) w c.gcd-common.ensures.1)

pub returns-then-common-gt1 : goal.returns-then-common-gt1
returns-then-common-gt1 c =
    let fl : FitsSigned w128 c.args.last = c.ranges.last in
    let fu : FitsSigned w128 c.divided.result = search rules in
    let w = simp to_z-of_z at c.unsigned_abs.ensures.value in
    let value = simp to_z-of_z at c.divided.ensures in
    let common = common-with c.args.row.now c.args.last c.common_divisor.result c.gcd-common.result c.unsigned_abs.result c.common_divisor.ensures w c.gcd-common.ensures in
    simp to_z-of_z (large_lowest c.gcd-common.result (c.args.row.now ++ (c.args.last ∷ [])) (c.divide.new.row ++ (c.divided.result ∷ [])) common (omega arith)
    (quotients-with c.gcd-common.result c.args.row.now c.divide.new.row c.args.last c.divided.result c.divide.ensures value))

pub returns-else-common-gt1 : goal.returns-else-common-gt1
returns-else-common-gt1 c =
    let fl : FitsSigned w128 c.args.last = c.ranges.last in
    let w = simp to_z-of_z at c.unsigned_abs.ensures.value in
    let common = common-with c.args.row.now c.args.last c.common_divisor.result c.gcd-common.result c.unsigned_abs.result c.common_divisor.ensures w c.gcd-common.ensures in
    simp to_z-of_z (small_lowest c.gcd-common.result (c.args.row.now ++ (c.args.last ∷ [])) common (omega arith))
