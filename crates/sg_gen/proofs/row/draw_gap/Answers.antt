use Rattle.std.proofs.Common.{◌≡◌, ℕ, ◌+◌, ◌*◌, ◌^◌, ◌%◌, ◌≤◌, arith, lit<}
use Rattle.std.specs.Int.{w64}
use Rattle.std.proofs.Math.Nat.{pow-le-pow_right}
use Rattle.std.proofs.lemmas.Int.{ints, to_z_pos}
use Rattle.sg_gen.proofs.row.draw_gap.Goals as goal

pub returns-clause-high : goal.returns-clause-high
returns-clause-high c =
    let n : ℕ = 10 + c.draw.result % 11 in
    let le : n ≤ 20 = omega arith in
    let p : 2 ^ n ≤ 2 ^ 20 = pow-le-pow_right {n = 2} (lit< tt) le in
    let e : 1 * 2 ^ n % 18446744073709551616 ≡ 2 ^ n = omega (arith, p) in
    rw e (rw (to_z_pos w64 (2 ^ n) (omega (arith, p))) (omega (arith, ints, p)))
