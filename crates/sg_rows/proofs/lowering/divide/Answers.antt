use Rattle.std.proofs.Common.{◌<◌, length, arith, rules, pos, subst, sym}
use Rattle.std.specs.Int.{w128, ◌∣◌}
use Rattle.std.specs.Prelude.{FitsSigned, ℤ, unsigned_abs}
use Rattle.std.proofs.lemmas.Int.{to_z-of_z}
use Rattle.sg_rows.proofs.Placewise.{QuotientAt, all_quotients, more_written}
use Rattle.sg_rows.proofs.lowering.divide.Goals as goal

pub divided_at-quotient-requires-clause-divides : goal.divided_at-quotient-requires-clause-divides
divided_at-quotient-requires-clause-divides c =
    let m = c.loop-j.invariant in
    let long = m.long in
    let within : c.loop-j.j < length c.args.row.now = omega arith in
    subst (λ (x : ℤ). c.args.divisor ∣ unsigned_abs x) (sym (m.left c.loop-j.j (omega arith))) (c.requires.divides c.loop-j.j (pos 0) within)

pub loop-j-preserved : goal.loop-j-preserved
loop-j-preserved c =
    let fv : FitsSigned w128 c.divided_at-quotient.result = search rules in
    let m = c.loop-j.invariant in
    let value = c.divided_at-quotient.ensures in
    let here = m.left c.loop-j.j (omega arith) in
    simp to_z-of_z (more_written (QuotientAt c.args.divisor c.args.row.now) c.args.row.now c.loop-j.row c.loop-j.j c.divided_at-quotient.result m (let long = m.long in omega arith) (rw here at value))

pub returns : goal.returns
returns c = all_quotients c.args.divisor c.args.row.now c.loop-j.row c.loop-j.j c.loop-j.invariant (let long = c.loop-j.invariant.long in omega arith)
