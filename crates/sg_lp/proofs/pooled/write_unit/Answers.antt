use Rattle.std.proofs.Common.{length, pos, arith, rules}
use Rattle.std.specs.Int.{w128}
use Rattle.std.specs.Prelude.{FitsSigned}
use Rattle.std.proofs.lemmas.Int.{to_z-of_z}
use Rattle.std.proofs.lemmas.List.FromFn.{fill_by_all}
use Rattle.sg_linear.specs.Sums.{unit}
use Rattle.sg_lp.proofs.Ranges.{place_written}
use Rattle.sg_lp.proofs.pooled.write_unit.Goals as goal

pub loop-j-preserved : goal.loop-j-preserved
loop-j-preserved c =
    let fv : FitsSigned w128 c.one_at.result = search rules in
    let m = c.loop-j.invariant in
    simp to_z-of_z (place_written (unit c.args.i) (length c.args.places.now) c.loop-j.places c.loop-j.j c.one_at.result m.0 m.1 (let e = m.0 in omega arith) c.one_at.ensures)

pub returns : goal.returns
returns c = let m = c.loop-j.invariant in fill_by_all (unit c.args.i) c.loop-j.places (length c.args.places.now) (pos 0) m.0 (λ k h. m.1 k (omega arith))
