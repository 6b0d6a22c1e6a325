use Rattle.std.proofs.Common.{◌∙◌, length, pos, arith, rules}
use Rattle.std.specs.Int.{w64}
use Rattle.std.specs.Prelude.{FitsSigned}
use Rattle.std.proofs.lemmas.Int.{to_z-of_z}
use Rattle.std.proofs.lemmas.List.FromFn.{fill_by_all}
use Rattle.sg_lp.specs.declared.column.Enter.TheVariants.{Col}
use Rattle.sg_lp.specs.Programs.{member_entry}
use Rattle.sg_lp.proofs.Ranges.{place_written}
use Rattle.sg_dual.proofs.share.write_entries.Goals as goal

pub loop-j-preserved : goal.loop-j-preserved
loop-j-preserved g c =
    let fv : FitsSigned w64 c.entry.result = search rules in
    let m = c.loop-j.invariant in
    simp to_z-of_z (place_written (member_entry (g.F.Family.program c.args.family.now) (Col c.args.col.now)) (length c.args.entries.now) c.loop-j.entries c.loop-j.j c.entry.result m.0 m.1 (let e = m.0 in omega arith) c.entry.ensures)

pub returns : goal.returns
returns g c =
    let m = c.loop-j.invariant in
    let p = g.F.Family.program c.args.family.now in
    let long = c.requires.long in
    fill_by_all (member_entry p (Col c.args.col.now)) c.loop-j.entries p.height (pos 0) (m.0 ∙ long) (λ k h. m.1 k (let e = m.0 in omega arith))
