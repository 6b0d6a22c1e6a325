use Rattle.std.proofs.Common.{◌∙◌, ℕ, length, sym, arith, rules, subst, pos, slice_index_or, []}
use Rattle.std.specs.Int.{w128}
use Rattle.std.specs.Prelude.{FitsSigned}
use Rattle.std.proofs.lemmas.Int.{to_z-of_z}
use Rattle.sg_rows.specs.Rows.{dot_steps}
use Rattle.sg_rows.proofs.Fitting.{Ok-value}
use Rattle.sg_simplex.proofs.Rowwise.{AreMultiplied, all_multiplied, one_multiplied, one_stops, value_at}
use Rattle.sg_simplex.proofs.fitting.write_products.Goals as goal

pub returns-in-Err-clause-formed : goal.returns-in-Err-clause-formed
returns-in-Err-clause-formed c =
    let rows = c.args.state.now.tableau.rows in
    let m = c.loop-k.invariant in
    let long = c.requires.long in
    one_stops c.args.entries.now rows (length c.args.products.now) c.loop-k.products c.loop-k.k m (omega arith) c.in-Err.wide (sym c.in-Err.is ∙ c.product_at.ensures)

pub loop-k-preserved : goal.loop-k-preserved
loop-k-preserved c =
    let fv : FitsSigned w128 c.in-Ok.value = search rules in
    let rows = c.args.state.now.tableau.rows in
    let entries = c.args.entries.now in
    let m = c.loop-k.invariant in
    let k = c.loop-k.k in
    let long = c.requires.long in
    let e = sym c.in-Ok.is ∙ c.product_at.ensures in
    simp to_z-of_z (one_multiplied entries rows (length c.args.products.now) c.loop-k.products k m (omega arith) c.in-Ok.value (let l = m.long in omega arith) e (Ok-value (dot_steps (pos 0) (slice_index_or rows k []) entries) (value_at entries rows k) c.in-Ok.value e))

pub returns : goal.returns
returns c =
    let rows = c.args.state.now.tableau.rows in
    let m = subst (λ (n : ℕ). AreMultiplied c.args.entries.now rows n c.loop-k.products c.loop-k.k) c.requires.long c.loop-k.invariant in
    let a = all_multiplied c.args.entries.now rows c.loop-k.products c.loop-k.k m (let l = c.requires.long in omega arith) in
    record { formed = a.0; written = a.1 }
