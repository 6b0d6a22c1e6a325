use Rattle.std.proofs.Common.{◌∙◌, ap, arith, length, rules}
use Rattle.std.specs.Int.{w64}
use Rattle.std.specs.Prelude.{FitsSigned}
use Rattle.std.proofs.lemmas.Int.{to_z-of_z}
use Rattle.sg_rows.specs.Rows.{place}
use Rattle.sg_simplex_tests.specs.Tables.{TableView, column_number}
use Rattle.sg_simplex_tests.proofs.Held.{number-within}
use Rattle.sg_simplex_tests.proofs.table.TableFamily.cost.Goals as goal

pub cost_in-requires : goal.cost_in-requires
cost_in-requires c =
    let within = number-within c.args.self.now c.args.col.now c.requires in
    let long = ap length c.as_slice.ensures in
    let seen = ap (λ (v : TableView). length v.costs) c.self.view_is in
    omega (arith, within, long, seen)

pub returns : goal.returns
returns c =
    let fits : FitsSigned w64 c.cost_in.result = search rules in
    simp to_z-of_z (c.cost_in.ensures ∙ ap (λ xs. place xs (column_number c.args.col.now)) c.as_slice.ensures ∙ ap (λ (v : TableView). place v.costs (column_number c.args.col.now)) c.self.view_is)
