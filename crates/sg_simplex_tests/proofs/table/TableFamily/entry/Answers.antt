use Rattle.std.proofs.Common.{◌∙◌, List, [], ap, arith, length, rules, slice_index_or}
use Rattle.std.specs.Int.{w64}
use Rattle.std.specs.Prelude.{FitsSigned, ℤ}
use Rattle.std.proofs.lemmas.Int.{to_z-of_z}
use Rattle.sg_rows.specs.Rows.{place}
use Rattle.sg_simplex_tests.specs.Tables.{TableView, column_number}
use Rattle.sg_simplex_tests.proofs.Held.{number-within, table-by}
use Rattle.sg_simplex_tests.proofs.table.TableFamily.entry.Goals as goal

pub entry_in-requires-clause-column : goal.entry_in-requires-clause-column
entry_in-requires-clause-column c =
    let s = c.self.inside in
    let within = number-within c.args.self.now c.args.col.now c.requires.listed in
    let is = table-by c.args.self.now (record { height = s.height; costs = s.costs; entries = s.entries }) c.self.view_is c.self.invariant in
    let many = is.many in
    let long = ap length c.as_slice.ensures in
    let seen = ap (λ (v : TableView). length v.entries) c.self.view_is in
    omega (arith, within, long, seen, many)

pub entry_in-requires-clause-inside : goal.entry_in-requires-clause-inside
entry_in-requires-clause-inside c =
    let s = c.self.inside in
    let k = column_number c.args.col.now in
    let within = number-within c.args.self.now c.args.col.now c.requires.listed in
    let is = table-by c.args.self.now (record { height = s.height; costs = s.costs; entries = s.entries }) c.self.view_is c.self.invariant in
    let column = is.columns k within in
    let long = column.long in
    let there = ap (λ (xs : List (List ℤ)). length (slice_index_or xs k [])) c.as_slice.ensures in
    let seen = ap (λ (v : TableView). length (slice_index_or v.entries k [])) c.self.view_is in
    let below = c.requires.below in
    omega (arith, there, seen, long, below)

pub returns : goal.returns
returns c =
    let k = column_number c.args.col.now in
    let fits : FitsSigned w64 c.entry_in.result = search rules in
    simp to_z-of_z (c.entry_in.ensures ∙ ap (λ (xs : List (List ℤ)). place (slice_index_or xs k []) c.args.row) c.as_slice.ensures ∙ ap (λ (v : TableView). place (slice_index_or v.entries k []) c.args.row) c.self.view_is)
