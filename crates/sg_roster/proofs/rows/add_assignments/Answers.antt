use Rattle.std.proofs.Common.{◌≡◌, ◌∙◌, ℕ, List, [], ◌∷◌, true, ap, sym, subst}
use Rattle.std.specs.Prelude.{OnOk}
use Rattle.sg_model.specs.Games.{is_kind_matrix, is_matrix}
use Rattle.sg_roster.specs.Writing.{AddsFields}
use Rattle.sg_roster.proofs.Rowed.{assignments-row}
use Rattle.sg_roster.proofs.rows.add_assignments.Goals as goal

pub returns-in-Matrix : goal.returns-in-Matrix
returns-in-Matrix c =
    let g = c.args.game.now in
    let matrix : is_matrix g ≡ true = ap is_kind_matrix (sym c.kind.ensures ∙ c.in-Matrix.is) in
    let shown = ap (λ (name : List ℕ). name ∷ []) (c.as_bytes.ensures.value ∙ c.row_name.ensures) in
    subst (λ (fields : List (List ℕ)). OnOk c.add_field.result (AddsFields c.args.writer.now c.add_field.new.writer fields)) (shown ∙ sym (assignments-row g c.args.code.now matrix)) c.add_field.ensures
