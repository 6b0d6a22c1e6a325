-- The row of a cap's bound.
use Rattle.std.proofs.Common.{ap, ◌∙◌}
use Rattle.sg_tree.specs.declared.report.Cap.{Cap}
use Rattle.sg_cert.specs.Text.{cap_row}
use Rattle.sg_report_laws.specs.Stops.{CapRowsSpell}

pub cap_rows_spell : CapRowsSpell
cap_rows_spell r l v fs row h =
    let c : Cap = h.0 in
    (c.l, h.4 ∙ (ap (λ w. cap_row (record { l = c.l; v = w; proof = c.proof })) h.2 ∙ ap (λ gs. cap_row (record { l = c.l; v = v; proof = gs })) h.3))
