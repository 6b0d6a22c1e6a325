use Rattle.std.proofs.Common.{◌∙◌, ◌∷◌, ℕ, List, subst}
use Rattle.sg_roster.specs.Rows.{assignments}
use Rattle.sg_roster.specs.Writing.{WritesRow}
use Rattle.sg_roster.proofs.Rowed.{number_shows, row_written}
use Rattle.sg_roster.proofs.rows.write_day.Goals as goal

pub begin_row-requires-clause-some : goal.begin_row-requires-clause-some
begin_row-requires-clause-some c = number_shows c.args.day c.as_bytes.result.now c.ranges.day.fits (c.as_bytes.ensures.value ∙ c.format.ensures.text)

pub returns : goal.returns
returns c =
    let is = c.as_bytes.ensures.value ∙ c.format.ensures.text in
    let told : List (List ℕ) = assignments c.args.game.now c.args.code.now in
    subst (λ (day : List ℕ). WritesRow c.args.writer.now c.end_row.new.writer (day ∷ told)) is
    (row_written c.args.writer.now c.begin_row.new.writer c.add_assignments.new.writer c.end_row.new.writer c.as_bytes.result.now told
    (number_shows c.args.day c.as_bytes.result.now c.ranges.day.fits is) c.in_ok-begin_row.ensures c.in_ok-add_assignments.ensures c.in_ok-end_row.ensures)
