-- Lines of reports, and what reading says of them, by hand.
use Rattle.std.specs.Prelude.{◌≡◌, Some, Ok, Err, pos, codes}
use Rattle.sg_tree.specs.declared.fact.Line.{Line}
use Rattle.sg_tree.specs.declared.fact.Mark.{Mark}
use Rattle.sg_cert.specs.Fields.{fields}
use Rattle.sg_cert.specs.LineReading.{mark_of, multiplier_of, verdict_of}
use Rattle.sg_cert.specs.Place.{Place}
use Rattle.sg_cert.specs.Reading.{deep_from, fact_from}

-- a mark of type 1 and its action 2, and a multiplier of row 5
abbrev pub one_mark : Mark
one_mark = record { l = 1; a = 2; v = pos 1 }

abbrev pub one_line : Line
one_line = record { row = 5; v = pos 1 }

-- Lines that rise strictly, and one that is as the line before. A count that is no number, or below 0, only has to be there. A first word that no fact has.
-- A ninth split is refused for its line before it is for its depth.
pub record WorkedLines : Type 0 where
  pub next_mark : mark_of (Some one_mark) (fields (codes "m 1 3 1")) ≡ Ok (record { l = 1; a = 3; v = pos 1 })
  pub same_mark : mark_of (Some one_mark) (fields (codes "m 1 2 1")) ≡ Err 7
  pub next_row : multiplier_of (Some one_line) (fields (codes "c 6 1")) ≡ Ok (record { row = 6; v = pos 1 })
  pub same_row : multiplier_of (Some one_line) (fields (codes "c 5 1")) ≡ Err 7
  pub unspelled_count : verdict_of (fields (codes "verdict gap pivots 1 1 x")) ≡ Err 5
  pub negative_count : verdict_of (fields (codes "verdict gap pivots 1 1 -1")) ≡ Err 6
  pub no_count : verdict_of (fields (codes "verdict gap pivots 1 1")) ≡ Err 4
  pub other_fact : (p : Place) → fact_from (fields (codes "fact 1 2 0")) p ≡ Err (record { line = p.line; reason = 3 })
  pub wrong_ninth : (p : Place) → deep_from (fields (codes "split 9 1")) p ≡ Err (record { line = p.line; reason = 6 })
  pub ninth : (p : Place) → deep_from (fields (codes "split 1 1")) p ≡ Err (record { line = p.line; reason = 8 })
