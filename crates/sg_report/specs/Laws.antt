-- Laws about tables, and tables worked out by hand.
use Rattle.std.specs.Prelude.{◌≡◌, ℕ, List, [], ◌∷◌, ◌++◌, codes, pos}
use Rattle.sg_model.specs.declared.ticket.Ticket.{Ticket}
use Rattle.sg_model.specs.Games.{Game}
use Rattle.sg_model.specs.Commitments.{IsCommitment}
use Rattle.sg_model.specs.Limits.{IsGame}
use Rattle.sg_model.specs.Examples.{one_player, row_mix, two_players, two_targets, two_tickets}
use Rattle.sg_frac.specs.Fractions.{Fraction}
use Rattle.sg_report.specs.Tables.{IsReportTable}

-- two tables of a commitment with one upper bound are the same text
abbrev pub TableIsOne : Type 0
TableIsOne = (g : Game) (k : List Ticket) (upper : Fraction) (text other : List ℕ) → IsGame g → IsCommitment g k → IsReportTable g k upper text → IsReportTable g k upper other → text ≡ other

-- a fraction
abbrev pub fraction_over : ℕ → ℕ → Fraction
fraction_over num den = record { num = pos num; den = pos den }

-- lines, each with its newline
abbrev pub lines : List (List ℕ) → List ℕ
lines [] = []
lines (text ∷ rest) = text ++ (10 ∷ lines rest)

-- two targets and one patrol, with names
abbrev pub gate_and_hall : Game
gate_and_hall = record two_targets { goals = codes "gate" ∷ codes "hall" ∷ [] }

-- the first target on two tickets of three; and a game of two rows with both actions best, of which the second gives the defender more
pub record TablesAreWorked : Type 0 where
  pub one_patrol : IsReportTable gate_and_hall two_tickets (fraction_over 2 3)
      (lines (codes "value 2/3" ∷ codes "upper 2/3" ∷ codes "tickets 3" ∷ codes "target gate 2" ∷ codes "target hall 1" ∷ codes "type thief attacks gate" ∷ []))
  pub one_player : IsReportTable one_player row_mix (fraction_over 4 1)
      (lines (codes "value 11/3" ∷ codes "upper 4/1" ∷ codes "tickets 3" ∷ codes "row a 2" ∷ codes "row b 1" ∷ codes "type first attacks b" ∷ []))
  pub two_players : IsReportTable two_players row_mix (fraction_over 4 1)
      (lines (codes "value 11/3" ∷ codes "upper 4/1" ∷ codes "tickets 3" ∷ codes "row a 2" ∷ codes "row b 1" ∷ codes "type first attacks b" ∷ codes "type second attacks b" ∷ []))
