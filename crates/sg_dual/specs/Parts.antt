-- The point of a state as parts, and the answers of what forms it.
use Rattle.std.specs.Prelude.{◌≡◌, ℕ, true, false, List, ◌++◌, map, pos, Option, Some, None, Result, Ok, Err}
use Rattle.sg_num.specs.declared.step.Wide.{Wide}
use Rattle.sg_num.specs.Operations.{first_wide}
use Rattle.sg_frac.specs.Fractions.{Fraction}
use Rattle.sg_model.specs.declared.ticket.Ticket.{Ticket}
use Rattle.sg_lp.specs.Programs.{Program}
use Rattle.sg_lp.specs.States.{Tableau, member_at}
use Rattle.sg_programs.specs.Plays.{play_of}
use Rattle.sg_bounds.specs.SizeSteps.{running_steps}
use Rattle.sg_programs.specs.Points.{column_in, common_multiple, is_point_row, multiple_steps, own_steps, point_rows, point_weight, weight_at, weight_step, whole_weight}
use Rattle.sg_dual.specs.declared.part.Part.{Part}
use Rattle.sg_dual.specs.declared.part.PointFault.{PointFault}
use Rattle.sg_dual.specs.declared.part.PointFault.TheVariants.{Memory, Wide as PointWide}
use Rattle.sg_dual.specs.declared.share.Share.{Share}

-- the part of a row: its column, with its whole weight
abbrev pub part_of_row : Program → Tableau → ℕ → Part
part_of_row p t i = record { col = column_in (member_at t i); weight = point_weight p t i }

-- the parts of the point, by rising row
abbrev pub point_parts : Program → Tableau → List Part
point_parts p t = map (part_of_row p t) (point_rows p t)

-- parts as tickets, where columns are plays
abbrev pub tickets_of : List Part → List Ticket
tickets_of parts = map (λ (x : Part). record { play = record { code = play_of x.col }; weight = x.weight }) parts

-- a refusal of what forms these operations: the first of them that doesn't fit. Want of memory is free
abbrev pub RefuseAt : List Wide → PointFault → Type 0
RefuseAt steps (PointWide w) = first_wide steps ≡ Some w
RefuseAt steps Memory = Unit {0}

-- what forms these operations and then gives such a value: all of them fit, and the value is so; or it is refused
abbrev pub FormOr : {A : Type 0} → List Wide → (A → Type 0) → Result A PointFault → Type 0
FormOr steps Is (Ok x) = (first_wide steps ≡ None) × Is x
FormOr steps Is (Err fault) = RefuseAt steps fault

-- ---- on the way

-- the column of a row with its weight over 1
abbrev pub share_of_row : Program → Tableau → ℕ → Share
share_of_row p t i = record { col = column_in (member_at t i); num = (weight_at p t i).num; den = (weight_at p t i).den }

-- the weight of a share
abbrev pub fraction_of : Share → Fraction
fraction_of s = record { num = s.num; den = s.den }

-- a share over a whole
abbrev pub part_of_share : ℕ → Share → Part
part_of_share m s = record { col = s.col; weight = whole_weight m (fraction_of s) }

-- the share of a row: none where the row isn't of the point, and else that of its column, or the first operation of its product that doesn't fit
abbrev pub IsShareOfRow : Program → Tableau → ℕ → Result (Option Share) Wide → Type 0
IsShareOfRow p t i (Ok None) = is_point_row t i ≡ false
IsShareOfRow p t i (Ok (Some s)) = (is_point_row t i ≡ true) × (first_wide (own_steps p t i) ≡ None) × (s ≡ share_of_row p t i)
IsShareOfRow p t i (Err w) = (is_point_row t i ≡ true) × (first_wide (own_steps p t i) ≡ Some w)

-- the whole of some shares: the least common multiple of their denominators
abbrev pub common_whole : List Share → ℕ
common_whole shares = common_multiple 1 (map fraction_of shares)

-- what is formed of shares: the multiples, the weights over the last one, and their running total
abbrev pub share_steps : List Share → List Wide
share_steps shares =
    multiple_steps 1 (map fraction_of shares)
    ++ (map (weight_step (common_whole shares)) (map fraction_of shares) ++ running_steps (pos 0) (map (whole_weight (common_whole shares)) (map fraction_of shares)))
