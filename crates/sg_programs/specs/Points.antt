-- The point of a final state: the columns of positive weight, with whole weights over one total, and what is formed on the way to it.
use Rattle.std.specs.Prelude.{ℕ, zero, suc, ◌*◌, ◌/◌, ◌%◌, Bool, true, false, ◌&&◌, List, [], ◌∷◌, ◌++◌, map, flat_map, filter, replicate, ℤ, pos, ◌*ℤ◌, int_lt, unsigned_abs}
use Rattle.std.specs.List.{range_with_len}
use Rattle.sg_num.specs.declared.step.Wide.{Wide}
use Rattle.sg_num.specs.Operations.{times}
use Rattle.sg_frac.specs.Fractions.{Fraction}
use Rattle.sg_model.specs.declared.ticket.Ticket.{Ticket}
use Rattle.sg_bounds.specs.SizeSteps.{running_steps}
use Rattle.sg_rows.specs.Rows.{dot_steps, place}
use Rattle.sg_lp.specs.declared.column.Column.{Column}
use Rattle.sg_lp.specs.declared.column.Enter.{Enter}
use Rattle.sg_lp.specs.declared.column.Enter.TheVariants.{Slack, Col}
use Rattle.sg_lp.specs.Programs.{Program}
use Rattle.sg_lp.specs.Moves.{entries_of, product_with}
use Rattle.sg_lp.specs.States.{Tableau, member_at, row_at}
use Rattle.sg_programs.specs.Plays.{play_of}

-- ---- whole numbers

-- Euclid's method of remainders, in at most n steps
abbrev pub euclid : ℕ → ℕ → ℕ → ℕ
euclid zero a b = a
euclid (suc n) a zero = a
euclid (suc n) a (suc b) = euclid n (suc b) (a % suc b)

-- the greatest common divisor
abbrev pub gcd_of : ℕ → ℕ → ℕ
gcd_of a b = euclid (suc b) a b

-- the quotient of two numbers above 0 in lowest terms
abbrev pub lowest_of : ℤ → ℤ → Fraction
lowest_of n d = record { num = pos (unsigned_abs n / gcd_of (unsigned_abs n) (unsigned_abs d)); den = pos (unsigned_abs d / gcd_of (unsigned_abs n) (unsigned_abs d)) }

-- the least common multiple so far with one denominator more: its quotient by their common divisor, times the denominator
abbrev pub next_multiple : ℕ → Fraction → ℕ
next_multiple m f = m / gcd_of m (unsigned_abs f.den) * unsigned_abs f.den

abbrev pub multiple_step : ℕ → Fraction → Wide
multiple_step m f = times (pos (m / gcd_of m (unsigned_abs f.den))) f.den

-- the multiples from m on, one denominator more at a time
abbrev pub multiple_steps : ℕ → List Fraction → List Wide
multiple_steps m [] = []
multiple_steps m (f ∷ fs) = multiple_step m f ∷ multiple_steps (next_multiple m f) fs

-- and the last of them
abbrev pub common_multiple : ℕ → List Fraction → ℕ
common_multiple m [] = m
common_multiple m (f ∷ fs) = common_multiple (next_multiple m f) fs

-- a weight over a whole that its denominator divides, and how it is formed: numerator times quotient
abbrev pub whole_weight : ℕ → Fraction → ℤ
whole_weight m f = f.num *ℤ pos (m / unsigned_abs f.den)

abbrev pub weight_step : ℕ → Fraction → Wide
weight_step m f = times f.num (pos (m / unsigned_abs f.den))

-- ---- the point

-- whether a member is a column, and which
abbrev pub is_column : Enter → Bool
is_column (Slack i) = false
is_column (Col c) = true

abbrev pub column_in : Enter → Column
column_in (Slack i) = record { len = 0; code = replicate 32 0 }
column_in (Col c) = c

-- whether a row is of the point: that of a column, with a first place above 0
abbrev pub is_point_row : Tableau → ℕ → Bool
is_point_row t i = is_column (member_at t i) && int_lt (pos 0) (place (row_at t i) 0)

-- the first n rows that are, rising
abbrev pub point_rows_below : Tableau → ℕ → List ℕ
point_rows_below t n = filter (is_point_row t) (range_with_len 0 n)

-- the rows of the point
abbrev pub point_rows : Program → Tableau → List ℕ
point_rows p t = point_rows_below t p.height

-- the product of a row's list with its own member, and what it forms
abbrev pub own_product : Program → Tableau → ℕ → ℤ
own_product p t i = product_with p (member_at t i) (row_at t i)

abbrev pub own_steps : Program → Tableau → ℕ → List Wide
own_steps p t i = dot_steps (pos 0) (row_at t i) (entries_of p (member_at t i))

-- the weight of a row's column, over 1: the first place of the row's list over that product
abbrev pub weight_at : Program → Tableau → ℕ → Fraction
weight_at p t i = lowest_of (place (row_at t i) 0) (own_product p t i)

-- the weights in their order
abbrev pub weights_of : Program → Tableau → List Fraction
weights_of p t = map (weight_at p t) (point_rows p t)

-- the whole that the weights are brought over: the least common multiple of their denominators
abbrev pub point_whole : Program → Tableau → ℕ
point_whole p t = common_multiple 1 (weights_of p t)

-- the whole weight of a row's column
abbrev pub point_weight : Program → Tableau → ℕ → ℤ
point_weight p t i = whole_weight (point_whole p t) (weight_at p t i)

-- the point's column of a row, as a ticket
abbrev pub point_ticket : Program → Tableau → ℕ → Ticket
point_ticket p t i = record { play = record { code = play_of (column_in (member_at t i)) }; weight = point_weight p t i }

-- the point as tickets, where columns are plays
abbrev pub point_tickets : Program → Tableau → List Ticket
point_tickets p t = map (point_ticket p t) (point_rows p t)

-- the values under a point: the products by row; the multiples of the denominators; the weights over the last; their running total
abbrev pub point_steps : Program → Tableau → List Wide
point_steps p t =
    flat_map (own_steps p t) (point_rows p t)
    ++ (multiple_steps 1 (weights_of p t)
    ++ (map (weight_step (point_whole p t)) (weights_of p t)
    ++ running_steps (pos 0) (map (whole_weight (point_whole p t)) (weights_of p t))))
