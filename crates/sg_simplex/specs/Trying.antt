-- A move that is tried before anything is written.
use Rattle.std.specs.Prelude.{◌≡◌, ℕ, List, ℤ, Some, None, Result, Ok, Err}
use Rattle.sg_num.specs.Operations.{first_wide}
use Rattle.sg_lp.specs.Programs.{Program}
use Rattle.sg_lp.specs.States.{Tableau}
use Rattle.sg_lp.specs.Moves.{IsLeaving, first_shown, gap_of, move_steps, multiplier_steps, row_product_steps, products_of, row_steps}
use Rattle.sg_lp.specs.declared.column.Enter.{Enter}
use Rattle.sg_simplex.specs.declared.trying.Exchange.{Exchange}
use Rattle.sg_simplex.specs.declared.trying.Misfit.{Misfit}

-- the products with the member's entries are formed, and the row that leaves by them is known
pub record HasLeaving (p : Program) (t : Tableau) (s : Enter) (q : List ℤ) (r : ℕ) : Type 0 where
  pub leaves : IsLeaving p t s r
  pub products : q ≡ products_of p t s
  pub fit : first_wide (row_product_steps p t s) ≡ None

abbrev pub FindsLeaving : Program → Tableau → Enter → List ℤ → Result ℕ Misfit → Type 0
FindsLeaving p t s q (Ok r) = HasLeaving p t s q r
FindsLeaving p t s q (Err m) = (m.name ≡ 2) × (first_wide (row_product_steps p t s) ≡ Some m.wide)

-- all values of the move fit
pub record MayExchange (p : Program) (t : Tableau) (s : Enter) (q : List ℤ) (r : ℕ) (gap : ℤ) : Type 0 where
  pub leaves : IsLeaving p t s r
  pub products : q ≡ products_of p t s
  pub gap_is : gap ≡ gap_of p t s
  pub rows_fit : first_wide (row_steps t.rows q r) ≡ None
  pub multipliers_fit : first_wide (multiplier_steps t q gap r) ≡ None
  pub fit : first_shown (move_steps p t s r) ≡ None

-- the first value of the move that doesn't fit
pub record IsMisfit (p : Program) (t : Tableau) (s : Enter) (m : Misfit) : Type 0 where
  pub row : ℕ
  pub leaves : IsLeaving p t s row
  pub shown : first_shown (move_steps p t s row) ≡ Some (record { name = m.name; step = m.wide })

abbrev pub Tries : Program → Tableau → Enter → List ℤ → Result Exchange Misfit → Type 0
Tries p t s q (Ok x) = MayExchange p t s q x.row x.gap
Tries p t s q (Err m) = IsMisfit p t s m
