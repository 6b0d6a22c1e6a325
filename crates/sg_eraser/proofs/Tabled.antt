-- What the tables of a family hold: the rows and columns of the node's table, and the costs and entries of its program.
use Rattle.std.proofs.lemmas.Int.{ints}
use Rattle.std.proofs.Common.{◌≡◌, ◌≢◌, ◌∙◌, ℕ, zero, suc, ◌+◌, ◌-◌, ◌<◌, ◌≤◌, List, [], ◌∷◌, ◌++◌, length, map, sym, ap, subst, refl, arith, get_or, slice_index_or, Bool, Option, Some}
use Rattle.std.specs.Prelude.{ℤ, pos, ◌*ℤ◌, int_lt, if◌then◌else◌}
use Rattle.std.specs.List.{All, Contains, range_with_len}
use Rattle.std.proofs.lemmas.List.{append_assoc, get_or-append-add, get_or-map, length-append, length-map}
use Rattle.std.proofs.lemmas.List.FromFn.{length-map-range_with_len}
use Rattle.std.proofs.lemmas.List.Elements.{All-cons, All-contains}
use Rattle.sg_num.specs.declared.step.Wide.{Wide}
use Rattle.sg_num.specs.Operations.{first_wide, is_formed, times}
use Rattle.sg_model.specs.declared.kind.Kind.TheVariants.{Security}
use Rattle.sg_model.specs.Sums.{nth, numbers}
use Rattle.sg_model.specs.Games.{Game}
use Rattle.sg_model.specs.Limits.{IsGame}
use Rattle.sg_model.proofs.Best.{All-from_map, from_map}
use Rattle.sg_model.proofs.Forms.{no_matrix}
use Rattle.sg_model.proofs.Numbers.{All-numbers}
use Rattle.sg_tree.specs.declared.fact.Line.{Line}
use Rattle.sg_tree.specs.declared.fix.Fix.{Fix}
use Rattle.sg_bounds.specs.Coverage as table
use Rattle.sg_bounds.specs.Regions.{IsFix, act_of}
use Rattle.sg_bounds.proofs.Cover.{IsRowOf, at_row}
use Rattle.sg_bounds.proofs.Listed.{columns_are_all}
use Rattle.sg_game.specs.Counts.{IsGoalOf}
use Rattle.sg_rows.specs.Rows.{place}
use Rattle.sg_lp.specs.declared.column.Column.{Column}
use Rattle.sg_lp.specs.declared.column.Enter.TheVariants.{Col}
use Rattle.sg_lp.specs.Moves.{entries_of}
use Rattle.sg_lp.specs.Listing.{enters, price_steps}
use Rattle.sg_lp.specs.Programs.{IsBounded, IsWithinLimits}
use Rattle.sg_programs.specs.CoverLaws.{cover_bounding}
use Rattle.sg_programs.specs.CoverPrograms.{number_in_table, column_numbered, cover_program, table_column, table_row}
use Rattle.sg_programs.proofs.CoverColumns.{columns-told}
use Rattle.sg_programs.proofs.CoverSized.{cover_is_bounded, cover_is_sized, table-few}
use Rattle.sg_programs.proofs.Kept.{gives-self}
use Rattle.sg_eraser.specs.declared.sparse.RowEntry.{RowEntry}
use Rattle.sg_eraser.specs.declared.table.CoverRow.{CoverRow}
use Rattle.sg_eraser.specs.declared.table.CoverRow.TheVariants as row
use Rattle.sg_eraser.specs.declared.table.CoverColumn.{CoverColumn}
use Rattle.sg_eraser.specs.Covers.{IsCoverTable, all_rows, column_entries}
use Rattle.sg_eraser.specs.Nonzero.{nonzero_from, nonzero_steps, nonzero_sum}
use Rattle.sg_eraser.specs.TableValues.{IsCoverColumn, IsCoverRow, meant_entry, meant_column, meant_row}
use Rattle.sg_eraser.proofs.Nonzeros.{rows-below, sparse-steps, sparse-sum}

-- ---- rows

-- what a row of the table needs in order to be read
abbrev pub IsRead : Game → Fix → table.Row → Type 0
IsRead g fix table.whole = Unit {0}
IsRead g fix (table.spends r) = Unit {0}
IsRead g fix (table.held t) = Unit {0}
IsRead g fix (table.within t) = Unit {0}
IsRead g fix (table.gains l other) = (fix.first ≤ l) × (l < fix.first + length fix.acts) × IsGoalOf g other × (other ≢ act_of fix l)

read-row : (g : Game) (fix : Fix) (r : table.Row) → IsRowOf g fix r → IsRead g fix r
read-row g fix table.whole h = tt
read-row g fix (table.spends r) h = tt
read-row g fix (table.held t) h = tt
read-row g fix (table.within t) h = tt
read-row g fix (table.gains l other) h = (h.0, h.1, (h.2, h.3), h.4)

cover-row : (g : Game) (fix : Fix) (r : CoverRow) → IsRead g fix (meant_row r) → IsCoverRow g fix r
cover-row g fix row.Whole h = tt
cover-row g fix (row.Spends r) h = tt
cover-row g fix (row.Held t) h = tt
cover-row g fix (row.Within t) h = tt
cover-row g fix (row.Gains l other) h = h

module _ (g : Game) (security : g.kind ≡ Security) (fix : Fix) (is_fix : IsFix g fix) (rows : List CoverRow) (are : map meant_row rows ≡ all_rows g fix) where
  all-read : All (IsRead g fix) (all_rows g fix)
  all-read = All-cons (IsRead g fix) table.whole (table.table_rows g fix) tt (λ i d lt.
      let line : Line = record { row = suc i; v = pos 1 } in
      let known = at_row g (no_matrix g security) fix is_fix line (record { from_one = omega arith; in_range = omega (arith, lt); positive = omega (arith, ints) }) in
      subst (IsRead g fix) (same (table.table_rows g fix) i d lt) (read-row g fix (get_or (table.table_rows g fix) i table.whole) known))
    where
      same : (rs : List table.Row) (i : ℕ) (d : table.Row) → i < length rs → get_or rs i table.whole ≡ get_or rs i d
      same [] i d lt = absurd (omega arith)
      same (r ∷ rs) zero d lt = refl
      same (r ∷ rs) (suc i) d lt = same rs i d (omega (arith, lt))

  pub rows-known : All (IsCoverRow g fix) rows
  rows-known = λ i d lt. cover-row g fix (slice_index_or rows i d) (All-from_map meant_row (IsRead g fix) rows (subst (All (IsRead g fix)) (sym are) all-read) i d lt)

  pub rows-count : length rows ≡ length (table.table_rows g fix) + 1
  rows-count = sym (length-map rows meant_row) ∙ ap length are ∙ omega arith

  pub rows-few : IsGame g → g.scale ≡ pos 0 → length rows ≤ 1536
  rows-few game unscaled = omega (arith, rows-count, table-few g game unscaled security fix is_fix)

  -- the row at a place
  pub row-at : (j : ℕ) (d : CoverRow) → j < length rows → meant_row (get_or rows j d) ≡ table_row g fix j
  row-at j d lt = sym (get_or-map meant_row rows j d table.whole lt) ∙ ap (λ (rs : List table.Row). get_or rs j table.whole) are ∙ nth-rows j
    where
      nth-rows : (j : ℕ) → get_or (all_rows g fix) j table.whole ≡ table_row g fix j
      nth-rows zero = refl
      nth-rows (suc j) = refl

-- ---- columns

module _ (g : Game) (columns : List CoverColumn) (are : map meant_column columns ≡ table.columns g) where
  pub columns-known : All (IsCoverColumn g) columns
  columns-known = All-from_map meant_column (table.IsColumn g) columns (subst (All (table.IsColumn g)) (sym are) (columns_are_all g).known)

  pub columns-count : length columns ≡ length (table.columns g)
  columns-count = sym (length-map columns meant_column) ∙ ap length are

  -- the column at a place
  pub column-at : (i : ℕ) (d : CoverColumn) → i < length columns → meant_column (get_or columns i d) ≡ get_or (table.columns g) i table.always
  column-at i d lt = sym (get_or-map meant_column columns i d table.always lt) ∙ ap (λ (cs : List table.Column). get_or cs i table.always) are

-- a column of the program has a number of the table
pub number-in : (g : Game) (fix : Fix) (col : Column) → Contains (cover_program g fix).columns col → (1 ≤ number_in_table col) × (number_in_table col ≤ length (table.columns g))
number-in g fix col h =
    let f = from_map column_numbered (numbers (length (table.columns g))) col h in
    let P : ℕ → Type 0 = λ n. (1 ≤ n) × (n ≤ length (table.columns g)) in
    subst P (ap number_in_table f.2) (All-contains P (numbers (length (table.columns g))) f.0 (All-numbers P (length (table.columns g)) (λ n low high. (low, high))) f.1)

-- the column of the table of a number
pub numbered-at : (g : Game) (col : Column) → 1 ≤ number_in_table col → get_or (table.columns g) (number_in_table col - 1) table.always ≡ table_column g col
numbered-at g col low = by (number_in_table col) low
  where
    by : (n : ℕ) → 1 ≤ n → get_or (table.columns g) (n - 1) table.always ≡ nth (table.columns g) n table.always
    by zero low = absurd (omega (arith, low))
    by (suc n) low = let e : suc n - 1 ≡ n = omega arith in ap (λ (i : ℕ). get_or (table.columns g) i table.always) e

-- ---- the tables as they are made

map-twice : {X Y Z : Type 0} (f : X → Y) (h : Y → Z) (xs : List X) → map h (map f xs) ≡ map (λ x. h (f x)) xs
map-twice f h [] = refl
map-twice f h (x ∷ xs) = ap (λ zs. h (f x) ∷ zs) (map-twice f h xs)

map-equal : {X Y : Type 0} (f h : X → Y) → ((x : X) → f x ≡ h x) → (xs : List X) → map f xs ≡ map h xs
map-equal f h e [] = refl
map-equal {Y = Y} f h e (x ∷ xs) = ap (λ (y : Y). y ∷ map f xs) (e x) ∙ ap (λ (ys : List Y). h x ∷ ys) (map-equal f h e xs)

pub made-costs : (g : Game) (fix : Fix) (columns : List CoverColumn) (costs : List ℤ) → map meant_column columns ≡ table.columns g → costs ≡ map (λ c. table.column_cost g fix (meant_column c)) columns
    → costs ≡ map (table.column_cost g fix) (table.columns g)
made-costs g fix columns costs are e = e ∙ sym (map-twice meant_column (table.column_cost g fix) columns) ∙ ap (map (table.column_cost g fix)) are

pub made-entries : (g : Game) (fix : Fix) (rows : List CoverRow) (columns : List CoverColumn) (entries : List (List RowEntry)) → map meant_row rows ≡ all_rows g fix → map meant_column columns ≡ table.columns g
    → entries ≡ map (λ c. nonzero_from 0 (map (λ r. meant_entry g fix r c) rows)) columns → entries ≡ map (column_entries g fix) (table.columns g)
made-entries g fix rows columns entries rows_are columns_are e =
    e
    ∙ sym (map-twice meant_column (λ (c : table.Column). nonzero_from 0 (map (λ r. table.entry g fix (meant_row r) c) rows)) columns)
    ∙ map-equal (λ (c : table.Column). nonzero_from 0 (map (λ r. table.entry g fix (meant_row r) c) rows)) (column_entries g fix)
    (λ c. ap (nonzero_from 0) (sym (map-twice meant_row (λ (r : table.Row). table.entry g fix r c) rows) ∙ ap (map (λ (r : table.Row). table.entry g fix r c)) rows_are)) (map meant_column columns)
    ∙ ap (map (column_entries g fix)) columns_are

-- ---- the program's entries

-- a function over the places of a list, behind some of which stand others
by-places : {X Y : Type 0} (f : X → Y) (ps xs : List X) (d : X) → map (λ j. f (get_or (ps ++ xs) j d)) (range_with_len (length ps) (length xs)) ≡ map f xs
by-places f ps [] d = refl
by-places {X = X} {Y = Y} f ps (x ∷ xs) d =
    let first : get_or (ps ++ x ∷ xs) (length ps) d ≡ x = (let e : length ps ≡ length ps + 0 = omega arith in ap (λ (i : ℕ). get_or (ps ++ x ∷ xs) i d) e ∙ get_or-append-add ps (x ∷ xs) 0 d) in
    let from : length ps + 1 ≡ length (ps ++ x ∷ []) = omega (arith, length-append ps (x ∷ [])) in
    let rest =
    ap (λ (a : ℕ). map (λ j. f (get_or (ps ++ x ∷ xs) j d)) (range_with_len a (length xs))) from
    ∙ ap (λ (ys : List X). map (λ j. f (get_or ys j d)) (range_with_len (length (ps ++ x ∷ [])) (length xs))) (sym (append_assoc ps (x ∷ []) xs))
    ∙ by-places f (ps ++ x ∷ []) xs d in
    ap (λ (y : X). f y ∷ map (λ j. f (get_or (ps ++ x ∷ xs) j d)) (range_with_len (length ps + 1) (length xs))) first ∙ ap (λ (ys : List Y). f x ∷ ys) rest

entries-are : (g : Game) (fix : Fix) (col : Column) → entries_of (cover_program g fix) (Col col) ≡ map (λ r. table.entry g fix r (table_column g col)) (all_rows g fix)
entries-are g fix col =
    let f : table.Row → ℤ = λ r. table.entry g fix r (table_column g col) in
    let long : length (table.table_rows g fix) + 1 ≡ suc (length (table.table_rows g fix)) = omega arith in
    map-equal (λ j. f (table_row g fix j)) (λ j. f (get_or (all_rows g fix) j table.whole)) (λ j. ap f (at j)) (range_with_len 0 (length (table.table_rows g fix) + 1))
    ∙ ap (λ (n : ℕ). map (λ j. f (get_or (all_rows g fix) j table.whole)) (range_with_len 0 n)) long
    ∙ by-places f [] (all_rows g fix) table.whole
  where
    at : (j : ℕ) → table_row g fix j ≡ get_or (all_rows g fix) j table.whole
    at zero = refl
    at (suc j) = refl

-- ---- a family's tables

module _ (g : Game) (fix : Fix) (rows : List CoverRow) (columns : List CoverColumn) (costs : List ℤ) (entries : List (List RowEntry)) (is : IsCoverTable g fix rows columns costs entries) where
  pub costs-count : length costs ≡ length (table.columns g)
  costs-count = ap length is.costs_are ∙ length-map (table.columns g) (table.column_cost g fix)

  pub entries-count : length entries ≡ length (table.columns g)
  entries-count = ap length is.entries_are ∙ length-map (table.columns g) (column_entries g fix)

  pub height-is : length rows ≡ (cover_program g fix).height
  height-is = rows-count g is.security fix is.is_fix rows is.rows_are

  pub columns-long : length (cover_program g fix).columns ≡ length costs
  columns-long = sym (length-map (cover_program g fix).columns (table_column g)) ∙ ap length (columns-told g) ∙ sym costs-count

  module _ (game : IsGame g) where
    pub sized : IsWithinLimits (cover_program g fix)
    sized = cover_is_sized g game is.unscaled is.security fix is.is_fix

    pub is-bounded : IsBounded (cover_program g fix)
    is-bounded = (cover_bounding g fix, cover_is_bounded g game is.security fix is.is_fix)

  -- the cost of a column
  pub cost-at : (col : Column) → Contains (cover_program g fix).columns col → place costs (number_in_table col - 1) ≡ (cover_program g fix).cost col
  cost-at col h =
      let n = number-in g fix col h in
      ap (λ (zs : List ℤ). place zs (number_in_table col - 1)) is.costs_are
      ∙ get_or-map (table.column_cost g fix) (table.columns g) (number_in_table col - 1) table.always (pos 0) (omega (arith, n.0, n.1))
      ∙ ap (table.column_cost g fix) (numbered-at g col n.0)

  -- its place
  pub cost-room : (col : Column) → Contains (cover_program g fix).columns col → number_in_table col - 1 < length costs
  cost-room col h = let n = number-in g fix col h in omega (arith, n.0, n.1, costs-count)

  pub column-room : (col : Column) → Contains (cover_program g fix).columns col → number_in_table col - 1 < length columns
  column-room col h = let n = number-in g fix col h in omega (arith, n.0, n.1, columns-count g columns is.columns_are)

  -- the entry of a column in a row
  pub entry-at : (col : Column) (j : ℕ) (d : CoverColumn) (e : CoverRow) → Contains (cover_program g fix).columns col → j < (cover_program g fix).height
      → meant_entry g fix (get_or rows j e) (get_or columns (number_in_table col - 1) d) ≡ (cover_program g fix).entry col j
  entry-at col j d e h below =
      let n = number-in g fix col h in
      ap (λ (r : table.Row). table.entry g fix r (meant_column (get_or columns (number_in_table col - 1) d))) (row-at g is.security fix is.is_fix rows is.rows_are j e (omega (arith, below, height-is)))
      ∙ ap (λ (c : table.Column). table.entry g fix (table_row g fix j) c) (column-at g columns is.columns_are (number_in_table col - 1) d (column-room col h) ∙ numbered-at g col n.0)

  -- ---- the test of the column at a place

  module _ (y : List ℤ) (long : length y ≡ (cover_program g fix).height) (rho : ℤ) (k : ℕ) (d : Column) (lt : k < length costs) where
    abbrev here : Column
    here = slice_index_or (cover_program g fix).columns k d

    abbrev meant : table.Column
    meant = get_or (table.columns g) k table.always

    inside : k < length (table.columns g)
    inside = omega (arith, lt, costs-count)

    here-is : meant ≡ table_column g here
    here-is =
        ap (λ (cs : List table.Column). get_or cs k table.always) (sym (columns-told g))
        ∙ get_or-map (table_column g) (cover_program g fix).columns k d table.always (omega (arith, lt, columns-long))

    pub cost-is : place costs k ≡ (cover_program g fix).cost here
    cost-is = ap (λ (zs : List ℤ). place zs k) is.costs_are ∙ get_or-map (table.column_cost g fix) (table.columns g) k table.always (pos 0) inside ∙ ap (table.column_cost g fix) here-is

    abbrev all_entries : List ℤ
    all_entries = entries_of (cover_program g fix) (Col here)

    sparse-is : get_or entries k [] ≡ nonzero_from 0 all_entries
    sparse-is =
        ap (λ (zs : List (List RowEntry)). get_or zs k []) is.entries_are
        ∙ get_or-map (column_entries g fix) (table.columns g) k table.always [] inside
        ∙ ap (column_entries g fix) here-is
        ∙ ap (nonzero_from 0) (sym (entries-are g fix here))

    entries-long : length y ≡ length all_entries
    entries-long = long ∙ sym (length-map-range_with_len ((cover_program g fix).entry here) 0 (cover_program g fix).height)

    pub rows-inside : All (λ (x : RowEntry). x.row < length y) (get_or entries k [])
    rows-inside = subst (All (λ (x : RowEntry). x.row < length y)) (sym sparse-is) (rows-below 0 (length y) all_entries (omega (arith, entries-long)))

    abbrev pub steps_at : List Wide
    steps_at = times rho (place costs k) ∷ nonzero_steps y (pos 0) (get_or entries k [])

    abbrev pub test_at : Bool
    test_at = int_lt (nonzero_sum y (pos 0) (get_or entries k [])) (rho *ℤ place costs k)

    pub steps-are : first_wide steps_at ≡ first_wide (price_steps (cover_program g fix) y rho here)
    steps-are =
        ap (λ (z : ℤ). first_wide (times rho z ∷ nonzero_steps y (pos 0) (get_or entries k []))) cost-is
        ∙ ap (λ (xs : List RowEntry). first_wide (times rho ((cover_program g fix).cost here) ∷ nonzero_steps y (pos 0) xs)) sparse-is
        ∙ ap (λ (o : Option Wide). if is_formed (times rho ((cover_program g fix).cost here)) then o else Some (times rho ((cover_program g fix).cost here))) (sym (sparse-steps y 0 (pos 0) y all_entries entries-long (gives-self y) refl))

    pub test-is : test_at ≡ enters (cover_program g fix) y rho here
    test-is =
        ap (λ (z : ℤ). int_lt (nonzero_sum y (pos 0) (get_or entries k [])) (rho *ℤ z)) cost-is
        ∙ ap (λ (xs : List RowEntry). int_lt (nonzero_sum y (pos 0) xs) (rho *ℤ (cover_program g fix).cost here)) sparse-is
        ∙ ap (λ (z : ℤ). int_lt z (rho *ℤ (cover_program g fix).cost here)) (sym (sparse-sum y 0 (pos 0) y all_entries entries-long (gives-self y)))

-- the family that is made, whose rows and columns are read as slices
pub made : (g : Game) (fix copy : Fix) (rows rs : List CoverRow) (columns cs ds : List CoverColumn) (costs : List ℤ) (entries : List (List RowEntry)) → g.kind ≡ Security → g.scale ≡ pos 0 → IsFix g fix → copy ≡ fix
    → map meant_row rows ≡ all_rows g fix → map meant_column columns ≡ table.columns g → cs ≡ columns → rs ≡ rows → ds ≡ columns
    → costs ≡ map (λ c. table.column_cost g fix (meant_column c)) cs → entries ≡ map (λ c. nonzero_from 0 (map (λ r. meant_entry g fix r c) rs)) ds → IsCoverTable g copy rows columns costs entries
made g fix copy rows rs columns cs ds costs entries security unscaled is_fix same rows_are columns_are ec er ed costs_are entries_are =
    subst (λ (f : Fix). IsCoverTable g f rows columns costs entries) (sym same) (record {
      security = security;
      unscaled = unscaled;
      is_fix = is_fix;
      rows_are = rows_are;
      columns_are = columns_are;
      costs_are = made-costs g fix columns costs columns_are (costs_are ∙ ap (map (λ c. table.column_cost g fix (meant_column c))) ec);
      entries_are = made-entries g fix rows columns entries rows_are columns_are
          (entries_are ∙ ap (λ (zs : List CoverRow). map (λ c. nonzero_from 0 (map (λ r. meant_entry g fix r c) zs)) ds) er ∙ ap (map (λ c. nonzero_from 0 (map (λ r. meant_entry g fix r c) rows))) ed);
    })
