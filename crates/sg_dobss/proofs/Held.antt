-- What the tables of a listing hold: the costs and entries of the node's program.
use Rattle.std.proofs.Common.{◌≡◌, ◌∙◌, ℕ, zero, suc, ◌+◌, ◌<◌, ◌≤◌, List, [], length, map, sym, ap, subst, refl, arith, slice_index_or, get_or}
use Rattle.std.specs.Prelude.{ℤ}
use Rattle.std.specs.List.{Contains}
use Rattle.std.proofs.lemmas.List.{get_or-map, length-map}
use Rattle.std.proofs.lemmas.Slice.Zip.{AllZip-long}
use Rattle.sg_model.specs.Games.{Game}
use Rattle.sg_model.specs.Limits.{IsGame}
use Rattle.sg_model.specs.PlayLists.{legal_plays, play_count}
use Rattle.sg_model.proofs.LegalPlays.{legal_plays_are_counted}
use Rattle.sg_tree.specs.declared.fix.Fix.{Fix}
use Rattle.sg_bounds.specs.Facts.{cost}
use Rattle.sg_rows.specs.Rows.{place}
use Rattle.sg_lp.specs.declared.column.Column.{Column}
use Rattle.sg_lp.specs.Pricing.{Answer, found}
use Rattle.sg_lp.specs.Programs.{IsBounded, IsWithinLimits}
use Rattle.sg_programs.specs.Laws.{bounding}
use Rattle.sg_programs.specs.Plays.{column_of, play_of, plays_program}
use Rattle.sg_bounds.specs.PlayRows.{comparison_at, comparisons, play_entry}
use Rattle.sg_programs.proofs.Columns.{play-column}
use Rattle.sg_programs.proofs.Found.{found-same}
use Rattle.sg_programs.proofs.Heights.{height-few}
use Rattle.sg_programs.proofs.Sized.{program_is_bounded, program_is_sized}
use Rattle.sg_dobss.specs.Listings.{IsListing}
use Rattle.sg_programs.specs.Nodes.{NodeOf}
use Rattle.sg_dobss.specs.Paying.{listed_play}
use Rattle.sg_dobss.specs.Tables.{AreTablesOf, IsGainRow, entry_in}
use Rattle.sg_dobss.proofs.Gains.{zip-at}

-- the column at a place
pub column-is : (g : Game) (k : ℕ) (d : Column) → k < length (legal_plays g) → get_or (map column_of (legal_plays g)) k d ≡ column_of (listed_play g k)
column-is g k d lt = get_or-map column_of (legal_plays g) k [] d lt

pub columns-count : (g : Game) → length (map column_of (legal_plays g)) ≡ length (legal_plays g)
columns-count g = length-map (legal_plays g) column_of

pub plays-count : (g : Game) → length (legal_plays g) ≡ play_count g
plays-count g = legal_plays_are_counted g

module _ (g : Game) (fix : Fix) (count : ℕ) (costs : List ℤ) (rows : List (List ℤ)) (is : IsListing g fix count costs rows) where
  rows-count : length rows ≡ length (comparisons g fix)
  rows-count = AllZip-long (IsGainRow g fix) (comparisons g fix) rows is.tables.rows_are

  row-at : (j : ℕ) → j < length rows → IsGainRow g fix (comparison_at g fix j) (slice_index_or rows j [])
  row-at j lt = zip-at (IsGainRow g fix) (comparisons g fix) rows j (0, 0) [] is.tables.rows_are (omega (arith, lt, rows-count))

  entry-is : (k j : ℕ) → k < length (legal_plays g) → j < length rows + 1 → entry_in rows j k ≡ play_entry g fix (listed_play g k) j
  entry-is k zero lt below = refl
  entry-is k (suc j) lt below = (row-at j (omega (arith, below))).each k lt

  play-is : (k : ℕ) (d : Column) → k < length (legal_plays g) → play_of (get_or (map column_of (legal_plays g)) k d) ≡ listed_play g k
  play-is k d lt = ap play_of (column-is g k d lt) ∙ play-column (listed_play g k)

  pub tables-of : AreTablesOf (plays_program g fix) costs rows
  tables-of = record {
    costs_long = is.tables.costs_are.long ∙ sym (columns-count g);
    height = omega (arith, rows-count);
    rows_long = λ j lt. (row-at j lt).long ∙ sym (columns-count g);
    cost_at = λ k d lt.
        let within : k < length (legal_plays g) = omega (arith, lt, columns-count g) in
        is.tables.costs_are.each k within ∙ ap (cost g fix) (sym (play-is k d within));
    entry_at = λ k j d lt below.
        let within : k < length (legal_plays g) = omega (arith, lt, columns-count g) in
        entry-is k j within (omega (arith, below, rows-count)) ∙ ap (λ play. play_entry g fix play j) (sym (play-is k d within));
  }

  -- the entry and the cost at the place of a column
  pub entry-at : (col : Column) (row k : ℕ) → row < (plays_program g fix).height → k < count → column_of (listed_play g k) ≡ col → entry_in rows row k ≡ (plays_program g fix).entry col row
  entry-at col row k below lt e =
      let within : k < length (legal_plays g) = omega (arith, lt, is.counted, plays-count g) in
      entry-is k row within (omega (arith, below, rows-count)) ∙ ap (λ play. play_entry g fix play row) (sym (play-column (listed_play g k)) ∙ ap play_of e)

  pub cost-at : (col : Column) (k : ℕ) → k < count → column_of (listed_play g k) ≡ col → place costs k ≡ (plays_program g fix).cost col
  cost-at col k lt e =
      let within : k < length (legal_plays g) = omega (arith, lt, is.counted, plays-count g) in
      is.tables.costs_are.each k within ∙ ap (cost g fix) (sym (play-column (listed_play g k)) ∙ ap play_of e)

  pub row-long : (i : ℕ) → i < length rows → length (slice_index_or rows i []) ≡ count
  row-long i lt = (row-at i lt).long ∙ plays-count g ∙ sym is.counted

  pub costs-long : length costs ≡ count
  costs-long = is.tables.costs_are.long ∙ plays-count g ∙ sym is.counted

  pub columns-long : length (plays_program g fix).columns ≡ count
  columns-long = columns-count g ∙ plays-count g ∙ sym is.counted

  pub height-is : length rows + 1 ≡ (plays_program g fix).height
  height-is = omega (arith, rows-count)

  module _ (game : IsGame g) where
    pub few-rows : (plays_program g fix).height ≤ 1536
    few-rows = height-few g game is.unscaled fix is.is_fix

    pub sized : IsWithinLimits (plays_program g fix)
    sized = program_is_sized g game is.unscaled fix is.is_fix

    pub is-bounded : IsBounded (plays_program g fix)
    is-bounded = (bounding g fix, program_is_bounded g game is.unscaled fix is.is_fix)

-- what is kept, by the family's view
pub listing-by : (v inner : NodeOf) (count : ℕ) (costs : List ℤ) (rows : List (List ℤ)) → inner ≡ v → IsListing inner.game inner.fix count costs rows → IsListing v.game v.fix count costs rows
listing-by v inner count costs rows e is = subst (λ (z : NodeOf). IsListing z.game z.fix count costs rows) e is

pub game-by : (v inner : NodeOf) → inner ≡ v → IsGame inner.game → IsGame v.game
game-by v inner e is = subst (λ (z : NodeOf). IsGame z.game) e is

pub listed-by : (v inner : NodeOf) → inner ≡ v → (col : Column) → Contains (plays_program v.game v.fix).columns col → Contains (map column_of (legal_plays inner.game)) col
listed-by v inner e col h = subst (λ (z : NodeOf). Contains (map column_of (legal_plays z.game)) col) (sym e) h

pub entry-of : (v inner : NodeOf) (count : ℕ) (costs : List ℤ) (rows rs : List (List ℤ)) → inner ≡ v → IsListing inner.game inner.fix count costs rows → (col : Column) (row k : ℕ) (z : ℤ) → row < (plays_program v.game v.fix).height → k < count
    → column_of (listed_play inner.game k) ≡ col → rs ≡ rows → z ≡ entry_in rs row k → z ≡ (plays_program v.game v.fix).entry col row
entry-of v inner count costs rows rs e is col row k z below lt there er q =
    q ∙ ap (λ xs. entry_in xs row k) er
    ∙ entry-at v.game v.fix count costs rows (listing-by v inner count costs rows e is) col row k below lt (subst (λ (n : NodeOf). column_of (listed_play n.game k) ≡ col) e there)

pub cost-of : (v inner : NodeOf) (count : ℕ) (costs cs : List ℤ) (rows : List (List ℤ)) → inner ≡ v → IsListing inner.game inner.fix count costs rows → (col : Column) (k : ℕ) → k < count
    → column_of (listed_play inner.game k) ≡ col → cs ≡ costs → place cs k ≡ (plays_program v.game v.fix).cost col
cost-of v inner count costs cs rows e is col k lt there ec =
    ap (λ xs. place xs k) ec ∙ cost-at v.game v.fix count costs rows (listing-by v inner count costs rows e is) col k lt (subst (λ (n : NodeOf). column_of (listed_play n.game k) ≡ col) e there)

-- the tables as they are read
pub tables-read : (v inner : NodeOf) (count : ℕ) (costs cs : List ℤ) (rows rs : List (List ℤ)) → inner ≡ v → IsListing inner.game inner.fix count costs rows → cs ≡ costs → rs ≡ rows → AreTablesOf (plays_program v.game v.fix) cs rs
tables-read v inner count costs cs rows rs e is ec er =
    subst (λ z. AreTablesOf (plays_program v.game v.fix) z rs) (sym ec) (subst (λ z. AreTablesOf (plays_program v.game v.fix) costs z) (sym er) (tables-of v.game v.fix count costs rows (listing-by v inner count costs rows e is)))

pub row-room : (g : Game) (fix : Fix) (count : ℕ) (costs : List ℤ) (rows rs : List (List ℤ)) → IsListing g fix count costs rows → rs ≡ rows → (i : ℕ) → i < length rs → length (slice_index_or rs i []) ≡ count
row-room g fix count costs rows rs is e = subst (λ z. (i : ℕ) → i < length z → length (slice_index_or z i []) ≡ count) (sym e) (row-long g fix count costs rows is)

pub rows-read : (v inner : NodeOf) (count : ℕ) (costs : List ℤ) (rows rs : List (List ℤ)) → inner ≡ v → IsListing inner.game inner.fix count costs rows → rs ≡ rows → length rs + 1 ≡ (plays_program v.game v.fix).height
rows-read v inner count costs rows rs e is er = ap (λ z. length z + 1) er ∙ height-is v.game v.fix count costs rows (listing-by v inner count costs rows e is)

-- ---- what pricing answers

-- the column that is found is the one at its place
pub found-by : (v inner : NodeOf) → inner ≡ v → (k : ℕ) (a : Answer) (here c d : Column) → k < length (plays_program v.game v.fix).columns → a ≡ found (slice_index_or (plays_program v.game v.fix).columns k d)
    → here ≡ column_of (listed_play inner.game k) → a ≡ found c → here ≡ c
found-by v inner e k a here c d lt is at f =
    let same : found c ≡ found (slice_index_or (plays_program v.game v.fix).columns k d) = sym f ∙ is in
    let one : c ≡ slice_index_or (plays_program v.game v.fix).columns k d = found-same c (slice_index_or (plays_program v.game v.fix).columns k d) same in
    at ∙ ap (λ (n : NodeOf). column_of (listed_play n.game k)) e ∙ sym (column-is v.game k d (omega (arith, lt, columns-count v.game))) ∙ sym one
