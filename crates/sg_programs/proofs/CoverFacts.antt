-- The multipliers of a final state of a program over the coverage table are a fact.
use Rattle.std.proofs.Common.{◌≡◌, ◌∙◌, ℕ, zero, suc, ◌+◌, ◌<◌, ◌≤◌, Bool, true, false, cond, List, [], ◌∷◌, map, length, drop, sym, ap, subst, refl, arith, slice_index_or, flat_map, ◌*◌, inl, inr, Option, Some, None}
use Rattle.std.specs.Prelude.{ℤ, pos, ◌+ℤ◌, ◌*ℤ◌, ◌≤ℤ◌, ◌<ℤ◌, int_lt}
use Rattle.std.specs.List.{All, AllPairs, sum_by}
use Rattle.std.proofs.lemmas.Int.{ints}
use Rattle.std.proofs.lemmas.List.Elements.{All-cons, All-contains, All-head, All-map, All-nil, All-tail}
use Rattle.std.proofs.lemmas.List.{length-append, length-map}
use Rattle.std.proofs.lemmas.List.Sums.{sum_by-cons}
use Rattle.std.proofs.Math.Nat.{suc-mul}
use Rattle.std.proofs.lemmas.List.Kept.{AllPairs-cons}
use Rattle.sg_num.proofs.Laws.{zero-mul}
use Rattle.sg_model.specs.declared.kind.Kind.TheVariants.{Matrix, Security}
use Rattle.sg_model.specs.Games.{Game, Named, resource_count, resource_schedules, unnamed}
use Rattle.sg_model.specs.Limits.{AreMembers, IsDefended, IsGame, is_scaled}
use Rattle.sg_model.specs.Sums.{nth, numbers, numbers_from, total}
use Rattle.sg_model.proofs.Before.{pairs-none}
use Rattle.sg_model.proofs.Forms.{no_matrix}
use Rattle.sg_model.proofs.Numbers.{length-numbers_from}
use Rattle.sg_model.proofs.Promises.{game_cases, nth-all}
use Rattle.sg_tree.specs.declared.fact.Line.{Line}
use Rattle.sg_tree.specs.declared.fix.Fix.{Fix}
use Rattle.sg_bounds.specs.Coverage as table
use Rattle.sg_bounds.specs.Facts.{IsLineOf}
use Rattle.sg_bounds.proofs.Listed.{columns_are_all}
use Rattle.sg_linear.specs.Sums.{dot, sum_below}
use Rattle.sg_linear.proofs.SumLaws.{sum_below-ext}
use Rattle.sg_rows.specs.Rows.{place}
use Rattle.sg_lp.proofs.Values.{final_dual}
use Rattle.sg_programs.specs.CoverLaws.{CoverLooksAreEnough, FinalIsCoverFact, LinesRise}
use Rattle.sg_programs.specs.CoverPrograms.{column_numbered, cover_program, lines_from, table_column, table_row}
use Rattle.sg_programs.specs.Enough.{coverage_columns, enough_looks, partial_count}
use Rattle.sg_programs.proofs.Columns.{few_resources}
use Rattle.sg_programs.proofs.CoverColumns.{columns-told}
use Rattle.sg_programs.proofs.Looks.{looks-few}
use Rattle.sg_programs.proofs.Multipliers.{is-zero, sum-first}

-- ---- the columns in turn

-- as many as are enough
columns-count : (g : Game) → length (table.columns g) ≡ coverage_columns g
columns-count g =
    let choices : List table.Column = flat_map (λ r. map (table.chooses r) (numbers (length (resource_schedules g r)))) (numbers (resource_count g)) in
    let targets : List table.Column = map table.covering (numbers (length g.goals)) in
    omega (arith, length-append choices targets, each 1 (resource_count g), length-map (numbers (length g.goals)) table.covering, length-numbers_from 1 (length g.goals))
  where
    each : (a n : ℕ) → length (flat_map (λ r. map (table.chooses r) (numbers (length (resource_schedules g r)))) (numbers_from a n)) ≡ sum_by (λ (r : ℕ). length (resource_schedules g r)) (numbers_from a n)
    each a zero = refl
    each a (suc n) =
        let one : List table.Column = map (table.chooses a) (numbers (length (resource_schedules g a))) in
        omega (
          arith,
          length-append one (flat_map (λ r. map (table.chooses r) (numbers (length (resource_schedules g r)))) (numbers_from (a + 1) n)),
          length-map (numbers (length (resource_schedules g a))) (table.chooses a),
          length-numbers_from 1 (length (resource_schedules g a)),
          each (a + 1) n,
          sum_by-cons (λ (r : ℕ). length (resource_schedules g r)) a (numbers_from (a + 1) n),
        )

pub cover_looks_are_enough : CoverLooksAreEnough
cover_looks_are_enough g security fix y rho =
    let p = cover_program g fix in
    let few = looks-few p y rho p.columns in
    let all : length p.columns ≡ length (table.columns g) = length-map (numbers (length (table.columns g))) column_numbered ∙ length-numbers_from 1 (length (table.columns g)) in
    let enough : enough_looks g ≡ partial_count g 1 (resource_count g) + coverage_columns g = rw (no_matrix g security) refl in
    omega (arith, few, all, columns-count g, enough)

-- ---- the lines

-- the sum over the lines is the sum over all rows
lined-sum : (h : ℕ → ℤ) (n : ℕ) (vs : List ℤ) → All (λ v. pos 0 ≤ℤ v) vs → total (λ (x : Line). x.v *ℤ h x.row) (lines_from n vs) ≡ sum_below (length vs) (λ k. place vs k *ℤ h (n + k))
lined-sum h n [] low = refl
lined-sum h n (v ∷ vs) low = by (lined-sum h (n + 1) vs (All-tail (λ v. pos 0 ≤ℤ v) v vs low)) (int_lt (pos 0) v) refl
  where
    first : sum_below (suc (length vs)) (λ k. place (v ∷ vs) k *ℤ h (n + k)) ≡ v *ℤ h n +ℤ sum_below (length vs) (λ k. place vs k *ℤ h (n + 1 + k))
    first =
        let start : n + 0 ≡ n = omega arith in
        sum-first (length vs) (λ k. place (v ∷ vs) k *ℤ h (n + k)) ∙ ap (λ (m : ℕ). (v *ℤ h m) +ℤ sum_below (length vs) (λ k. place vs k *ℤ h (n + suc k))) start
        ∙ ap (λ (z : ℤ). (v *ℤ h n) +ℤ z)
        (sum_below-ext (length vs) (λ k. place vs k *ℤ h (n + suc k)) (λ k. place vs k *ℤ h (n + 1 + k)) (λ k lt. let e : n + suc k ≡ n + 1 + k = omega arith in ap (λ (m : ℕ). place vs k *ℤ h m) e))

    by : total (λ (x : Line). x.v *ℤ h x.row) (lines_from (n + 1) vs) ≡ sum_below (length vs) (λ k. place vs k *ℤ h (n + 1 + k)) → (t : Bool) → int_lt (pos 0) v ≡ t
        → total (λ (x : Line). x.v *ℤ h x.row) (cond t (record { row = n; v = v } ∷ lines_from (n + 1) vs) (lines_from (n + 1) vs)) ≡ sum_below (suc (length vs)) (λ k. place (v ∷ vs) k *ℤ h (n + k))
    by rest true e = ap (λ (z : ℤ). (v *ℤ h n) +ℤ z) rest ∙ sym first
    by rest false e =
        let none : v *ℤ h n ≡ pos 0 = ap (λ (z : ℤ). z *ℤ h n) (is-zero v (All-head (λ v. pos 0 ≤ℤ v) v vs low) e) ∙ zero-mul (h n) in
        omega (arith, ints, rest, first, none)

-- each line names a row
lines-are : (g : Game) (fix : Fix) (n : ℕ) (vs : List ℤ) → 1 ≤ n → n + length vs ≤ length (table.table_rows g fix) + 1 → All (IsLineOf g fix) (lines_from n vs)
lines-are g fix n [] low high = All-nil (IsLineOf g fix)
lines-are g fix n (v ∷ vs) low high = by (lines-are g fix (n + 1) vs (omega arith) (omega (arith, high))) (int_lt (pos 0) v) refl
  where
    by : All (IsLineOf g fix) (lines_from (n + 1) vs) → (t : Bool) → int_lt (pos 0) v ≡ t → All (IsLineOf g fix) (cond t (record { row = n; v = v } ∷ lines_from (n + 1) vs) (lines_from (n + 1) vs))
    by rest false e = rest
    by rest true e =
        let above : pos 0 <ℤ v = grind (arith, ints, e) in
        All-cons (IsLineOf g fix) (record { row = n; v = v }) (lines_from (n + 1) vs) (record { from_one = low; in_range = omega (arith, high); positive = omega (arith, ints, above) }) rest

-- they rise
lines-behind : (m n : ℕ) (vs : List ℤ) → m < n → All (λ (x : Line). m < x.row) (lines_from n vs)
lines-behind m n [] lt = All-nil (λ (x : Line). m < x.row)
lines-behind m n (v ∷ vs) lt = by (lines-behind m (n + 1) vs (omega (arith, lt))) (int_lt (pos 0) v)
  where
    by : All (λ (x : Line). m < x.row) (lines_from (n + 1) vs) → (t : Bool) → All (λ (x : Line). m < x.row) (cond t (record { row = n; v = v } ∷ lines_from (n + 1) vs) (lines_from (n + 1) vs))
    by rest false = rest
    by rest true = All-cons (λ (x : Line). m < x.row) (record { row = n; v = v }) (lines_from (n + 1) vs) lt rest

pub lines_rise : LinesRise
lines_rise n [] = pairs-none (λ (x y : Line). x.row < y.row)
lines_rise n (v ∷ vs) = by (lines_rise (n + 1) vs) (int_lt (pos 0) v)
  where
    by : AllPairs (λ (x y : Line). x.row < y.row) (lines_from (n + 1) vs) → (t : Bool) → AllPairs (λ (x y : Line). x.row < y.row) (cond t (record { row = n; v = v } ∷ lines_from (n + 1) vs) (lines_from (n + 1) vs))
    by rest false = rest
    by rest true = AllPairs-cons (λ (x y : Line). x.row < y.row) (record { row = n; v = v }) (lines_from (n + 1) vs) (lines-behind n (n + 1) vs (omega arith)) rest

-- ---- the product with the entries of a column

product-is : (g : Game) (fix : Fix) (c : table.Column) (y : List ℤ) → length y ≡ length (table.table_rows g fix) + 1 → All (λ v. pos 0 ≤ℤ v) y
    → dot (length (table.table_rows g fix) + 1) (place y) (λ j. table.entry g fix (table_row g fix j) c)
    ≡ (place y 0 *ℤ table.entry g fix table.whole c) +ℤ total (λ (x : Line). x.v *ℤ table.entry g fix (table.row_of g fix x) c) (lines_from 1 (drop 1 y))
product-is g fix c [] long low = absurd (omega (arith, long))
product-is g fix c (v ∷ vs) long low =
    let h : ℕ → ℤ = λ j. table.entry g fix (table_row g fix j) c in
    let f : ℕ → ℤ = λ j. place (v ∷ vs) j *ℤ h j in
    let n : length (table.table_rows g fix) + 1 ≡ suc (length vs) = sym long in
    let all = lined-sum h 1 vs (All-tail (λ v. pos 0 ≤ℤ v) v vs low) in
    ap (λ (k : ℕ). sum_below k f) n ∙ sum-first (length vs) f ∙ ap (λ (z : ℤ). (v *ℤ h 0) +ℤ z) (sum_below-ext (length vs) (λ k. place vs k *ℤ h (suc k)) (λ k. place vs k *ℤ h (1 + k)) (λ k lt. let e : suc k ≡ 1 + k = omega arith in ap (λ (m : ℕ). place vs k *ℤ h m) e) ∙ sym all)

pub final_is_cover_fact : FinalIsCoverFact
final_is_cover_fact g security fix t is final =
    let p = cover_program g fix in
    let dual = final_dual p t is final in
    let long : length t.y ≡ length (table.table_rows g fix) + 1 = is.shaped.y_long in
    let low : All (λ v. pos 0 ≤ℤ v) t.y = λ i d lt. subst (λ z. pos 0 ≤ℤ z) (same t.y i d lt) (dual.above i (omega (arith, lt, long))) in
    record {
      security = security;
      rho_positive = dual.rho;
      mu_nonneg = dual.above 0 (omega arith);
      lines_of = lines-are g fix 1 (drop 1 t.y) (omega arith) (rest-long t.y (length (table.table_rows g fix)) long);
      each = λ c known.
          let P : table.Column → Type 0 = λ d. (t.rho *ℤ table.column_cost g fix d) ≤ℤ dot p.height (place t.y) (λ j. table.entry g fix (table_row g fix j) d) in
          let all : All P (table.columns g) = subst (All P) (columns-told g) (All-map P (table_column g) p.columns dual.bounds) in
          let here = All-contains P (table.columns g) c all ((columns_are_all g).complete c known) in
          omega (arith, ints, here, product-is g fix c t.y long low);
    }
  where
    same : (xs : List ℤ) (i : ℕ) (d : ℤ) → i < length xs → place xs i ≡ slice_index_or xs i d
    same [] i d lt = absurd (omega arith)
    same (x ∷ xs) zero d lt = refl
    same (x ∷ xs) (suc i) d lt = same xs i d (omega (arith, lt))

    rest-long : (xs : List ℤ) (n : ℕ) → length xs ≡ n + 1 → 1 + length (drop 1 xs) ≤ n + 1
    rest-long [] n e = absurd (omega (arith, e))
    rest-long (x ∷ xs) n e = omega (arith, e)

-- ---- numbers of columns

few-each : (g : Game) → IsGame g → g.scale ≡ pos 0 → g.kind ≡ Security → (length g.goals ≤ 200) × ((r : ℕ) → 1 ≤ r → r ≤ resource_count g → length (resource_schedules g r) ≤ 500)
few-each g h unscaled security = elim (game_cases g h) [
  | inl s ↦ (
      let plain : is_scaled g ≡ false = ap (λ (z : ℤ). int_lt (pos 0) z) unscaled in
      let targets = rw plain at s.game.target_count.at_most in
      (targets, by targets g.patrols refl s.game.defended))
  | inr m ↦ absurd (let e : Security ≡ Matrix = sym security ∙ m.kind in cc)
]
  where
    by : length g.goals ≤ 200 → (o : Option ℕ) → g.patrols ≡ o → IsDefended g o → (r : ℕ) → 1 ≤ r → r ≤ resource_count g → length (resource_schedules g r) ≤ 500
    by targets (Some n) e d r low high = let is : resource_schedules g r ≡ numbers (length g.goals) = rw e refl in omega (arith, ap length is, length-numbers_from 1 (length g.goals), targets)
    by targets None e d r low high =
        let is : resource_schedules g r ≡ (nth g.resources r unnamed).members = rw e refl in
        let count : resource_count g ≡ length g.resources = rw e refl in
        let few = (nth-all (λ (x : Named). AreMembers (length g.schedules) 500 x.members) g.resources unnamed d.resources.members r low (omega (arith, high, count))).size.at_most in
        omega (arith, ap length is, few)

sum-few : (f : ℕ → ℕ) (a n m : ℕ) → ((r : ℕ) → a ≤ r → r < a + n → f r ≤ m) → sum_by f (numbers_from a n) ≤ n * m
sum-few f a zero m h = omega arith
sum-few f a (suc n) m h =
    let here = h a (omega arith) (omega arith) in
    let rest = sum-few f (a + 1) n m (λ r low high. h r (omega (arith, low)) (omega (arith, high))) in
    let more : suc n * m ≡ n * m + m = suc-mul n m in
    omega (arith, sum_by-cons f a (numbers_from (a + 1) n), here, rest, more)

-- without a scale each number fits 16 bits
pub columns-few : (g : Game) → IsGame g → g.scale ≡ pos 0 → g.kind ≡ Security → length (table.columns g) ≤ 16201
columns-few g h unscaled security =
    let few = few-each g h unscaled security in
    let sum = sum-few (λ (r : ℕ). length (resource_schedules g r)) 1 (resource_count g) 500 (λ r low high. few.1 r low (omega (arith, high))) in
    omega (arith, columns-count g, sum, few.0, few_resources g h unscaled)
