-- The multipliers of a final state are a fact.
use Rattle.std.proofs.Common.{◌≡◌, ◌∙◌, ℕ, zero, suc, ◌+◌, ◌<◌, Bool, true, false, cond, List, [], ◌∷◌, length, drop, sym, ap, subst, refl, arith, slice_index_or, get_or}
use Rattle.std.specs.Prelude.{ℤ, pos, ◌+ℤ◌, ◌*ℤ◌, ◌≤ℤ◌, ◌<ℤ◌, int_lt}
use Rattle.std.specs.List.{All, AllPairs}
use Rattle.std.proofs.lemmas.Int.{ints}
use Rattle.std.proofs.lemmas.List.Elements.{All-cons, All-contains, All-head, All-nil, All-tail}
use Rattle.std.proofs.lemmas.List.Kept.{AllPairs-cons}
use Rattle.sg_num.proofs.Laws.{mul-comm, one-mul, zero-mul}
use Rattle.sg_model.specs.Games.{Game}
use Rattle.sg_model.specs.PlayLists.{legal_plays}
use Rattle.sg_model.specs.Sums.{total}
use Rattle.sg_model.proofs.Before.{pairs-head, pairs-none, pairs-tail}
use Rattle.sg_model.proofs.LegalPlays.{legal_plays-complete}
use Rattle.sg_model.proofs.Payoffs.{Contains-map}
use Rattle.sg_tree.specs.declared.fact.Mark.{Mark}
use Rattle.sg_tree.specs.declared.fix.Fix.{Fix}
use Rattle.sg_bounds.specs.Facts.{IsMarkOf, cost, regret}
use Rattle.sg_linear.specs.Sums.{dot, sum_below}
use Rattle.sg_rows.specs.Rows.{place}
use Rattle.sg_lp.specs.declared.column.Column.{Column}
use Rattle.sg_lp.proofs.Values.{final_dual}
use Rattle.sg_programs.specs.FactLaws.{FinalIsFact, MarksRise}
use Rattle.sg_programs.specs.Laws.{ComesBefore, IsComparison}
use Rattle.sg_programs.specs.Marks.{marks_of}
use Rattle.sg_programs.specs.Plays.{column_of, plays_program}
use Rattle.sg_bounds.specs.PlayRows.{comparisons, gain, play_entry}
use Rattle.sg_programs.proofs.Columns.{play-column}
use Rattle.sg_programs.proofs.Comparisons.{rows_are_comparisons}

-- a sum by its first term
pub sum-first : (n : ℕ) (f : ℕ → ℤ) → sum_below (suc n) f ≡ f 0 +ℤ sum_below n (λ k. f (suc k))
sum-first zero f = omega (arith, ints)
sum-first (suc n) f = ap (λ z. z +ℤ f (suc n)) (sum-first n f) ∙ omega (arith, ints)

pub is-zero : (v : ℤ) → pos 0 ≤ℤ v → int_lt (pos 0) v ≡ false → v ≡ pos 0
is-zero v low e = let high : v ≤ℤ pos 0 = grind (arith, ints, e) in omega (arith, ints, low, high)

-- the sum over the marks is the sum over all comparisons
marked-sum : (h : ℕ × ℕ → ℤ) (ms : List (ℕ × ℕ)) (vs : List ℤ) → length vs ≡ length ms → All (λ v. pos 0 ≤ℤ v) vs
    → total (λ (m : Mark). m.v *ℤ h (m.l, m.a)) (marks_of ms vs) ≡ sum_below (length ms) (λ k. place vs k *ℤ h (get_or ms k (0, 0)))
marked-sum h [] vs long low = refl
marked-sum h (m ∷ ms) [] long low = absurd (omega (arith, long))
marked-sum h (m ∷ ms) (v ∷ vs) long low = by (marked-sum h ms vs (omega (arith, long)) (All-tail (λ v. pos 0 ≤ℤ v) v vs low)) (int_lt (pos 0) v) refl
  where
    split : sum_below (suc (length ms)) (λ k. place (v ∷ vs) k *ℤ h (get_or (m ∷ ms) k (0, 0))) ≡ v *ℤ h m +ℤ sum_below (length ms) (λ k. place vs k *ℤ h (get_or ms k (0, 0)))
    split = sum-first (length ms) (λ k. place (v ∷ vs) k *ℤ h (get_or (m ∷ ms) k (0, 0)))

    by : total (λ (m : Mark). m.v *ℤ h (m.l, m.a)) (marks_of ms vs) ≡ sum_below (length ms) (λ k. place vs k *ℤ h (get_or ms k (0, 0))) → (t : Bool) → int_lt (pos 0) v ≡ t
        → total (λ (m : Mark). m.v *ℤ h (m.l, m.a)) (cond t (record { l = m.0; a = m.1; v = v } ∷ marks_of ms vs) (marks_of ms vs))
        ≡ sum_below (suc (length ms)) (λ k. place (v ∷ vs) k *ℤ h (get_or (m ∷ ms) k (0, 0)))
    by rest true e = ap (λ z. v *ℤ h m +ℤ z) rest ∙ sym split
    by rest false e =
        let none : v *ℤ h m ≡ pos 0 = ap (λ z. z *ℤ h m) (is-zero v (All-head (λ v. pos 0 ≤ℤ v) v vs low) e) ∙ zero-mul (h m) in
        omega (arith, ints, rest, split, none)

-- each mark is one of the node
marks-are : (g : Game) (fix : Fix) (ms : List (ℕ × ℕ)) (vs : List ℤ) → All (IsComparison g fix) ms → All (IsMarkOf g fix) (marks_of ms vs)
marks-are g fix [] vs all = All-nil (IsMarkOf g fix)
marks-are g fix (m ∷ ms) [] all = All-nil (IsMarkOf g fix)
marks-are g fix (m ∷ ms) (v ∷ vs) all = by (marks-are g fix ms vs (All-tail (IsComparison g fix) m ms all)) (int_lt (pos 0) v) refl
  where
    by : All (IsMarkOf g fix) (marks_of ms vs) → (t : Bool) → int_lt (pos 0) v ≡ t → All (IsMarkOf g fix) (cond t (record { l = m.0; a = m.1; v = v } ∷ marks_of ms vs) (marks_of ms vs))
    by rest false e = rest
    by rest true e =
        let is = All-head (IsComparison g fix) m ms all in
        let above : pos 0 <ℤ v = grind (arith, ints, e) in
        All-cons (IsMarkOf g fix) (record { l = m.0; a = m.1; v = v }) (marks_of ms vs)
        (record { from_first = is.from_first; in_range = is.in_range; from_one = is.from_one; action = is.action; other = is.other; positive = omega (arith, ints, above) }) rest

-- they rise as the comparisons do
abbrev MarkBefore : Mark → Mark → Type 0
MarkBefore m n = ComesBefore (m.l, m.a) (n.l, n.a)

marks-behind : (m : ℕ × ℕ) (v : ℤ) (ms : List (ℕ × ℕ)) (vs : List ℤ) → All (ComesBefore m) ms → All (MarkBefore (record { l = m.0; a = m.1; v = v })) (marks_of ms vs)
marks-behind m v [] vs all = All-nil (MarkBefore (record { l = m.0; a = m.1; v = v }))
marks-behind m v (n ∷ ns) [] all = All-nil (MarkBefore (record { l = m.0; a = m.1; v = v }))
marks-behind m v (n ∷ ns) (w ∷ ws) all = by (marks-behind m v ns ws (All-tail (ComesBefore m) n ns all)) (int_lt (pos 0) w)
  where
    by : All (MarkBefore (record { l = m.0; a = m.1; v = v })) (marks_of ns ws) → (t : Bool) → All (MarkBefore (record { l = m.0; a = m.1; v = v })) (cond t (record { l = n.0; a = n.1; v = w } ∷ marks_of ns ws) (marks_of ns ws))
    by rest false = rest
    by rest true = All-cons (MarkBefore (record { l = m.0; a = m.1; v = v })) (record { l = n.0; a = n.1; v = w }) (marks_of ns ws) (All-head (ComesBefore m) n ns all) rest

marks-rise : (ms : List (ℕ × ℕ)) (vs : List ℤ) → AllPairs ComesBefore ms → AllPairs MarkBefore (marks_of ms vs)
marks-rise [] vs h = pairs-none MarkBefore
marks-rise (m ∷ ms) [] h = pairs-none MarkBefore
marks-rise (m ∷ ms) (v ∷ vs) h = by (marks-rise ms vs (pairs-tail ComesBefore m ms h)) (int_lt (pos 0) v)
  where
    by : AllPairs MarkBefore (marks_of ms vs) → (t : Bool) → AllPairs MarkBefore (cond t (record { l = m.0; a = m.1; v = v } ∷ marks_of ms vs) (marks_of ms vs))
    by rest false = rest
    by rest true = AllPairs-cons MarkBefore (record { l = m.0; a = m.1; v = v }) (marks_of ms vs) (marks-behind m v ms vs (pairs-head ComesBefore m ms h)) rest

pub marks_rise : MarksRise
marks_rise g fix is_fix vs = marks-rise (comparisons g fix) vs (rows_are_comparisons g fix is_fix).rising

-- ---- the product with the entries of a play

places-drop : (y : List ℤ) (k : ℕ) → place (drop 1 y) k ≡ place y (suc k)
places-drop [] k = refl
places-drop (v ∷ vs) k = refl

product-is : (g : Game) (fix : Fix) (play : List ℕ) (y : List ℤ) → length y ≡ length (comparisons g fix) + 1 → All (λ v. pos 0 ≤ℤ v) y
    → dot (length (comparisons g fix) + 1) (place y) (play_entry g fix play) ≡ place y 0 +ℤ regret g fix (marks_of (comparisons g fix) (drop 1 y)) play
product-is g fix play [] long low = absurd (omega (arith, long))
product-is g fix play (v ∷ vs) long low =
    let ms : List (ℕ × ℕ) = comparisons g fix in
    let f : ℕ → ℤ = λ j. place (v ∷ vs) j *ℤ play_entry g fix play j in
    let next : length ms + 1 ≡ suc (length ms) = omega arith in
    let first : v *ℤ pos 1 ≡ v = mul-comm v (pos 1) ∙ one-mul v in
    let all = marked-sum (gain g fix play) ms vs (omega (arith, long)) (All-tail (λ v. pos 0 ≤ℤ v) v vs low) in
    ap (λ n. sum_below n f) next ∙ sum-first (length ms) f ∙ ap (λ z. z +ℤ sum_below (length ms) (λ k. f (suc k))) first ∙ ap (λ z. v +ℤ z) (sym all)

pub final_is_fact : FinalIsFact
final_is_fact g game unscaled fix is_fix t is final =
    let p = plays_program g fix in
    let dual = final_dual p t is final in
    let long : length t.y ≡ length (comparisons g fix) + 1 = is.shaped.y_long in
    let low : All (λ v. pos 0 ≤ℤ v) t.y = λ i d lt. subst (λ z. pos 0 ≤ℤ z) (same t.y i d lt) (dual.above i (omega (arith, lt, long))) in
    record {
      rho_positive = dual.rho;
      mu_nonneg = dual.above 0 (omega arith);
      marks_of = marks-are g fix (comparisons g fix) (drop 1 t.y) (rows_are_comparisons g fix is_fix).each;
      each = λ play legal.
          let c : Column = column_of play in
          let bound = All-contains (λ (c : Column). (t.rho *ℤ p.cost c) ≤ℤ dot p.height (place t.y) (p.entry c)) p.columns c dual.bounds (Contains-map column_of (legal_plays g) play (legal_plays-complete g play legal)) in
          let here : (t.rho *ℤ cost g fix play) ≤ℤ dot (length (comparisons g fix) + 1) (place t.y) (play_entry g fix play) =
          subst (λ q. (t.rho *ℤ cost g fix q) ≤ℤ dot (length (comparisons g fix) + 1) (place t.y) (play_entry g fix q)) (play-column play) bound in
          omega (arith, ints, here, product-is g fix play t.y long low);
    }
  where
    same : (xs : List ℤ) (i : ℕ) (d : ℤ) → i < length xs → place xs i ≡ slice_index_or xs i d
    same [] i d lt = absurd (omega arith)
    same (x ∷ xs) zero d lt = refl
    same (x ∷ xs) (suc i) d lt = same xs i d (omega (arith, lt))
