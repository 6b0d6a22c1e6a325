-- The comparisons of a node, in their order.
use Rattle.std.proofs.Common.{◌≡◌, ◌≢◌, ℕ, zero, suc, ◌+◌, ◌-◌, ◌<◌, ◌≤◌, Bool, true, false, cond, List, [], ◌∷◌, length, sym, ◌∙◌, ap, subst, refl, arith, inl, inr, not, eqb, slice_index, slice_index_or, flat_map}
use Rattle.std.specs.Prelude.{nat_eq}
use Rattle.std.specs.List.{All, AllPairs, Contains, filter, zip}
use Rattle.std.proofs.lemmas.Bool.{cases_eq}
use Rattle.std.proofs.lemmas.Bool.Decides.{nat_tests}
use Rattle.std.proofs.lemmas.List.Elements.{All-append, All-filter, All-map, All-nil, All-weaker, filter_passes}
use Rattle.std.proofs.lemmas.List.Kept.{AllPairs-cons, AllPairs-filter}
use Rattle.sg_model.specs.Sums.{numbers, numbers_from}
use Rattle.sg_model.specs.Games.{Game, action_count}
use Rattle.sg_model.proofs.Before.{pairs-append, pairs-map, pairs-none}
use Rattle.sg_model.proofs.Greatest.{Contains-head, Contains-tail}
use Rattle.sg_model.proofs.Lists.{All-flat_map}
use Rattle.sg_model.proofs.Numbers.{All-numbers, All-numbers_from}
use Rattle.sg_model.proofs.Payoffs.{Contains-flat_map, Contains-map}
use Rattle.sg_tree.specs.declared.fix.Fix.{Fix}
use Rattle.sg_bounds.specs.Regions.{act_of, fixed}
use Rattle.sg_bounds.proofs.Cover.{fixed_pairs}
use Rattle.sg_bounds.specs.PlayRows.{other_actions}
use Rattle.sg_programs.specs.Laws.{ComesBefore, IsComparison, RowsAreComparisons}

abbrev pub apart : ℕ → ℕ → Bool
apart a b = not (nat_eq a b)

abbrev InRange : ℕ → ℕ → Type 0
InRange n b = (1 ≤ b) × (b ≤ n)

-- ---- the other actions of one type

others-are : (g : Game) (fix : Fix) (l a : ℕ) → fix.first ≤ l → l < fix.first + length fix.acts → act_of fix l ≡ a → All (IsComparison g fix) (other_actions g (l, a))
others-are g fix l a low high is =
    let n : ℕ = action_count g l in
    let kept : List ℕ = filter (apart a) (numbers n) in
    let range : All (InRange n) kept = All-filter (apart a) (InRange n) (numbers n) (All-numbers (InRange n) n (λ b from_one in_range. (from_one, in_range))) in
    let pass = filter_passes (apart a) (numbers n) in
    All-map (IsComparison g fix) (λ b. (l, b)) kept
    (λ i d lt.
    let b : ℕ = slice_index_or kept i d in
    let r = range i d lt in
    let p : apart a b ≡ true = pass i d lt in
    record {
      from_first = low;
      in_range = high;
      from_one = r.0;
      action = r.1;
      other = λ same. let z : nat_eq a b ≡ true = (let q : a ≡ b = sym is ∙ sym same in grind (arith, nat_tests)) in let y : false ≡ true = ap not (sym z) ∙ p in cc;
    })

pub kept-inside : (a b s m : ℕ) → a ≢ b → s ≤ b → b < s + m → Contains (filter (apart a) (numbers_from s m)) b
kept-inside a b s zero ne low high = absurd (omega arith)
kept-inside a b s (suc m) ne low high =
    let rest : List ℕ = filter (apart a) (numbers_from (s + 1) m) in
    elim (cases_eq s b) [
      | inl same ↦ (
          let e : eqb a s ≡ false = grind (arith, nat_tests) in
          rw e (subst (λ (x : ℕ). Contains (s ∷ rest) x) same (Contains-head s rest)))
      | inr other ↦ (
          let inside = kept-inside a b (s + 1) m ne (omega arith) (omega arith) in
          elim (apart a s) as (λ (t : Bool). Contains (cond t (s ∷ rest) rest) b) [ true ↦ Contains-tail s rest b inside | false ↦ inside ])
    ]

others-inside : (g : Game) (l a b : ℕ) → a ≢ b → 1 ≤ b → b ≤ action_count g l → Contains (other_actions g (l, a)) (l, b)
others-inside g l a b ne low high =
    Contains-map (λ (c : ℕ). (l, c)) (filter (apart a) (numbers (action_count g l))) b (kept-inside a b 1 (action_count g l) ne low (omega (arith, high)))

rise-numbers : (a m : ℕ) → AllPairs (λ b c. b < c) (numbers_from a m)
rise-numbers a zero = pairs-none (λ b c. b < c)
rise-numbers a (suc m) = AllPairs-cons (λ b c. b < c) a (numbers_from (a + 1) m) (All-numbers_from (λ t. a < t) (a + 1) m (λ t low high. omega (arith, low))) (rise-numbers (a + 1) m)

others-rise : (g : Game) (l a : ℕ) → AllPairs ComesBefore (other_actions g (l, a))
others-rise g l a =
    let kept : List ℕ = filter (apart a) (numbers (action_count g l)) in
    pairs-map (λ b c. b < c) ComesBefore (λ b. (l, b)) (λ b c less. inr (refl, less)) kept
    (AllPairs-filter (λ b c. b < c) (apart a) (numbers (action_count g l)) (rise-numbers 1 (action_count g l)))

-- ---- the types in turn

abbrev pairs_from : ℕ → List ℕ → List (ℕ × ℕ)
pairs_from a acts = zip (numbers_from a (length acts)) acts

pub fixed-inside : (a : ℕ) (acts : List ℕ) (l : ℕ) → a ≤ l → l < a + length acts → Contains (pairs_from a acts) (l, slice_index acts (l - a))
fixed-inside a [] l low high = absurd (omega arith)
fixed-inside a (c ∷ cs) l low high =
    let rest : List (ℕ × ℕ) = pairs_from (a + 1) cs in
    elim (cases_eq a l) [
      | inl same ↦ (
          let off : l - a ≡ 0 = omega (arith, same) in
          rw off (subst (λ (m : ℕ). Contains ((a, c) ∷ rest) (m, c)) same (Contains-head (a, c) rest)))
      | inr other ↦ (
          let off : l - a ≡ suc (l - (a + 1)) = omega arith in
          rw off (Contains-tail (a, c) rest (l, slice_index cs (l - (a + 1))) (fixed-inside (a + 1) cs l (omega arith) (omega arith))))
    ]

abbrev From : ℕ → ℕ × ℕ → Type 0
From a m = a ≤ m.0

types-from : (g : Game) (a : ℕ) (acts : List ℕ) → All (From a) (flat_map (other_actions g) (pairs_from a acts))
types-from g a [] = All-nil (From a)
types-from g a (c ∷ cs) =
    let rest : List (ℕ × ℕ) = pairs_from (a + 1) cs in
    All-append (From a) (other_actions g (a, c)) (flat_map (other_actions g) rest)
    (All-map (From a) (λ b. (a, b)) (filter (apart c) (numbers (action_count g a))) (λ i d lt. omega arith))
    (All-weaker (From (a + 1)) (From a) (λ m h. omega (arith, h)) (flat_map (other_actions g) rest) (types-from g (a + 1) cs))

types-rise : (g : Game) (a : ℕ) (acts : List ℕ) → AllPairs ComesBefore (flat_map (other_actions g) (pairs_from a acts))
types-rise g a [] = pairs-none ComesBefore
types-rise g a (c ∷ cs) =
    let rest : List (ℕ × ℕ) = flat_map (other_actions g) (pairs_from (a + 1) cs) in
    let later = types-from g (a + 1) cs in
    pairs-append ComesBefore (other_actions g (a, c)) rest (others-rise g a c) (types-rise g (a + 1) cs)
    (All-map (λ (m : ℕ × ℕ). All (ComesBefore m) rest) (λ b. (a, b)) (filter (apart c) (numbers (action_count g a)))
    (λ i d lt j e within. let h = later j e within in inl (omega (arith, h))))

pub rows_are_comparisons : RowsAreComparisons
rows_are_comparisons g fix is_fix = record {
  each = All-flat_map (IsComparison g fix) (other_actions g) (fixed fix)
      (λ i d lt.
      let p : ℕ × ℕ = slice_index_or (fixed fix) i d in
      let pair = fixed_pairs fix i d lt in
      others-are g fix p.0 p.1 pair.low pair.high pair.act);
  complete = λ m is.
      Contains-flat_map (other_actions g) (fixed fix) (m.0, act_of fix m.0) m (fixed-inside fix.first fix.acts m.0 is.from_first is.in_range)
      (others-inside g m.0 (act_of fix m.0) m.1 (λ same. is.other (sym same)) is.from_one is.action);
  rising = types-rise g fix.first fix.acts;
}
