-- The rows of a node's programs, by their numbers.
use Rattle.std.proofs.Common.{◌≡◌, ℕ, zero, suc, ◌+◌, ◌-◌, ◌*◌, ◌<◌, ◌≤◌, Bool, true, false, cond, List, [], ◌∷◌, ◌++◌, length, map, sym, ◌∙◌, ap, refl, arith, get_or, eqb, nat_lt, not, flat_map, slice_index, length-append, inl, inr}
use Rattle.std.specs.List.{All, filter, zip}
use Rattle.std.specs.Prelude.{nat_eq, sum_by}
use Rattle.std.proofs.lemmas.Bool.{cases_eq}
use Rattle.std.proofs.lemmas.Bool.Decides.{nat_tests}
use Rattle.std.proofs.lemmas.List.{get_or_append_left, get_or-append-add, length-map}
use Rattle.std.proofs.lemmas.List.Elements.{All-head, All-tail}
use Rattle.std.proofs.lemmas.List.Sums.{sum_by-cons}
use Rattle.std.proofs.Math.Nat.{suc-mul, zero-mul}
use Rattle.sg_model.specs.declared.kind.Kind.TheVariants.{Security}
use Rattle.sg_model.specs.Sums.{nth, numbers, numbers_from}
use Rattle.sg_model.specs.Games.{Game, action_count, resource_count}
use Rattle.sg_model.proofs.Forms.{no_matrix}
use Rattle.sg_model.proofs.Numbers.{length-numbers_from, nth-map, nth-numbers_from}
use Rattle.sg_bounds.specs.Regions.{fixed}
use Rattle.sg_bounds.specs.Coverage.{Row, gains, held, others, table_rows, spends, whole, within}
use Rattle.sg_bounds.specs.PlayRows.{other_actions}
use Rattle.sg_bounds.specs.RowLaws.{PlayRowsAreCounted, RowsInOrder, other_than}

-- ---- places of an append, and of mapped numbers

nth-left : {X : Type 0} (xs ys : List X) (i : ℕ) (d : X) → 1 ≤ i → i ≤ length xs → nth (xs ++ ys) i d ≡ nth xs i d
nth-left xs ys zero d low high = absurd (omega arith)
nth-left xs ys (suc k) d low high = get_or_append_left xs ys d k (omega arith)

nth-right : {X : Type 0} (xs ys : List X) (i m : ℕ) (d : X) → length xs ≡ m → 1 ≤ i → nth (xs ++ ys) (m + i) d ≡ nth ys i d
nth-right xs ys zero m d e low = absurd (omega arith)
nth-right xs ys (suc k) m d e low =
    let f : m + suc k ≡ suc (length xs + k) = omega (arith, e) in
    rw f (get_or-append-add xs ys k d)

nth-from : {X : Type 0} (f : ℕ → X) (a m i : ℕ) (d : X) → 1 ≤ i → i ≤ m → nth (map f (numbers_from a m)) i d ≡ f (a + (i - 1))
nth-from f a m i d low high = nth-map f (numbers_from a m) i d 0 low (omega (arith, length-numbers_from a m)) ∙ ap f (nth-numbers_from a m (i - 1) 0 (omega arith))

nth-first : {X : Type 0} (f : ℕ → X) (m i : ℕ) (d : X) → 1 ≤ i → i ≤ m → nth (map f (numbers m)) i d ≡ f i
nth-first f m i d low high = let e : 1 + (i - 1) ≡ i = omega arith in nth-from f 1 m i d low high ∙ ap f e

count-map : {X : Type 0} (f : ℕ → X) (a m : ℕ) → length (map f (numbers_from a m)) ≡ m
count-map f a m = length-map (numbers_from a m) f ∙ length-numbers_from a m

-- ---- the numbers other than one

abbrev apart : ℕ → ℕ → Bool
apart a b = not (nat_eq a b)

past : (a s m : ℕ) → a < s → filter (apart a) (numbers_from s m) ≡ numbers_from s m
past a s zero lt = refl
past a s (suc m) lt =
    let e : eqb a s ≡ false = grind (arith, nat_tests) in
    rw e (ap (λ (xs : List ℕ). s ∷ xs) (past a (s + 1) m (omega arith)))

inside : (a s m : ℕ) → s ≤ a → a < s + m → filter (apart a) (numbers_from s m) ≡ numbers_from s (a - s) ++ numbers_from (a + 1) (s + m - (a + 1))
inside a s zero low high = absurd (omega arith)
inside a s (suc m) low high =
    elim (cases_eq a s) [
      | inl same ↦ (
          let e : eqb a s ≡ true = grind (arith, nat_tests) in
          let none : a - s ≡ 0 = omega (arith, same) in
          let rest : s + suc m - (a + 1) ≡ m = omega (arith, same) in
          let next : s + 1 ≡ a + 1 = omega (arith, same) in
          rw (e, none, rest) (past a (s + 1) m (omega (arith, same)) ∙ ap (λ (x : ℕ). numbers_from x m) next))
      | inr other ↦ (
          let e : eqb a s ≡ false = grind (arith, nat_tests) in
          let some : a - s ≡ suc (a - (s + 1)) = omega arith in
          let rest : s + suc m - (a + 1) ≡ s + 1 + m - (a + 1) = omega arith in
          rw (e, some, rest) (ap (λ (xs : List ℕ). s ∷ xs) (inside a (s + 1) m (omega arith) (omega arith))))
    ]

-- all but one of m numbers are one less
apart-count : (a m : ℕ) → 1 ≤ a → a ≤ m → length (filter (apart a) (numbers m)) ≡ m - 1
apart-count a m low high =
    ap length (inside a 1 m low (omega arith))
    ∙ omega (arith, length-append (numbers_from 1 (a - 1)) (numbers_from (a + 1) (1 + m - (a + 1))), length-numbers_from 1 (a - 1), length-numbers_from (a + 1) (1 + m - (a + 1)))

-- all but one of m numbers
others-are : (g : Game) (a : ℕ) → 1 ≤ a → a ≤ length g.goals → others g a ≡ numbers_from 1 (a - 1) ++ numbers_from (a + 1) (length g.goals - a)
others-are g a low high =
    let e : 1 + length g.goals - (a + 1) ≡ length g.goals - a = omega arith in
    inside a 1 (length g.goals) low (omega arith) ∙ ap (λ (m : ℕ). numbers_from 1 (a - 1) ++ numbers_from (a + 1) m) e

others-count : (g : Game) (a : ℕ) → 1 ≤ a → a ≤ length g.goals → length (others g a) ≡ length g.goals - 1
others-count g a low high =
    ap length (others-are g a low high)
    ∙ omega (arith, length-append (numbers_from 1 (a - 1)) (numbers_from (a + 1) (length g.goals - a)), length-numbers_from 1 (a - 1), length-numbers_from (a + 1) (length g.goals - a))

others-at : (g : Game) (a j : ℕ) (x : ℕ) → 1 ≤ a → a ≤ length g.goals → j < length g.goals - 1 → get_or (others g a) j x ≡ other_than a (j + 1)
others-at g a j x low high lt = ap (λ (xs : List ℕ). get_or xs j x) (others-are g a low high) ∙ by (nat_lt (j + 1) a) refl
  where
    by : (t : Bool) → nat_lt (j + 1) a ≡ t → get_or (numbers_from 1 (a - 1) ++ numbers_from (a + 1) (length g.goals - a)) j x ≡ cond t (j + 1) (j + 1 + 1)
    by true e =
        let before : j < a - 1 = grind (arith, nat_tests, e) in
        get_or_append_left (numbers_from 1 (a - 1)) (numbers_from (a + 1) (length g.goals - a)) x j (omega (arith, before, length-numbers_from 1 (a - 1)))
        ∙ (nth-numbers_from 1 (a - 1) j x before ∙ omega arith)
    by false e =
        let after : a - 1 ≤ j = grind (arith, nat_tests, e) in
        let k : ℕ = j - (a - 1) in
        let place : j ≡ length (numbers_from 1 (a - 1)) + k = omega (arith, after, length-numbers_from 1 (a - 1)) in
        ap (λ (i : ℕ). get_or (numbers_from 1 (a - 1) ++ numbers_from (a + 1) (length g.goals - a)) i x) place
        ∙ (get_or-append-add (numbers_from 1 (a - 1)) (numbers_from (a + 1) (length g.goals - a)) k x
        ∙ (nth-numbers_from (a + 1) (length g.goals - a) k x (omega (arith, after, lt)) ∙ omega (arith, after)))

-- ---- the rows of the fixed types

abbrev IsAct : Game → ℕ × ℕ → Type 0
IsAct g p = (1 ≤ p.1) × (p.1 ≤ action_count g p.0)

module _ (g : Game) (security : g.kind ≡ Security) where
  actions-are : (l : ℕ) → action_count g l ≡ length g.goals
  actions-are l = rw (no_matrix g security) refl

  abbrev block : ℕ × ℕ → List Row
  block p = map (gains p.0) (others g p.1)

  block-count : (l a : ℕ) → 1 ≤ a → a ≤ length g.goals → length (block (l, a)) ≡ length g.goals - 1
  block-count l a low high = length-map (others g a) (gains l) ∙ others-count g a low high

  block-at : (l a j : ℕ) → 1 ≤ a → a ≤ length g.goals → 1 ≤ j → j ≤ length g.goals - 1 → nth (block (l, a)) j whole ≡ gains l (other_than a j)
  block-at l a j low high from_one in_list =
      let back : j - 1 + 1 ≡ j = omega arith in
      nth-map (gains l) (others g a) j whole 0 from_one (omega (arith, in_list, others-count g a low high))
      ∙ ap (gains l) (others-at g a (j - 1) 0 low high (omega arith) ∙ ap (other_than a) back)

  moves-count : (r : ℕ) (acts : List ℕ) → All (IsAct g) (zip (numbers_from r (length acts)) acts) → length (flat_map block (zip (numbers_from r (length acts)) acts)) ≡ length acts * (length g.goals - 1)
  moves-count r [] all = sym (zero-mul (length g.goals - 1))
  moves-count r (a ∷ as1) all =
      let k : ℕ = length g.goals - 1 in
      let rest : List (ℕ × ℕ) = zip (numbers_from (r + 1) (length as1)) as1 in
      let here = All-head (IsAct g) (r, a) rest all in
      let later = moves-count (r + 1) as1 (All-tail (IsAct g) (r, a) rest all) in
      let count = block-count r a here.0 (omega (arith, here.1, actions-are r)) in
      let whole_count = length-append (block (r, a)) (flat_map block rest) in
      let more : suc (length as1) * k ≡ length as1 * k + k = suc-mul (length as1) k in
      omega (arith, whole_count, count, later, more)

  moves-at : (r : ℕ) (acts : List ℕ) → All (IsAct g) (zip (numbers_from r (length acts)) acts) → (i j : ℕ) → i < length acts → 1 ≤ j → j ≤ length g.goals - 1
      → nth (flat_map block (zip (numbers_from r (length acts)) acts)) (i * (length g.goals - 1) + j) whole ≡ gains (r + i) (other_than (slice_index acts i) j)
  moves-at r [] all i j lt low high = absurd (omega arith)
  moves-at r (a ∷ as1) all zero j lt low high =
      let k : ℕ = length g.goals - 1 in
      let rest : List (ℕ × ℕ) = zip (numbers_from (r + 1) (length as1)) as1 in
      let here = All-head (IsAct g) (r, a) rest all in
      let in_range : a ≤ length g.goals = omega (arith, here.1, actions-are r) in
      let z = zero-mul k in
      let place : 0 * k + j ≡ j = omega (arith, z) in
      let same : r ≡ r + 0 = omega arith in
      ap (λ (n : ℕ). nth (block (r, a) ++ flat_map block rest) n whole) place
      ∙ (nth-left (block (r, a)) (flat_map block rest) j whole low (omega (arith, high, block-count r a here.0 in_range))
      ∙ (block-at r a j here.0 in_range low high ∙ ap (λ (l : ℕ). gains l (other_than a j)) same))
  moves-at r (a ∷ as1) all (suc i) j lt low high =
      let k : ℕ = length g.goals - 1 in
      let rest : List (ℕ × ℕ) = zip (numbers_from (r + 1) (length as1)) as1 in
      let here = All-head (IsAct g) (r, a) rest all in
      let in_range : a ≤ length g.goals = omega (arith, here.1, actions-are r) in
      let more : suc i * k ≡ i * k + k = suc-mul i k in
      let place : suc i * k + j ≡ k + (i * k + j) = omega (arith, more) in
      let same : r + 1 + i ≡ r + suc i = omega arith in
      ap (λ (n : ℕ). nth (block (r, a) ++ flat_map block rest) n whole) place
      ∙ (nth-right (block (r, a)) (flat_map block rest) (i * k + j) k whole (block-count r a here.0 in_range) (omega (arith, low))
      ∙ (moves-at (r + 1) as1 (All-tail (IsAct g) (r, a) rest all) i j (omega (arith, lt)) low high ∙ ap (λ (l : ℕ). gains l (other_than (slice_index as1 i) j)) same))

pub rows_in_order : RowsInOrder
rows_in_order g security fix is_fix =
    let m : ℕ = resource_count g in
    let t : ℕ = length g.goals in
    let first : List Row = map spends (numbers m) in
    let second : List Row = map held (numbers t) in
    let third : List Row = map within (numbers t) in
    let moves : List Row = flat_map (block g security) (fixed fix) in
    let c1 = count-map spends 1 m in
    let c2 = count-map held 1 t in
    let c3 = count-map within 1 t in
    let c4 = moves-count g security fix.first fix.acts is_fix.acts in
    let l1 = length-append first (second ++ (third ++ moves)) in
    let l2 = length-append second (third ++ moves) in
    let l3 = length-append third moves in
    record {
      count = omega (arith, c1, c2, c3, c4, l1, l2, l3);
      resources = λ i low high. nth-left first (second ++ (third ++ moves)) i whole low (omega (arith, high, c1)) ∙ nth-first spends m i whole low high;
      targets = λ i low high. nth-right first (second ++ (third ++ moves)) i m whole c1 low ∙ (nth-left second (third ++ moves) i whole low (omega (arith, high, c2)) ∙ nth-first held t i whole low high);
      targets_again = λ i low high.
          let place : m + t + i ≡ m + (t + i) = omega arith in
          ap (λ (k : ℕ). nth (table_rows g fix) k whole) place
          ∙ (nth-right first (second ++ (third ++ moves)) (t + i) m whole c1 (omega (arith, low))
          ∙ (nth-right second (third ++ moves) i t whole c2 low ∙ (nth-left third moves i whole low (omega (arith, high, c3)) ∙ nth-first within t i whole low high)));
      actions = λ i j lt low high.
          let p : ℕ = i * (t - 1) + j in
          let some : 1 ≤ p = omega (arith, low) in
          let place : m + t + t + p ≡ m + (t + (t + p)) = omega arith in
          ap (λ (k : ℕ). nth (table_rows g fix) k whole) place
          ∙ (nth-right first (second ++ (third ++ moves)) (t + (t + p)) m whole c1 (omega (arith, some))
          ∙ (nth-right second (third ++ moves) (t + p) t whole c2 (omega (arith, some))
          ∙ (nth-right third moves p t whole c3 some ∙ moves-at g security fix.first fix.acts is_fix.acts i j lt low high)));
    }

-- ---- the rows of a program of plays

compared-count : (g : Game) (ps : List (ℕ × ℕ)) → All (IsAct g) ps → length (flat_map (other_actions g) ps) ≡ sum_by (λ (p : ℕ × ℕ). action_count g p.0 - 1) ps
compared-count g [] all = refl
compared-count g (p ∷ ps) all =
    let here = All-head (IsAct g) p ps all in
    let later = compared-count g ps (All-tail (IsAct g) p ps all) in
    let one = length-map {B = ℕ × ℕ} (filter (apart p.1) (numbers (action_count g p.0))) (λ (a : ℕ). (p.0, a)) ∙ apart-count p.1 (action_count g p.0) here.0 here.1 in
    let sum : length (other_actions g p) + length (flat_map (other_actions g) ps) ≡ (action_count g p.0 - 1) + sum_by (λ (q : ℕ × ℕ). action_count g q.0 - 1) ps =
    omega (arith, one, later) in
    length-append (other_actions g p) (flat_map (other_actions g) ps) ∙ (sum ∙ sym (sum_by-cons (λ (q : ℕ × ℕ). action_count g q.0 - 1) p ps))

pub play_rows_are_counted : PlayRowsAreCounted
play_rows_are_counted g fix is_fix = ap (λ (m : ℕ). 1 + m) (compared-count g (fixed fix) is_fix.acts)
