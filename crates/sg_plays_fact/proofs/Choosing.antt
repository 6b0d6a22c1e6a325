-- What the choices of the resources can add: one choice, then the others, and no more than the bound.
use Rattle.std.proofs.Common.{◌≡◌, ◌∙◌, ℕ, zero, suc, ◌+◌, ◌-◌, ◌<◌, ◌≤◌, ◌^◌, Bool, true, false, cond, not, ◌&&◌, ◌||◌, List, [], ◌∷◌, length, map, get_or, ℤ, pos, negsuc, ◌+ℤ◌, ◌≤ℤ◌, eqb, ap, subst, sym, refl, arith, Option, Some, None, ◌⊎◌, inl, inr, slice_index, ◌↔◌}
use Rattle.std.specs.Prelude.{max}
use Rattle.std.specs.List.{fold, list_any, sum_by}
use Rattle.std.proofs.lemmas.Bool.Decides.{nat_tests}
use Rattle.std.proofs.lemmas.Int.{ints}
use Rattle.std.proofs.lemmas.List.Sums.{sum_by-cons}
use Rattle.sg_model.specs.Games.{Game, resource_count, resource_schedules, schedule_targets}
use Rattle.sg_model.specs.Limits.{IsCount}
use Rattle.sg_model.specs.Plays.{covers_from}
use Rattle.sg_model.specs.Sums.{nth, numbers, numbers_from, positive_part, total}
use Rattle.sg_model.proofs.Numbers.{All-numbers, once}
use Rattle.sg_model.proofs.Sums.{total-add, total-le, total-zero}
use Rattle.sg_num.specs.Exact.{IsAtMost}
use Rattle.sg_plays_fact.specs.Bounding.{most_gain, open_weight, rest_gain, schedule_gain}
use Rattle.sg_plays_fact.specs.Searching.{AreChoicesAfter, HasRoom, StaysWithin, fresh_sum, fresh_weight, is_marked}
use Rattle.sg_plays_fact.proofs.Fresh.{AddsTo, fresh-none, fresh-split, member}

-- the schedule of choice c of resource r
abbrev pub taken : Game → ℕ → ℕ → ℕ
taken g r c = nth (resource_schedules g r) c 0

abbrev pub holds : Game → ℕ → ℕ → Bool
holds g s t = list_any (λ x. eqb x t) (schedule_targets g s)

-- ---- one choice, then the others

-- the sum stays within mu where resource k + 1 makes choice j
abbrev pub StaysBy : Game → List ℤ → ℤ → List Bool → ℕ → ℤ → ℕ → Type 0
StaysBy g ws mu c k sum j = (rest : List ℕ) → AreChoicesAfter g k (j ∷ rest) → (sum +ℤ fresh_sum ws c (covers_from g (k + 1) (j ∷ rest))) ≤ℤ mu

pub choice-first : (g : Game) (k j : ℕ) (rest : List ℕ) → AreChoicesAfter g k (j ∷ rest) → j ≤ length (resource_schedules g (k + 1))
choice-first g k j rest h =
    let e : 0 + (k + 1) ≡ k + 1 = omega arith in
    subst (λ (r : ℕ). j ≤ length (resource_schedules g r)) e (h.in_list 0 (omega arith))

pub choices-later : (g : Game) (k j : ℕ) (rest : List ℕ) → AreChoicesAfter g k (j ∷ rest) → AreChoicesAfter g (k + 1) rest
choices-later g k j rest h = record {
  one_each = omega (arith, h.one_each);
  in_list = λ i lt.
      let e : suc i + (k + 1) ≡ i + (k + 1 + 1) = omega arith in
      subst (λ (r : ℕ). slice_index rest i ≤ length (resource_schedules g r)) e (h.in_list (suc i) (omega arith));
}

pub choices-more : (g : Game) (k j : ℕ) (rest : List ℕ) → j ≤ length (resource_schedules g (k + 1)) → AreChoicesAfter g (k + 1) rest → AreChoicesAfter g k (j ∷ rest)
choices-more g k j rest first h = record {
  one_each = omega (arith, h.one_each);
  in_list = λ i lt. by i lt;
}
  where
    by : (i : ℕ) → i < length (j ∷ rest) → slice_index (j ∷ rest) i ≤ length (resource_schedules g (i + (k + 1)))
    by zero lt = let e : 0 + (k + 1) ≡ k + 1 = omega arith in subst (λ (r : ℕ). j ≤ length (resource_schedules g r)) (sym e) first
    by (suc i) lt =
        let e : suc i + (k + 1) ≡ i + (k + 1 + 1) = omega arith in
        subst (λ (r : ℕ). slice_index rest i ≤ length (resource_schedules g r)) (sym e) (h.in_list i (omega arith))

module _ (g : Game) (ws : List ℤ) (mu : ℤ) (c d : List Bool) (k j : ℕ) (sum more : ℤ) (h : AddsTo ws c (holds g (taken g (k + 1) j)) d) (e : more ≡ sum +ℤ fresh_sum ws c (holds g (taken g (k + 1) j))) where
  -- what the choice and the others add
  both : (rest : List ℕ) → sum +ℤ fresh_sum ws c (covers_from g (k + 1) (j ∷ rest)) ≡ more +ℤ fresh_sum ws d (covers_from g (k + 1 + 1) rest)
  both rest =
      let s = fresh-split ws c (holds g (taken g (k + 1) j)) (covers_from g (k + 1 + 1) rest) d h in
      omega (arith, ints, e, s)

  pub stays-forward : StaysWithin g ws mu d (k + 1) more → StaysBy g ws mu c k sum j
  stays-forward stays rest are = let s = stays rest (choices-later g k j rest are) in subst (λ (z : ℤ). z ≤ℤ mu) (sym (both rest)) s

  pub stays-back : j ≤ length (resource_schedules g (k + 1)) → StaysWithin g ws mu c k sum → StaysWithin g ws mu d (k + 1) more
  stays-back first stays rest are = let s = stays (j ∷ rest) (choices-more g k j rest first are) in subst (λ (z : ℤ). z ≤ℤ mu) (both rest) s

  -- there is room for the others
  pub room-later : HasRoom ws c sum → HasRoom ws d more
  room-later room test =
      let s = fresh-split ws c (holds g (taken g (k + 1) j)) test d h in
      subst (IsAtMost (pos (2 ^ 127 - 1))) (omega (arith, ints, e, s)) (room (λ t. holds g (taken g (k + 1) j) t || test t))

-- ---- the ends

pub stays-each : (g : Game) (ws : List ℤ) (mu : ℤ) (c : List Bool) (k : ℕ) (sum : ℤ) → k < resource_count g → ((j : ℕ) → j < length (resource_schedules g (k + 1)) + 1 → StaysBy g ws mu c k sum j) → StaysWithin g ws mu c k sum
stays-each g ws mu c k sum lt each [] are = absurd (omega (arith, lt, are.one_each))
stays-each g ws mu c k sum lt each (j ∷ rest) are = each j (omega (arith, choice-first g k j rest are)) rest are

-- no resource is left
pub stays-end : (g : Game) (ws : List ℤ) (mu : ℤ) (c : List Bool) (k : ℕ) (sum : ℤ) → k ≡ resource_count g → (sum ≤ℤ mu) ↔ StaysWithin g ws mu c k sum
stays-end g ws mu c k sum e = (forward, back)
  where
    none : fresh_sum ws c (covers_from g (k + 1) []) ≡ pos 0
    none = fresh-none ws c

    forward : sum ≤ℤ mu → StaysWithin g ws mu c k sum
    forward le [] are = omega (arith, ints, le, none)
    forward le (j ∷ rest) are = absurd (omega (arith, e, are.one_each))

    back : StaysWithin g ws mu c k sum → sum ≤ℤ mu
    back stays =
        let s = stays [] (record { one_each = omega (arith, e); in_list = λ i lt. absurd (omega arith) }) in
        omega (arith, ints, s, none)

-- ---- the bound

positive-le : (z : ℤ) → z ≤ℤ pos (positive_part z)
positive-le (pos n) = omega (arith, ints)
positive-le (negsuc n) = omega (arith, ints)

-- the targets that pass the test, each with its weight that is above 0 and not marked
abbrev pub open_sum : List ℤ → List Bool → (ℕ → Bool) → ℤ
open_sum ws c test = total (λ t. cond (test t) (pos (open_weight ws c t)) (pos 0)) (numbers (length ws))

fresh-open : (ws : List ℤ) (c : List Bool) (test : ℕ → Bool) → fresh_sum ws c test ≤ℤ open_sum ws c test
fresh-open ws c test =
    total-le (fresh_weight ws c test) (λ t. cond (test t) (pos (open_weight ws c t)) (pos 0)) (numbers (length ws))
    (All-numbers (λ t. fresh_weight ws c test t ≤ℤ cond (test t) (pos (open_weight ws c t)) (pos 0)) (length ws) (λ t low high. by (is_marked c t) (test t) (nth ws t (pos 0))))
  where
    by : (m b : Bool) (z : ℤ) → cond (not m && b) z (pos 0) ≤ℤ cond b (pos (cond m 0 (positive_part z))) (pos 0)
    by true true z = omega (arith, ints)
    by true false z = omega (arith, ints)
    by false true z = positive-le z
    by false false z = omega (arith, ints)

open-or : (ws : List ℤ) (c : List Bool) (p q : ℕ → Bool) → open_sum ws c (λ t. p t || q t) ≤ℤ (open_sum ws c p +ℤ open_sum ws c q)
open-or ws c p q =
    let f = λ (t : ℕ). cond (p t) (pos (open_weight ws c t)) (pos 0) in
    let h = λ (t : ℕ). cond (q t) (pos (open_weight ws c t)) (pos 0) in
    let a = total-le (λ t. cond (p t || q t) (pos (open_weight ws c t)) (pos 0)) (λ t. f t +ℤ h t) (numbers (length ws))
    (All-numbers (λ t. cond (p t || q t) (pos (open_weight ws c t)) (pos 0) ≤ℤ (f t +ℤ h t)) (length ws) (λ t low high. by (p t) (q t) (open_weight ws c t))) in
    let b = total-add f h (numbers (length ws)) in
    omega (arith, ints, a, b)
  where
    by : (a b : Bool) (n : ℕ) → cond (a || b) (pos n) (pos 0) ≤ℤ (cond a (pos n) (pos 0) +ℤ cond b (pos n) (pos 0))
    by true true n = omega (arith, ints)
    by true false n = omega (arith, ints)
    by false true n = omega (arith, ints)
    by false false n = omega (arith, ints)

open-none : (ws : List ℤ) (c : List Bool) → open_sum ws c (λ t. false) ≡ pos 0
open-none ws c = total-zero (numbers (length ws))

-- one schedule adds at most its gain
same-or : (f : ℕ → ℕ) (x t : ℕ) (b : Bool) → cond (eqb x t || b) (pos (f t)) (pos 0) ≤ℤ (cond (eqb x t) (pos (f x)) (pos 0) +ℤ cond b (pos (f t)) (pos 0))
same-or f x t b = by (eqb x t) refl b
  where
    by : (a : Bool) → eqb x t ≡ a → (b : Bool) → cond (a || b) (pos (f t)) (pos 0) ≤ℤ (cond a (pos (f x)) (pos 0) +ℤ cond b (pos (f t)) (pos 0))
    by true e true = let same : x ≡ t = grind (arith, nat_tests) in let h = ap f same in omega (arith, ints, h)
    by true e false = let same : x ≡ t = grind (arith, nat_tests) in let h = ap f same in omega (arith, ints, h)
    by false e true = omega (arith, ints)
    by false e false = omega (arith, ints)

total-listed : (f : ℕ → ℕ) (m : ℕ) (ts : List ℕ) → total (λ t. cond (list_any (λ x. eqb x t) ts) (pos (f t)) (pos 0)) (numbers m) ≤ℤ pos (sum_by f ts)
total-listed f m [] = omega (arith, ints, total-zero (numbers m))
total-listed f m (x ∷ xs) =
    let whole = λ (t : ℕ). cond (list_any (λ y. eqb y t) (x ∷ xs)) (pos (f t)) (pos 0) in
    let here = λ (t : ℕ). cond (eqb x t) (pos (f x)) (pos 0) in
    let rest = λ (t : ℕ). cond (list_any (λ y. eqb y t) xs) (pos (f t)) (pos 0) in
    let a = total-le whole (λ t. here t +ℤ rest t) (numbers m) (All-numbers (λ t. whole t ≤ℤ (here t +ℤ rest t)) m (λ t low high. same-or f x t (list_any (λ y. eqb y t) xs))) in
    let b = total-add here rest (numbers m) in
    let d = once (pos (f x)) (omega (arith, ints)) x 1 m in
    let e = total-listed f m xs in
    omega (arith, ints, a, b, d, e, sum_by-cons f x xs)

-- and no choice more than the most of its resource
greatest-first : {X : Type 0} (f : X → ℕ) (a : ℕ) (xs : List X) → a ≤ fold max a (map f xs)
greatest-first f a [] = omega arith
greatest-first f a (x ∷ xs) = omega (arith, greatest-first f (max a (f x)) xs)

greatest-at : {X : Type 0} (f : X → ℕ) (a : ℕ) (xs : List X) (k : ℕ) (d : X) → k < length xs → f (get_or xs k d) ≤ fold max a (map f xs)
greatest-at f a [] k d h = absurd (omega arith)
greatest-at f a (x ∷ xs) zero d h = omega (arith, greatest-first f (max a (f x)) xs)
greatest-at f a (x ∷ xs) (suc k) d h = greatest-at f (max a (f x)) xs k d (omega arith)

pub idle-targets : (g : Game) → schedule_targets g 0 ≡ []
idle-targets g = by g.patrols refl
  where
    by : (o : Option ℕ) → g.patrols ≡ o → schedule_targets g 0 ≡ []
    by (Some n) e = rw e refl
    by None e = rw e refl

past-end : {X : Type 0} (xs : List X) (k : ℕ) (d : X) → length xs ≤ k → get_or xs k d ≡ d
past-end [] k d h = refl
past-end (x ∷ xs) zero d h = absurd (omega arith)
past-end (x ∷ xs) (suc k) d h = past-end xs k d (omega arith)

le_or_lt : (a b : ℕ) → (a ≤ b) ⊎ (b < a)
le_or_lt zero b = inl (omega arith)
le_or_lt (suc a) zero = inr (omega arith)
le_or_lt (suc a) (suc b) = elim (le_or_lt a b) [ inl h ↦ inl (omega arith) | inr h ↦ inr (omega arith) ]

module _ (g : Game) (ws : List ℤ) (c : List Bool) where
  gain-idle : schedule_gain g ws c 0 ≡ 0
  gain-idle = ap (sum_by (open_weight ws c)) (idle-targets g)

  gain-le : (r j : ℕ) → schedule_gain g ws c (taken g r j) ≤ most_gain g ws c r
  gain-le r zero = omega (arith, gain-idle)
  gain-le r (suc k) = elim (le_or_lt (length (resource_schedules g r)) k) [
    | inl past ↦ (let e = ap (schedule_gain g ws c) (past-end (resource_schedules g r) k 0 past) in omega (arith, e, gain-idle))
    | inr lt ↦ greatest-at (schedule_gain g ws c) 0 (resource_schedules g r) k 0 lt
  ]

  -- choices add at most the sum of the most of their resources
  choices-open : (r : ℕ) (rest : List ℕ) → open_sum ws c (covers_from g r rest) ≤ℤ pos (sum_by (most_gain g ws c) (numbers_from r (length rest)))
  choices-open r [] = omega (arith, ints, open-none ws c)
  choices-open r (j ∷ rest) =
      let a = open-or ws c (holds g (taken g r j)) (covers_from g (r + 1) rest) in
      let b = total-listed (open_weight ws c) (length ws) (schedule_targets g (taken g r j)) in
      let d = gain-le r j in
      let e = choices-open (r + 1) rest in
      let f = sum_by-cons (most_gain g ws c) r (numbers_from (r + 1) (length rest)) in
      omega (arith, ints, a, b, d, e, f)

  -- where the bound keeps the sum within mu, each play does
  pub stays-cut : (mu : ℤ) (k : ℕ) (sum : ℤ) → (sum +ℤ pos (rest_gain g ws c k)) ≤ℤ mu → StaysWithin g ws mu c k sum
  stays-cut mu k sum le rest are =
      let n : length rest ≡ resource_count g - k = omega (arith, are.one_each) in
      let a = fresh-open ws c (covers_from g (k + 1) rest) in
      let b = choices-open (k + 1) rest in
      let d = ap (λ (m : ℕ). sum_by (most_gain g ws c) (numbers_from (k + 1) m)) n in
      omega (arith, ints, le, a, b, d)

-- ---- as the code reads and writes them

pub cover-adds : (g : Game) (ws : List ℤ) (c d : List Bool) (k j : ℕ) (ts : List ℕ) → ts ≡ schedule_targets g (taken g (k + 1) j)
    → ((t : ℕ) → IsCount 1 (length ws) t → is_marked d t ≡ (is_marked c t || member ts t)) → AddsTo ws c (holds g (taken g (k + 1) j)) d
cover-adds g ws c d k j ts is h = record { each = λ t known. h t known ∙ ap (λ (xs : List ℕ). is_marked c t || member xs t) is }

pub cover-value : (g : Game) (ws : List ℤ) (c : List Bool) (k j : ℕ) (ts : List ℕ) (sum' sum more : ℤ) → ts ≡ schedule_targets g (taken g (k + 1) j) → sum' ≡ sum → more ≡ sum' +ℤ fresh_sum ws c (member ts)
    → more ≡ sum +ℤ fresh_sum ws c (holds g (taken g (k + 1) j))
cover-value g ws c k j ts sum' sum more is e h = let same = ap (λ (xs : List ℕ). fresh_sum ws c (member xs)) is in omega (arith, ints, h, e, same)

pub stays-as : (g : Game) (ws : List ℤ) (c : List Bool) (k : ℕ) (mu mu' sum sum' : ℤ) → mu' ≡ mu → sum' ≡ sum → StaysWithin g ws mu c k sum → StaysWithin g ws mu' c k sum'
stays-as g ws c k mu mu' sum sum' e f h = subst (λ (z : ℤ). StaysWithin g ws z c k sum') (sym e) (subst (λ (z : ℤ). StaysWithin g ws mu c k z) (sym f) h)
