-- The weights of targets that pass a test and aren't marked, summed.
use Rattle.std.proofs.Common.{◌≡◌, ◌≢◌, ◌∙◌, ℕ, zero, suc, ◌+◌, ◌-◌, ◌<◌, ◌≤◌, Bool, true, false, cond, not, ◌&&◌, ◌||◌, List, length, take, get_or, ℤ, pos, ◌+ℤ◌, eqb, ap, subst, sym, refl, arith, inl, inr, slice_index_or}
use Rattle.std.specs.Prelude.{slice_set}
use Rattle.std.specs.List.{list_any}
use Rattle.std.proofs.lemmas.Bool.{cases_eq}
use Rattle.std.proofs.lemmas.Bool.Decides.{nat_tests}
use Rattle.std.proofs.lemmas.Int.{ints}
use Rattle.std.proofs.lemmas.List.{get_or-set_other, get_or-set_same}
use Rattle.std.proofs.lemmas.List.Folds.{list_any_more}
use Rattle.sg_model.specs.Limits.{IsCount}
use Rattle.sg_model.specs.Sums.{nth, numbers, numbers_from, total}
use Rattle.sg_model.proofs.Numbers.{All-numbers}
use Rattle.sg_model.proofs.Sums.{total-add, total-same, total-zero}
use Rattle.sg_num.specs.Exact.{IsAtMost}
use Rattle.sg_plays_fact.specs.Searching.{HasRoom, fresh_sum, fresh_weight, is_marked}
use Rattle.sg_plays_fact.proofs.Within.{top}

-- ---- one number among many

none-after : (w : ℤ) (s a n : ℕ) → s < a → total (λ t. cond (eqb s t) w (pos 0)) (numbers_from a n) ≡ pos 0
none-after w s a zero h = refl
none-after w s a (suc n) h =
    let e : eqb s a ≡ false = grind (arith, nat_tests) in
    rw e (omega (arith, ints, none-after w s (a + 1) n (omega arith)))

one-of : (w : ℤ) (s a n : ℕ) → a ≤ s → s < a + n → total (λ t. cond (eqb s t) w (pos 0)) (numbers_from a n) ≡ w
one-of w s a zero low high = absurd (omega arith)
one-of w s a (suc n) low high =
    elim (cases_eq s a) [
      | inl same ↦ (let e : eqb s a ≡ true = grind (arith, nat_tests) in rw e (omega (arith, ints, none-after w s (a + 1) n (omega arith))))
      | inr other ↦ (let e : eqb s a ≡ false = grind (arith, nat_tests) in rw e (omega (arith, ints, one-of w s (a + 1) n (omega arith) (omega arith))))
    ]

pub single : (w : ℤ) (s n : ℕ) → 1 ≤ s → s ≤ n → total (λ t. cond (eqb s t) w (pos 0)) (numbers n) ≡ w
single w s n low high = one-of w s 1 n low (omega arith)

-- ---- tests that agree

pub fresh-same : (ws : List ℤ) (c : List Bool) (p q : ℕ → Bool) → ((t : ℕ) → IsCount 1 (length ws) t → p t ≡ q t) → fresh_sum ws c p ≡ fresh_sum ws c q
fresh-same ws c p q h =
    total-same (fresh_weight ws c p) (fresh_weight ws c q) (numbers (length ws))
    (All-numbers (λ t. fresh_weight ws c p t ≡ fresh_weight ws c q t) (length ws) (λ t low high.
    ap (λ (b : Bool). cond (not (is_marked c t) && b) (nth ws t (pos 0)) (pos 0)) (h t (record { at_least = low; at_most = high }))))

pub fresh-none : (ws : List ℤ) (c : List Bool) → fresh_sum ws c (λ t. false) ≡ pos 0
fresh-none ws c =
    total-same (fresh_weight ws c (λ t. false)) (λ t. pos 0) (numbers (length ws))
    (All-numbers (λ t. fresh_weight ws c (λ t. false) t ≡ pos 0) (length ws) (λ t low high. none (is_marked c t) (nth ws t (pos 0)))) ∙ total-zero (numbers (length ws))
  where
    none : (m : Bool) (w : ℤ) → cond (not m && false) w (pos 0) ≡ pos 0
    none true w = refl
    none false w = refl

-- ---- first some, then others

-- the targets that are marked then
pub record AddsTo (ws : List ℤ) (c : List Bool) (p : ℕ → Bool) (d : List Bool) : Type 0 where
  pub each : (t : ℕ) → IsCount 1 (length ws) t → is_marked d t ≡ (is_marked c t || p t)

split : (m a b n : Bool) (w : ℤ) → n ≡ (m || a) → cond (not m && (a || b)) w (pos 0) ≡ cond (not m && a) w (pos 0) +ℤ cond (not n && b) w (pos 0)
split m a b n w e = rw e (by m a b)
  where
    by : (m a b : Bool) → cond (not m && (a || b)) w (pos 0) ≡ cond (not m && a) w (pos 0) +ℤ cond (not (m || a) && b) w (pos 0)
    by true true b = omega (arith, ints)
    by true false b = omega (arith, ints)
    by false true b = omega (arith, ints)
    by false false true = omega (arith, ints)
    by false false false = omega (arith, ints)

pub fresh-split : (ws : List ℤ) (c : List Bool) (p q : ℕ → Bool) (d : List Bool) → AddsTo ws c p d → fresh_sum ws c (λ t. p t || q t) ≡ fresh_sum ws c p +ℤ fresh_sum ws d q
fresh-split ws c p q d h =
    total-same (fresh_weight ws c (λ t. p t || q t)) (λ t. fresh_weight ws c p t +ℤ fresh_weight ws d q t) (numbers (length ws))
    (All-numbers (λ t. fresh_weight ws c (λ t. p t || q t) t ≡ fresh_weight ws c p t +ℤ fresh_weight ws d q t) (length ws) (λ t low high.
    split (is_marked c t) (p t) (q t) (is_marked d t) (nth ws t (pos 0)) (h.each t (record { at_least = low; at_most = high }))))
    ∙ total-add (fresh_weight ws c p) (fresh_weight ws d q) (numbers (length ws))

-- one target
pub fresh-one : (ws : List ℤ) (c : List Bool) (x : ℕ) → IsCount 1 (length ws) x → fresh_sum ws c (λ t. eqb x t) ≡ cond (is_marked c x) (pos 0) (nth ws x (pos 0))
fresh-one ws c x known =
    let w : ℤ = cond (is_marked c x) (pos 0) (nth ws x (pos 0)) in
    total-same (fresh_weight ws c (λ t. eqb x t)) (λ t. cond (eqb x t) w (pos 0)) (numbers (length ws))
    (All-numbers (λ t. fresh_weight ws c (λ t. eqb x t) t ≡ cond (eqb x t) w (pos 0)) (length ws) (λ t low high. at t))
    ∙ single w x (length ws) known.at_least known.at_most
  where
    marked : (m : Bool) (z : ℤ) → cond (not m && true) z (pos 0) ≡ cond m (pos 0) z
    marked true z = refl
    marked false z = refl

    unmarked : (m : Bool) (z : ℤ) → cond (not m && false) z (pos 0) ≡ pos 0
    unmarked true z = refl
    unmarked false z = refl

    at : (t : ℕ) → fresh_weight ws c (λ t. eqb x t) t ≡ cond (eqb x t) (cond (is_marked c x) (pos 0) (nth ws x (pos 0))) (pos 0)
    at t = elim (cases_eq x t) [
      | inl same ↦ (
          let e : eqb x t ≡ true = grind (arith, nat_tests) in
          let there : cond (is_marked c t) (pos 0) (nth ws t (pos 0)) ≡ cond (is_marked c x) (pos 0) (nth ws x (pos 0)) = ap (λ (s : ℕ). cond (is_marked c s) (pos 0) (nth ws s (pos 0))) (sym same) in
          rw e (marked (is_marked c t) (nth ws t (pos 0)) ∙ there))
      | inr other ↦ (let e : eqb x t ≡ false = grind (arith, nat_tests) in rw e (unmarked (is_marked c t) (nth ws t (pos 0))))
    ]

-- ---- the targets of a schedule, one after the other

abbrev pub member : List ℕ → ℕ → Bool
member ts t = list_any (λ x. eqb x t) ts

or-none : (b : Bool) → (b || false) ≡ b
or-none true = refl
or-none false = refl

or-assoc : (a b d : Bool) → (a || (b || d)) ≡ ((a || b) || d)
or-assoc true b d = refl
or-assoc false b d = refl

-- what is marked and summed after the first i targets
pub record IsCoveredTo (ws : List ℤ) (ts : List ℕ) (i : ℕ) (c d : List Bool) (before sum : ℤ) : Type 0 where
  pub marked : AddsTo ws c (member (take i ts)) d
  pub value : sum ≡ before +ℤ fresh_sum ws c (member (take i ts))

pub covered-none : (ws : List ℤ) (ts : List ℕ) (c : List Bool) (before : ℤ) → IsCoveredTo ws ts 0 c c before before
covered-none ws ts c before = record {
  marked = record { each = λ t known. sym (or-none (is_marked c t)) };
  value = omega (arith, ints, fresh-none ws c);
}

module _ (ws : List ℤ) (ts : List ℕ) (i x : ℕ) (c d : List Bool) (before sum : ℤ) (lt : i < length ts) (is : x ≡ get_or ts i 0) (known : IsCount 1 (length ws) x) (h : IsCoveredTo ws ts i c d before sum) where
  more : (t : ℕ) → member (take (i + 1) ts) t ≡ (member (take i ts) t || eqb x t)
  more t = list_any_more (λ y. eqb y t) ts i 0 lt ∙ ap (λ (y : ℕ). member (take i ts) t || eqb y t) (sym is)

  -- the sum with the next target
  next : fresh_sum ws c (member (take (i + 1) ts)) ≡ fresh_sum ws c (member (take i ts)) +ℤ cond (is_marked d x) (pos 0) (nth ws x (pos 0))
  next =
      fresh-same ws c (member (take (i + 1) ts)) (λ t. member (take i ts) t || eqb x t) (λ t k. more t)
      ∙ fresh-split ws c (member (take i ts)) (λ t. eqb x t) d h.marked
      ∙ ap (λ (z : ℤ). fresh_sum ws c (member (take i ts)) +ℤ z) (fresh-one ws d x known)

  -- it is marked already
  pub covered-again : is_marked d x ≡ true → IsCoveredTo ws ts (i + 1) c d before sum
  covered-again m = record {
    marked = record { each = λ t k. h.marked.each t k ∙ same t k };
    value = (let e = rw m at next in omega (arith, ints, h.value, e));
  }
    where
      hidden : (a b : Bool) → a ≡ true → a ≡ (a || b)
      hidden true b e = refl
      hidden false b e = cc

      by : (t : ℕ) → IsCount 1 (length ws) t → (is_marked c t || member (take i ts) t) ≡ ((is_marked c t || member (take i ts) t) || eqb x t)
      by t k = elim (cases_eq x t) [
        | inl e ↦ hidden (is_marked c t || member (take i ts) t) (eqb x t) (sym (h.marked.each t k) ∙ (ap (is_marked d) (sym e) ∙ m))
        | inr e ↦ (let n : eqb x t ≡ false = grind (arith, nat_tests) in rw n (sym (or-none (is_marked c t || member (take i ts) t))))
      ]

      same : (t : ℕ) → IsCount 1 (length ws) t → (is_marked c t || member (take i ts) t) ≡ (is_marked c t || member (take (i + 1) ts) t)
      same t k = by t k ∙ sym (or-assoc (is_marked c t) (member (take i ts) t) (eqb x t)) ∙ ap (λ (b : Bool). is_marked c t || b) (sym (more t))

  -- it is marked now
  module _ (m : is_marked d x ≡ false) (enough : length ws ≤ length d) where
    reads : (t : ℕ) → IsCount 1 (length ws) t → is_marked (slice_set d (x - 1) true) t ≡ (is_marked d t || eqb x t)
    reads t k = elim (cases_eq x t) [
      | inl e ↦ (
          let test : eqb x t ≡ true = grind (arith, nat_tests) in
          let at : is_marked (slice_set d (x - 1) true) t ≡ true = nth-marked (slice_set d (x - 1) true) t k.at_least ∙ ap (λ (j : ℕ). slice_index_or (slice_set d (x - 1) true) j false) (omega arith) ∙ get_or-set_same d (x - 1) true false (omega (arith, known.at_least, known.at_most)) in
          rw test (at ∙ sym (or-true (is_marked d t))))
      | inr e ↦ (
          let test : eqb x t ≡ false = grind (arith, nat_tests) in
          let ne : t - 1 ≢ x - 1 = omega (arith, known.at_least, k.at_least) in
          let at : is_marked (slice_set d (x - 1) true) t ≡ is_marked d t = nth-marked (slice_set d (x - 1) true) t k.at_least ∙ get_or-set_other d (x - 1) (t - 1) true false ne ∙ sym (nth-marked d t k.at_least) in
          rw test (at ∙ sym (or-none (is_marked d t))))
    ]
      where
        nth-marked : (xs : List Bool) (t : ℕ) → 1 ≤ t → is_marked xs t ≡ slice_index_or xs (t - 1) false
        nth-marked xs zero p = absurd (omega arith)
        nth-marked xs (suc j) p = let e : suc j - 1 ≡ j = omega arith in ap (λ (q : ℕ). slice_index_or xs q false) (sym e)

        or-true : (b : Bool) → (b || true) ≡ true
        or-true true = refl
        or-true false = refl

    pub covered-now : (total : ℤ) → total ≡ sum +ℤ nth ws x (pos 0) → IsCoveredTo ws ts (i + 1) c (slice_set d (x - 1) true) before total
    covered-now total e = record {
      marked = record {
        each = λ t k.
            reads t k ∙ ap (λ (b : Bool). b || eqb x t) (h.marked.each t k) ∙ sym (or-assoc (is_marked c t) (member (take i ts) t) (eqb x t))
            ∙ ap (λ (b : Bool). is_marked c t || b) (sym (more t));
      };
      value = (let f = rw m at next in omega (arith, ints, h.value, e, f));
    }

    -- and the sum with it fits, where there is room
    pub covered-room : HasRoom ws c before → IsAtMost top (sum +ℤ nth ws x (pos 0))
    covered-room room =
        let f = rw m at next in
        subst (IsAtMost top) (omega (arith, ints, h.value, f)) (room (member (take (i + 1) ts)))

pub marked-at : (xs : List Bool) (x : ℕ) → 1 ≤ x → is_marked xs x ≡ slice_index_or xs (x - 1) false
marked-at xs zero p = absurd (omega arith)
marked-at xs (suc j) p = let e : suc j - 1 ≡ j = omega arith in ap (λ (q : ℕ). slice_index_or xs q false) (sym e)
