-- The search for best answers finds what is meant.
use Rattle.std.proofs.Common.{◌≡◌, ◌≢◌, ℕ, zero, suc, ◌+◌, ◌-◌, ◌<◌, ◌≤◌, Bool, true, false, cond, ◌&&◌, List, [], ◌∷◌, map, ℤ, pos, sym, ◌∙◌, ap, subst, refl, arith, inl, inr}
use Rattle.std.specs.List.{filter, fold, list_all}
use Rattle.std.specs.Int.{int_max}
use Rattle.std.specs.Prelude.{Option, Some, None, Result, Ok, Err, IsOk, is_ok, IfOk, int_le}
use Rattle.std.proofs.lemmas.Bool.{cases_eq}
use Rattle.std.proofs.lemmas.Int.{ints}
use Rattle.sg_model.specs.declared.ticket.Ticket.{Ticket}
use Rattle.sg_model.specs.Sums.{greatest, numbers, numbers_from}
use Rattle.sg_model.specs.Games.{Game, action_count}
use Rattle.sg_model.specs.Plays.{pay_a, pay_d}
use Rattle.sg_model.specs.Commitments.{is_best, sum_a, sum_d, take_of}
use Rattle.sg_model.proofs.Numbers.{numbers-some}
use Rattle.sg_num.specs.declared.step.Wide.{Wide}
use Rattle.sg_num.specs.Exact.{and_then}
use Rattle.sg_commit.specs.ExactSums.{compared, exact_sum_a, exact_sum_d, exact_take, first_refusal, refusal_or, unless}
use Rattle.sg_commit.specs.Responses.{settled, take_from, take_step, taken_with, top_from, top_sum}
use Rattle.sg_commit.proofs.ExactSums.{exact_dot-is}

-- ---- the numbers that are left

pub numbers_next : (i n : ℕ) → i < n → numbers_from (i + 1) (n - i) ≡ (i + 1) ∷ numbers_from (i + 1 + 1) (n - (i + 1))
numbers_next i n lt = let e : n - i ≡ suc (n - (i + 1)) = omega arith in ap (numbers_from (i + 1)) e

pub numbers_done : (i n : ℕ) → n ≤ i → numbers_from (i + 1) (n - i) ≡ []
numbers_done i n h = let e : n - i ≡ zero = omega arith in ap (numbers_from (i + 1)) e

pub numbers_first : (n : ℕ) → 1 ≤ n → numbers n ≡ 1 ∷ numbers_from 2 (n - 1)
numbers_first n h = let e : n ≡ suc (n - 1) = omega arith in ap numbers e

-- ---- sums that are formed

module _ (g : Game) (k : List Ticket) (l : ℕ) where
  pub sum_a-is : (a : ℕ) (z : ℤ) → exact_sum_a g k l a ≡ Ok z → z ≡ sum_a g k l a
  sum_a-is a z e = let q = exact_dot-is (λ (x : Ticket). pay_a g l x.play.code a) (pos 0) k z e in omega (arith, ints, q)

  pub sum_d-is : (a : ℕ) (z : ℤ) → exact_sum_d g k l a ≡ Ok z → z ≡ sum_d g k l a
  sum_d-is a z e = let q = exact_dot-is (λ (x : Ticket). pay_d g l x.play.code a) (pos 0) k z e in omega (arith, ints, q)

  -- the greatest sum is found, unless one of them is refused
  pub top_from-is : (top : ℤ) (rest : List ℕ) → top_from g k l top rest ≡ unless (first_refusal (exact_sum_a g k l) rest) (Ok (fold int_max top (map (sum_a g k l) rest)))
  top_from-is top [] = refl
  top_from-is top (a ∷ rest) = by (exact_sum_a g k l a) refl (λ z. top_from-is (int_max top z) rest)
    where
      by : (r : Result ℤ Wide) → exact_sum_a g k l a ≡ r
          → ((z : ℤ) → top_from g k l (int_max top z) rest ≡ unless (first_refusal (exact_sum_a g k l) rest) (Ok (fold int_max (int_max top z) (map (sum_a g k l) rest))))
          → and_then r (λ sum. top_from g k l (int_max top sum) rest)
          ≡ unless (refusal_or r (first_refusal (exact_sum_a g k l) rest)) (Ok (fold int_max (int_max top (sum_a g k l a)) (map (sum_a g k l) rest)))
      by (Ok z) e more = more z ∙ ap (λ (s : ℤ). unless (first_refusal (exact_sum_a g k l) rest) (Ok (fold int_max (int_max top s) (map (sum_a g k l) rest)))) (sum_a-is a z e)
      by (Err w) e more = refl

  pub top_of-is : 1 ≤ action_count g l → (r : Result ℤ Wide) → exact_sum_a g k l 1 ≡ r
      → and_then r (λ first. top_from g k l first (numbers_from 2 (action_count g l - 1))) ≡ unless (compared g k l) (Ok (top_sum g k l))
  top_of-is some r e =
      by r e
      ∙ ap (λ (all : List ℕ). unless (first_refusal (exact_sum_a g k l) all) (Ok (greatest (map (sum_a g k l) all)))) (sym (numbers_first (action_count g l) some))
    where
      by : (r : Result ℤ Wide) → exact_sum_a g k l 1 ≡ r
          → and_then r (λ first. top_from g k l first (numbers_from 2 (action_count g l - 1)))
          ≡ unless (refusal_or (exact_sum_a g k l 1) (first_refusal (exact_sum_a g k l) (numbers_from 2 (action_count g l - 1)))) (Ok (fold int_max (sum_a g k l 1) (map (sum_a g k l) (numbers_from 2 (action_count g l - 1)))))
      by (Ok z) e =
          top_from-is z (numbers_from 2 (action_count g l - 1))
          ∙ (ap (λ (s : ℤ). unless (first_refusal (exact_sum_a g k l) (numbers_from 2 (action_count g l - 1))) (Ok (fold int_max s (map (sum_a g k l) (numbers_from 2 (action_count g l - 1)))))) (sum_a-is 1 z e)
          ∙ ap (λ r. unless (refusal_or r (first_refusal (exact_sum_a g k l) (numbers_from 2 (action_count g l - 1)))) (Ok (fold int_max (sum_a g k l 1) (map (sum_a g k l) (numbers_from 2 (action_count g l - 1)))))) (sym e))
      by (Err w) e = ap (λ r. unless (refusal_or r (first_refusal (exact_sum_a g k l) (numbers_from 2 (action_count g l - 1)))) (Ok (fold int_max (sum_a g k l 1) (map (sum_a g k l) (numbers_from 2 (action_count g l - 1)))))) (sym e)

-- where none is refused, each is formed
pub none_wide : (form : ℕ → Result ℤ Wide) (a n : ℕ) → first_refusal form (numbers_from a n) ≡ None → (b : ℕ) → a ≤ b → b < a + n → IsOk (form b)
none_wide form a zero e b low high = absurd (omega (arith, low, high))
none_wide form a (suc n) e b low high = by (none_wide form (a + 1) n) (form a) refl e
  where
    by : (first_refusal form (numbers_from (a + 1) n) ≡ None → (b : ℕ) → a + 1 ≤ b → b < (a + 1) + n → IsOk (form b))
        → (r : Result ℤ Wide) → form a ≡ r → refusal_or r (first_refusal form (numbers_from (a + 1) n)) ≡ None → IsOk (form b)
    by later (Ok z) q none = elim (cases_eq b a) [
      | inl same ↦ subst (λ (c : ℕ). IsOk (form c)) (sym same) (ap is_ok q)
      | inr other ↦ later none b (omega arith) (omega (arith, high))
    ]
    by later (Err w) q none = cc

-- ---- the best actions

le_max : (x y z : ℤ) → int_le (int_max x y) z ≡ (int_le x z && int_le y z)
le_max x y z = grind (arith, ints)

and_true : (a : Bool) → a ≡ (a && true)
and_true true = refl
and_true false = refl

and_more : (a b c : Bool) → ((a && b) && c) ≡ (a && (b && c))
and_more true b c = refl
and_more false b c = refl

le_fold : (x : ℤ) (xs : List ℤ) (z : ℤ) → int_le (fold int_max x xs) z ≡ (int_le x z && list_all (λ y. int_le y z) xs)
le_fold x [] z = and_true (int_le x z)
le_fold x (y ∷ ys) z =
    le_fold (int_max x y) ys z
    ∙ (ap (λ (b : Bool). b && list_all (λ y. int_le y z) ys) (le_max x y z) ∙ and_more (int_le x z) (int_le y z) (list_all (λ y. int_le y z) ys))

all_map : (f : ℕ → ℤ) (p : ℤ → Bool) (xs : List ℕ) → list_all p (map f xs) ≡ list_all (λ x. p (f x)) xs
all_map f p [] = refl
all_map f p (x ∷ xs) = ap (λ (b : Bool). p (f x) && b) (all_map f p xs)

-- the greatest of some values is at most z where each is
le_greatest : (f : ℕ → ℤ) (xs : List ℕ) (z : ℤ) → xs ≢ [] → int_le (greatest (map f xs)) z ≡ list_all (λ x. int_le (f x) z) xs
le_greatest f [] z some = absurd (some refl)
le_greatest f (x ∷ xs) z some = le_fold (f x) (map f xs) z ∙ ap (λ (b : Bool). int_le (f x) z && b) (all_map f (λ y. int_le y z) xs)

module _ (g : Game) (k : List Ticket) (l : ℕ) where
  -- an action is best where its sum reaches the greatest
  pub reaches_top : 1 ≤ action_count g l → (a : ℕ) → int_le (top_sum g k l) (sum_a g k l a) ≡ is_best g k l a
  reaches_top some a = le_greatest (sum_a g k l) (numbers (action_count g l)) (sum_a g k l a) (numbers-some (action_count g l) some)

  -- where the sums are compared, each is formed
  pub formed : compared g k l ≡ None → (a : ℕ) → 1 ≤ a → a ≤ action_count g l → IsOk (exact_sum_a g k l a)
  formed e a low high = none_wide (exact_sum_a g k l) 1 (action_count g l) e a low (omega (arith, high))

-- ---- what is taken

abbrev taken_over : Option ℤ → List ℤ → Option ℤ
taken_over taken [] = taken
taken_over taken (z ∷ zs) = taken_over (Some (taken_with taken z)) zs

over_some : (best : ℤ) (zs : List ℤ) → taken_over (Some best) zs ≡ Some (fold int_max best zs)
over_some best [] = refl
over_some best (z ∷ zs) = over_some (int_max best z) zs

settled-over : (zs : List ℤ) → settled (Ok (taken_over None zs)) ≡ Ok (greatest zs)
settled-over [] = refl
settled-over (z ∷ zs) = ap (λ r. settled (Ok r)) (over_some z zs)

settled-unless : (w : Option Wide) (zs : List ℤ) → settled (unless w (Ok (taken_over None zs))) ≡ unless w (Ok (greatest zs))
settled-unless (Some w) zs = refl
settled-unless None zs = settled-over zs

module _ (g : Game) (k : List Ticket) (l : ℕ) where
  take_from-is : (taken : Option ℤ) (rest : List ℕ)
      → take_from g k l taken rest ≡ unless (first_refusal (exact_sum_d g k l) (filter (is_best g k l) rest)) (Ok (taken_over taken (map (sum_d g k l) (filter (is_best g k l) rest))))
  take_from-is taken [] = refl
  take_from-is taken (a ∷ rest) = by (λ next. take_from-is next rest) (is_best g k l a)
    where
      of_sum : ((next : Option ℤ) → take_from g k l next rest ≡ unless (first_refusal (exact_sum_d g k l) (filter (is_best g k l) rest)) (Ok (taken_over next (map (sum_d g k l) (filter (is_best g k l) rest)))))
          → (r : Result ℤ Wide) → exact_sum_d g k l a ≡ r
          → and_then (and_then r (λ sum. Ok (Some (taken_with taken sum)))) (λ next. take_from g k l next rest)
          ≡ unless (refusal_or r (first_refusal (exact_sum_d g k l) (filter (is_best g k l) rest))) (Ok (taken_over (Some (taken_with taken (sum_d g k l a))) (map (sum_d g k l) (filter (is_best g k l) rest))))
      of_sum more (Ok z) e =
          more (Some (taken_with taken z))
          ∙ ap (λ (s : ℤ). unless (first_refusal (exact_sum_d g k l) (filter (is_best g k l) rest)) (Ok (taken_over (Some (taken_with taken s)) (map (sum_d g k l) (filter (is_best g k l) rest))))) (sum_d-is g k l a z e)
      of_sum more (Err w) e = refl

      by : ((next : Option ℤ) → take_from g k l next rest ≡ unless (first_refusal (exact_sum_d g k l) (filter (is_best g k l) rest)) (Ok (taken_over next (map (sum_d g k l) (filter (is_best g k l) rest)))))
          → (b : Bool)
          → and_then (cond b (and_then (exact_sum_d g k l a) (λ sum. Ok (Some (taken_with taken sum)))) (Ok taken)) (λ next. take_from g k l next rest)
          ≡ unless (first_refusal (exact_sum_d g k l) (cond b (a ∷ filter (is_best g k l) rest) (filter (is_best g k l) rest))) (Ok (taken_over taken (map (sum_d g k l) (cond b (a ∷ filter (is_best g k l) rest) (filter (is_best g k l) rest)))))
      by more true = of_sum more (exact_sum_d g k l a) refl
      by more false = more taken

  -- the defender's greatest sum over the best actions is taken, unless one of them is refused
  pub settled-is : settled (take_from g k l None (numbers (action_count g l)))
      ≡ unless (first_refusal (exact_sum_d g k l) (filter (is_best g k l) (numbers (action_count g l)))) (Ok (take_of g k l))
  settled-is =
      ap settled (take_from-is None (numbers (action_count g l)))
      ∙ settled-unless (first_refusal (exact_sum_d g k l) (filter (is_best g k l) (numbers (action_count g l)))) (map (sum_d g k l) (filter (is_best g k l) (numbers (action_count g l))))

-- what is taken where the sums were compared
pub settled-take : (g : Game) (k : List Ticket) (l : ℕ) → compared g k l ≡ None → settled (take_from g k l None (numbers (action_count g l))) ≡ exact_take g k l
settled-take g k l e =
    settled-is g k l
    ∙ ap (λ (w : Option Wide). unless w (unless (first_refusal (exact_sum_d g k l) (filter (is_best g k l) (numbers (action_count g l)))) (Ok (take_of g k l)))) (sym e)

-- what an answer says of the refusals before it
pub unless-ok : {A : Type 0} (w : Option Wide) (x t : A) → Ok t ≡ unless w (Ok x) → (w ≡ None) × (t ≡ x)
unless-ok (Some w) x t e = cc
unless-ok None x t e = (refl, cc)

pub unless-err : {A : Type 0} (w : Option Wide) (x : A) (v : Wide) → Err v ≡ unless w (Ok x) → w ≡ Some v
unless-err (Some w) x v e = cc
unless-err None x v e = cc

-- ---- one action more

module _ (g : Game) (k : List Ticket) (l i n : ℕ) (lt : i < n) where
  pub top_more : (top sum next : ℤ) → exact_sum_a g k l (i + 1) ≡ Ok sum → next ≡ int_max top sum
      → top_from g k l top (numbers_from (i + 1) (n - i)) ≡ top_from g k l next (numbers_from (i + 1 + 1) (n - (i + 1)))
  top_more top sum next e f =
      ap (top_from g k l top) (numbers_next i n lt)
      ∙ (ap (λ r. and_then r (λ sum. top_from g k l (int_max top sum) (numbers_from (i + 1 + 1) (n - (i + 1))))) e
      ∙ ap (λ (z : ℤ). top_from g k l z (numbers_from (i + 1 + 1) (n - (i + 1)))) (sym f))

  pub top_stops : (top : ℤ) (wide : Wide) → exact_sum_a g k l (i + 1) ≡ Err wide → top_from g k l top (numbers_from (i + 1) (n - i)) ≡ Err wide
  top_stops top wide e =
      ap (top_from g k l top) (numbers_next i n lt)
      ∙ ap (λ r. and_then r (λ sum. top_from g k l (int_max top sum) (numbers_from (i + 1 + 1) (n - (i + 1))))) e

  pub take_more : (taken next : Option ℤ) → take_step g k l taken (i + 1) ≡ Ok next
      → take_from g k l taken (numbers_from (i + 1) (n - i)) ≡ take_from g k l next (numbers_from (i + 1 + 1) (n - (i + 1)))
  take_more taken next e =
      ap (take_from g k l taken) (numbers_next i n lt)
      ∙ ap (λ r. and_then r (λ next. take_from g k l next (numbers_from (i + 1 + 1) (n - (i + 1))))) e

  pub take_stops : (taken : Option ℤ) (wide : Wide) → take_step g k l taken (i + 1) ≡ Err wide → take_from g k l taken (numbers_from (i + 1) (n - i)) ≡ Err wide
  take_stops taken wide e =
      ap (take_from g k l taken) (numbers_next i n lt)
      ∙ ap (λ r. and_then r (λ next. take_from g k l next (numbers_from (i + 1 + 1) (n - (i + 1))))) e

pub not_err : {A : Type 0} (r : Result A Wide) (wide : Wide) → IsOk r → r ≡ Err wide → ⊥
not_err (Ok z) wide h e = cc
not_err (Err w) wide h e = cc

-- a number that is taken is the one that is meant
pub taken-value : (g : Game) (k : List Ticket) (l : ℕ) (r : Result ℤ Wide) → r ≡ exact_take g k l → IfOk r (λ z. z ≡ take_of g k l)
taken-value g k l r e = by (compared g k l) (first_refusal (exact_sum_d g k l) (filter (is_best g k l) (numbers (action_count g l)))) r e
  where
    by : (v w : Option Wide) (r : Result ℤ Wide) → r ≡ unless v (unless w (Ok (take_of g k l))) → IfOk r (λ z. z ≡ take_of g k l)
    by v w (Err x) e = tt
    by (Some v) w (Ok z) e = cc
    by None (Some w) (Ok z) e = cc
    by None None (Ok z) e = cc
