-- The search for the answer of a type finds it.
use Rattle.std.proofs.Common.{◌≡◌, ◌≢◌, ◌∙◌, ℕ, zero, suc, ◌+◌, ◌-◌, ◌<◌, ◌≤◌, Bool, true, false, cond, List, [], ◌∷◌, Some, None, filter, find, ℤ, refl, sym, ap, subst, arith, inl, inr}
use Rattle.std.specs.List.{All}
use Rattle.std.specs.Prelude.{◌⊎◌, ◌&&◌, Option, Result, Ok, Err, IsOk, is_ok}
use Rattle.std.specs.Ordering.{int_eq}
use Rattle.std.specs.Cmp.{signed_Decides}
use Rattle.std.proofs.lemmas.Bool.{cases_Bool, cases_eq}
use Rattle.std.proofs.lemmas.List.Elements.{All-nil, All-cons}
use Rattle.sg_model.specs.declared.ticket.Ticket.{Ticket}
use Rattle.sg_model.specs.Games.{Game, action_count}
use Rattle.sg_model.specs.Commitments.{is_best, sum_d, take_of}
use Rattle.sg_model.specs.Sums.{numbers, numbers_from}
use Rattle.sg_model.proofs.Best.{is_best-from, passes_have, take_of-reached}
use Rattle.sg_model.proofs.Numbers.{All-numbers-at}
use Rattle.sg_model.proofs.Promises.{peopled}
use Rattle.sg_num.specs.declared.step.Wide.{Wide}
use Rattle.sg_commit.specs.Answers.{AnswersAreFirst, answer, is_answer}
use Rattle.sg_commit.specs.ExactSums.{compared, exact_sum_d, exact_take, first_refusal, refusal_or, unless}
use Rattle.sg_commit.specs.Responses.{settled, take_from}
use Rattle.sg_commit.proofs.Responses.{numbers_next, settled-take, taken-value}

-- ---- the first that passes

pub record IsFirst (p : ℕ → Bool) (from b : ℕ) : Type 0 where
  pub low : from ≤ b
  pub passes : p b ≡ true
  pub first : (c : ℕ) → from ≤ c → c < b → p c ≡ false

find_first : (p : ℕ → Bool) (from n a : ℕ) → from ≤ a → a < from + n → p a ≡ true → (b : ℕ) × (find p (numbers_from from n) ≡ Some b) × (b < from + n) × IsFirst p from b
find_first p from zero a low high pass = absurd (omega (arith, low, high))
find_first p from (suc n) a low high pass = by (find_first p (from + 1) n a) (cases_Bool (p from))
  where
    by : (from + 1 ≤ a → a < (from + 1) + n → p a ≡ true → (b : ℕ) × (find p (numbers_from (from + 1) n) ≡ Some b) × (b < (from + 1) + n) × IsFirst p (from + 1) b)
        → (p from ≡ true) ⊎ (p from ≡ false) → (b : ℕ) × (find p (numbers_from from (suc n)) ≡ Some b) × (b < from + suc n) × IsFirst p from b
    by later (inl e) = (from, rw e refl, omega arith, record { low = omega arith; passes = e; first = λ c l h. absurd (omega (arith, l, h)) })
    by later (inr e) =
        let other : a ≢ from = λ same. let t : true ≡ false = sym pass ∙ ap p same ∙ e in cc in
        let r = later (omega (arith, low, other)) (omega (arith, high)) pass in
        let s = r.3 in
        let first_of : (c : ℕ) → from ≤ c → c < r.0 → p c ≡ false = λ c l h. elim (cases_eq c from) [
          | inl same ↦ ap p same ∙ e
          | inr apart ↦ s.first c (omega (arith, l, apart)) h
        ] in
        (r.0, rw e r.1, omega (arith, r.2), record { low = omega (arith, s.low); passes = s.passes; first = first_of })

both : (a b : Bool) → (a && b) ≡ true → (a ≡ true) × (b ≡ true)
both true b h = (refl, h)
both false b h = cc

pub answers_are_first : AnswersAreFirst
answers_are_first g k l is known =
    let r = take_of-reached g k l ((peopled g is).actions l known.0 known.1) in
    let best : is_best g k l r.0 ≡ true = is_best-from g k l r.0 r.1.best in
    let most : int_eq (sum_d g k l r.0) (take_of g k l) ≡ true = (signed_Decides (sum_d g k l r.0) (take_of g k l)).1 (sym r.1.gives) in
    let low = r.1.from_one in
    let high = r.1.in_range in
    let f = find_first (is_answer g k l) 1 (action_count g l) r.0 low (omega (arith, high)) (rw (best, most) refl) in
    let parts = both (is_best g k l f.0) (int_eq (sum_d g k l f.0) (take_of g k l)) f.3.passes in (
      f.0,
      f.1,
      record {
        known = (f.3.low, omega (arith, f.2));
        best = parts.0;
        most = (signed_Decides (sum_d g k l f.0) (take_of g k l)).0 parts.1;
        first = f.3.first;
      },
    )

-- ---- what is known once the take is formed

unless_none : {A : Type 0} (w : Option Wide) (r : Result A Wide) → IsOk (unless w r) → (w ≡ None) × IsOk r
unless_none (Some w) r ok = cc
unless_none None r ok = (refl, ok)

each_ok : (form : ℕ → Result ℤ Wide) (xs : List ℕ) → first_refusal form xs ≡ None → All (λ a. IsOk (form a)) xs
each_ok form [] e = All-nil (λ a. IsOk (form a))
each_ok form (a ∷ rest) e = by (each_ok form rest) (form a) refl e
  where
    by : (first_refusal form rest ≡ None → All (λ b. IsOk (form b)) rest) → (r : Result ℤ Wide) → form a ≡ r → refusal_or r (first_refusal form rest) ≡ None → All (λ b. IsOk (form b)) (a ∷ rest)
    by later (Ok z) q none = All-cons (λ b. IsOk (form b)) a rest (ap is_ok q) (later none)
    by later (Err w) q none = cc

module _ (g : Game) (k : List Ticket) (l : ℕ) where
  -- the defender's sum of each best action is
  pub best_formed : (taken : ℤ) → exact_take g k l ≡ Ok taken → (a : ℕ) → 1 ≤ a → a ≤ action_count g l → is_best g k l a ≡ true → IsOk (exact_sum_d g k l a)
  best_formed taken e a low high best =
      let bests : List ℕ = filter (is_best g k l) (numbers (action_count g l)) in
      let first = unless_none (compared g k l) (unless (first_refusal (exact_sum_d g k l) bests) (Ok (take_of g k l))) (ap is_ok e) in
      let second = unless_none (first_refusal (exact_sum_d g k l) bests) (Ok (take_of g k l)) first.1 in
      let formed = passes_have (is_best g k l) (λ a. IsOk (exact_sum_d g k l a)) (numbers (action_count g l)) (each_ok (exact_sum_d g k l) bests second.0) in
      All-numbers-at (λ a. is_best g k l a ≡ true → IsOk (exact_sum_d g k l a)) (action_count g l) formed a low high best

  -- and it is what is meant
  pub taken-is : (taken : ℤ) → exact_take g k l ≡ Ok taken → taken ≡ take_of g k l
  taken-is taken e = taken-value g k l (Ok taken) (sym e)

  -- what is settled is the take
  pub settled_take : (r : Result ℤ Wide) (looked : Result (Option ℤ) Wide) → compared g k l ≡ None → r ≡ settled looked → looked ≡ take_from g k l None (numbers (action_count g l)) → exact_take g k l ≡ r
  settled_take r looked none e f = sym (e ∙ ap settled f ∙ settled-take g k l none)

  -- ---- the first answer among those left

  pub found : (i : ℕ) → i < action_count g l → is_answer g k l (i + 1) ≡ true → answer g k l ≡ find (is_answer g k l) (numbers_from (i + 1) (action_count g l - i)) → Some (i + 1) ≡ answer g k l
  found i lt answers e = sym (e ∙ ap (find (is_answer g k l)) (numbers_next i (action_count g l) lt) ∙ rw answers refl)

  pub not_found : (i : ℕ) → i < action_count g l → is_answer g k l (i + 1) ≡ false → answer g k l ≡ find (is_answer g k l) (numbers_from (i + 1) (action_count g l - i))
      → answer g k l ≡ find (is_answer g k l) (numbers_from (i + 1 + 1) (action_count g l - (i + 1)))
  not_found i lt no_answer e = e ∙ ap (find (is_answer g k l)) (numbers_next i (action_count g l) lt) ∙ rw no_answer refl
