-- A play covers what the schedules that it takes hold.
use Rattle.std.proofs.Common.{◌≡◌, ℕ, zero, suc, ◌+◌, ◌<◌, ◌≤◌, Bool, true, false, ◌||◌, List, [], ◌∷◌, length, ap, subst, sym, ◌∙◌, refl, arith, eqb, Some, inl, inr, slice_index_or, get_or, true≢false}
use Rattle.std.specs.List.{Contains, list_any}
use Rattle.std.proofs.lemmas.Bool.Decides.{nat_tests}
use Rattle.std.proofs.lemmas.Bool.{cases_lt}
use Rattle.sg_model.specs.declared.kind.Kind.TheVariants.{Security}
use Rattle.sg_model.specs.Sums.{nth, numbers, numbers_from}
use Rattle.sg_model.specs.Games.{Game, payoff, resource_schedules, schedule_targets}
use Rattle.sg_model.specs.Plays.{covers, covers_from, pay_a, pay_d}
use Rattle.sg_model.specs.PlayLaws.{IsHeld}
use Rattle.sg_model.proofs.Forms.{no_matrix}
use Rattle.sg_model.proofs.Numbers.{nth-numbers}
use Rattle.sg_model.proofs.Greatest.{Contains-head, Contains-tail, or-left, or-right}
use Rattle.sg_model.proofs.Covers.{holds-patrols}

-- a list has an item that equals t just where it contains t
pub contains-any : (xs : List ℕ) (t : ℕ) → list_any (λ x. eqb x t) xs ≡ true → Contains xs t
contains-any [] t e = absurd (true≢false (sym e))
contains-any (x ∷ xs) t e =
    elim (eqb x t) as (λ b. eqb x t ≡ b → (b || list_any (λ x. eqb x t) xs) ≡ true → Contains (x ∷ xs) t) [
      | true ↦ (λ same _. let q : x ≡ t = grind (arith, nat_tests) in subst (Contains (x ∷ xs)) q (Contains-head x xs))
      | false ↦ (λ _ rest. Contains-tail x xs t (contains-any xs t rest))
    ] refl e

eqb-same : (t : ℕ) → eqb t t ≡ true
eqb-same t = grind (arith, nat_tests)

pub any-contains : (xs : List ℕ) (t : ℕ) → Contains xs t → list_any (λ x. eqb x t) xs ≡ true
any-contains [] t h = absurd (omega (arith, h.1))
any-contains (x ∷ xs) t (zero, lt, e) = or-left (eqb x t) (list_any (λ x. eqb x t) xs) (ap (λ (y : ℕ). eqb y t) e ∙ eqb-same t)
any-contains (x ∷ xs) t (suc i, lt, e) = or-right (eqb x t) (list_any (λ x. eqb x t) xs) (any-contains xs t (i, omega arith, e))

-- the schedule of the choice at place j, counted from 0, of the resources from r on, holds target t
IsHeldFrom : Game → ℕ → List ℕ → ℕ → Type 0
IsHeldFrom g r play t = (j : ℕ) × (j < length play) × Contains (schedule_targets g (nth (resource_schedules g (r + j)) (slice_index_or play j 0) 0)) t

held_from : (g : Game) (r : ℕ) (play : List ℕ) (t : ℕ) → covers_from g r play t ≡ true → IsHeldFrom g r play t
unfolding IsHeldFrom
held_from g r [] t e = absurd (true≢false (sym e))
held_from g r (c ∷ cs) t e =
    let here : List ℕ = schedule_targets g (nth (resource_schedules g r) c 0) in
    elim (list_any (λ x. eqb x t) here) as (λ b. list_any (λ x. eqb x t) here ≡ b → (b || covers_from g (r + 1) cs t) ≡ true → IsHeldFrom g r (c ∷ cs) t) [
      | true ↦ (λ holds _. (0, omega arith, subst (λ (m : ℕ). Contains (schedule_targets g (nth (resource_schedules g m) c 0)) t) (omega arith) (contains-any here t holds)))
      | false ↦ (λ _ rest.
          let h = held_from g (r + 1) cs t rest in
          let p : (r + 1) + h.0 ≡ r + suc h.0 = omega arith in
          (suc h.0, omega (arith, h.1), subst (λ (m : ℕ). Contains (schedule_targets g (nth (resource_schedules g m) (slice_index_or cs h.0 0) 0)) t) p h.2))
    ] refl e

covers_where : (g : Game) (r : ℕ) (play : List ℕ) (t : ℕ) → IsHeldFrom g r play t → covers_from g r play t ≡ true
unfolding IsHeldFrom
covers_where g r [] t h = absurd (omega (arith, h.1))
covers_where g r (c ∷ cs) t (zero, lt, holds) =
    let here : List ℕ = schedule_targets g (nth (resource_schedules g r) c 0) in
    or-left (list_any (λ x. eqb x t) here) (covers_from g (r + 1) cs t)
    (any-contains here t (subst (λ (m : ℕ). Contains (schedule_targets g (nth (resource_schedules g m) c 0)) t) (omega arith) holds))
covers_where g r (c ∷ cs) t (suc j, lt, holds) =
    let here : List ℕ = schedule_targets g (nth (resource_schedules g r) c 0) in
    let p : r + suc j ≡ (r + 1) + j = omega arith in
    or-right (list_any (λ x. eqb x t) here) (covers_from g (r + 1) cs t)
    (covers_where g (r + 1) cs t (j, omega (arith, lt), subst (λ (m : ℕ). Contains (schedule_targets g (nth (resource_schedules g m) (slice_index_or cs j 0) 0)) t) p holds))

pub held : (g : Game) (play : List ℕ) (t : ℕ) → covers g play t ≡ true → IsHeld g play t
unfolding IsHeldFrom
held g play t e =
    let h = held_from g 1 play t e in
    let p : 1 + h.0 ≡ suc h.0 = omega arith in
    (suc h.0, omega arith, omega (arith, h.1), subst (λ (m : ℕ). Contains (schedule_targets g (nth (resource_schedules g m) (slice_index_or play h.0 0) 0)) t) p h.2)

pub covers-held : (g : Game) (play : List ℕ) (t : ℕ) → IsHeld g play t → covers g play t ≡ true
unfolding IsHeldFrom
covers-held g play t (zero, low, high, holds) = absurd (omega (arith, low))
covers-held g play t (suc j, low, high, holds) =
    let p : suc j ≡ 1 + j = omega arith in
    covers_where g 1 play t (j, omega (arith, high), subst (λ (m : ℕ). Contains (schedule_targets g (nth (resource_schedules g m) (slice_index_or play j 0) 0)) t) p holds)

pub held-pays : (g : Game) → g.kind ≡ Security → (l : ℕ) (play : List ℕ) (t : ℕ) → IsHeld g play t
    → (pay_d g l play t ≡ (payoff g l t).dc) × (pay_a g l play t ≡ (payoff g l t).ac)
held-pays g s l play t h =
    let m = no_matrix g s in
    let e = covers-held g play t h in
    (rw m (rw e refl), rw m (rw e refl))

pub unheld-pays : (g : Game) → g.kind ≡ Security → (l : ℕ) (play : List ℕ) (t : ℕ) → (IsHeld g play t → ⊥)
    → (pay_d g l play t ≡ (payoff g l t).du) × (pay_a g l play t ≡ (payoff g l t).au)
unheld-pays g s l play t none =
    let m = no_matrix g s in
    let e : covers g play t ≡ false = elim (covers g play t) as (λ b. covers g play t ≡ b → b ≡ false) [ true ↦ (λ e. absurd (none (held g play t e))) | false ↦ (λ _. refl) ] refl in
    (rw m (rw e refl), rw m (rw e refl))

pub same_cover : (g : Game) → g.kind ≡ Security → (l : ℕ) (play other : List ℕ) (t : ℕ) → covers g play t ≡ covers g other t
    → (pay_d g l play t ≡ pay_d g l other t) × (pay_a g l play t ≡ pay_a g l other t)
same_cover g s l play other t e =
    let m = no_matrix g s in
    (rw m (rw e refl), rw m (rw e refl))

nth-numbers_from-past : (a m k : ℕ) → m ≤ k → get_or (numbers_from a m) k 0 ≡ 0
nth-numbers_from-past a zero k h = refl
nth-numbers_from-past a (suc m) zero h = absurd (omega arith)
nth-numbers_from-past a (suc m) (suc k) h = nth-numbers_from-past (a + 1) m k (omega arith)

nth-numbers-past : (m i : ℕ) → m < i → nth (numbers m) i 0 ≡ 0
nth-numbers-past m zero h = absurd (omega arith)
nth-numbers-past m (suc k) h = nth-numbers_from-past 1 m k (omega arith)

choice-is : (m c t : ℕ) → 1 ≤ t → t ≤ m → eqb (nth (numbers m) c 0) t ≡ eqb c t
choice-is m zero t low high = refl
choice-is m (suc c) t low high =
    elim (cases_lt m (suc c)) [
      | inl lt ↦ (let p = nth-numbers-past m (suc c) lt in rw p (grind (arith, nat_tests)))
      | inr le ↦ ap (λ (s : ℕ). eqb s t) (nth-numbers m (suc c) 0 (omega arith) le)
    ]

pub covers_from-any : (g : Game) (patrols : ℕ) → g.patrols ≡ Some patrols → (r : ℕ) (play : List ℕ) (t : ℕ) → 1 ≤ t → t ≤ length g.goals
    → covers_from g r play t ≡ list_any (λ c. eqb c t) play
covers_from-any g patrols e r [] t low high = refl
covers_from-any g patrols e r (c ∷ cs) t low high =
    let all : resource_schedules g r ≡ numbers (length g.goals) = rw e refl in
    let s : ℕ = nth (resource_schedules g r) c 0 in
    let here : list_any (λ x. eqb x t) (schedule_targets g s) ≡ eqb c t =
    holds-patrols g patrols e s t low ∙ (ap (λ (xs : List ℕ). eqb (nth xs c 0) t) all ∙ choice-is (length g.goals) c t low high) in
    ap (λ (b : Bool). b || covers_from g (r + 1) cs t) here ∙ ap (λ (b : Bool). eqb c t || b) (covers_from-any g patrols e (r + 1) cs t low high)
