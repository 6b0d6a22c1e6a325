-- The lists and names of a game of identical patrols.
use Rattle.std.proofs.Common.{◌++◌, map, ◌≡◌, ◌≤◌, ◌<◌, ◌-◌, ◌+◌, ℕ, zero, suc, length, List, [], ◌∷◌, Some, ◌∙◌, ap, arith, refl, take, drop, get_or}
use Rattle.std.specs.List.{All}
use Rattle.std.proofs.lemmas.List.{length-map, map_push}
use Rattle.std.proofs.lemmas.List.Elements.{All-cons, All-nil, All-same}
use Rattle.sg_model.specs.Games.{Game, schedule_targets, schedule_count}
use Rattle.sg_model.specs.Sums.{numbers, numbers_from}
use Rattle.sg_model.proofs.Numbers.{All-numbers, length-numbers_from, nth-numbers_from}
use Rattle.sg_game.specs.Counts.{IsGoalOf, IsScheduleOf, patrol_name, patrol_names}

pub known-patrols : (g : Game) (n : ℕ) → g.patrols ≡ Some n → (xs : List ℕ) → xs ≡ numbers (length g.goals) → All (IsScheduleOf g) xs
known-patrols g n e xs same =
    All-same (IsScheduleOf g) xs (numbers (length g.goals)) same (All-numbers (IsScheduleOf g) (length g.goals) (λ t low high. let count : schedule_count g ≡ length g.goals = rw e refl in (low, omega arith)))

pub within-patrols : (g : Game) (n : ℕ) → g.patrols ≡ Some n → (xs : List ℕ) → xs ≡ numbers (length g.goals) → (s : ℕ) → IsScheduleOf g s → s ≤ length xs
within-patrols g n e xs same s h = let count : schedule_count g ≡ length g.goals = rw e refl in omega (arith, ap length same, length-numbers_from 1 (length g.goals), h)

one_of : (xs : List ℕ) (k : ℕ) → k < length xs → take 1 (drop k xs) ≡ get_or xs k 0 ∷ []
one_of [] k h = absurd (omega arith)
one_of (x ∷ xs) zero h = refl
one_of (x ∷ xs) (suc k) h = one_of xs k (omega arith)

pub part-patrols : (g : Game) (n : ℕ) → g.patrols ≡ Some n → (xs : List ℕ) → xs ≡ numbers (length g.goals) → (s : ℕ) → IsScheduleOf g s → take (s - (s - 1)) (drop (s - 1) xs) ≡ schedule_targets g s
part-patrols g n e xs same zero h = absurd (omega (arith, h))
part-patrols g n e xs same (suc k) h =
    let in_list = within-patrols g n e xs same (suc k) h in
    let a : suc k - (suc k - 1) ≡ 1 = omega arith in
    let b : suc k - 1 ≡ k = omega arith in
    let at : get_or xs k 0 ≡ 1 + k = ap (λ (ys : List ℕ). get_or ys k 0) same ∙ nth-numbers_from 1 (length g.goals) k 0 (omega (arith, ap length same, length-numbers_from 1 (length g.goals))) in
    let this : get_or xs k 0 ≡ suc k = omega (arith, at) in
    rw (a, b, one_of xs k (omega arith), this, e) refl

-- with patrols, the one target of a schedule is known
pub goals-patrols : (g : Game) (n : ℕ) → g.patrols ≡ Some n → (s : ℕ) → IsScheduleOf g s → All (IsGoalOf g) (schedule_targets g s)
goals-patrols g n e s h =
    let count : schedule_count g ≡ length g.goals = rw e refl in
    let here : IsGoalOf g s = (h.0, omega (arith, h.1)) in
    All-same (IsGoalOf g) (schedule_targets g s) (s ∷ []) (alone g n e s h.0) (All-cons (IsGoalOf g) s [] here (All-nil (IsGoalOf g)))
  where
    alone : (g : Game) (n : ℕ) → g.patrols ≡ Some n → (s : ℕ) → 1 ≤ s → schedule_targets g s ≡ s ∷ []
    alone g n e zero h = absurd (omega arith)
    alone g n e (suc k) h = rw e refl

pub length-patrol_names : (n : ℕ) → length (patrol_names (Some n)) ≡ n
length-patrol_names n = length-map (numbers n) patrol_name ∙ length-numbers_from 1 n

numbers_from-more : (a k : ℕ) → numbers_from a (k + 1) ≡ numbers_from a k ++ (a + k) ∷ []
numbers_from-more a zero = let e : a + 0 ≡ a = omega arith in rw e refl
numbers_from-more a (suc k) =
    let e : suc k + 1 ≡ suc (k + 1) = omega arith in
    let f : (a + 1) + k ≡ a + suc k = omega arith in
    rw e (ap (λ (xs : List ℕ). a ∷ xs) (rw (← f) (numbers_from-more (a + 1) k)))

pub numbers-more : (k : ℕ) → numbers (k + 1) ≡ numbers k ++ (k + 1) ∷ []
numbers-more k = let e : k + 1 ≡ 1 + k = omega arith in numbers_from-more 1 k ∙ rw e refl

pub names-more : (k : ℕ) → map patrol_name (numbers (k + 1)) ≡ map patrol_name (numbers k) ++ patrol_name (k + 1) ∷ []
names-more k = ap (map patrol_name) (numbers-more k) ∙ map_push patrol_name (numbers k) (k + 1)
