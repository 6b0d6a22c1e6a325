-- How few choices and types a game has, and its rows as plays.
use Rattle.std.proofs.Common.{◌≡◌, ◌∙◌, ℕ, zero, suc, replicate, ◌+◌, ◌-◌, ◌<◌, ◌≤◌, Bool, true, false, cond, List, [], ◌∷◌, length, Option, Some, None, slice_index, ap, subst, sym, refl, arith, inl, inr}
use Rattle.std.specs.List.{All}
use Rattle.std.proofs.lemmas.List.Elements.{All-nil, All-weaker}
use Rattle.sg_model.specs.Sums.{nth, numbers}
use Rattle.std.proofs.lemmas.List.{length-replicate}
use Rattle.sg_model.specs.Games.{Game, Named, is_matrix, resource_count, resource_schedules, unnamed}
use Rattle.sg_model.specs.Plays.{IsLegal, IsRow}
use Rattle.sg_model.specs.Limits.{AreListed, AreMembers, IsDefended, IsGame, is_scaled}
use Rattle.sg_model.proofs.Numbers.{length-numbers_from}
use Rattle.sg_model.proofs.Promises.{game_cases, nth-or}

schedules-patrols : (g : Game) (n r : ℕ) → g.patrols ≡ Some n → resource_schedules g r ≡ numbers (length g.goals)
schedules-patrols g n r e = rw e refl

schedules-listed : (g : Game) (r : ℕ) → g.patrols ≡ None → resource_schedules g r ≡ (nth g.resources r unnamed).members
schedules-listed g r e = rw e refl

most-targets : (b : Bool) (n : ℕ) → n ≤ cond b 10000 200 → n ≤ 10000
most-targets true n h = h
most-targets false n h = omega arith

few_listed : (resources : List Named) → All (λ (x : Named). length x.members ≤ 10000) resources → (r : ℕ) → length (nth resources r unnamed).members ≤ 10000
few_listed resources h r = nth-or (λ (x : Named). length x.members ≤ 10000) resources unnamed (omega arith) h r

defended_by : (g : Game) (o : Option ℕ) → g.patrols ≡ o → IsDefended g g.patrols → IsDefended g o
defended_by g o e h = subst (λ (x : Option ℕ). IsDefended g x) e h

pub choices_few : (g : Game) → IsGame g → (r : ℕ) → length (resource_schedules g r) ≤ 10000
choices_few g h r = elim (game_cases g h) [
  | inl s ↦ elim g.patrols as (λ (o : Option ℕ). g.patrols ≡ o → length (resource_schedules g r) ≤ 10000) [
    | Some n ↦ (λ e. rw (schedules-patrols g n r e) (let few = most-targets (is_scaled g) (length g.goals) s.game.target_count.at_most in omega (arith, few, length-numbers_from 1 (length g.goals))))
    | None ↦ (λ e. rw (schedules-listed g r e) (
        let is : AreListed g = defended_by g None e s.game.defended in
        few_listed g.resources (All-weaker (λ (x : Named). AreMembers (length g.schedules) 500 x.members) (λ (x : Named). length x.members ≤ 10000) (λ x m. omega (arith, m.size.at_most)) g.resources is.resources.members) r))
  ] refl
  | inr m ↦ rw (schedules-listed g r m.game.no_patrols) (rw m.game.no_resources (few_listed [] (All-nil (λ (x : Named). length x.members ≤ 10000)) r))
]

one_of : (play : List ℕ) → length play ≡ 1 → play ≡ slice_index play 0 ∷ []
one_of [] e = absurd (omega arith)
one_of (x ∷ []) e = refl
one_of (x ∷ y ∷ xs) e = absurd (omega arith)

-- what holds of each row's play holds of each play that is a row
pub rows_all : (g : Game) (P : List ℕ → Type 0) → ((k : ℕ) → k < length g.goals → P ((k + 1) ∷ [])) → (play : List ℕ) → IsRow g play → P play
rows_all g P h play is =
    let i : ℕ = slice_index play 0 in
    let k = h (i - 1) (omega (arith, is.from_one, is.in_list)) in
    let e : i - 1 + 1 ≡ i = omega (arith, is.from_one) in
    subst P (ap (λ (n : ℕ). n ∷ []) e ∙ sym (one_of play is.one)) k

-- a row is a legal play
pub row-legal : (g : Game) → is_matrix g ≡ true → (k : ℕ) → k < length g.goals → IsLegal g ((k + 1) ∷ [])
row-legal g matrix k lt = rw matrix (record { one = refl; from_one = omega arith; in_list = omega (arith, lt) })

pub types-few : (g : Game) → IsGame g → length g.types ≤ 8
types-few g h = elim (game_cases g h) [ inl s ↦ s.game.types.count.at_most | inr m ↦ m.game.types.count.at_most ]

-- no choice at all is a legal play
pub idle-legal : (g : Game) → is_matrix g ≡ false → IsLegal g (replicate (resource_count g) 0)
idle-legal g security = rw security (record { one_each = length-replicate (resource_count g) 0; in_list = λ k lt. omega (arith, idle-at (resource_count g) k) })
  where
    idle-at : (n k : ℕ) → slice_index (replicate n 0) k ≡ 0
    idle-at zero k = refl
    idle-at (suc n) zero = refl
    idle-at (suc n) (suc k) = idle-at n k

-- what holds of each row's play holds of each legal play in matrix form
pub each-row : (g : Game) (P : List ℕ → Type 0) → is_matrix g ≡ true → ((k : ℕ) → k < length g.goals → P ((k + 1) ∷ [])) → (play : List ℕ) → IsLegal g play → P play
each-row g P matrix h play legal = rows_all g P h play (rw matrix at legal)
