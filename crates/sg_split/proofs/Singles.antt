-- Games in which each schedule has one target.
use Rattle.std.proofs.Common.{◌≡◌, ◌∙◌, ◌⊎◌, ℕ, zero, suc, ◌+◌, ◌-◌, ◌<◌, ◌≤◌, Bool, true, false, ◌||◌, cond, eqb, List, [], ◌∷◌, length, Option, Some, None, slice_index_or, get_or, ap, subst, sym, refl, arith, inl, inr}
use Rattle.std.specs.List.{All, list_any}
use Rattle.std.proofs.lemmas.Bool.{true≢false}
use Rattle.std.proofs.lemmas.List.Elements.{All-nil, All-weaker}
use Rattle.sg_model.specs.Sums.{nth, numbers}
use Rattle.sg_model.specs.Games.{Game, Named, is_matrix, resource_count, resource_schedules, schedule_count, schedule_targets, unnamed}
use Rattle.sg_model.specs.Limits.{AreListed, AreMembers, IsCount, IsDefended, IsGame, IsSecurityGame, is_scaled}
use Rattle.sg_model.proofs.Numbers.{length-numbers_from, nth-numbers}
use Rattle.sg_model.proofs.Promises.{game_cases, nth-all, nth-or, yes_matrix}
use Rattle.sg_game.specs.Counting.{IsSingle}
use Rattle.sg_game.specs.Counts.{IsGoalOf, IsScheduleOf}
use Rattle.sg_bounds.specs.Coverage.{choice_holds}
use Rattle.sg_split.specs.ByTarget.{IsTargetOf}

schedules-patrols : (g : Game) (n r : ℕ) → g.patrols ≡ Some n → resource_schedules g r ≡ numbers (length g.goals)
schedules-patrols g n r e = rw e refl

schedules-listed : (g : Game) (r : ℕ) → g.patrols ≡ None → resource_schedules g r ≡ (nth g.resources r unnamed).members
schedules-listed g r e = rw e refl

targets-patrols : (g : Game) (n s : ℕ) → g.patrols ≡ Some n → 1 ≤ s → schedule_targets g s ≡ s ∷ []
targets-patrols g n zero e low = absurd (omega (arith, low))
targets-patrols g n (suc s) e low = rw e refl

targets-listed : (g : Game) (s : ℕ) → g.patrols ≡ None → schedule_targets g s ≡ (nth g.schedules s unnamed).members
targets-listed g s e = rw e refl

count-listed : (g : Game) → g.patrols ≡ None → schedule_count g ≡ length g.schedules
count-listed g e = rw e refl

resources-listed : (g : Game) → g.patrols ≡ None → resource_count g ≡ length g.resources
resources-listed g e = rw e refl

most-targets : (b : Bool) (n : ℕ) → n ≤ cond b 10000 200 → n ≤ 10000
most-targets true n h = h
most-targets false n h = omega (arith, h)

defended_by : (g : Game) (o : Option ℕ) → g.patrols ≡ o → IsDefended g g.patrols → IsDefended g o
defended_by g o e h = subst (λ (x : Option ℕ). IsDefended g x) e h

pub secure : (g : Game) → IsGame g → is_matrix g ≡ false → IsSecurityGame g
secure g h form = elim (game_cases g h) [
  | inl s ↦ s.game
  | inr m ↦ absurd (true≢false (sym (yes_matrix g m.kind) ∙ form))
]

pub choices_few : (g : Game) → IsGame g → is_matrix g ≡ false → (r : ℕ) → length (resource_schedules g r) ≤ 10000
choices_few g h form r =
    let is : IsSecurityGame g = secure g h form in
    elim g.patrols as (λ (o : Option ℕ). g.patrols ≡ o → length (resource_schedules g r) ≤ 10000) [
      | Some n ↦ (λ e. omega (arith, most-targets (is_scaled g) (length g.goals) is.target_count.at_most, ap length (schedules-patrols g n r e), length-numbers_from 1 (length g.goals)))
      | None ↦ (λ e.
          let listed : AreListed g = defended_by g None e is.defended in
          let few : length (nth g.resources r unnamed).members ≤ 10000 =
          nth-or (λ (x : Named). length x.members ≤ 10000) g.resources unnamed (omega arith)
          (All-weaker (λ (x : Named). AreMembers (length g.schedules) 500 x.members) (λ (x : Named). length x.members ≤ 10000) (λ x m. omega (arith, m.size.at_most)) g.resources listed.resources.members) r in
          omega (arith, few, ap length (schedules-listed g r e)))
    ] refl

one_of : (xs : List ℕ) → length xs ≡ 1 → (x : ℕ) × (xs ≡ x ∷ [])
one_of [] e = absurd (omega (arith, e))
one_of (x ∷ []) e = (x, refl)
one_of (x ∷ y ∷ xs) e = absurd (omega (arith, e))

-- each choice above 0 has its target
pub target_of_choice : (g : Game) → IsGame g → IsSingle g → (r j : ℕ) → 1 ≤ r → r ≤ resource_count g → 1 ≤ j → j ≤ length (resource_schedules g r) → (t : ℕ) × IsTargetOf g r j t
target_of_choice g h single r j low high from within =
    let is : IsSecurityGame g = secure g h single.security in
    elim g.patrols as (λ (o : Option ℕ). g.patrols ≡ o → (t : ℕ) × IsTargetOf g r j t) [
      | Some n ↦ (λ e.
          let all = schedules-patrols g n r e in
          let upto : j ≤ length g.goals = omega (arith, within, ap length all, length-numbers_from 1 (length g.goals)) in
          let this : nth (resource_schedules g r) j 0 ≡ j = ap (λ (xs : List ℕ). nth xs j 0) all ∙ nth-numbers (length g.goals) j 0 from upto in
          (j, record { own = ap (schedule_targets g) this ∙ targets-patrols g n j e from; known = (from, upto) }))
      | None ↦ (λ e.
          let listed : AreListed g = defended_by g None e is.defended in
          let members = nth-all (λ (x : Named). AreMembers (length g.schedules) 500 x.members) g.resources unnamed listed.resources.members r low (omega (arith, high, resources-listed g e)) in
          let all = schedules-listed g r e in
          let s : ℕ = nth (resource_schedules g r) j 0 in
          let this : s ≡ nth (nth g.resources r unnamed).members j 0 = ap (λ (xs : List ℕ). nth xs j 0) all in
          let known : IsCount 1 (length g.schedules) (nth (nth g.resources r unnamed).members j 0) = nth-all (IsCount 1 (length g.schedules)) (nth g.resources r unnamed).members 0 members.known j from (omega (arith, within, ap length all)) in
          let s_low : 1 ≤ s = omega (arith, known.at_least, this) in
          let s_high : s ≤ length g.schedules = omega (arith, known.at_most, this) in
          let targets = nth-all (λ (x : Named). AreMembers (length g.goals) 200 x.members) g.schedules unnamed listed.schedules.members s s_low s_high in
          let one = one_of (schedule_targets g s) (single.one_each s (s_low, omega (arith, s_high, count-listed g e))) in
          let here : (nth g.schedules s unnamed).members ≡ one.0 ∷ [] = sym (targets-listed g s e) ∙ one.1 in
          let count : IsCount 1 (length g.goals) one.0 = nth-all (IsCount 1 (length g.goals)) (one.0 ∷ []) 0 (subst (λ (xs : List ℕ). All (IsCount 1 (length g.goals)) xs) here targets.known) 1 (omega arith) (omega arith) in
          (one.0, record { own = one.1; known = (count.at_least, count.at_most) }))
    ] refl

or-nothing : (b : Bool) → (b || false) ≡ b
or-nothing true = refl
or-nothing false = refl

-- a choice holds its target alone
pub holds_is : (g : Game) (r j x : ℕ) → IsTargetOf g r j x → (t : ℕ) → choice_holds g r j t ≡ eqb x t
holds_is g r j x is t = ap (λ (xs : List ℕ). list_any (λ y. eqb y t) xs) is.own ∙ or-nothing (eqb x t)

pub idle : (g : Game) (t : ℕ) → list_any (λ x. eqb x t) (schedule_targets g 0) ≡ false
idle g t = elim g.patrols as (λ (o : Option ℕ). g.patrols ≡ o → list_any (λ x. eqb x t) (schedule_targets g 0) ≡ false) [ Some n ↦ (λ e. rw e refl) | None ↦ (λ e. rw e refl) ] refl
