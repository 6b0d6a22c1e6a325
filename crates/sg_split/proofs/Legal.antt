-- The plays of moments are legal.
use Rattle.std.proofs.Common.{◌≡◌, ◌≢◌, ℕ, ◌+◌, ◌-◌, ◌^◌, ◌<◌, ◌≤◌, Bool, true, false, cond, List, [], ◌∷◌, length, ℤ, pos, ◌+ℤ◌, ◌*ℤ◌, ap, subst, sym, ◌∙◌, refl, arith, get_or, bytes_eq, MatchBool, None, Some, inl, inr}
use Rattle.std.specs.List.{All}
use Rattle.std.proofs.lemmas.Int.{ints}
use Rattle.std.proofs.lemmas.List.{get_or_default, length-map}
use Rattle.std.proofs.lemmas.List.Elements.{All-head, All-tail}
use Rattle.std.proofs.lemmas.Slice.Eq.{bytes_eq-Decides}
use Rattle.std.proofs.Math.ListN.{get_or-map}
use Rattle.sg_model.specs.declared.ticket.Ticket.{Ticket}
use Rattle.sg_model.specs.Sums.{numbers, numbers_from}
use Rattle.sg_model.specs.Games.{Game, is_matrix, resource_count, resource_schedules}
use Rattle.sg_model.specs.Limits.{IsGame, is_scaled}
use Rattle.sg_model.specs.Plays.{IsLegal, IsLegalJoint, IsRow}
use Rattle.sg_model.specs.Commitments.{weight_on}
use Rattle.sg_game.specs.Counts.{target_count}
use Rattle.sg_model.proofs.Forms.{no_matrix}
use Rattle.sg_model.proofs.Numbers.{length-numbers_from, nth-numbers_from}
use Rattle.sg_model.proofs.Promises.{game_cases}
use Rattle.sg_split.specs.Laying.{ends_from, play_at, target_at}
use Rattle.sg_split.proofs.Ends.{length-ends_from}
use Rattle.sg_split.proofs.Firsts.{first_past-few}

pub patrols_form : (g : Game) (n : ℕ) → IsGame g → g.patrols ≡ Some n → is_matrix g ≡ false
patrols_form g n h e = elim (game_cases g h) [
  | inl s ↦ no_matrix g s.kind
  | inr m ↦ absurd (let q : Some n ≡ None = sym e ∙ m.game.no_patrols in cc)
]

pub length-play_at : (ends : List ℤ) (patrols : ℕ) (d x : ℤ) → length (play_at ends patrols d x) ≡ patrols
length-play_at ends patrols d x = length-map (numbers_from 0 patrols) (λ r. target_at ends (pos r *ℤ d +ℤ x)) ∙ length-numbers_from 0 patrols

pub get_or-play_at : (ends : List ℤ) (patrols : ℕ) (d x : ℤ) (k : ℕ) → k < patrols → get_or (play_at ends patrols d x) k 0 ≡ target_at ends (pos k *ℤ d +ℤ x)
get_or-play_at ends patrols d x k lt =
    let f = λ (r : ℕ). target_at ends (pos r *ℤ d +ℤ x) in
    get_or_default (play_at ends patrols d x) k 0 (f 0) (omega (arith, lt, length-play_at ends patrols d x))
    ∙ (get_or-map f (numbers_from 0 patrols) k 0 ∙ ap f (nth-numbers_from 0 patrols k 0 lt ∙ omega arith))

pub play_at-legal : (g : Game) (counts : List ℤ) (d x : ℤ) → is_matrix g ≡ false → g.patrols ≡ Some (resource_count g) → length counts ≡ length g.goals
    → IsLegal g (play_at (ends_from (pos 0) counts) (resource_count g) d x)
play_at-legal g counts d x form patrolled len =
    let ends : List ℤ = ends_from (pos 0) counts in
    let r : ℕ = resource_count g in
    let play : List ℕ = play_at ends r d x in
    let one_each : length play ≡ r = length-play_at ends r d x in
    let in_list : (k : ℕ) → k < length play → get_or play k 0 ≤ length (resource_schedules g (k + 1)) = λ k lt.
    let all : resource_schedules g (k + 1) ≡ numbers (length g.goals) = rw patrolled refl in
    omega (arith, get_or-play_at ends r d x k (omega (arith, lt, one_each)), first_past-few ends (pos k *ℤ d +ℤ x), length-ends_from (pos 0) counts, len, ap length all, length-numbers_from 1 (length g.goals)) in
    let joint : IsLegalJoint g play = record { one_each = one_each; in_list = in_list } in
    subst (λ (b : Bool). MatchBool b (IsRow g play) (IsLegalJoint g play)) (sym form) joint

-- what holds of the plays of a list holds of each play that has a weight in it
pub holds-weighed : (P : List ℕ → Type 0) (k : List Ticket) → All (λ (x : Ticket). P x.play.code) k → (play : List ℕ) → weight_on k play ≢ pos 0 → P play
holds-weighed P [] each play some = absurd (some refl)
holds-weighed P (x ∷ xs) each play some =
    let Q : Ticket → Type 0 = λ (x : Ticket). P x.play.code in
    elim (bytes_eq x.play.code play) as (λ (b : Bool). bytes_eq x.play.code play ≡ b → (cond b x.weight (pos 0) +ℤ weight_on xs play) ≢ pos 0 → P play) [
      | true ↦ (λ same _. subst P ((bytes_eq-Decides x.play.code play).0 same) (All-head Q x xs each))
      | false ↦ (λ _ more. holds-weighed P xs (All-tail Q x xs each) play (λ e. more (omega (arith, ints, e))))
    ] refl some

at_most : (b : Bool) (n : ℕ) → n ≤ cond b 10000 200 → n < 2 ^ 16 - 1
at_most true n h = omega arith
at_most false n h = omega arith

-- 16 bits count the targets, and 0 besides
pub targets_few : (g : Game) → IsGame g → length g.goals < 2 ^ 16 - 1
targets_few g h = elim (game_cases g h) [
  | inl s ↦ at_most (is_scaled g) (length g.goals) s.game.target_count.at_most
  | inr m ↦ omega (arith, m.game.row_count.at_most)
]

pub patrols_are : (g : Game) (n : ℕ) → g.patrols ≡ Some n → g.patrols ≡ Some (resource_count g)
patrols_are g n e = let count : resource_count g ≡ n = rw e refl in e ∙ ap Some (sym count)

pub targets_are : (g : Game) (n t : ℕ) → IsGame g → g.patrols ≡ Some n → t ≡ target_count g → t ≡ length g.goals
targets_are g n t is e same = let form = patrols_form g n is e in rw form at same
