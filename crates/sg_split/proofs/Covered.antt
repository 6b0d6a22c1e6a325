-- How often the moments cover a target.
use Rattle.std.proofs.Common.{◌≡◌, ℕ, zero, suc, ◌+◌, ◌*◌, ◌<◌, true, false, cond, List, length, ℤ, pos, ◌+ℤ◌, ◌-ℤ◌, ◌*ℤ◌, ◌≤ℤ◌, ◌∙◌, refl, arith, eqb, get_or, inl, inr}
use Rattle.std.specs.List.{All, list_any}
use Rattle.std.proofs.lemmas.Int.{ints}
use Rattle.std.proofs.lemmas.Bool.{cases_eq}
use Rattle.std.proofs.lemmas.Bool.Decides.{nat_tests}
use Rattle.sg_model.specs.declared.ticket.Ticket.{Ticket}
use Rattle.sg_model.specs.Sums.{total, numbers_from}
use Rattle.sg_model.specs.Games.{Game, resource_count}
use Rattle.sg_model.specs.Limits.{IsWithin}
use Rattle.sg_model.specs.Plays.{covers}
use Rattle.sg_model.specs.Commitments.{cover_count, weight_total}
use Rattle.sg_model.proofs.Held.{covers_from-any}
use Rattle.sg_model.proofs.Ints.{v, n, plus, times, same_by, mul-le, product_nonneg}
use Rattle.sg_model.proofs.Sums.{total-exchange}
use Rattle.sg_split.specs.Laying.{AreCounts, ends_from, play_at, target_at, tickets_at}
use Rattle.sg_split.proofs.Counted.{IsCounted, IsOnce, any-once, total-blocks, total-counted, total-map, total-same_from}
use Rattle.sg_split.proofs.Ends.{AreNatural, IsHeld, edge, edge-last, edge-rises, edge-step, held-target_at, target_at-held}

-- the next patrol
pub next_patrol : (q : ℕ) (d : ℤ) → pos (suc q) *ℤ d ≡ (pos q *ℤ d) +ℤ d
next_patrol q d = same_by (times (n (suc q)) (v d)) (plus (times (n q) (v d)) (v d)) (omega arith)

-- a target of which no two patrols come at one moment, since its count is at most the moments
pub held_once : (counts : List ℤ) (d : ℤ) (k : ℕ) (x : ℤ) → k < length counts → get_or counts k (pos 0) ≤ℤ d → pos 0 ≤ℤ d → pos 0 ≤ℤ x
    → IsOnce (λ r. target_at (ends_from (pos 0) counts) (pos r *ℤ d +ℤ x)) (suc k)
held_once counts d k x lt few low from i j before here there =
    let ends : List ℤ = ends_from (pos 0) counts in
    let a = held-target_at counts (pos i *ℤ d +ℤ x) k (omega (arith, ints, from, product_nonneg (pos i) d (omega (arith, ints)) low)) here in
    let b = held-target_at counts (pos j *ℤ d +ℤ x) k (omega (arith, ints, from, product_nonneg (pos j) d (omega (arith, ints)) low)) there in
    let m = mul-le (pos (suc i)) (pos j) d (omega (arith, ints, before)) low in
    omega (arith, ints, a.from, b.below, edge-step (pos 0) counts k lt, few, m, next_patrol i d)

-- the places that a target holds
pub held_places : (counts : List ℤ) (k : ℕ) → AreNatural counts → k < length counts
    → IsCounted (λ p. cond (eqb (target_at (ends_from (pos 0) counts) (pos p)) (suc k)) (pos 1) (pos 0)) (edge (pos 0) (ends_from (pos 0) counts) k) (edge (pos 0) (ends_from (pos 0) counts) (suc k))
held_places counts k up lt = record {
  inside = λ p from below.
      let e : target_at (ends_from (pos 0) counts) (pos p) ≡ suc k = target_at-held counts (pos p) k up lt (record { from = from; below = below }) in
      let h : eqb (target_at (ends_from (pos 0) counts) (pos p)) (suc k) ≡ true = grind (arith, nat_tests) in
      rw h refl;
  below = λ p before. missed p (λ is. omega (arith, ints, before, is.from));
  above = λ p after. missed p (λ is. omega (arith, ints, after, is.below));
}
  where
    missed : (p : ℕ) → (IsHeld counts (pos p) k → ⊥) → cond (eqb (target_at (ends_from (pos 0) counts) (pos p)) (suc k)) (pos 1) (pos 0) ≡ pos 0
    missed p none =
        elim (cases_eq (target_at (ends_from (pos 0) counts) (pos p)) (suc k)) [
          | inl e ↦ absurd (none (held-target_at counts (pos p) k (omega (arith, ints)) e))
          | inr ne ↦ (let h : eqb (target_at (ends_from (pos 0) counts) (pos p)) (suc k) ≡ false = grind (arith, nat_tests) in rw h refl)
        ]

place_is : (q d i : ℕ) → (pos q *ℤ pos d) +ℤ pos i ≡ pos (q * d + i)
place_is q d i = same_by (plus (times (n q) (n d)) (n i)) (n (q * d + i)) (omega arith)

pub natural_counts : (counts : List ℤ) (d : ℤ) → All (IsWithin (pos 0) d) counts → AreNatural counts
natural_counts counts d within = λ k lt. (within k (pos 0) lt).at_least

-- over all moments a target is covered in its count
pub moments_cover : (counts : List ℤ) (patrols d k : ℕ) → All (IsWithin (pos 0) (pos d)) counts → total (λ c. c) counts ≤ℤ (pos patrols *ℤ pos d) → k < length counts
    → total (λ x. cond (list_any (λ c. eqb c (suc k)) (play_at (ends_from (pos 0) counts) patrols (pos d) (pos x))) (pos 1) (pos 0)) (numbers_from 0 d) ≡ get_or counts k (pos 0)
moments_cover counts patrols d k within few lt =
    let ends : List ℤ = ends_from (pos 0) counts in
    let up = natural_counts counts (pos d) within in
    let hit = λ (p : ℕ). cond (eqb (target_at ends (pos p)) (suc k)) (pos 1) (pos 0) in
    let cell = λ (x r : ℕ). cond (eqb (target_at ends ((pos r *ℤ pos d) +ℤ pos x)) (suc k)) (pos 1) (pos 0) in
    let a : total (λ x. cond (list_any (λ c. eqb c (suc k)) (play_at ends patrols (pos d) (pos x))) (pos 1) (pos 0)) (numbers_from 0 d) ≡ total (λ x. total (cell x) (numbers_from 0 patrols)) (numbers_from 0 d) =
    total-same_from (λ x. cond (list_any (λ c. eqb c (suc k)) (play_at ends patrols (pos d) (pos x))) (pos 1) (pos 0)) (λ x. total (cell x) (numbers_from 0 patrols)) 0 d
    (λ x _ _. any-once (λ r. target_at ends ((pos r *ℤ pos d) +ℤ pos x)) (suc k) 0 patrols (held_once counts (pos d) k (pos x) lt (within k (pos 0) lt).at_most (omega (arith, ints)) (omega (arith, ints)))) in
    let b : total (λ x. total (cell x) (numbers_from 0 patrols)) (numbers_from 0 d) ≡ total (λ r. total (λ x. cell x r) (numbers_from 0 d)) (numbers_from 0 patrols) = total-exchange cell (numbers_from 0 d) (numbers_from 0 patrols) in
    let c : total (λ r. total (λ x. cell x r) (numbers_from 0 d)) (numbers_from 0 patrols) ≡ total (λ r. total (λ x. hit (r * d + x)) (numbers_from 0 d)) (numbers_from 0 patrols) =
    λ i. total (λ r. total (λ x. cond (eqb (target_at ends (place_is r d x i)) (suc k)) (pos 1) (pos 0)) (numbers_from 0 d)) (numbers_from 0 patrols) in
    let e = total-blocks hit d patrols in
    let high : edge (pos 0) ends (suc k) ≤ℤ pos (patrols * d) =
    let last = edge-last (pos 0) counts in
    let rise = edge-rises (pos 0) counts up (suc k) (length counts) (omega (arith, lt)) (omega arith) in
    let whole : pos patrols *ℤ pos d ≡ pos (patrols * d) = same_by (times (n patrols) (n d)) (n (patrols * d)) (omega arith) in
    omega (arith, ints, last, rise, few, whole) in
    let low : pos 0 ≤ℤ edge (pos 0) ends k = edge-rises (pos 0) counts up 0 k (omega arith) (omega (arith, lt)) in
    let step = edge-step (pos 0) counts k lt in
    let f : total hit (numbers_from 0 (patrols * d)) ≡ edge (pos 0) ends (suc k) -ℤ edge (pos 0) ends k =
    total-counted hit (edge (pos 0) ends k) (edge (pos 0) ends (suc k)) (patrols * d) (held_places counts k up lt) low (omega (arith, ints, step, up k lt)) high in
    a ∙ (b ∙ (c ∙ (e ∙ (f ∙ omega (arith, ints, step)))))

pub weight_total-moments : (ends : List ℤ) (patrols : ℕ) (d : ℤ) (a m : ℕ) → weight_total (tickets_at ends patrols d (numbers_from a m)) ≡ pos m
weight_total-moments ends patrols d a zero = refl
weight_total-moments ends patrols d a (suc m) = omega (arith, ints, weight_total-moments ends patrols d (a + 1) m)

-- a game's identical patrols cover target k + 1 in its count
pub cover_count-moments : (g : Game) (counts : List ℤ) (d k : ℕ) → AreCounts g counts (pos d) → k < length g.goals
    → cover_count g (tickets_at (ends_from (pos 0) counts) (resource_count g) (pos d) (numbers_from 0 d)) (suc k) ≡ get_or counts k (pos 0)
cover_count-moments g counts d k are lt =
    let ends : List ℤ = ends_from (pos 0) counts in
    let r : ℕ = resource_count g in
    let ticket = λ (x : ℕ). play_at ends r (pos d) (pos x) in
    let a : cover_count g (tickets_at ends r (pos d) (numbers_from 0 d)) (suc k) ≡ total (λ x. cond (covers g (ticket x) (suc k)) (pos 1) (pos 0)) (numbers_from 0 d) =
    total-map (λ (y : Ticket). cond (covers g y.play.code (suc k)) y.weight (pos 0)) (λ (x : ℕ). record { play = record { code = ticket x }; weight = pos 1 }) (numbers_from 0 d) in
    let b : total (λ x. cond (covers g (ticket x) (suc k)) (pos 1) (pos 0)) (numbers_from 0 d) ≡ total (λ x. cond (list_any (λ c. eqb c (suc k)) (ticket x)) (pos 1) (pos 0)) (numbers_from 0 d) =
    λ i. total (λ x. cond (covers_from-any g r are.patrolled 1 (ticket x) (suc k) (omega arith) (omega (arith, lt)) i) (pos 1) (pos 0)) (numbers_from 0 d) in
    a ∙ (b ∙ moments_cover counts r d k are.within are.few (omega (arith, lt, are.one_each)))

-- the same moment of the next patrol
pub next_place : (r : ℕ) (d x : ℤ) → ((pos (r + 1) *ℤ d) +ℤ x) ≡ ((pos r *ℤ d) +ℤ x) +ℤ d
next_place r d x = same_by (plus (times (n (r + 1)) (v d)) (v x)) (plus (plus (times (n r) (v d)) (v x)) (v d)) (omega arith)
