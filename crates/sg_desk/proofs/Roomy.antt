-- How many rows of the pool a node has: no more than the largest program of its game, and one.
use Rattle.std.proofs.Common.{◌≡◌, ◌∙◌, ℕ, zero, suc, ◌+◌, ◌-◌, ◌*◌, ◌<◌, ◌≤◌, List, [], ◌∷◌, ◌++◌, length, ap, refl, arith, inl, inr, slice_index_or}
use Rattle.std.specs.List.{All, sum_by}
use Rattle.std.proofs.lemmas.List.Elements.{All-head, All-tail}
use Rattle.std.proofs.lemmas.List.Sums.{sum_by-append, sum_by-cons}
use Rattle.sg_model.specs.Sums.{numbers, numbers_from}
use Rattle.sg_model.specs.Games.{Attacker, Game, action_count, nobody, resource_count}
use Rattle.sg_model.specs.Limits.{IsGame, program_rows}
use Rattle.sg_model.proofs.Forms.{no_matrix}
use Rattle.sg_model.proofs.Promises.{game_cases, yes_matrix}
use Rattle.sg_tree.specs.declared.fix.Fix.{Fix}
use Rattle.sg_bounds.specs.Regions.{IsFix}
use Rattle.sg_bounds.specs.PlayRows.{comparisons}
use Rattle.sg_programs.proofs.Heights.{comparisons-count, numbers-split}

-- the comparisons of type l
abbrev spare_actions : Game → ℕ → ℕ
spare_actions g l = action_count g l - 1

-- some of the numbers from 1 to n, in a row, have no greater sum than all
part-less : (f : ℕ → ℕ) (a m n : ℕ) → 1 ≤ a → a + m ≤ n + 1 → sum_by f (numbers_from a m) ≤ sum_by f (numbers n)
part-less f a m n low high =
    let front : List ℕ = numbers_from 1 (a - 1) in
    let rest : ℕ = n - (a - 1) - m in
    let all : n ≡ (a - 1) + (m + rest) = omega arith in
    let from : 1 + (a - 1) ≡ a = omega arith in
    let e : numbers n ≡ front ++ (numbers_from a m ++ numbers_from (a + m) rest) =
    ap numbers all ∙ numbers-split 1 (a - 1) (m + rest) ∙ ap (λ (b : ℕ). front ++ numbers_from b (m + rest)) from ∙ ap (λ (xs : List ℕ). front ++ xs) (numbers-split a m rest) in
    omega (arith, ap (sum_by f) e, sum_by-append f front (numbers_from a m ++ numbers_from (a + m) rest), sum_by-append f (numbers_from a m) (numbers_from (a + m) rest))

each-alike : (f : ℕ → ℕ) (k a m : ℕ) → ((l : ℕ) → f l ≡ k) → sum_by f (numbers_from a m) ≡ m * k
each-alike f k a zero h = omega arith
each-alike f k a (suc m) h = omega (arith, sum_by-cons f a (numbers_from (a + 1) m), h a, each-alike f k (a + 1) m h)

-- a sum over the types by number is one over the types
by-place : (f : ℕ → ℕ) (own : Attacker → ℕ) (types : List Attacker) (a : ℕ) → ((k : ℕ) → k < length types → f (a + k) ≡ own (slice_index_or types k nobody)) → sum_by f (numbers_from a (length types)) ≡ sum_by own types
by-place f own [] a e = refl
by-place f own (x ∷ xs) a e =
    let here : f a ≡ own x = ap f (first a) ∙ e 0 (omega arith) in
    let later = by-place f own xs (a + 1) (λ k lt. ap f (next a k) ∙ e (suc k) (omega (arith, lt))) in
    omega (arith, sum_by-cons f a (numbers_from (a + 1) (length xs)), sum_by-cons own x xs, here, later)
  where
    first : (a : ℕ) → a ≡ a + 0
    first a = omega arith

    next : (a k : ℕ) → a + 1 + k ≡ a + suc k
    next a k = omega arith

rows-of_types : (g : Game) → IsGame g → 1 + sum_by (spare_actions g) (numbers (length g.types)) ≤ program_rows g
rows-of_types g h = elim (game_cases g h) [
  | inl s ↦ (
      let k : ℕ = length g.goals - 1 in
      let each : (l : ℕ) → spare_actions g l ≡ k = λ l. rw (no_matrix g s.kind) refl in
      let all = each-alike (spare_actions g) k 1 (length g.types) each in
      let rows : program_rows g ≡ 1 + resource_count g + 2 * length g.goals + length g.types * k = rw (no_matrix g s.kind) refl in
      omega (arith, all, rows))
  | inr m ↦ (
      let own : Attacker → ℕ = λ (x : Attacker). length x.actions - 1 in
      let all = by-place (spare_actions g) own g.types 1 (λ k lt. let e : 1 + k ≡ suc k = omega arith in ap (spare_actions g) e ∙ (rw (yes_matrix g m.kind) refl)) in
      let rows : program_rows g ≡ 1 + sum_by own g.types = rw (yes_matrix g m.kind) refl in
      omega (arith, all, rows))
]

pub height-within : (g : Game) → IsGame g → (fix : Fix) → IsFix g fix → length (comparisons g fix) + 1 ≤ program_rows g
height-within g h fix is_fix =
    let part = part-less (spare_actions g) fix.first (length fix.acts) (length g.types) is_fix.from_one is_fix.in_range in
    omega (arith, comparisons-count g fix is_fix, part, rows-of_types g h)

-- where one of some numbers is 0 and none is above m, they and m are no more than m for each
pub sum-room : {X : Type 0} (f : X → ℕ) (m : ℕ) (xs : List X) (i : ℕ) (d : X) → i < length xs → f (slice_index_or xs i d) ≡ 0 → All (λ x. f x ≤ m) xs → sum_by f xs + m ≤ length xs * m
sum-room f m [] i d lt zero_here all = absurd (omega arith)
sum-room f m (x ∷ xs) zero d lt zero_here all = omega (arith, sum_by-cons f x xs, zero_here, sum-most f m xs (All-tail (λ y. f y ≤ m) x xs all))
  where
    sum-most : {Y : Type 0} (f : Y → ℕ) (m : ℕ) (ys : List Y) → All (λ y. f y ≤ m) ys → sum_by f ys ≤ length ys * m
    sum-most f m [] all = omega arith
    sum-most f m (y ∷ ys) all = omega (arith, sum_by-cons f y ys, All-head (λ z. f z ≤ m) y ys all, sum-most f m ys (All-tail (λ z. f z ≤ m) y ys all))
sum-room f m (x ∷ xs) (suc i) d lt zero_here all = omega (arith, sum_by-cons f x xs, All-head (λ y. f y ≤ m) x xs all, sum-room f m xs i d (omega (arith, lt)) zero_here (All-tail (λ y. f y ≤ m) x xs all))
