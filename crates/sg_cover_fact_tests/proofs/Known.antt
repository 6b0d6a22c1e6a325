-- Actions of the first types are a fix.
use Rattle.std.proofs.Common.{◌≡◌, ℕ, suc, ◌+◌, ◌<◌, ◌≤◌, List, [], ◌∷◌, length, slice_index, arith, subst}
use Rattle.std.specs.List.{All, zip}
use Rattle.std.proofs.lemmas.List.Elements.{All-cons, All-nil}
use Rattle.sg_model.specs.Games.{Game, action_count}
use Rattle.sg_model.specs.Sums.{numbers_from}
use Rattle.sg_bounds.specs.Regions.{IsFix, prefix}

abbrev IsAct : Game → ℕ × ℕ → Type 0
IsAct g p = (1 ≤ p.1) × (p.1 ≤ action_count g p.0)

acts-known : (g : Game) (r : ℕ) (acts : List ℕ) → ((k : ℕ) → k < length acts → IsAct g (r + k, slice_index acts k)) → All (IsAct g) (zip (numbers_from r (length acts)) acts)
acts-known g r [] h = All-nil (IsAct g)
acts-known g r (a ∷ as1) h =
    let same : r + 0 ≡ r = omega arith in
    All-cons (IsAct g) (r, a) (zip (numbers_from (r + 1) (length as1)) as1) (subst (λ (l : ℕ). IsAct g (l, a)) same (h 0 (omega arith)))
    (acts-known g (r + 1) as1 (λ k lt. let next : r + suc k ≡ r + 1 + k = omega arith in subst (λ (l : ℕ). IsAct g (l, slice_index as1 k)) next (h (suc k) (omega (arith, lt)))))

pub prefix-is-fix : (g : Game) (acts : List ℕ) → 1 ≤ length acts → length acts ≤ length g.types → ((k : ℕ) → k < length acts → IsAct g (1 + k, slice_index acts k)) → IsFix g (prefix acts)
prefix-is-fix g acts some few h = record { some = not_empty acts some; from_one = omega arith; in_range = omega (arith, few); acts = acts-known g 1 acts h }
  where
    not_empty : (xs : List ℕ) → 1 ≤ length xs → xs ≡ [] → ⊥
    not_empty [] h e = absurd (omega arith)
    not_empty (x ∷ xs) h e = cc
