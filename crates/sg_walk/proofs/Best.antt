-- The most that resources can add, one schedule and one resource after the other, and where more is covered.
use Rattle.std.proofs.Common.{◌≡◌, ◌⊎◌, ℕ, ◌+◌, ◌<◌, ◌≤◌, Bool, List, [], ◌∷◌, ◌++◌, length, map, ℤ, subst, sym, refl, arith, inl, inr, slice_index_or}
use Rattle.std.specs.Prelude.{max, slice_set}
use Rattle.std.specs.List.{Contains, fold}
use Rattle.std.proofs.lemmas.List.{get_or-set_other, get_or-set_same}
use Rattle.std.proofs.lemmas.List.Elements.{Contains-append_left, Contains-append_right}
use Rattle.sg_model.specs.Games.{Game}
use Rattle.sg_game.specs.Counts.{IsScheduleOf}
use Rattle.sg_walk.specs.declared.bounding.BestSchedule.{BestSchedule}
use Rattle.sg_walk.specs.BestSchedules.{IsBestSchedule, StaysCovered, saturated, no_schedule}
use Rattle.sg_walk.specs.Weights.{schedule_weight}
use Rattle.sg_walk.proofs.Pruned.{greatest-at, le_or_lt, schedules-shrink}

greatest-append : (f : ℕ → ℕ) (a : ℕ) (xs : List ℕ) (x : ℕ) → fold max a (map f (xs ++ x ∷ [])) ≡ max (fold max a (map f xs)) (f x)
greatest-append f a [] x = refl
greatest-append f a (y ∷ ys) x = greatest-append f (max a (f y)) ys x

greatest-holds : (f : ℕ → ℕ) (xs : List ℕ) (x : ℕ) → Contains xs x → f x ≤ fold max 0 (map f xs)
greatest-holds f xs x h = subst (λ (y : ℕ). f y ≤ fold max 0 (map f xs)) h.2 (greatest-at f 0 xs h.0 x h.1)

module _ (g : Game) (ws : List ℤ) (covered : ℕ → Bool) where
  -- a schedule that adds more
  pub best-rises : (xs : List ℕ) (best : BestSchedule) (s weight : ℕ) → IsBestSchedule g ws covered xs best → IsScheduleOf g s → weight ≡ saturated (schedule_weight g ws covered s) → best.weight < weight
      → IsBestSchedule g ws covered (xs ++ s ∷ []) (record { schedule = s; weight = weight })
  best-rises xs best s weight h known is lt = record {
    weight = omega (arith, h.weight, is, lt, greatest-append (schedule_weight g ws covered) 0 xs s);
    reached = inr (Contains-append_right xs (s ∷ []) s (0, omega arith, refl), known, is);
  }

-- where more is covered, the best schedule stays while it adds as much
pub best-still : (g : Game) (ws : List ℤ) (before after : ℕ → Bool) (xs : List ℕ) (best : BestSchedule) → StaysCovered before after → IsBestSchedule g ws before xs best
    → (best.weight ≡ 0) ⊎ (best.weight ≡ saturated (schedule_weight g ws after best.schedule)) → IsBestSchedule g ws after xs best
best-still g ws before after xs best stays h same =
    let less = schedules-shrink g ws before after stays xs in
    let none : best.weight ≡ 0 → IsBestSchedule g ws after xs best = λ z. record { weight = omega (arith, z, h.weight, less); reached = inl z } in
    elim same [
      | inl z ↦ none z
      | inr as_much ↦ elim h.reached [
        | inl z ↦ none z
        | inr r ↦ (
            let there = greatest-holds (schedule_weight g ws after) xs best.schedule r.0 in
            record { weight = omega (arith, h.weight, as_much, less, there); reached = inr (r.0, r.1, as_much) })
      ]
    ]

-- best schedules set one after the other
pub best-set : (P : ℕ → BestSchedule → Type 0) (best : List BestSchedule) (a i : ℕ) (x : BestSchedule) → i < length best → ((j : ℕ) → a ≤ j → j < i → P j (slice_index_or best j no_schedule)) → P i x
    → (j : ℕ) → a ≤ j → j < i + 1 → P j (slice_index_or (slice_set best i x) j no_schedule)
best-set P best a i x lt before here j low high = elim (le_or_lt i j) [
  | inl past ↦ (
      let e : i ≡ j = omega arith in
      let at = get_or-set_same best i x no_schedule lt in
      subst (λ (k : ℕ). P k (slice_index_or (slice_set best i x) k no_schedule)) e (subst (P i) (sym at) here))
  | inr inside ↦ (
      let at = get_or-set_other best i j x no_schedule (omega arith) in
      subst (P j) (sym at) (before j low inside))
]
