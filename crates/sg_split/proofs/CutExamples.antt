-- Cut places worked out by hand.
use Rattle.std.proofs.Common.{◌≡◌, ℕ, zero, suc, ◌<◌, [], ◌∷◌, pos, refl, inl, inr, arith}
use Rattle.std.specs.Prelude.{int_rem, slice_index_or}
use Rattle.std.proofs.lemmas.Int.{ints}
use Rattle.sg_split.specs.Laws.{CutPlacesAreWorked}

-- the one end is at moment 1
not_two : (k : ℕ) → k < 1 → pos 2 ≡ int_rem (slice_index_or (pos 1 ∷ []) k (pos 0)) (pos 3) → ⊥
not_two zero lt e = omega (arith, ints, e)
not_two (suc k) lt e = omega (arith, lt)

pub cuts_worked : CutPlacesAreWorked
cuts_worked = record {
  start = inl refl;
  leaving = inr (0, omega arith, refl);
  first_of_two = inr (0, omega arith, refl);
  second_of_two = inr (1, omega arith, refl);
  no_other = λ cut. elim cut [
    | inl e ↦ omega (arith, ints, e)
    | inr h ↦ not_two h.0 h.1 h.2
  ];
}
