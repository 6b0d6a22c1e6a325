-- What the lanes are told, and what a selection is handed of it.
use Rattle.std.proofs.Common.{◌≡◌, ◌≢◌, ◌∙◌, ℕ, ◌+◌, ◌<◌, ◌≤◌, nat_eq, Bool, true, false, List, length, set, get_or, take, sym, ap, subst, refl, arith, Option, Some, None, All, length-set}
use Rattle.std.specs.Prelude.{◌⊎◌, ◌↔◌, IfNone, IsNone, slice_get}
use Rattle.std.proofs.Common.{inl, inr, length-take-le}
use Rattle.std.proofs.lemmas.Bool.{cases_Bool, eqb-true}
use Rattle.std.proofs.lemmas.List.{get_or-set_same, get_or-set_other, get_or-take}
use Rattle.std.proofs.lemmas.Option.{get_or_from_slice_get, slice_get_within}
use Rattle.sg_frac.specs.Fractions.{Fraction}
use Rattle.sg_model.specs.Payoffs.{IsPeopled}
use Rattle.sg_tree.specs.declared.worked.Worked.{Worked}
use Rattle.sg_search.specs.declared.event.Ready.{Ready}
use Rattle.sg_search.specs.Events.{Tells}
use Rattle.sg_search.specs.Results.{IsResult}
use Rattle.sg_search.specs.TreeLaws.{AreFacts}
use Rattle.sg_lanes.specs.Machines.{IsNumber, Machine}
use Rattle.sg_lanes.specs.Machines.{IsRankOf as IsMachineRank}
use Rattle.sg_selection.specs.Handing.{IsAskable, IsHanded, IsRankOf}
use Rattle.sg_solve.specs.UnderWay.{AreTold}

-- a lane more is told
pub told-more : (m : Machine) (k : ℕ) (xs : List Ready) (r : Ready) → length xs ≡ 8 → k < 8 → AreTold m k xs → Tells m.task m.search (k + 1) r → AreTold m (k + 1) (set xs k r) × (length (set xs k r) ≡ 8)
told-more m k xs r len lt told one = (λ place low. by place low (cases_Bool (nat_eq place k)), length-set xs k r ∙ len)
  where
    by : (place : ℕ) → place < k + 1 → (nat_eq place k ≡ true) ⊎ (nat_eq place k ≡ false) → Tells m.task m.search (place + 1) (get_or (set xs k r) place Ready.Nothing)
    by place low (inl e) =
        let same : place ≡ k = eqb-true place k e in
        subst (λ (i : ℕ). Tells m.task m.search (i + 1) (get_or (set xs k r) i Ready.Nothing)) (sym same)
        (subst (Tells m.task m.search (k + 1)) (sym (get_or-set_same xs k r Ready.Nothing (omega (arith, len, lt)))) one)
    by place low (inr e) =
        let apart : place ≢ k = λ same. absurd (differ place k same e) in
        subst (Tells m.task m.search (place + 1)) (sym (get_or-set_other xs k place r Ready.Nothing apart)) (told place (below place k low apart))
      where
        differ : (i j : ℕ) → i ≡ j → nat_eq i j ≡ false → ⊥
        differ i j same e = grind (arith, same, e)

        below : (i j : ℕ) → i < j + 1 → i ≢ j → i < j
        below i j h ne = grind (arith, h, ne)

module _ (m : Machine) (count : ℕ) (xs : List Ready) (len : length xs ≡ 8) (few : count ≤ 8) (told : AreTold m count xs) where
  size : length (take count xs) ≡ count
  size = length-take-le count xs (omega (arith, len, few))

  told-at : (place : ℕ) (r : Ready) → slice_get (take count xs) place ≡ Some r → Tells m.task m.search (place + 1) r
  told-at place r is =
      let within = slice_get_within (take count xs) place r is in
      let low : place < count = omega (arith, within, size) in
      let same = get_or_from_slice_get (take count xs) place r Ready.Nothing is in
      subst (Tells m.task m.search (place + 1)) (sym (get_or-take count xs place Ready.Nothing low) ∙ same) (told place low)

  pub asked : IsAskable (λ n. IsNumber m.task m.search n) (take count xs)
  asked = record {
    few = omega (arith, size, few);
    some = λ place k is. (told-at place (Ready.Begin k) is).some k refl;
    ranked = λ place k n is below. record { lane = place + 1; count = k; told = told-at place (Ready.Begin k) is; below = below };
  }

  pub handed : IsPeopled m.task.game → length m.search.lanes ≡ count → All (IsResult m.task.game) m.search.worked → IsHanded (λ n b. IsMachineRank m.task m.search n b) (take count xs) m.task m.search
  handed peopled lanes results = record {
    peopled = peopled;
    facts = λ i w lt. (results i w lt).fact;
    lanes = size ∙ sym lanes;
    told = told-at;
    ranks = λ n b r. record { node = r.node; bound = r.bound; choice = r.choice; rank = r.rank; equal = r.equal };
  }

-- none is told where nothing may happen
pub none-where : {X : Type 0} (o : Option X) (P : Type 0) → (IsNone o ↔ P) → IfNone o P
none-where None P h = h.0 refl
none-where (Some x) P h = tt
