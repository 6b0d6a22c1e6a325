-- Where counts end that lie end to end.
use Rattle.std.proofs.Common.{◌≡◌, ℕ, zero, suc, ◌+◌, ◌-◌, ◌<◌, ◌≤◌, List, [], ◌∷◌, length, ℤ, pos, ◌+ℤ◌, ◌≤ℤ◌, ◌<ℤ◌, ap, subst, sym, ◌∙◌, refl, arith, get_or, inl, inr, ◌++◌, drop, append_assoc}
use Rattle.std.proofs.lemmas.Int.{ints}
use Rattle.std.proofs.lemmas.List.{at_drop_more}
use Rattle.sg_model.specs.Sums.{total}
use Rattle.sg_split.specs.Laying.{ends_from, target_at}
use Rattle.sg_split.proofs.Firsts.{IsFirst, first_past-is, first_past-found}

-- where target k + 1 begins, which is where target k ends
abbrev pub edge : ℤ → List ℤ → ℕ → ℤ
edge place ends zero = place
edge place ends (suc k) = get_or ends k (pos 0)

pub length-ends_from : (place : ℤ) (counts : List ℤ) → length (ends_from place counts) ≡ length counts
length-ends_from place [] = refl
length-ends_from place (c ∷ cs) = ap suc (length-ends_from (place +ℤ c) cs)

edge-next : (place c : ℤ) (ends : List ℤ) (k : ℕ) → get_or ((place +ℤ c) ∷ ends) k (pos 0) ≡ edge (place +ℤ c) ends k
edge-next place c ends zero = refl
edge-next place c ends (suc k) = refl

pub edge-step : (place : ℤ) (counts : List ℤ) (k : ℕ) → k < length counts → edge place (ends_from place counts) (suc k) ≡ edge place (ends_from place counts) k +ℤ get_or counts k (pos 0)
edge-step place [] k lt = absurd (omega (arith, lt))
edge-step place (c ∷ cs) zero lt = refl
edge-step place (c ∷ cs) (suc k) lt =
    edge-step (place +ℤ c) cs k (omega (arith, lt)) ∙ ap (λ (z : ℤ). z +ℤ get_or cs k (pos 0)) (sym (edge-next place c (ends_from (place +ℤ c) cs) k))

pub edge-last : (place : ℤ) (counts : List ℤ) → edge place (ends_from place counts) (length counts) ≡ place +ℤ total (λ c. c) counts
edge-last place [] = omega (arith, ints)
edge-last place (c ∷ cs) =
    edge-next place c (ends_from (place +ℤ c) cs) (length cs) ∙ (edge-last (place +ℤ c) cs ∙ omega (arith, ints))

-- counts of at least 0
abbrev pub AreNatural : List ℤ → Type 0
AreNatural counts = (k : ℕ) → k < length counts → pos 0 ≤ℤ get_or counts k (pos 0)

rise_by : (place : ℤ) (counts : List ℤ) → AreNatural counts → (i d : ℕ) → i + d ≤ length counts → edge place (ends_from place counts) i ≤ℤ edge place (ends_from place counts) (i + d)
rise_by place counts up i zero h = let e : i + 0 ≡ i = omega arith in rw e (omega (arith, ints))
rise_by place counts up i (suc d) h =
    let e : i + suc d ≡ suc (i + d) = omega arith in
    let lt : i + d < length counts = omega (arith, h) in
    rw e (omega (arith, ints, rise_by place counts up i d (omega (arith, h)), edge-step place counts (i + d) lt, up (i + d) lt))

pub edge-rises : (place : ℤ) (counts : List ℤ) → AreNatural counts → (i j : ℕ) → i ≤ j → j ≤ length counts → edge place (ends_from place counts) i ≤ℤ edge place (ends_from place counts) j
edge-rises place counts up i j le h =
    let e : i + (j - i) ≡ j = omega (arith, le) in
    subst (λ (k : ℕ). edge place (ends_from place counts) i ≤ℤ edge place (ends_from place counts) k) e (rise_by place counts up i (j - i) (omega (arith, le, h)))

-- target k + 1 holds the places from where it begins to before where it ends
pub record IsHeld (counts : List ℤ) (place : ℤ) (k : ℕ) : Type 0 where
  pub from : edge (pos 0) (ends_from (pos 0) counts) k ≤ℤ place
  pub below : place <ℤ edge (pos 0) (ends_from (pos 0) counts) (suc k)

pub target_at-held : (counts : List ℤ) (place : ℤ) (k : ℕ) → AreNatural counts → k < length counts → IsHeld counts place k → target_at (ends_from (pos 0) counts) place ≡ suc k
target_at-held counts place k up lt is =
    first_past-is 1 (ends_from (pos 0) counts) place k (record {
      in_range = omega (arith, lt, length-ends_from (pos 0) counts);
      before = λ i h. omega (arith, ints, edge-rises (pos 0) counts up (suc i) k (omega (arith, h)) (omega (arith, lt)), is.from);
      past = is.below;
    }) ∙ omega arith

from_before : (ends : List ℤ) (place : ℤ) (k : ℕ) → pos 0 ≤ℤ place → IsFirst ends place k → edge (pos 0) ends k ≤ℤ place
from_before ends place zero low is = low
from_before ends place (suc k) low is = is.before k (omega arith)

pub held-target_at : (counts : List ℤ) (place : ℤ) (k : ℕ) → pos 0 ≤ℤ place → target_at (ends_from (pos 0) counts) place ≡ suc k → IsHeld counts place k
held-target_at counts place k low e =
    let ends : List ℤ = ends_from (pos 0) counts in
    elim (first_past-found 1 ends place (omega arith)) [
      | inl none ↦ absurd (omega (arith, none, e))
      | inr found ↦ (
          let same : found.m ≡ k = omega (arith, found.is, e) in
          let first : IsFirst ends place k = subst (λ (m : ℕ). IsFirst ends place m) same found.first in
          record { from = from_before ends place k low first; below = first.past })
    ]

-- one more end
pub ends_from-more : (ends : List ℤ) (place next : ℤ) (counts : List ℤ) (i : ℕ) → i < length counts → next ≡ place +ℤ get_or counts i (pos 0)
    → ends ++ ends_from place (drop i counts) ≡ (ends ++ next ∷ []) ++ ends_from next (drop (i + 1) counts)
ends_from-more ends place next counts i lt e =
    let step : ends_from place (drop i counts) ≡ (place +ℤ get_or counts i (pos 0)) ∷ ends_from (place +ℤ get_or counts i (pos 0)) (drop (i + 1) counts) = at_drop_more (ends_from place) counts i (pos 0) lt in
    ap (λ (xs : List ℤ). ends ++ xs) (step ∙ ap (λ (z : ℤ). z ∷ ends_from z (drop (i + 1) counts)) (sym e)) ∙ sym (append_assoc ends (next ∷ []) (ends_from next (drop (i + 1) counts)))

pub last_end : (counts : List ℤ) → 1 ≤ length counts → get_or (ends_from (pos 0) counts) (length counts - 1) (pos 0) ≡ total (λ c. c) counts
last_end counts some =
    let e : length counts ≡ suc (length counts - 1) = omega (arith, some) in
    sym (ap (edge (pos 0) (ends_from (pos 0) counts)) e) ∙ (edge-last (pos 0) counts ∙ omega (arith, ints))
