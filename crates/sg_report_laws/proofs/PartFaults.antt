-- The first fault of a commitment's parts, from the steps that find it.
use Rattle.std.proofs.Common.{◌≡◌, ℕ, ◌+◌, Bool, true, false, cond, List, [], ◌∷◌, ◌++◌, length, ℤ, pos, ◌+ℤ◌, ◌≤ℤ◌, refl, ◌∙◌, ap, subst, arith}
use Rattle.std.specs.Prelude.{Option, Some, None, Result, Ok, Err, int_le}
use Rattle.std.proofs.lemmas.Int.{ints}
use Rattle.std.proofs.lemmas.List.Elements.{All-nil, All-cons}
use Rattle.sg_model.specs.declared.ticket.Ticket.{Ticket}
use Rattle.sg_model.specs.Commitments.{weight_total}
use Rattle.sg_num.specs.declared.step.Op.TheVariants.{Sum}
use Rattle.sg_num.specs.declared.step.Wide.{Wide}
use Rattle.sg_num.specs.Exact.{and_then, fits}
use Rattle.sg_commit.specs.Parts.{exact_total, fault_from, first_below}
use Rattle.sg_report_laws.specs.PartFaults.{AreHeavy, FrontsFit, PartFaultsSay, Says}

-- ---- weights below 1, where the first place is i

record LightFrom (i : ℕ) (parts : List Ticket) (place : ℕ) : Type 0 where
  early : List Ticket
  part : Ticket
  late : List Ticket
  parted : parts ≡ early ++ part ∷ late
  place_is : place ≡ i + length early
  light : part.weight ≤ℤ pos 0
  before : AreHeavy early

abbrev LightSays : ℕ → List Ticket → Option ℕ → Type 0
LightSays i parts None = AreHeavy parts
LightSays i parts (Some place) = LightFrom i parts place

after_heavy : (i : ℕ) (x : Ticket) (xs : List Ticket) → pos 1 ≤ℤ x.weight → (o : Option ℕ) → LightSays (i + 1) xs o → LightSays i (x ∷ xs) o
after_heavy i x xs heavy None h = All-cons (λ (y : Ticket). pos 1 ≤ℤ y.weight) x xs heavy h
after_heavy i x xs heavy (Some place) h =
    record {
      early = x ∷ h.early;
      part = h.part;
      late = h.late;
      parted = ap (λ (l : List Ticket). x ∷ l) h.parted;
      place_is = omega (arith, h.place_is);
      light = h.light;
      before = All-cons (λ (y : Ticket). pos 1 ≤ℤ y.weight) x h.early heavy h.before;
    }

light_from : (i : ℕ) (parts : List Ticket) → LightSays i parts (first_below i parts)
light_from i [] = All-nil (λ (x : Ticket). pos 1 ≤ℤ x.weight)
light_from i (x ∷ xs) =
    elim (int_le (pos 1) x.weight) as (λ (b : Bool). int_le (pos 1) x.weight ≡ b → LightSays i (x ∷ xs) (cond b (first_below (i + 1) xs) (Some i))) [
      | true ↦ (λ e. after_heavy i x xs (omega (arith, ints, e)) (first_below (i + 1) xs) (light_from (i + 1) xs))
      | false ↦ (λ e. record {
        early = [];
        part = x;
        late = xs;
        parted = refl;
        place_is = omega arith;
        light = omega (arith, ints, e);
        before = All-nil (λ (y : Ticket). pos 1 ≤ℤ y.weight);
      })
    ] refl

-- ---- sums, from one on that fits

abbrev SumsFit : ℤ → List Ticket → Type 0
SumsFit acc parts = (front back : List Ticket) → parts ≡ front ++ back → fits (acc +ℤ weight_total front) ≡ true

record WideFrom (acc : ℤ) (parts : List Ticket) (wide : Wide) : Type 0 where
  early : List Ticket
  part : Ticket
  late : List Ticket
  parted : parts ≡ early ++ part ∷ late
  operation : wide ≡ record { op = Sum; left = acc +ℤ weight_total early; right = part.weight }
  leaves : fits ((acc +ℤ weight_total early) +ℤ part.weight) ≡ false
  before : SumsFit acc early

abbrev SumSays : ℤ → List Ticket → Result ℤ Wide → Type 0
SumSays acc parts (Ok total) = SumsFit acc parts
SumSays acc parts (Err wide) = WideFrom acc parts wide

fits_same : (a b : ℤ) (r : Bool) → a ≡ b → fits a ≡ r → fits b ≡ r
fits_same a b r e h = subst (λ (z : ℤ). fits z ≡ r) e h

one_more : (acc : ℤ) (x : Ticket) (xs : List Ticket) → fits acc ≡ true → SumsFit (acc +ℤ x.weight) xs → SumsFit acc (x ∷ xs)
one_more acc x xs fit h [] back e = fits_same acc (acc +ℤ pos 0) true (omega (arith, ints)) fit
one_more acc x xs fit h (y ∷ front) back e =
    let first : x ≡ y = cc in
    let rest : xs ≡ front ++ back = cc in
    let weights : x.weight ≡ y.weight = ap (λ (t : Ticket). t.weight) first in
    fits_same ((acc +ℤ x.weight) +ℤ weight_total front) (acc +ℤ (y.weight +ℤ weight_total front)) true (omega (arith, ints, weights)) (h front back rest)

same_wide : (a b w : ℤ) → a ≡ b → ◌≡◌ {A = Wide} (record { op = Sum; left = a; right = w }) (record { op = Sum; left = b; right = w })
same_wide a b w e = cc

none_before : (acc : ℤ) → fits acc ≡ true → SumsFit acc []
none_before acc fit [] back e = fits_same acc (acc +ℤ pos 0) true (omega (arith, ints)) fit
none_before acc fit (y ∷ front) back e = let no_way : ⊥ = cc in absurd no_way

after_sum : (acc : ℤ) (x : Ticket) (xs : List Ticket) → fits acc ≡ true → (r : Result ℤ Wide) → SumSays (acc +ℤ x.weight) xs r → SumSays acc (x ∷ xs) r
after_sum acc x xs fit (Ok total) h = one_more acc x xs fit h
after_sum acc x xs fit (Err wide) h =
    let sums : (acc +ℤ x.weight) +ℤ weight_total h.early ≡ acc +ℤ (x.weight +ℤ weight_total h.early) = omega (arith, ints) in
    record {
      early = x ∷ h.early;
      part = h.part;
      late = h.late;
      parted = ap (λ (l : List Ticket). x ∷ l) h.parted;
      operation = h.operation ∙ same_wide ((acc +ℤ x.weight) +ℤ weight_total h.early) (acc +ℤ (x.weight +ℤ weight_total h.early)) h.part.weight sums;
      leaves = fits_same (((acc +ℤ x.weight) +ℤ weight_total h.early) +ℤ h.part.weight) ((acc +ℤ (x.weight +ℤ weight_total h.early)) +ℤ h.part.weight) false (omega (arith, ints)) h.leaves;
      before = one_more acc x h.early fit h.before;
    }

sums_from : (acc : ℤ) (parts : List Ticket) → fits acc ≡ true → SumSays acc parts (exact_total acc parts)
sums_from acc [] fit = none_before acc fit
sums_from acc (x ∷ xs) fit =
    let wide : Wide = record { op = Sum; left = acc; right = x.weight } in
    elim (fits (acc +ℤ x.weight)) as (λ (b : Bool). fits (acc +ℤ x.weight) ≡ b → SumSays acc (x ∷ xs) (and_then (cond b (Ok (acc +ℤ x.weight)) (Err wide)) (λ next. exact_total next xs))) [
      | true ↦ (λ e. after_sum acc x xs fit (exact_total (acc +ℤ x.weight) xs) (sums_from (acc +ℤ x.weight) xs e))
      | false ↦ (λ e. record {
        early = [];
        part = x;
        late = xs;
        parted = refl;
        operation = same_wide acc (acc +ℤ pos 0) x.weight (omega (arith, ints));
        leaves = fits_same (acc +ℤ x.weight) ((acc +ℤ pos 0) +ℤ x.weight) false (omega (arith, ints)) e;
        before = none_before acc fit;
      })
    ] refl

-- ---- both

fronts : (parts : List Ticket) → SumsFit (pos 0) parts → FrontsFit parts
fronts parts h front back e = fits_same (pos 0 +ℤ weight_total front) (weight_total front) true (omega (arith, ints)) (h front back e)

says_from : (x : Ticket) (xs : List Ticket) (place : Option ℕ) (sum : Result ℤ Wide) → LightSays 0 (x ∷ xs) place → SumSays (pos 0) (x ∷ xs) sum → Says (x ∷ xs) (fault_from place sum)
says_from x xs (Some place) sum light sums =
    record { early = light.early; part = light.part; late = light.late; parted = light.parted; place_is = omega (arith, light.place_is); light = light.light; before = light.before }
says_from x xs None (Err wide) heavy sums = (
  heavy,
  record {
    early = sums.early;
    part = sums.part;
    late = sums.late;
    parted = sums.parted;
    operation = sums.operation ∙ same_wide (pos 0 +ℤ weight_total sums.early) (weight_total sums.early) sums.part.weight (omega (arith, ints));
    leaves = fits_same ((pos 0 +ℤ weight_total sums.early) +ℤ sums.part.weight) (weight_total sums.early +ℤ sums.part.weight) false (omega (arith, ints)) sums.leaves;
    before = fronts sums.early sums.before;
  },
)
says_from x xs None (Ok total) heavy sums = ((λ e. let no_way : ⊥ = cc in absurd no_way), heavy, fronts (x ∷ xs) sums)

pub part_faults_say : PartFaultsSay
part_faults_say [] = refl
part_faults_say (x ∷ xs) =
    says_from x xs (first_below 0 (x ∷ xs)) (exact_total (pos 0) (x ∷ xs)) (light_from 0 (x ∷ xs)) (sums_from (pos 0) (x ∷ xs) refl)
