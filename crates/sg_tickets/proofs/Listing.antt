-- The list of places: how many there are, ticket by ticket, and how often a test holds of them.
use Rattle.std.proofs.Common.{◌≡◌, ℕ, zero, suc, ◌+◌, ◌-◌, ◌*◌, ◌<◌, ◌≤◌, Bool, true, false, cond, List, [], ◌∷◌, ◌++◌, length, get_or, replicate, drop, ℤ, pos, negsuc, ◌+ℤ◌, ◌*ℤ◌, ◌≤ℤ◌, sym, ◌∙◌, ap, subst, refl, arith, append_assoc, length-append}
use Rattle.std.specs.Prelude.{unsigned_abs}
use Rattle.std.specs.List.{All, count_by}
use Rattle.std.proofs.Math.Seq.{drop-cons}
use Rattle.std.proofs.lemmas.Int.{ints}
use Rattle.std.proofs.lemmas.List.{length-replicate}
use Rattle.std.proofs.lemmas.List.Elements.{All-append, All-head, All-nil, All-replicate, All-tail}
use Rattle.std.proofs.lemmas.List.Folds.{sum_by-replicate}
use Rattle.std.proofs.lemmas.List.Sums.{sum_by-append}
use Rattle.sg_model.specs.declared.ticket.Ticket.{Ticket}
use Rattle.sg_model.specs.Sums.{total}
use Rattle.sg_model.specs.Commitments.{weight_total}
use Rattle.sg_commit.specs.Joining.{no_ticket}
use Rattle.sg_tickets.specs.Expansion.{places_from, places_of, ticket_at}
use Rattle.sg_tickets.specs.ExpansionLaws.{ArePositive}

abbrev pub Heavy : Ticket → Type 0
Heavy x = pos 1 ≤ℤ x.weight

-- a weight of at least 1 as a count
pub counted : (z : ℤ) → pos 1 ≤ℤ z → pos (unsigned_abs z) ≡ z
counted (pos m) h = refl
counted (negsuc m) h = absurd (omega (arith, ints))

-- no ticket weighs less than 1, so there are at most as many as the total
pub few : (k : List Ticket) → ArePositive k → pos (length k) ≤ℤ weight_total k
few [] h = omega (arith, ints)
few (x ∷ xs) h = omega (arith, ints, few xs (All-tail Heavy x xs h), All-head Heavy x xs h)

nonnegative : (k : List Ticket) → ArePositive k → pos 0 ≤ℤ weight_total k
nonnegative k h = omega (arith, ints, few k h)

-- no weight is above the total
pub light : (k : List Ticket) → ArePositive k → (i : ℕ) (d : Ticket) → i < length k → (get_or k i d).weight ≤ℤ weight_total k
light [] h i d lt = absurd (omega arith)
light (x ∷ xs) h zero d lt = omega (arith, ints, nonnegative xs (All-tail Heavy x xs h))
light (x ∷ xs) h (suc i) d lt = omega (arith, ints, light xs (All-tail Heavy x xs h) i d (omega arith), All-head Heavy x xs h)

-- what is listed, and what is left to list, one ticket on
pub listed_more : (k : List Ticket) (i : ℕ) (x : Ticket) (count : ℕ) (list next whole : List ℕ) → i < length k → x ≡ get_or k i x → count ≡ unsigned_abs x.weight → next ≡ list ++ replicate count i
    → list ++ places_from i (drop i k) ≡ whole → next ++ places_from (i + 1) (drop (i + 1) k) ≡ whole
listed_more k i x count list next whole lt here counts added e =
    let rest : List ℕ = places_from (i + 1) (drop (i + 1) k) in
    let one : suc i ≡ i + 1 = omega arith in
    let opened : drop i k ≡ x ∷ drop (i + 1) k =
    drop-cons k i x lt ∙ ap (λ (y : Ticket). y ∷ drop (suc i) k) (sym here) ∙ ap (λ (j : ℕ). x ∷ drop j k) one in
    let split : places_from i (drop i k) ≡ replicate count i ++ rest =
    ap (places_from i) opened ∙ ap (λ (m : ℕ). replicate m i ++ rest) (sym counts) in
    ap (λ (t : List ℕ). t ++ rest) added ∙ append_assoc list (replicate count i) rest ∙ ap (λ (t : List ℕ). list ++ t) (sym split) ∙ e

-- as many places as the weights sum to
pub length-places_from : (i : ℕ) (k : List Ticket) → ArePositive k → pos (length (places_from i k)) ≡ weight_total k
length-places_from i [] h = refl
length-places_from i (x ∷ xs) h =
    let m : ℕ = unsigned_abs x.weight in
    let a : length (places_from i (x ∷ xs)) ≡ m + length (places_from (i + 1) xs) = length-append (replicate m i) (places_from (i + 1) xs) ∙ ap (λ (j : ℕ). j + length (places_from (i + 1) xs)) (length-replicate m i) in
    let b = counted x.weight (All-head Heavy x xs h) in
    ap pos a ∙ omega (arith, ints, b, length-places_from (i + 1) xs (All-tail Heavy x xs h))

-- from the first place on, and below the last
abbrev pub IsFrom : ℕ → ℕ → ℕ → Type 0
IsFrom i m j = (i ≤ j) × (j < i + m)

pub All-places_from : (i : ℕ) (k : List Ticket) → All (IsFrom i (length k)) (places_from i k)
All-places_from i [] = All-nil (IsFrom i 0)
All-places_from i (x ∷ xs) =
    let P : ℕ → Type 0 = IsFrom i (length (x ∷ xs)) in
    let here : P i = (omega arith, omega arith) in
    let rest : All P (places_from (i + 1) xs) = λ j d lt. let q = All-places_from (i + 1) xs j d lt in (omega (arith, q), omega (arith, q)) in
    All-append P (replicate (unsigned_abs x.weight) i) (places_from (i + 1) xs) (All-replicate P (unsigned_abs x.weight) i here) rest

-- the places are those of tickets
pub known : (k : List Ticket) → All (λ i. i < length k) (places_of k)
known k = λ j d lt. let q = All-places_from 0 k j d lt in omega (arith, q)

-- how often a test holds of so many copies of a number, and of the rest
pub count_by-copies : (p : ℕ → Bool) (m i : ℕ) (rest : List ℕ) → count_by p (replicate m i ++ rest) ≡ m * cond (p i) 1 0 + count_by p rest
count_by-copies p m i rest =
    sum_by-append (λ x. cond (p x) 1 0) (replicate m i) rest ∙ ap (λ (j : ℕ). j + count_by p rest) (sum_by-replicate (λ x. cond (p x) 1 0) m i)

-- a test that each place passes as its ticket passes another holds as often as those tickets weigh
pub count_by-places_from : (p : ℕ → Bool) (q : Ticket → Bool) (i : ℕ) (k : List Ticket) → ArePositive k
    → ((j : ℕ) → j < length k → p (i + j) ≡ q (get_or k j no_ticket))
    → pos (count_by p (places_from i k)) ≡ total (λ (x : Ticket). cond (q x) x.weight (pos 0)) k
count_by-places_from p q i [] h alike = refl
count_by-places_from p q i (x ∷ xs) h alike =
    let m : ℕ = unsigned_abs x.weight in
    let weight : pos m ≡ x.weight = counted x.weight (All-head Heavy x xs h) in
    let start : i + 0 ≡ i = omega arith in
    let here : p i ≡ q x = ap p (sym start) ∙ alike 0 (omega arith) in
    let later : (j : ℕ) → j < length xs → p (i + 1 + j) ≡ q (get_or xs j no_ticket) =
    λ j lt. let e : i + 1 + j ≡ i + suc j = omega arith in ap p e ∙ alike (suc j) (omega arith) in
    let rest = count_by-places_from p q (i + 1) xs (All-tail Heavy x xs h) later in
    let one : (b : Bool) → pos (m * cond b 1 0) ≡ cond b x.weight (pos 0) =
    λ b. elim b as (λ (b : Bool). pos (m * cond b 1 0) ≡ cond b x.weight (pos 0)) [ true ↦ (let e : m * 1 ≡ m = omega arith in ap pos e ∙ weight) | false ↦ (let e : m * 0 ≡ 0 = omega arith in ap pos e) ] in
    let both : pos (m * cond (p i) 1 0) ≡ cond (q x) x.weight (pos 0) = one (p i) ∙ ap (λ (b : Bool). cond b x.weight (pos 0)) here in
    ap pos (count_by-copies p m i (places_from (i + 1) xs)) ∙ omega (arith, ints, both, rest)
