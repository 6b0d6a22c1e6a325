-- What the list of places is, and what holds of every order of it.
use Rattle.std.proofs.Common.{◌≡◌, ℕ, zero, suc, ◌+◌, ◌-◌, ◌*◌, ◌<◌, ◌≤◌, Bool, true, false, cond, List, [], ◌∷◌, ◌++◌, length, get_or, replicate, ℤ, pos, ◌≤ℤ◌, sym, ◌∙◌, ap, subst, refl, arith, eqb, inl, inr, length-append}
use Rattle.std.specs.Prelude.{unsigned_abs}
use Rattle.std.specs.List.{All, count_by}
use Rattle.std.specs.List.Sorted.{IsNonDecreasing, IsPermutation}
use Rattle.std.proofs.Math.ListN.{get_or-append}
use Rattle.std.proofs.Math.Seq.{get_or-append_right}
use Rattle.std.proofs.lemmas.Int.{ints}
use Rattle.std.proofs.lemmas.Bool.{cases_eq, cases_lt}
use Rattle.std.proofs.lemmas.Bool.Decides.{nat_tests}
use Rattle.std.proofs.lemmas.List.{get_or-replicate, length-replicate}
use Rattle.std.proofs.lemmas.List.Elements.{All-head, All-tail}
use Rattle.std.proofs.lemmas.List.Sorted.{All-permutation, length_permutation, sum_by-IsPermutation}
use Rattle.sg_model.specs.declared.ticket.Ticket.{Ticket}
use Rattle.sg_model.specs.Games.{Game}
use Rattle.sg_model.specs.Plays.{IsLegal, covers}
use Rattle.sg_model.specs.Commitments.{cover_count, weight_total, AreLegal}
use Rattle.sg_commit.specs.Joining.{no_ticket}
use Rattle.sg_tickets.specs.Expansion.{places_from, places_of, play_at, ticket_at}
use Rattle.sg_tickets.specs.ExpansionLaws.{ArePlaces, ArePositive, CoverAsTickets, DaysCoverAsTickets, PlacesAreListed, covered_days}
use Rattle.sg_tickets.proofs.Listing.{All-places_from, Heavy, IsFrom, count_by-copies, count_by-places_from, counted, known, length-places_from}

-- a number before the first place comes never
never : (i a : ℕ) (k : List Ticket) → i < a → count_by (λ j. eqb j i) (places_from a k) ≡ 0
never i a [] lt = refl
never i a (x ∷ xs) lt =
    let m : ℕ = unsigned_abs x.weight in
    let other : eqb a i ≡ false = grind (arith, nat_tests) in
    let none : m * 0 ≡ 0 = omega arith in
    count_by-copies (λ j. eqb j i) m a (places_from (a + 1) xs)
    ∙ ap (λ (b : Bool). m * cond b 1 0 + count_by (λ j. eqb j i) (places_from (a + 1) xs)) other
    ∙ omega (arith, none, never i (a + 1) xs (omega arith))

-- a place comes as often as its ticket weighs
often : (i a : ℕ) (k : List Ticket) → ArePositive k → a ≤ i → pos (count_by (λ j. eqb j i) (places_from a k)) ≡ (get_or k (i - a) no_ticket).weight
often i a [] h le = refl
often i a (x ∷ xs) h le =
    let m : ℕ = unsigned_abs x.weight in
    let rest : List ℕ = places_from (a + 1) xs in
    let weight : pos m ≡ x.weight = counted x.weight (All-head Heavy x xs h) in
    elim (cases_eq a i) [
      | inl e ↦
          let same : eqb a i ≡ true = grind (arith, nat_tests) in
          let one : m * 1 ≡ m = omega arith in
          let first : i - a ≡ 0 = omega arith in
          ap pos (count_by-copies (λ j. eqb j i) m a rest ∙ ap (λ (b : Bool). m * cond b 1 0 + count_by (λ j. eqb j i) rest) same ∙ omega (arith, one, never i (a + 1) xs (omega arith)))
          ∙ weight ∙ ap (λ (j : ℕ). (get_or (x ∷ xs) j no_ticket).weight) (sym first)
      | inr ne ↦
          let other : eqb a i ≡ false = grind (arith, nat_tests) in
          let none : m * 0 ≡ 0 = omega arith in
          let next : i - a ≡ suc (i - (a + 1)) = omega arith in
          let fewer : m * 0 + count_by (λ j. eqb j i) rest ≡ count_by (λ j. eqb j i) rest = omega (arith, none) in
          ap pos (count_by-copies (λ j. eqb j i) m a rest ∙ ap (λ (b : Bool). m * cond b 1 0 + count_by (λ j. eqb j i) rest) other ∙ fewer)
          ∙ often i (a + 1) xs (All-tail Heavy x xs h) (omega arith) ∙ ap (λ (j : ℕ). (get_or (x ∷ xs) j no_ticket).weight) (sym next)
    ]

-- copies of a number before others that rise from it on
rising_after : (m a : ℕ) (rest : List ℕ) → All (λ j. a ≤ j) rest → IsNonDecreasing rest → IsNonDecreasing (replicate m a ++ rest)
rising_after m a rest above rises i j d le lt =
    let copies : length (replicate m a) ≡ m = length-replicate m a in
    let all : length (replicate m a ++ rest) ≡ length (replicate m a) + length rest = length-append (replicate m a) rest in
    let first : (k : ℕ) → k < m → get_or (replicate m a ++ rest) k d ≡ a = λ k below. get_or-append (replicate m a) rest d k (omega (arith, copies)) ∙ get_or-replicate m k a d below in
    let later : (k : ℕ) → m ≤ k → get_or (replicate m a ++ rest) k d ≡ get_or rest (k - m) d = λ k from.
    get_or-append_right (replicate m a) rest k d (omega (arith, copies)) ∙ ap (λ (n : ℕ). get_or rest (k - n) d) copies in
    elim (cases_lt i m) [
      | inl low ↦
          let x = first i low in
          elim (cases_lt j m) [
            | inl high ↦ omega (arith, x, first j high)
            | inr high ↦ omega (arith, x, later j high, above (j - m) d (omega (arith, all, copies)))
          ]
      | inr low ↦ omega (arith, later i low, later j (omega arith), rises (i - m) (j - m) d (omega arith) (omega (arith, all, copies)))
    ]

places_rise : (a : ℕ) (k : List Ticket) → IsNonDecreasing (places_from a k)
places_rise a [] = λ i j d le lt. absurd (omega arith)
places_rise a (x ∷ xs) =
    rising_after (unsigned_abs x.weight) a (places_from (a + 1) xs) (λ j d lt. omega (arith, All-places_from (a + 1) xs j d lt)) (places_rise (a + 1) xs)

pub places_are_listed : PlacesAreListed
places_are_listed k h = record {
  often = λ i. let e : i - 0 ≡ i = omega arith in often i 0 k h (omega arith) ∙ ap (λ (j : ℕ). (get_or k j no_ticket).weight) e;
  rising = places_rise 0 k;
  as_many = length-places_from 0 k h;
}

pub days_cover_as_tickets : DaysCoverAsTickets
days_cover_as_tickets g k days h legal order = record {
  as_many = ap pos (length_permutation (places_of k) days order) ∙ length-places_from 0 k h;
  legal = All-permutation (λ i. IsLegal g (play_at k i)) (places_of k) days order (λ j d lt. legal (get_or (places_of k) j d) no_ticket (known k j d lt));
  covered = λ t.
      ap pos (sum_by-IsPermutation (λ i. cond (covers g (play_at k i) t) 1 0) (places_of k) days order)
      ∙ count_by-places_from (λ i. covers g (play_at k i) t) (λ (x : Ticket). covers g x.play.code t) 0 k h
      (λ j lt. let e : 0 + j ≡ j = omega arith in ap (λ (i : ℕ). covers g (play_at k i) t) e);
}
