-- Tickets laid from cut to cut.
use Rattle.std.proofs.Common.{◌≡◌, ℕ, ◌+◌, ◌-◌, ◌<◌, ◌≤◌, true, false, List, [], ◌∷◌, ◌++◌, map, length, ℤ, pos, negsuc, ◌-ℤ◌, ◌≤ℤ◌, ◌<ℤ◌, subst, sym, ◌∙◌, refl, arith, get_or, inl, inr}
use Rattle.std.specs.List.{All}
use Rattle.std.specs.Ordering.{int_cmp, is_lt}
use Rattle.std.specs.Prelude.{int_lt, unsigned_abs}
use Rattle.std.proofs.lemmas.Int.{ints, by_lt_z}
use Rattle.std.proofs.lemmas.Bool.{cases_eq}
use Rattle.std.proofs.lemmas.List.{get_or_default, length-map}
use Rattle.std.proofs.lemmas.List.Elements.{All-map, All-nil, All-push}
use Rattle.std.proofs.lemmas.List.Sorted.{All-permutation, Contains-permutation}
use Rattle.std.proofs.Math.ListN.{get_or-map}
use Rattle.sg_model.specs.declared.ticket.Ticket.{Ticket}
use Rattle.sg_model.specs.Sums.{numbers_from}
use Rattle.sg_model.specs.OptimalityLaws.{AreOneMix}
use Rattle.sg_split.specs.declared.line.Line.{Line}
use Rattle.sg_split.specs.declared.line.Standing.{Standing}
use Rattle.sg_split.specs.declared.place.Place.{Place}
use Rattle.sg_split.specs.Laying.{play_at, tickets_at}
use Rattle.sg_split.specs.Lines.{AreCuts, AreUpTo, IsApart, IsLaid, IsLine, IsMoment, spots}
use Rattle.sg_split.proofs.Kept.{play_at-kept}
use Rattle.sg_split.proofs.Mixes.{mix-more, ticket_of}

pub abs-natural : (x : ℤ) → pos 0 ≤ℤ x → pos (unsigned_abs x) ≡ x
abs-natural (pos n) h = refl
abs-natural (negsuc n) h = absurd (omega (arith, ints, h))

ticket-is : (x : Ticket) (code : List ℕ) (weight : ℤ) → x.play.code ≡ code → x.weight ≡ weight → x ≡ ticket_of code weight
ticket-is x code weight e f = λ i. record { play = record { code = e i }; weight = f i }

pub up_to_none : (line : Line) → AreUpTo line (pos 0) []
up_to_none line = record { mix = λ play. refl; positive = All-nil (λ (x : Ticket). pos 1 ≤ℤ x.weight) }

-- one more ticket, up to a later moment, or to the end of all
pub up_to_more : (line : Line) (tickets : List Ticket) (last : Standing) (y : ℤ) (x : Ticket) → IsLine line → IsLaid line tickets last → last.moment <ℤ y → y ≤ℤ line.moments
    → IsApart line.ends last.moment y → x.play.code ≡ last.code → x.weight ≡ y -ℤ last.moment → AreUpTo line y (tickets ++ x ∷ [])
up_to_more line tickets last y x is laid later high apart code weight =
    let from : ℤ = last.moment in
    let a : ℕ = unsigned_abs from in
    let n : ℕ = unsigned_abs y - a in
    let at_a : pos a ≡ from = abs-natural from laid.moment.low in
    let at_y : pos (unsigned_abs y) ≡ y = abs-natural y (omega (arith, ints, laid.moment.low, later)) in
    let whole : a + n ≡ unsigned_abs y = omega (arith, ints, at_a, at_y, later) in
    let same : (i : ℕ) → a ≤ i → i < a + n → play_at (spots line) line.patrols line.moments (pos i) ≡ last.code = λ i low lt.
    sym (laid.code ∙ play_at-kept line.moments line.ends line.patrols from y (pos i) is.each laid.moment high apart (omega (arith, ints, at_a, low)) (omega (arith, ints, at_y, lt, whole))) in
    let this : x ≡ ticket_of last.code (pos n) = ticket-is x last.code (pos n) code (omega (arith, ints, weight, at_a, at_y, whole)) in
    record {
      mix = subst (λ (t : Ticket). AreOneMix (tickets ++ t ∷ []) (tickets_at (spots line) line.patrols line.moments (numbers_from 0 (unsigned_abs y)))) (sym this)
          (subst (λ (k : ℕ). AreOneMix (tickets ++ ticket_of last.code (pos n) ∷ []) (tickets_at (spots line) line.patrols line.moments (numbers_from 0 k))) whole
          (mix-more (spots line) line.patrols line.moments tickets a n last.code laid.up_to.mix same));
      positive = All-push (λ (x : Ticket). pos 1 ≤ℤ x.weight) tickets x laid.up_to.positive (omega (arith, ints, weight, later));
    }

-- each cut is a moment
pub cuts_are_moments : (line : Line) (cuts : List ℤ) → IsLine line → AreCuts line.ends cuts → All (IsMoment line.moments) cuts
cuts_are_moments line cuts is are =
    let moment = λ (end : Place). end.moment in
    All-permutation (IsMoment line.moments) (map moment line.ends) cuts are.same (All-map (IsMoment line.moments) moment line.ends is.each)

at_cut : (ends : List Place) (cuts : List ℤ) → AreCuts ends cuts → (k : ℕ) (p : Place) → k < length ends → (j : ℕ) × (j < length cuts) × (get_or cuts j (pos 0) ≡ (get_or ends k p).moment)
at_cut ends cuts are k p lt =
    let moment = λ (end : Place). end.moment in
    let w : ℤ = (get_or ends k p).moment in
    let in_list : k < length (map moment ends) = omega (arith, lt, length-map ends moment) in
    let here : get_or (map moment ends) k w ≡ w = get_or_default (map moment ends) k w (moment p) in_list ∙ get_or-map moment ends k p in
    let there = Contains-permutation (map moment ends) cuts w are.same (k, in_list, here) in
    (there.0, there.1, get_or_default cuts there.0 (pos 0) w there.1 ∙ there.2)

-- between the cuts that are passed and the next no count ends
pub apart_next : (ends : List Place) (cuts : List ℤ) (from : ℤ) (i : ℕ) → AreCuts ends cuts → ((j : ℕ) → j < i → get_or cuts j (pos 0) ≤ℤ from) → (to : ℤ) → i < length cuts → to ≡ get_or cuts i (pos 0) → IsApart ends from to
apart_next ends cuts from i are passed to lt e = λ k p k_lt.
    let at = at_cut ends cuts are k p k_lt in
    elim (cases_eq (i - at.0) 0) [
      | inl later ↦ inr (omega (arith, ints, are.rising i at.0 (omega (arith, later)) at.1, at.2, e))
      | inr before ↦ inl (omega (arith, ints, passed at.0 (omega (arith, before)), at.2))
    ]

-- and after all cuts none does
pub apart_last : (ends : List Place) (cuts : List ℤ) (from to : ℤ) → AreCuts ends cuts → ((j : ℕ) → j < length cuts → get_or cuts j (pos 0) ≤ℤ from) → IsApart ends from to
apart_last ends cuts from to are passed = λ k p k_lt.
    let at = at_cut ends cuts are k p k_lt in
    inl (omega (arith, ints, passed at.0 at.1, at.2))

-- what is passed, with one more cut
pub passed_more : (cuts : List ℤ) (i : ℕ) (from from' to : ℤ) → ((j : ℕ) → j < i → get_or cuts j (pos 0) ≤ℤ from) → to ≡ get_or cuts i (pos 0) → from ≤ℤ from' → to ≤ℤ from' → (j : ℕ) → j < i + 1 → get_or cuts j (pos 0) ≤ℤ from'
passed_more cuts i from from' to passed e le here j lt =
    elim (cases_eq j i) [
      | inl q ↦ subst (λ (k : ℕ). get_or cuts k (pos 0) ≤ℤ from') (sym q) (omega (arith, ints, e, here))
      | inr ne ↦ omega (arith, ints, passed j (omega arith), le)
    ]

pub not_less : (x y : ℤ) → is_lt (int_cmp x y) ≡ false → y ≤ℤ x
not_less x y h =
    by_lt_z x y (λ lt. absurd (let t : int_lt x y ≡ true = grind (arith, ints) in let k : true ≡ false = rw t at h in cc)) (λ le. le)
