-- Joined tickets: the same mix, with plays that rise.
use Rattle.std.proofs.Common.{◌≡◌, ◌≢◌, ℕ, Bool, true, false, cond, List, [], ◌∷◌, ℤ, pos, ◌+ℤ◌, ◌≤ℤ◌, sym, ◌∙◌, ap, subst, refl, arith, bytes_eq}
use Rattle.std.specs.List.Sorted.{IsSortedBy}
use Rattle.std.proofs.lemmas.Int.{ints}
use Rattle.std.proofs.lemmas.List.Elements.{All-cons, All-head, All-tail}
use Rattle.std.proofs.lemmas.Slice.Eq.{bytes_eq-Decides}
use Rattle.sg_model.specs.declared.ticket.Ticket.{Ticket}
use Rattle.sg_model.specs.OptimalityLaws.{AreOneMix}
use Rattle.sg_model.proofs.Joined.{mix-joined}
use Rattle.sg_model.specs.Orders.{is_before}
use Rattle.sg_commit.specs.Committed.{is_rising}
use Rattle.sg_commit.specs.Joining.{join_onto, joined}
use Rattle.sg_commit.proofs.Orders.{comes_before, sorted-head, sorted-tail, sorted-first, before_or_same, rising-cons}
use Rattle.sg_model.proofs.Covers.{ArePositive}

-- x with the weight of y too
abbrev merged : Ticket → Ticket → Ticket
merged x y = record x { weight = x.weight +ℤ y.weight }

same-play : (p q : List ℕ) → bytes_eq p q ≡ true → p ≡ q
same-play p q e = (bytes_eq-Decides p q).0 e

mix-cons : (x : Ticket) (k other : List Ticket) → AreOneMix k other → AreOneMix (x ∷ k) (x ∷ other)
mix-cons x k other h = λ play. ap (λ (z : ℤ). cond (bytes_eq x.play.code play) x.weight (pos 0) +ℤ z) (h play)

-- in both cases of a test
by_test : (P : List Ticket → Type 0) (b : Bool) (xs ys : List Ticket) → (b ≡ true → P xs) → (b ≡ false → P ys) → P (cond b xs ys)
by_test P true xs ys h k = h refl
by_test P false xs ys h k = k refl

pub mix-join_onto : (x : Ticket) (xs : List Ticket) → AreOneMix (x ∷ xs) (join_onto x xs)
mix-join_onto x [] = λ play. refl
mix-join_onto x (y ∷ ys) =
    by_test (AreOneMix (x ∷ y ∷ ys)) (bytes_eq x.play.code y.play.code) (join_onto (merged x y) ys) (x ∷ join_onto y ys)
    (λ e play. mix-joined x y ys (same-play x.play.code y.play.code e) play ∙ mix-join_onto (merged x y) ys play)
    (λ _. mix-cons x (y ∷ ys) (join_onto y ys) (mix-join_onto y ys))

pub mix-joined_all : (xs : List Ticket) → AreOneMix xs (joined xs)
mix-joined_all [] = λ play. refl
mix-joined_all (x ∷ xs) = mix-join_onto x xs

positive-join_onto : (x : Ticket) (xs : List Ticket) → ArePositive (x ∷ xs) → ArePositive (join_onto x xs)
positive-join_onto x [] h = h
positive-join_onto x (y ∷ ys) h =
    let P = λ (x : Ticket). pos 1 ≤ℤ x.weight in
    let p : pos 1 ≤ℤ x.weight = All-head P x (y ∷ ys) h in
    let t : ArePositive (y ∷ ys) = All-tail P x (y ∷ ys) h in
    let q : pos 1 ≤ℤ y.weight = All-head P y ys t in
    by_test ArePositive (bytes_eq x.play.code y.play.code) (join_onto (merged x y) ys) (x ∷ join_onto y ys)
    (λ _. positive-join_onto (merged x y) ys (All-cons P (merged x y) ys (omega (arith, ints, p, q)) (All-tail P y ys t)))
    (λ _. All-cons P x (join_onto y ys) p (positive-join_onto y ys t))

pub positive-joined : (xs : List Ticket) → ArePositive xs → ArePositive (joined xs)
positive-joined [] h = h
positive-joined (x ∷ xs) h = positive-join_onto x xs h

-- the first of the joined tickets has the play of the first
record StartsWith (x : Ticket) (k : List Ticket) : Type 0 where
  first : Ticket
  others : List Ticket
  is : k ≡ first ∷ others
  play : first.play.code ≡ x.play.code

starts : (x : Ticket) (xs : List Ticket) → StartsWith x (join_onto x xs)
starts x [] = record { first = x; others = []; is = refl; play = refl }
starts x (y ∷ ys) = by_test (StartsWith x) (bytes_eq x.play.code y.play.code) (join_onto (merged x y) ys) (x ∷ join_onto y ys)
    (λ _. let s = starts (merged x y) ys in record { first = s.first; others = s.others; is = s.is; play = s.play })
    (λ _. record { first = x; others = join_onto y ys; is = refl; play = refl })

pub some-joined : (x : Ticket) (xs : List Ticket) → joined (x ∷ xs) ≢ []
some-joined x xs = λ e. let s = starts x xs in let f : s.first ∷ s.others ≡ [] = sym s.is ∙ e in cc

rising-join_onto : (x : Ticket) (xs : List Ticket) → IsSortedBy comes_before (x ∷ xs) → is_rising (join_onto x xs) ≡ true
rising-join_onto x [] h = refl
rising-join_onto x (y ∷ ys) h =
    by_test (λ k. is_rising k ≡ true) (bytes_eq x.play.code y.play.code) (join_onto (merged x y) ys) (x ∷ join_onto y ys)
    (λ e. rising-join_onto (merged x y) ys (sorted-first y (merged x y) ys (sym (same-play x.play.code y.play.code e)) (sorted-tail x (y ∷ ys) h)))
    (λ other.
    let s = starts y ys in
    let less : is_before x.play.code y.play.code ≡ true = before_or_same x.play.code y.play.code (sorted-head x y ys h) other in
    let r : is_rising (s.first ∷ s.others) ≡ true = subst (λ k. is_rising k ≡ true) s.is (rising-join_onto y ys (sorted-tail x (y ∷ ys) h)) in
    subst (λ k. is_rising (x ∷ k) ≡ true) (sym s.is) (rising-cons x s.first s.others (subst (λ p. is_before x.play.code p ≡ true) (sym s.play) less) r))

pub rising-joined : (xs : List Ticket) → IsSortedBy comes_before xs → is_rising (joined xs) ≡ true
rising-joined [] h = refl
rising-joined (x ∷ xs) h = rising-join_onto x xs h
