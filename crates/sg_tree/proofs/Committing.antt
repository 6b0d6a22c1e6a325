-- The rules of a claim's tickets beside those of a commitment's.
use Rattle.std.proofs.Common.{◌≡◌, ◌≢◌, ℕ, suc, Bool, true, false, not, ◌&&◌, ◌==◌, List, [], ◌∷◌, length, ℤ, pos, ◌≤ℤ◌, sym, ◌∙◌, ap, refl, arith}
use Rattle.std.specs.List.{All, list_all}
use Rattle.std.specs.Prelude.{int_le}
use Rattle.std.specs.Ordering.{nat_cmp, is_lt}
use Rattle.std.specs.Cmp.Lexicographic.{slice_cmp}
use Rattle.std.proofs.lemmas.Int.{ints}
use Rattle.std.proofs.lemmas.Bool.{and_from}
use Rattle.std.proofs.lemmas.Bool.Decides.{nat_tests}
use Rattle.std.proofs.lemmas.List.Elements.{All-nil, All-cons, All-head, All-tail}
use Rattle.sg_model.specs.declared.ticket.Ticket.{Ticket}
use Rattle.sg_commit.specs.Committed.{Committed, IsCommitted}
use Rattle.sg_model.specs.Orders.{is_before}
use Rattle.sg_commit.specs.Committed as committed
use Rattle.sg_tree.specs.Claims.{HaveOneLength, are_positive, comes_before, is_claim, is_claim_rising}

abbrev ArePositive : List Ticket → Type 0
ArePositive k = All (λ (x : Ticket). pos 1 ≤ℤ x.weight) k

parts : (x y : Bool) → (x && y) ≡ true → (x ≡ true) × (y ≡ true)
parts true y e = (refl, e)
parts false y e = cc

rises : (k : List Ticket) → is_claim_rising k ≡ true → committed.is_rising k ≡ true
rises [] h = refl
rises (x ∷ []) h = refl
rises (x ∷ y ∷ ys) h =
    let p = parts (comes_before x.play.code y.play.code) (is_claim_rising (y ∷ ys)) h in
    let q = parts (length x.play.code == length y.play.code) (is_before x.play.code y.play.code) p.0 in
    and_from (is_before x.play.code y.play.code) (committed.is_rising (y ∷ ys)) q.1 (rises (y ∷ ys) p.1)

positive_from : (k : List Ticket) → are_positive k ≡ true → ArePositive k
positive_from [] h = All-nil (λ (x : Ticket). pos 1 ≤ℤ x.weight)
positive_from (x ∷ xs) h =
    let p = parts (int_le (pos 1) x.weight) (are_positive xs) h in
    All-cons (λ (x : Ticket). pos 1 ≤ℤ x.weight) x xs (omega (arith, ints, p.0)) (positive_from xs p.1)

-- what a claim's rules say
pub record AreRules (k : List Ticket) : Type 0 where
  pub some : k ≢ []
  pub positive : All (λ (x : Ticket). pos 1 ≤ℤ x.weight) k
  pub rising : committed.is_rising k ≡ true

pub rules_of : (k : List Ticket) → is_claim k ≡ true → AreRules k
rules_of [] h = cc
rules_of (x ∷ xs) h =
    let p = parts (not (length (x ∷ xs) == 0)) (are_positive (x ∷ xs) && is_claim_rising (x ∷ xs)) h in
    let q = parts (are_positive (x ∷ xs)) (is_claim_rising (x ∷ xs)) p.1 in
    record { some = (λ e. cc); positive = positive_from (x ∷ xs) q.0; rising = rises (x ∷ xs) q.1 }

positive_to : (k : List Ticket) → ArePositive k → are_positive k ≡ true
positive_to [] h = refl
positive_to (x ∷ xs) h =
    and_from (int_le (pos 1) x.weight) (are_positive xs) (sym (omega (arith, ints, All-head (λ (x : Ticket). pos 1 ≤ℤ x.weight) x xs h)))
    (positive_to xs (All-tail (λ (x : Ticket). pos 1 ≤ℤ x.weight) x xs h))

same_length : (a b n : ℕ) → a ≡ n → b ≡ n → (a == b) ≡ true
same_length a b n e f = let q : a ≡ b = e ∙ sym f in grind (arith, nat_tests)

rises_to : (n : ℕ) (k : List Ticket) → All (λ (t : Ticket). length t.play.code ≡ n) k → committed.is_rising k ≡ true → is_claim_rising k ≡ true
rises_to n [] l h = refl
rises_to n (x ∷ []) l h = refl
rises_to n (x ∷ y ∷ ys) l h =
    let p = parts (is_before x.play.code y.play.code) (committed.is_rising (y ∷ ys)) h in
    let rest = All-tail (λ (t : Ticket). length t.play.code ≡ n) x (y ∷ ys) l in
    let first = All-head (λ (t : Ticket). length t.play.code ≡ n) x (y ∷ ys) l in
    let second = All-head (λ (t : Ticket). length t.play.code ≡ n) y ys rest in
    and_from (comes_before x.play.code y.play.code) (is_claim_rising (y ∷ ys))
    (and_from (length x.play.code == length y.play.code) (is_before x.play.code y.play.code) (same_length (length x.play.code) (length y.play.code) n first second) p.0)
    (rises_to n (y ∷ ys) rest p.1)

some_to : (k : List Ticket) → k ≢ [] → not (length k == 0) ≡ true
some_to [] h = absurd (h refl)
some_to (x ∷ xs) h = let q : (length (x ∷ xs) == 0) ≡ false = above_zero (length xs) in rw q refl
  where
    above_zero : (n : ℕ) → (suc n == 0) ≡ false
    above_zero n = grind (arith, nat_tests)

-- the tickets of a commitment, with lists of one length, keep a claim's rules
pub claim_of : (c : Committed) → IsCommitted c → HaveOneLength c.tickets → is_claim c.tickets ≡ true
claim_of c h l =
    and_from (not (length c.tickets == 0)) (are_positive c.tickets && is_claim_rising c.tickets) (some_to c.tickets h.some)
    (and_from (are_positive c.tickets) (is_claim_rising c.tickets) (positive_to c.tickets h.positive) (rises_to l.0 c.tickets l.1 h.rising))
