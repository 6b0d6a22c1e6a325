-- Tickets that are kept are a commitment, where they are legal or were made of what is.
use Rattle.std.proofs.Common.{◌≡◌, ◌≢◌, ℕ, zero, suc, Bool, true, false, true≢false, cond, ◌&&◌, List, [], ◌∷◌, ℤ, pos, ◌+ℤ◌, ◌*ℤ◌, ◌≤ℤ◌, sym, ◌∙◌, ap, subst, refl, arith, bytes_eq, slice_index_or}
use Rattle.std.specs.List.{All, AllPairs}
use Rattle.std.specs.Cmp.Lexicographic.{slice_cmp, nat_list_cmp_total}
use Rattle.std.specs.declared.cmp.Ordering.{Ordering}
use Rattle.std.specs.declared.cmp.Ordering.TheVariants.{Less, Equal, Greater}
use Rattle.std.specs.Ordering.{is_lt, nat_cmp}
use Rattle.std.proofs.lemmas.Cmp.{tied_itself}
use Rattle.std.proofs.lemmas.Int.{ints}
use Rattle.std.proofs.lemmas.List.Elements.{All-nil, All-cons, All-head, All-tail, All-weaker}
use Rattle.std.proofs.lemmas.Slice.Eq.{bytes_eq-Decides}
use Rattle.sg_model.specs.declared.ticket.Ticket.{Ticket}
use Rattle.sg_model.specs.Sums.{total}
use Rattle.sg_model.specs.Games.{Game}
use Rattle.sg_model.specs.Plays.{IsLegal}
use Rattle.sg_model.specs.Commitments.{IsCommitment, scaled, weight_on, AreLegal}
use Rattle.sg_model.proofs.Ints.{v, n, plus, times, same_by}
use Rattle.sg_commit.specs.Committed.{Committed, IsCommitted, is_rising}
use Rattle.sg_model.specs.Orders.{is_before}
use Rattle.sg_commit.specs.Parts.{AreMultiple}
use Rattle.sg_commit.proofs.Orders.{comes_before}
use Rattle.sg_model.proofs.Covers.{ArePositive}
use Rattle.sg_commit.proofs.Worths.{product-positive}

-- ---- plays that rise

is_less : (r : Ordering) → is_lt r ≡ true → r ≡ Less
is_less Less e = refl
is_less Equal e = cc
is_less Greater e = cc

pub before-trans : (p q r : List ℕ) → is_before p q ≡ true → is_before q r ≡ true → is_before p r ≡ true
before-trans p q r h k = ap is_lt (nat_list_cmp_total.trans p q r (is_less (slice_cmp nat_cmp p q) h) (is_less (slice_cmp nat_cmp q r) k))

pub not_before_itself : (p q : List ℕ) → is_before p q ≡ true → p ≢ q
not_before_itself p q h e =
    let same : is_before p q ≡ is_before p p = ap (is_before p) (sym e) in
    let tied : is_before p p ≡ false = ap is_lt (tied_itself nat_list_cmp_total p) in
    true≢false (sym h ∙ (same ∙ tied))

pub both_true : (a b : Bool) → (a && b) ≡ true → (a ≡ true) × (b ≡ true)
both_true true b e = (refl, e)
both_true false b e = absurd (true≢false (sym e))

-- the first comes before each other
pub head_before : (x : Ticket) (xs : List Ticket) → is_rising (x ∷ xs) ≡ true → All (λ (y : Ticket). comes_before x y ≡ true) xs
head_before x [] h = All-nil (λ (y : Ticket). comes_before x y ≡ true)
head_before x (y ∷ ys) h =
    let b = both_true (comes_before x y) (is_rising (y ∷ ys)) h in
    All-cons (λ (z : Ticket). comes_before x z ≡ true) y ys b.0
    (All-weaker (λ (z : Ticket). comes_before y z ≡ true) (λ (z : Ticket). comes_before x z ≡ true)
    (λ z later. before-trans x.play.code y.play.code z.play.code b.0 later) ys (head_before y ys b.1))

pub rising-tail : (x : Ticket) (xs : List Ticket) → is_rising (x ∷ xs) ≡ true → is_rising xs ≡ true
rising-tail x [] h = refl
rising-tail x (y ∷ ys) h = (both_true (comes_before x y) (is_rising (y ∷ ys)) h).1

distinct : (k : List Ticket) → is_rising k ≡ true → AllPairs (λ (x y : Ticket). x.play.code ≢ y.play.code) k
distinct [] h i j d lt in_list = absurd (omega (arith, in_list))
distinct (x ∷ xs) h zero zero d lt in_list = absurd (omega (arith, lt))
distinct (x ∷ xs) h zero (suc j) d lt in_list = not_before_itself x.play.code (slice_index_or xs j d).play.code (head_before x xs h j d (omega (arith, in_list)))
distinct (x ∷ xs) h (suc i) zero d lt in_list = absurd (omega (arith, lt))
distinct (x ∷ xs) h (suc i) (suc j) d lt in_list = distinct xs (rising-tail x xs h) i j d (omega (arith, lt)) (omega (arith, in_list))

pub kept : (g : Game) (c : Committed) → IsCommitted c → AreLegal g c.tickets → IsCommitment g c.tickets
kept g c is legal = record { some = is.some; legal = legal; positive = is.positive; distinct = distinct c.tickets is.rising }

-- ---- legal parts

-- a play with a weight is that of a ticket
played : (g : Game) (k : List Ticket) (p : List ℕ) → AreLegal g k → pos 1 ≤ℤ weight_on k p → IsLegal g p
played g [] p h some = absurd (omega (arith, ints, some))
played g (x ∷ xs) p h some = by (played g xs p (All-tail (λ (x : Ticket). IsLegal g x.play.code) x xs h)) (bytes_eq x.play.code p) refl some
  where
    by : (pos 1 ≤ℤ weight_on xs p → IsLegal g p) → (b : Bool) → bytes_eq x.play.code p ≡ b → pos 1 ≤ℤ (cond b x.weight (pos 0) +ℤ weight_on xs p) → IsLegal g p
    by later true e some = subst (IsLegal g) ((bytes_eq-Decides x.play.code p).0 e) (All-head (λ (x : Ticket). IsLegal g x.play.code) x xs h)
    by later false e some = later (omega (arith, ints, some))

pub weight_on-nonneg : (k : List Ticket) (p : List ℕ) → ArePositive k → pos 0 ≤ℤ weight_on k p
weight_on-nonneg [] p h = omega (arith, ints)
weight_on-nonneg (x ∷ xs) p h =
    let low = All-head (λ (x : Ticket). pos 1 ≤ℤ x.weight) x xs h in
    let rest = weight_on-nonneg xs p (All-tail (λ (x : Ticket). pos 1 ≤ℤ x.weight) x xs h) in
    elim (bytes_eq x.play.code p) as (λ (b : Bool). pos 0 ≤ℤ (cond b x.weight (pos 0) +ℤ weight_on xs p)) [ true ↦ omega (arith, ints, low, rest) | false ↦ omega (arith, ints, rest) ]

-- each ticket's play has a weight
pub has_weight : (k : List Ticket) → ArePositive k → All (λ (x : Ticket). pos 1 ≤ℤ weight_on k x.play.code) k
has_weight [] h = All-nil (λ (x : Ticket). pos 1 ≤ℤ weight_on [] x.play.code)
has_weight (x ∷ xs) h =
    let low = All-head (λ (x : Ticket). pos 1 ≤ℤ x.weight) x xs h in
    let later = All-tail (λ (x : Ticket). pos 1 ≤ℤ x.weight) x xs h in
    let itself : bytes_eq x.play.code x.play.code ≡ true = (bytes_eq-Decides x.play.code x.play.code).1 refl in
    All-cons (λ (y : Ticket). pos 1 ≤ℤ weight_on (x ∷ xs) y.play.code) x xs
    (subst (λ (b : Bool). pos 1 ≤ℤ (cond b x.weight (pos 0) +ℤ weight_on xs x.play.code)) (sym itself) (omega (arith, ints, low, weight_on-nonneg xs x.play.code later)))
    (All-weaker (λ (y : Ticket). pos 1 ≤ℤ weight_on xs y.play.code) (λ (y : Ticket). pos 1 ≤ℤ weight_on (x ∷ xs) y.play.code)
    (λ y some. elim (bytes_eq x.play.code y.play.code) as (λ (b : Bool). pos 1 ≤ℤ (cond b x.weight (pos 0) +ℤ weight_on xs y.play.code)) [ true ↦ omega (arith, ints, low, some) | false ↦ omega (arith, ints, some) ])
    xs (has_weight xs later))

-- a sum of the weights whose plays pass a test, with all weights multiplied
pub scaled-passing : (test : List ℕ → Bool) (c : ℤ) (k : List Ticket) → total (λ (x : Ticket). cond (test x.play.code) x.weight (pos 0)) (scaled c k) ≡ c *ℤ total (λ (x : Ticket). cond (test x.play.code) x.weight (pos 0)) k
scaled-passing test c [] = same_by (n 0) (times (v c) (n 0)) (omega arith)
scaled-passing test c (x ∷ xs) =
    let r : ℤ = total (λ (x : Ticket). cond (test x.play.code) x.weight (pos 0)) xs in
    ap (λ (z : ℤ). cond (test x.play.code) (c *ℤ x.weight) (pos 0) +ℤ z) (scaled-passing test c xs) ∙ step (test x.play.code) r
  where
    step : (b : Bool) (r : ℤ) → (cond b (c *ℤ x.weight) (pos 0) +ℤ (c *ℤ r)) ≡ (c *ℤ (cond b x.weight (pos 0) +ℤ r))
    step true r = same_by (plus (times (v c) (v x.weight)) (times (v c) (v r))) (times (v c) (plus (v x.weight) (v r))) (omega arith)
    step false r = same_by (plus (n 0) (times (v c) (v r))) (times (v c) (plus (n 0) (v r))) (omega arith)

pub weight_on-scaled : (c : ℤ) (k : List Ticket) (p : List ℕ) → weight_on (scaled c k) p ≡ c *ℤ weight_on k p
weight_on-scaled c k p = scaled-passing (λ q. bytes_eq q p) c k

pub legal_parts : (g : Game) (parts : List Ticket) (c : Committed) → IsCommitted c → AreMultiple parts c.tickets → AreLegal g parts → AreLegal g c.tickets
legal_parts g parts c is multiple legal =
    All-weaker (λ (x : Ticket). pos 1 ≤ℤ weight_on c.tickets x.play.code) (λ (x : Ticket). IsLegal g x.play.code)
    (λ x some. played g parts x.play.code legal
    (subst (λ (z : ℤ). pos 1 ≤ℤ z) (sym (multiple.2 x.play.code ∙ weight_on-scaled multiple.0 c.tickets x.play.code)) (product-positive multiple.0 (weight_on c.tickets x.play.code) multiple.1 some)))
    c.tickets (has_weight c.tickets is.positive)
