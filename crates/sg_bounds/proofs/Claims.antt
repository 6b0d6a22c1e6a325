-- The tickets of a claim: at least one, of positive weights, with different plays.
use Rattle.std.proofs.Common.{◌≡◌, ◌≢◌, ℕ, Bool, true, false, true≢false, not, ◌&&◌, ◌==◌, List, [], ◌∷◌, length, pos, ◌≤ℤ◌, sym, ap, subst, refl, arith, int_le}
use Rattle.std.specs.List.{All, AllPairs}
use Rattle.std.specs.Cmp.Lexicographic.{slice_cmp, nat_list_cmp_total}
use Rattle.std.specs.declared.cmp.Ordering.{Ordering}
use Rattle.std.specs.declared.cmp.Ordering.TheVariants.{Less, Equal, Greater}
use Rattle.std.specs.Ordering.{nat_cmp, is_lt, ordering_reverse}
use Rattle.std.proofs.lemmas.Int.{ints}
use Rattle.std.proofs.lemmas.List.Elements.{All-nil, All-cons, All-weaker}
use Rattle.std.proofs.lemmas.List.Kept.{AllPairs-cons}
use Rattle.std.proofs.lemmas.List.Sums.{AllPass-from_list_all}
use Rattle.sg_model.specs.declared.ticket.Ticket.{Ticket}
use Rattle.sg_model.specs.Games.{Game}
use Rattle.sg_model.specs.Plays.{IsLegal}
use Rattle.sg_model.specs.Commitments.{IsCommitment}
use Rattle.sg_tree.specs.Claims.{are_positive, comes_before, is_claim, is_claim_rising}

pub both : (a b : Bool) → (a && b) ≡ true → (a ≡ true) × (b ≡ true)
both true b e = (refl, e)
both false b e = absurd (true≢false (sym e))

abbrev IsBefore : List ℕ → List ℕ → Type 0
IsBefore p q = slice_cmp nat_cmp p q ≡ Less

less : (r : Ordering) → is_lt r ≡ true → r ≡ Less
less Less e = refl
less Equal e = absurd (true≢false (sym e))
less Greater e = absurd (true≢false (sym e))

before : (p q : List ℕ) → comes_before p q ≡ true → IsBefore p q
before p q e = less (slice_cmp nat_cmp p q) (both (length p == length q) (is_lt (slice_cmp nat_cmp p q)) e).1

-- a list doesn't come before itself
apart : (p q : List ℕ) → IsBefore p q → p ≢ q
apart p q e same = turn (slice_cmp nat_cmp p q) e (subst (λ (x : List ℕ). slice_cmp nat_cmp p q ≡ ordering_reverse (slice_cmp nat_cmp p x)) same (subst (λ (x : List ℕ). slice_cmp nat_cmp p q ≡ ordering_reverse (slice_cmp nat_cmp x p)) (sym same) (nat_list_cmp_total.antisymm p q)))
  where
    turn : (r : Ordering) → r ≡ Less → r ≡ ordering_reverse r → ⊥
    turn Less e f = true≢false (ap is_lt f)
    turn Equal e f = true≢false (sym (ap is_lt e))
    turn Greater e f = true≢false (sym (ap is_lt e))

abbrev Later : Ticket → Ticket → Type 0
Later x y = IsBefore x.play.code y.play.code

all_later : (x y : Ticket) (ys : List Ticket) → Later x y → is_claim_rising (y ∷ ys) ≡ true → All (Later x) (y ∷ ys)
all_later x y [] h r = All-cons (Later x) y [] h (All-nil (Later x))
all_later x y (z ∷ zs) h r =
    let k = both (comes_before y.play.code z.play.code) (is_claim_rising (z ∷ zs)) r in
    All-cons (Later x) y (z ∷ zs) h (all_later x z zs (nat_list_cmp_total.trans x.play.code y.play.code z.play.code h (before y.play.code z.play.code k.0)) k.1)

distinct : (k : List Ticket) → is_claim_rising k ≡ true → AllPairs (λ (x y : Ticket). x.play.code ≢ y.play.code) k
distinct [] r = λ i j d low high. absurd (omega (arith, high))
distinct (x ∷ []) r = AllPairs-cons (λ (x y : Ticket). x.play.code ≢ y.play.code) x [] (All-nil (λ (y : Ticket). x.play.code ≢ y.play.code)) (distinct [] refl)
distinct (x ∷ y ∷ ys) r =
    let k = both (comes_before x.play.code y.play.code) (is_claim_rising (y ∷ ys)) r in
    let later = all_later x y ys (before x.play.code y.play.code k.0) k.1 in
    AllPairs-cons (λ (x y : Ticket). x.play.code ≢ y.play.code) x (y ∷ ys)
    (All-weaker (Later x) (λ (y : Ticket). x.play.code ≢ y.play.code) (λ z h. apart x.play.code z.play.code h) (y ∷ ys) later)
    (distinct (y ∷ ys) k.1)

some : (k : List Ticket) → not (length k == 0) ≡ true → k ≢ []
some [] e = absurd (true≢false (sym e))
some (x ∷ xs) e = λ f. cc

-- the tickets of a claim are a commitment where their plays are legal
pub claim_commits : (g : Game) (k : List Ticket) → is_claim k ≡ true → All (λ (x : Ticket). IsLegal g x.play.code) k → IsCommitment g k
claim_commits g k e legal =
    let a = both (not (length k == 0)) (are_positive k && is_claim_rising k) e in
    let b = both (are_positive k) (is_claim_rising k) a.1 in
    let positive = AllPass-from_list_all (λ (t : Ticket). int_le (pos 1) t.weight) k b.0 in
    record {
      some = some k a.0;
      legal = legal;
      positive = All-weaker (λ (t : Ticket). int_le (pos 1) t.weight ≡ true) (λ (t : Ticket). pos 1 ≤ℤ t.weight) (λ t h. omega (arith, ints, h)) k positive;
      distinct = distinct k b.1;
    }
