-- The order of plays: sorted tickets, and tickets whose plays rise.
use Rattle.std.proofs.Common.{◌≡◌, ℕ, zero, suc, ◌+◌, Bool, true, false, true≢false, ◌&&◌, List, [], ◌∷◌, sym, ◌∙◌, ap, subst, refl, arith, slice_index_or}
use Rattle.std.specs.List.Sorted.{IsSortedBy}
use Rattle.std.specs.Cmp.{IsStrictWeakOrder}
use Rattle.std.specs.Cmp.Lexicographic.{slice_cmp, nat_list_cmp_total}
use Rattle.std.specs.declared.cmp.Ordering.{Ordering}
use Rattle.std.specs.declared.cmp.Ordering.TheVariants.{Less, Equal, Greater}
use Rattle.std.specs.Ordering.{nat_cmp, is_lt, is_eq, ordering_reverse}
use Rattle.std.specs.Prelude.{bytes_eq}
use Rattle.std.proofs.lemmas.List.Sorted.{ranks_by}
use Rattle.std.proofs.lemmas.Map.Text.{is_eq-slice_cmp}
use Rattle.sg_model.specs.declared.ticket.Ticket.{Ticket}
use Rattle.sg_model.specs.Orders.{is_before}
use Rattle.sg_commit.specs.Committed.{is_rising}

-- whether one ticket's play comes before another's
abbrev pub comes_before : Ticket → Ticket → Bool
comes_before x y = is_before x.play.code y.play.code

pub comes_before-order : IsStrictWeakOrder comes_before
comes_before-order = ranks_by nat_list_cmp_total (λ (x : Ticket). x.play.code)

pub sorted-tail : (x : Ticket) (xs : List Ticket) → IsSortedBy comes_before (x ∷ xs) → IsSortedBy comes_before xs
sorted-tail x xs h = λ k d low lt.
    let e : suc k + 1 ≡ suc (k + 1) = omega arith in
    subst (λ (j : ℕ). comes_before (slice_index_or (x ∷ xs) j d) (slice_index_or xs k d) ≡ false) e (h (suc k) d (omega arith) (omega (arith, lt)))

pub sorted-head : (x y : Ticket) (ys : List Ticket) → IsSortedBy comes_before (x ∷ y ∷ ys) → comes_before y x ≡ false
sorted-head x y ys h = h 0 x (omega arith) (omega arith)

-- another first ticket of the same play
pub sorted-first : (x z : Ticket) (xs : List Ticket) → x.play.code ≡ z.play.code → IsSortedBy comes_before (x ∷ xs) → IsSortedBy comes_before (z ∷ xs)
sorted-first x z [] e h = λ k d low lt. absurd (omega (arith, lt))
sorted-first x z (y ∷ ys) e h = step
  where
    step : IsSortedBy comes_before (z ∷ y ∷ ys)
    step zero d low lt = subst (λ (p : List ℕ). is_before y.play.code p ≡ false) e (h 0 d low lt)
    step (suc k) d low lt =
        let e : suc k + 1 ≡ suc (k + 1) = omega arith in
        subst (λ (j : ℕ). comes_before (slice_index_or (z ∷ y ∷ ys) j d) (slice_index_or (y ∷ ys) k d) ≡ false) (sym e)
        (sorted-tail x (y ∷ ys) h k d (omega arith) (omega (arith, lt)))

-- a play that isn't after another and isn't the same comes before it
pub before_or_same : (p q : List ℕ) → is_before q p ≡ false → bytes_eq p q ≡ false → is_before p q ≡ true
before_or_same p q not_after other =
    let turned : slice_cmp nat_cmp q p ≡ ordering_reverse (slice_cmp nat_cmp p q) = nat_list_cmp_total.antisymm q p in
    let unlike : is_eq (slice_cmp nat_cmp p q) ≡ false = is_eq-slice_cmp p q ∙ other in
    let after : is_lt (ordering_reverse (slice_cmp nat_cmp p q)) ≡ false = ap is_lt (sym turned) ∙ not_after in
    by (slice_cmp nat_cmp p q) after unlike
  where
    by : (r : Ordering) → is_lt (ordering_reverse r) ≡ false → is_eq r ≡ false → is_lt r ≡ true
    by Less h k = refl
    by Equal h k = absurd (true≢false k)
    by Greater h k = absurd (true≢false h)

-- the plays rise from x on, where they rise from a ticket of its play on
pub rising-cons : (x y : Ticket) (ys : List Ticket) → is_before x.play.code y.play.code ≡ true → is_rising (y ∷ ys) ≡ true → is_rising (x ∷ y ∷ ys) ≡ true
rising-cons x y ys h k = both (is_before x.play.code y.play.code) (is_rising (y ∷ ys)) h k
  where
    both : (a b : Bool) → a ≡ true → b ≡ true → (a && b) ≡ true
    both true b h k = k
    both false b h k = absurd (true≢false (sym h))
