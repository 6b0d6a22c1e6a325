-- What stands in a list of tickets while those of one play are joined.
use Rattle.std.proofs.Common.{◌≡◌, ℕ, ◌+◌, ◌<◌, List, [], ◌∷◌, ◌++◌, take, drop, length, pos, ◌+ℤ◌, ◌≤ℤ◌, sym, ap, subst, arith, slice_index_or}
use Rattle.std.specs.List.{All}
use Rattle.std.specs.Prelude.{slice_set}
use Rattle.std.proofs.lemmas.Int.{ints}
use Rattle.std.proofs.lemmas.List.{drop_more, take-set, drop-set-lt, get_or-set_same}
use Rattle.std.proofs.lemmas.List.Elements.{All-nil, All-cons, All-head, All-tail, All-append}
use Rattle.sg_model.specs.declared.ticket.Ticket.{Ticket}
use Rattle.sg_model.specs.Commitments.{weight_total}
use Rattle.sg_model.proofs.Covers.{ArePositive, weight_total-nonneg}
use Rattle.sg_model.proofs.Sums.{total-append}
use Rattle.sg_commit.specs.Joining.{no_ticket, standing}

pub All-front : {X : Type 0} (P : X → Type 0) (xs ys : List X) → All P (xs ++ ys) → All P xs
All-front P [] ys h = All-nil P
All-front P (x ∷ xs) ys h = All-cons P x xs (All-head P x (xs ++ ys) h) (All-front P xs ys (All-tail P x (xs ++ ys) h))

pub All-back : {X : Type 0} (P : X → Type 0) (xs ys : List X) → All P (xs ++ ys) → All P ys
All-back P [] ys h = h
All-back P (x ∷ xs) ys h = All-back P xs ys (All-tail P x (xs ++ ys) h)

module _ (k : List Ticket) (last next : ℕ) (order : last < next) (known : next < length k) where
  -- the next ticket is the first of those that are left
  pub standing-next : standing k last next ≡ take last k ++ slice_index_or k last no_ticket ∷ slice_index_or k next no_ticket ∷ drop (next + 1) k
  standing-next = ap (λ (ys : List Ticket). take last k ++ slice_index_or k last no_ticket ∷ ys) (drop_more k next no_ticket known)

  pub standing-set : (z : Ticket) → standing (slice_set k last z) last (next + 1) ≡ take last k ++ z ∷ drop (next + 1) k
  standing-set z =
      let a : take last (slice_set k last z) ≡ take last k = take-set k last z in
      let b : slice_index_or (slice_set k last z) last no_ticket ≡ z = get_or-set_same k last z no_ticket (omega arith) in
      let c : drop (next + 1) (slice_set k last z) ≡ drop (next + 1) k = drop-set-lt (next + 1) k last z (omega arith) in
      λ i. a i ++ b i ∷ c i

  module _ (h : ArePositive (standing k last next)) where
    whole : ArePositive (take last k ++ slice_index_or k last no_ticket ∷ slice_index_or k next no_ticket ∷ drop (next + 1) k)
    whole = subst ArePositive standing-next h

    rest : ArePositive (slice_index_or k last no_ticket ∷ slice_index_or k next no_ticket ∷ drop (next + 1) k)
    rest = All-back (λ (x : Ticket). pos 1 ≤ℤ x.weight) (take last k) (slice_index_or k last no_ticket ∷ slice_index_or k next no_ticket ∷ drop (next + 1) k) whole

    pub last_positive : pos 1 ≤ℤ (slice_index_or k last no_ticket).weight
    last_positive = All-head (λ (x : Ticket). pos 1 ≤ℤ x.weight) (slice_index_or k last no_ticket) (slice_index_or k next no_ticket ∷ drop (next + 1) k) rest

    after : ArePositive (slice_index_or k next no_ticket ∷ drop (next + 1) k)
    after = All-tail (λ (x : Ticket). pos 1 ≤ℤ x.weight) (slice_index_or k last no_ticket) (slice_index_or k next no_ticket ∷ drop (next + 1) k) rest

    pub next_positive : pos 1 ≤ℤ (slice_index_or k next no_ticket).weight
    next_positive = All-head (λ (x : Ticket). pos 1 ≤ℤ x.weight) (slice_index_or k next no_ticket) (drop (next + 1) k) after

    front_positive : ArePositive (take last k)
    front_positive = All-front (λ (x : Ticket). pos 1 ≤ℤ x.weight) (take last k) (slice_index_or k last no_ticket ∷ slice_index_or k next no_ticket ∷ drop (next + 1) k) whole

    back_positive : ArePositive (drop (next + 1) k)
    back_positive = All-tail (λ (x : Ticket). pos 1 ≤ℤ x.weight) (slice_index_or k next no_ticket) (drop (next + 1) k) after

    -- both weights are part of the sum
    pub both_within : ((slice_index_or k last no_ticket).weight +ℤ (slice_index_or k next no_ticket).weight) ≤ℤ weight_total (standing k last next)
    both_within =
        let e : weight_total (standing k last next) ≡ weight_total (take last k ++ slice_index_or k last no_ticket ∷ slice_index_or k next no_ticket ∷ drop (next + 1) k) = ap weight_total standing-next in
        let f = total-append (λ (x : Ticket). x.weight) (take last k) (slice_index_or k last no_ticket ∷ slice_index_or k next no_ticket ∷ drop (next + 1) k) in
        omega (arith, ints, e, f, weight_total-nonneg (take last k) front_positive, weight_total-nonneg (drop (next + 1) k) back_positive)

    pub positive-set : (z : Ticket) → pos 1 ≤ℤ z.weight → ArePositive (standing (slice_set k last z) last (next + 1))
    positive-set z p = subst ArePositive (sym (standing-set z))
        (All-append (λ (x : Ticket). pos 1 ≤ℤ x.weight) (take last k) (z ∷ drop (next + 1) k) front_positive (All-cons (λ (x : Ticket). pos 1 ≤ℤ x.weight) z (drop (next + 1) k) p back_positive))

  pub sum-set : (z : Ticket) → z.weight ≡ (slice_index_or k last no_ticket).weight +ℤ (slice_index_or k next no_ticket).weight
      → weight_total (standing (slice_set k last z) last (next + 1)) ≡ weight_total (standing k last next)
  sum-set z w =
      let e : weight_total (standing k last next) ≡ weight_total (take last k ++ slice_index_or k last no_ticket ∷ slice_index_or k next no_ticket ∷ drop (next + 1) k) = ap weight_total standing-next in
      let f = total-append (λ (x : Ticket). x.weight) (take last k) (slice_index_or k last no_ticket ∷ slice_index_or k next no_ticket ∷ drop (next + 1) k) in
      let g : weight_total (standing (slice_set k last z) last (next + 1)) ≡ weight_total (take last k ++ z ∷ drop (next + 1) k) = ap weight_total (standing-set z) in
      let i = total-append (λ (x : Ticket). x.weight) (take last k) (z ∷ drop (next + 1) k) in
      omega (arith, ints, e, f, g, i, w)
