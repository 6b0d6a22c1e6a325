-- The greatest payoff and the shift bound what plays and commitments give the defender.
use Rattle.std.proofs.Common.{◌≡◌, ℕ, zero, suc, ◌+◌, ◌<◌, ◌≤◌, Bool, true, false, cond, List, [], ◌∷◌, map, length, ℤ, pos, ◌+ℤ◌, ◌*ℤ◌, ◌≤ℤ◌, ap, subst, sym, refl, arith, MatchBool, flat_map, slice_index, slice_index_or, inl, inr}
use Rattle.std.specs.List.{All, Contains, fold}
use Rattle.std.specs.Int.{int_min}
use Rattle.std.proofs.lemmas.Bool.{cases_eq}
use Rattle.std.proofs.lemmas.Int.{ints, fold-int_min_bounds}
use Rattle.std.proofs.lemmas.List.Elements.{All-nil, All-cons, All-contains, Contains-append_left, Contains-append_right}
use Rattle.sg_model.specs.declared.ticket.Ticket.{Ticket}
use Rattle.sg_model.specs.Sums.{greatest, least, nth, numbers, numbers_from, total}
use Rattle.sg_model.specs.Games.{Game, action_count, attacker, is_matrix, payoff, prior_total}
use Rattle.sg_model.specs.Plays.{IsLegal, IsLegalJoint, IsRow, covers, pay_d}
use Rattle.sg_model.specs.Payoffs.{IsPeopled, greatest_of, payoffs_at, payoffs_of, shift_of}
use Rattle.sg_model.specs.Commitments.{IsCommitment, take_of, weight_total, worth}
use Rattle.sg_model.specs.Optimality.{IsUpperBound}
use Rattle.sg_model.proofs.Ints.{v, times, same_by, mul-le}
use Rattle.sg_model.proofs.Sums.{total-le, total-scaled}
use Rattle.sg_model.proofs.Numbers.{All-numbers}
use Rattle.sg_model.proofs.Greatest.{Contains-head, Contains-tail}
use Rattle.sg_model.proofs.Best.{greatest-bounds, take_of-reached}
use Rattle.sg_model.proofs.Values.{prior_total-positive}

-- ---- items of lists

pub Contains-map : {X Y : Type 0} (f : X → Y) (xs : List X) (x : X) → Contains xs x → Contains (map f xs) (f x)
Contains-map f [] x h = absurd (omega (arith, h.1))
Contains-map f (y ∷ xs) x (zero, lt, e) = subst (Contains (f y ∷ map f xs)) (ap f e) (Contains-head (f y) (map f xs))
Contains-map f (y ∷ xs) x (suc i, lt, e) = Contains-tail (f y) (map f xs) (f x) (Contains-map f xs x (i, omega arith, e))

pub Contains-flat_map : {X Y : Type 0} (f : X → List Y) (xs : List X) (x : X) (y : Y) → Contains xs x → Contains (f x) y → Contains (flat_map f xs) y
Contains-flat_map f [] x y h k = absurd (omega (arith, h.1))
Contains-flat_map {Y = Y} f (z ∷ xs) x y (zero, lt, e) k = Contains-append_left (f z) (flat_map f xs) y (subst (λ ys. Contains ys y) (ap f (sym e)) k)
Contains-flat_map f (z ∷ xs) x y (suc i, lt, e) k = Contains-append_right (f z) (flat_map f xs) y (Contains-flat_map f xs x y (i, omega arith, e) k)

pub Contains-numbers_from : (a m t : ℕ) → a ≤ t → t < a + m → Contains (numbers_from a m) t
Contains-numbers_from a zero t low high = absurd (omega arith)
Contains-numbers_from a (suc m) t low high =
    elim (cases_eq a t) [
      | inl e ↦ subst (Contains (numbers_from a (suc m))) e (Contains-head a (numbers_from (a + 1) m))
      | inr ne ↦ Contains-tail a (numbers_from (a + 1) m) t (Contains-numbers_from (a + 1) m t (omega arith) (omega arith))
    ]

pub Contains-numbers : (m t : ℕ) → 1 ≤ t → t ≤ m → Contains (numbers m) t
Contains-numbers m t low high = Contains-numbers_from 1 m t low (omega arith)

pub least-bounds : (xs : List ℤ) → All (λ x. least xs ≤ℤ x) xs
least-bounds [] = All-nil (λ x. least [] ≤ℤ x)
least-bounds (x ∷ xs) =
    let r = fold-int_min_bounds x xs (fold int_min x xs) refl in
    All-cons (λ y. least (x ∷ xs) ≤ℤ y) x xs r.0 r.1

either-listed : (b : Bool) (x y : ℤ) → Contains (x ∷ y ∷ []) (cond b x y)
either-listed true x y = Contains-head x (y ∷ [])
either-listed false x y = Contains-tail x (y ∷ []) y (Contains-head y [])

-- what a legal play pays is in its table's column, or one of two
pub listed_in : (g : Game) (play : List ℕ) → IsLegal g play → (row : ℕ → ℤ) (covered : Bool) (inside outside : ℤ)
    → Contains (cond (is_matrix g) (map row (numbers (length g.goals))) (inside ∷ outside ∷ [])) (cond (is_matrix g) (row (slice_index play 0)) (cond covered inside outside))
listed_in g play legal row covered inside outside =
    elim (is_matrix g) as (λ (b : Bool). MatchBool b (IsRow g play) (IsLegalJoint g play) → Contains (cond b (map row (numbers (length g.goals))) (inside ∷ outside ∷ [])) (cond b (row (slice_index play 0)) (cond covered inside outside))) [
      | true ↦ (λ is. Contains-map row (numbers (length g.goals)) (slice_index play 0) (Contains-numbers (length g.goals) (slice_index play 0) is.from_one is.in_list))
      | false ↦ (λ is. either-listed covered inside outside)
    ] legal

pub listed : (g : Game) (play : List ℕ) → IsLegal g play → (l a : ℕ) → Contains (payoffs_at g l a) (pay_d g l play a)
listed g play legal l a = listed_in g play legal (λ (r : ℕ). nth (nth (attacker g l).leader r []) a (pos 0)) (covers g play a) (payoff g l a).dc (payoff g l a).du

pub bounded : (g : Game) (play : List ℕ) → IsLegal g play → (l : ℕ) → 1 ≤ l → l ≤ length g.types → (a : ℕ) → 1 ≤ a → a ≤ action_count g l
    → (pay_d g l play a ≤ℤ greatest_of g l) × (pos 1 ≤ℤ (pay_d g l play a +ℤ shift_of g))
bounded g play legal l low high a from_one in_range =
    let pay : ℤ = pay_d g l play a in
    let against : Contains (payoffs_of g l) pay = Contains-flat_map (payoffs_at g l) (numbers (action_count g l)) a pay (Contains-numbers (action_count g l) a from_one in_range) (listed g play legal l a) in
    let every : List ℤ = flat_map (payoffs_of g) (numbers (length g.types)) in
    let in_game : Contains every pay = Contains-flat_map (payoffs_of g) (numbers (length g.types)) l pay (Contains-numbers (length g.types) l low high) against in
    let top : pay ≤ℤ greatest_of g l = All-contains (λ x. x ≤ℤ greatest (payoffs_of g l)) (payoffs_of g l) pay (greatest-bounds (payoffs_of g l)) against in
    let bottom : least every ≤ℤ pay = All-contains (λ x. least every ≤ℤ x) every pay (least-bounds every) in_game in
    (top, omega (arith, ints, bottom))

pub take-bounded : (g : Game) → IsPeopled g → (k : List Ticket) → IsCommitment g k → (l : ℕ) → 1 ≤ l → l ≤ length g.types → take_of g k l ≤ℤ (greatest_of g l *ℤ weight_total k)
take-bounded g is k is_k l low high =
    let takes = take_of-reached g k l (is.actions l low high) in
    let a : ℕ = takes.0 in
    let top : ℤ = greatest_of g l in
    let each : All (λ (x : Ticket). (x.weight *ℤ pay_d g l x.play.code a) ≤ℤ (top *ℤ x.weight)) k =
    λ i d lt.
    let x : Ticket = slice_index_or k i d in
    let pay : ℤ = pay_d g l x.play.code a in
    let m = mul-le pay top x.weight (bounded g x.play.code (is_k.legal i d lt) l low high a takes.1.from_one takes.1.in_range).0 (omega (arith, ints, is_k.positive i d lt)) in
    let e : x.weight *ℤ pay ≡ pay *ℤ x.weight = same_by (times (v x.weight) (v pay)) (times (v pay) (v x.weight)) (omega arith) in
    omega (arith, ints, m, e) in
    let s = total-le (λ (x : Ticket). x.weight *ℤ pay_d g l x.play.code a) (λ (x : Ticket). top *ℤ x.weight) k each in
    omega (arith, ints, s, takes.1.gives, total-scaled (λ (x : Ticket). x.weight) top k)

pub greatest-bound : (g : Game) → IsPeopled g → IsUpperBound g (total (λ l. (attacker g l).prior *ℤ greatest_of g l) (numbers (length g.types))) (prior_total g)
greatest-bound g is = record {
  positive = prior_total-positive g is;
  bounds = λ k is_k.
      let d : ℤ = weight_total k in
      let all : List ℕ = numbers (length g.types) in
      let most = λ (l : ℕ). (attacker g l).prior *ℤ greatest_of g l in
      let each : All (λ l. ((attacker g l).prior *ℤ take_of g k l) ≤ℤ (d *ℤ most l)) all =
      All-numbers (λ l. ((attacker g l).prior *ℤ take_of g k l) ≤ℤ (d *ℤ most l)) (length g.types)
      (λ l low high.
      let p : ℤ = (attacker g l).prior in let t : ℤ = take_of g k l in let top : ℤ = greatest_of g l in
      let m = mul-le t (top *ℤ d) p (take-bounded g is k is_k l low high) (omega (arith, ints, is.priors l low high)) in
      let a : t *ℤ p ≡ p *ℤ t = same_by (times (v t) (v p)) (times (v p) (v t)) (omega arith) in
      let b : (top *ℤ d) *ℤ p ≡ d *ℤ (p *ℤ top) = same_by (times (times (v top) (v d)) (v p)) (times (v d) (times (v p) (v top))) (omega arith) in
      omega (arith, ints, m, a, b)) in
      let s = total-le (λ l. (attacker g l).prior *ℤ take_of g k l) (λ l. d *ℤ most l) all each in
      let e = total-scaled most d all in
      let f : d *ℤ total most all ≡ total most all *ℤ d = same_by (times (v d) (v (total most all))) (times (v (total most all)) (v d)) (omega arith) in
      mul-le (worth g k) (total most all *ℤ d) (prior_total g) (omega (arith, ints, s, e, f)) (omega (arith, ints, prior_total-positive g is));
}
