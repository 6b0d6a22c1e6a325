-- Commitments whose weights are all multiplied by one number.
use Rattle.std.proofs.Common.{◌≡◌, ◌≢◌, ℕ, ◌<◌, Bool, true, false, List, [], ◌∷◌, map, length, ℤ, pos, ◌+ℤ◌, ◌*ℤ◌, ◌≤ℤ◌, ap, subst, sym, ◌∙◌, refl, arith, slice_index_or}
use Rattle.std.specs.List.{filter, list_all}
use Rattle.std.specs.Prelude.{int_le}
use Rattle.std.proofs.lemmas.Int.{ints}
use Rattle.std.proofs.lemmas.List.{get_or_default, length-map}
use Rattle.std.proofs.lemmas.List.Elements.{All-contains, filter_agree}
use Rattle.std.proofs.Math.ListN.{get_or-map}
use Rattle.sg_model.specs.declared.ticket.Ticket.{Ticket}
use Rattle.sg_model.specs.Sums.{total, greatest, numbers}
use Rattle.sg_model.specs.Games.{Game, action_count, attacker, prior_total}
use Rattle.sg_model.specs.Plays.{IsLegal, pay_a, pay_d}
use Rattle.sg_model.specs.Commitments.{IsCommitment, IsValue, is_best, scaled, sum_a, sum_d, take_of, weight_total, worth}
use Rattle.sg_model.specs.Optimality.{IsOptimal}
use Rattle.sg_model.proofs.Ints.{v, n, plus, times, same_by, mul-le, cancel-le, cancel, factor_positive}
use Rattle.sg_model.proofs.Sums.{total-scaled}
use Rattle.sg_model.proofs.Numbers.{map-none}
use Rattle.sg_model.proofs.Best.{from_map, greatest-reached, greatest-bounds, All-from_map}

-- a sum over scaled tickets of what is proportional to the weight
weighted : (c : ℤ) (f : Ticket → ℤ) (k : List Ticket) → total (λ (x : Ticket). (c *ℤ x.weight) *ℤ f x) k ≡ c *ℤ total (λ (x : Ticket). x.weight *ℤ f x) k
weighted c f [] = same_by (n 0) (times (v c) (n 0)) (omega arith)
weighted c f (x ∷ xs) =
    let w = v x.weight in let y = v (f x) in let r = v (total (λ (x : Ticket). x.weight *ℤ f x) xs) in
    ap (λ (z : ℤ). ((c *ℤ x.weight) *ℤ f x) +ℤ z) (weighted c f xs) ∙ same_by (plus (times (times (v c) w) y) (times (v c) r)) (times (v c) (plus (times w y) r)) (omega arith)

total-map : {X Y : Type 0} (f : Y → ℤ) (h : X → Y) (xs : List X) → total f (map h xs) ≡ total (λ x. f (h x)) xs
total-map f h [] = refl
total-map f h (x ∷ xs) = ap (λ (z : ℤ). f (h x) +ℤ z) (total-map f h xs)

pub weigh : ℤ → Ticket → Ticket
weigh c x = record x { weight = c *ℤ x.weight }

pub weight_total-scaled : (c : ℤ) (k : List Ticket) → weight_total (scaled c k) ≡ c *ℤ weight_total k
unfolding weigh
weight_total-scaled c k = total-map (λ (x : Ticket). x.weight) (weigh c) k ∙ total-scaled (λ (x : Ticket). x.weight) c k

pub sum_d-scaled : (g : Game) (c : ℤ) (k : List Ticket) (l a : ℕ) → sum_d g (scaled c k) l a ≡ c *ℤ sum_d g k l a
unfolding weigh
sum_d-scaled g c k l a = total-map (λ (x : Ticket). x.weight *ℤ pay_d g l x.play.code a) (weigh c) k ∙ weighted c (λ (x : Ticket). pay_d g l x.play.code a) k

pub sum_a-scaled : (g : Game) (c : ℤ) (k : List Ticket) (l a : ℕ) → sum_a g (scaled c k) l a ≡ c *ℤ sum_a g k l a
unfolding weigh
sum_a-scaled g c k l a = total-map (λ (x : Ticket). x.weight *ℤ pay_a g l x.play.code a) (weigh c) k ∙ weighted c (λ (x : Ticket). pay_a g l x.play.code a) k

int_le-scaled : (c a b : ℤ) → pos 1 ≤ℤ c → int_le (c *ℤ a) (c *ℤ b) ≡ int_le a b
int_le-scaled c a b h =
    let ca : c *ℤ a ≡ a *ℤ c = same_by (times (v c) (v a)) (times (v a) (v c)) (omega arith) in
    let cb : c *ℤ b ≡ b *ℤ c = same_by (times (v c) (v b)) (times (v b) (v c)) (omega arith) in
    elim (int_le a b) as (λ t. int_le a b ≡ t → int_le (c *ℤ a) (c *ℤ b) ≡ t) [
      | true ↦ (λ e. let q : (a *ℤ c) ≤ℤ (b *ℤ c) = mul-le a b c (omega (arith, ints, e)) (omega (arith, ints, h)) in sym (omega (arith, ints, q, ca, cb)))
      | false ↦ (λ e. elim (int_le (c *ℤ a) (c *ℤ b)) as (λ t. int_le (c *ℤ a) (c *ℤ b) ≡ t → t ≡ false) [
        | true ↦ (λ f. let q : a ≤ℤ b = cancel-le a b c (omega (arith, ints, f, ca, cb)) h in absurd (omega (arith, ints, e, q)))
        | false ↦ (λ f. refl)
      ] refl)
    ] refl

greatest-scaled : {X : Type 0} (c : ℤ) → pos 0 ≤ℤ c → (f : X → ℤ) (xs : List X) → xs ≢ [] → greatest (map (λ x. c *ℤ f x) xs) ≡ c *ℤ greatest (map f xs)
greatest-scaled {X = X} c h f xs some =
    let F = λ (x : X). c *ℤ f x in
    let top = from_map F xs (greatest (map F xs)) (greatest-reached (map F xs) (λ e. some (map-none F xs e))) in
    let old = from_map f xs (greatest (map f xs)) (greatest-reached (map f xs) (λ e. some (map-none f xs e))) in
    let a : f top.0 ≤ℤ greatest (map f xs) = All-contains (λ x. f x ≤ℤ greatest (map f xs)) xs top.0 (All-from_map f (λ z. z ≤ℤ greatest (map f xs)) xs (greatest-bounds (map f xs))) top.1 in
    let b : F old.0 ≤ℤ greatest (map F xs) = All-contains (λ x. F x ≤ℤ greatest (map F xs)) xs old.0 (All-from_map F (λ z. z ≤ℤ greatest (map F xs)) xs (greatest-bounds (map F xs))) old.1 in
    let m = mul-le (f top.0) (greatest (map f xs)) c a h in
    let p : (f top.0) *ℤ c ≡ c *ℤ f top.0 = same_by (times (v (f top.0)) (v c)) (times (v c) (v (f top.0))) (omega arith) in
    let q : greatest (map f xs) *ℤ c ≡ c *ℤ greatest (map f xs) = same_by (times (v (greatest (map f xs))) (v c)) (times (v c) (v (greatest (map f xs)))) (omega arith) in
    let r : c *ℤ f old.0 ≡ c *ℤ greatest (map f xs) = ap (λ (z : ℤ). c *ℤ z) old.2 in
    omega (arith, ints, m, p, q, r, b, top.2)

greatest-map_scaled : {X : Type 0} (c : ℤ) → pos 0 ≤ℤ c → (f : X → ℤ) (xs : List X) → greatest (map (λ x. c *ℤ f x) xs) ≡ c *ℤ greatest (map f xs)
greatest-map_scaled c h f [] = same_by (n 0) (times (v c) (n 0)) (omega arith)
greatest-map_scaled c h f (x ∷ xs) = greatest-scaled c h f (x ∷ xs) (λ e. cc)

list_all-same : {X : Type 0} (p q : X → Bool) → ((x : X) → p x ≡ q x) → (xs : List X) → list_all p xs ≡ list_all q xs
list_all-same p q h xs = λ i. list_all (λ x. h x i) xs

is_best-scaled : (g : Game) (c : ℤ) → pos 1 ≤ℤ c → (k : List Ticket) (l a : ℕ) → is_best g (scaled c k) l a ≡ is_best g k l a
is_best-scaled g c h k l a =
    list_all-same (λ b. int_le (sum_a g (scaled c k) l b) (sum_a g (scaled c k) l a)) (λ b. int_le (sum_a g k l b) (sum_a g k l a))
    (λ b. ap (λ (z : ℤ). int_le z (sum_a g (scaled c k) l a)) (sum_a-scaled g c k l b)
    ∙ (ap (λ (z : ℤ). int_le (c *ℤ sum_a g k l b) z) (sum_a-scaled g c k l a) ∙ int_le-scaled c (sum_a g k l b) (sum_a g k l a) h)) (numbers (action_count g l))

pub take_of-scaled : (g : Game) (c : ℤ) → pos 1 ≤ℤ c → (k : List Ticket) (l : ℕ) → take_of g (scaled c k) l ≡ c *ℤ take_of g k l
take_of-scaled g c h k l =
    let all : List ℕ = numbers (action_count g l) in
    let bests : List ℕ = filter (is_best g k l) all in
    let same : filter (is_best g (scaled c k) l) all ≡ bests = filter_agree (is_best g (scaled c k) l) (is_best g k l) (is_best-scaled g c h k l) all in
    let a : take_of g (scaled c k) l ≡ greatest (map (sum_d g (scaled c k) l) bests) = ap (λ (xs : List ℕ). greatest (map (sum_d g (scaled c k) l) xs)) same in
    let b : greatest (map (sum_d g (scaled c k) l) bests) ≡ greatest (map (λ x. c *ℤ sum_d g k l x) bests) = λ i. greatest (map (λ x. sum_d-scaled g c k l x i) bests) in
    a ∙ (b ∙ greatest-map_scaled c (omega (arith, ints, h)) (sum_d g k l) bests)

pub worth-scaled : (g : Game) (c : ℤ) → pos 1 ≤ℤ c → (k : List Ticket) → worth g (scaled c k) ≡ c *ℤ worth g k
worth-scaled g c h k =
    let each : (l : ℕ) → ((attacker g l).prior *ℤ take_of g (scaled c k) l) ≡ (c *ℤ ((attacker g l).prior *ℤ take_of g k l)) =
    λ l. ap (λ (z : ℤ). (attacker g l).prior *ℤ z) (take_of-scaled g c h k l)
    ∙ same_by (times (v (attacker g l).prior) (times (v c) (v (take_of g k l)))) (times (v c) (times (v (attacker g l).prior) (v (take_of g k l)))) (omega arith) in
    let a : worth g (scaled c k) ≡ total (λ l. c *ℤ ((attacker g l).prior *ℤ take_of g k l)) (numbers (length g.types)) = λ i. total (λ l. each l i) (numbers (length g.types)) in
    a ∙ total-scaled (λ l. (attacker g l).prior *ℤ take_of g k l) c (numbers (length g.types))

-- an item of scaled tickets
at : (c : ℤ) (k : List Ticket) (i : ℕ) (d : Ticket) → i < length k → slice_index_or (scaled c k) i d ≡ weigh c (slice_index_or k i d)
unfolding weigh
at c k i d lt = get_or_default (scaled c k) i d (weigh c d) (omega (arith, length-map k (weigh c), lt)) ∙ get_or-map (weigh c) k i d

length-scaled : (c : ℤ) (k : List Ticket) → length (scaled c k) ≡ length k
unfolding weigh
length-scaled c k = length-map k (weigh c)

code-at : (c : ℤ) (k : List Ticket) (i : ℕ) (d : Ticket) → i < length k → (slice_index_or (scaled c k) i d).play.code ≡ (slice_index_or k i d).play.code
unfolding weigh
code-at c k i d lt = ap (λ (x : Ticket). x.play.code) (at c k i d lt)

weight-at : (c : ℤ) (k : List Ticket) (i : ℕ) (d : Ticket) → i < length k → (slice_index_or (scaled c k) i d).weight ≡ c *ℤ (slice_index_or k i d).weight
unfolding weigh
weight-at c k i d lt = ap (λ (x : Ticket). x.weight) (at c k i d lt)

pub commitment-scaled : (g : Game) (c : ℤ) → pos 1 ≤ℤ c → (k : List Ticket) → IsCommitment g k → IsCommitment g (scaled c k)
unfolding weigh
commitment-scaled g c h k is = record {
  some = λ e. is.some (map-none (weigh c) k e);
  legal = λ i d lt. let low : i < length k = omega (arith, lt, length-scaled c k) in subst (IsLegal g) (sym (code-at c k i d low)) (is.legal i d low);
  positive = λ i d lt.
      let low : i < length k = omega (arith, lt, length-scaled c k) in
      let w : ℤ = (slice_index_or k i d).weight in
      let more = mul-le (pos 1) c w h (omega (arith, ints, is.positive i d low)) in
      omega (arith, ints, weight-at c k i d low, more, is.positive i d low);
  distinct = λ i j d lt in_list.
      let low : j < length k = omega (arith, in_list, length-scaled c k) in
      λ e. is.distinct i j d lt low (sym (code-at c k i d (omega (arith, lt, low))) ∙ (e ∙ code-at c k j d low));
}

pub commitment-from_scaled : (g : Game) (c : ℤ) → pos 1 ≤ℤ c → (k : List Ticket) → IsCommitment g (scaled c k) → IsCommitment g k
unfolding weigh
commitment-from_scaled g c h k is = record {
  some = λ e. is.some (ap (scaled c) e);
  legal = λ i d lt. subst (IsLegal g) (code-at c k i d lt) (is.legal i d (omega (arith, lt, length-scaled c k)));
  positive = λ i d lt.
      let w : ℤ = (slice_index_or k i d).weight in
      let p : pos 1 ≤ℤ (slice_index_or (scaled c k) i d).weight = is.positive i d (omega (arith, lt, length-scaled c k)) in
      let q : pos 1 ≤ℤ (c *ℤ w) = omega (arith, ints, p, weight-at c k i d lt) in
      factor_positive w c (c *ℤ w) (same_by (times (v w) (v c)) (times (v c) (v w)) (omega arith)) q (omega (arith, ints, h));
  distinct = λ i j d lt in_list e.
      is.distinct i j d lt (omega (arith, in_list, length-scaled c k)) (code-at c k i d (omega (arith, lt, in_list)) ∙ (e ∙ sym (code-at c k j d in_list)));
}

pub value-scaled : (g : Game) (c : ℤ) → pos 1 ≤ℤ c → (k : List Ticket) (num den : ℤ) → IsValue g k num den → IsValue g (scaled c k) num den
value-scaled g c h k num den is = record {
  positive = is.positive;
  same =
      let w : ℤ = worth g k in let d : ℤ = weight_total k in let p : ℤ = prior_total g in
      let a : worth g (scaled c k) *ℤ den ≡ (c *ℤ w) *ℤ den = ap (λ (z : ℤ). z *ℤ den) (worth-scaled g c h k) in
      let b : (c *ℤ w) *ℤ den ≡ c *ℤ (w *ℤ den) = same_by (times (times (v c) (v w)) (v den)) (times (v c) (times (v w) (v den))) (omega arith) in
      let e : c *ℤ (w *ℤ den) ≡ c *ℤ ((num *ℤ d) *ℤ p) = ap (λ (z : ℤ). c *ℤ z) is.same in
      let f : c *ℤ ((num *ℤ d) *ℤ p) ≡ (num *ℤ (c *ℤ d)) *ℤ p = same_by (times (v c) (times (times (v num) (v d)) (v p))) (times (times (v num) (times (v c) (v d))) (v p)) (omega arith) in
      a ∙ (b ∙ (e ∙ (f ∙ ap (λ (z : ℤ). (num *ℤ z) *ℤ p) (sym (weight_total-scaled c k)))));
}

pub value-from_scaled : (g : Game) (c : ℤ) → pos 1 ≤ℤ c → (k : List Ticket) (num den : ℤ) → IsValue g (scaled c k) num den → IsValue g k num den
value-from_scaled g c h k num den is = record {
  positive = is.positive;
  same =
      let w : ℤ = worth g k in let d : ℤ = weight_total k in let p : ℤ = prior_total g in
      let a : worth g (scaled c k) *ℤ den ≡ (c *ℤ w) *ℤ den = ap (λ (z : ℤ). z *ℤ den) (worth-scaled g c h k) in
      let b : (c *ℤ w) *ℤ den ≡ (w *ℤ den) *ℤ c = same_by (times (times (v c) (v w)) (v den)) (times (times (v w) (v den)) (v c)) (omega arith) in
      let e : (num *ℤ weight_total (scaled c k)) *ℤ p ≡ (num *ℤ (c *ℤ d)) *ℤ p = ap (λ (z : ℤ). (num *ℤ z) *ℤ p) (weight_total-scaled c k) in
      let f : (num *ℤ (c *ℤ d)) *ℤ p ≡ ((num *ℤ d) *ℤ p) *ℤ c = same_by (times (times (v num) (times (v c) (v d))) (v p)) (times (times (times (v num) (v d)) (v p)) (v c)) (omega arith) in
      cancel (w *ℤ den) ((num *ℤ d) *ℤ p) c (sym b ∙ (sym a ∙ (is.same ∙ (e ∙ f)))) h;
}

pub optimal-scaled : (g : Game) (c : ℤ) → pos 1 ≤ℤ c → (k : List Ticket) → IsOptimal g k → IsOptimal g (scaled c k)
optimal-scaled g c h k best = λ other is_other.
    let w : ℤ = worth g k in let d : ℤ = weight_total k in let x : ℤ = worth g other in let e : ℤ = weight_total other in
    let m = mul-le (x *ℤ d) (w *ℤ e) c (best other is_other) (omega (arith, ints, h)) in
    let a : x *ℤ weight_total (scaled c k) ≡ x *ℤ (c *ℤ d) = ap (λ (z : ℤ). x *ℤ z) (weight_total-scaled c k) in
    let b : x *ℤ (c *ℤ d) ≡ (x *ℤ d) *ℤ c = same_by (times (v x) (times (v c) (v d))) (times (times (v x) (v d)) (v c)) (omega arith) in
    let f : worth g (scaled c k) *ℤ e ≡ (c *ℤ w) *ℤ e = ap (λ (z : ℤ). z *ℤ e) (worth-scaled g c h k) in
    let i : (c *ℤ w) *ℤ e ≡ (w *ℤ e) *ℤ c = same_by (times (times (v c) (v w)) (v e)) (times (times (v w) (v e)) (v c)) (omega arith) in
    omega (arith, ints, m, a, b, f, i)

pub optimal-from_scaled : (g : Game) (c : ℤ) → pos 1 ≤ℤ c → (k : List Ticket) → IsOptimal g (scaled c k) → IsOptimal g k
optimal-from_scaled g c h k best = λ other is_other.
    let w : ℤ = worth g k in let d : ℤ = weight_total k in let x : ℤ = worth g other in let e : ℤ = weight_total other in
    let m = best other is_other in
    let a : x *ℤ weight_total (scaled c k) ≡ x *ℤ (c *ℤ d) = ap (λ (z : ℤ). x *ℤ z) (weight_total-scaled c k) in
    let b : x *ℤ (c *ℤ d) ≡ (x *ℤ d) *ℤ c = same_by (times (v x) (times (v c) (v d))) (times (times (v x) (v d)) (v c)) (omega arith) in
    let f : worth g (scaled c k) *ℤ e ≡ (c *ℤ w) *ℤ e = ap (λ (z : ℤ). z *ℤ e) (worth-scaled g c h k) in
    let i : (c *ℤ w) *ℤ e ≡ (w *ℤ e) *ℤ c = same_by (times (times (v c) (v w)) (v e)) (times (times (v w) (v e)) (v c)) (omega arith) in
    cancel-le (x *ℤ d) (w *ℤ e) c (omega (arith, ints, m, a, b, f, i)) h
