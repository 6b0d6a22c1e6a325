-- Sums over tickets depend only on the weight of each play.
use Rattle.std.proofs.Common.{◌≡◌, ℕ, Bool, true, false, cond, ◌||◌, List, [], ◌∷◌, ◌++◌, map, length, ℤ, pos, ◌+ℤ◌, ◌*ℤ◌, ◌≤ℤ◌, ap, subst, sym, ◌∙◌, refl, arith, bytes_eq, int_le, IsPermutation}
use Rattle.std.specs.List.{filter, list_all, list_any}
use Rattle.std.proofs.lemmas.Int.{ints}
use Rattle.std.proofs.lemmas.List.Folds.{list_any-append}
use Rattle.std.proofs.lemmas.Slice.Eq.{bytes_eq-Decides}
use Rattle.sg_model.specs.declared.ticket.Ticket.{Ticket}
use Rattle.sg_model.specs.Sums.{total, greatest, numbers}
use Rattle.sg_model.specs.Games.{Game, action_count, attacker, prior_total}
use Rattle.sg_model.specs.Plays.{covers, pay_a, pay_d}
use Rattle.sg_model.specs.Commitments.{IsValue, cover_count, sum_a, sum_d, take_of, weight_on, weight_total, worth}
use Rattle.sg_model.specs.Optimality.{IsOptimal}
use Rattle.sg_model.specs.OptimalityLaws.{AreOneMix}
use Rattle.sg_model.proofs.Ints.{v, n, plus, times, same_by}
use Rattle.sg_model.proofs.Sums.{total-exchange, total-IsPermutation}
use Rattle.sg_model.proofs.Greatest.{or-left, or-right}

-- the plays of a list, each once
abbrev once_each : List (List ℕ) → List (List ℕ)
once_each [] = []
once_each (p ∷ ps) = cond (list_any (λ r. bytes_eq p r) ps) (once_each ps) (p ∷ once_each ps)

same-is : (p q : List ℕ) → bytes_eq p q ≡ true → p ≡ q
same-is p q e = (bytes_eq-Decides p q).0 e

-- what stands at a play of the list is counted once
counted : (h : List ℕ → ℤ) (q : List ℕ) (ps : List (List ℕ))
    → total (λ p. cond (bytes_eq q p) (h p) (pos 0)) (once_each ps) ≡ cond (list_any (λ p. bytes_eq q p) ps) (h q) (pos 0)
counted h q [] = refl
counted h q (p ∷ ps) =
    let part = λ (r : List ℕ). cond (bytes_eq q r) (h r) (pos 0) in
    let rest = counted h q ps in
    elim (list_any (λ r. bytes_eq p r) ps) as (λ (b : Bool). list_any (λ r. bytes_eq p r) ps ≡ b
    → total part (cond b (once_each ps) (p ∷ once_each ps)) ≡ cond (bytes_eq q p || list_any (λ r. bytes_eq q r) ps) (h q) (pos 0)) [
      | true ↦ (λ again. elim (bytes_eq q p) as (λ (c : Bool). bytes_eq q p ≡ c → total part (once_each ps) ≡ cond (c || list_any (λ r. bytes_eq q r) ps) (h q) (pos 0)) [
        | true ↦ (λ same.
            let e : q ≡ p = same-is q p same in
            let there : list_any (λ r. bytes_eq q r) ps ≡ true = subst (λ (s : List ℕ). list_any (λ r. bytes_eq s r) ps ≡ true) (sym e) again in
            rest ∙ ap (λ (b : Bool). cond b (h q) (pos 0)) there)
        | false ↦ (λ _. rest)
      ] refl)
      | false ↦ (λ first. elim (bytes_eq q p) as (λ (c : Bool). bytes_eq q p ≡ c
          → (cond c (h p) (pos 0) +ℤ total part (once_each ps)) ≡ cond (c || list_any (λ r. bytes_eq q r) ps) (h q) (pos 0)) [
            | true ↦ (λ same.
                let e : q ≡ p = same-is q p same in
                let gone : list_any (λ r. bytes_eq q r) ps ≡ false = subst (λ (s : List ℕ). list_any (λ r. bytes_eq s r) ps ≡ false) (sym e) first in
                let none : total part (once_each ps) ≡ pos 0 = rest ∙ ap (λ (b : Bool). cond b (h q) (pos 0)) gone in
                let here : h p ≡ h q = ap h (sym e) in
                omega (arith, ints, none, here))
            | false ↦ (λ _. omega (arith, ints, rest))
          ] refl)
    ] refl

-- the plays of tickets
abbrev plays_of : List Ticket → List (List ℕ)
plays_of k = map (λ (x : Ticket). x.play.code) k

total-when : (p : List ℕ) (c : ℤ) (k : List Ticket) → total (λ (x : Ticket). cond (bytes_eq x.play.code p) (x.weight *ℤ c) (pos 0)) k ≡ weight_on k p *ℤ c
total-when p c [] = same_by (n 0) (times (n 0) (v c)) (omega arith)
total-when p c (x ∷ xs) =
    let step : (b : Bool) → (cond b (x.weight *ℤ c) (pos 0) +ℤ (weight_on xs p *ℤ c)) ≡ ((cond b x.weight (pos 0) +ℤ weight_on xs p) *ℤ c) =
    λ b. elim b as (λ b. (cond b (x.weight *ℤ c) (pos 0) +ℤ (weight_on xs p *ℤ c)) ≡ ((cond b x.weight (pos 0) +ℤ weight_on xs p) *ℤ c)) [
      | true ↦ same_by (plus (times (v x.weight) (v c)) (times (v (weight_on xs p)) (v c))) (times (plus (v x.weight) (v (weight_on xs p))) (v c)) (omega arith)
      | false ↦ same_by (plus (n 0) (times (v (weight_on xs p)) (v c))) (times (plus (n 0) (v (weight_on xs p))) (v c)) (omega arith)
    ] in
    ap (λ (z : ℤ). cond (bytes_eq x.play.code p) (x.weight *ℤ c) (pos 0) +ℤ z) (total-when p c xs) ∙ step (bytes_eq x.play.code p)

-- all plays of k are among ps
abbrev Known : List (List ℕ) → List Ticket → Type 0
Known ps [] = Unit {0}
Known ps (x ∷ xs) = (list_any (λ p. bytes_eq x.play.code p) ps ≡ true) × Known ps xs

-- a sum over tickets is one over plays
by_play : (f : List ℕ → ℤ) (ps : List (List ℕ)) (k : List Ticket) → Known ps k
    → total (λ (x : Ticket). x.weight *ℤ f x.play.code) k ≡ total (λ p. weight_on k p *ℤ f p) (once_each ps)
by_play f ps k known =
    let cell = λ (p : List ℕ) (x : Ticket). cond (bytes_eq x.play.code p) (x.weight *ℤ f p) (pos 0) in
    let a : total (λ p. weight_on k p *ℤ f p) (once_each ps) ≡ total (λ p. total (cell p) k) (once_each ps) = λ i. total (λ p. sym (total-when p (f p) k) i) (once_each ps) in
    let b = total-exchange cell (once_each ps) k in
    let c : (k : List Ticket) → Known ps k → total (λ (x : Ticket). total (λ p. cell p x) (once_each ps)) k ≡ total (λ (x : Ticket). x.weight *ℤ f x.play.code) k = rows f ps in
    sym (a ∙ (b ∙ c k known))
  where
    rows : (f : List ℕ → ℤ) (ps : List (List ℕ)) (k : List Ticket) → Known ps k
        → total (λ (x : Ticket). total (λ p. cond (bytes_eq x.play.code p) (x.weight *ℤ f p) (pos 0)) (once_each ps)) k ≡ total (λ (x : Ticket). x.weight *ℤ f x.play.code) k
    rows f ps [] known = refl
    rows f ps (x ∷ xs) known =
        let here = counted (λ p. x.weight *ℤ f p) x.play.code ps ∙ ap (λ (b : Bool). cond b (x.weight *ℤ f x.play.code) (pos 0)) known.0 in
        omega (arith, ints, here, rows f ps xs known.1)

known-more : (p : List ℕ) (ps : List (List ℕ)) (k : List Ticket) → Known ps k → Known (p ∷ ps) k
known-more p ps [] h = tt
known-more p ps (x ∷ xs) h = (or-right (bytes_eq x.play.code p) (list_any (λ p. bytes_eq x.play.code p) ps) h.0, known-more p ps xs h.1)

known-plays : (k : List Ticket) → Known (plays_of k) k
known-plays [] = tt
known-plays (x ∷ xs) = (
  or-left (bytes_eq x.play.code x.play.code) (list_any (λ p. bytes_eq x.play.code p) (plays_of xs)) ((bytes_eq-Decides x.play.code x.play.code).1 refl),
  known-more x.play.code (plays_of xs) xs (known-plays xs),
)

known-left : (ps qs : List (List ℕ)) (k : List Ticket) → Known ps k → Known (ps ++ qs) k
known-left ps qs [] h = tt
known-left ps qs (x ∷ xs) h = (
  list_any-append (λ p. bytes_eq x.play.code p) ps qs ∙ or-left (list_any (λ p. bytes_eq x.play.code p) ps) (list_any (λ p. bytes_eq x.play.code p) qs) h.0,
  known-left ps qs xs h.1,
)

known-right : (ps qs : List (List ℕ)) (k : List Ticket) → Known qs k → Known (ps ++ qs) k
known-right ps qs [] h = tt
known-right ps qs (x ∷ xs) h = (
  list_any-append (λ p. bytes_eq x.play.code p) ps qs ∙ or-right (list_any (λ p. bytes_eq x.play.code p) ps) (list_any (λ p. bytes_eq x.play.code p) qs) h.0,
  known-right ps qs xs h.1,
)

-- two lists that give each play the same weight have the same sums
pub same_sums : (f : List ℕ → ℤ) (k other : List Ticket) → AreOneMix k other
    → total (λ (x : Ticket). x.weight *ℤ f x.play.code) k ≡ total (λ (x : Ticket). x.weight *ℤ f x.play.code) other
same_sums f k other same =
    let ps : List (List ℕ) = plays_of k ++ plays_of other in
    let a = by_play f ps k (known-left (plays_of k) (plays_of other) k (known-plays k)) in
    let b = by_play f ps other (known-right (plays_of k) (plays_of other) other (known-plays other)) in
    let c : total (λ p. weight_on k p *ℤ f p) (once_each ps) ≡ total (λ p. weight_on other p *ℤ f p) (once_each ps) = λ i. total (λ p. same p i *ℤ f p) (once_each ps) in
    a ∙ (c ∙ sym b)

module _ (g : Game) (k other : List Ticket) (same : AreOneMix k other) where
  pub same_weight_total : weight_total k ≡ weight_total other
  same_weight_total = plain k ∙ (same_sums (λ p. pos 1) k other same ∙ sym (plain other))
    where
      plain : (k : List Ticket) → weight_total k ≡ total (λ (x : Ticket). x.weight *ℤ pos 1) k
      plain [] = refl
      plain (x ∷ xs) = omega (arith, ints, plain xs, same_by (times (v x.weight) (n 1)) (v x.weight) (omega arith))

  pub same_cover_count : (t : ℕ) → cover_count g k t ≡ cover_count g other t
  same_cover_count t = cover k ∙ (same_sums (λ p. cond (covers g p t) (pos 1) (pos 0)) k other same ∙ sym (cover other))
    where
      each : (w : ℤ) (b : Bool) → cond b w (pos 0) ≡ w *ℤ cond b (pos 1) (pos 0)
      each w true = same_by (v w) (times (v w) (n 1)) (omega arith)
      each w false = same_by (n 0) (times (v w) (n 0)) (omega arith)

      cover : (k : List Ticket) → cover_count g k t ≡ total (λ (x : Ticket). x.weight *ℤ cond (covers g x.play.code t) (pos 1) (pos 0)) k
      cover k = λ i. total (λ (x : Ticket). each x.weight (covers g x.play.code t) i) k

  pub same_sum_d : (l a : ℕ) → sum_d g k l a ≡ sum_d g other l a
  same_sum_d l a = same_sums (λ p. pay_d g l p a) k other same

  pub same_sum_a : (l a : ℕ) → sum_a g k l a ≡ sum_a g other l a
  same_sum_a l a = same_sums (λ p. pay_a g l p a) k other same

  pub same_take : (l : ℕ) → take_of g k l ≡ take_of g other l
  same_take l =
      let all : List ℕ = numbers (action_count g l) in
      λ i. greatest (map (λ a. same_sum_d l a i) (filter (λ a. list_all (λ b. int_le (same_sum_a l b i) (same_sum_a l a i)) all) all))

  pub same_worth : worth g k ≡ worth g other
  same_worth = λ i. total (λ l. (attacker g l).prior *ℤ same_take l i) (numbers (length g.types))

  pub same_value : (num den : ℤ) → IsValue g k num den → IsValue g other num den
  same_value num den is = record {
    positive = is.positive;
    same =
        ap (λ (z : ℤ). z *ℤ den) (sym same_worth) ∙ (is.same ∙ ap (λ (z : ℤ). (num *ℤ z) *ℤ prior_total g) same_weight_total);
  }

  pub same_optimal : IsOptimal g k → IsOptimal g other
  same_optimal best = λ rival is_rival.
      subst (λ (w : ℤ). (worth g rival *ℤ weight_total other) ≤ℤ (w *ℤ weight_total rival)) same_worth
      (subst (λ (d : ℤ). (worth g rival *ℤ d) ≤ℤ (worth g k *ℤ weight_total rival)) same_weight_total (best rival is_rival))

pub mix-permuted : (k other : List Ticket) → IsPermutation k other → AreOneMix k other
mix-permuted k other h = λ play. sym (total-IsPermutation (λ (x : Ticket). cond (bytes_eq x.play.code play) x.weight (pos 0)) k other h)

pub mix-joined : (x y : Ticket) (k : List Ticket) → x.play.code ≡ y.play.code → AreOneMix (x ∷ y ∷ k) (record x { weight = x.weight +ℤ y.weight } ∷ k)
mix-joined x y k e = λ play.
    let w : ℤ = weight_on k play in
    let step : (b : Bool) → (cond b x.weight (pos 0) +ℤ (cond b y.weight (pos 0) +ℤ w)) ≡ (cond b (x.weight +ℤ y.weight) (pos 0) +ℤ w) =
    λ b. elim b as (λ b. (cond b x.weight (pos 0) +ℤ (cond b y.weight (pos 0) +ℤ w)) ≡ (cond b (x.weight +ℤ y.weight) (pos 0) +ℤ w)) [ true ↦ omega (arith, ints) | false ↦ omega (arith, ints) ] in
    ap (λ (p : List ℕ). cond (bytes_eq x.play.code play) x.weight (pos 0) +ℤ (cond (bytes_eq p play) y.weight (pos 0) +ℤ w)) (sym e) ∙ step (bytes_eq x.play.code play)
