-- A fact about all legal plays, summed with the weights of a commitment of its region.
use Rattle.std.proofs.Common.{◌≡◌, ℕ, Bool, true, false, List, [], ◌∷◌, ℤ, pos, ◌+ℤ◌, ◌-ℤ◌, ◌*ℤ◌, ◌≤ℤ◌, sym, ◌∙◌, ap, refl, arith, slice_index_or, IsTrue}
use Rattle.std.specs.List.{All}
use Rattle.std.specs.Prelude.{int_le}
use Rattle.std.proofs.lemmas.Int.{ints}
use Rattle.std.proofs.lemmas.List.Elements.{All-head, All-tail}
use Rattle.std.proofs.lemmas.List.Sums.{AllPass-from_list_all}
use Rattle.sg_model.specs.Payoffs.{shift_of}
use Rattle.sg_model.specs.Sums.{total, numbers}
use Rattle.sg_model.specs.Games.{Game, attacker, action_count}
use Rattle.sg_model.specs.Plays.{pay_d, pay_a}
use Rattle.sg_model.specs.declared.ticket.Ticket.{Ticket}
use Rattle.sg_model.specs.Commitments.{IsCommitment, weight_total, sum_a, sum_d, is_best}
use Rattle.sg_tree.specs.declared.fix.Fix.{Fix}
use Rattle.sg_tree.specs.declared.fact.Mark.{Mark}
use Rattle.sg_bounds.specs.Regions.{fixed, act_of, IsInRegion}
use Rattle.sg_bounds.specs.Facts.{IsPlaysFact, cost, regret, IsMarkOf}
use Rattle.sg_model.proofs.Ints.{v, n, plus, less, times, same_by, mul-le, product_nonneg}
use Rattle.sg_model.proofs.Sums.{total-le, total-same, total-scaled, total-exchange}
use Rattle.sg_model.proofs.Numbers.{All-numbers-at}

-- a sum with weights, of a sum over a list
weighted : {X Y : Type 0} (w : X → ℤ) (f : X → Y → ℤ) (xs : List X) (ys : List Y) → total (λ x. w x *ℤ total (f x) ys) xs ≡ total (λ y. total (λ x. w x *ℤ f x y) xs) ys
weighted w f xs ys =
    total-same (λ x. w x *ℤ total (f x) ys) (λ x. total (λ y. w x *ℤ f x y) ys) xs (λ i d lt. sym (total-scaled (f (slice_index_or xs i d)) (w (slice_index_or xs i d)) ys)) ∙ total-exchange (λ x y. w x *ℤ f x y) xs ys

-- one type's part of the cost
cost_part : (p shift : ℤ) (k : List Ticket) (f : Ticket → ℤ)
    → total (λ (x : Ticket). x.weight *ℤ (p *ℤ (f x +ℤ shift))) k ≡ p *ℤ (total (λ (x : Ticket). x.weight *ℤ f x) k +ℤ (shift *ℤ weight_total k))
cost_part p shift [] f = same_by (n 0) (times (v p) (plus (n 0) (times (v shift) (n 0)))) (omega arith)
cost_part p shift (x ∷ xs) f =
    let s : ℤ = total (λ (x : Ticket). x.weight *ℤ f x) xs in let d : ℤ = weight_total xs in
    let w = v x.weight in let q = v p in let h = v shift in let y = v (f x) in
    ap (λ (z : ℤ). (x.weight *ℤ (p *ℤ (f x +ℤ shift))) +ℤ z) (cost_part p shift xs f)
    ∙ same_by (plus (times w (times q (plus y h))) (times q (plus (v s) (times h (v d))))) (times q (plus (plus (times w y) (v s)) (times h (plus w (v d))))) (omega arith)

mark_part : (m : ℤ) (k : List Ticket) (f h : Ticket → ℤ)
    → total (λ (x : Ticket). x.weight *ℤ (m *ℤ (f x -ℤ h x))) k ≡ m *ℤ (total (λ (x : Ticket). x.weight *ℤ f x) k -ℤ total (λ (x : Ticket). x.weight *ℤ h x) k)
mark_part m [] f h = same_by (n 0) (times (v m) (less (n 0) (n 0))) (omega arith)
mark_part m (x ∷ xs) f h =
    let s : ℤ = total (λ (x : Ticket). x.weight *ℤ f x) xs in let t : ℤ = total (λ (x : Ticket). x.weight *ℤ h x) xs in
    let w = v x.weight in let q = v m in let y = v (f x) in let z = v (h x) in
    ap (λ (z : ℤ). (x.weight *ℤ (m *ℤ (f x -ℤ h x))) +ℤ z) (mark_part m xs f h)
    ∙ same_by (plus (times w (times q (less y z))) (times q (less (v s) (v t)))) (times q (less (plus (times w y) (v s)) (plus (times w z) (v t)))) (omega arith)

-- in the region no mark gains
no_gain : (g : Game) (fix : Fix) (k : List Ticket) → IsInRegion g fix k → (marks : List Mark) → All (IsMarkOf g fix) marks
    → total (λ (m : Mark). total (λ (x : Ticket). x.weight *ℤ (m.v *ℤ (pay_a g m.l x.play.code m.a -ℤ pay_a g m.l x.play.code (act_of fix m.l)))) k) marks ≤ℤ pos 0
no_gain g fix k region [] all = omega (arith, ints)
no_gain g fix k region (m ∷ ms) all =
    let here = All-head (IsMarkOf g fix) m ms all in
    let rest = no_gain g fix k region ms (All-tail (IsMarkOf g fix) m ms all) in
    let chosen : ℕ = act_of fix m.l in
    let best : is_best g k m.l chosen ≡ true = is_true _ (region m.l here.from_first here.in_range) in
    let test : int_le (sum_a g k m.l m.a) (sum_a g k m.l chosen) ≡ true =
    All-numbers-at (λ b. int_le (sum_a g k m.l b) (sum_a g k m.l chosen) ≡ true) (action_count g m.l) (AllPass-from_list_all (λ b. int_le (sum_a g k m.l b) (sum_a g k m.l chosen)) (numbers (action_count g m.l)) best) m.a here.from_one here.action in
    let loss : pos 0 ≤ℤ (sum_a g k m.l chosen -ℤ sum_a g k m.l m.a) = omega (arith, ints, test) in
    let q = product_nonneg m.v (sum_a g k m.l chosen -ℤ sum_a g k m.l m.a) (omega (arith, ints, here.positive)) loss in
    let part = mark_part m.v k (λ (x : Ticket). pay_a g m.l x.play.code m.a) (λ (x : Ticket). pay_a g m.l x.play.code chosen) in
    let turn : (m.v *ℤ (sum_a g k m.l m.a -ℤ sum_a g k m.l chosen)) +ℤ (m.v *ℤ (sum_a g k m.l chosen -ℤ sum_a g k m.l m.a)) ≡ pos 0 =
    let y = v (sum_a g k m.l m.a) in let z = v (sum_a g k m.l chosen) in
    same_by (plus (times (v m.v) (less y z)) (times (v m.v) (less z y))) (n 0) (omega arith) in
    omega (arith, ints, part, q, turn, rest)
  where
    is_true : (b : Bool) → IsTrue b → b ≡ true
    is_true true h = refl
    is_true false h = h

split_part : (rho : ℤ) (k : List Ticket) (c r : Ticket → ℤ)
    → total (λ (x : Ticket). x.weight *ℤ ((rho *ℤ c x) -ℤ r x)) k ≡ (rho *ℤ total (λ (x : Ticket). x.weight *ℤ c x) k) -ℤ total (λ (x : Ticket). x.weight *ℤ r x) k
split_part rho [] c r = same_by (n 0) (less (times (v rho) (n 0)) (n 0)) (omega arith)
split_part rho (x ∷ xs) c r =
    let s : ℤ = total (λ (x : Ticket). x.weight *ℤ c x) xs in let t : ℤ = total (λ (x : Ticket). x.weight *ℤ r x) xs in
    let w = v x.weight in let q = v rho in let y = v (c x) in let z = v (r x) in
    ap (λ (b : ℤ). (x.weight *ℤ ((rho *ℤ c x) -ℤ r x)) +ℤ b) (split_part rho xs c r)
    ∙ same_by (plus (times w (less (times q y) z)) (less (times q (v s)) (v t))) (less (times q (plus (times w y) (v s))) (plus (times w z) (v t))) (omega arith)

pub fact_bounds : (g : Game) (fix : Fix) (rho mu : ℤ) (marks : List Mark) → IsPlaysFact g fix rho mu marks
    → (k : List Ticket) → IsCommitment g k → IsInRegion g fix k
    → (rho *ℤ total (λ (p : ℕ × ℕ). (attacker g p.0).prior *ℤ (sum_d g k p.0 p.1 +ℤ (shift_of g *ℤ weight_total k))) (fixed fix)) ≤ℤ (mu *ℤ weight_total k)
fact_bounds g fix rho mu marks fact k is_k region =
    let w = λ (x : Ticket). x.weight in
    let d : ℤ = weight_total k in
    let c = λ (x : Ticket). cost g fix x.play.code in
    let r = λ (x : Ticket). regret g fix marks x.play.code in
    let each : All (λ (x : Ticket). (w x *ℤ ((rho *ℤ c x) -ℤ r x)) ≤ℤ (mu *ℤ w x)) k =
    λ i x lt.
    let t : Ticket = slice_index_or k i x in
    let q = mul-le ((rho *ℤ c t) -ℤ r t) mu (w t) (fact.each t.play.code (is_k.legal i x lt)) (omega (arith, ints, is_k.positive i x lt)) in
    let e : ((rho *ℤ c t) -ℤ r t) *ℤ w t ≡ w t *ℤ ((rho *ℤ c t) -ℤ r t) = same_by (times (v ((rho *ℤ c t) -ℤ r t)) (v (w t))) (times (v (w t)) (v ((rho *ℤ c t) -ℤ r t))) (omega arith) in
    omega (arith, ints, q, e) in
    let a = total-le (λ (x : Ticket). w x *ℤ ((rho *ℤ c x) -ℤ r x)) (λ (x : Ticket). mu *ℤ w x) k each in
    let b = total-scaled w mu k in
    let e = split_part rho k c r in
    let part = λ (x : Ticket) (p : ℕ × ℕ). (attacker g p.0).prior *ℤ (pay_d g p.0 x.play.code p.1 +ℤ shift_of g) in
    let sums = λ (p : ℕ × ℕ). (attacker g p.0).prior *ℤ (sum_d g k p.0 p.1 +ℤ (shift_of g *ℤ d)) in
    let costs : total (λ (x : Ticket). w x *ℤ c x) k ≡ total sums (fixed fix) =
    weighted w part k (fixed fix)
    ∙ total-same (λ (p : ℕ × ℕ). total (λ (x : Ticket). w x *ℤ part x p) k) sums (fixed fix)
    (λ i y lt. let p : ℕ × ℕ = slice_index_or (fixed fix) i y in cost_part (attacker g p.0).prior (shift_of g) k (λ (x : Ticket). pay_d g p.0 x.play.code p.1)) in
    let regrets = weighted w (λ (x : Ticket) (m : Mark). m.v *ℤ (pay_a g m.l x.play.code m.a -ℤ pay_a g m.l x.play.code (act_of fix m.l))) k marks in
    let none = no_gain g fix k region marks fact.marks_of in
    let scaled : rho *ℤ total (λ (x : Ticket). w x *ℤ c x) k ≡ rho *ℤ total sums (fixed fix) = ap (λ (z : ℤ). rho *ℤ z) costs in
    omega (arith, ints, a, b, e, scaled, regrets, none)
