-- The bound of a level is an upper bound of every commitment's value.
use Rattle.std.proofs.Common.{◌≡◌, ℕ, ◌≤◌, true, false, cond, List, [], ◌∷◌, map, length, ℤ, pos, ◌+ℤ◌, ◌-ℤ◌, ◌*ℤ◌, ◌≤ℤ◌, sym, ◌∙◌, ap, subst, refl, arith}
use Rattle.std.specs.List.{All}
use Rattle.std.specs.Prelude.{int_le, int_div}
use Rattle.std.proofs.lemmas.Int.{ints}
use Rattle.sg_model.specs.declared.ticket.Ticket.{Ticket}
use Rattle.sg_model.specs.declared.level.Level.{Level}
use Rattle.sg_model.specs.Commitments.{cover_count, sum_a, sum_d, take_of, weight_total, worth}
use Rattle.sg_model.specs.Games.{Attacker, Game, is_matrix, Payoff, action_count, attacker, nobody, payoff, prior_total}
use Rattle.sg_model.specs.Optimality.{IsUpperBound}
use Rattle.sg_model.specs.Origami.{IsOrigami, IsWater, at_level, gap, share, water_bound}
use Rattle.sg_model.specs.Plays.{covers, pay_d}
use Rattle.sg_model.specs.Sums.{nth, numbers, total}
use Rattle.sg_model.proofs.Forms.{no_matrix}
use Rattle.sg_model.proofs.Ints.{v, n, plus, less, times, same_by, le_by, le_from, mul-le, product_nonneg, cancel-le, factor_positive}
use Rattle.sg_model.proofs.Sums.{total-same}
use Rattle.sg_model.proofs.Numbers.{All-numbers-at}
use Rattle.sg_model.proofs.Covers.{cover_count-bounds, weight_total-positive, total-covered}
use Rattle.sg_model.proofs.Best.{take_of-reached, passes_have, greatest-bounds, All-from_map}
use Rattle.sg_model.proofs.Levels.{level_reached, sum_a_is, multiple_is}

pub sum_d_is : (g : Game) → is_matrix g ≡ false → (k : List Ticket) (t : ℕ)
    → sum_d g k 1 t ≡ ((payoff g 1 t).du *ℤ weight_total k) +ℤ (((payoff g 1 t).dc -ℤ (payoff g 1 t).du) *ℤ cover_count g k t)
sum_d_is g s k t =
    let du : ℤ = (payoff g 1 t).du in let dc : ℤ = (payoff g 1 t).dc in
    let a = total-same (λ (x : Ticket). x.weight *ℤ pay_d g 1 x.play.code t) (λ (x : Ticket). x.weight *ℤ cond (covers g x.play.code t) dc du) k (λ i d lt. rw s refl) in
    a ∙ total-covered g k t dc du

-- what an attacked target may be covered
room : (au gap d c den num s : ℤ) → s ≡ (au *ℤ d) -ℤ (gap *ℤ c) → (num *ℤ d) ≤ℤ (s *ℤ den) → (gap *ℤ (c *ℤ den)) ≤ℤ (((au *ℤ den) -ℤ num) *ℤ d)
room au gap d c den num s e h =
    let q = subst (λ (s : ℤ). (num *ℤ d) ≤ℤ (s *ℤ den)) e h in
    let a = v au in let g = v gap in let x = v d in let y = v c in let z = v den in let w = v num in
    le_by (times g (times y z)) (times (less (times a z) w) x) (omega (arith, le_from (times w x) (times (less (times a x) (times g y)) z) q))

room_nonneg : (gap c den e d : ℤ) → pos 0 ≤ℤ gap → pos 0 ≤ℤ c → pos 0 ≤ℤ den → pos 1 ≤ℤ d → (gap *ℤ (c *ℤ den)) ≤ℤ (e *ℤ d) → pos 0 ≤ℤ e
room_nonneg gap c den e d a b f g h =
    let q = product_nonneg gap (c *ℤ den) a (product_nonneg c den b f) in
    let r : (pos 0 *ℤ d) ≤ℤ (e *ℤ d) = omega (arith, ints, q, h) in
    cancel-le (pos 0) e d r g

-- in whole numbers: what the defender gets at a target is at most the target's part of the bound
at_target : (du q gap c den m scale e d : ℤ) → m *ℤ gap ≡ scale → pos 0 ≤ℤ m → pos 0 ≤ℤ q → (gap *ℤ (c *ℤ den)) ≤ℤ (e *ℤ d)
    → (((du *ℤ d) +ℤ (q *ℤ c)) *ℤ (den *ℤ scale)) ≤ℤ (((du *ℤ (den *ℤ scale)) +ℤ (q *ℤ (m *ℤ e))) *ℤ d)
at_target du q gap c den m scale e d is_m m_nonneg q_nonneg h =
    let cd : ℤ = c *ℤ den in
    let ds : ℤ = den *ℤ scale in
    let a = mul-le (gap *ℤ cd) (e *ℤ d) (m *ℤ q) h (product_nonneg m q m_nonneg q_nonneg) in
    let b : (gap *ℤ cd) *ℤ (m *ℤ q) ≡ ((m *ℤ gap) *ℤ (q *ℤ cd)) = same_by (times (times (v gap) (v cd)) (times (v m) (v q))) (times (times (v m) (v gap)) (times (v q) (v cd))) (omega arith) in
    let f : (m *ℤ gap) *ℤ (q *ℤ cd) ≡ scale *ℤ (q *ℤ cd) = ap (λ (z : ℤ). z *ℤ (q *ℤ cd)) is_m in
    let g : scale *ℤ (q *ℤ cd) ≡ (q *ℤ c) *ℤ ds = same_by (times (v scale) (times (v q) (times (v c) (v den)))) (times (times (v q) (v c)) (times (v den) (v scale))) (omega arith) in
    let i : (e *ℤ d) *ℤ (m *ℤ q) ≡ (q *ℤ (m *ℤ e)) *ℤ d = same_by (times (times (v e) (v d)) (times (v m) (v q))) (times (times (v q) (times (v m) (v e))) (v d)) (omega arith) in
    let j : ((q *ℤ c) *ℤ ds) ≤ℤ ((q *ℤ (m *ℤ e)) *ℤ d) = omega (arith, ints, a, b, f, g, i) in
    let qc = v (q *ℤ c) in let qme = v (q *ℤ (m *ℤ e)) in
    le_by (times (plus (times (v du) (v d)) qc) (v ds)) (times (plus (times (v du) (v ds)) qme) (v d)) (omega (arith, le_from (times qc (v ds)) (times qme (v d)) j))

one_item : (xs : List Attacker) → length xs ≡ 1 → xs ≡ nth xs 1 nobody ∷ []
one_item [] h = absurd (omega (arith, h))
one_item (x ∷ []) h = refl
one_item (x ∷ y ∷ ys) h = absurd (omega (arith, h))

pub worth_is : (g : Game) → IsOrigami g → (k : List Ticket) → worth g k ≡ take_of g k 1
worth_is g o k =
    let f = λ (l : ℕ). (attacker g l).prior *ℤ take_of g k l in
    let a : worth g k ≡ total f (numbers 1) = ap (λ (m : ℕ). total f (numbers m)) o.one_type in
    a ∙ (ap (λ (z : ℤ). (z *ℤ take_of g k 1) +ℤ pos 0) o.prior_one ∙ same_by (plus (times (n 1) (v (take_of g k 1))) (n 0)) (v (take_of g k 1)) (omega arith))

pub prior_is : (g : Game) → IsOrigami g → prior_total g ≡ pos 1
prior_is g o =
    let a : prior_total g ≡ (attacker g 1).prior +ℤ pos 0 = ap (total (λ (x : Attacker). x.prior)) (one_item g.types o.one_type) in
    omega (arith, ints, a, o.prior_one)

pub water_bounds : (g : Game) → IsOrigami g → (num den : ℤ) (why : Level) → IsWater g num den why → IsUpperBound g (water_bound g num den) (den *ℤ g.scale)
water_bounds g o num den why w =
    let den_nonneg : pos 0 ≤ℤ den = omega (arith, ints, w.positive) in
    record {
      positive = le_by (n 1) (times (v den) (v g.scale)) (omega (arith, le_from (times (n 1) (v g.scale)) (times (v den) (v g.scale)) (mul-le (pos 1) den g.scale w.positive (omega (arith, ints, o.scaled))), le_from (n 1) (v g.scale) o.scaled));
      bounds = λ k is_k.
          let d : ℤ = weight_total k in
          let d_positive = weight_total-positive k is_k.some is_k.positive in
          let reached = level_reached g o num den why w k is_k in
          let actions : action_count g 1 ≡ length g.goals = rw (no_matrix g o.security) refl in
          let takes = take_of-reached g k 1 (omega (arith, actions, reached.1.from_one, reached.1.in_range)) in
          let t : ℕ = takes.0 in
          let p : Payoff = payoff g 1 t in
          let in_range : t ≤ length g.goals = omega (arith, actions, takes.1.in_range) in
          let scaled = o.targets t takes.1.from_one in_range in
          let better = mul-le (sum_a g k 1 reached.0) (sum_a g k 1 t) den (takes.1.best reached.0 reached.1.from_one (omega (arith, actions, reached.1.in_range))) den_nonneg in
          let enough : (num *ℤ d) ≤ℤ (sum_a g k 1 t *ℤ den) = omega (arith, ints, better, reached.1.enough) in
          let count : ℤ = cover_count g k t in
          let e : ℤ = (p.au *ℤ den) -ℤ num in
          let m : ℤ = int_div g.scale (gap p) in
          let is_m = multiple_is g t scaled in
          let gap_nonneg : pos 0 ≤ℤ gap p = omega (arith, ints, scaled.attacker_loses) in
          let m_positive = factor_positive m (gap p) g.scale is_m o.scaled gap_nonneg in
          let r = room p.au (gap p) d count den num (sum_a g k 1 t) (sum_a_is g (no_matrix g o.security) k t) enough in
          let high : pos 0 ≤ℤ e = room_nonneg (gap p) count den e d gap_nonneg (cover_count-bounds g k t is_k.positive).0 den_nonneg d_positive r in
          let here = at_target p.du (p.dc -ℤ p.du) (gap p) count den m g.scale e d is_m (omega (arith, ints, m_positive)) (omega (arith, ints, scaled.defender_gains)) r in
          let f = λ (t : ℕ). (payoff g 1 t).du *ℤ (den *ℤ g.scale) +ℤ ((payoff g 1 t).dc -ℤ (payoff g 1 t).du) *ℤ share g num den t in
          let test = λ (t : ℕ). int_le num ((payoff g 1 t).au *ℤ den) in
          let below : All (λ t. f t ≤ℤ water_bound g num den) (at_level g num den) = All-from_map f (λ z. z ≤ℤ water_bound g num den) (at_level g num den) (greatest-bounds (map f (at_level g num den))) in
          let part : f t ≤ℤ water_bound g num den = All-numbers-at (λ t. test t ≡ true → f t ≤ℤ water_bound g num den) (length g.goals) (passes_have test (λ t. f t ≤ℤ water_bound g num den) (numbers (length g.goals)) below) t takes.1.from_one in_range (sym (omega (arith, ints, high))) in
          let times_d = mul-le (f t) (water_bound g num den) d part (omega (arith, ints, d_positive)) in
          let is_worth : worth g k ≡ (p.du *ℤ d) +ℤ ((p.dc -ℤ p.du) *ℤ count) = worth_is g o k ∙ (takes.1.gives ∙ sum_d_is g (no_matrix g o.security) k t) in
          let left : (worth g k *ℤ (den *ℤ g.scale)) ≤ℤ (water_bound g num den *ℤ d) = subst (λ (z : ℤ). (z *ℤ (den *ℤ g.scale)) ≤ℤ (water_bound g num den *ℤ d)) (sym is_worth) (omega (arith, ints, here, times_d)) in
          subst (λ (z : ℤ). (worth g k *ℤ (den *ℤ g.scale)) ≤ℤ ((water_bound g num den *ℤ d) *ℤ z)) (sym (prior_is g o)) (omega (arith, ints, left, same_by (times (v (water_bound g num den *ℤ d)) (n 1)) (v (water_bound g num den *ℤ d)) (omega arith)));
    }
