-- Tickets that cover each target of a level in its share.
use Rattle.std.proofs.Common.{◌≡◌, ℕ, ◌≤◌, Bool, true, false, cond, List, map, length, ℤ, pos, ◌+ℤ◌, ◌-ℤ◌, ◌*ℤ◌, ◌≤ℤ◌, ◌<ℤ◌, sym, ◌∙◌, ap, refl, arith, ◌≢◌, []}
use Rattle.std.specs.Prelude.{int_le, int_div}
use Rattle.std.proofs.lemmas.Int.{ints, by_lt_z}
use Rattle.std.proofs.lemmas.List.Elements.{All-contains}
use Rattle.sg_model.specs.declared.ticket.Ticket.{Ticket}
use Rattle.sg_model.specs.declared.level.Level.{Level}
use Rattle.sg_model.specs.Commitments.{IsCommitment, IsValue, cover_count, is_best, sum_a, sum_d, take_of, weight_total, worth}
use Rattle.sg_model.specs.Games.{Game, payoff, action_count, prior_total}
use Rattle.sg_model.specs.Optimality.{IsOptimal}
use Rattle.sg_model.specs.Origami.{IsOrigami, IsWater, AreLevelTickets, at_level, gap, share, water_bound}
use Rattle.sg_model.specs.Sums.{numbers}
use Rattle.sg_model.proofs.Forms.{no_matrix}
use Rattle.sg_model.proofs.Ints.{v, n, plus, less, times, same_by, same_from, mul-le, mul-lt, cancel-le, cancel}
use Rattle.sg_model.proofs.Covers.{weight_total-positive}
use Rattle.sg_model.proofs.Levels.{sum_a_is, multiple_is, level_reached, IsAtLevel, at_level_each}
use Rattle.sg_model.proofs.Best.{is_best-from, is_best-not, take_of-bounds, from_map, greatest-reached, filter_none}
use Rattle.sg_model.proofs.Bound.{sum_d_is, worth_is, prior_is, water_bounds}
use Rattle.sg_model.proofs.Optimal.{optimal_at_bound}
use Rattle.sg_model.proofs.Numbers.{All-numbers-at, map-none}

-- a target of the level pays the attacker the level
level_case : (au gap d c den num s m scale : ℤ) → pos 1 ≤ℤ scale → m *ℤ gap ≡ scale → s ≡ (au *ℤ d) -ℤ (gap *ℤ c)
    → c *ℤ (den *ℤ scale) ≡ (m *ℤ ((au *ℤ den) -ℤ num)) *ℤ d → s *ℤ den ≡ num *ℤ d
level_case au gap d c den num s m scale h is_m is_s covered =
    let e : ℤ = (au *ℤ den) -ℤ num in
    let x : ℤ = gap *ℤ c in
    let a : (x *ℤ den) *ℤ scale ≡ gap *ℤ (c *ℤ (den *ℤ scale)) = same_by (times (times (times (v gap) (v c)) (v den)) (v scale)) (times (v gap) (times (v c) (times (v den) (v scale)))) (omega arith) in
    let b : gap *ℤ (c *ℤ (den *ℤ scale)) ≡ gap *ℤ ((m *ℤ e) *ℤ d) = ap (λ (z : ℤ). gap *ℤ z) covered in
    let f : gap *ℤ ((m *ℤ e) *ℤ d) ≡ (m *ℤ gap) *ℤ (e *ℤ d) = same_by (times (v gap) (times (times (v m) (v e)) (v d))) (times (times (v m) (v gap)) (times (v e) (v d))) (omega arith) in
    let i : (m *ℤ gap) *ℤ (e *ℤ d) ≡ scale *ℤ (e *ℤ d) = ap (λ (z : ℤ). z *ℤ (e *ℤ d)) is_m in
    let j : (x *ℤ den) ≡ (e *ℤ d) = cancel (x *ℤ den) (e *ℤ d) scale (omega (arith, ints, a, b, f, i)) h in
    let lhs : s *ℤ den ≡ ((au *ℤ d) -ℤ x) *ℤ den = ap (λ (z : ℤ). z *ℤ den) is_s in
    lhs ∙ same_by (times (less (times (v au) (v d)) (v x)) (v den)) (times (v num) (v d))
    (omega (arith, same_from (times (v x) (v den)) (times (less (times (v au) (v den)) (v num)) (v d)) j))

-- a target that isn't of the level pays it less
outside_case : (au gap d c den num s scale : ℤ) → pos 1 ≤ℤ den → pos 1 ≤ℤ d → pos 1 ≤ℤ (den *ℤ scale) → s ≡ (au *ℤ d) -ℤ (gap *ℤ c)
    → c *ℤ (den *ℤ scale) ≡ pos 0 *ℤ d → (au *ℤ den) <ℤ num → (s *ℤ den) <ℤ (num *ℤ d)
outside_case au gap d c den num s scale den_positive d_positive h is_s covered low =
    let none : c ≡ pos 0 = cancel c (pos 0) (den *ℤ scale) (covered ∙ same_by (times (n 0) (v d)) (times (n 0) (v (den *ℤ scale))) (omega arith)) h in
    let is_au : s ≡ au *ℤ d = is_s ∙ (ap (λ (z : ℤ). (au *ℤ d) -ℤ (gap *ℤ z)) none ∙ same_by (less (times (v au) (v d)) (times (v gap) (n 0))) (times (v au) (v d)) (omega arith)) in
    let a : s *ℤ den ≡ (au *ℤ den) *ℤ d = ap (λ (z : ℤ). z *ℤ den) is_au ∙ same_by (times (times (v au) (v d)) (v den)) (times (times (v au) (v den)) (v d)) (omega arith) in
    omega (arith, ints, a, mul-lt (au *ℤ den) num d low d_positive)

-- what the defender gets at a target covered in its share
at_share : (du q c ds share d : ℤ) → c *ℤ ds ≡ share *ℤ d → ((du *ℤ d) +ℤ (q *ℤ c)) *ℤ ds ≡ ((du *ℤ ds) +ℤ (q *ℤ share)) *ℤ d
at_share du q c ds share d covered =
    let a : ((du *ℤ d) +ℤ (q *ℤ c)) *ℤ ds ≡ ((du *ℤ d) *ℤ ds) +ℤ (q *ℤ (c *ℤ ds)) = same_by (times (plus (times (v du) (v d)) (times (v q) (v c))) (v ds)) (plus (times (times (v du) (v d)) (v ds)) (times (v q) (times (v c) (v ds)))) (omega arith) in
    let b : ((du *ℤ d) *ℤ ds) +ℤ (q *ℤ (c *ℤ ds)) ≡ ((du *ℤ d) *ℤ ds) +ℤ (q *ℤ (share *ℤ d)) = ap (λ (z : ℤ). ((du *ℤ d) *ℤ ds) +ℤ (q *ℤ z)) covered in
    a ∙ (b ∙ same_by (plus (times (times (v du) (v d)) (v ds)) (times (v q) (times (v share) (v d)))) (times (plus (times (v du) (v ds)) (times (v q) (v share))) (v d)) (omega arith))

cond_when : (b : Bool) (x y : ℤ) → b ≡ true → cond b x y ≡ x
cond_when b x y e = ap (λ (b : Bool). cond b x y) e

cond_unless : (b : Bool) (x y : ℤ) → b ≡ false → cond b x y ≡ y
cond_unless b x y e = ap (λ (b : Bool). cond b x y) e

module _ (g : Game) (o : IsOrigami g) (num den : ℤ) (positive : pos 1 ≤ℤ den) (k : List Ticket) (is_k : IsCommitment g k) (tickets : AreLevelTickets g num den k) where
  parts_positive : pos 1 ≤ℤ (den *ℤ g.scale)
  parts_positive = omega (arith, ints, o.scaled, mul-le (pos 1) den g.scale positive (omega (arith, ints, o.scaled)))

  total_positive : pos 1 ≤ℤ weight_total k
  total_positive = weight_total-positive k is_k.some is_k.positive

  -- each target of the level pays the attacker the level
  pub level-paid : (t : ℕ) → 1 ≤ t → t ≤ length g.goals → num ≤ℤ ((payoff g 1 t).au *ℤ den) → (sum_a g k 1 t *ℤ den) ≡ (num *ℤ weight_total k)
  level-paid t low high at =
      let scaled = o.targets t low high in
      let test : int_le num ((payoff g 1 t).au *ℤ den) ≡ true = sym (omega (arith, ints, at)) in
      level_case (payoff g 1 t).au (gap (payoff g 1 t)) (weight_total k) (cover_count g k t) den num (sum_a g k 1 t) (int_div g.scale (gap (payoff g 1 t))) g.scale
      o.scaled (multiple_is g t scaled) (sum_a_is g (no_matrix g o.security) k t)
      (tickets t low high ∙ ap (λ (z : ℤ). z *ℤ weight_total k) (cond_when (int_le num ((payoff g 1 t).au *ℤ den)) (share g num den t) (pos 0) test))

  -- each other target pays it less
  pub outside-paid : (t : ℕ) → 1 ≤ t → t ≤ length g.goals → ((payoff g 1 t).au *ℤ den) <ℤ num → (sum_a g k 1 t *ℤ den) <ℤ (num *ℤ weight_total k)
  outside-paid t low high below =
      let test : int_le num ((payoff g 1 t).au *ℤ den) ≡ false = sym (omega (arith, ints, below)) in
      outside_case (payoff g 1 t).au (gap (payoff g 1 t)) (weight_total k) (cover_count g k t) den num (sum_a g k 1 t) g.scale positive total_positive parts_positive
      (sum_a_is g (no_matrix g o.security) k t)
      (tickets t low high ∙ ap (λ (z : ℤ). z *ℤ weight_total k) (cond_unless (int_le num ((payoff g 1 t).au *ℤ den)) (share g num den t) (pos 0) test)) below

  -- no target pays the attacker more than the level
  pub all-paid : (t : ℕ) → 1 ≤ t → t ≤ length g.goals → (sum_a g k 1 t *ℤ den) ≤ℤ (num *ℤ weight_total k)
  all-paid t low high = by_lt_z ((payoff g 1 t).au *ℤ den) num (λ lt. omega (arith, ints, outside-paid t low high lt)) (λ le. omega (arith, ints, level-paid t low high le))

  -- what the defender gets at a target of the level is the target's part of the bound
  pub level-gives : (t : ℕ) → 1 ≤ t → t ≤ length g.goals → num ≤ℤ ((payoff g 1 t).au *ℤ den)
      → (sum_d g k 1 t *ℤ (den *ℤ g.scale)) ≡ (((payoff g 1 t).du *ℤ (den *ℤ g.scale)) +ℤ (((payoff g 1 t).dc -ℤ (payoff g 1 t).du) *ℤ share g num den t)) *ℤ weight_total k
  level-gives t low high at =
      let test : int_le num ((payoff g 1 t).au *ℤ den) ≡ true = sym (omega (arith, ints, at)) in
      ap (λ (z : ℤ). z *ℤ (den *ℤ g.scale)) (sum_d_is g (no_matrix g o.security) k t)
      ∙ at_share (payoff g 1 t).du ((payoff g 1 t).dc -ℤ (payoff g 1 t).du) (cover_count g k t) (den *ℤ g.scale) (share g num den t) (weight_total k)
      (tickets t low high ∙ ap (λ (z : ℤ). z *ℤ weight_total k) (cond_when (int_le num ((payoff g 1 t).au *ℤ den)) (share g num den t) (pos 0) test))

  actions : action_count g 1 ≡ length g.goals
  actions = rw (no_matrix g o.security) refl

  -- a target of the level is a best answer
  level-best : (t : ℕ) → 1 ≤ t → t ≤ length g.goals → num ≤ℤ ((payoff g 1 t).au *ℤ den) → (b : ℕ) → 1 ≤ b → b ≤ action_count g 1 → sum_a g k 1 b ≤ℤ sum_a g k 1 t
  level-best t low high at b from_one in_range =
      cancel-le (sum_a g k 1 b) (sum_a g k 1 t) den (omega (arith, ints, all-paid b from_one (omega (arith, actions, in_range)), level-paid t low high at)) positive

  -- the part that a target of the level has in the bound, within what the defender gets
  part_of : ℕ → ℤ
  part_of t = ((payoff g 1 t).du *ℤ (den *ℤ g.scale)) +ℤ (((payoff g 1 t).dc -ℤ (payoff g 1 t).du) *ℤ share g num den t)

  taken : at_level g num den ≢ [] → (water_bound g num den *ℤ weight_total k) ≤ℤ (take_of g k 1 *ℤ (den *ℤ g.scale))
  unfolding part_of
  taken some =
      let chosen : List ℕ = at_level g num den in
      let r = from_map part_of chosen (water_bound g num den) (greatest-reached (map part_of chosen) (λ e. some (map-none part_of chosen e))) in
      let t : ℕ = r.0 in
      let at = All-contains (IsAtLevel g num den) chosen t (at_level_each g num den) r.1 in
      let gives = level-gives t at.from_one at.in_range at.high in
      let best = take_of-bounds g k 1 t at.from_one (omega (arith, actions, at.in_range)) (level-best t at.from_one at.in_range at.high) in
      let more = mul-le (sum_d g k 1 t) (take_of g k 1) (den *ℤ g.scale) best (omega (arith, ints, parts_positive)) in
      let same : part_of t *ℤ weight_total k ≡ water_bound g num den *ℤ weight_total k = ap (λ (z : ℤ). z *ℤ weight_total k) r.2 in
      omega (arith, ints, gives, more, same)

  -- a level that some target pays in any case is at most this one
  pub no_level_above : (a b : ℤ) (reason : Level) → IsWater g a b reason → (a *ℤ den) ≤ℤ (num *ℤ b)
  no_level_above a b reason w =
      let r = level_reached g o a b reason w k is_k in
      let d : ℤ = weight_total k in
      let s : ℤ = sum_a g k 1 r.0 in
      let low = mul-le (a *ℤ d) (s *ℤ b) den r.1.enough (omega (arith, ints, positive)) in
      let high = mul-le (s *ℤ den) (num *ℤ d) b (all-paid r.0 r.1.from_one r.1.in_range) (omega (arith, ints, w.positive)) in
      let e : (a *ℤ d) *ℤ den ≡ (a *ℤ den) *ℤ d = same_by (times (times (v a) (v d)) (v den)) (times (times (v a) (v den)) (v d)) (omega arith) in
      let f : (s *ℤ b) *ℤ den ≡ (s *ℤ den) *ℤ b = same_by (times (times (v s) (v b)) (v den)) (times (times (v s) (v den)) (v b)) (omega arith) in
      let h : (num *ℤ d) *ℤ b ≡ (num *ℤ b) *ℤ d = same_by (times (times (v num) (v d)) (v b)) (times (times (v num) (v b)) (v d)) (omega arith) in
      cancel-le (a *ℤ den) (num *ℤ b) d (omega (arith, ints, low, high, e, f, h)) total_positive

  module _ (why : Level) (w : IsWater g num den why) where
    level-some : at_level g num den ≢ []
    level-some = λ e.
        let r = level_reached g o num den why w k is_k in
        let t : ℕ = r.0 in
        let none : int_le num ((payoff g 1 t).au *ℤ den) ≡ false =
        All-numbers-at (λ t. int_le num ((payoff g 1 t).au *ℤ den) ≡ false) (length g.goals)
        (filter_none (λ t. int_le num ((payoff g 1 t).au *ℤ den)) (numbers (length g.goals)) e) t r.1.from_one r.1.in_range in
        omega (arith, ints, outside-paid t r.1.from_one r.1.in_range (omega (arith, ints, none)), r.1.enough)

    pub tickets-value : IsValue g k (water_bound g num den) (den *ℤ g.scale)
    tickets-value =
        let bound : ℤ = water_bound g num den in
        let d : ℤ = weight_total k in
        let above = (water_bounds g o num den why w).bounds k is_k in
        let one : (bound *ℤ d) *ℤ prior_total g ≡ bound *ℤ d = ap (λ (z : ℤ). (bound *ℤ d) *ℤ z) (prior_is g o) ∙ same_by (times (v (bound *ℤ d)) (n 1)) (v (bound *ℤ d)) (omega arith) in
        let is_take : worth g k *ℤ (den *ℤ g.scale) ≡ take_of g k 1 *ℤ (den *ℤ g.scale) = ap (λ (z : ℤ). z *ℤ (den *ℤ g.scale)) (worth_is g o k) in
        record { positive = parts_positive; same = omega (arith, ints, above, one, is_take, taken level-some) }

    pub tickets-optimal : IsOptimal g k
    tickets-optimal = optimal_at_bound g k is_k (water_bound g num den) (den *ℤ g.scale) (water_bounds g o num den why w) tickets-value.same

    -- the best answers are the targets of the level
    pub best-at-level : (t : ℕ) → 1 ≤ t → t ≤ length g.goals
        → (is_best g k 1 t ≡ int_le num ((payoff g 1 t).au *ℤ den)) × (is_best g k 1 t ≡ true → (sum_a g k 1 t *ℤ den) ≡ (num *ℤ weight_total k))
    best-at-level t low high =
        let test : Bool = int_le num ((payoff g 1 t).au *ℤ den) in
        let inside : num ≤ℤ ((payoff g 1 t).au *ℤ den) → is_best g k 1 t ≡ true = λ le. is_best-from g k 1 t (level-best t low high le) in
        let outside : ((payoff g 1 t).au *ℤ den) <ℤ num → is_best g k 1 t ≡ false =
        λ lt. is_best-not g k 1 t (λ best.
        let r = level_reached g o num den why w k is_k in
        let more = mul-le (sum_a g k 1 r.0) (sum_a g k 1 t) den (best r.0 r.1.from_one (omega (arith, actions, r.1.in_range))) (omega (arith, ints, positive)) in
        omega (arith, ints, outside-paid t low high lt, r.1.enough, more)) in
        let same : is_best g k 1 t ≡ test = by_lt_z ((payoff g 1 t).au *ℤ den) num
        (λ lt. outside lt ∙ omega (arith, ints, lt)) (λ le. inside le ∙ omega (arith, ints, le)) in
        (same, λ yes. level-paid t low high (let q : test ≡ true = sym same ∙ yes in omega (arith, ints, q)))

    -- they leave the attacker the least
    pub minimax : (other : List Ticket) → IsCommitment g other
        → (s : ℕ) × (1 ≤ s) × (s ≤ length g.goals) × ((t : ℕ) → 1 ≤ t → t ≤ length g.goals → (sum_a g k 1 t *ℤ weight_total other) ≤ℤ (sum_a g other 1 s *ℤ weight_total k))
    minimax other is_other =
        let r = level_reached g o num den why w other is_other in (
          r.0,
          r.1.from_one,
          r.1.in_range,
          λ t low high.
              let d : ℤ = weight_total k in let e : ℤ = weight_total other in
              let x : ℤ = sum_a g k 1 t in let y : ℤ = sum_a g other 1 r.0 in
              let d_positive = weight_total-positive k is_k.some is_k.positive in
              let e_positive = weight_total-positive other is_other.some is_other.positive in
              let below = mul-le (x *ℤ den) (num *ℤ d) e (all-paid t low high) (omega (arith, ints, e_positive)) in
              let above = mul-le (num *ℤ e) (y *ℤ den) d r.1.enough (omega (arith, ints, d_positive)) in
              let a : (x *ℤ den) *ℤ e ≡ (x *ℤ e) *ℤ den = same_by (times (times (v x) (v den)) (v e)) (times (times (v x) (v e)) (v den)) (omega arith) in
              let b : (num *ℤ d) *ℤ e ≡ (num *ℤ e) *ℤ d = same_by (times (times (v num) (v d)) (v e)) (times (times (v num) (v e)) (v d)) (omega arith) in
              let f : (y *ℤ den) *ℤ d ≡ (y *ℤ d) *ℤ den = same_by (times (times (v y) (v den)) (v d)) (times (times (v y) (v d)) (v den)) (omega arith) in
              cancel-le (x *ℤ e) (y *ℤ d) den (omega (arith, ints, below, above, a, b, f)) positive,
        )
