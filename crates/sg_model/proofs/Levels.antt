-- No commitment brings all targets of a game of identical patrols below its level.
use Rattle.std.proofs.Common.{◌≡◌, ℕ, ◌≤◌, true, false, cond, List, length, ℤ, pos, ◌-ℤ◌, ◌*ℤ◌, ◌≤ℤ◌, ◌<ℤ◌, sym, ◌∙◌, subst, refl, arith, inl, inr, slice_index_or}
use Rattle.std.specs.List.{All}
use Rattle.std.specs.Prelude.{int_le, int_div}
use Rattle.std.proofs.lemmas.Int.{ints, quot-rem}
use Rattle.std.proofs.lemmas.List.Elements.{All-contains, All-filter, filter_passes}
use Rattle.sg_model.specs.declared.ticket.Ticket.{Ticket}
use Rattle.sg_model.specs.declared.level.Level.{Level}
use Rattle.sg_model.specs.Commitments.{IsCommitment, cover_count, sum_a, weight_total}
use Rattle.sg_model.specs.Games.{Game, is_matrix, payoff, resource_count}
use Rattle.sg_model.specs.Origami.{IsOrigami, IsScaled, IsWater, SpendsAll, at_level, gap, share}
use Rattle.sg_model.specs.Plays.{covers, pay_a}
use Rattle.sg_model.specs.Sums.{numbers, total}
use Rattle.sg_model.specs.declared.level.Level.TheVariants.{Resources, Target}
use Rattle.sg_model.proofs.Forms.{no_matrix}
use Rattle.sg_model.proofs.Ints.{v, n, plus, less, times, same_by, le_by, lt_by, le_from, lt_from, mul-le, mul-lt, product_nonneg, factor_positive}
use Rattle.sg_model.proofs.Sums.{total-same, total-scaled}
use Rattle.sg_model.proofs.Numbers.{All-numbers}
use Rattle.sg_model.proofs.Greatest.{some_or_none, total-filter-le, total-lt}
use Rattle.sg_model.proofs.Covers.{cover_count-sum, cover_count-bounds, total-covered}

pub sum_a_is : (g : Game) → is_matrix g ≡ false → (k : List Ticket) (t : ℕ)
    → sum_a g k 1 t ≡ ((payoff g 1 t).au *ℤ weight_total k) -ℤ (gap (payoff g 1 t) *ℤ cover_count g k t)
sum_a_is g s k t =
    let au : ℤ = (payoff g 1 t).au in let ac : ℤ = (payoff g 1 t).ac in
    let a = total-same (λ (x : Ticket). x.weight *ℤ pay_a g 1 x.play.code t) (λ (x : Ticket). x.weight *ℤ cond (covers g x.play.code t) ac au) k (λ i d lt. rw s refl) in
    a ∙ (total-covered g k t ac au ∙ same_by (plus (times (v au) (v (weight_total k))) (times (less (v ac) (v au)) (v (cover_count g k t)))) (less (times (v au) (v (weight_total k))) (times (less (v au) (v ac)) (v (cover_count g k t)))) (omega arith))

-- a target that pays at least the level though it is covered for certain
floor_case : (au ac d c den num s : ℤ) → ac ≤ℤ au → c ≤ℤ d → pos 0 ≤ℤ den → s ≡ (au *ℤ d) -ℤ ((au -ℤ ac) *ℤ c) → ac *ℤ den ≡ num → (num *ℤ d) ≤ℤ (s *ℤ den)
floor_case au ac d c den num s h k p e f =
    let a = v au in let b = v ac in let x = v d in let y = v c in let z = v den in
    let room = product_nonneg ((au -ℤ ac) *ℤ (d -ℤ c)) den (product_nonneg (au -ℤ ac) (d -ℤ c) (omega (arith, ints)) (omega (arith, ints))) p in
    subst (λ (s : ℤ). (num *ℤ d) ≤ℤ (s *ℤ den)) (sym e) (subst (λ (num : ℤ). (num *ℤ d) ≤ℤ (((au *ℤ d) -ℤ ((au -ℤ ac) *ℤ c)) *ℤ den)) f
    (le_by (times (times b z) x) (times (less (times a x) (times (less a b) y)) z)
    (omega (arith, le_from (n 0) (times (times (less a b) (less x y)) z) room))))

-- a target below the level is covered by more than its share
short_case : (au gap d c den num s m scale : ℤ) → pos 1 ≤ℤ m → m *ℤ gap ≡ scale → s ≡ (au *ℤ d) -ℤ (gap *ℤ c) → (s *ℤ den) <ℤ (num *ℤ d)
    → (d *ℤ (m *ℤ ((au *ℤ den) -ℤ num))) <ℤ ((scale *ℤ den) *ℤ c)
short_case au gap d c den num s m scale h e f lt =
    let a = v au in let g = v gap in let x = v d in let y = v c in let z = v den in let w = v num in let k = v m in
    let q = subst (λ (s : ℤ). (s *ℤ den) <ℤ (num *ℤ d)) f lt in
    let r = mul-lt (((au *ℤ d) -ℤ (gap *ℤ c)) *ℤ den) (num *ℤ d) m q h in
    subst (λ (scale : ℤ). (d *ℤ (m *ℤ ((au *ℤ den) -ℤ num))) <ℤ ((scale *ℤ den) *ℤ c)) e
    (lt_by (times x (times k (less (times a z) w))) (times (times (times k g) z) y)
    (omega (arith, lt_from (times (times (less (times a x) (times g y)) z) k) (times (times w x) k) r)))

-- what a target of the level is
pub record IsAtLevel (g : Game) (num den : ℤ) (t : ℕ) : Type 0 where
  pub from_one : 1 ≤ t
  pub in_range : t ≤ length g.goals
  pub high : num ≤ℤ ((payoff g 1 t).au *ℤ den)

InRange : Game → ℕ → Type 0
InRange g t = (1 ≤ t) × (t ≤ length g.goals)

pub at_level_each : (g : Game) (num den : ℤ) → All (IsAtLevel g num den) (at_level g num den)
unfolding InRange
at_level_each g num den = λ i d lt.
    let p = λ (t : ℕ). int_le num ((payoff g 1 t).au *ℤ den) in
    let r : InRange g (slice_index_or (at_level g num den) i d) = All-filter p (InRange g) (numbers (length g.goals)) (All-numbers (InRange g) (length g.goals) (λ t low high. (low, high))) i d lt in
    let q : p (slice_index_or (at_level g num den) i d) ≡ true = filter_passes p (numbers (length g.goals)) i d lt in
    record { from_one = r.0; in_range = r.1; high = omega (arith, ints, q) }

-- the multiple of a gap that gives the scale
pub multiple_is : (g : Game) (t : ℕ) → IsScaled g.scale (payoff g 1 t) → (int_div g.scale (gap (payoff g 1 t)) *ℤ gap (payoff g 1 t)) ≡ g.scale
multiple_is g t h = omega (arith, ints, quot-rem g.scale (gap (payoff g 1 t)), h.divides)

pub record Pays (g : Game) (k : List Ticket) (num den : ℤ) (t : ℕ) : Type 0 where
  pub from_one : 1 ≤ t
  pub in_range : t ≤ length g.goals
  pub enough : (num *ℤ weight_total k) ≤ℤ (sum_a g k 1 t *ℤ den)

spent_case : (g : Game) → IsOrigami g → (num den : ℤ) → pos 1 ≤ℤ den → SpendsAll g num den
    → (k : List Ticket) → IsCommitment g k → All (λ t. (sum_a g k 1 t *ℤ den) <ℤ (num *ℤ weight_total k)) (at_level g num den) → ⊥
spent_case g o num den positive spends k is_k short =
    let d : ℤ = weight_total k in
    let chosen : List ℕ = at_level g num den in
    let count = cover_count g k in
    let each : All (λ t. (d *ℤ share g num den t) <ℤ ((g.scale *ℤ den) *ℤ count t)) chosen =
    λ i x lt.
    let t : ℕ = slice_index_or chosen i x in
    let at = at_level_each g num den i x lt in
    let scaled = o.targets t at.from_one at.in_range in
    let m : ℤ = int_div g.scale (gap (payoff g 1 t)) in
    let is_m = multiple_is g t scaled in
    short_case (payoff g 1 t).au (gap (payoff g 1 t)) d (count t) den num (sum_a g k 1 t) m g.scale
    (factor_positive m (gap (payoff g 1 t)) g.scale is_m o.scaled (omega (arith, ints, scaled.attacker_loses)))
    is_m (sum_a_is g (no_matrix g o.security) k t) (short i x lt) in
    let a = total-lt (λ t. d *ℤ share g num den t) (λ t. (g.scale *ℤ den) *ℤ count t) chosen spends.some each in
    let b = total-scaled (share g num den) d chosen in
    let c = total-scaled count (g.scale *ℤ den) chosen in
    let e = total-filter-le count (λ t. int_le num ((payoff g 1 t).au *ℤ den)) (numbers (length g.goals)) (λ i x lt. (cover_count-bounds g k (slice_index_or (numbers (length g.goals)) i x) is_k.positive).0) in
    let f = cover_count-sum g (resource_count g) o.identical (no_matrix g o.security) k is_k in
    let part : ℤ = total count chosen in
    let whole : part ≤ℤ (pos (resource_count g) *ℤ d) = omega (arith, ints, e, f) in
    let h = mul-le part (pos (resource_count g) *ℤ d) (g.scale *ℤ den) whole (product_nonneg g.scale den (omega (arith, ints, o.scaled)) (omega (arith, ints))) in
    let q : (d *ℤ total (share g num den) chosen) <ℤ ((g.scale *ℤ den) *ℤ part) = subst (λ (z : ℤ). z <ℤ ((g.scale *ℤ den) *ℤ part)) b (subst (λ (z : ℤ). total (λ t. d *ℤ share g num den t) chosen <ℤ z) c a) in
    let r : (d *ℤ ((pos (resource_count g) *ℤ den) *ℤ g.scale)) <ℤ ((g.scale *ℤ den) *ℤ part) = subst (λ (z : ℤ). (d *ℤ z) <ℤ ((g.scale *ℤ den) *ℤ part)) spends.sum q in
    let vd = v d in let vs = v g.scale in let vz = v den in let vp = v part in let np = n (resource_count g) in
    omega (arith, lt_from (times vd (times (times np vz) vs)) (times (times vs vz) vp) r, le_from (times vp (times vs vz)) (times (times np vd) (times vs vz)) h)

-- every commitment pays the attacker the level at some target
pub level_reached : (g : Game) → IsOrigami g → (num den : ℤ) (why : Level) → IsWater g num den why
    → (k : List Ticket) → IsCommitment g k → (t : ℕ) × Pays g k num den t
level_reached g o num den (Target j) w k is_k =
    let p = payoff g 1 j in
    let scaled = o.targets j w.level.from_one w.level.in_range in (
      j,
      record {
        from_one = w.level.from_one;
        in_range = w.level.in_range;
        enough = floor_case p.au p.ac (weight_total k) (cover_count g k j) den num (sum_a g k 1 j) (omega (arith, ints, scaled.attacker_loses))
            (cover_count-bounds g k j is_k.positive).1 (omega (arith, ints, w.positive)) (sum_a_is g (no_matrix g o.security) k j) w.level.pays;
      },
    )
level_reached g o num den Resources w k is_k =
    elim (some_or_none (λ t. sum_a g k 1 t *ℤ den) (λ t. num *ℤ weight_total k) (at_level g num den)) [
      | inl q ↦ (let at = All-contains (IsAtLevel g num den) (at_level g num den) q.0 (at_level_each g num den) q.1 in
          (q.0, record { from_one = at.from_one; in_range = at.in_range; enough = q.2 }))
      | inr short ↦ absurd (spent_case g o num den w.positive w.level k is_k short)
    ]
