-- The defender's payoffs between their least and greatest, facts of both kinds, and caps.
use Rattle.std.proofs.Common.{◌≡◌, ◌≢◌, ℕ, suc, ◌+◌, ◌-◌, ◌<◌, ◌≤◌, true, List, [], ◌∷◌, length, ℤ, pos, ◌+ℤ◌, ◌*ℤ◌, ◌≤ℤ◌, sym, ◌∙◌, ap, subst, refl, arith, inl, inr, slice_index_or}
use Rattle.std.specs.List.{All, zip}
use Rattle.std.specs.Prelude.{slice_index, int_le}
use Rattle.std.proofs.lemmas.Int.{ints}
use Rattle.std.proofs.lemmas.Bool.{cases_eq}
use Rattle.std.proofs.lemmas.List.Elements.{All-nil, All-cons, All-head, All-tail}
use Rattle.std.proofs.lemmas.List.Sums.{list_all-from_AllPass}
use Rattle.sg_model.specs.Sums.{total, numbers, numbers_from, nth}
use Rattle.sg_model.specs.Games.{Game, attacker, action_count}
use Rattle.sg_model.specs.Plays.{pay_d}
use Rattle.sg_model.specs.declared.ticket.Ticket.{Ticket}
use Rattle.sg_model.specs.Commitments.{IsCommitment, weight_total, sum_a, sum_d, is_best}
use Rattle.sg_model.specs.Payoffs.{IsPeopled, greatest_of, shift_of}
use Rattle.sg_tree.specs.declared.fix.Fix.{Fix}
use Rattle.sg_bounds.specs.Regions.{IsInRegion}
use Rattle.sg_tree.specs.declared.fact.Fact.{Fact}
use Rattle.sg_tree.specs.declared.fact.Fact.TheVariants.{Plays, Cover, Water}
use Rattle.sg_bounds.specs.Facts.{rho_of, mu_of, HoldsFor, no_fact, shifted_sum}
use Rattle.sg_bounds.specs.Regions.{IsFix, alone}
use Rattle.sg_bounds.specs.FactLaws.{FactBounds, CapBounds, EmptyRegion}
use Rattle.sg_model.proofs.Ints.{v, n, plus, times, same_by, le_by, le_from, mul-le, cancel-le}
use Rattle.sg_model.proofs.Sums.{total-le, total-scaled, total-add}
use Rattle.sg_model.proofs.Numbers.{All-numbers}
use Rattle.sg_model.proofs.Best.{Takes, take_of-reached}
use Rattle.sg_model.proofs.Covers.{weight_total-positive}
use Rattle.sg_model.proofs.Payoffs.{bounded}
use Rattle.sg_bounds.proofs.Cover.{cover_is_plays}
use Rattle.sg_bounds.proofs.Duality as duality

-- the sum over the tickets is at most the greatest payoff for each
pub sum_d-high : (g : Game) (k : List Ticket) → IsCommitment g k → (l a : ℕ) → 1 ≤ l → l ≤ length g.types → 1 ≤ a → a ≤ action_count g l → sum_d g k l a ≤ℤ (greatest_of g l *ℤ weight_total k)
sum_d-high g k is_k l a from_one in_range low high =
    let top : ℤ = greatest_of g l in
    let w = λ (x : Ticket). x.weight in
    let each : All (λ (x : Ticket). (x.weight *ℤ pay_d g l x.play.code a) ≤ℤ (top *ℤ w x)) k =
    λ i d lt.
    let x : Ticket = slice_index_or k i d in
    let q = mul-le (pay_d g l x.play.code a) top x.weight (bounded g x.play.code (is_k.legal i d lt) l from_one in_range a low high).0 (omega (arith, ints, is_k.positive i d lt)) in
    omega (arith, ints, q, same_by (times (v (pay_d g l x.play.code a)) (v x.weight)) (times (v x.weight) (v (pay_d g l x.play.code a))) (omega arith)) in
    let a = total-le (λ (x : Ticket). x.weight *ℤ pay_d g l x.play.code a) (λ (x : Ticket). top *ℤ w x) k each in
    omega (arith, ints, a, total-scaled w top k)

-- with the shift each ticket counts at least once
pub sum_d-low : (g : Game) (k : List Ticket) → IsCommitment g k → (l a : ℕ) → 1 ≤ l → l ≤ length g.types → 1 ≤ a → a ≤ action_count g l
    → pos 1 ≤ℤ (sum_d g k l a +ℤ (shift_of g *ℤ weight_total k))
sum_d-low g k is_k l a from_one in_range low high =
    let s : ℤ = shift_of g in
    let w = λ (x : Ticket). x.weight in
    let pay = λ (x : Ticket). x.weight *ℤ pay_d g l x.play.code a in
    let each : All (λ (x : Ticket). w x ≤ℤ (pay x +ℤ (s *ℤ w x))) k =
    λ i d lt.
    let x : Ticket = slice_index_or k i d in
    let q = mul-le (pos 1) (pay_d g l x.play.code a +ℤ s) x.weight (bounded g x.play.code (is_k.legal i d lt) l from_one in_range a low high).1 (omega (arith, ints, is_k.positive i d lt)) in
    let p = v (pay_d g l x.play.code a) in let y = v x.weight in let z = v s in
    le_by y (plus (times y p) (times z y)) (omega (arith, le_from (times (n 1) y) (times (plus p z) y) q)) in
    let a1 = total-le w (λ (x : Ticket). pay x +ℤ (s *ℤ w x)) k each in
    let b = total-add pay (λ (x : Ticket). s *ℤ w x) k in
    let d = total-scaled w s k in
    omega (arith, ints, a1, b, d, weight_total-positive k is_k.some is_k.positive)

pub each_fact_bounds : FactBounds
each_fact_bounds g fix is_fix (Plays rho mu marks) holds k is_k region = duality.fact_bounds g fix rho mu marks holds k is_k region
each_fact_bounds g fix is_fix (Cover rho mu lines) holds k is_k region =
    duality.fact_bounds g fix rho mu _ (cover_is_plays g fix is_fix rho mu lines holds) k is_k region
each_fact_bounds g fix is_fix (Water level why) holds k is_k region = absurd holds

pub holds-rho : (g : Game) (fix : Fix) (f : Fact) → HoldsFor g fix f → pos 1 ≤ℤ rho_of f
holds-rho g fix (Plays rho mu marks) h = h.rho_positive
holds-rho g fix (Cover rho mu lines) h = h.rho_positive
holds-rho g fix (Water level why) h = absurd h

pub holds-mu : (g : Game) (fix : Fix) (f : Fact) → HoldsFor g fix f → pos 0 ≤ℤ mu_of f
holds-mu g fix (Plays rho mu marks) h = h.mu_nonneg
holds-mu g fix (Cover rho mu lines) h = h.mu_nonneg
holds-mu g fix (Water level why) h = absurd h

-- types from r on answer with these actions
abbrev pub Follows : Game → List Ticket → ℕ → List ℕ → Type 0
Follows g k r [] = Unit {0}
Follows g k r (a ∷ as1) = Takes g k r a × Follows g k (r + 1) as1

takes_best : (g : Game) (k : List Ticket) (l a : ℕ) → Takes g k l a → is_best g k l a ≡ true
takes_best g k l a t =
    list_all-from_AllPass (λ b. int_le (sum_a g k l b) (sum_a g k l a)) (numbers (action_count g l))
    (λ i d lt. let q = bests i d lt in sym (omega (arith, ints, q)))
  where
    bests : All (λ b. sum_a g k l b ≤ℤ sum_a g k l a) (numbers (action_count g l))
    bests = All-numbers (λ b. sum_a g k l b ≤ℤ sum_a g k l a) (action_count g l) (λ b low high. t.best b low high)

region_from : (g : Game) (k : List Ticket) (r : ℕ) (acts : List ℕ) → Follows g k r acts → (l : ℕ) → r ≤ l → l < r + length acts → is_best g k l (slice_index acts (l - r)) ≡ true
region_from g k r [] f l low high = absurd (omega arith)
region_from g k r (c ∷ cs) f l low high =
    elim (cases_eq r l) [
      | inl e ↦ (
          let zero_off : l - r ≡ 0 = omega arith in
          rw zero_off (subst (λ (x : ℕ). is_best g k x c ≡ true) e (takes_best g k r c f.0)))
      | inr other ↦ (
          let off : l - r ≡ suc (l - (r + 1)) = omega arith in
          rw off (region_from g k (r + 1) cs f.1 l (omega arith) (omega arith)))
    ]

pub in_region : (g : Game) (k : List Ticket) (r : ℕ) (acts : List ℕ) → Follows g k r acts → IsInRegion g (record { first = r; acts = acts }) k
in_region g k r acts f = region_from g k r acts f

-- the actions of types that answer with them are theirs
follows_in : (g : Game) (k : List Ticket) (r : ℕ) (acts : List ℕ) → Follows g k r acts → All (λ (p : ℕ × ℕ). (1 ≤ p.1) × (p.1 ≤ action_count g p.0)) (zip (numbers_from r (length acts)) acts)
follows_in g k r [] f = All-nil (λ (p : ℕ × ℕ). (1 ≤ p.1) × (p.1 ≤ action_count g p.0))
follows_in g k r (c ∷ cs) f =
    All-cons (λ (p : ℕ × ℕ). (1 ≤ p.1) × (p.1 ≤ action_count g p.0)) (r, c) (zip (numbers_from (r + 1) (length cs)) cs) (let t = f.0 in (t.from_one, t.in_range)) (follows_in g k (r + 1) cs f.1)

pub is_fix : (g : Game) (k : List Ticket) (r : ℕ) (acts : List ℕ) → acts ≢ [] → 1 ≤ r → r + length acts ≤ length g.types + 1 → Follows g k r acts → IsFix g (record { first = r; acts = acts })
is_fix g k r acts some low high f = record { some = some; from_one = low; in_range = high; acts = follows_in g k r acts f }

-- a multiplied bound without its factors
uncap : (s sh d w rho p : ℤ) → pos 1 ≤ℤ rho → pos 1 ≤ℤ p → (rho *ℤ (p *ℤ (s +ℤ (sh *ℤ d)))) ≤ℤ ((rho *ℤ (p *ℤ (w +ℤ sh))) *ℤ d) → s ≤ℤ (w *ℤ d)
uncap s sh d w rho p rho_positive p_positive h =
    let rp = mul-le (pos 1) rho p rho_positive (omega (arith, ints, p_positive)) in
    let f : pos 1 ≤ℤ (rho *ℤ p) = le_by (n 1) (times (v rho) (v p)) (omega (arith, le_from (times (n 1) (v p)) (times (v rho) (v p)) rp, le_from (n 1) (v p) p_positive)) in
    let r = v rho in let q = v p in let z = v sh in let y = v d in
    let e : (s *ℤ (rho *ℤ p)) ≤ℤ ((w *ℤ d) *ℤ (rho *ℤ p)) = le_by (times (v s) (times r q)) (times (times (v w) y) (times r q)) (omega (arith, le_from (times r (times q (plus (v s) (times z y)))) (times (times r (times q (plus (v w) z))) y) h)) in
    cancel-le s (w *ℤ d) (rho *ℤ p) e f

pub one_le_product : (a b : ℤ) → pos 1 ≤ℤ a → pos 1 ≤ℤ b → pos 1 ≤ℤ (a *ℤ b)
one_le_product a b h k =
    let q = mul-le (pos 1) a b h (omega (arith, ints, k)) in
    le_by (n 1) (times (v a) (v b)) (omega (arith, le_from (times (n 1) (v b)) (times (v a) (v b)) q, le_from (n 1) (v b) k))

pub cap_bounds : CapBounds
cap_bounds g peopled l from_one in_range w [] allowed k is_k =
    let t = take_of-reached g k l (peopled.actions l from_one in_range) in
    let t1 = t.1 in
    let q = sum_d-high g k is_k l t.0 from_one in_range t1.from_one t1.in_range in
    let e : greatest_of g l *ℤ weight_total k ≡ w *ℤ weight_total k = ap (λ (z : ℤ). z *ℤ weight_total k) (sym allowed) in
    omega (arith, ints, q, e, t1.gives)
cap_bounds g peopled l from_one in_range w (f0 ∷ fs) allowed k is_k =
    let t = take_of-reached g k l (peopled.actions l from_one in_range) in
    let a : ℕ = t.0 in
    let t1 = t.1 in
    let fix : Fix = alone l a in
    let f : Fact = nth (f0 ∷ fs) a no_fact in
    let h = allowed.1 a t1.from_one t1.in_range in
    let follows : Follows g k l (a ∷ []) = (t1, tt) in
    let bound = each_fact_bounds g fix (is_fix g k l (a ∷ []) (λ e. cc) from_one (omega arith) follows) f h.0 k is_k (in_region g k l (a ∷ []) follows) in
    let s : ℤ = sum_d g k l a in
    let sh : ℤ = shift_of g in
    let d : ℤ = weight_total k in
    let p : ℤ = (attacker g l).prior in
    let low = sum_d-low g k is_k l a from_one in_range t1.from_one t1.in_range in
    let rho_positive = holds-rho g fix f h.0 in
    let p_positive = peopled.priors l from_one in_range in
    let x : ℤ = p *ℤ (s +ℤ (sh *ℤ d)) in
    let same : rho_of f *ℤ (x +ℤ pos 0) ≡ rho_of f *ℤ x = same_by (times (v (rho_of f)) (plus (v x) (n 0))) (times (v (rho_of f)) (v x)) (omega arith) in
    let q : s ≤ℤ (w *ℤ d) = elim h.1 [
      | inl zero_mu ↦ (
          let none : mu_of f *ℤ d ≡ pos 0 = ap (λ (z : ℤ). z *ℤ d) zero_mu ∙ same_by (times (n 0) (v d)) (n 0) (omega arith) in
          let some = one_le_product (rho_of f) x rho_positive (one_le_product p (s +ℤ (sh *ℤ d)) p_positive low) in
          absurd (omega (arith, ints, bound, same, none, some)))
      | inr within ↦ (
          let m = mul-le (mu_of f) (rho_of f *ℤ (p *ℤ (w +ℤ sh))) d within (omega (arith, ints, weight_total-positive k is_k.some is_k.positive)) in
          uncap s sh d w (rho_of f) p rho_positive p_positive (omega (arith, ints, bound, same, m)))
    ] in
    omega (arith, ints, q, t1.gives)

-- ---- the region of a fact with mu = 0

-- each fixed type counts at least once
shifted-low : (g : Game) → IsPeopled g → (k : List Ticket) → IsCommitment g k → (r : ℕ) (acts : List ℕ) → 1 ≤ r → r + length acts ≤ length g.types + 1
    → All (λ (p : ℕ × ℕ). (1 ≤ p.1) × (p.1 ≤ action_count g p.0)) (zip (numbers_from r (length acts)) acts)
    → pos (length acts) ≤ℤ total (λ (p : ℕ × ℕ). (attacker g p.0).prior *ℤ (sum_d g k p.0 p.1 +ℤ (shift_of g *ℤ weight_total k))) (zip (numbers_from r (length acts)) acts)
shifted-low g peopled k is_k r [] low high all = omega (arith, ints)
shifted-low g peopled k is_k r (a ∷ cs) low high all =
    let P : ℕ × ℕ → Type 0 = λ (p : ℕ × ℕ). (1 ≤ p.1) × (p.1 ≤ action_count g p.0) in
    let rest : List (ℕ × ℕ) = zip (numbers_from (r + 1) (length cs)) cs in
    let t = All-head P (r, a) rest all in
    let here = one_le_product (attacker g r).prior (sum_d g k r a +ℤ (shift_of g *ℤ weight_total k)) (peopled.priors r low (omega arith)) (sum_d-low g k is_k r a low (omega arith) t.0 t.1) in
    omega (arith, ints, here, shifted-low g peopled k is_k (r + 1) cs (omega arith) (omega arith) (All-tail P (r, a) rest all))

some-acts : (acts : List ℕ) → acts ≢ [] → 1 ≤ length acts
some-acts [] some = absurd (some refl)
some-acts (a ∷ cs) some = omega arith

pub empty_region : EmptyRegion
empty_region g peopled fix is_fix f holds zero_mu k is_k region =
    let d : ℤ = weight_total k in
    let sum : ℤ = shifted_sum g fix k in
    let bound = each_fact_bounds g fix is_fix f holds k is_k region in
    let least_sum : pos (length fix.acts) ≤ℤ sum = shifted-low g peopled k is_k fix.first fix.acts is_fix.from_one is_fix.in_range is_fix.acts in
    let some = some-acts fix.acts is_fix.some in
    let product = one_le_product (rho_of f) sum (holds-rho g fix f holds) (omega (arith, ints, least_sum, some)) in
    let zero_right : mu_of f *ℤ d ≡ pos 0 = ap (λ (z : ℤ). z *ℤ d) zero_mu ∙ same_by (times (n 0) (v d)) (n 0) (omega arith) in
    omega (arith, ints, bound, product, zero_right)
