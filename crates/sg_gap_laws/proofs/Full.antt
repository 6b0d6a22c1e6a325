-- The bound of a fact that fixes all types isn't above the value of the point that reaches the fact.
use Rattle.std.proofs.Common.{◌≡◌, ℕ, suc, ◌+◌, ◌-◌, ◌<◌, ◌≤◌, Bool, true, false, cond, List, [], ◌∷◌, length, Option, Some, None, ℤ, pos, ◌+ℤ◌, ◌-ℤ◌, ◌*ℤ◌, ◌≤ℤ◌, sym, ◌∙◌, ap, subst, refl, arith}
use Rattle.std.specs.List.{All, zip}
use Rattle.std.specs.Prelude.{int_lt, slice_index}
use Rattle.std.proofs.lemmas.Int.{ints}
use Rattle.std.proofs.lemmas.List.Elements.{All-head, All-tail}
use Rattle.sg_frac.specs.Fractions.{Fraction}
use Rattle.sg_model.specs.Sums.{numbers, numbers_from, total}
use Rattle.sg_model.specs.Games.{Game, attacker, prior_total}
use Rattle.sg_model.specs.Payoffs.{IsPeopled, shift_of}
use Rattle.sg_model.specs.Commitments.{is_best, sum_d, take_of, weight_total, worth}
use Rattle.sg_model.specs.declared.ticket.Ticket.{Ticket}
use Rattle.sg_model.proofs.Best.{is_best-out, take_of-bounds}
use Rattle.sg_model.proofs.Ints.{v, n, plus, less, times, le_by, le_from, mul-le, same_from}
use Rattle.sg_model.proofs.Values.{prior_total-positive}
use Rattle.sg_commit.specs.Committed.{Committed}
use Rattle.sg_tree.specs.declared.fact.Fact.{Fact}
use Rattle.sg_tree.specs.declared.report.Cap.{Cap}
use Rattle.sg_bounds.specs.Accepted.{IsNotAbove}
use Rattle.sg_bounds.specs.Caps.{cap_of}
use Rattle.sg_bounds.specs.Facts.{HoldsFor, mu_of, rho_of, shifted_sum}
use Rattle.sg_bounds.specs.Leaves.{fact_bound, rest_of}
use Rattle.sg_bounds.specs.Regions.{IsFix, IsInRegion, prefix}
use Rattle.sg_bounds.proofs.Caps.{holds-rho}
use Rattle.sg_bounds.proofs.Small.{priors-are}
use Rattle.sg_search.specs.Bounding.{value_fraction}
use Rattle.sg_search.specs.Results.{IsPointOf, Reaches}
use Rattle.sg_gap_laws.proofs.Known.{IsActionOf}

-- best actions give no more than what the types take
fixed-below : (g : Game) → IsPeopled g → (k : List Ticket) (r : ℕ) (acts : List ℕ) → 1 ≤ r → r + length acts ≤ length g.types + 1
    → All (IsActionOf g) (zip (numbers_from r (length acts)) acts) → ((l : ℕ) → r ≤ l → l < r + length acts → is_best g k l (slice_index acts (l - r)) ≡ true) → (c : ℤ)
    → total (λ (q : ℕ × ℕ). (attacker g q.0).prior *ℤ (sum_d g k q.0 q.1 +ℤ c)) (zip (numbers_from r (length acts)) acts)
    ≤ℤ (total (λ l. (attacker g l).prior *ℤ take_of g k l) (numbers_from r (length acts)) +ℤ (c *ℤ total (λ l. (attacker g l).prior) (numbers_from r (length acts))))
fixed-below g peopled k r [] low high all best c = le_by (n 0) (plus (n 0) (times (v c) (n 0))) (omega arith)
fixed-below g peopled k r (a ∷ as1) low high all best c =
    let pairs : List (ℕ × ℕ) = zip (numbers_from (r + 1) (length as1)) as1 in
    let is = All-head (IsActionOf g) (r, a) pairs all in
    let zero_off : r - r ≡ 0 = omega arith in
    let here : is_best g k r a ≡ true = subst (λ (i : ℕ). is_best g k r (slice_index (a ∷ as1) i) ≡ true) zero_off (best r (omega arith) (omega arith)) in
    let bound = take_of-bounds g k r a is.0 is.1 (is_best-out g k r a here) in
    let rest = fixed-below g peopled k (r + 1) as1 (omega arith) (omega (arith, high)) (All-tail (IsActionOf g) (r, a) pairs all)
    (λ l from to.
    let off : l - r ≡ suc (l - (r + 1)) = omega (arith, from) in
    subst (λ (i : ℕ). is_best g k l (slice_index (a ∷ as1) i) ≡ true) off (best l (omega (arith, from)) (omega (arith, to)))) c in
    let p : ℤ = (attacker g r).prior in
    let x : ℤ = total (λ l. (attacker g l).prior *ℤ take_of g k l) (numbers_from (r + 1) (length as1)) in
    let y : ℤ = total (λ l. (attacker g l).prior) (numbers_from (r + 1) (length as1)) in
    let s : ℤ = total (λ (q : ℕ × ℕ). (attacker g q.0).prior *ℤ (sum_d g k q.0 q.1 +ℤ c)) pairs in
    let prior = peopled.priors r low (omega (arith, high)) in
    let m = mul-le (sum_d g k r a) (take_of g k r) p bound (omega (arith, ints, prior)) in
    le_by (plus (times (v p) (plus (v (sum_d g k r a)) (v c))) (v s)) (plus (plus (times (v p) (v (take_of g k r))) (v x)) (times (v c) (plus (v p) (v y))))
    (omega (arith, le_from (times (v (sum_d g k r a)) (v p)) (times (v (take_of g k r)) (v p)) m, le_from (v s) (plus (v x) (times (v c) (v y))) rest))

-- the arithmetic of the bound
bound_step : (mu rho d s w sh p : ℤ) → pos 0 ≤ℤ rho → pos 0 ≤ℤ p → rho *ℤ s ≡ mu *ℤ d → s ≤ℤ (w +ℤ ((sh *ℤ d) *ℤ p)) → ((mu +ℤ (rho *ℤ (pos 0 -ℤ (sh *ℤ p)))) *ℤ (d *ℤ p)) ≤ℤ (w *ℤ (rho *ℤ p))
bound_step mu rho d s w sh p rho_nonneg p_nonneg e low =
    let m = v mu in let r = v rho in let y = v d in let u = v s in let o = v w in let h = v sh in let q = v p in
    let a = mul-le s (w +ℤ ((sh *ℤ d) *ℤ p)) rho low rho_nonneg in
    let t : ((mu +ℤ (rho *ℤ (pos 0 -ℤ (sh *ℤ p)))) *ℤ d) ≤ℤ (w *ℤ rho) =
    le_by (times (plus m (times r (less (n 0) (times h q)))) y) (times o r) (omega (arith, le_from (times u r) (times (plus o (times (times h y) q)) r) a, same_from (times r u) (times m y) e)) in
    let b = mul-le ((mu +ℤ (rho *ℤ (pos 0 -ℤ (sh *ℤ p)))) *ℤ d) (w *ℤ rho) p t p_nonneg in
    le_by (times (plus m (times r (less (n 0) (times h q)))) (times y q)) (times o (times r q))
    (omega (arith, le_from (times (times (plus m (times r (less (n 0) (times h q)))) y) q) (times (times o r) q) b))

-- where all types are fixed nothing is open
rest-none : (g : Game) (caps : List Cap) (k : ℕ) → k ≡ length g.types → rest_of g caps k ≡ pos 0 -ℤ (shift_of g *ℤ prior_total g)
rest-none g caps k e =
    let z : length g.types - k ≡ 0 = omega (arith, e) in
    let f = λ (l : ℕ). (attacker g l).prior *ℤ (cap_of caps l).v in
    ap (λ (j : ℕ). total f (numbers_from (k + 1) j) -ℤ (shift_of g *ℤ total (λ l. (attacker g l).prior) (numbers k))) z
    ∙ ap (λ (j : ℕ). pos 0 -ℤ (shift_of g *ℤ total (λ l. (attacker g l).prior) (numbers j))) e
    ∙ ap (λ (x : ℤ). pos 0 -ℤ (shift_of g *ℤ x)) (sym (priors-are g))

module _ (g : Game) (peopled : IsPeopled g) (caps : List Cap) (acts : List ℕ) (is_fix : IsFix g (prefix acts)) (full : length acts ≡ length g.types) (f : Fact) (holds : HoldsFor g (prefix acts) f) where
  reached-below : (k : List Ticket) → Reaches g (prefix acts) f k → (b : Fraction) → b ≡ record { num = mu_of f +ℤ (rho_of f *ℤ rest_of g caps (length acts)); den = rho_of f *ℤ prior_total g }
      → IsNotAbove b (value_fraction g k)
  reached-below k reaches b is =
      let sh : ℤ = shift_of g in
      let d : ℤ = weight_total k in
      let region : IsInRegion g (prefix acts) k = reaches.region in
      let low = fixed-below g peopled k 1 acts (omega arith) (omega (arith, full)) is_fix.acts region (sh *ℤ d) in
      let taken : total (λ l. (attacker g l).prior *ℤ take_of g k l) (numbers (length acts)) ≡ worth g k = ap (λ (j : ℕ). total (λ l. (attacker g l).prior *ℤ take_of g k l) (numbers j)) full in
      let priors : total (λ l. (attacker g l).prior) (numbers (length acts)) ≡ prior_total g = ap (λ (j : ℕ). total (λ l. (attacker g l).prior) (numbers j)) full ∙ sym (priors-are g) in
      let low2 : shifted_sum g (prefix acts) k ≤ℤ (worth g k +ℤ ((sh *ℤ d) *ℤ prior_total g)) =
      subst (λ (x : ℤ). shifted_sum g (prefix acts) k ≤ℤ (worth g k +ℤ ((sh *ℤ d) *ℤ x))) priors
      (subst (λ (x : ℤ). shifted_sum g (prefix acts) k ≤ℤ (x +ℤ ((sh *ℤ d) *ℤ total (λ l. (attacker g l).prior) (numbers (length acts))))) taken low) in
      let rho = holds-rho g (prefix acts) f holds in
      let p_positive = prior_total-positive g peopled in
      let step = bound_step (mu_of f) (rho_of f) d (shifted_sum g (prefix acts) k) (worth g k) sh (prior_total g) (omega (arith, ints, rho)) (omega (arith, ints, p_positive)) reaches.equal low2 in
      subst (λ (x : Fraction). IsNotAbove x (value_fraction g k)) (sym is)
      (subst (λ (x : ℤ). ((mu_of f +ℤ (rho_of f *ℤ x)) *ℤ (d *ℤ prior_total g)) ≤ℤ (worth g k *ℤ (rho_of f *ℤ prior_total g))) (sym (rest-none g caps (length acts) full)) step)

  -- there is no bound, or it isn't above the value of the point
  pub full-below : (o : Option Committed) → IsPointOf g (prefix acts) f o → (b : Fraction) → fact_bound g caps (length acts) f ≡ Some b → (k : Committed) × (o ≡ Some k) × IsNotAbove b (value_fraction g k.tickets)
  full-below None point b e = absurd (none-some (sym (ap (λ (z : ℤ). cond (int_lt (pos 0) z) (Some (record { num = mu_of f +ℤ (rho_of f *ℤ rest_of g caps (length acts)); den = rho_of f *ℤ prior_total g })) None) point) ∙ e))
    where
      none-some : None ≡ Some b → ⊥
      none-some h = cc
  full-below (Some k) point b e = (k, refl, reached-below k.tickets point.2 b (by (int_lt (pos 0) (mu_of f)) e))
    where
      none-some : None ≡ Some b → ⊥
      none-some h = cc

      some-one : (x : Fraction) → Some x ≡ Some b → b ≡ x
      some-one x h = cc

      by : (t : Bool) → cond t (Some (record { num = mu_of f +ℤ (rho_of f *ℤ rest_of g caps (length acts)); den = rho_of f *ℤ prior_total g })) None ≡ Some b
          → b ≡ record { num = mu_of f +ℤ (rho_of f *ℤ rest_of g caps (length acts)); den = rho_of f *ℤ prior_total g }
      by true h = some-one (record { num = mu_of f +ℤ (rho_of f *ℤ rest_of g caps (length acts)); den = rho_of f *ℤ prior_total g }) h
      by false h = absurd (none-some h)
