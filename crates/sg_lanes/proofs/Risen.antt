-- A point and the incumbent.
use Rattle.std.proofs.Common.{◌≡◌, Bool, true, false, true≢false, cond, List, sym, ◌∙◌, ap, subst, refl, Option, Some, None, Err, is_ok, All, ℤ, pos, ◌*ℤ◌, ◌≤ℤ◌}
use Rattle.sg_model.specs.declared.ticket.Ticket.{Ticket}
use Rattle.sg_model.specs.Games.{Game, prior_total}
use Rattle.sg_model.specs.Commitments.{AreLegal, IsCommitment, weight_total}
use Rattle.sg_num.specs.declared.step.Wide.{Wide}
use Rattle.sg_num.specs.Exact.{Fits}
use Rattle.sg_num.specs.Operations.{formed, value_of_step}
use Rattle.sg_num.proofs.Firsts.{results-fit}
use Rattle.sg_frac.specs.Fractions.{Fraction, IsReducedForm}
use Rattle.sg_commit.specs.Committed.{Committed, IsCommitted}
use Rattle.sg_commit.specs.ExactSums.{exact_base}
use Rattle.sg_commit.specs.SumSteps.{base_steps}
use Rattle.sg_commit.proofs.SumSteps.{sums_are_formed}
use Rattle.sg_bounds.specs.Sizes.{value_sums}
use Rattle.sg_bounds.proofs.StepResults.{value-results}
use Rattle.sg_tree.specs.declared.fact.Fact.{Fact}
use Rattle.sg_tree.specs.declared.fix.Fix.{Fix}
use Rattle.sg_search.specs.Searches.{Task, Search}
use Rattle.sg_search.specs.Bounding.{better, exceeds, incumbent, lower, value_fraction}
use Rattle.sg_search.specs.Results.{IsResult}
use Rattle.sg_search.proofs.Poorer.{positive-value}
use Rattle.sg_lanes.specs.declared.best.Best.{Best}
use Rattle.sg_lanes.specs.Bounds.{Stands}
use Rattle.sg_lanes.specs.Rises.{IsRise}
use Rattle.sg_lanes.specs.Frontiers.{Frontier, IsFrontier}
use Rattle.sg_lanes.specs.Machines.{Machine}
use Rattle.sg_lanes.proofs.Chosen.{value-positive}
use Rattle.sg_lanes.proofs.Fractions.{exceeds-alike}
use Rattle.sg_lanes.proofs.Glued.{seen}

-- where the numbers under a value fit, none of its operations leaves 128 bits
pub never-wide : (g : Game) (k : List Ticket) (w : Wide) → All Fits (value_sums g k) → exact_base g k ≡ Err w → ⊥
never-wide g k w fits e =
    let value : ℤ = weight_total k *ℤ prior_total g in
    let fit : is_ok (formed (base_steps g k) value) ≡ true = (results-fit (base_steps g k) value).0 (subst (All Fits) (value-results g k) fits) in
    let wide : is_ok (formed (base_steps g k) value) ≡ false = ap is_ok (sym (sums_are_formed g k).base ∙ e) in
    true≢false (sym fit ∙ wide)

module _ (g : Game) (node : Fix) (fact : Fact) (k : Committed) (r : IsResult g (record { fix = node; fact = fact; point = Some k })) where
  pub point-legal : AreLegal g k.tickets
  point-legal = r.point.2.commitment.legal

  pub point-fits : All Fits (value_sums g k.tickets)
  point-fits = r.narrow.value

module _ (p : Task) (s : Search) (f : Frontier) (h : IsFrontier p s f) (node : Fix) (fact : Fact) (k : Committed) (r : IsResult p.game (record { fix = node; fact = fact; point = Some k })) (new : Fraction)
    (is_new : Stands new (value_fraction p.game k.tickets)) where
  test-alike : exceeds new f.value ≡ exceeds (value_fraction p.game k.tickets) (lower p s)
  test-alike = exceeds-alike new (value_fraction p.game k.tickets) f.value (lower p s) is_new h.value (positive-value p.game h.peopled k.tickets r.point.2.commitment) (value-positive p s f h)

  pub no-rise : exceeds new f.value ≡ false → IsRise p s (Some k) None
  no-rise e = ap (λ (b : Bool). cond b k.tickets (incumbent p s)) (sym test-alike ∙ e)

  pub rise : (copy : Committed) → copy ≡ k → exceeds new f.value ≡ true → IsRise p s (Some k) (Some (record { commitment = copy; value = new }))
  rise copy same e = subst (λ (c : Committed). IsRise p s (Some k) (Some (record { commitment = c; value = new }))) (sym same)
      (r.point.1, sym (ap (λ (b : Bool). cond b k.tickets (incumbent p s)) (sym test-alike ∙ e)), is_new)

-- ---- for the machine as its callers see it

abbrev Given : Machine → Option Committed → Type 0
Given m point = (node : Fix) × (fact : Fact) × IsResult m.task.game (record { fix = node; fact = fact; point = point })

at-some : (m : Machine) (point : Option Committed) (k : Committed) → Given m point → point ≡ Some k → Given m (Some k)
at-some m point k r e = subst (Given m) e r

pub not-wide : (p : Task) (s : Search) (m : Machine) (point : Option Committed) (k : Committed) (w : Wide) → seen p s ≡ m → Given m point → point ≡ Some k → exact_base p.game k.tickets ≡ Err w → ⊥
not-wide p s m point k w e r is wide =
    let q = subst (λ (x : Machine). Given x (Some k)) (sym e) (at-some m point k r is) in
    never-wide p.game k.tickets w (point-fits p.game q.0 q.1 k q.2) wide

pub no-rise-of : (p : Task) (s : Search) (f : Frontier) (m : Machine) (point : Option Committed) (k : Committed) (new : Fraction) → seen p s ≡ m → IsFrontier p s f → Given m point → point ≡ Some k → Stands new (value_fraction p.game k.tickets) → exceeds new f.value ≡ false
    → better m.task.game (incumbent m.task m.search) point ≡ incumbent m.task m.search
no-rise-of p s f m point k new e h r is stands low =
    let q = subst (λ (x : Machine). Given x (Some k)) (sym e) (at-some m point k r is) in
    subst (λ (o : Option Committed). better m.task.game (incumbent m.task m.search) o ≡ incumbent m.task m.search) (sym is)
    (subst (λ (x : Machine). better x.task.game (incumbent x.task x.search) (Some k) ≡ incumbent x.task x.search) e (no-rise p s f h q.0 q.1 k q.2 new stands low))

pub rise-of : (p : Task) (s : Search) (f : Frontier) (m : Machine) (point : Option Committed) (k copy : Committed) (new : Fraction) → seen p s ≡ m → IsFrontier p s f → Given m point → point ≡ Some k → Stands new (value_fraction p.game k.tickets) → exceeds new f.value ≡ true → copy ≡ k
    → IsRise m.task m.search point (Some (record { commitment = copy; value = new }))
rise-of p s f m point k copy new e h r is stands up same =
    let q = subst (λ (x : Machine). Given x (Some k)) (sym e) (at-some m point k r is) in
    subst (λ (o : Option Committed). IsRise m.task m.search o (Some (record { commitment = copy; value = new }))) (sym is)
    (subst (λ (x : Machine). IsRise x.task x.search (Some k) (Some (record { commitment = copy; value = new }))) e (rise p s f h q.0 q.1 k q.2 new stands copy same up))
