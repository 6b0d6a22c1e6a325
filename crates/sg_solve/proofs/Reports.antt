-- Tickets that cover each target as a filling counts make a right report.
use Rattle.std.proofs.Common.{◌≡◌, ℕ, ◌≤◌, ◌^◌, true, List, [], length, ℤ, pos, negsuc, ◌*ℤ◌, ◌≤ℤ◌, ◌<ℤ◌, Some, sym, ◌∙◌, ap, subst, refl, arith}
use Rattle.std.proofs.lemmas.List.Elements.{All-weaker}
use Rattle.std.specs.Int.{◌∣◌}
use Rattle.std.specs.Prelude.{Err, unsigned_abs}
use Rattle.std.proofs.lemmas.Int.{ints}
use Rattle.std.proofs.lemmas.Nat.Gcd.{le_of_dvd}
use Rattle.sg_model.specs.declared.ticket.Ticket.{Ticket}
use Rattle.sg_model.specs.Sums.{nth}
use Rattle.sg_model.specs.Games.{Game, resource_count, prior_total}
use Rattle.sg_model.specs.Limits.{IsGame, is_scaled}
use Rattle.sg_model.specs.Plays.{IsLegal, IsLegalJoint}
use Rattle.sg_model.specs.Commitments.{IsValue, cover_count, weight_total, AreLegal}
use Rattle.sg_model.specs.Optimality.{IsOptimal}
use Rattle.sg_model.specs.Origami.{IsOrigami, AreLevelTickets, count_at}
use Rattle.sg_model.proofs.Ints.{v, times, same_by, cancel}
use Rattle.sg_model.proofs.Forms.{no_matrix}
use Rattle.sg_model.proofs.Promises.{origami}
use Rattle.sg_model.proofs.Tickets.{tickets-optimal}
use Rattle.sg_num.specs.declared.step.Wide.{Wide}
use Rattle.sg_frac.specs.Fractions.{Fraction, IsReduced}
use Rattle.sg_origami.specs.declared.filling.Filling.{Filling}
use Rattle.sg_origami.specs.Fillings.{IsFilling}
use Rattle.sg_commit.specs.Committed.{Committed, IsCommitted}
use Rattle.sg_commit.specs.ExactSums.{exact_base}
use Rattle.sg_commit.proofs.Small.{scaled-small, small-value}
use Rattle.sg_split.specs.Laying.{AreCounts}
use Rattle.sg_split.specs.Wraps.{IsWrap}
use Rattle.sg_tree.specs.Claims.{HaveOneLength}
use Rattle.sg_tree.proofs.Committing.{claim_of}
use Rattle.sg_tree.specs.declared.fact.Fact.TheVariants.{Water}
use Rattle.sg_tree.specs.declared.tree.Tree.TheVariants.{Closed}
use Rattle.sg_tree.specs.declared.report.Ending.TheVariants.{Optimal}
use Rattle.sg_bounds.specs.Accepted.{IsAccepted}
use Rattle.sg_bounds.proofs.Small.{small_totals_fit}
use Rattle.sg_bounds.proofs.Waters.{level_accepted}
use Rattle.sg_solve.specs.Solutions.{AreRightTickets, IsOptimalReport, IsRightLevel}

-- tickets of this total that cover each target as often, out of it, as the filling counts
pub record AreServed (g : Game) (f : Filling) (k : List Ticket) (d : ℤ) : Type 0 where
  pub right : AreRightTickets g (record { tickets = k; total = d })
  pub counts : (t : ℕ) → 1 ≤ t → t ≤ length g.goals → cover_count g k t *ℤ f.total ≡ nth f.counts t (pos 0) *ℤ d

swap : (a b c : ℤ) → (a *ℤ b) *ℤ c ≡ (a *ℤ c) *ℤ b
swap a b c = same_by (times (times (v a) (v b)) (v c)) (times (times (v a) (v c)) (v b)) (omega arith)

pub level_tickets : (g : Game) (f : Filling) → IsFilling g f → (k : List Ticket) (d : ℤ) → AreServed g f k d → AreLevelTickets g f.level.num f.level.den k
level_tickets g f h k d s t low high =
    let c = h.coverage in
    let ds : ℤ = f.level.den *ℤ g.scale in
    let n : ℤ = nth f.counts t (pos 0) in
    let here : ℤ = cover_count g k t in
    let want : ℤ = count_at g f.level.num f.level.den t in
    let a : (here *ℤ ds) *ℤ f.total ≡ (here *ℤ f.total) *ℤ ds = swap here ds f.total in
    let b : (here *ℤ f.total) *ℤ ds ≡ (n *ℤ d) *ℤ ds = ap (λ (z : ℤ). z *ℤ ds) (s.counts t low high) in
    let e : (n *ℤ d) *ℤ ds ≡ (n *ℤ ds) *ℤ d = swap n d ds in
    let j : (n *ℤ ds) *ℤ d ≡ (want *ℤ f.total) *ℤ d = ap (λ (z : ℤ). z *ℤ d) (c.shares t low high) in
    let m : (want *ℤ f.total) *ℤ d ≡ (want *ℤ d) *ℤ f.total = swap want f.total d in
    let same : want *ℤ d ≡ want *ℤ weight_total k = ap (λ (z : ℤ). want *ℤ z) s.right.total in
    cancel (here *ℤ ds) (want *ℤ d) f.total (a ∙ (b ∙ (e ∙ (j ∙ m)))) c.ticket_range.at_least ∙ same

pub is_origami : (g : Game) → IsGame g → is_scaled g ≡ true → IsOrigami g
is_origami g is s = origami g is s

pub right_level : (g : Game) (f : Filling) → IsFilling g f → (k : List Ticket) (d : ℤ) → AreServed g f k d → IsRightLevel g k f.level f.reason
right_level g f h k d s = record { water = h.water; reduced = h.reduced; reason = h.reason; coverage = level_tickets g f h k d s }

pub served_optimal : (g : Game) → IsGame g → is_scaled g ≡ true → (f : Filling) → IsFilling g f → (k : List Ticket) (d : ℤ) → AreServed g f k d → IsOptimal g k
served_optimal g is sc f h k d s =
    tickets-optimal g (is_origami g is sc) f.level.num f.level.den h.water.positive k s.right.commitment (level_tickets g f h k d s) f.reason h.water

-- the counts of a filling are such as the patrols can cover
pub are_counts : (g : Game) → IsGame g → is_scaled g ≡ true → (f : Filling) → IsFilling g f → AreCounts g f.counts f.total
are_counts g is sc f h =
    let c = h.coverage in
    record { patrolled = (is_origami g is sc).identical; positive = c.ticket_range.at_least; one_each = c.one_each; within = c.within; few = c.few }

-- the plays of a game with a scale have one length
pub one_length : (g : Game) → IsGame g → is_scaled g ≡ true → (k : List Ticket) → AreLegal g k → HaveOneLength k
one_length g is sc k h = (resource_count g, All-weaker (λ (x : Ticket). IsLegal g x.play.code) (λ (x : Ticket). length x.play.code ≡ resource_count g) each k h)
  where
    each : (x : Ticket) → IsLegal g x.play.code → length x.play.code ≡ resource_count g
    each x legal = let joint : IsLegalJoint g x.play.code = rw (no_matrix g (is_origami g is sc).security) at legal in joint.one_each

-- a number that divides another is no more
pub small_total : (a t : ℤ) → unsigned_abs a ∣ unsigned_abs t → pos 1 ≤ℤ t → t ≤ℤ pos (2 ^ 78) → a ≤ℤ pos (2 ^ 78)
small_total (pos a) (pos t) d low high = let le : a ≤ t = le_of_dvd (omega (arith, ints, low)) d in omega (arith, ints, high, le)
small_total (pos a) (negsuc t) d low high = absurd (omega (arith, ints, low))
small_total (negsuc a) t d low high = omega (arith, ints)

-- a commitment that covers each target in its count is served
pub served : (g : Game) → IsGame g → is_scaled g ≡ true → (f : Filling) → IsFilling g f → (k : Committed) → IsCommitted k → IsWrap g f.counts f.total k → AreServed g f k.tickets k.total
served g is sc f h k committed w = record {
  right = record {
    commitment = w.commitment;
    rising = claim_of k committed (one_length g is sc k.tickets w.commitment.legal);
    total = committed.sum;
    lowest = committed.lowest;
    few = small_total k.total f.total w.divides h.coverage.ticket_range.at_least h.coverage.ticket_range.at_most;
  };
  counts = w.covered;
}

-- no operation under its value leaves 128 bits
pub never_wide : (g : Game) → IsGame g → is_scaled g ≡ true → (k : Committed) → IsCommitted k → k.total ≤ℤ pos (2 ^ 78) → (wide : Wide) → exact_base g k.tickets ≡ Err wide → ⊥
never_wide g is sc k h small wide =
    small-value g is k.tickets h.positive (scaled-small g is (is_origami g is sc).scaled k.tickets (omega (arith, ints, h.sum, small))) wide

-- the sums under the value of so few tickets are small
small_base : (g : Game) → IsGame g → is_scaled g ≡ true → (k : List Ticket) → weight_total k ≤ℤ pos (2 ^ 78) → ((weight_total k *ℤ prior_total g) *ℤ pos (2 ^ 30)) <ℤ pos (2 ^ 127)
small_base g is sc k few =
    let small : (weight_total k *ℤ prior_total g) ≤ℤ pos (2 ^ 96) = scaled-small g is (is_origami g is sc).scaled k (omega (arith, ints, few)) in
    omega (arith, ints, small)

-- the report of tickets that are served is accepted
pub served_accepted : (g : Game) → IsGame g → is_scaled g ≡ true → (f : Filling) → IsFilling g f → (k : List Ticket) (d : ℤ) → AreServed g f k d
    → (value : Fraction) → IsValue g k value.num value.den → IsReduced value
    → IsAccepted g (record { tickets = record { tickets = k; total = d }; value = value; caps = []; tree = Closed (Water f.level f.reason); upper = value; ending = Optimal })
served_accepted g is sc f h k d s value is_v reduced =
    let total : d ≡ weight_total k = s.right.total in
    let few : d ≤ℤ pos (2 ^ 78) = s.right.few in
    let fit = small_totals_fit g is k s.right.commitment (small_base g is sc k (omega (arith, ints, total, few))) in
    let a = level_accepted g is sc k s.right.commitment s.right.lowest value is_v reduced f.level f.reason h.water (level_tickets g f h k d s) fit.0 fit.1 in
    subst (λ (z : ℤ). IsAccepted g (record { tickets = record { tickets = k; total = z }; value = value; caps = []; tree = Closed (Water f.level f.reason); upper = value; ending = Optimal })) (sym total) a

pub right_report : (g : Game) → IsGame g → is_scaled g ≡ true → (f : Filling) → IsFilling g f → (k : Committed) → IsCommitted k → IsWrap g f.counts f.total k
    → (value : Fraction) → IsValue g k.tickets value.num value.den → IsReduced value
    → IsOptimalReport g (record { tickets = record { tickets = k.tickets; total = k.total }; value = value; caps = []; tree = Closed (Water f.level f.reason); upper = value; ending = Optimal })
right_report g is sc f h k committed w value is_v reduced =
    let s = served g is sc f h k committed w in
    record {
      tickets = s.right;
      value = is_v;
      reduced = reduced;
      optimal = served_optimal g is sc f h k.tickets k.total s;
      level = f.level;
      why = f.reason;
      tree = refl;
      right_level = right_level g f h k.tickets k.total s;
      laid = record { counts = f.counts; moments = f.total; coverage = h.coverage; plays = w.moments };
      caps = refl;
      upper = refl;
      ending = refl;
      accepted = served_accepted g is sc f h k.tickets k.total s value is_v reduced;
    }
