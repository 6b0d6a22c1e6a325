-- From the tickets of all moments to a commitment.
use Rattle.std.proofs.Common.{◌≡◌, ℕ, ◌+◌, ◌≤◌, true, List, [], ◌∷◌, length, ℤ, pos, ◌+ℤ◌, ◌*ℤ◌, ◌≤ℤ◌, ap, subst, sym, ◌∙◌, refl, arith, get_or, bytes_eq, None, Ok}
use Rattle.std.specs.Int.{w128, ◌∣◌}
use Rattle.std.specs.List.{All}
use Rattle.std.specs.Prelude.{FitsSigned, int_le, unsigned_abs}
use Rattle.std.proofs.lemmas.Int.{ints, unsigned_abs-mul}
use Rattle.std.proofs.lemmas.List.Elements.{All-head, All-tail}
use Rattle.std.proofs.Math.Nat.{dvd-mul_left}
use Rattle.sg_model.specs.declared.ticket.Ticket.{Ticket}
use Rattle.sg_model.specs.Sums.{nth, numbers_from}
use Rattle.sg_model.specs.Games.{Game, resource_count}
use Rattle.sg_model.specs.Limits.{IsGame}
use Rattle.sg_model.specs.Plays.{IsLegal, covers}
use Rattle.sg_model.specs.Commitments.{cover_count, scaled, weight_on, weight_total}
use Rattle.sg_model.specs.OptimalityLaws.{AreOneMix}
use Rattle.sg_model.proofs.Ints.{v, times, same_by, mul-le}
use Rattle.sg_model.proofs.Joined.{same_cover_count, same_weight_total}
use Rattle.sg_model.proofs.Scaled.{weight_total-scaled}
use Rattle.sg_commit.specs.Committed.{Committed, IsCommitted}
use Rattle.sg_commit.proofs.Kept.{has_weight, kept, scaled-passing}
use Rattle.sg_commit.proofs.SharedTotals.{exact_total-fits}
use Rattle.sg_commit.specs.Parts.{AreMultiple, exact_total, part_fault, first_below}
use Rattle.sg_split.specs.declared.line.Line.{Line}
use Rattle.sg_split.specs.Laying.{AreCounts, moment_tickets, tickets_at}
use Rattle.sg_split.specs.Lines.{AreUpTo}
use Rattle.sg_split.specs.Wraps.{AreMomentParts, IsPatrolLine, IsWrap}
use Rattle.sg_split.proofs.Legal.{holds-weighed}
use Rattle.sg_split.proofs.Moments.{moments_cover, moments_legal, moments_weigh}

abbrev Weighty : Ticket → Type 0
Weighty x = pos 1 ≤ℤ x.weight

first_below-none : (i : ℕ) (k : List Ticket) → All Weighty k → first_below i k ≡ None
first_below-none i [] h = refl
first_below-none i (x ∷ xs) h =
    let w : pos 1 ≤ℤ x.weight = All-head Weighty x xs h in
    let e : int_le (pos 1) x.weight ≡ true = sym (omega (arith, ints, w)) in
    rw e (first_below-none (i + 1) xs (All-tail Weighty x xs h))

-- positive weights whose sum fits are no fault
pub no_fault : (k : List Ticket) (d : ℤ) → All Weighty k → weight_total k ≡ d → pos 1 ≤ℤ d → FitsSigned w128 d → part_fault k ≡ None
no_fault [] d h whole positive fit = absurd (omega (arith, ints, whole, positive))
no_fault (x ∷ xs) d h whole positive fit =
    let a : first_below 0 (x ∷ xs) ≡ None = first_below-none 0 (x ∷ xs) h in
    let b : exact_total (pos 0) (x ∷ xs) ≡ Ok (pos 0 +ℤ weight_total (x ∷ xs)) = exact_total-fits (pos 0) (x ∷ xs) (omega (arith, ints)) h (omega (arith, ints, fit, whole)) in
    rw a (rw b refl)

-- tickets up to the end of all moments
pub parts_are : (g : Game) (counts : List ℤ) (d : ℤ) (line : Line) (parts : List Ticket) → IsPatrolLine g counts d line → AreUpTo line line.moments parts → AreMomentParts g counts d parts
unfolding moment_tickets
parts_are g counts d line parts of is = record {
  mix = λ play. is.mix play ∙ (λ i. weight_on (tickets_at (of.ends i) (of.patrols i) (of.moments i) (numbers_from 0 (unsigned_abs (of.moments i)))) play);
  positive = is.positive;
}

pub parts_weigh : (g : Game) (counts : List ℤ) (d : ℤ) (parts : List Ticket) → AreCounts g counts d → AreMomentParts g counts d parts → weight_total parts ≡ d
parts_weigh g counts d parts are is = same_weight_total g parts (moment_tickets counts (resource_count g) d) is.mix ∙ moments_weigh g counts d are

-- the commitment of such parts
pub wrap_is : (g : Game) → IsGame g → (counts : List ℤ) (d : ℤ) → AreCounts g counts d → (parts : List Ticket) → AreMomentParts g counts d parts → (k : Committed) → AreMultiple parts k.tickets → IsCommitted k → IsWrap g counts d k
wrap_is g is counts d are parts are_parts k multiple rules =
    let all : List Ticket = moment_tickets counts (resource_count g) d in
    let c : ℤ = multiple.0 in
    let c_low : pos 1 ≤ℤ c = multiple.1 in
    let mix : AreOneMix all (scaled c k.tickets) = λ play. sym (are_parts.mix play) ∙ multiple.2 play in
    let whole : d ≡ c *ℤ k.total =
    sym (moments_weigh g counts d are) ∙ (same_weight_total g all (scaled c k.tickets) mix ∙ (weight_total-scaled c k.tickets ∙ ap (λ (z : ℤ). c *ℤ z) (sym rules.sum))) in
    let count : (t : ℕ) → 1 ≤ t → t ≤ length g.goals → nth counts t (pos 0) ≡ c *ℤ cover_count g k.tickets t = λ t low high.
    sym (moments_cover g counts d are t low high) ∙ (same_cover_count g all (scaled c k.tickets) mix t ∙ scaled-passing (λ p. covers g p t) c k.tickets) in
    record {
      commitment = kept g k rules (λ i x lt.
          let code : List ℕ = (get_or k.tickets i x).play.code in
          let on : weight_on all code ≡ c *ℤ weight_on k.tickets code = mix code ∙ scaled-passing (λ p. bytes_eq p code) c k.tickets in
          let some : pos 1 ≤ℤ weight_on k.tickets code = has_weight k.tickets rules.positive i x lt in
          let more = mul-le (pos 1) c (weight_on k.tickets code) c_low (omega (arith, ints, some)) in
          holds-weighed (IsLegal g) all (moments_legal g is counts d are) code (λ e. absurd (omega (arith, ints, on, some, more, e))));
      covered = λ t low high.
          let a : ℤ = cover_count g k.tickets t in
          let e : a *ℤ d ≡ a *ℤ (c *ℤ k.total) = ap (λ (z : ℤ). a *ℤ z) whole in
          let f : a *ℤ (c *ℤ k.total) ≡ (c *ℤ a) *ℤ k.total = same_by (times (v a) (times (v c) (v k.total))) (times (times (v c) (v a)) (v k.total)) (omega arith) in
          e ∙ (f ∙ ap (λ (z : ℤ). z *ℤ k.total) (sym (count t low high)));
      divides = subst (λ (m : ℕ). unsigned_abs k.total ∣ m) (sym (ap unsigned_abs whole ∙ unsigned_abs-mul c k.total)) (dvd-mul_left (unsigned_abs k.total) (unsigned_abs c));
      moments = (c, c_low, mix);
    }
