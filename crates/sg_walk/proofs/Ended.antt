-- The start of a walk, and its end.
use Rattle.std.proofs.Common.{◌≡◌, ◌∙◌, ℕ, ◌+◌, ◌-◌, ◌<◌, false, not, List, [], length, ℤ, pos, ap, subst, sym, refl, arith, eqb, Some}
use Rattle.std.specs.List.{find}
use Rattle.sg_model.specs.Games.{Game, is_matrix, resource_count}
use Rattle.sg_model.specs.Plays.{covers}
use Rattle.sg_model.specs.Sums.{numbers}
use Rattle.sg_model.proofs.Sums.{total-zero}
use Rattle.sg_walk.specs.declared.trail.Trail.{Trail}
use Rattle.sg_walk.specs.Laws.{IsFirstAbove}
use Rattle.sg_walk.specs.Marks.{mark_of}
use Rattle.sg_walk.specs.Partials.{IsPartial, first_play, is_play_above, looks_of, partials}
use Rattle.sg_walk.specs.Stages.{EntersAt, GoesPast, IsLookedAt, from_here}
use Rattle.sg_walk.specs.Sums.{HasAbsoluteSum}
use Rattle.sg_walk.specs.Walks.{ExceedsBudget, FindsFirst, FindsNone}
use Rattle.sg_walk.specs.Weights.{covered_sum}
use Rattle.sg_walk.proofs.First.{first-is, first_play_is_first}
use Rattle.sg_walk.proofs.Ordered.{none-partial}

none-covered : (g : Game) (ws : List ℤ) → pos 0 ≡ covered_sum g ws []
none-covered g ws = sym (total-zero (numbers (length g.goals)))

pub looked-first : (g : Game) (ws : List ℤ) (mu : ℤ) (trail : Trail) → trail.play ≡ [] → ((t : ℕ) → mark_of trail.marks t ≡ 0) → IsLookedAt g ws mu (pos 0) trail
looked-first g ws mu trail none unmarked = record {
  partial = subst (IsPartial g) (sym none) (none-partial g);
  reached = rw none refl;
  marked = record {
    covered = λ t there. ap (λ (m : ℕ). not (eqb m 0)) (unmarked t) ∙ ap (λ (p : List ℕ). covers g p t) (sym none);
    few = λ t there. omega (arith, unmarked t);
  };
  sum = none-covered g ws ∙ ap (covered_sum g ws) (sym none);
}

whole : (g : Game) (p : List ℕ) → p ≡ [] → from_here g p ≡ partials g
whole g p none = ap (from_here g) none ∙ (let e : resource_count g - 0 ≡ resource_count g = omega arith in rw e refl)

module _ (g : Game) (security : is_matrix g ≡ false) (ws : List ℤ) (mu : ℤ) (budget : ℕ) (sized : HasAbsoluteSum ws) (p : List ℕ) (none : p ≡ []) where
  pub walk-entered : (play : List ℕ) → EntersAt g ws mu budget 0 (from_here g p) play → FindsFirst g ws mu budget play
  walk-entered play h =
      let first : first_play g ws mu ≡ Some play = sym (first-is g ws mu security) ∙ ap (find (is_play_above g ws mu)) (sym (whole g p none)) ∙ h.first in
      let found : IsFirstAbove g ws mu play = rw first at (first_play_is_first g ws mu) in
      record {
        sized = sized;
        within = omega (arith, h.within, ap (looks_of g ws mu) (whole g p none));
        first = first;
        legal = found.legal;
        above = found.above;
      }

  pub walk-past : (n : ℕ) (old new : Trail) → GoesPast g ws mu budget 0 (from_here g p) n old new → FindsNone g ws mu budget n
  walk-past n old new h = record {
    sized = sized;
    count = omega (arith, h.count, ap (looks_of g ws mu) (whole g p none));
    within = h.within;
    none = sym (first-is g ws mu security) ∙ ap (find (is_play_above g ws mu)) (sym (whole g p none)) ∙ h.none;
  }
