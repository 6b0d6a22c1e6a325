-- From a partial play that is looked at to one with one more choice.
use Rattle.std.proofs.Common.{◌≡◌, ◌∙◌, ℕ, ◌+◌, ◌<◌, ◌≤◌, Bool, true, List, [], ◌∷◌, length, ℤ, pos, ◌+ℤ◌, ap, subst, sym, arith, slice_index_or, inl, inr}
use Rattle.std.specs.Prelude.{int_lt}
use Rattle.std.proofs.lemmas.List.{length-append}
use Rattle.sg_model.specs.Games.{Game, resource_count, resource_schedules}
use Rattle.sg_model.specs.Plays.{covers}
use Rattle.sg_game.specs.Counts.{IsScheduleOf}
use Rattle.sg_walk.specs.declared.bounding.BestSchedule.{BestSchedule}
use Rattle.sg_walk.specs.declared.trail.Trail.{Trail}
use Rattle.sg_walk.specs.Marks.{IsEntered, IsMarked}
use Rattle.sg_walk.specs.Partials.{IsPartial, is_reached}
use Rattle.sg_walk.specs.Stages.{IsLookedAt}
use Rattle.sg_walk.specs.BestSchedules.{AreBestSchedules, StaysCovered, no_schedule}
use Rattle.sg_walk.specs.Weights.{bound, covered_sum, rest_weight}
use Rattle.sg_walk.proofs.Going.{partial-more}
use Rattle.sg_walk.proofs.Looked.{reached-more}
use Rattle.sg_walk.proofs.Pruned.{stays-more}

-- the bound, as it is tested
pub bound-test : (g : Game) (ws : List ℤ) (p : List ℕ) (k : ℕ) (mu covered : ℤ) (result : Bool) → k ≡ length p → covered ≡ covered_sum g ws p → result ≡ int_lt mu (covered +ℤ pos (rest_weight g ws (covers g p) k)) → int_lt mu (bound g ws p) ≡ result
bound-test g ws p k mu covered result at sum e = sym (e ∙ ap (λ (z : ℤ). int_lt mu (z +ℤ pos (rest_weight g ws (covers g p) k))) sum ∙ ap (λ (j : ℕ). int_lt mu (covered_sum g ws p +ℤ pos (rest_weight g ws (covers g p) j))) at)

module _ (g : Game) (ws : List ℤ) (covered : ℕ → Bool) (k : ℕ) (best : List BestSchedule) (h : AreBestSchedules g ws covered k best) where
  pub best-known : (i : ℕ) → k ≤ i → i < resource_count g → 1 ≤ (slice_index_or best i no_schedule).weight → IsScheduleOf g (slice_index_or best i no_schedule).schedule
  best-known i low high some = elim (h.each i low high).reached [ inl none ↦ absurd (omega (arith, none, some)) | inr r ↦ r.1 ]

  pub fewer-best : (j : ℕ) → k ≤ j → AreBestSchedules g ws covered j best
  fewer-best j le = record { each = λ i low high. h.each i (omega (arith, le, low)) high }

module _ (g : Game) (old new : Trail) (choice : ℕ) (entered : IsEntered g old choice new) where
  pub stays-entered : StaysCovered (covers g old.play) (covers g new.play)
  stays-entered = subst (λ (p : List ℕ). StaysCovered (covers g old.play) (covers g p)) (sym entered.play) (stays-more g old.play choice)

  pub long-entered : length new.play ≡ length old.play + 1
  long-entered = ap length entered.play ∙ length-append old.play (choice ∷ [])

  module _ (ws : List ℤ) (mu covered : ℤ) (looked : IsLookedAt g ws mu covered old) (lt : length old.play < resource_count g) (low : choice ≤ length (resource_schedules g (length old.play + 1))) where
    pub partial-entered : IsPartial g new.play
    partial-entered = subst (IsPartial g) (sym entered.play) (partial-more g old.play choice looked.partial lt low)

    pub looked-entered : int_lt mu (bound g ws old.play) ≡ true → IsMarked g new → (sum : ℤ) → sum ≡ covered_sum g ws new.play → IsLookedAt g ws mu sum new
    looked-entered above marked sum is = record {
      partial = partial-entered;
      reached = subst (λ (p : List ℕ). is_reached g ws mu p ≡ true) (sym entered.play) (reached-more g ws mu old.play choice looked.reached above);
      marked = marked;
      sum = is;
    }
