-- The incumbent and its value after a node was worked.
use Rattle.std.proofs.Common.{◌≡◌, ℕ, true, List, [], ◌∷◌, sym, ◌∙◌, subst, Option, Some, None, ℤ, pos, ◌≤ℤ◌}
use Rattle.std.proofs.lemmas.List.Elements.{All-append, All-cons, All-nil}
use Rattle.sg_commit.specs.Committed.{Committed, IsCommitted}
use Rattle.sg_frac.specs.Fractions.{Fraction}
use Rattle.sg_tree.specs.declared.fact.Fact.{Fact}
use Rattle.sg_tree.specs.declared.fix.Fix.{Fix}
use Rattle.sg_tree.specs.declared.worked.Worked.{Worked}
use Rattle.sg_model.specs.declared.ticket.Ticket.{Ticket}
use Rattle.sg_search.specs.Searches.{Task, Search}
use Rattle.sg_search.specs.Bounding.{better, incumbent, lower, value_fraction}
use Rattle.sg_search.specs.Changes.{Holds}
use Rattle.sg_search.specs.Results.{IsResult}
use Rattle.sg_search.proofs.Poorer.{positive-value}
use Rattle.sg_search.proofs.Reported.{incumbent-first}
use Rattle.sg_lanes.specs.declared.best.Best.{Best}
use Rattle.sg_lanes.specs.Bounds.{Stands}
use Rattle.sg_lanes.specs.Rises.{IsRise, best_after, value_after}
use Rattle.sg_lanes.specs.Frontiers.{Frontier, IsFrontier}
use Rattle.sg_lanes.proofs.Recorded.{incumbent-after, worked_search}

module _ (p : Task) (s : Search) (f : Frontier) (h : IsFrontier p s f) (lane : ℕ) (node : Fix) (fact : Fact) (point : Option Committed) (holds : Holds s lane node true)
    (result : IsResult p.game (record { fix = node; fact = fact; point = point })) where
  abbrev t : Search
  t = worked_search s lane node fact point

  abbrev w : Worked
  w = record { fix = node; fact = fact; point = point }

  pub record Raised (best : Committed) (value : Fraction) : Type 0 where
    pub committed : IsCommitted best
    pub tickets : best.tickets ≡ better p.game (incumbent p s) point
    pub stands : Stands value (value_fraction p.game best.tickets)

  pub raised : (b : Option Best) → IsRise p s point b → Raised (best_after b f.best) (value_after b f.value)
  raised None r = record { committed = h.committed; tickets = h.best ∙ sym r; stands = subst (λ (k : List Ticket). Stands f.value (value_fraction p.game k)) (sym h.best) h.value }
  raised (Some b) r = record { committed = r.0; tickets = r.1; stands = r.2 }

  pub lower-positive : pos 1 ≤ℤ (lower p t).den
  lower-positive = positive-value p.game h.peopled (incumbent p t)
      (incumbent-first p t h.first (All-append (IsResult p.game) s.worked (w ∷ []) h.results (All-cons (IsResult p.game) w [] result (All-nil (IsResult p.game))))).commitment

  pub stands-after : (best : Committed) (value : Fraction) → Raised best value → Stands value (lower p t)
  stands-after best value up = subst (λ (k : List Ticket). Stands value (value_fraction p.game k)) (up.tickets ∙ sym (incumbent-after p s f h lane node fact point holds result)) up.stands
