-- What holds of the point of a state of a program over the coverage table, and of the commitment that its counts are made into.
use Rattle.std.specs.Prelude.{◌≡◌, ℕ, ◌≤◌, if◌then◌else◌, List, length, ℤ, pos, ◌+ℤ◌, ◌*ℤ◌, ◌≤ℤ◌, ◌<ℤ◌}
use Rattle.sg_model.specs.declared.kind.Kind.TheVariants.{Security}
use Rattle.sg_model.specs.declared.ticket.Ticket.{Ticket}
use Rattle.sg_model.specs.Commitments.{IsCommitment}
use Rattle.sg_model.specs.Sums.{numbers, total}
use Rattle.sg_model.specs.Games.{Game, attacker, payoff, resource_count, resource_schedules}
use Rattle.sg_model.specs.Limits.{IsGame}
use Rattle.sg_model.specs.Payoffs.{shift_of}
use Rattle.sg_game.specs.Counting.{IsSingle}
use Rattle.sg_commit.specs.Committed.{Committed, IsCommitted}
use Rattle.sg_search.specs.Results.{Reaches}
use Rattle.sg_tree.specs.declared.fix.Fix.{Fix}
use Rattle.sg_bounds.specs.Coverage as table
use Rattle.sg_bounds.specs.Regions.{IsFix, IsInRegion, act_of, fixed}
use Rattle.sg_split.specs.Matched.{AreChoiceCounts, IsMatched}
use Rattle.sg_rows.specs.Rows.{place}
use Rattle.sg_lp.specs.Moves.{IsFinal}
use Rattle.sg_lp.specs.States.{IsTableau, Tableau}
use Rattle.sg_programs.specs.CoverPoints.{AreCountsUnder, amount_of, cover_whole, coverage_sum}
use Rattle.sg_programs.specs.CoverPrograms.{cover_fact, cover_program}
use Rattle.sg_programs.specs.Laws.{IsComparison}

-- the amounts of a state's point: none is below 0; a resource takes its choices together, and a target is covered, at most always; a target is covered
-- no more than it is held; no fixed type gains by another target; and what the defender gets of the fixed types, with the shift, is what the
-- multipliers say. Always is the whole, where the first multiplier isn't 0
pub record KeepsTable (g : Game) (fix : Fix) (t : Tableau) : Type 0 where
  pub filled : pos 0 <ℤ place t.y 0 → amount_of g fix t table.always ≡ cover_whole g fix t
  pub nonnegative : (c : table.Column) → pos 0 ≤ℤ amount_of g fix t c
  pub choices : (r : ℕ) → 1 ≤ r → r ≤ resource_count g → total (λ j. amount_of g fix t (table.chooses r j)) (numbers (length (resource_schedules g r))) ≤ℤ amount_of g fix t table.always
  pub within : (u : ℕ) → 1 ≤ u → u ≤ length g.goals → amount_of g fix t (table.covering u) ≤ℤ amount_of g fix t table.always
  pub held : (u : ℕ) → 1 ≤ u → u ≤ length g.goals
      → amount_of g fix t (table.covering u)
      ≤ℤ total (λ r. total (λ j. if table.choice_holds g r j u then amount_of g fix t (table.chooses r j) else pos 0) (numbers (length (resource_schedules g r)))) (numbers (resource_count g))
  pub gains : (l b : ℕ) → IsComparison g fix (l, b)
      → coverage_sum (payoff g l b).ac (payoff g l b).au (amount_of g fix t table.always) (amount_of g fix t (table.covering b))
      ≤ℤ coverage_sum (payoff g l (act_of fix l)).ac (payoff g l (act_of fix l)).au (amount_of g fix t table.always) (amount_of g fix t (table.covering (act_of fix l)))
  pub value : t.rho
      *ℤ total (λ (p : ℕ × ℕ). (attacker g p.0).prior *ℤ (coverage_sum (payoff g p.0 p.1).dc (payoff g p.0 p.1).du (amount_of g fix t table.always) (amount_of g fix t (table.covering p.1)) +ℤ (shift_of g *ℤ amount_of g fix t table.always))) (fixed fix)
      ≡ cover_whole g fix t *ℤ place t.y 0

abbrev pub PointKeepsTable : Type 0
PointKeepsTable = (g : Game) → IsGame g → g.scale ≡ pos 0 → g.kind ≡ Security → (fix : Fix) → IsFix g fix → (t : Tableau) → IsTableau (cover_program g fix) t → KeepsTable g fix t

-- where each schedule has one target, there are counts by resource and choice within the point
abbrev pub PointHasCounts : Type 0
PointHasCounts = (g : Game) → IsGame g → g.scale ≡ pos 0 → IsSingle g → (fix : Fix) → IsFix g fix → (t : Tableau) → IsTableau (cover_program g fix) t
    → (counts : List (List ℤ)) × AreCountsUnder g (amount_of g fix t) counts

-- such counts can be had out of as many tickets as the whole has
abbrev pub CountsAreChoiceCounts : Type 0
CountsAreChoiceCounts = (g : Game) → IsGame g → g.scale ≡ pos 0 → IsSingle g → (fix : Fix) → IsFix g fix → (t : Tableau) → IsTableau (cover_program g fix) t → pos 0 <ℤ place t.y 0
    → (counts : List (List ℤ)) → AreCountsUnder g (amount_of g fix t) counts → AreChoiceCounts g counts (cover_whole g fix t)

-- and a commitment that covers each target in just what they ask for lies in the node's region; at it rho times what the defender gets of the fixed types,
-- with the shift, is mu times its total
abbrev pub MatchedReachesFact : Type 0
MatchedReachesFact = (g : Game) → IsGame g → g.scale ≡ pos 0 → IsSingle g → (fix : Fix) → IsFix g fix → (t : Tableau) → IsTableau (cover_program g fix) t → pos 0 <ℤ place t.y 0
    → (counts : List (List ℤ)) → AreCountsUnder g (amount_of g fix t) counts → (k : Committed) → IsCommitted k → IsMatched g counts (cover_whole g fix t) k → Reaches g fix (cover_fact t.y t.rho) k.tickets

-- where the first multiplier of a final state is 0 the region is empty
abbrev pub NoCoverMeansEmpty : Type 0
NoCoverMeansEmpty = (g : Game) → IsGame g → g.kind ≡ Security → (fix : Fix) → IsFix g fix → (t : Tableau) → IsTableau (cover_program g fix) t → IsFinal (cover_program g fix) t
    → place t.y 0 ≡ pos 0 → (k : List Ticket) → IsCommitment g k → IsInRegion g fix k → ⊥
