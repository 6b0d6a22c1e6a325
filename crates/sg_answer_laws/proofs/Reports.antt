-- The report of a search is a report text's report.
use Rattle.std.proofs.Common.{◌≡◌, ℕ, ◌<◌, ◌^◌, false, pos, sym, ap, subst, refl, arith, Some, Contains, slice_index_or}
use Rattle.std.specs.List.{All, AllByRecursion}
use Rattle.std.specs.Prelude.{int_lt}
use Rattle.std.proofs.lemmas.Int.{ints}
use Rattle.std.proofs.lemmas.List.Elements.{All-contains}
use Rattle.sg_options.specs.declared.budget.Budget.{Budget}
use Rattle.sg_num.specs.Exact.{Fits}
use Rattle.sg_model.specs.Games.{Game, action_count}
use Rattle.sg_model.specs.Limits.{IsGame, is_scaled}
use Rattle.sg_model.specs.Payoffs.{IsPeopled}
use Rattle.sg_model.specs.Commitments.{weight_total}
use Rattle.sg_model.proofs.Promises.{peopled}
use Rattle.sg_model.proofs.Sizes.{short_lists, small_counts}
use Rattle.sg_tree.specs.declared.fact.Fact.{Fact}
use Rattle.sg_tree.specs.declared.fix.Fix.{Fix}
use Rattle.sg_tree.specs.declared.report.Cause.{Cause}
use Rattle.sg_tree.specs.declared.report.Cause.TheVariants as cause
use Rattle.sg_tree.specs.declared.report.Ending.{Ending}
use Rattle.sg_tree.specs.declared.report.Ending.TheVariants.{Optimal, Gap}
use Rattle.sg_tree.specs.declared.report.Report.{Report}
use Rattle.sg_tree.specs.declared.worked.Worked.{Worked}
use Rattle.sg_cert.specs.Ranges.{IsCap, IsCause, IsClaim, IsEnding, IsFact, IsReport}
use Rattle.sg_cert.proofs.WholeAgain.{whole_again}
use Rattle.sg_bounds.specs.Regions.{IsNode}
use Rattle.sg_search.specs.declared.held.Stuck.{Stuck}
use Rattle.sg_search.specs.Searches.{Task, Search, ArePlaced}
use Rattle.sg_search.specs.Bounding.{fact_of}
use Rattle.sg_search.specs.Results.{IsResult}
use Rattle.sg_search.proofs.Grown.{AreSplits, are_splits}
use Rattle.sg_search.proofs.Placed.{known_in_one_place}
use Rattle.sg_search.proofs.Ranges.{fact-source}
use Rattle.sg_search.proofs.Reported.{report_is_accepted}
use Rattle.sg_programs.specs.NodeTests.{Method, StopsNode}
use Rattle.sg_programs.proofs.NodeEnds.{closed_is_result}
use Rattle.sg_programs.proofs.Sized.{few-types}
use Rattle.sg_answer_laws.specs.Answers.{HasOperands, HasOperandsAt, IsAnswerOf, IsCauseOf, IsEndingOf}
use Rattle.sg_answer_laws.specs.Laws.{AnswersAreReports, AnswersAreTexts}
use Rattle.sg_answer_laws.proofs.Budgets.{budget-range}
use Rattle.sg_answer_laws.proofs.Caps.{caps-ranged}
use Rattle.sg_answer_laws.proofs.Causes.{stop-ranged}
use Rattle.sg_answer_laws.proofs.Facts.{closed-fact}
use Rattle.sg_answer_laws.proofs.Nodes.{stuck-nodes, worked-nodes}
use Rattle.sg_answer_laws.proofs.Tickets.{IsTold, incumbent-told, tickets-ranged}
use Rattle.sg_answer_laws.proofs.Trees.{tree-ranged}
use Rattle.sg_answer_laws.proofs.Values.{fractions-ranged, total-fits}

module _ (b : Budget) (p : Task) (m : Method) (s : Search) (r : Report) (a : IsAnswerOf b p m s r) where
  abbrev g : Game
  g = p.game

  game : IsGame p.game
  game = a.task.game

  is_peopled : IsPeopled p.game
  is_peopled = peopled g game

  placed : ArePlaced p.game s
  placed = known_in_one_place p is_peopled a.reached.changes s a.reached.run

  pub splits : AreSplits p s
  splits = are_splits p is_peopled a.reached.changes s a.reached.run

  pub nodes : All (λ (w : Worked). IsNode p.game w.fix) s.worked
  nodes = worked-nodes p s placed splits

  results : All (IsResult p.game) s.worked
  results i d lt = let w : Worked = slice_index_or s.worked i d in closed_is_result g game a.task.unscaled w.fix (nodes i d lt) m w.fact w.point (a.reached.worked i d lt)

  small : (l : ℕ) → action_count p.game l < 2 ^ 16
  small = (small_counts g (short_lists g game)).actions

  -- the facts of worked nodes
  facts : (x : Fix) (f : Fact) → fact_of s.worked x ≡ Some f → IsFact f
  facts x f e =
      let src = fact-source (λ (w : Worked). IsFact w.fact) s.worked (λ i d lt. let w : Worked = slice_index_or s.worked i d in closed-fact g game a.task.unscaled w.fix (nodes i d lt) m w.fact w.point (a.reached.worked i d lt)) x f e in
      subst IsFact src.fact src.holds

  -- the tickets
  pub told : IsTold p.game r.tickets.tickets
  told = subst (IsTold g) (sym a.report.tickets) (incumbent-told p s m game a.task.unscaled a.task.first a.task.one nodes a.reached.worked)

  claim : IsClaim r.tickets
  claim =
      let k = r.tickets.tickets in
      let is_k = told.first.commitment in
      let few = told.few in
      let fit : Fits (weight_total k) = total-fits g is_peopled k is_k told.first.narrow in
      record {
        rules = told.claim;
        each = tickets-ranged g game (weight_total k) fit k is_k.legal is_k.positive (omega (arith, ints));
        count = omega (arith, few);
        total = subst Fits (sym a.report.total) fit;
      }

  -- the cause of a stuck node
  stopped : (why : Cause) → (x : Stuck) × (Contains s.stuck x × (x.cause ≡ why)) → HasOperands why → IsCause why
  stopped why is fits =
      let x : Stuck = is.0 in
      let node = All-contains (λ (y : Stuck). IsNode g y.node) s.stuck x (stuck-nodes p s placed splits) is.1.0 in
      let stops = All-contains (λ (y : Stuck). StopsNode g m y.node y.cause) s.stuck x a.reached.stuck is.1.0 in
      let few_pivots = a.method.pivots in
      let some_pivots = a.budget.some_pivots in
      let most_pivots = a.budget.most_pivots in
      let few_looks = a.method.looks in
      let some_looks = a.budget.some_looks in
      let most_looks = a.budget.most_looks in
      stop-ranged g game a.task.unscaled m x.node node (a.method.kept x.node node) (few-types g game) small
      (omega (arith, few_pivots, some_pivots), omega (arith, few_pivots, most_pivots)) (omega (arith, few_looks, some_looks), omega (arith, few_looks, most_looks))
      why (subst (StopsNode g m x.node) is.1.1 stops) fits

  -- the ending
  caused : (why : Cause) → IsCauseOf p s why → HasOperands why → IsCause why
  caused (cause.Nodes n) is fits =
      let range = budget-range g game a.task.unscaled b.nodes a.budget.some_nodes a.budget.most_nodes in
      let low = range.0 in
      let high = range.1 in
      let e = a.task.nodes in
      (omega (arith, is, e, low), omega (arith, is, e, high))
  caused (cause.Pivots budget x) is fits = stopped (cause.Pivots budget x) is fits
  caused (cause.Looks budget step x) is fits = stopped (cause.Looks budget step x) is fits
  caused (cause.Wide name w step x) is fits = stopped (cause.Wide name w step x) is fits

  ended : (e : Ending) → IsEndingOf p s e → HasOperandsAt e → IsEnding e
  ended Optimal is fits = tt
  ended (Gap why) is fits = caused why is fits

  unscaled : is_scaled p.game ≡ false
  unscaled = ap (int_lt (pos 0)) a.task.unscaled

  pub ranges : IsReport r
  ranges =
      let accepted = report_is_accepted p is_peopled unscaled a.task.first a.reached.changes s a.reached.run results r a.report in
      let fractions = fractions-ranged g game unscaled r accepted in
      record {
        tickets = claim;
        value = fractions.value;
        caps = subst (AllByRecursion IsCap) (sym a.report.caps) (caps-ranged g game small s results p.first a.task.first.commitment facts);
        tree = tree-ranged g s is_peopled (few-types g game) small facts r.tree a.report.tree;
        upper = fractions.upper;
        ending = ended r.ending a.ending a.operands;
      }

pub answers_are_reports : AnswersAreReports
answers_are_reports b p m s r a = ranges b p m s r a

pub answers_are_texts : AnswersAreTexts
answers_are_texts b p m s r a = ((r, (ranges b p m s r a, refl)), whole_again r (ranges b p m s r a))
