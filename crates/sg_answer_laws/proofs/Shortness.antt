-- The text of a search's report is within the limit of a report's file.
use Rattle.std.proofs.Common.{◌≡◌, ℕ, ◌+◌, ◌-◌, ◌*◌, ◌≤◌, ◌^◌, List, [], ◌++◌, length, flat_map, drop, pos, sym, subst, arith, Option, Some, slice_index_or}
use Rattle.std.specs.List.{AllByRecursion}
use Rattle.std.proofs.Math.Nat.{mul-le-mul_left}
use Rattle.std.proofs.lemmas.List.Sums.{sum_by-cons}
use Rattle.sg_options.specs.declared.budget.Budget.{Budget}
use Rattle.sg_model.specs.Games.{Game, action_count}
use Rattle.sg_model.specs.Limits.{IsGame, program_rows}
use Rattle.sg_model.proofs.Promises.{peopled}
use Rattle.sg_commit.specs.Committed.{Committed}
use Rattle.sg_tree.specs.declared.fact.Fact.{Fact}
use Rattle.sg_tree.specs.declared.fact.Fact.TheVariants.{Plays}
use Rattle.sg_tree.specs.declared.fact.Mark.{Mark}
use Rattle.sg_tree.specs.declared.fix.Fix.{Fix}
use Rattle.sg_tree.specs.declared.report.Cap.{Cap}
use Rattle.sg_tree.specs.declared.report.Report.{Report}
use Rattle.sg_tree.specs.declared.worked.Worked.{Worked}
use Rattle.sg_cert.specs.Ranges.{IsCap, IsFact, IsReport}
use Rattle.sg_cert.specs.Text.{cap_rows, fact_rows, head_rows, node_rows, report_text, tail_rows, text_of}
use Rattle.sg_bounds.specs.PlayRows.{comparisons}
use Rattle.sg_bounds.specs.Regions.{IsFix, IsNode}
use Rattle.sg_rows.specs.Rows.{place}
use Rattle.sg_search.specs.Searches.{Task, Search}
use Rattle.sg_search.specs.Bounding.{caps_of, fact_of}
use Rattle.sg_search.proofs.Counted.{budget_kept}
use Rattle.sg_search.proofs.Ranges.{fact-source}
use Rattle.sg_programs.specs.Enough.{node_budget}
use Rattle.sg_programs.specs.Marks.{marks_of}
use Rattle.sg_programs.specs.NodeTests.{ClosesNode, Method}
use Rattle.sg_programs.proofs.Heights.{comparisons-count, limit, part-le, types-sum}
use Rattle.sg_programs.proofs.Sized.{few-types}
use Rattle.sg_answer_laws.specs.Answers.{IsAnswerOf}
use Rattle.sg_answer_laws.specs.Laws.{AnswersAreShort}
use Rattle.sg_answer_laws.proofs.Budgets.{budget-range, budget-rows}
use Rattle.sg_answer_laws.proofs.Counting.{sum_from}
use Rattle.sg_answer_laws.proofs.Facts.{closed-fact, marks-few}
use Rattle.sg_answer_laws.proofs.Lengths.{head_long, length-both, plays_long, tail_long}
use Rattle.sg_answer_laws.proofs.Reports.{nodes, ranges, splits, told}
use Rattle.sg_answer_laws.proofs.Short.{all-counted, caps-short, first_count, tree-short, under_count}

-- ---- rows

-- the actions of a type are no more than the rows of the largest program
actions-within : (g : Game) → IsGame g → (l : ℕ) → 1 ≤ l → l ≤ length g.types → action_count g l ≤ program_rows g
actions-within g game l low high =
    let f : ℕ → ℕ = λ (k : ℕ). action_count g k - 1 in
    let part = part-le f l 1 (length g.types) low (omega (arith, high)) in
    let one = sum_by-cons f l [] in
    let all = types-sum g game in
    omega (arith, part, one, all)

-- so are those of a node's program
height-within : (g : Game) → IsGame g → (fix : Fix) → IsFix g fix → length (comparisons g fix) + 1 ≤ program_rows g
height-within g game fix is =
    let part = part-le (λ (k : ℕ). action_count g k - 1) fix.first (length fix.acts) (length g.types) is.from_one is.in_range in
    omega (arith, comparisons-count g fix is, part, types-sum g game)

-- the fact of a closed node
closed-long : (g : Game) → IsGame g → g.scale ≡ pos 0 → (fix : Fix) → IsNode g fix → (m : Method) (fact : Fact) (point : Option Committed) → ClosesNode g m fix fact point → length (text_of (fact_rows fact)) ≤ 40 + 55 * program_rows g
closed-long g game unscaled fix node m fact point c =
    let ms : List Mark = marks_of (comparisons g fix) (drop 1 c.state.y) in
    let few = marks-few (comparisons g fix) (drop 1 c.state.y) in
    let height = height-within g game fix node.is_fix in
    let most = limit g game unscaled in
    let is : IsFact (Plays c.state.rho (place c.state.y 0) ms) = subst IsFact c.fact_is (closed-fact g game unscaled fix node m fact point c) in
    let long = plays_long c.state.rho (place c.state.y 0) ms is (omega (arith, few, height, most)) in
    subst (λ (f : Fact). length (text_of (fact_rows f)) ≤ 40 + 55 * program_rows g) (sym c.fact_is) (omega (arith, long, few, height))

-- ---- the whole

-- the room of all worked nodes
room-most : (rows worked x y : ℕ) → x + y ≤ worked → worked * rows ≤ 6000000 → worked ≤ 1000000 → (58 + 60 * rows) * x + (58 + 60 * rows) * y ≤ 418000000
room-most rows worked x y le all few =
    let up = mul-le-mul_left (58 + 60 * rows) le in
    omega (arith, up, all, few)

module _ (b : Budget) (p : Task) (m : Method) (s : Search) (r : Report) (a : IsAnswerOf b p m s r) where
  abbrev g : Game
  g = p.game

  rows : ℕ
  rows = program_rows p.game

  fact-long : (x : Fix) (f : Fact) → fact_of s.worked x ≡ Some f → length (text_of (fact_rows f)) ≤ 40 + 55 * program_rows p.game
  fact-long x f e =
      let P : Worked → Type 0 = λ (w : Worked). length (text_of (fact_rows w.fact)) ≤ 40 + 55 * program_rows p.game in
      let src = fact-source P s.worked
      (λ i d lt. let w : Worked = slice_index_or s.worked i d in closed-long g a.task.game a.task.unscaled w.fix (nodes b p m s r a i d lt) m w.fact w.point (a.reached.worked i d lt)) x f e in
      subst (λ (h : Fact). length (text_of (fact_rows h)) ≤ 40 + 55 * program_rows p.game) src.fact src.holds

  -- worked nodes are no more than may be worked
  worked-few : (length s.worked ≤ 1000000) × (length s.worked * program_rows p.game ≤ 6000000)
  worked-few =
      let kept = (budget_kept p (peopled g a.task.game) a.reached.changes s a.reached.run).nodes in
      let is = a.task.nodes in
      let range = budget-range g a.task.game a.task.unscaled b.nodes a.budget.some_nodes a.budget.most_nodes in
      let most = range.1 in
      let few : length s.worked ≤ node_budget p.game b.nodes = omega (arith, kept, is) in
      let all = budget-rows g a.task.game b.nodes in
      let le = mul-le-mul_left (program_rows p.game) few in
      (omega (arith, few, most), omega (arith, le, all))

  caps-long : length (text_of (flat_map cap_rows r.caps)) ≤ 560 + (58 + 60 * program_rows p.game) * sum_from (first_count s) 2 (length p.game.types - 1)
  caps-long =
      let types = few-types g a.task.game in
      let are : AllByRecursion IsCap (caps_of g s) = subst (AllByRecursion IsCap) a.report.caps (ranges b p m s r a).caps in
      let long = caps-short g s (58 + 60 * program_rows p.game) (λ x f e. let h = fact-long x f e in omega (arith, h)) 2 (length p.game.types - 1) are in
      subst (λ (cs : List Cap). length (text_of (flat_map cap_rows cs)) ≤ 560 + (58 + 60 * program_rows p.game) * sum_from (first_count s) 2 (length p.game.types - 1)) (sym a.report.caps) (omega (arith, long, types))

  tree-long : length (text_of (node_rows r.tree)) ≤ 23 + 5 * program_rows p.game + (58 + 60 * program_rows p.game) * under_count s []
  tree-long =
      let most = limit g a.task.game a.task.unscaled in
      tree-short p s (splits b p m s r a) (program_rows p.game) (40 + 55 * program_rows p.game) (58 + 60 * program_rows p.game) (omega arith)
      (actions-within g a.task.game) (omega (arith, most)) (few-types g a.task.game) fact-long r.tree a.report.tree

  short : length (report_text r) ≤ 2 ^ 29
  short =
      let is : IsReport r = ranges b p m s r a in
      let few = (told b p m s r a).few in
      let most = limit g a.task.game a.task.unscaled in
      let counted = all-counted s (length p.game.types - 1) in
      let room = room-most (program_rows p.game) (length s.worked) (sum_from (first_count s) 2 (length p.game.types - 1)) (under_count s []) counted worked-few.1 worked-few.0 in
      omega (
        arith,
        length-both (head_rows r) (flat_map cap_rows r.caps ++ (node_rows r.tree ++ tail_rows r)),
        length-both (flat_map cap_rows r.caps) (node_rows r.tree ++ tail_rows r),
        length-both (node_rows r.tree) (tail_rows r),
        head_long r is (omega (arith, few)),
        caps-long,
        tree-long,
        tail_long r is,
        few,
        most,
        room,
      )

pub answers_are_short : AnswersAreShort
answers_are_short b p m s r a = short b p m s r a
