-- A small search and reports of it, worked out by hand.
use Rattle.std.specs.Prelude.{◌≡◌, ◌^◌, [], ◌∷◌, length, pos, None}
use Rattle.sg_options.specs.declared.budget.Budget.{Budget}
use Rattle.sg_num.specs.Operations.{plus, times}
use Rattle.sg_model.specs.Examples.{two_players}
use Rattle.sg_tree.specs.declared.report.Cause.TheVariants.{Nodes, Pivots, Wide}
use Rattle.sg_tree.specs.declared.report.Ending.TheVariants.{Optimal, Gap}
use Rattle.sg_tree.specs.declared.report.Report.{Report}
use Rattle.sg_tree.specs.declared.tree.Tree.TheVariants.{Unproved, Split}
use Rattle.sg_cert.specs.Text.{report_text}
use Rattle.sg_bounds.specs.Examples.{nested_report, one_alone, over, plain_cap, reported}
use Rattle.sg_bounds.specs.Regions.{prefix}
use Rattle.sg_search.specs.Searches.{first_search}
use Rattle.sg_search.specs.Examples.{after_all, task}
use Rattle.sg_programs.specs.NodeTests.{listed_plays}
use Rattle.sg_answer_laws.specs.Answers.{HasOperandsAt, IsAnswerOf, IsEndingOf}

-- at most 100 nodes, and 10 moves and looks for each
abbrev pub hundred_nodes : Budget
hundred_nodes = record { nodes = 100; pivots = 10; looks = 10 }

-- no node was worked: the first commitment has the value 3, and the upper bound is 4
abbrev pub start_report : Report
start_report = reported one_alone 1 (over 3 1) (plain_cap 2 4) (Split 1 None (Unproved ∷ Unproved ∷ [])) (over 4 1) (Gap (Nodes 100))

pub record WorkedAnswers : Type 0 where
  -- what is asked of a report's search holds of this one
  pub start : IsAnswerOf hundred_nodes (task 1) (listed_plays two_players 10 10) (first_search (task 1)) start_report
  -- its text has 12 lines, and that of the whole search 22
  pub start_long : length (report_text start_report) ≡ 119
  pub whole_long : length (report_text nested_report) ≡ 231
  -- a search may end with bounds that meet, or with its own number of nodes; with no other number, and with no cause of a node where none is stuck
  pub met : IsEndingOf (task 1) after_all Optimal
  pub spent : IsEndingOf (task 1) after_all (Gap (Nodes 100))
  pub other_number : ¬ (IsEndingOf (task 1) after_all (Gap (Nodes 99)))
  pub none_stuck : ¬ (IsEndingOf (task 1) after_all (Gap (Pivots 10 (prefix (1 ∷ [])))))
  -- the sum of two numbers of 128 bits may be told as one that doesn't fit, but no product with a number past them
  pub operands : HasOperandsAt (Gap (Wide 2 (plus (pos (2 ^ 126)) (pos (2 ^ 126))) 0 (prefix (1 ∷ []))))
  pub past_operands : ¬ (HasOperandsAt (Gap (Wide 2 (times (pos (2 ^ 127)) (pos 1)) 0 (prefix (1 ∷ [])))))
