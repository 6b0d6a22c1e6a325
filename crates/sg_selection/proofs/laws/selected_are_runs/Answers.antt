use Rattle.sg_selection.proofs.Made.{selected-more, selected-runs, selection-events}
use Rattle.sg_selection.proofs.Same.{same_answers_same_run}
use Rattle.sg_selection.proofs.laws.selected_are_runs.Goals as goal

pub returns-clause-runs : goal.returns-clause-runs
returns-clause-runs c = selected-runs

pub returns-clause-longer : goal.returns-clause-longer
returns-clause-longer c = selected-more

pub returns-clause-fixed : goal.returns-clause-fixed
returns-clause-fixed c = selection-events

pub returns-clause-same : goal.returns-clause-same
returns-clause-same c = same_answers_same_run
