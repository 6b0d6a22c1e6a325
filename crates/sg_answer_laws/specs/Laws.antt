-- The report of a search is a report text's report, and its text is short enough to be read again.
use Rattle.std.specs.Prelude.{◌≡◌, ◌^◌, ◌≤◌, length, Ok}
use Rattle.sg_options.specs.declared.budget.Budget.{Budget}
use Rattle.sg_tree.specs.declared.report.Report.{Report}
use Rattle.sg_cert.specs.Ranges.{IsReport, IsReportText}
use Rattle.sg_cert.specs.Reading.{report_of}
use Rattle.sg_cert.specs.Text.{report_text}
use Rattle.sg_search.specs.Searches.{Task, Search}
use Rattle.sg_programs.specs.NodeTests.{Method}
use Rattle.sg_answer_laws.specs.Answers.{IsAnswerOf}

-- its numbers lie in their ranges and its lists are in order
abbrev pub AnswersAreReports : Type 0
AnswersAreReports = (b : Budget) (p : Task) (m : Method) (s : Search) (r : Report) → IsAnswerOf b p m s r → IsReport r

-- so its text is a report text, and reads as the report
abbrev pub AnswersAreTexts : Type 0
AnswersAreTexts = (b : Budget) (p : Task) (m : Method) (s : Search) (r : Report) → IsAnswerOf b p m s r
    → IsReportText (report_text r) × (report_of (report_text r) ≡ Ok r)

-- its text has at most 512 MiB, what a report's file may have
abbrev pub AnswersAreShort : Type 0
AnswersAreShort = (b : Budget) (p : Task) (m : Method) (s : Search) (r : Report) → IsAnswerOf b p m s r → length (report_text r) ≤ 2 ^ 29
