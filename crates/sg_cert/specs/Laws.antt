-- Laws about reading and writing.
use Rattle.std.specs.Prelude.{◌≡◌, ℕ, List, [], Ok, IsOk, ◌↔◌}
use Rattle.sg_model.specs.Commitments.{weight_total}
use Rattle.sg_tree.specs.declared.fact.Fact.TheVariants.{Water}
use Rattle.sg_tree.specs.declared.tree.Tree.TheVariants.{Closed}
use Rattle.sg_tree.specs.declared.report.Ending.TheVariants.{Optimal}
use Rattle.sg_tree.specs.declared.report.Report.{Report}
use Rattle.sg_cert.specs.Reading.{report_of}
use Rattle.sg_cert.specs.Text.{report_text}
use Rattle.sg_cert.specs.WaterText.{WaterReport, water_report_text}
use Rattle.sg_cert.specs.Ranges.{IsReport, IsReportText}

-- the text of a report in its ranges reads back to that report
abbrev pub TextReadsBack : Type 0
TextReadsBack = (r : Report) → IsReport r → report_of (report_text r) ≡ Ok r

-- what reads as a report is in its ranges, and is exactly the text of that report
abbrev pub ReadIsText : Type 0
ReadIsText = (bytes : List ℕ) (r : Report) → report_of bytes ≡ Ok r → IsReport r × (report_text r ≡ bytes)

-- bytes read as a report exactly where they are a report text
abbrev pub ReportTextsRead : Type 0
ReportTextsRead = (bytes : List ℕ) → IsReportText bytes ↔ IsOk (report_of bytes)

-- a report of one water-level fact, as a report
abbrev pub report_of_water : WaterReport → Report
report_of_water r = record {
  tickets = record { tickets = r.tickets; total = weight_total r.tickets };
  value = record { num = r.value_num; den = r.value_den };
  caps = [];
  tree = Closed (Water (record { num = r.level_num; den = r.level_den }) r.why);
  upper = record { num = r.upper_num; den = r.upper_den };
  ending = Optimal;
}

-- its text is the one that is defined for such reports alone
abbrev pub WaterTextAgrees : Type 0
WaterTextAgrees = (r : WaterReport) → report_text (report_of_water r) ≡ water_report_text r
