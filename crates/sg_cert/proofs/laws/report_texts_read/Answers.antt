use Rattle.std.proofs.Common.{◌≡◌, List, ℕ, Result, Ok, Err, sym, refl, ◌∙◌, ap}
use Rattle.std.specs.Prelude.{IsOk}
use Rattle.sg_tree.specs.declared.report.Report.{Report}
use Rattle.sg_cert.specs.declared.fault.ReportFault.{ReportFault}
use Rattle.sg_cert.specs.Reading.{report_of}
use Rattle.sg_cert.specs.Ranges.{IsReportText}
use Rattle.sg_cert.proofs.WholeAgain.{whole_again}
use Rattle.sg_cert.proofs.WholeBack.{whole_forth}
use Rattle.sg_cert.proofs.laws.report_texts_read.Goals as goal

is_ok : (x : Result Report ReportFault) (r : Report) → x ≡ Ok r → IsOk x
is_ok (Ok y) r e = refl
is_ok (Err y) r e = absurd cc

from_ok : (bytes : List ℕ) (x : Result Report ReportFault) → report_of bytes ≡ x → IsOk x → IsReportText bytes
from_ok bytes (Ok r) e h = (r, whole_forth bytes r e)
from_ok bytes (Err f) e h = absurd cc

pub returns : goal.returns
returns c = λ bytes. (λ h. is_ok (report_of bytes) h.0 (ap report_of (sym h.1.1) ∙ whole_again h.0 h.1.0), λ h. from_ok bytes (report_of bytes) refl h)
