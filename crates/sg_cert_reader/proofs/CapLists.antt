-- Caps that are read one after the other.
use Rattle.std.proofs.Common.{◌≡◌, ℕ, suc, ◌-◌, ◌+◌, ◌≤◌, ◌<◌, true, false, List, [], ◌∷◌, ◌++◌, Ok, Err, refl, sym, ◌∙◌, arith}
use Rattle.std.specs.Prelude.{codes}
use Rattle.sg_tree.specs.declared.report.Cap.{Cap}
use Rattle.sg_cert.specs.declared.fault.ReportFault.{ReportFault}
use Rattle.sg_cert_reader.specs.declared.error.ReportError.{ReportError}
use Rattle.sg_cert_reader.specs.declared.error.ReportError.TheVariants as errors
use Rattle.sg_cert.specs.Place.{Place}
use Rattle.sg_cert.specs.Lines.{next_line}
use Rattle.sg_cert_reader.specs.Steps.{FailsReport}
use Rattle.sg_cert.specs.Reading.{Read, line_begins, cap_at, caps_at}

pub caps_more : (done : List Cap) (n i : ℕ) (p q : Place) (x : Cap) (whole : Read (List Cap))
    → i < n → line_begins (codes "cap") (next_line p) ≡ true → cap_at p ≡ Ok (x, q) → caps_at done (n - i) p ≡ whole → caps_at (done ++ x ∷ []) (n - (i + 1)) q ≡ whole
unfolding caps_at
caps_more done n i p q x whole lt b h so_far =
    let k : n - i ≡ suc (n - (i + 1)) = omega arith in
    let one : caps_at done (n - i) p ≡ caps_at (done ++ x ∷ []) (n - (i + 1)) q = rw (k, b, h) refl in
    sym one ∙ so_far

pub caps_end : (done : List Cap) (n i : ℕ) (p : Place) (whole : Read (List Cap)) → n ≤ i → caps_at done (n - i) p ≡ whole → whole ≡ Ok (done, p)
unfolding caps_at
caps_end done n i p whole le so_far =
    let k : n - i ≡ 0 = omega arith in
    let one : caps_at done (n - i) p ≡ Ok (done, p) = rw k refl in
    sym so_far ∙ one

pub caps_stop : (done : List Cap) (n i : ℕ) (p : Place) (whole : Read (List Cap))
    → i < n → line_begins (codes "cap") (next_line p) ≡ false → caps_at done (n - i) p ≡ whole → whole ≡ Ok (done, p)
unfolding caps_at
caps_stop done n i p whole lt b so_far =
    let k : n - i ≡ suc (n - (i + 1)) = omega arith in
    let one : caps_at done (n - i) p ≡ Ok (done, p) = rw (k, b) refl in
    sym so_far ∙ one

fails : (done : List Cap) (n i : ℕ) (p : Place) (f : ReportFault) (whole : Read (List Cap))
    → i < n → line_begins (codes "cap") (next_line p) ≡ true → cap_at p ≡ Err f → caps_at done (n - i) p ≡ whole → whole ≡ Err f
unfolding caps_at
fails done n i p f whole lt b h so_far =
    let k : n - i ≡ suc (n - (i + 1)) = omega arith in
    let one : caps_at done (n - i) p ≡ Err f = rw (k, b, h) refl in
    sym so_far ∙ one

pub caps_fail : (done : List Cap) (n i : ℕ) (p : Place) (e : ReportError) (whole : Read (List Cap))
    → i < n → line_begins (codes "cap") (next_line p) ≡ true → FailsReport e (cap_at p) → caps_at done (n - i) p ≡ whole → FailsReport e whole
caps_fail done n i p errors.Memory whole lt b h so_far = tt
caps_fail done n i p (errors.Refused f) whole lt b h so_far = fails done n i p f whole lt b h so_far
