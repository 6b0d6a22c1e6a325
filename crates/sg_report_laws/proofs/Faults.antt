-- Which line and reason reading tells.
use Rattle.std.proofs.Common.{◌≡◌, ◌≢◌, ℕ, ◌+◌, ◌<◌, ◌≤◌, Bool, true, false, cond, List, [], ◌∷◌, ◌++◌, length, Result, Ok, Err, inl, inr, refl, sym, ap, ◌∙◌, subst, arith}
use Rattle.std.specs.Prelude.{◌==◌, bytes_eq, codes}
use Rattle.std.proofs.lemmas.Slice.Eq.{bytes_eq-Decides}
use Rattle.std.proofs.lemmas.Bool.Decides.{nat_tests}
use Rattle.sg_tree.specs.declared.report.Report.{Report}
use Rattle.sg_cert.specs.declared.fault.ReportFault.{ReportFault}
use Rattle.sg_cert.specs.Lines.{line_at, line_cut, start}
use Rattle.sg_cert.specs.Reading.{first_at, head_at, report_of}
use Rattle.sg_report_laws.specs.Faults.{newlines}
use Rattle.sg_report_laws.proofs.Cuts.{line_cut_off}
use Rattle.sg_report_laws.proofs.Readers.{report}
use Rattle.sg_report_laws.proofs.Steady.{EndsLate, FaultKeeps, IsEnd, lines_to}

err_is : (g f : ReportFault) → ◌≡◌ {A = Result Report ReportFault} (Err g) (Err f) → g ≡ f
err_is g f e = cc

told : (bytes more : List ℕ) (f : ReportFault) (r later : Result Report ReportFault) → r ≡ Err f → IsEnd (start bytes) more r later
    → FaultKeeps (start bytes) f (EndsLate (lines_to (start bytes) + 1) later) (later ≡ Err f)
told bytes more f (Ok x) later e h = absurd cc
told bytes more f (Err g) later e h =
    let same : g ≡ f = cc in
    subst (λ (x : ReportFault). FaultKeeps (start bytes) x (EndsLate (lines_to (start bytes) + 1) later) (later ≡ Err x)) same h

-- what a fault says of the bytes with more behind
pub fault_told : (bytes more : List ℕ) (f : ReportFault) → report_of bytes ≡ Err f
    → FaultKeeps (start bytes) f (EndsLate (lines_to (start bytes) + 1) (report_of (bytes ++ more))) (report_of (bytes ++ more) ≡ Err f)
fault_told bytes more f e = told bytes more f (report_of bytes) (report_of (bytes ++ more)) e (report more bytes).1

pub fault_stays : (bytes more : List ℕ) (f : ReportFault) → report_of bytes ≡ Err f → f.reason ≢ 2 → report_of (bytes ++ more) ≡ Err f
fault_stays bytes more f e other = elim (fault_told bytes more f e) [ inl h ↦ absurd (other h.0) | inr h ↦ h.1.1 ]

pub early_end : (bytes : List ℕ) (f : ReportFault) → report_of bytes ≡ Err f → f.reason ≡ 2 → f.line ≡ newlines bytes + 1
early_end bytes f e two = elim (fault_told bytes [] f e) [ inl h ↦ omega (arith, h.1.0) | inr h ↦ absurd (h.0 two) ]

ended_told : (bytes more : List ℕ) (x : Report) (r later : Result Report ReportFault) → r ≡ Ok x → IsEnd (start bytes) more r later
    → later ≡ cond (length more == 0) (Ok x) (Err (record { line = 0 + newlines bytes + 1; reason = 9 }))
ended_told bytes more x (Err g) later e h = absurd cc
ended_told bytes more x (Ok y) later e h =
    let same : y ≡ x = cc in
    subst (λ (z : Report). later ≡ cond (length more == 0) (Ok z) (Err (record { line = 0 + newlines bytes + 1; reason = 9 }))) same h

-- what a report says of its bytes with more behind
report_told : (bytes more : List ℕ) (x : Report) → report_of bytes ≡ Ok x → report_of (bytes ++ more) ≡ cond (length more == 0) (Ok x) (Err (record { line = newlines bytes + 1; reason = 9 }))
report_told bytes more x e =
    let zero_plus : 0 + newlines bytes ≡ newlines bytes = omega arith in
    ended_told bytes more x (report_of bytes) (report_of (bytes ++ more)) e (report more bytes).1
    ∙ ap (λ (n : ℕ). cond (length more == 0) (Ok x) (Err (record { line = n + 1; reason = 9 }))) zero_plus

pub nothing_behind : (bytes more : List ℕ) (x : Report) → report_of bytes ≡ Ok x → more ≢ [] → report_of (bytes ++ more) ≡ Err (record { line = newlines bytes + 1; reason = 9 })
nothing_behind bytes [] x e some = absurd (some refl)
nothing_behind bytes (b ∷ bs) x e some =
    let there : (length (b ∷ bs) == 0) ≡ false = filled (length (b ∷ bs)) (omega arith) in
    report_told bytes (b ∷ bs) x e ∙ rw there refl
  where
    filled : (n : ℕ) → 1 ≤ n → (n == 0) ≡ false
    filled n h = grind (arith, nat_tests)

-- a fault behind a report
only_nine : (f : ReportFault) (x : Report) (b : Bool) (line : ℕ) → cond b (Ok x) (Err (record { line = line; reason = 9 })) ≡ Err f → (f.reason ≡ 9) × (f.line ≡ line)
only_nine f x true line e = absurd cc
only_nine f x false line e = let same : record { line = line; reason = 9 } ≡ f = err_is (record { line = line; reason = 9 }) f e in (ap (λ (g : ReportFault). g.reason) (sym same), ap (λ (g : ReportFault). g.line) (sym same))

ends_late_err : (n : ℕ) (f : ReportFault) (r : Result Report ReportFault) → r ≡ Err f → EndsLate n r → n ≤ f.line
ends_late_err n f (Ok y) e h = absurd cc
ends_late_err n f (Err g) e h = omega (arith, h, ap (λ (x : ReportFault). x.line) (err_is g f e))

abbrev fault : ℕ → ℕ → ReportFault
fault line reason = record { line = line; reason = reason }

two_fields : (a b c d : ℕ) → a ≡ b → c ≡ d → fault a c ≡ fault b d
two_fields a b c d e f = cc

fault_same : (g : ReportFault) (line : ℕ) → g.reason ≡ 2 → g.line ≡ line → g ≡ fault line 2
fault_same g line a b = two_fields g.line line g.reason 2 b a

pub fault_of_its_line : (bytes more : List ℕ) (f : ReportFault) → report_of (bytes ++ more) ≡ Err f → f.line ≤ newlines bytes → report_of bytes ≡ Err f
fault_of_its_line bytes more f e low = by_read (report_of bytes) refl
  where
    by_read : (r : Result Report ReportFault) → report_of bytes ≡ r → report_of bytes ≡ Err f
    by_read (Ok x) h = let late = (only_nine f x (length more == 0) (newlines bytes + 1) (sym (report_told bytes more x h) ∙ e)).1 in absurd (omega (arith, late, low))
    by_read (Err g) h =
        elim (fault_told bytes more g h) [
          | inl k ↦ (let late = ends_late_err (lines_to (start bytes) + 1) f (report_of (bytes ++ more)) e k.1.1 in absurd (omega (arith, late, low)))
          | inr k ↦ h ∙ sym k.1.1 ∙ e
        ]

pub lines_before : (bytes more : List ℕ) (f : ReportFault) → report_of (bytes ++ more) ≡ Err f → f.reason ≢ 9 → newlines bytes < f.line
    → report_of bytes ≡ Err (record { line = newlines bytes + 1; reason = 2 })
lines_before bytes more f e other low = by_read (report_of bytes) refl
  where
    by_read : (r : Result Report ReportFault) → report_of bytes ≡ r → report_of bytes ≡ Err (record { line = newlines bytes + 1; reason = 2 })
    by_read (Ok x) h = absurd (other (only_nine f x (length more == 0) (newlines bytes + 1) (sym (report_told bytes more x h) ∙ e)).0)
    by_read (Err g) h =
        elim (fault_told bytes more g h) [
          | inl k ↦ h ∙ ap Err (fault_same g (newlines bytes + 1) k.0 (omega (arith, k.1.0)))
          | inr k ↦ (
              let same : g ≡ f = err_is g f (sym k.1.1 ∙ e) in
              let bound = k.1.0 (λ nine. other (ap (λ (x : ReportFault). x.reason) (sym same) ∙ nine)) in
              absurd (omega (arith, bound, low, ap (λ (x : ReportFault). x.line) same)))
        ]

-- ---- the first line

other_text : (line text : List ℕ) → line ≢ text → bytes_eq line text ≡ false
other_text line text other = by_test (bytes_eq line text) refl
  where
    by_test : (b : Bool) → bytes_eq line text ≡ b → bytes_eq line text ≡ false
    by_test true e = absurd (other ((bytes_eq-Decides line text).0 e))
    by_test false e = e

first_line : (line more : List ℕ) → newlines line ≡ 0 → line_at (start (line ++ 10 ∷ more)) ≡ Ok (line, record { rest = more; line = 1 })
unfolding line_at
first_line line more h = ap (line_cut 1) (line_cut_off line more h)

first_refused : (line more text : List ℕ) → newlines line ≡ 0 → line ≢ text → first_at text (start (line ++ 10 ∷ more)) ≡ Err (record { line = 1; reason = 1 })
unfolding first_at
first_refused line more text h other = rw (first_line line more h, other_text line text other) refl

head_refused : (line more : List ℕ) → newlines line ≡ 0 → line ≢ codes "patrol-report 1" → head_at (start (line ++ 10 ∷ more)) ≡ Err (record { line = 1; reason = 1 })
unfolding head_at
head_refused line more h other = rw (first_refused line more (codes "patrol-report 1") h other) refl

pub other_first_line : (line more : List ℕ) → newlines line ≡ 0 → line ≢ codes "patrol-report 1" → report_of (line ++ 10 ∷ more) ≡ Err (record { line = 1; reason = 1 })
unfolding report_of
other_first_line line more h other = rw (head_refused line more h other) refl
