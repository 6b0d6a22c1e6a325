-- Items that are read one after the other, as a loop does.
use Rattle.std.proofs.Common.{◌≡◌, ℕ, suc, ◌-◌, ◌+◌, ◌≤◌, ◌<◌, List, [], ◌∷◌, ◌++◌, Ok, Err, refl, sym, ◌∙◌, arith}
use Rattle.sg_cert.specs.declared.fault.ReportFault.{ReportFault}
use Rattle.sg_cert_reader.specs.declared.error.ReportError.{ReportError}
use Rattle.sg_cert_reader.specs.declared.error.ReportError.TheVariants as errors
use Rattle.sg_cert.specs.Place.{Place}
use Rattle.sg_cert_reader.specs.Steps.{FailsReport}
use Rattle.sg_cert.specs.Reading.{Read, repeat}

pub repeat_more : {A : Type 0} (item : List A → Place → Read A) (done : List A) (n i : ℕ) (p q : Place) (x : A) (whole : Read (List A))
    → i < n → item done p ≡ Ok (x, q) → repeat item done (n - i) p ≡ whole → repeat item (done ++ x ∷ []) (n - (i + 1)) q ≡ whole
unfolding repeat
repeat_more item done n i p q x whole lt h so_far =
    let k : n - i ≡ suc (n - (i + 1)) = omega arith in
    let one : repeat item done (n - i) p ≡ repeat item (done ++ x ∷ []) (n - (i + 1)) q = rw (k, h) refl in
    sym one ∙ so_far

pub repeat_end : {A : Type 0} (item : List A → Place → Read A) (done : List A) (n i : ℕ) (p : Place) (whole : Read (List A))
    → n ≤ i → repeat item done (n - i) p ≡ whole → whole ≡ Ok (done, p)
unfolding repeat
repeat_end item done n i p whole le so_far =
    let k : n - i ≡ 0 = omega arith in
    let one : repeat item done (n - i) p ≡ Ok (done, p) = rw k refl in
    sym so_far ∙ one

pub repeat_fail : {A : Type 0} (item : List A → Place → Read A) (done : List A) (n i : ℕ) (p : Place) (e : ReportFault) (whole : Read (List A))
    → i < n → item done p ≡ Err e → repeat item done (n - i) p ≡ whole → whole ≡ Err e
unfolding repeat
repeat_fail item done n i p e whole lt h so_far =
    let k : n - i ≡ suc (n - (i + 1)) = omega arith in
    let one : repeat item done (n - i) p ≡ Err e = rw (k, h) refl in
    sym so_far ∙ one

pub repeat_fails : {A : Type 0} (item : List A → Place → Read A) (done : List A) (n i : ℕ) (p : Place) (e : ReportError) (whole : Read (List A))
    → i < n → FailsReport e (item done p) → repeat item done (n - i) p ≡ whole → FailsReport e whole
repeat_fails item done n i p errors.Memory whole lt h so_far = tt
repeat_fails item done n i p (errors.Refused f) whole lt h so_far = repeat_fail item done n i p f whole lt h so_far

-- what an item reader gives beside a slice, beside the list that the slice is
pub now : {A : Type 0} (item : List A → Place → Read A) (p : Place) (slice done : List A) (x : Read A) → slice ≡ done → item slice p ≡ x → item done p ≡ x
now item p slice done x e h = rw e at h

pub now_fails : {A : Type 0} (item : List A → Place → Read A) (p : Place) (slice done : List A) (e : ReportError) → slice ≡ done → FailsReport e (item slice p) → FailsReport e (item done p)
now_fails item p slice done e h f = rw h at f
