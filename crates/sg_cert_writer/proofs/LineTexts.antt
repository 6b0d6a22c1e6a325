-- Lines that are written part by part.
use Rattle.std.proofs.Common.{◌≡◌, ℕ, List, [], ◌∷◌, ◌++◌, sym, ap, ◌∙◌, refl, map, append_assoc}
use Rattle.std.specs.List.{flat_map}
use Rattle.std.proofs.lemmas.List.Concat.{flat_map-append}
use Rattle.std.specs.Prelude.{codes}
use Rattle.std.proofs.lemmas.List.{append-nil}
use Rattle.sg_model.specs.TextLines.{field_line}
use Rattle.sg_tree.specs.declared.report.Report.{Report}
use Rattle.sg_cert.specs.Text.{FieldRow, spaced, spell, text_of, fraction_row, claim_rows, verdict_row, head_rows, tail_rows}
use Rattle.sg_cert.proofs.Rows.{text_then}
use Rattle.sg_cert_writer.proofs.Adding.{Folds}

pub line_text : (words : List ℕ) (fs : List (List ℕ)) → (words ++ spaced fs) ++ 10 ∷ [] ≡ field_line words fs
line_text words fs = append_assoc words (spaced fs) (10 ∷ [])

pub list_text : (words : List ℕ) (fs gs : List (List ℕ)) → (words ++ spaced fs) ++ (spaced gs ++ 10 ∷ []) ≡ field_line words (fs ++ gs)
list_text words fs gs =
    append_assoc words (spaced fs) (spaced gs ++ 10 ∷ []) ∙ ap (λ (t : List ℕ). words ++ t) (sym (append_assoc (spaced fs) (spaced gs) (10 ∷ [])) ∙ ap (λ (t : List ℕ). t ++ 10 ∷ []) (sym (flat_map-append (λ (f : List ℕ). 32 ∷ f) fs gs)))

pub word_text : (words word : List ℕ) (fs gs : List (List ℕ)) → (words ++ spaced fs) ++ (32 ∷ field_line word gs) ≡ field_line words (fs ++ word ∷ gs)
word_text words word fs gs =
    append_assoc words (spaced fs) (32 ∷ field_line word gs)
    ∙ ap (λ (t : List ℕ). words ++ t)
    (ap (λ (t : List ℕ). spaced fs ++ 32 ∷ t) (sym (append_assoc word (spaced gs) (10 ∷ [])))
    ∙ sym (append_assoc (spaced fs) (spaced (word ∷ gs)) (10 ∷ []))
    ∙ ap (λ (t : List ℕ). t ++ 10 ∷ []) (sym (flat_map-append (λ (f : List ℕ). 32 ∷ f) fs (word ∷ gs))))

-- ---- lists of lines

pub folds_rows : {A : Type 0} (row : A → FieldRow) → Folds (λ (xs : List A). text_of (map row xs)) (λ (x : A). spell (row x))
folds_rows row = record { nil = refl; cons = λ x xs. refl }

pub folds_blocks : {A : Type 0} (rows : A → List FieldRow) → Folds (λ (xs : List A). text_of (flat_map rows xs)) (λ (x : A). text_of (rows x))
folds_blocks rows = record { nil = refl; cons = λ x xs. text_then (rows x) (flat_map rows xs) }

-- ---- the parts of a report

pub report_split : (a b : List FieldRow) → text_of a ++ text_of b ≡ text_of (a ++ b)
report_split a b = sym (text_then a b)

pub head_text : (r : Report) → spell (codes "patrol-report" ∷ codes "1" ∷ []) ++ (text_of (claim_rows r.tickets) ++ spell (fraction_row (codes "value") r.value)) ≡ text_of (head_rows r)
head_text r =
    ap (λ (t : List ℕ). spell (codes "patrol-report" ∷ codes "1" ∷ []) ++ t)
    (ap (λ (t : List ℕ). text_of (claim_rows r.tickets) ++ t) (sym (append-nil (spell (fraction_row (codes "value") r.value)))) ∙ report_split (claim_rows r.tickets) (fraction_row (codes "value") r.value ∷ []))

pub tail_text : (r : Report) → spell (fraction_row (codes "upper") r.upper) ++ (spell (verdict_row r.ending) ++ spell (codes "end" ∷ [])) ≡ text_of (tail_rows r)
tail_text r = refl
