-- A row is spelled as one line.
use Rattle.std.proofs.Common.{◌≡◌, ℕ, suc, ◌+◌, Bool, true, false, cond, List, [], ◌∷◌, ◌++◌, refl, arith}
use Rattle.std.specs.Prelude.{◌==◌, flat_map}
use Rattle.std.specs.List.{AllByRecursion}
use Rattle.sg_cert.specs.Text.{FieldRow}
use Rattle.sg_report_laws.specs.Faults.{newlines}
use Rattle.sg_report_laws.specs.Stops.{RowsAreLines}

newlines_append : (xs ys : List ℕ) → newlines (xs ++ ys) ≡ newlines xs + newlines ys
newlines_append [] ys = omega arith
newlines_append (x ∷ xs) ys = by_test (x == 10) (newlines_append xs ys)
  where
    by_test : (b : Bool) → newlines (xs ++ ys) ≡ newlines xs + newlines ys
        → cond b (suc (newlines (xs ++ ys))) (newlines (xs ++ ys)) ≡ cond b (suc (newlines xs)) (newlines xs) + newlines ys
    by_test true h = omega (arith, h)
    by_test false h = h

abbrev spaced : FieldRow → List ℕ
spaced fs = flat_map (λ field. 32 ∷ field) fs

fields_alone : (fs : FieldRow) → AllByRecursion (λ (field : List ℕ). newlines field ≡ 0) fs → newlines (spaced fs) ≡ 0
fields_alone [] h = refl
fields_alone (f ∷ fs) h =
    let first : newlines ((32 ∷ f) ++ spaced fs) ≡ newlines (32 ∷ f) + newlines (spaced fs) = newlines_append (32 ∷ f) (spaced fs) in
    let here : newlines (32 ∷ f) ≡ 0 = h.0 in
    let rest = fields_alone fs h.1 in
    omega (arith, first, here, rest)

pub rows_are_lines : RowsAreLines
rows_are_lines [] h = refl
rows_are_lines (w ∷ fs) h =
    let end : List ℕ = 10 ∷ [] in
    let first : newlines (w ++ (spaced fs ++ end)) ≡ newlines w + newlines (spaced fs ++ end) = newlines_append w (spaced fs ++ end) in
    let second : newlines (spaced fs ++ end) ≡ newlines (spaced fs) + 1 = newlines_append (spaced fs) end in
    let here : newlines w ≡ 0 = h.0 in
    let rest = fields_alone fs h.1 in
    omega (arith, first, second, here, rest)
