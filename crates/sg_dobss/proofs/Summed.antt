-- Sums of products at some places, formed one after another.
use Rattle.std.proofs.Common.{◌≡◌, ◌∙◌, ℕ, ◌+◌, ◌<◌, List, drop, length, sym, ap, get_or, Result, Ok, Err}
use Rattle.std.specs.Prelude.{ℤ, ◌+ℤ◌, ◌*ℤ◌}
use Rattle.std.proofs.lemmas.List.{drop_more}
use Rattle.sg_num.specs.declared.step.Wide.{Wide}
use Rattle.sg_num.specs.Exact.{and_then, exact_dot_step}
use Rattle.sg_num.specs.Operations.{formed}
use Rattle.sg_rows.proofs.Forming.{dot_step-formed}
use Rattle.sg_programs.specs.Sparse.{steps_at, sum_at}

-- what is formed at these places from acc on
abbrev pub formed_at : (ℕ → ℤ) → (ℕ → ℤ) → ℤ → List ℕ → Result ℤ Wide
formed_at x y acc js = formed (steps_at x y acc js) (sum_at x y acc js)

opened : (x y : ℕ → ℤ) (js : List ℕ) (i : ℕ) (acc : ℤ) → i < length js
    → formed_at x y acc (drop i js) ≡ and_then (exact_dot_step acc (x (get_or js i 0)) (y (get_or js i 0))) (λ _. formed_at x y (acc +ℤ (x (get_or js i 0) *ℤ y (get_or js i 0))) (drop (i + 1) js))
opened x y js i acc lt =
    let j : ℕ = get_or js i 0 in
    let s : ℤ = acc +ℤ (x j *ℤ y j) in
    ap (formed_at x y acc) (drop_more js i 0 lt) ∙ dot_step-formed acc (x j) (y j) (steps_at x y s (drop (i + 1) js)) (sum_at x y s (drop (i + 1) js))

pub summed-more : (x y : ℕ → ℤ) (js : List ℕ) (i j : ℕ) (acc next : ℤ) → i < length js → get_or js i 0 ≡ j → Ok next ≡ exact_dot_step acc (x j) (y j) → next ≡ acc +ℤ (x j *ℤ y j)
    → formed_at x y acc (drop i js) ≡ formed_at x y next (drop (i + 1) js)
summed-more x y js i j acc next lt at is value =
    opened x y js i acc lt
    ∙ ap (λ k. and_then (exact_dot_step acc (x k) (y k)) (λ _. formed_at x y (acc +ℤ (x k *ℤ y k)) (drop (i + 1) js))) at
    ∙ ap (λ (r : Result ℤ Wide). and_then r (λ _. formed_at x y (acc +ℤ (x j *ℤ y j)) (drop (i + 1) js))) (sym is)
    ∙ ap (λ z. formed_at x y z (drop (i + 1) js)) (sym value)

pub summed-stops : (x y : ℕ → ℤ) (js : List ℕ) (i j : ℕ) (acc : ℤ) (w : Wide) → i < length js → get_or js i 0 ≡ j → Err w ≡ exact_dot_step acc (x j) (y j)
    → formed_at x y acc (drop i js) ≡ Err w
summed-stops x y js i j acc w lt at is =
    opened x y js i acc lt
    ∙ ap (λ k. and_then (exact_dot_step acc (x k) (y k)) (λ _. formed_at x y (acc +ℤ (x k *ℤ y k)) (drop (i + 1) js))) at
    ∙ ap (λ (r : Result ℤ Wide). and_then r (λ _. formed_at x y (acc +ℤ (x j *ℤ y j)) (drop (i + 1) js))) (sym is)
