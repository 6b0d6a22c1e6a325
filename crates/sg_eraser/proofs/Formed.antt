-- Sums of products formed one after another, and whether a column enters.
use Rattle.std.proofs.Common.{◌≡◌, ◌∙◌, ℕ, ◌+◌, ◌<◌, ◌≤◌, Bool, true, false, List, [], ◌∷◌, drop, length, sym, ap, refl, get_or, Result, Ok, Err, Option, Some}
use Rattle.std.specs.Prelude.{ℤ, pos, ◌+ℤ◌, ◌*ℤ◌, int_lt, if◌then◌else◌}
use Rattle.std.proofs.lemmas.List.{drop_all, drop_more}
use Rattle.sg_num.specs.declared.step.Wide.{Wide}
use Rattle.sg_num.specs.Exact.{and_then, exact_dot_step, exact_times, fits}
use Rattle.sg_num.specs.Operations.{first_wide, formed, is_formed, times}
use Rattle.sg_rows.specs.Rows.{place}
use Rattle.sg_rows.proofs.Fitting.{Err-stops, Ok-fits, Ok-value, fits-formed}
use Rattle.sg_rows.proofs.Forming.{dot_step-formed}
use Rattle.sg_eraser.specs.declared.sparse.RowEntry.{RowEntry}
use Rattle.sg_eraser.specs.Nonzero.{nonzero_steps, nonzero_sum}

-- what is formed of these entries from acc on
abbrev pub formed_of : List ℤ → ℤ → List RowEntry → Result ℤ Wide
formed_of y acc xs = formed (nonzero_steps y acc xs) (nonzero_sum y acc xs)

opened : (y : List ℤ) (xs : List RowEntry) (i : ℕ) (d : RowEntry) (acc : ℤ) → i < length xs
    → formed_of y acc (drop i xs)
    ≡ and_then (exact_dot_step acc (place y (get_or xs i d).row) (get_or xs i d).value) (λ _. formed_of y (acc +ℤ (place y (get_or xs i d).row *ℤ (get_or xs i d).value)) (drop (i + 1) xs))
opened y xs i d acc lt =
    let x : RowEntry = get_or xs i d in
    let s : ℤ = acc +ℤ (place y x.row *ℤ x.value) in
    ap (formed_of y acc) (drop_more xs i d lt) ∙ dot_step-formed acc (place y x.row) x.value (nonzero_steps y s (drop (i + 1) xs)) (nonzero_sum y s (drop (i + 1) xs))

pub sum-more : (y : List ℤ) (xs : List RowEntry) (i : ℕ) (d : RowEntry) (acc next : ℤ) → i < length xs → Ok next ≡ exact_dot_step acc (place y (get_or xs i d).row) (get_or xs i d).value
    → next ≡ acc +ℤ (place y (get_or xs i d).row *ℤ (get_or xs i d).value) → formed_of y acc (drop i xs) ≡ formed_of y next (drop (i + 1) xs)
sum-more y xs i d acc next lt is value =
    let x : RowEntry = get_or xs i d in
    opened y xs i d acc lt
    ∙ ap (λ (r : Result ℤ Wide). and_then r (λ _. formed_of y (acc +ℤ (place y x.row *ℤ x.value)) (drop (i + 1) xs))) (sym is)
    ∙ ap (λ (z : ℤ). formed_of y z (drop (i + 1) xs)) (sym value)

pub sum-stops : (y : List ℤ) (xs : List RowEntry) (i : ℕ) (d : RowEntry) (acc : ℤ) (w : Wide) → i < length xs → Err w ≡ exact_dot_step acc (place y (get_or xs i d).row) (get_or xs i d).value → formed_of y acc (drop i xs) ≡ Err w
sum-stops y xs i d acc w lt is =
    let x : RowEntry = get_or xs i d in
    opened y xs i d acc lt ∙ ap (λ (r : Result ℤ Wide). and_then r (λ _. formed_of y (acc +ℤ (place y x.row *ℤ x.value)) (drop (i + 1) xs))) (sym is)

pub sum-all : (y : List ℤ) (xs : List RowEntry) (i : ℕ) (acc : ℤ) → length xs ≤ i → formed_of y acc (drop i xs) ≡ Ok acc
sum-all y xs i acc le = ap (formed_of y acc) (drop_all i xs le)

-- ---- whether a column enters

-- a product that fits, and what is formed behind it
behind : {A : Type 0} (a b v : ℤ) (rest : List Wide) (value : A) → Ok v ≡ exact_times a b → (v ≡ a *ℤ b) × (formed (times a b ∷ rest) value ≡ formed rest value)
behind {A = A} a b v rest value e = go (fits (a *ℤ b)) e
  where
    go : (t : Bool) → ◌≡◌ {A = Result ℤ Wide} (Ok v) (if t then Ok (a *ℤ b) else Err (times a b)) → (v ≡ a *ℤ b) × ((if t then formed rest value else Err (times a b)) ≡ formed rest value)
    go true q = (cc, refl)
    go false q = absurd (cc)

stops-formed : {A : Type 0} (steps : List Wide) (value : A) (w : Wide) → first_wide steps ≡ Some w → formed steps value ≡ Err w
stops-formed [] value w e = absurd (cc)
stops-formed {A = A} (s ∷ ss) value w e = go (is_formed s) (λ q. stops-formed ss value w q) e
  where
    go : (t : Bool) → (first_wide ss ≡ Some w → formed ss value ≡ Err w) → ◌≡◌ {A = Option Wide} (if t then first_wide ss else Some s) (Some w) → ◌≡◌ {A = Result A Wide} (if t then formed ss value else Err s) (Err w)
    go true rec q = rec q
    go false rec q = let same : s ≡ w = cc in ap (λ (u : Wide). Err u) same

module _ (y : List ℤ) (xs : List RowEntry) (rho cost worth : ℤ) (is : Ok worth ≡ exact_times rho cost) where
  abbrev steps : List Wide
  steps = nonzero_steps y (pos 0) xs

  abbrev answer : Bool
  answer = int_lt (nonzero_sum y (pos 0) xs) (rho *ℤ cost)

  pub enters-formed : (allowed : ℤ) → Ok allowed ≡ formed_of y (pos 0) xs → Ok (int_lt allowed worth) ≡ formed (times rho cost ∷ steps) answer
  enters-formed allowed e =
      let b = behind rho cost worth steps answer is in
      let sum = Ok-value steps (nonzero_sum y (pos 0) xs) allowed e in
      let same : int_lt allowed worth ≡ answer = ap (λ (z : ℤ). int_lt z worth) sum ∙ ap (int_lt (nonzero_sum y (pos 0) xs)) b.0 in
      ap (λ (t : Bool). Ok t) same ∙ sym (b.1 ∙ fits-formed steps answer (Ok-fits steps (nonzero_sum y (pos 0) xs) allowed e))

  pub enters-stops : (w : Wide) → Err w ≡ formed_of y (pos 0) xs → Err w ≡ formed (times rho cost ∷ steps) answer
  enters-stops w e = sym ((behind rho cost worth steps answer is).1 ∙ stops-formed steps answer w (Err-stops steps (nonzero_sum y (pos 0) xs) w e))
