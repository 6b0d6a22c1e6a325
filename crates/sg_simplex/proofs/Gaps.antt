-- Appended lists of operations, formed one after the other.
use Rattle.std.proofs.Common.{◌≡◌, Bool, true, false, cond, List, [], ◌∷◌, ◌++◌, ℤ, refl, ap, sym, ◌∙◌, Result, Ok, Err, length}
use Rattle.std.specs.Prelude.{◌-ℤ◌, ◌*ℤ◌}
use Rattle.sg_num.specs.declared.step.Wide.{Wide}
use Rattle.sg_num.specs.Exact.{and_then, exact_less, exact_mul_sub, exact_times, fits}
use Rattle.sg_num.specs.Operations.{formed, minus, times}
use Rattle.sg_rows.specs.Rows.{combine_steps}
use Rattle.sg_rows.proofs.Combined.{combine_steps-end}
use Rattle.sg_rows.proofs.Fitting.{Ok-fits, Ok-value, fits-formed, formed-append}
use Rattle.sg_rows.proofs.Forming.{mul_sub-formed}
use Rattle.sg_simplex.proofs.Rowwise.{Told, goes, stops, stops_any}

short-formed : (x r c : ℤ) → and_then (exact_times r c) (λ part. exact_less x part) ≡ formed (times r c ∷ minus x (r *ℤ c) ∷ []) (x -ℤ (r *ℤ c))
short-formed x r c = go (fits (r *ℤ c))
  where
    go : (t : Bool) → and_then (cond t (Ok (r *ℤ c)) (Err (times r c))) (λ part. exact_less x part) ≡ cond t (cond (fits (x -ℤ (r *ℤ c))) (Ok (x -ℤ (r *ℤ c))) (Err (minus x (r *ℤ c)))) (Err (times r c))
    go true = refl
    go false = refl

-- what is behind a list that is formed
behind : {A : Type 0} (d rest : List Wide) (v u : ℤ) (w : A) → Ok u ≡ formed d v → formed (d ++ rest) w ≡ formed rest w
behind {A} d rest v u w e = formed-append d rest w ∙ ap (λ (r : Result A Wide). and_then r (λ _. formed rest w)) (fits-formed d w (Ok-fits d v u e))

pub gap_formed : (d : List Wide) (v x r c : ℤ) (result : Result ℤ Wide) → Ok x ≡ formed d v → result ≡ and_then (exact_times r c) (λ part. exact_less x part)
    → result ≡ formed (d ++ (times r c ∷ minus v (r *ℤ c) ∷ [])) (v -ℤ (r *ℤ c))
gap_formed d v x r c result fit e =
    let is : x ≡ v = Ok-value d v x fit in
    e ∙ short-formed x r c ∙ ap (λ (z : ℤ). formed (times r c ∷ minus z (r *ℤ c) ∷ []) (z -ℤ (r *ℤ c))) is
    ∙ sym (behind d (times r c ∷ minus v (r *ℤ c) ∷ []) v x (v -ℤ (r *ℤ c)) fit)

pub gap_stops : (d rest : List Wide) (v u : ℤ) (w : Wide) → ◌≡◌ {A = Result ℤ Wide} (Err w) (formed d v) → ◌≡◌ {A = Result ℤ Wide} (Err w) (formed (d ++ rest) u)
gap_stops d rest v u w e = sym (formed-append d rest u ∙ ap (λ (r : Result ℤ Wide). and_then r (λ _. formed rest u)) (stops_any d v u w e))

-- the denominator
pub last_fits : (x p q y v : ℤ) → Ok v ≡ exact_mul_sub x p q y → ◌≡◌ {A = Told} (Ok tt) (formed (combine_steps p q (x ∷ []) (y ∷ [])) tt)
last_fits x p q y v e = sym (mul_sub-formed x p q y [] tt ∙ ap (λ (r : Result ℤ Wide). and_then r (λ _. formed [] tt)) (sym e))

pub last_stops : (x p q y : ℤ) (w : Wide) → ◌≡◌ {A = Result ℤ Wide} (Err w) (exact_mul_sub x p q y) → ◌≡◌ {A = Told} (Err w) (formed (combine_steps p q (x ∷ []) (y ∷ [])) tt)
last_stops x p q y w e = sym (mul_sub-formed x p q y [] tt ∙ ap (λ (r : Result ℤ Wide). and_then r (λ _. formed [] tt)) (sym e))

-- the multipliers with their denominator
pub with_fits : (p q : ℤ) (xs ys : List ℤ) (x y : ℤ) (result : Told) → length xs ≡ length ys → ◌≡◌ {A = Told} (Ok tt) (formed (combine_steps p q xs ys) tt) → result ≡ formed (combine_steps p q (x ∷ []) (y ∷ [])) tt
    → result ≡ formed (combine_steps p q (xs ++ (x ∷ [])) (ys ++ (y ∷ []))) tt
with_fits p q xs ys x y result same front e =
    e ∙ sym (ap (λ (ws : List Wide). formed ws tt) (combine_steps-end p q xs ys x y same) ∙ goes (combine_steps p q xs ys) (combine_steps p q (x ∷ []) (y ∷ [])) (sym front))

pub with_stops : (p q : ℤ) (xs ys : List ℤ) (x y : ℤ) (w : Wide) → length xs ≡ length ys → ◌≡◌ {A = Told} (Err w) (formed (combine_steps p q xs ys) tt) → ◌≡◌ {A = Told} (Err w) (formed (combine_steps p q (xs ++ (x ∷ [])) (ys ++ (y ∷ []))) tt)
with_stops p q xs ys x y w same e =
    sym (ap (λ (ws : List Wide). formed ws tt) (combine_steps-end p q xs ys x y same) ∙ stops (combine_steps p q xs ys) (combine_steps p q (x ∷ []) (y ∷ [])) w (sym e))
