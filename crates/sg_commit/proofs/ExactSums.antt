-- What is formed within 128 bits is the sum that is meant.
use Rattle.std.proofs.Common.{◌≡◌, ℕ, Bool, true, false, cond, List, [], ◌∷◌, ℤ, pos, ◌+ℤ◌, ◌*ℤ◌, sym, ◌∙◌, ap, refl, arith, ◌+◌, ◌<◌, drop, length, slice_index_or}
use Rattle.std.specs.Prelude.{Result, Ok, Err, IfOk}
use Rattle.std.proofs.lemmas.Int.{ints}
use Rattle.std.proofs.lemmas.List.{drop_more}
use Rattle.sg_model.specs.declared.ticket.Ticket.{Ticket}
use Rattle.sg_model.specs.Sums.{total}
use Rattle.sg_num.specs.declared.step.Wide.{Wide}
use Rattle.sg_num.specs.declared.step.Op.{Op}
use Rattle.sg_num.specs.declared.step.Op.TheVariants.{Sum, Times}
use Rattle.sg_num.specs.Exact.{and_then, exact, exact_dot_step, exact_sum, exact_times, fits, result_of}
use Rattle.sg_commit.specs.ExactSums.{exact_dot}

-- a result of two steps comes of a first value
pub record Comes {A B : Type 0} (first : Result A Wide) (next : A → Result B Wide) (z : B) : Type 0 where
  pub value : A
  pub first_is : first ≡ Ok value
  pub then_is : next value ≡ Ok z

pub comes : {A B : Type 0} (first : Result A Wide) (next : A → Result B Wide) (z : B) → and_then first next ≡ Ok z → Comes first next z
comes (Ok x) next z e = record { value = x; first_is = refl; then_is = e }
comes (Err w) next z e = cc

pub exact-is : (op : Op) (a b z : ℤ) → exact op a b ≡ Ok z → z ≡ result_of op a b
exact-is op a b z e = by (fits (result_of op a b)) _ e
  where
    by : (t : Bool) (w : Wide) → cond t (Ok (result_of op a b)) (Err w) ≡ Ok z → z ≡ result_of op a b
    by true w q = cc
    by false w q = cc

pub dot_step-is : (acc a b z : ℤ) → exact_dot_step acc a b ≡ Ok z → z ≡ acc +ℤ a *ℤ b
dot_step-is acc a b z e =
    let c = comes (exact_times a b) (λ product. exact_sum acc product) z e in
    let p : c.value ≡ a *ℤ b = exact-is Times a b c.value c.first_is in
    let s : z ≡ acc +ℤ c.value = exact-is Sum acc c.value z c.then_is in
    omega (arith, ints, p, s)

pub exact_dot-is : (pay : Ticket → ℤ) (acc : ℤ) (k : List Ticket) (z : ℤ) → exact_dot pay acc k ≡ Ok z → z ≡ acc +ℤ total (λ (x : Ticket). x.weight *ℤ pay x) k
exact_dot-is pay acc [] z e = let r : acc ≡ z = cc in omega (arith, ints, r)
exact_dot-is pay acc (x ∷ xs) z e =
    let c = comes (exact_dot_step acc x.weight (pay x)) (λ next. exact_dot pay next xs) z e in
    omega (arith, ints, dot_step-is acc x.weight (pay x) c.value c.first_is, exact_dot-is pay c.value xs z c.then_is)

-- the same of any result
pub dot-value : (pay : Ticket → ℤ) (k : List Ticket) (r : Result ℤ Wide) → r ≡ exact_dot pay (pos 0) k → IfOk r (λ z. z ≡ total (λ (x : Ticket). x.weight *ℤ pay x) k)
dot-value pay k (Ok z) e = let q = exact_dot-is pay (pos 0) k z (sym e) in omega (arith, ints, q)
dot-value pay k (Err w) e = tt

-- one ticket more
pub dot_more : (pay : Ticket → ℤ) (k : List Ticket) (i : ℕ) (acc next : ℤ) (d : Ticket) → i < length k
    → Ok next ≡ exact_dot_step acc (slice_index_or k i d).weight (pay (slice_index_or k i d)) → exact_dot pay acc (drop i k) ≡ exact_dot pay next (drop (i + 1) k)
dot_more pay k i acc next d lt e =
    ap (exact_dot pay acc) (drop_more k i d lt) ∙ ap (λ r. and_then r (λ z. exact_dot pay z (drop (i + 1) k))) (sym e)

-- and where it is refused
pub dot_stops : (pay : Ticket → ℤ) (k : List Ticket) (i : ℕ) (acc : ℤ) (wide : Wide) (d : Ticket) → i < length k
    → Err wide ≡ exact_dot_step acc (slice_index_or k i d).weight (pay (slice_index_or k i d)) → exact_dot pay acc (drop i k) ≡ Err wide
dot_stops pay k i acc wide d lt e =
    ap (exact_dot pay acc) (drop_more k i d lt) ∙ ap (λ r. and_then r (λ z. exact_dot pay z (drop (i + 1) k))) (sym e)
