-- Worth and value as they are formed are those that are meant.
use Rattle.std.proofs.Common.{◌≡◌, ℕ, ◌+◌, ◌-◌, ◌<◌, List, [], ◌∷◌, length, ℤ, pos, ◌+ℤ◌, ◌*ℤ◌, ◌≤ℤ◌, sym, ◌∙◌, ap, subst, arith}
use Rattle.std.specs.Prelude.{Result, Ok, Err, is_ok, IfOk}
use Rattle.std.proofs.lemmas.Int.{ints}
use Rattle.sg_model.specs.declared.ticket.Ticket.{Ticket}
use Rattle.sg_model.specs.Sums.{numbers, numbers_from, total}
use Rattle.sg_model.specs.Games.{Game, attacker, prior_total}
use Rattle.sg_model.specs.Commitments.{take_of, weight_total, worth}
use Rattle.sg_model.proofs.Ints.{v, n, times, same_by, mul-le}
use Rattle.sg_num.specs.declared.step.Wide.{Wide}
use Rattle.sg_num.specs.declared.step.Op.TheVariants.{Times}
use Rattle.sg_num.specs.Exact.{and_then, exact_dot_step, exact_times}
use Rattle.sg_frac.specs.Fractions.{Fraction, IsReducedForm}
use Rattle.sg_commit.specs.ExactSums.{IsExactValue, exact_base, exact_take, exact_worth, worth_from, worth_step}
use Rattle.sg_commit.proofs.ExactSums.{comes, dot_step-is, exact-is}
use Rattle.sg_commit.proofs.Responses.{numbers_next, taken-value}

-- ---- the worth

module _ (g : Game) (k : List Ticket) where
  step-is : (acc : ℤ) (l : ℕ) (z : ℤ) → worth_step g k acc l ≡ Ok z → z ≡ acc +ℤ ((attacker g l).prior *ℤ take_of g k l)
  step-is acc l z e =
      let c = comes (exact_take g k l) (λ taken. exact_dot_step acc (attacker g l).prior taken) z e in
      let taken : c.value ≡ take_of g k l = taken-value g k l (Ok c.value) (sym c.first_is) in
      dot_step-is acc (attacker g l).prior c.value z c.then_is ∙ ap (λ (t : ℤ). acc +ℤ ((attacker g l).prior *ℤ t)) taken

  worth_from-is : (acc : ℤ) (rest : List ℕ) (z : ℤ) → worth_from g k acc rest ≡ Ok z → z ≡ acc +ℤ total (λ l. (attacker g l).prior *ℤ take_of g k l) rest
  worth_from-is acc [] z e = let r : acc ≡ z = cc in omega (arith, ints, r)
  worth_from-is acc (l ∷ rest) z e =
      let c = comes (worth_step g k acc l) (λ next. worth_from g k next rest) z e in
      omega (arith, ints, step-is acc l c.value c.first_is, worth_from-is c.value rest z c.then_is)

  pub exact_worth-is : (z : ℤ) → exact_worth g k ≡ Ok z → z ≡ worth g k
  exact_worth-is z e = let q = worth_from-is (pos 0) (numbers (length g.types)) z e in omega (arith, ints, q)

  pub worth-value : (r : Result ℤ Wide) → r ≡ exact_worth g k → IfOk r (λ z. z ≡ worth g k)
  worth-value (Ok z) e = exact_worth-is z (sym e)
  worth-value (Err w) e = tt

  module _ (i m : ℕ) (lt : i < m) where
    pub worth_more : (acc next : ℤ) → worth_step g k acc (i + 1) ≡ Ok next
        → worth_from g k acc (numbers_from (i + 1) (m - i)) ≡ worth_from g k next (numbers_from (i + 1 + 1) (m - (i + 1)))
    worth_more acc next e =
        ap (worth_from g k acc) (numbers_next i m lt) ∙ ap (λ r. and_then r (λ next. worth_from g k next (numbers_from (i + 1 + 1) (m - (i + 1))))) e

    pub worth_stops : (acc : ℤ) (wide : Wide) → worth_step g k acc (i + 1) ≡ Err wide → worth_from g k acc (numbers_from (i + 1) (m - i)) ≡ Err wide
    worth_stops acc wide e =
        ap (worth_from g k acc) (numbers_next i m lt) ∙ ap (λ r. and_then r (λ next. worth_from g k next (numbers_from (i + 1 + 1) (m - (i + 1))))) e

-- ---- what it is over

pub product-positive : (a b : ℤ) → pos 1 ≤ℤ a → pos 1 ≤ℤ b → pos 1 ≤ℤ (a *ℤ b)
product-positive a b h q =
    let m = mul-le (pos 1) a b h (omega (arith, ints, q)) in
    omega (arith, ints, m, q, same_by (times (n 1) (v b)) (v b) (omega arith))

pub base-positive : (a b : ℤ) → pos 1 ≤ℤ a → pos 1 ≤ℤ b → (r : Result ℤ Wide) → r ≡ exact_times a b → IfOk r (λ z. pos 1 ≤ℤ z)
base-positive a b h q (Ok z) e = let p : z ≡ a *ℤ b = exact-is Times a b z (sym e) in omega (arith, ints, p, product-positive a b h q)
base-positive a b h q (Err w) e = tt

-- ---- the value

pub value-is : (g : Game) (k : List Ticket) (w b : ℤ) (f : Fraction) → exact_worth g k ≡ Ok w → exact_times (weight_total k) (prior_total g) ≡ Ok b → IsReducedForm w b f → IsExactValue g k (Ok f)
value-is g k w b f e q form =
    let worth_is : w ≡ worth g k = exact_worth-is g k w e in
    let base_is : b ≡ weight_total k *ℤ prior_total g = exact-is Times (weight_total k) (prior_total g) b q in
    let formed : exact_base g k ≡ Ok b = ap (λ r. and_then r (λ worth. exact_times (weight_total k) (prior_total g))) e ∙ q in
    let whole : IsReducedForm (worth g k) (weight_total k *ℤ prior_total g) f = subst (λ (z : ℤ). IsReducedForm z (weight_total k *ℤ prior_total g) f) worth_is (subst (λ (z : ℤ). IsReducedForm w z f) base_is form) in (
      ap is_ok formed,
      whole,
      record {
        positive = whole.reduced.positive;
        same = sym whole.equal ∙ same_by (times (v f.num) (times (v (weight_total k)) (v (prior_total g)))) (times (times (v f.num) (v (weight_total k))) (v (prior_total g))) (omega arith);
      },
    )
