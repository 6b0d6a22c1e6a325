-- With few tickets nothing that is formed leaves 128 bits.
use Rattle.std.proofs.Common.{◌≡◌, ℕ, zero, suc, ◌+◌, ◌≤◌, ◌^◌, List, [], ◌∷◌, length, ℤ, pos, ◌+ℤ◌, ◌-ℤ◌, ◌*ℤ◌, ◌≤ℤ◌, sym, ◌∙◌, ap, subst, refl, arith}
use Rattle.std.specs.List.{filter}
use Rattle.std.specs.Prelude.{None, Result, Ok, Err, is_ok}
use Rattle.std.proofs.lemmas.Int.{ints}
use Rattle.std.proofs.lemmas.List.Elements.{All-head, All-tail}
use Rattle.sg_model.specs.declared.ticket.Ticket.{Ticket}
use Rattle.sg_model.specs.Sums.{nth, numbers, numbers_from, total}
use Rattle.sg_model.specs.Games.{Attacker, Game, action_count, attacker, nobody, prior_total}
use Rattle.sg_model.specs.Plays.{pay_a, pay_d}
use Rattle.sg_model.specs.Payoffs.{IsPeopled}
use Rattle.sg_model.specs.Limits.{IsGame, IsPay}
use Rattle.sg_model.specs.Commitments.{is_best, sum_a, sum_d, take_of, weight_total, worth}
use Rattle.sg_model.proofs.Ints.{v, n, plus, times, same_by, mul-le, product_nonneg}
use Rattle.sg_model.proofs.Sums.{total-nonneg, total-same}
use Rattle.sg_model.proofs.Numbers.{All-numbers, All-numbers_from}
use Rattle.sg_model.proofs.Best.{take_of-reached}
use Rattle.sg_model.proofs.Promises.{origami, pay_a-in_range, pay_d-in_range, peopled}
use Rattle.sg_model.proofs.Bound.{prior_is}
use Rattle.sg_model.proofs.Values.{prior_total-positive}
use Rattle.sg_num.specs.declared.step.Op.{Op}
use Rattle.sg_num.specs.declared.step.Op.TheVariants.{Sum, Times}
use Rattle.sg_num.specs.declared.step.Wide.{Wide}
use Rattle.sg_num.specs.Exact.{and_then, exact, exact_dot_step, exact_sum, exact_times, result_of}
use Rattle.sg_commit.specs.ExactSums.{exact_base, exact_dot, exact_sum_a, exact_sum_d, exact_take, exact_worth, first_refusal, refusal_or, unless, worth_from, worth_step}
use Rattle.sg_commit.specs.CommitmentLaws.{IsFormed, HasSmallTotal}
use Rattle.sg_model.proofs.Spans.{Within, fits_span, pay-within, product-within, room}
use Rattle.sg_num.proofs.Steps.{exact-fits, fits-from_FitsSigned}
use Rattle.sg_commit.proofs.Responses.{not_err}
use Rattle.sg_model.proofs.Covers.{ArePositive, weight_total-nonneg}

-- ---- single steps

pub exact_ok : (op : Op) (a b : ℤ) → Within (pos (2 ^ 126)) (result_of op a b) → exact op a b ≡ Ok (result_of op a b)
exact_ok op a b w = exact-fits op a b (fits-from_FitsSigned (result_of op a b) (fits_span (2 ^ 126) (result_of op a b) (omega arith) w))

pub dot_step-ok : (acc a b : ℤ) → Within (pos (2 ^ 126)) (a *ℤ b) → Within (pos (2 ^ 126)) (acc +ℤ a *ℤ b) → exact_dot_step acc a b ≡ Ok (acc +ℤ a *ℤ b)
dot_step-ok acc a b p s =
    ap (λ r. and_then r (λ product. exact_sum acc product)) (exact_ok Times a b p) ∙ exact_ok Sum acc (a *ℤ b) s

-- ---- sums over tickets

module _ (pay : Ticket → ℤ) (range : (x : Ticket) → IsPay (pay x)) where
  dot-ok : (acc : ℤ) (k : List Ticket) → ArePositive k → Within (pos (2 ^ 126) -ℤ weight_total k *ℤ pos (2 ^ 30)) acc
      → exact_dot pay acc k ≡ Ok (acc +ℤ total (λ (x : Ticket). x.weight *ℤ pay x) k)
  dot-ok acc [] positive b = ap Ok (omega (arith, ints))
  dot-ok acc (x ∷ xs) positive b =
      let w : ℤ = x.weight in
      let c : ℤ = pos (2 ^ 30) in
      let some : pos 0 ≤ℤ w = omega (arith, ints, All-head (λ (x : Ticket). pos 1 ≤ℤ x.weight) x xs positive) in
      let later : ArePositive xs = All-tail (λ (x : Ticket). pos 1 ≤ℤ x.weight) x xs positive in
      let split : (w +ℤ weight_total xs) *ℤ c ≡ (w *ℤ c) +ℤ (weight_total xs *ℤ c) = same_by (times (plus (v w) (v (weight_total xs))) (v c)) (plus (times (v w) (v c)) (times (v (weight_total xs)) (v c))) (omega arith) in
      let r = room acc (w *ℤ pay x) (w *ℤ c) (weight_total xs *ℤ c) (product-within w c (pay x) some (pay-within (pay x) (range x)))
      (product_nonneg w c some (omega (arith, ints))) (product_nonneg (weight_total xs) c (weight_total-nonneg xs later) (omega (arith, ints)))
      (subst (λ (m : ℤ). Within (pos (2 ^ 126) -ℤ m) acc) split b) in
      ap (λ r. and_then r (λ next. exact_dot pay next xs)) (dot_step-ok acc w (pay x) r.0 r.1)
      ∙ (dot-ok (acc +ℤ w *ℤ pay x) xs later r.2 ∙ ap Ok (omega (arith, ints)))

  sum-within : (k : List Ticket) → ArePositive k → Within (weight_total k *ℤ pos (2 ^ 30)) (total (λ (x : Ticket). x.weight *ℤ pay x) k)
  sum-within [] positive = let e : pos 0 *ℤ pos (2 ^ 30) ≡ pos 0 = same_by (times (n 0) (n (2 ^ 30))) (n 0) (omega arith) in record { low = omega (arith, ints, e); high = omega (arith, ints, e) }
  sum-within (x ∷ xs) positive =
      let w : ℤ = x.weight in
      let c : ℤ = pos (2 ^ 30) in
      let some : pos 0 ≤ℤ w = omega (arith, ints, All-head (λ (x : Ticket). pos 1 ≤ℤ x.weight) x xs positive) in
      let rest = sum-within xs (All-tail (λ (x : Ticket). pos 1 ≤ℤ x.weight) x xs positive) in
      let split : (w +ℤ weight_total xs) *ℤ c ≡ (w *ℤ c) +ℤ (weight_total xs *ℤ c) = same_by (times (plus (v w) (v (weight_total xs))) (v c)) (plus (times (v w) (v c)) (times (v (weight_total xs)) (v c))) (omega arith) in
      let p = product-within w c (pay x) some (pay-within (pay x) (range x)) in
      record { low = omega (arith, ints, p.low, rest.low, split); high = omega (arith, ints, p.high, rest.high, split) }

none_refused : (form : ℕ → Result ℤ Wide) (f : ℕ → ℤ) → ((a : ℕ) → form a ≡ Ok (f a)) → (rest : List ℕ) → first_refusal form rest ≡ None
none_refused form f h [] = refl
none_refused form f h (a ∷ rest) = ap (λ r. refusal_or r (first_refusal form rest)) (h a) ∙ none_refused form f h rest

-- ---- the priors

total-later : (f : ℕ → ℤ) (a m : ℕ) → total f (numbers_from (a + 1) m) ≡ total (λ l. f (l + 1)) (numbers_from a m)
total-later f a zero = refl
total-later f a (suc m) = ap (λ (z : ℤ). f (a + 1) +ℤ z) (total-later f (a + 1) m)

-- a sum over a list is one over the numbers of its places
by_place : {X : Type 0} (f : X → ℤ) (d : X) (xs : List X) → total (λ l. f (nth xs l d)) (numbers (length xs)) ≡ total f xs
by_place f d [] = refl
by_place f d (x ∷ xs) =
    let rest = total-later (λ l. f (nth (x ∷ xs) l d)) 1 (length xs) in
    let same : total (λ l. f (nth (x ∷ xs) (l + 1) d)) (numbers (length xs)) ≡ total (λ l. f (nth xs l d)) (numbers (length xs)) =
    total-same (λ l. f (nth (x ∷ xs) (l + 1) d)) (λ l. f (nth xs l d)) (numbers (length xs)) (All-numbers (λ l. f (nth (x ∷ xs) (l + 1) d) ≡ f (nth xs l d)) (length xs) (λ l low high. ap f (next l low))) in
    ap (λ (z : ℤ). f x +ℤ z) (rest ∙ (same ∙ by_place f d xs))
  where
    next : (l : ℕ) → 1 ≤ l → nth (x ∷ xs) (l + 1) d ≡ nth xs l d
    next zero low = absurd (omega (arith, low))
    next (suc l) low = let e : suc l + 1 ≡ suc (suc l) = omega arith in ap (λ (m : ℕ). nth (x ∷ xs) m d) e

priors-sum : (g : Game) → total (λ l. (attacker g l).prior) (numbers (length g.types)) ≡ prior_total g
priors-sum g = by_place (λ (x : Attacker). x.prior) nobody g.types

-- ---- all that is formed

module _ (g : Game) (h : IsGame g) (k : List Ticket) (positive : ArePositive k) (few : weight_total k ≤ℤ pos (2 ^ 96)) where
  room_at_first : Within (pos (2 ^ 126) -ℤ weight_total k *ℤ pos (2 ^ 30)) (pos 0)
  room_at_first =
      let m = mul-le (weight_total k) (pos (2 ^ 96)) (pos (2 ^ 30)) few (omega (arith, ints)) in
      let whole : pos (2 ^ 96) *ℤ pos (2 ^ 30) ≡ pos (2 ^ 126) = refl in
      record { low = omega (arith, ints, m, whole); high = omega (arith, ints, m, whole) }

  pub few-sum_d : (l a : ℕ) → exact_sum_d g k l a ≡ Ok (sum_d g k l a)
  few-sum_d l a = dot-ok (λ (x : Ticket). pay_d g l x.play.code a) (λ x. pay_d-in_range g h l x.play.code a) (pos 0) k positive room_at_first ∙ ap Ok (omega (arith, ints))

  pub few-sum_a : (l a : ℕ) → exact_sum_a g k l a ≡ Ok (sum_a g k l a)
  few-sum_a l a = dot-ok (λ (x : Ticket). pay_a g l x.play.code a) (λ x. pay_a-in_range g h l x.play.code a) (pos 0) k positive room_at_first ∙ ap Ok (omega (arith, ints))

module _ (g : Game) (h : IsGame g) (k : List Ticket) (positive : ArePositive k) (small : HasSmallTotal g k) where
  people : IsPeopled g
  people = peopled g h

  few : weight_total k ≤ℤ pos (2 ^ 96)
  few =
      let p : pos 1 ≤ℤ prior_total g = prior_total-positive g people in
      let m = mul-le (pos 1) (prior_total g) (weight_total k) p (weight_total-nonneg k positive) in
      let turn : prior_total g *ℤ weight_total k ≡ weight_total k *ℤ prior_total g = same_by (times (v (prior_total g)) (v (weight_total k))) (times (v (weight_total k)) (v (prior_total g))) (omega arith) in
      let one : pos 1 *ℤ weight_total k ≡ weight_total k = same_by (times (n 1) (v (weight_total k))) (v (weight_total k)) (omega arith) in
      omega (arith, ints, m, turn, one, small)

  sum_d-ok : (l a : ℕ) → exact_sum_d g k l a ≡ Ok (sum_d g k l a)
  sum_d-ok l a = few-sum_d g h k positive few l a

  sum_a-ok : (l a : ℕ) → exact_sum_a g k l a ≡ Ok (sum_a g k l a)
  sum_a-ok l a = few-sum_a g h k positive few l a

  take-ok : (l : ℕ) → exact_take g k l ≡ Ok (take_of g k l)
  take-ok l =
      ap (λ w. unless w (unless (first_refusal (exact_sum_d g k l) (filter (is_best g k l) (numbers (action_count g l)))) (Ok (take_of g k l))))
      (none_refused (exact_sum_a g k l) (sum_a g k l) (sum_a-ok l) (numbers (action_count g l)))
      ∙ ap (λ w. unless w (Ok (take_of g k l))) (none_refused (exact_sum_d g k l) (sum_d g k l) (sum_d-ok l) (filter (is_best g k l) (numbers (action_count g l))))

  take-within : (l : ℕ) → 1 ≤ l → l ≤ length g.types → Within (weight_total k *ℤ pos (2 ^ 30)) (take_of g k l)
  take-within l low high =
      let r = take_of-reached g k l (people.actions l low high) in
      subst (Within (weight_total k *ℤ pos (2 ^ 30))) (sym r.1.gives) (sum-within (λ (x : Ticket). pay_d g l x.play.code r.0) (λ x. pay_d-in_range g h l x.play.code r.0) k positive)

  priors-nonneg : (a m : ℕ) → 1 ≤ a → a + m ≤ length g.types + 1 → pos 0 ≤ℤ total (λ l. (attacker g l).prior) (numbers_from a m)
  priors-nonneg a m low high =
      total-nonneg (λ l. (attacker g l).prior) (numbers_from a m)
      (All-numbers_from (λ l. pos 0 ≤ℤ (attacker g l).prior) a m (λ l from to. omega (arith, ints, people.priors l (omega arith) (omega (arith, to, high)))))

  worth-ok : (acc : ℤ) (a m : ℕ) → 1 ≤ a → a + m ≤ length g.types + 1
      → Within (pos (2 ^ 126) -ℤ total (λ l. (attacker g l).prior) (numbers_from a m) *ℤ (weight_total k *ℤ pos (2 ^ 30))) acc
      → worth_from g k acc (numbers_from a m) ≡ Ok (acc +ℤ total (λ l. (attacker g l).prior *ℤ take_of g k l) (numbers_from a m))
  worth-ok acc a zero low high b = ap Ok (omega (arith, ints))
  worth-ok acc a (suc m) low high b =
      let p : ℤ = (attacker g a).prior in
      let t : ℤ = take_of g k a in
      let most : ℤ = weight_total k *ℤ pos (2 ^ 30) in
      let rest : ℤ = total (λ l. (attacker g l).prior) (numbers_from (a + 1) m) in
      let in_range : a ≤ length g.types = omega (arith, high) in
      let some : pos 0 ≤ℤ p = omega (arith, ints, people.priors a low in_range) in
      let later : pos 0 ≤ℤ rest = priors-nonneg (a + 1) m (omega arith) (omega (arith, high)) in
      let most_some : pos 0 ≤ℤ most = product_nonneg (weight_total k) (pos (2 ^ 30)) (weight_total-nonneg k positive) (omega (arith, ints)) in
      let split : (p +ℤ rest) *ℤ most ≡ (p *ℤ most) +ℤ (rest *ℤ most) = same_by (times (plus (v p) (v rest)) (v most)) (plus (times (v p) (v most)) (times (v rest) (v most))) (omega arith) in
      let r = room acc (p *ℤ t) (p *ℤ most) (rest *ℤ most) (product-within p most t some (take-within a low in_range))
      (product_nonneg p most some most_some) (product_nonneg rest most later most_some) (subst (λ (z : ℤ). Within (pos (2 ^ 126) -ℤ z) acc) split b) in
      let step : worth_step g k acc a ≡ Ok (acc +ℤ p *ℤ t) = ap (λ r. and_then r (λ taken. exact_dot_step acc p taken)) (take-ok a) ∙ dot_step-ok acc p t r.0 r.1 in
      ap (λ r. and_then r (λ next. worth_from g k next (numbers_from (a + 1) m))) step
      ∙ (worth-ok (acc +ℤ p *ℤ t) (a + 1) m (omega arith) (omega (arith, high)) r.2 ∙ ap Ok (omega (arith, ints)))

  worth_whole : exact_worth g k ≡ Ok (worth g k)
  worth_whole =
      let w : ℤ = weight_total k in
      let p : ℤ = prior_total g in
      let m = mul-le (w *ℤ p) (pos (2 ^ 96)) (pos (2 ^ 30)) small (omega (arith, ints)) in
      let whole : pos (2 ^ 96) *ℤ pos (2 ^ 30) ≡ pos (2 ^ 126) = refl in
      let turn : (w *ℤ p) *ℤ pos (2 ^ 30) ≡ p *ℤ (w *ℤ pos (2 ^ 30)) = same_by (times (times (v w) (v p)) (n (2 ^ 30))) (times (v p) (times (v w) (n (2 ^ 30)))) (omega arith) in
      let all : total (λ l. (attacker g l).prior) (numbers (length g.types)) *ℤ (w *ℤ pos (2 ^ 30)) ≡ p *ℤ (w *ℤ pos (2 ^ 30)) = ap (λ (z : ℤ). z *ℤ (w *ℤ pos (2 ^ 30))) (priors-sum g) in
      worth-ok (pos 0) 1 (length g.types) (omega arith) (omega arith) (record { low = omega (arith, ints, m, whole, turn, all); high = omega (arith, ints, m, whole, turn, all) })
      ∙ ap Ok (omega (arith, ints))

  base-ok : exact_base g k ≡ Ok (weight_total k *ℤ prior_total g)
  base-ok =
      let p : pos 0 ≤ℤ (weight_total k *ℤ prior_total g) = product_nonneg (weight_total k) (prior_total g) (weight_total-nonneg k positive) (omega (arith, ints, prior_total-positive g people)) in
      ap (λ r. and_then r (λ worth. exact_times (weight_total k) (prior_total g))) worth_whole
      ∙ exact_ok Times (weight_total k) (prior_total g) (record { low = omega (arith, ints, p); high = omega (arith, ints, small) })

  pub small-formed : IsFormed g k
  small-formed = record { defender = sum_d-ok; attacker = sum_a-ok; taken = take-ok; worth = worth_whole; base = base-ok }

pub scaled-small : (g : Game) → IsGame g → pos 1 ≤ℤ g.scale → (k : List Ticket) → weight_total k ≤ℤ pos (2 ^ 96) → HasSmallTotal g k
scaled-small g h scaled k few =
    let o = origami g h (sym (omega (arith, ints, scaled))) in
    let p : prior_total g ≡ pos 1 = prior_is g o in
    let one : weight_total k *ℤ prior_total g ≡ weight_total k = ap (λ (z : ℤ). weight_total k *ℤ z) p ∙ same_by (times (v (weight_total k)) (n 1)) (v (weight_total k)) (omega arith) in
    omega (arith, ints, one, few)

-- so the value is no refusal
pub small-value : (g : Game) → IsGame g → (k : List Ticket) → ArePositive k → HasSmallTotal g k → (wide : Wide) → exact_base g k ≡ Err wide → ⊥
small-value g h k positive small wide e = not_err (exact_base g k) wide (ap is_ok (small-formed g h k positive small).base) e
