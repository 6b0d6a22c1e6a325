-- The value of a commitment as a mean over types and tickets.
use Rattle.std.proofs.Common.{◌≡◌, ℕ, zero, suc, ◌+◌, ◌≤◌, List, [], ◌∷◌, length, ℤ, pos, ◌+ℤ◌, ◌*ℤ◌, ◌≤ℤ◌, ap, subst, sym, ◌∙◌, refl, arith, slice_index_or}
use Rattle.std.proofs.lemmas.Int.{ints}
use Rattle.sg_model.specs.declared.ticket.Ticket.{Ticket}
use Rattle.sg_model.specs.Sums.{nth, numbers, numbers_from, total}
use Rattle.sg_model.specs.Games.{Attacker, Game, action_count, attacker, nobody, prior_total}
use Rattle.sg_model.specs.Plays.{pay_d}
use Rattle.sg_model.specs.Payoffs.{IsPeopled}
use Rattle.sg_model.specs.PayoffLaws.{IsBestResponse}
use Rattle.sg_model.specs.Commitments.{sum_d, take_of, weight_total, worth}
use Rattle.sg_model.specs.OptimalityLaws.{AreAnswers, ValueIsMean, over_all}
use Rattle.sg_model.proofs.Ints.{v, n, times, same_by}
use Rattle.sg_model.proofs.Sums.{total-same, total-scaled}
use Rattle.sg_model.proofs.Numbers.{All-numbers}
use Rattle.sg_model.proofs.Best.{take_of-is_take, is_take-one}

total-shift : (h : ℕ → ℤ) (a m : ℕ) → total h (numbers_from (a + 1) m) ≡ total (λ l. h (l + 1)) (numbers_from a m)
total-shift h a zero = refl
total-shift h a (suc m) = ap (λ (z : ℤ). h (a + 1) +ℤ z) (total-shift h (a + 1) m)

later : {X : Type 0} (x d : X) (xs : List X) (l : ℕ) → 1 ≤ l → nth xs l d ≡ nth (x ∷ xs) (l + 1) d
later x d xs zero low = absurd (omega (arith, low))
later x d xs (suc l) low = let e : suc (suc l) ≡ suc l + 1 = omega arith in subst (λ (m : ℕ). nth xs (suc l) d ≡ nth (x ∷ xs) m d) e refl

-- a sum over a list, by the places of its items
pub total-nth : {X : Type 0} (f : X → ℤ) (d : X) (xs : List X) → total f xs ≡ total (λ l. f (nth xs l d)) (numbers (length xs))
total-nth f d [] = refl
total-nth f d (x ∷ xs) =
    let m : ℕ = length xs in
    let here = λ (l : ℕ). f (nth xs l d) in
    let there = λ (l : ℕ). f (nth (x ∷ xs) (l + 1) d) in
    let same = total-same here there (numbers m) (All-numbers (λ l. here l ≡ there l) m (λ l low high. ap f (later x d xs l low))) in
    ap (λ (z : ℤ). f x +ℤ z) (total-nth f d xs ∙ (same ∙ sym (total-shift (λ l. f (nth (x ∷ xs) l d)) 1 m)))

-- what is asked of an answer of type l
pub record IsAnswer (g : Game) (k : List Ticket) (l a : ℕ) : Type 0 where
  pub best : IsBestResponse g k l a
  pub most : (b : ℕ) → IsBestResponse g k l b → sum_d g k l b ≤ℤ sum_d g k l a

answer_of : (g : Game) (k : List Ticket) (l : ℕ) → (a : ℕ) × (1 ≤ action_count g l → IsAnswer g k l a)
answer_of g k l =
    elim (action_count g l) as (λ (m : ℕ). action_count g l ≡ m → (a : ℕ) × (1 ≤ action_count g l → IsAnswer g k l a)) [
      | zero ↦ (λ e. (0, λ some. absurd (omega (arith, e, some))))
      | suc m ↦ (λ e. let r = take_of-is_take g k l (omega (arith, e)) in
          (r.response, λ some. record { best = r.is_best; most = λ b h. omega (arith, ints, r.gives, r.most b h) }))
    ] refl

answers-some : (g : Game) → IsPeopled g → (k : List Ticket) → (answer : ℕ → ℕ) × AreAnswers g k answer
answers-some g is k = (
  λ l. (answer_of g k l).0,
  record {
    best = λ l low high. ((answer_of g k l).1 (is.actions l low high)).best;
    most = λ l a low high h. ((answer_of g k l).1 (is.actions l low high)).most a h;
  },
)

module _ (g : Game) (is : IsPeopled g) (k : List Ticket) (answer : ℕ → ℕ) (a : AreAnswers g k answer) where
  worth-mean : worth g k ≡ over_all g k (λ l x. pay_d g l x.play.code (answer l))
  worth-mean =
      let m : ℕ = length g.types in
      let one = λ (l : ℕ). (attacker g l).prior *ℤ take_of g k l in
      let two = λ (l : ℕ). total (λ (x : Ticket). ((attacker g l).prior *ℤ x.weight) *ℤ pay_d g l x.play.code (answer l)) k in
      total-same one two (numbers m)
      (All-numbers (λ l. one l ≡ two l) m
      (λ l low high.
      let p : ℤ = (attacker g l).prior in
      let taken : sum_d g k l (answer l) ≡ take_of g k l = is_take-one g k l (is.actions l low high) (sum_d g k l (answer l)) (record { response = answer l; is_best = a.best l low high; gives = refl; most = λ b h. a.most l b low high h }) in
      let outer = total-scaled (λ (x : Ticket). x.weight *ℤ pay_d g l x.play.code (answer l)) p k in
      let inner = total-same (λ (x : Ticket). p *ℤ (x.weight *ℤ pay_d g l x.play.code (answer l))) (λ (x : Ticket). (p *ℤ x.weight) *ℤ pay_d g l x.play.code (answer l)) k
      (λ i d lt. let x : Ticket = slice_index_or k i d in let w = v x.weight in let z = v (pay_d g l x.play.code (answer l)) in same_by (times (v p) (times w z)) (times (times (v p) w) z) (omega arith)) in
      ap (λ (z : ℤ). p *ℤ z) (sym taken) ∙ (sym outer ∙ inner)))

all-mean : (g : Game) (k : List Ticket) → over_all g k (λ l x. pos 1) ≡ weight_total k *ℤ prior_total g
all-mean g k =
    let m : ℕ = length g.types in
    let d : ℤ = weight_total k in
    let one = λ (l : ℕ). total (λ (x : Ticket). ((attacker g l).prior *ℤ x.weight) *ℤ pos 1) k in
    let two = λ (l : ℕ). d *ℤ (attacker g l).prior in
    let each = total-same one two (numbers m)
    (All-numbers (λ l. one l ≡ two l) m
    (λ l low high.
    let p : ℤ = (attacker g l).prior in
    let inner = total-same (λ (x : Ticket). (p *ℤ x.weight) *ℤ pos 1) (λ (x : Ticket). p *ℤ x.weight) k (λ i e lt. let x : Ticket = slice_index_or k i e in same_by (times (times (v p) (v x.weight)) (n 1)) (times (v p) (v x.weight)) (omega arith)) in
    inner ∙ (total-scaled (λ (x : Ticket). x.weight) p k ∙ same_by (times (v p) (v d)) (times (v d) (v p)) (omega arith)))) in
    each ∙ (total-scaled (λ l. (attacker g l).prior) d (numbers m) ∙ ap (λ (z : ℤ). d *ℤ z) (sym (total-nth (λ (x : Attacker). x.prior) nobody g.types)))

pub value_is_mean : ValueIsMean
value_is_mean g is k = (
  answers-some g is k,
  λ answer a num den.
      let w : ℤ = worth g k in let d : ℤ = weight_total k in let p : ℤ = prior_total g in
      let mean = over_all g k (λ l x. pay_d g l x.play.code (answer l)) in
      let all = over_all g k (λ l x. pos 1) in
      let e : w ≡ mean = worth-mean g is k answer a in
      let f : num *ℤ all ≡ (num *ℤ d) *ℤ p = ap (λ (z : ℤ). num *ℤ z) (all-mean g k) ∙ same_by (times (v num) (times (v d) (v p))) (times (times (v num) (v d)) (v p)) (omega arith) in (
        λ h. (h.positive, ap (λ (z : ℤ). z *ℤ den) (sym e) ∙ (h.same ∙ sym f)),
        λ h. record { positive = h.0; same = ap (λ (z : ℤ). z *ℤ den) e ∙ (h.1 ∙ f) },
      ),
)
