-- The sums under the value of tickets, where the total is small.
use Rattle.std.proofs.Common.{◌≡◌, ℕ, zero, suc, ◌+◌, ◌<◌, ◌≤◌, ◌^◌, List, [], ◌∷◌, length, map, ℤ, pos, negsuc, ◌+ℤ◌, ◌-ℤ◌, ◌*ℤ◌, ◌≤ℤ◌, ◌<ℤ◌, sym, ◌∙◌, ap, subst, refl, arith, flat_map, slice_index_or}
use Rattle.std.specs.List.{All, filter}
use Rattle.std.proofs.lemmas.Int.{ints}
use Rattle.std.proofs.lemmas.Bool.Decides.{nat_tests}
use Rattle.std.proofs.lemmas.List.Elements.{All-nil, All-cons, All-append, All-head, All-tail, All-weaker}
use Rattle.sg_model.specs.declared.ticket.Ticket.{Ticket}
use Rattle.sg_model.specs.Sums.{nth, numbers, numbers_from, total}
use Rattle.sg_model.specs.Games.{Attacker, Game, action_count, attacker, nobody, prior_total}
use Rattle.sg_model.specs.Plays.{pay_a, pay_d}
use Rattle.sg_model.specs.Limits.{IsGame}
use Rattle.sg_model.specs.Commitments.{IsCommitment, is_best, take_of, weight_total}
use Rattle.sg_model.proofs.Ints.{v, n, plus, less, times, same_by, le_by, le_from, mul-le, product_nonneg}
use Rattle.sg_model.proofs.Best.{take_of-reached}
use Rattle.sg_model.proofs.Covers.{weight_total-nonneg, weight_total-positive}
use Rattle.sg_model.proofs.Promises.{pay_a-in_range, pay_d-in_range, peopled}
use Rattle.sg_model.proofs.Values.{prior_total-positive}
use Rattle.sg_bounds.specs.Sizes.{pay_sums, running, take_sums, value_sums, weight_sums, worth_sums}
use Rattle.sg_num.specs.Exact.{Fits, IsAtMost}
use Rattle.sg_bounds.specs.ReportLaws.{SmallTotalsFit}
use Rattle.sg_model.proofs.Lists.{All-flat_map}
use Rattle.sg_bounds.proofs.Places.{nth-next}

at_most-fits : (b z : ℤ) → b <ℤ pos (2 ^ 127) → IsAtMost b z → Fits z
at_most-fits b (pos m) lt h = let a = h.1 in let k : m < 2 ^ 127 = omega (arith, ints, lt, a) in grind (arith, nat_tests, k)
at_most-fits b (negsuc m) lt h = let a = h.0 in let k : m < 2 ^ 127 = omega (arith, ints, lt, a) in grind (arith, nat_tests, k)

pub all-fit : (b : ℤ) → b <ℤ pos (2 ^ 127) → (xs : List ℤ) → All (IsAtMost b) xs → All Fits xs
all-fit b lt xs h = All-weaker (IsAtMost b) Fits (λ z k. at_most-fits b z lt k) xs h

-- ---- weights

weights-small : (b z : ℤ) (k : List Ticket) → pos 0 ≤ℤ z → All (λ (x : Ticket). pos 1 ≤ℤ x.weight) k → (z +ℤ weight_total k) ≤ℤ b → All (IsAtMost b) (running z (map (λ (x : Ticket). x.weight) k))
weights-small b z [] low positive high = All-nil (IsAtMost b)
weights-small b z (x ∷ xs) low positive high =
    let P : Ticket → Type 0 = λ x. pos 1 ≤ℤ x.weight in
    let here = All-head P x xs positive in
    let rest = All-tail P x xs positive in
    let later = weight_total-nonneg xs rest in
    All-cons (IsAtMost b) (z +ℤ x.weight) (running (z +ℤ x.weight) (map (λ (x : Ticket). x.weight) xs)) (omega (arith, ints, low, here, high, later), omega (arith, ints, low, here, high, later))
    (weights-small b (z +ℤ x.weight) xs (omega (arith, ints, low, here)) rest (omega (arith, ints, high)))

-- ---- products within bounds

-- w times a number from -m to m is from -(w * m) to w * m
pub scaled-small : (w m p : ℤ) → pos 0 ≤ℤ w → IsAtMost m p → IsAtMost (w *ℤ m) (w *ℤ p)
scaled-small w m p low h =
    let a = mul-le (pos 0 -ℤ m) p w h.0 low in
    let b = mul-le p m w h.1 low in
    let x = v w in let y = v m in let z = v p in (
      le_by (less (n 0) (times x y)) (times x z) (omega (arith, le_from (times (less (n 0) y) x) (times z x) a)),
      le_by (times x z) (times x y) (omega (arith, le_from (times z x) (times y x) b)),
    )

pub at_most-more : (b c z : ℤ) → b ≤ℤ c → IsAtMost b z → IsAtMost c z
at_most-more b c z le h = let p = h.0 in let q = h.1 in (omega (arith, ints, le, p), omega (arith, ints, le, q))

pub at_most-add : (b c y z : ℤ) → IsAtMost b y → IsAtMost c z → IsAtMost (b +ℤ c) (y +ℤ z)
at_most-add b c y z h k = let p = h.0 in let q = h.1 in let r = k.0 in let s = k.1 in (omega (arith, ints, p, r), omega (arith, ints, q, s))

pub add-times : (a b m : ℤ) → (a *ℤ m) +ℤ (b *ℤ m) ≡ (a +ℤ b) *ℤ m
add-times a b m = same_by (plus (times (v a) (v m)) (times (v b) (v m))) (times (plus (v a) (v b)) (v m)) (omega arith)

-- ---- one sum over the tickets

module _ (m : ℤ) (low : pos 0 ≤ℤ m) (pays : List ℕ → ℤ) (each : (play : List ℕ) → IsAtMost m (pays play)) where
  pay-small : (t z : ℤ) (k : List Ticket) → pos 0 ≤ℤ t → IsAtMost (t *ℤ m) z → All (λ (x : Ticket). pos 1 ≤ℤ x.weight) k
      → All (IsAtMost ((t +ℤ weight_total k) *ℤ m)) (pay_sums pays z k)
  pay-small t z [] nonneg h positive = All-nil (IsAtMost ((t +ℤ weight_total []) *ℤ m))
  pay-small t z (x ∷ xs) nonneg h positive =
      let w : ℤ = x.weight in
      let P : Ticket → Type 0 = λ x. pos 1 ≤ℤ x.weight in
      let here = All-head P x xs positive in
      let rest = All-tail P x xs positive in
      let later = weight_total-nonneg xs rest in
      let b : ℤ = (t +ℤ weight_total (x ∷ xs)) *ℤ m in
      let product = scaled-small w m (pays x.play.code) (omega (arith, ints, here)) (each x.play.code) in
      let sum : IsAtMost ((t +ℤ w) *ℤ m) (z +ℤ (w *ℤ pays x.play.code)) = subst (λ (c : ℤ). IsAtMost c (z +ℤ (w *ℤ pays x.play.code))) (add-times t w m) (at_most-add (t *ℤ m) (w *ℤ m) z (w *ℤ pays x.play.code) h product) in
      let le1 : (w *ℤ m) ≤ℤ b = mul-le w (t +ℤ weight_total (x ∷ xs)) m (omega (arith, ints, nonneg, later)) low in
      let le2 : ((t +ℤ w) *ℤ m) ≤ℤ b = mul-le (t +ℤ w) (t +ℤ weight_total (x ∷ xs)) m (omega (arith, ints, later)) low in
      let more = pay-small (t +ℤ w) (z +ℤ (w *ℤ pays x.play.code)) xs (omega (arith, ints, nonneg, here)) sum rest in
      let same : ((t +ℤ w) +ℤ weight_total xs) *ℤ m ≡ b = same_by (times (plus (plus (v t) (v w)) (v (weight_total xs))) (v m)) (times (plus (v t) (plus (v w) (v (weight_total xs)))) (v m)) (omega arith) in
      All-cons (IsAtMost b) (w *ℤ pays x.play.code) ((z +ℤ (w *ℤ pays x.play.code)) ∷ pay_sums pays (z +ℤ (w *ℤ pays x.play.code)) xs) (at_most-more (w *ℤ m) b (w *ℤ pays x.play.code) le1 product)
      (All-cons (IsAtMost b) (z +ℤ (w *ℤ pays x.play.code)) (pay_sums pays (z +ℤ (w *ℤ pays x.play.code)) xs) (at_most-more ((t +ℤ w) *ℤ m) b (z +ℤ (w *ℤ pays x.play.code)) le2 sum)
      (subst (λ (c : ℤ). All (IsAtMost c) (pay_sums pays (z +ℤ (w *ℤ pays x.play.code)) xs)) same more))

  sum-small : (k : List Ticket) → All (λ (x : Ticket). pos 1 ≤ℤ x.weight) k → IsAtMost (weight_total k *ℤ m) (total (λ (x : Ticket). x.weight *ℤ pays x.play.code) k)
  sum-small [] positive = let e : pos 0 *ℤ m ≡ pos 0 = same_by (times (n 0) (v m)) (n 0) (omega arith) in (omega (arith, ints, e), omega (arith, ints, e))
  sum-small (x ∷ xs) positive =
      let P : Ticket → Type 0 = λ x. pos 1 ≤ℤ x.weight in
      let here = All-head P x xs positive in
      let product = scaled-small x.weight m (pays x.play.code) (omega (arith, ints, here)) (each x.play.code) in
      let rest = sum-small xs (All-tail P x xs positive) in
      subst (λ (c : ℤ). IsAtMost c ((x.weight *ℤ pays x.play.code) +ℤ total (λ (x : Ticket). x.weight *ℤ pays x.play.code) xs)) (add-times x.weight (weight_total xs) m)
      (at_most-add (x.weight *ℤ m) (weight_total xs *ℤ m) (x.weight *ℤ pays x.play.code) (total (λ (x : Ticket). x.weight *ℤ pays x.play.code) xs) product rest)

-- ---- a sum over a list, by its places

nth-later : {X : Type 0} (x : X) (xs : List X) (a : ℕ) (d : X) → 1 ≤ a → nth (x ∷ xs) (a + 1) d ≡ nth xs a d
nth-later x xs a d h = nth-next x xs (a + 1) a d refl h

places-later : {X : Type 0} (f : X → ℤ) (x : X) (xs : List X) (d : X) (a m : ℕ) → 1 ≤ a
    → total (λ l. f (nth (x ∷ xs) l d)) (numbers_from (a + 1) m) ≡ total (λ l. f (nth xs l d)) (numbers_from a m)
places-later f x xs d a zero h = refl
places-later f x xs d a (suc m) h =
    let here : f (nth (x ∷ xs) (a + 1) d) ≡ f (nth xs a d) = ap f (nth-later x xs a d h) in
    omega (arith, ints, here, places-later f x xs d (a + 1) m (omega arith))

total-places : {X : Type 0} (f : X → ℤ) (xs : List X) (d : X) → total f xs ≡ total (λ l. f (nth xs l d)) (numbers (length xs))
total-places f [] d = refl
total-places f (x ∷ xs) d =
    let rest = total-places f xs d in
    let later = places-later f x xs d 1 (length xs) (omega arith) in
    omega (arith, ints, rest, later)

pub priors-are : (g : Game) → prior_total g ≡ total (λ l. (attacker g l).prior) (numbers (length g.types))
priors-are g = total-places (λ (x : Attacker). x.prior) g.types nobody

-- ---- the worth

abbrev most : ℤ
most = pos (2 ^ 30)

module _ (g : Game) (is_game : IsGame g) (k : List Ticket) (is_k : IsCommitment g k) where
  abbrev d : ℤ
  d = weight_total k

  pays_a : (l a : ℕ) (play : List ℕ) → IsAtMost most (pay_a g l play a)
  pays_a l a play = let h = pay_a-in_range g is_game l play a in (h.at_least, h.at_most)

  pays_d : (l a : ℕ) (play : List ℕ) → IsAtMost most (pay_d g l play a)
  pays_d l a play = let h = pay_d-in_range g is_game l play a in (h.at_least, h.at_most)

  from-none : (pays : List ℕ → ℤ) → ((play : List ℕ) → IsAtMost most (pays play)) → All (IsAtMost (d *ℤ most)) (pay_sums pays (pos 0) k)
  from-none pays each =
      let e : (pos 0 +ℤ d) *ℤ most ≡ d *ℤ most = same_by (times (plus (n 0) (v d)) (v most)) (times (v d) (v most)) (omega arith) in
      let z : pos 0 *ℤ most ≡ pos 0 = same_by (times (n 0) (v most)) (n 0) (omega arith) in
      subst (λ (c : ℤ). All (IsAtMost c) (pay_sums pays (pos 0) k)) e
      (pay-small most (omega (arith, ints)) pays each (pos 0) (pos 0) k (omega (arith, ints)) (omega (arith, ints, z), omega (arith, ints, z)) is_k.positive)

  all-same : (P : List ℤ → Type 0) (f : ℕ → List ℤ) → ((a : ℕ) → P (f a)) → (as1 : List ℕ) → All (λ a. P (f a)) as1
  all-same P f h as1 = λ i x lt. h (slice_index_or as1 i x)

  take-small : (l : ℕ) → All (IsAtMost (d *ℤ most)) (take_sums g k l)
  take-small l =
      let Q = IsAtMost (d *ℤ most) in
      let fa = λ (a : ℕ). pay_sums (λ play. pay_a g l play a) (pos 0) k in
      let fd = λ (a : ℕ). pay_sums (λ play. pay_d g l play a) (pos 0) k in
      let every : List ℕ = numbers (action_count g l) in
      let bests : List ℕ = filter (is_best g k l) every in
      All-append Q (flat_map fa every) (flat_map fd bests)
      (All-flat_map Q fa every (all-same (All Q) fa (λ a. from-none (λ play. pay_a g l play a) (pays_a l a)) every))
      (All-flat_map Q fd bests (all-same (All Q) fd (λ a. from-none (λ play. pay_d g l play a) (pays_d l a)) bests))

  taken-small : (l : ℕ) → 1 ≤ l → l ≤ length g.types → IsAtMost (d *ℤ most) (take_of g k l)
  taken-small l low high =
      let t = take_of-reached g k l ((peopled g is_game).actions l low high) in
      let gives = t.1.gives in
      subst (IsAtMost (d *ℤ most)) (sym gives) (sum-small most (omega (arith, ints)) (λ play. pay_d g l play t.0) (pays_d l t.0) k is_k.positive)

  -- the types from a on, where q is the sum of the priors before them
  worth-small : (q z : ℤ) (a m : ℕ) → 1 ≤ a → a + m ≤ length g.types + 1 → pos 0 ≤ℤ q → IsAtMost (q *ℤ (d *ℤ most)) z
      → All (IsAtMost ((q +ℤ total (λ l. (attacker g l).prior) (numbers_from a m)) *ℤ (d *ℤ most))) (worth_sums g k z (numbers_from a m))
  worth-small q z a zero low high nonneg h = All-nil (IsAtMost ((q +ℤ total (λ l. (attacker g l).prior) (numbers_from a zero)) *ℤ (d *ℤ most)))
  worth-small q z a (suc m) low high nonneg h =
      let c : ℤ = d *ℤ most in
      let p : ℤ = (attacker g a).prior in
      let rest : ℤ = total (λ l. (attacker g l).prior) (numbers_from (a + 1) m) in
      let b : ℤ = (q +ℤ (p +ℤ rest)) *ℤ c in
      let d_positive = weight_total-positive k is_k.some is_k.positive in
      let c_nonneg : pos 0 ≤ℤ c = product_nonneg d most (omega (arith, ints, d_positive)) (omega (arith, ints)) in
      let p_positive : pos 1 ≤ℤ p = (peopled g is_game).priors a low (omega (arith, high)) in
      let rest_nonneg : pos 0 ≤ℤ rest = rest-nonneg (a + 1) m (omega arith) (omega (arith, high)) in
      let t : ℤ = take_of g k a in
      let taken = taken-small a low (omega (arith, high)) in
      let product : IsAtMost (p *ℤ c) (p *ℤ t) = scaled-small p c t (omega (arith, ints, p_positive)) taken in
      let sum : IsAtMost ((q +ℤ p) *ℤ c) (z +ℤ (p *ℤ t)) = subst (λ (y : ℤ). IsAtMost y (z +ℤ (p *ℤ t))) (add-times q p c) (at_most-add (q *ℤ c) (p *ℤ c) z (p *ℤ t) h product) in
      let one : c ≡ pos 1 *ℤ c = same_by (v c) (times (n 1) (v c)) (omega arith) in
      let le0 : (pos 1 *ℤ c) ≤ℤ b = mul-le (pos 1) (q +ℤ (p +ℤ rest)) c (omega (arith, ints, nonneg, p_positive, rest_nonneg)) c_nonneg in
      let le1 : (p *ℤ c) ≤ℤ b = mul-le p (q +ℤ (p +ℤ rest)) c (omega (arith, ints, nonneg, rest_nonneg)) c_nonneg in
      let le2 : ((q +ℤ p) *ℤ c) ≤ℤ b = mul-le (q +ℤ p) (q +ℤ (p +ℤ rest)) c (omega (arith, ints, rest_nonneg)) c_nonneg in
      let more = worth-small (q +ℤ p) (z +ℤ (p *ℤ t)) (a + 1) m (omega arith) (omega (arith, high)) (omega (arith, ints, nonneg, p_positive)) sum in
      let same : ((q +ℤ p) +ℤ rest) *ℤ c ≡ b = same_by (times (plus (plus (v q) (v p)) (v rest)) (v c)) (times (plus (v q) (plus (v p) (v rest))) (v c)) (omega arith) in
      let later : List ℤ = worth_sums g k (z +ℤ (p *ℤ t)) (numbers_from (a + 1) m) in
      All-append (IsAtMost b) (take_sums g k a) ((p *ℤ t) ∷ (z +ℤ (p *ℤ t)) ∷ later)
      (All-weaker (IsAtMost c) (IsAtMost b) (λ y k. at_most-more c b y (omega (arith, ints, one, le0)) k) (take_sums g k a) (take-small a))
      (All-cons (IsAtMost b) (p *ℤ t) ((z +ℤ (p *ℤ t)) ∷ later) (at_most-more (p *ℤ c) b (p *ℤ t) le1 product)
      (All-cons (IsAtMost b) (z +ℤ (p *ℤ t)) later (at_most-more ((q +ℤ p) *ℤ c) b (z +ℤ (p *ℤ t)) le2 sum)
      (subst (λ (y : ℤ). All (IsAtMost y) later) same more)))
    where
      rest-nonneg : (a m : ℕ) → 1 ≤ a → a + m ≤ length g.types + 1 → pos 0 ≤ℤ total (λ l. (attacker g l).prior) (numbers_from a m)
      rest-nonneg a zero low high = omega (arith, ints)
      rest-nonneg a (suc m) low high = let p = (peopled g is_game).priors a low (omega (arith, high)) in omega (arith, ints, p, rest-nonneg (a + 1) m (omega arith) (omega (arith, high)))

pub small_totals_fit : SmallTotalsFit
small_totals_fit g is_game k is_k lt =
    let is_peopled = peopled g is_game in
    let d : ℤ = weight_total k in
    let p : ℤ = prior_total g in
    let c : ℤ = d *ℤ most in
    let b : ℤ = (d *ℤ p) *ℤ most in
    let d_positive = weight_total-positive k is_k.some is_k.positive in
    let p_positive = prior_total-positive g is_peopled in
    let turn : p *ℤ c ≡ b = same_by (times (v p) (times (v d) (v most))) (times (times (v d) (v p)) (v most)) (omega arith) in
    let c_nonneg : pos 0 ≤ℤ c = product_nonneg d most (omega (arith, ints, d_positive)) (omega (arith, ints)) in
    let c_low : (pos 1 *ℤ c) ≤ℤ (p *ℤ c) = mul-le (pos 1) p c p_positive c_nonneg in
    let c_one : pos 1 *ℤ c ≡ c = same_by (times (n 1) (v c)) (v c) (omega arith) in
    let dm : (pos 1 *ℤ d) ≤ℤ (most *ℤ d) = mul-le (pos 1) most d (omega (arith, ints)) (omega (arith, ints, d_positive)) in
    let d_one : pos 1 *ℤ d ≡ d = same_by (times (n 1) (v d)) (v d) (omega arith) in
    let d_turn : most *ℤ d ≡ c = same_by (times (v most) (v d)) (times (v d) (v most)) (omega arith) in
    let dp_nonneg : pos 0 ≤ℤ (d *ℤ p) = product_nonneg d p (omega (arith, ints, d_positive)) (omega (arith, ints, p_positive)) in
    let dp : (pos 1 *ℤ (d *ℤ p)) ≤ℤ (most *ℤ (d *ℤ p)) = mul-le (pos 1) most (d *ℤ p) (omega (arith, ints)) dp_nonneg in
    let dp_one : pos 1 *ℤ (d *ℤ p) ≡ d *ℤ p = same_by (times (n 1) (v (d *ℤ p))) (v (d *ℤ p)) (omega arith) in
    let dp_turn : most *ℤ (d *ℤ p) ≡ b = same_by (times (v most) (v (d *ℤ p))) (times (v (d *ℤ p)) (v most)) (omega arith) in
    let zero_times : pos 0 *ℤ c ≡ pos 0 = same_by (times (n 0) (v c)) (n 0) (omega arith) in
    let worth = worth-small g is_game k is_k (pos 0) (pos 0) 1 (length g.types) (omega arith) (omega arith) (omega (arith, ints)) (omega (arith, ints, zero_times), omega (arith, ints, zero_times)) in
    let priors : ℤ = total (λ l. (attacker g l).prior) (numbers (length g.types)) in
    let whole : (pos 0 +ℤ priors) *ℤ c ≡ b = ap (λ (z : ℤ). z *ℤ c) (omega (arith, ints, priors-are g)) ∙ turn in
    let sums : List ℤ = worth_sums g k (pos 0) (numbers (length g.types)) in
    let last : IsAtMost b (d *ℤ p) = (omega (arith, ints, dp_nonneg, dp, dp_one, dp_turn), omega (arith, ints, dp, dp_one, dp_turn)) in (
      all-fit b lt (weight_sums k) (weights-small b (pos 0) k (omega (arith, ints)) is_k.positive (omega (arith, ints, dm, d_one, d_turn, c_low, c_one, turn))),
      all-fit b lt (value_sums g k) (All-append (IsAtMost b) sums ((d *ℤ p) ∷ []) (subst (λ (y : ℤ). All (IsAtMost y) sums) whole worth) (All-cons (IsAtMost b) (d *ℤ p) [] last (All-nil (IsAtMost b)))),
    )
