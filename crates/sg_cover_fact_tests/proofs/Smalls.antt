-- The numbers under the size sum of a small fact fit.
use Rattle.std.proofs.Common.{◌≡◌, ℕ, ◌+◌, ◌*◌, ◌<◌, ◌≤◌, ◌^◌, true, false, cond, List, [], ◌∷◌, ◌++◌, flat_map, length, map, arith, inl, inr}
use Rattle.std.specs.Prelude.{ℤ, pos, negsuc, ◌+ℤ◌, ◌*ℤ◌, int_lt}
use Rattle.std.specs.Prelude.{FitsSigned}
use Rattle.std.specs.Int.{int_max, int_min, w32}
use Rattle.std.specs.List.{All, fold}
use Rattle.std.proofs.lemmas.Bool.Decides.{nat_tests}
use Rattle.std.proofs.lemmas.Int.{ints}
use Rattle.std.proofs.lemmas.List.{length-map}
use Rattle.std.proofs.lemmas.List.Elements.{All-append, All-cons, All-head, All-map, All-nil, All-tail}
use Rattle.sg_model.specs.declared.kind.Kind.TheVariants.{Security}
use Rattle.sg_model.specs.Games.{Attacker, Game, attacker, action_count, nobody, payoff}
use Rattle.sg_model.specs.Limits.{IsGame}
use Rattle.sg_model.specs.Payoffs.{payoffs_at, payoffs_of}
use Rattle.sg_model.specs.Sums.{greatest, least, numbers, total}
use Rattle.sg_model.proofs.Forms.{no_matrix}
use Rattle.sg_model.proofs.Lists.{All-flat_map}
use Rattle.sg_model.proofs.Promises.{game_cases, nth-or, payoff-in_range}
use Rattle.sg_model.proofs.Spans.{Spans, pay-within, spans_product, spans_total}
use Rattle.sg_num.specs.Exact.{Fits}
use Rattle.sg_tree.specs.declared.fact.Fact.TheVariants.{Cover}
use Rattle.sg_tree.specs.declared.fact.Line.{Line}
use Rattle.sg_tree.specs.declared.fix.Fix.{Fix}
use Rattle.sg_bounds.specs.Regions.{IsFix, fixed}
use Rattle.sg_bounds.specs.Sizes.{attacker_most, attacker_payoffs_at, attacker_payoffs_of, attacker_span, defender_most, fixed_priors, running, size_sums}
use Rattle.sg_cover_fact.proofs.Acts.{fixed-count}
use Rattle.sg_cover_fact.proofs.Rooms.{fits-within}
use Rattle.sg_cover_fact_tests.specs.Smallness.{AreSmallLines}

-- ---- greatest and least

span-max : (m : ℕ) (x y : ℤ) → Spans m x → Spans m y → Spans m (int_max x y)
span-max m x y h k = elim (int_lt y x) as (λ b. Spans m (cond b x y)) [ true ↦ h | false ↦ k ]

span-min : (m : ℕ) (x y : ℤ) → Spans m x → Spans m y → Spans m (int_min x y)
span-min m x y h k = elim (int_lt y x) as (λ b. Spans m (cond b y x)) [ true ↦ k | false ↦ h ]

fold-span : (m : ℕ) (f : ℤ → ℤ → ℤ) → ((x y : ℤ) → Spans m x → Spans m y → Spans m (f x y)) → (x : ℤ) (xs : List ℤ) → Spans m x → All (Spans m) xs → Spans m (fold f x xs)
fold-span m f keeps x [] h all = h
fold-span m f keeps x (y ∷ ys) h all = fold-span m f keeps (f x y) ys (keeps x y h (All-head (Spans m) y ys all)) (All-tail (Spans m) y ys all)

none-span : (m : ℕ) → Spans m (pos 0)
none-span m = record { low = omega (arith, ints); high = omega (arith, ints) }

greatest-span : (m : ℕ) (xs : List ℤ) → All (Spans m) xs → Spans m (greatest xs)
greatest-span m [] all = none-span m
greatest-span m (x ∷ xs) all = fold-span m int_max (span-max m) x xs (All-head (Spans m) x xs all) (All-tail (Spans m) x xs all)

least-span : (m : ℕ) (xs : List ℤ) → All (Spans m) xs → Spans m (least xs)
least-span m [] all = none-span m
least-span m (x ∷ xs) all = fold-span m int_min (span-min m) x xs (All-head (Spans m) x xs all) (All-tail (Spans m) x xs all)

-- what holds of each list holds of all joined
joined : (m : ℕ) (f : ℕ → List ℤ) → ((a : ℕ) → All (Spans m) (f a)) → (as1 : List ℕ) → All (Spans m) (flat_map f as1)
joined m f h as1 = All-flat_map (Spans m) f as1 (λ i d lt. h _)

-- ---- the numbers of a game

module _ (g : Game) (is_game : IsGame g) (security : g.kind ≡ Security) where
  abbrev pay : ℕ
  pay = 2 ^ 30

  defender-at : (l a : ℕ) → All (Spans pay) (payoffs_at g l a)
  defender-at l a =
      let p = payoff-in_range g is_game l a in
      rw (no_matrix g security) (All-cons (Spans pay) (payoff g l a).dc ((payoff g l a).du ∷ []) (pay-within (payoff g l a).dc p.dc) (All-cons (Spans pay) (payoff g l a).du [] (pay-within (payoff g l a).du p.du) (All-nil (Spans pay))))

  attacker-at : (l a : ℕ) → All (Spans pay) (attacker_payoffs_at g l a)
  attacker-at l a =
      let p = payoff-in_range g is_game l a in
      rw (no_matrix g security) (All-cons (Spans pay) (payoff g l a).ac ((payoff g l a).au ∷ []) (pay-within (payoff g l a).ac p.ac) (All-cons (Spans pay) (payoff g l a).au [] (pay-within (payoff g l a).au p.au) (All-nil (Spans pay))))

  defender-all : All (Spans pay) (flat_map (payoffs_of g) (numbers (length g.types)))
  defender-all = joined pay (payoffs_of g) (λ l. joined pay (payoffs_at g l) (defender-at l) (numbers (action_count g l))) (numbers (length g.types))

  attacker-all : (l : ℕ) → All (Spans pay) (attacker_payoffs_of g l)
  attacker-all l = joined pay (attacker_payoffs_at g l) (attacker-at l) (numbers (action_count g l))

  defender-span : Spans (2 ^ 32) (defender_most g)
  defender-span =
      let all : List ℤ = flat_map (payoffs_of g) (numbers (length g.types)) in
      let high = greatest-span pay all defender-all in
      let low = least-span pay all defender-all in
      record { low = omega (arith, ints, high.low, high.high, low.low, low.high); high = omega (arith, ints, high.low, high.high, low.low, low.high) }

  one-span : (l : ℕ) → Spans (2 ^ 31) (attacker_span g l)
  one-span l =
      let high = greatest-span pay (attacker_payoffs_of g l) (attacker-all l) in
      let low = least-span pay (attacker_payoffs_of g l) (attacker-all l) in
      record { low = omega (arith, ints, high.low, low.high); high = omega (arith, ints, high.high, low.low) }

  attacker-most-span : Spans (2 ^ 31) (attacker_most g)
  attacker-most-span =
      let spans : List ℤ = map (attacker_span g) (numbers (length g.types)) in
      span-max (2 ^ 31) (pos 1) (greatest spans) (record { low = omega (arith, ints); high = omega (arith, ints) })
      (greatest-span (2 ^ 31) spans (All-map (Spans (2 ^ 31)) (attacker_span g) (numbers (length g.types)) (λ i d lt. one-span _)))

  prior-span : (l : ℕ) → Spans (2 ^ 20) (attacker g l).prior
  prior-span l =
      elim (game_cases g is_game) [
        | inl s ↦ nth-or (λ (x : Attacker). Spans (2 ^ 20) x.prior) g.types nobody (none-span (2 ^ 20)) (λ i d lt. let p = (s.game.each_type i d lt).prior in record { low = omega (arith, ints, p.at_least); high = p.at_most }) l
        | inr m ↦ (let k = m.kind in cc)
      ]

  types-few : length g.types ≤ 8
  types-few = elim (game_cases g is_game) [ inl s ↦ s.game.types.count.at_most | inr m ↦ (let k = m.kind in cc) ]

  priors-span : (fix : Fix) → IsFix g fix → Spans (2 ^ 23) (fixed_priors g fix)
  priors-span fix is_fix =
      let all = spans_total (λ (p : ℕ × ℕ). (attacker g p.0).prior) (2 ^ 20) (fixed fix) (λ i d lt. prior-span _) in
      let count = fixed-count fix in
      let few : length (fixed fix) ≤ 8 = omega (arith, count, is_fix.in_range, is_fix.from_one, types-few) in
      let room : length (fixed fix) * 2 ^ 20 ≤ 2 ^ 23 = omega (arith, few) in
      record { low = omega (arith, ints, all.low, room); high = omega (arith, ints, all.high, room) }

-- ---- the multipliers

wide : (m : ℕ) (z : ℤ) → m < 2 ^ 127 → Spans m z → Fits z
wide m z lt h = fits-within (pos m) z (let t : m < 2 ^ 127 = lt in grind (arith, nat_tests, t)) (h.low, h.high)

running-fits : (z : ℤ) (n : ℕ) (vs : List ℤ) → Spans (n * 2 ^ 31) z → n + length vs ≤ 64 → All (Spans (2 ^ 31)) vs → All Fits (running z vs)
running-fits z n [] h few all = All-nil Fits
running-fits z n (v ∷ vs) h few all =
    let first = All-head (Spans (2 ^ 31)) v vs all in
    let sum : Spans ((n + 1) * 2 ^ 31) (z +ℤ v) = record { low = omega (arith, ints, h.low, first.low); high = omega (arith, ints, h.high, first.high) } in
    All-cons Fits (z +ℤ v) (running (z +ℤ v) vs) (wide ((n + 1) * 2 ^ 31) (z +ℤ v) (omega (arith, few)) sum) (running-fits (z +ℤ v) (n + 1) vs sum (omega (arith, few)) (All-tail (Spans (2 ^ 31)) v vs all))

pub small-fits : (g : Game) → IsGame g → g.kind ≡ Security → (fix : Fix) → IsFix g fix → (rho mu : ℤ) → Spans (2 ^ 31) rho → (lines : List Line) → AreSmallLines lines → All Fits (size_sums g fix (Cover rho mu lines))
small-fits g is_game security fix is_fix rho mu small lines h =
    let vs : List ℤ = map (λ (line : Line). line.v) lines in
    let all : All (Spans (2 ^ 31)) vs = All-map (Spans (2 ^ 31)) (λ (line : Line). line.v) lines (λ i d lt. let k = h.each i d lt in record { low = k.0; high = k.1 }) in
    let count : length vs ≡ length lines = length-map lines (λ (line : Line). line.v) in
    let share = spans_product (2 ^ 31) (2 ^ 23) rho (fixed_priors g fix) small (priors-span g is_game security fix is_fix) in
    let gain = spans_product (2 ^ 31 * 2 ^ 23) (2 ^ 32) (rho *ℤ fixed_priors g fix) (defender_most g) share (defender-span g is_game security) in
    let sums = spans_total (λ (v : ℤ). v) (2 ^ 31) vs all in
    let room : length vs * 2 ^ 31 ≤ 2 ^ 37 = omega (arith, count, h.few) in
    let sum : Spans (2 ^ 37) (total (λ (v : ℤ). v) vs) = record { low = omega (arith, ints, sums.low, room); high = omega (arith, ints, sums.high, room) } in
    let loss = spans_product (2 ^ 37) (2 ^ 31) (total (λ (v : ℤ). v) vs) (attacker_most g) sum (attacker-most-span g is_game security) in
    let a : ℤ = rho *ℤ fixed_priors g fix in
    let b : ℤ = a *ℤ defender_most g in
    let c : ℤ = total (λ (v : ℤ). v) vs *ℤ attacker_most g in
    let whole : Spans (2 ^ 87) (b +ℤ c) = record { low = omega (arith, ints, gain.low, loss.low); high = omega (arith, ints, gain.high, loss.high) } in
    All-cons Fits a (b ∷ (running (pos 0) vs ++ c ∷ (b +ℤ c) ∷ [])) (wide (2 ^ 31 * 2 ^ 23) a (omega arith) share)
    (All-cons Fits b (running (pos 0) vs ++ c ∷ (b +ℤ c) ∷ []) (wide (2 ^ 31 * 2 ^ 23 * 2 ^ 32) b (omega arith) gain)
    (All-append Fits (running (pos 0) vs) (c ∷ (b +ℤ c) ∷ []) (running-fits (pos 0) 0 vs (record { low = omega (arith, ints); high = omega (arith, ints) }) (omega (arith, count, h.few)) all)
    (All-cons Fits c ((b +ℤ c) ∷ []) (wide (2 ^ 37 * 2 ^ 31) c (omega arith) loss) (All-cons Fits (b +ℤ c) [] (wide (2 ^ 87) (b +ℤ c) (omega arith) whole) (All-nil Fits)))))

pub small-number : (z : ℤ) → FitsSigned w32 z → Spans (2 ^ 31) z
small-number (pos n) h = let k = h.sfits in record { low = omega (arith, ints, k); high = omega (arith, ints, k) }
small-number (negsuc n) h = let k = h.sfits in record { low = omega (arith, ints, k); high = omega (arith, ints, k) }
