-- The single sums of a fact are small.
use Rattle.std.proofs.Common.{◌≡◌, ◌≢◌, ℕ, suc, ◌+◌, ◌-◌, ◌<◌, ◌≤◌, true, false, cond, List, [], ◌∷◌, length, ℤ, pos, negsuc, ◌+ℤ◌, ◌-ℤ◌, ◌*ℤ◌, ◌≤ℤ◌, sym, ap, subst, refl, arith, slice_index, slice_index_or, eqb, inl, inr}
use Rattle.std.specs.List.{All, zip}
use Rattle.std.proofs.lemmas.Bool.{cases_eq}
use Rattle.std.proofs.lemmas.Bool.Decides.{nat_tests}
use Rattle.std.proofs.lemmas.Int.{ints}
use Rattle.std.proofs.lemmas.List.Elements.{All-head, All-tail}
use Rattle.sg_model.specs.declared.kind.Kind.TheVariants.{Security}
use Rattle.sg_model.specs.Sums.{numbers_from, total}
use Rattle.sg_model.specs.Games.{Game, action_count, attacker, payoff}
use Rattle.sg_model.specs.Plays.{IsLegal, pay_a, pay_d}
use Rattle.sg_model.specs.Payoffs.{IsPeopled, shift_of}
use Rattle.sg_model.proofs.Ints.{v, n, times, same_by}
use Rattle.sg_model.proofs.Forms.{no_matrix}
use Rattle.sg_tree.specs.declared.fact.Fact.TheVariants.{Plays, Cover}
use Rattle.sg_tree.specs.declared.fact.Mark.{Mark}
use Rattle.sg_tree.specs.declared.fact.Line.{Line}
use Rattle.sg_tree.specs.declared.fix.Fix.{Fix}
use Rattle.sg_bounds.specs.Regions.{IsFix, act_of, fixed}
use Rattle.sg_bounds.specs.Coverage.{Column, IsColumn, Row, always, choice_holds, chooses, column_cost, covering, entry, gains, held, row_of, spends, where_same, whole, within}
use Rattle.sg_bounds.specs.Facts.{IsLineOf, IsMarkOf, cost, regret}
use Rattle.sg_bounds.specs.Sizes.{attacker_most, defender_most, fixed_priors, size_sum}
use Rattle.sg_bounds.specs.SizeLaws.{AreSmall, ColumnSumsAreSmall, PlaySumsAreSmall}
use Rattle.sg_num.specs.Exact.{IsAtMost}
use Rattle.sg_bounds.proofs.Cover.{IsRowOf, at_row, fixed_pairs, total-map}
use Rattle.sg_bounds.proofs.Small.{add-times, at_most-add, at_most-more, scaled-small}
use Rattle.sg_bounds.proofs.Spans.{covered-listed, difference-small, guarded-listed, defender-between, of-type, one-at-most, open-listed, play-between, play-of-type, uncovered-listed}

-- ---- sums of products

none-small : (m : ℤ) → pos 0 ≤ℤ m → IsAtMost m (pos 0)
none-small m h = (omega (arith, ints, h), omega (arith, ints, h))

sum-small : {X : Type 0} (w f : X → ℤ) (m : ℤ) (xs : List X) → All (λ x. IsAtMost (w x *ℤ m) (f x)) xs → IsAtMost (total w xs *ℤ m) (total f xs)
sum-small {X} w f m [] h = let e : pos 0 *ℤ m ≡ pos 0 = same_by (times (n 0) (v m)) (n 0) (omega arith) in (omega (arith, ints, e), omega (arith, ints, e))
sum-small {X} w f m (x ∷ xs) h =
    let P : X → Type 0 = λ x. IsAtMost (w x *ℤ m) (f x) in
    subst (λ (c : ℤ). IsAtMost c (f x +ℤ total f xs)) (add-times (w x) (total w xs) m)
    (at_most-add (w x *ℤ m) (total w xs *ℤ m) (f x) (total f xs) (All-head P x xs h) (sum-small w f m xs (All-tail P x xs h)))

take-away : (b c y z : ℤ) → IsAtMost b y → IsAtMost c z → IsAtMost (b +ℤ c) (y -ℤ z)
take-away b c y z h k = let p = h.0 in let q = h.1 in let r = k.0 in let s = k.1 in (omega (arith, ints, p, s), omega (arith, ints, q, r))

-- the parts of a size sum
joined : (g : Game) (fix : Fix) (rho m worth entries : ℤ) (multipliers size : ℤ) → pos 1 ≤ℤ rho → size ≡ ((rho *ℤ fixed_priors g fix) *ℤ defender_most g) +ℤ (multipliers *ℤ attacker_most g)
    → IsAtMost (fixed_priors g fix *ℤ defender_most g) worth → IsAtMost (multipliers *ℤ attacker_most g) entries → AreSmall g fix rho size multipliers worth entries
joined g fix rho m worth entries multipliers size positive e costs small =
    let p : ℤ = fixed_priors g fix in let d : ℤ = defender_most g in
    let turn : rho *ℤ (p *ℤ d) ≡ (rho *ℤ p) *ℤ d = same_by (times (v rho) (times (v p) (v d))) (times (times (v rho) (v p)) (v d)) (omega arith) in
    let product : IsAtMost ((rho *ℤ p) *ℤ d) (rho *ℤ worth) = subst (λ (c : ℤ). IsAtMost c (rho *ℤ worth)) turn (scaled-small rho (p *ℤ d) worth (omega (arith, ints, positive)) costs) in
    record {
      costs = product;
      entries_small = small;
      difference = subst (λ (c : ℤ). IsAtMost c ((rho *ℤ worth) -ℤ entries)) (sym e) (take-away ((rho *ℤ p) *ℤ d) (multipliers *ℤ attacker_most g) (rho *ℤ worth) entries product small);
    }

-- ---- the types of a fix

abbrev IsAct : Game → ℕ × ℕ → Type 0
IsAct g p = (1 ≤ p.1) × (p.1 ≤ action_count g p.0)

act-at : (g : Game) (a : ℕ) (acts : List ℕ) → All (IsAct g) (zip (numbers_from a (length acts)) acts) → (l : ℕ) → a ≤ l → l < a + length acts → IsAct g (l, slice_index acts (l - a))
act-at g a [] all l low high = absurd (omega arith)
act-at g a (c ∷ cs) all l low high =
    let rest : List (ℕ × ℕ) = zip (numbers_from (a + 1) (length cs)) cs in
    elim (cases_eq a l) [
      | inl e ↦ (
          let off : l - a ≡ 0 = omega arith in
          rw off (subst (λ (m : ℕ). IsAct g (m, c)) e (All-head (IsAct g) (a, c) rest all)))
      | inr other ↦ (
          let off : l - a ≡ suc (l - (a + 1)) = omega arith in
          rw off (act-at g (a + 1) cs (All-tail (IsAct g) (a, c) rest all) l (omega arith) (omega arith)))
    ]

module _ (g : Game) (is_peopled : IsPeopled g) (fix : Fix) (is_fix : IsFix g fix) where
  -- a fixed type is one of the game
  type-low : (l : ℕ) → fix.first ≤ l → 1 ≤ l
  type-low l low = let a = is_fix.from_one in omega (arith, low, a)

  type-high : (l : ℕ) → l < fix.first + length fix.acts → l ≤ length g.types
  type-high l high = let a = is_fix.in_range in omega (arith, high, a)

  act-is : (l : ℕ) → fix.first ≤ l → l < fix.first + length fix.acts → IsAct g (l, act_of fix l)
  act-is l low high = act-at g fix.first fix.acts is_fix.acts l low high

  prior-low : (l : ℕ) → fix.first ≤ l → l < fix.first + length fix.acts → pos 0 ≤ℤ (attacker g l).prior
  prior-low l low high = let p = is_peopled.priors l (type-low l low) (type-high l high) in omega (arith, ints, p)

  -- a cost by type, each within the most
  costs-small : (f : ℕ × ℕ → ℤ)
      → ((p : ℕ × ℕ) → fix.first ≤ p.0 → p.0 < fix.first + length fix.acts → IsAct g p → IsAtMost ((attacker g p.0).prior *ℤ defender_most g) (f p))
      → IsAtMost (fixed_priors g fix *ℤ defender_most g) (total f (fixed fix))
  costs-small f each =
      sum-small (λ (p : ℕ × ℕ). (attacker g p.0).prior) f (defender_most g) (fixed fix)
      (λ i d lt. let p : ℕ × ℕ = slice_index_or (fixed fix) i d in let pair = fixed_pairs fix i d lt in each p pair.low pair.high (is_fix.acts i d lt))

  -- ---- plays

  cost-small : (play : List ℕ) → IsLegal g play → IsAtMost (fixed_priors g fix *ℤ defender_most g) (cost g fix play)
  cost-small play legal =
      costs-small (λ (p : ℕ × ℕ). (attacker g p.0).prior *ℤ (pay_d g p.0 play p.1 +ℤ shift_of g))
      (λ p low high act.
      let b = play-between g play legal p.0 p.1 (type-low p.0 low) (type-high p.0 high) act.0 act.1 in
      scaled-small (attacker g p.0).prior (defender_most g) (pay_d g p.0 play p.1 +ℤ shift_of g) (prior-low p.0 low high) (omega (arith, ints, b.0, b.1), b.1))

  regret-small : (play : List ℕ) → IsLegal g play → (marks : List Mark) → All (IsMarkOf g fix) marks → IsAtMost (total (λ (m : Mark). m.v) marks *ℤ attacker_most g) (regret g fix marks play)
  regret-small play legal marks are =
      sum-small (λ (m : Mark). m.v) (λ (m : Mark). m.v *ℤ (pay_a g m.l play m.a -ℤ pay_a g m.l play (act_of fix m.l))) (attacker_most g) marks
      (λ i d lt.
      let m : Mark = slice_index_or marks i d in
      let is = are i d lt in
      let positive = is.positive in
      let act = act-is m.l is.from_first is.in_range in
      let x : ℤ = pay_a g m.l play m.a in let y : ℤ = pay_a g m.l play (act_of fix m.l) in
      let small = difference-small g m.l (type-low m.l is.from_first) (type-high m.l is.in_range) x y (play-of-type g play legal m.l m.a is.from_one is.action) (play-of-type g play legal m.l (act_of fix m.l) act.0 act.1) in
      scaled-small m.v (attacker_most g) (x -ℤ y) (omega (arith, ints, positive)) small)

  -- ---- columns

  module _ (security : g.kind ≡ Security) where
    targets-are : (l : ℕ) → action_count g l ≡ length g.goals
    targets-are l = rw (no_matrix g security) refl

    gain-small : (l b : ℕ) → fix.first ≤ l → l < fix.first + length fix.acts → 1 ≤ b → b ≤ action_count g l → IsAtMost ((attacker g l).prior *ℤ defender_most g) ((attacker g l).prior *ℤ ((payoff g l b).dc -ℤ (payoff g l b).du))
    gain-small l b low high from_one in_list =
        let dc = defender-between g l b (type-low l low) (type-high l high) from_one in_list (payoff g l b).dc (guarded-listed g security l b) in
        let du = defender-between g l b (type-low l low) (type-high l high) from_one in_list (payoff g l b).du (open-listed g security l b) in
        scaled-small (attacker g l).prior (defender_most g) ((payoff g l b).dc -ℤ (payoff g l b).du) (prior-low l low high) (omega (arith, ints, dc.0, du.1), omega (arith, ints, dc.1, du.0))

    same-small : (m z : ℤ) (a b : ℕ) → pos 0 ≤ℤ m → IsAtMost m z → IsAtMost m (where_same a b z)
    same-small m z a b low h = elim (eqb a b) as (λ t. IsAtMost m (cond t z (pos 0))) [ true ↦ h | false ↦ none-small m low ]

    most-nonneg : (l b : ℕ) → fix.first ≤ l → l < fix.first + length fix.acts → 1 ≤ b → b ≤ action_count g l → pos 0 ≤ℤ ((attacker g l).prior *ℤ defender_most g)
    most-nonneg l b low high from_one in_list = let h = gain-small l b low high from_one in_list in let p = h.0 in let q = h.1 in omega (arith, ints, p, q)

    column-small : (c : Column) → IsColumn g c → IsAtMost (fixed_priors g fix *ℤ defender_most g) (column_cost g fix c)
    column-small always is =
        costs-small (λ (p : ℕ × ℕ). (attacker g p.0).prior *ℤ ((payoff g p.0 p.1).du +ℤ shift_of g))
        (λ p low high act.
        let b = defender-between g p.0 p.1 (type-low p.0 low) (type-high p.0 high) act.0 act.1 (payoff g p.0 p.1).du (open-listed g security p.0 p.1) in
        scaled-small (attacker g p.0).prior (defender_most g) ((payoff g p.0 p.1).du +ℤ shift_of g) (prior-low p.0 low high) (omega (arith, ints, b.0, b.1), b.1))
    column-small (chooses r j) is =
        let none = costs-small (λ (p : ℕ × ℕ). pos 0) (λ p low high act. none-small ((attacker g p.0).prior *ℤ defender_most g) (most-nonneg p.0 p.1 low high act.0 act.1)) in
        let a = none.0 in let b = none.1 in let z = zeros (fixed fix) in
        (omega (arith, ints, a, b, z), omega (arith, ints, a, b, z))
      where
        zeros : (ps : List (ℕ × ℕ)) → total (λ (p : ℕ × ℕ). pos 0) ps ≡ pos 0
        zeros [] = refl
        zeros (p ∷ ps) = omega (arith, ints, zeros ps)
    column-small (covering t) is =
        costs-small (λ (p : ℕ × ℕ). where_same p.1 t ((attacker g p.0).prior *ℤ ((payoff g p.0 p.1).dc -ℤ (payoff g p.0 p.1).du)))
        (λ p low high act. same-small ((attacker g p.0).prior *ℤ defender_most g) ((attacker g p.0).prior *ℤ ((payoff g p.0 p.1).dc -ℤ (payoff g p.0 p.1).du)) p.1 t
        (most-nonneg p.0 p.1 low high act.0 act.1) (gain-small p.0 p.1 low high act.0 act.1))

    ones-small : (z : ℤ) → IsAtMost (pos 1) z → IsAtMost (attacker_most g) z
    ones-small z h = at_most-more (pos 1) (attacker_most g) z (one-at-most g) h

    one-small : (a b : ℕ) → IsAtMost (attacker_most g) (where_same a b (pos 1))
    one-small a b = ones-small (where_same a b (pos 1)) (same-small (pos 1) (pos 1) a b (omega (arith, ints)) (omega (arith, ints), omega (arith, ints)))

    zero-small : IsAtMost (attacker_most g) (pos 0)
    zero-small = ones-small (pos 0) (omega (arith, ints), omega (arith, ints))

    minus-small : IsAtMost (attacker_most g) (negsuc 0)
    minus-small = ones-small (negsuc 0) (omega (arith, ints), omega (arith, ints))

    -- two numbers of which at most one counts
    one-of-two : (b s t : ℕ) (x y : ℤ) → b ≢ s → IsAtMost (attacker_most g) x → IsAtMost (attacker_most g) y → IsAtMost (attacker_most g) (where_same b t x +ℤ where_same s t y)
    one-of-two b s t x y apart h k =
        elim (cases_eq b t) [
          | inl e ↦ (
              let other : eqb s t ≡ false = grind (arith, nat_tests, apart, e) in
              let right : where_same s t y ≡ pos 0 = rw other refl in
              let here = same-small (attacker_most g) x b t (let o = one-at-most g in omega (arith, ints, o)) h in
              let p = here.0 in let q = here.1 in (omega (arith, ints, right, p), omega (arith, ints, right, q)))
          | inr ne ↦ (
              let other : eqb b t ≡ false = grind (arith, nat_tests, ne) in
              let left : where_same b t x ≡ pos 0 = rw other refl in
              let here = same-small (attacker_most g) y s t (let o = one-at-most g in omega (arith, ints, o)) k in
              let p = here.0 in let q = here.1 in (omega (arith, ints, left, p), omega (arith, ints, left, q)))
        ]

    entry-small : (row : Row) → IsRowOf g fix row → (c : Column) → IsAtMost (attacker_most g) (entry g fix row c)
    entry-small whole is c = absurd is
    entry-small (spends s) is always = minus-small
    entry-small (spends s) is (chooses r j) = one-small s r
    entry-small (spends s) is (covering t) = zero-small
    entry-small (held s) is always = zero-small
    entry-small (held s) is (chooses r j) = elim (choice_holds g r j s) as (λ b. IsAtMost (attacker_most g) (cond b (negsuc 0) (pos 0))) [ true ↦ minus-small | false ↦ zero-small ]
    entry-small (held s) is (covering t) = one-small s t
    entry-small (within s) is always = minus-small
    entry-small (within s) is (chooses r j) = zero-small
    entry-small (within s) is (covering t) = one-small s t
    entry-small (gains l b) is always =
        let s : ℕ = act_of fix l in let e = targets-are l in
        difference-small g l (type-low l is.0) (type-high l is.1) (payoff g l b).au (payoff g l s).au
        (of-type g l b (payoff g l b).au is.2 (omega (arith, e, is.3)) (uncovered-listed g security l b)) (of-type g l s (payoff g l s).au is.5 (omega (arith, e, is.6)) (uncovered-listed g security l s))
    entry-small (gains l b) is (chooses r j) = zero-small
    entry-small (gains l b) is (covering t) =
        let s : ℕ = act_of fix l in let e = targets-are l in
        one-of-two b s t ((payoff g l b).ac -ℤ (payoff g l b).au) ((payoff g l s).au -ℤ (payoff g l s).ac) is.4
        (difference-small g l (type-low l is.0) (type-high l is.1) (payoff g l b).ac (payoff g l b).au
        (of-type g l b (payoff g l b).ac is.2 (omega (arith, e, is.3)) (covered-listed g security l b)) (of-type g l b (payoff g l b).au is.2 (omega (arith, e, is.3)) (uncovered-listed g security l b)))
        (difference-small g l (type-low l is.0) (type-high l is.1) (payoff g l s).au (payoff g l s).ac
        (of-type g l s (payoff g l s).au is.5 (omega (arith, e, is.6)) (uncovered-listed g security l s)) (of-type g l s (payoff g l s).ac is.5 (omega (arith, e, is.6)) (covered-listed g security l s)))

    lines-small : (lines : List Line) → All (IsLineOf g fix) lines → (c : Column) → IsAtMost (total (λ (line : Line). line.v) lines *ℤ attacker_most g) (total (λ (line : Line). line.v *ℤ entry g fix (row_of g fix line) c) lines)
    lines-small lines are c =
        sum-small (λ (line : Line). line.v) (λ (line : Line). line.v *ℤ entry g fix (row_of g fix line) c) (attacker_most g) lines
        (λ i d lt.
        let line : Line = slice_index_or lines i d in
        let is = are i d lt in
        let positive = is.positive in
        scaled-small line.v (attacker_most g) (entry g fix (row_of g fix line) c) (omega (arith, ints, positive)) (entry-small (row_of g fix line) (at_row g (no_matrix g security) fix is_fix line is) c))

pub play_sums : PlaySumsAreSmall
play_sums g is_peopled fix is_fix rho mu positive marks are play legal =
    let sum : ℤ = total (λ (m : Mark). m.v) marks in
    joined g fix rho mu (cost g fix play) (regret g fix marks play) sum (size_sum g fix (Plays rho mu marks)) positive
    (ap (λ (z : ℤ). ((rho *ℤ fixed_priors g fix) *ℤ defender_most g) +ℤ (z *ℤ attacker_most g)) (total-map (λ (z : ℤ). z) (λ (m : Mark). m.v) marks))
    (cost-small g is_peopled fix is_fix play legal) (regret-small g is_peopled fix is_fix play legal marks are)

pub column_sums : ColumnSumsAreSmall
column_sums g is_peopled security fix is_fix rho mu positive lines are c is =
    let sum : ℤ = total (λ (line : Line). line.v) lines in
    joined g fix rho mu (column_cost g fix c) (total (λ (line : Line). line.v *ℤ entry g fix (row_of g fix line) c) lines) sum (size_sum g fix (Cover rho mu lines)) positive
    (ap (λ (z : ℤ). ((rho *ℤ fixed_priors g fix) *ℤ defender_most g) +ℤ (z *ℤ attacker_most g)) (total-map (λ (z : ℤ). z) (λ (line : Line). line.v) lines))
    (column-small g is_peopled fix is_fix security c is) (lines-small g is_peopled fix is_fix security lines are c)
