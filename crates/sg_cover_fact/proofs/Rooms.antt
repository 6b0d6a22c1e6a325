-- The sums over the lines so far fit where the total of the multipliers has room.
use Rattle.std.proofs.Common.{◌≡◌, ◌∙◌, ℕ, ◌+◌, ◌<◌, ◌^◌, true, false, cond, List, [], ◌∷◌, length, take, get_or, sym, subst, refl, arith, eqb, FitsSigned, to_z, of_z}
use Rattle.std.specs.Prelude.{ℤ, pos, negsuc, ◌+ℤ◌, ◌*ℤ◌, ◌≤ℤ◌, ◌<ℤ◌}
use Rattle.std.specs.Int.{w128}
use Rattle.std.specs.List.{All}
use Rattle.std.proofs.lemmas.Int.{ints, to_z-of_z}
use Rattle.std.proofs.lemmas.Bool.Decides.{nat_tests}
use Rattle.std.proofs.lemmas.List.Elements.{All-nil, All-cons, All-head, All-tail, All-take, All-weaker}
use Rattle.sg_model.specs.Games.{Game}
use Rattle.sg_model.specs.Payoffs.{IsPeopled}
use Rattle.sg_model.specs.Sums.{total}
use Rattle.sg_model.proofs.Ints.{v, n, times, same_by, mul-le, product_nonneg}
use Rattle.sg_model.proofs.Sums.{total-nonneg}
use Rattle.sg_num.specs.Exact.{Fits, IsAtMost}
use Rattle.sg_tree.specs.declared.fact.Line.{Line}
use Rattle.sg_tree.specs.declared.fix.Fix.{Fix}
use Rattle.sg_bounds.specs.Coverage.{Column, IsColumn, Row, entry, gains, held, row_of, spends, where_same, whole, within}
use Rattle.sg_bounds.specs.Facts.{IsLineOf}
use Rattle.sg_bounds.specs.Sizes.{attacker_most}
use Rattle.sg_bounds.proofs.SizeBounds.{column_sums}
use Rattle.sg_bounds.proofs.Small.{at_most-more}
use Rattle.sg_bounds.proofs.Spans.{one-at-most}
use Rattle.sg_cover_fact.specs.LineSums.{AreSummable, sum_in_column, holding, spending}
use Rattle.sg_cover_fact.proofs.Rest.{total-front, total-more}

pub fits-within : (b z : ℤ) → Fits b → IsAtMost b z → Fits z
fits-within (pos k) (pos m) ok h = let a = h.1 in let t : k < 2 ^ 127 = grind (arith, nat_tests, ok) in let u : m < 2 ^ 127 = omega (arith, ints, t, a) in grind (arith, nat_tests, u)
fits-within (pos k) (negsuc m) ok h = let a = h.0 in let t : k < 2 ^ 127 = grind (arith, nat_tests, ok) in let u : m < 2 ^ 127 = omega (arith, ints, t, a) in grind (arith, nat_tests, u)
fits-within (negsuc k) z ok h = let a = h.0 in let b = h.1 in absurd (omega (arith, ints, a, b))

pub fits-below : (z : ℤ) → Fits z → z <ℤ pos (2 ^ 127)
fits-below (pos k) ok = let t : k < 2 ^ 127 = grind (arith, nat_tests, ok) in omega (arith, ints, t)
fits-below (negsuc k) ok = omega (arith, ints)

abbrev pub IsUnit : ℤ → Type 0
IsUnit z = (pos 0 ≤ℤ z) × (z ≤ℤ pos 1)

same-unit : (a b : ℕ) → IsUnit (where_same a b (pos 1))
same-unit a b = elim (eqb a b) as (λ t. IsUnit (cond t (pos 1) (pos 0))) [ true ↦ (omega (arith, ints), omega (arith, ints)) | false ↦ (omega (arith, ints), omega (arith, ints)) ]

none-unit : IsUnit (pos 0)
none-unit = (omega (arith, ints), omega (arith, ints))

pub spending-unit : (r : ℕ) (row : Row) → IsUnit (spending row r)
spending-unit r whole = none-unit
spending-unit r (spends s) = same-unit s r
spending-unit r (held s) = none-unit
spending-unit r (within s) = none-unit
spending-unit r (gains l b) = none-unit

pub holding-unit : (t : ℕ) (row : Row) → IsUnit (holding row t)
holding-unit t whole = none-unit
holding-unit t (spends s) = none-unit
holding-unit t (held s) = same-unit s t
holding-unit t (within s) = none-unit
holding-unit t (gains l b) = none-unit

-- multipliers times what is from 0 to 1
unit-part : (m z : ℤ) → pos 1 ≤ℤ m → IsUnit z → (pos 0 ≤ℤ (m *ℤ z)) × ((m *ℤ z) ≤ℤ m)
unit-part m z h k =
    let low = k.0 in let high = k.1 in
    let a = product_nonneg m z (omega (arith, ints, h)) low in
    let b = mul-le z (pos 1) m high (omega (arith, ints, h)) in
    let c : z *ℤ m ≡ m *ℤ z = same_by (times (v z) (v m)) (times (v m) (v z)) (omega arith) in
    let d : pos 1 *ℤ m ≡ m = same_by (times (n 1) (v m)) (v m) (omega arith) in
    (a, omega (arith, ints, b, c, d))

module _ (g : Game) (fix : Fix) where
  abbrev pub sum_of : (Row → ℤ) → List Line → ℤ
  sum_of f xs = total (λ (x : Line). x.v *ℤ f (row_of g fix x)) xs

  abbrev pub multiplier_total : List Line → ℤ
  multiplier_total xs = total (λ (x : Line). x.v) xs

  pub unit-sum : (f : Row → ℤ) → ((row : Row) → IsUnit (f row)) → (xs : List Line) → All (IsLineOf g fix) xs → (pos 0 ≤ℤ sum_of f xs) × (sum_of f xs ≤ℤ multiplier_total xs)
  unit-sum f unit [] all = (omega (arith, ints), omega (arith, ints))
  unit-sum f unit (x ∷ xs) all =
      let here = All-head (IsLineOf g fix) x xs all in
      let rest = unit-sum f unit xs (All-tail (IsLineOf g fix) x xs all) in
      let part = unit-part x.v (f (row_of g fix x)) here.positive (unit (row_of g fix x)) in
      let p = part.0 in let q = part.1 in let r = rest.0 in let s = rest.1 in
      (omega (arith, ints, p, r), omega (arith, ints, q, s))

module _ (g : Game) (people : IsPeopled g) (fix : Fix) (lines : List Line) (is : AreSummable g fix lines) where
  abbrev most : ℤ
  most = attacker_most g

  multipliers-nonneg : All (λ (x : Line). pos 0 ≤ℤ x.v) lines
  multipliers-nonneg = All-weaker (IsLineOf g fix) (λ (x : Line). pos 0 ≤ℤ x.v) (λ x h. let p = h.positive in omega (arith, ints, p)) lines is.lines_of

  front-of : (i : ℕ) → All (IsLineOf g fix) (take i lines)
  front-of i = All-take (IsLineOf g fix) i lines is.lines_of

  front-total : (i : ℕ) → multiplier_total g fix (take i lines) ≤ℤ multiplier_total g fix lines
  front-total i = total-front (λ (x : Line). x.v) lines i multipliers-nonneg

  most-nonneg : pos 0 ≤ℤ most
  most-nonneg = let o = one-at-most g in omega (arith, ints, o)

  all-nonneg : pos 0 ≤ℤ multiplier_total g fix lines
  all-nonneg = total-nonneg (λ (x : Line). x.v) lines multipliers-nonneg

  all-room : multiplier_total g fix lines ≤ℤ (multiplier_total g fix lines *ℤ most)
  all-room =
      let w : ℤ = multiplier_total g fix lines in
      let a = mul-le (pos 1) most w (one-at-most g) all-nonneg in
      let b : pos 1 *ℤ w ≡ w = same_by (times (n 1) (v w)) (v w) (omega arith) in
      let c : most *ℤ w ≡ w *ℤ most = same_by (times (v most) (v w)) (times (v w) (v most)) (omega arith) in
      omega (arith, ints, a, b, c)

  -- what is at most so many multipliers times the most fits
  small-fits : (w z : ℤ) → w ≤ℤ multiplier_total g fix lines → IsAtMost (w *ℤ most) z → Fits z
  small-fits w z le h =
      let all : ℤ = multiplier_total g fix lines in
      fits-within (all *ℤ most) z is.room (at_most-more (w *ℤ most) (all *ℤ most) z (mul-le w all most le most-nonneg) h)

  -- what is from 0 to the multipliers' total fits
  total-fits : (z : ℤ) → pos 0 ≤ℤ z → z ≤ℤ multiplier_total g fix lines → Fits z
  total-fits z low high =
      let all : ℤ = multiplier_total g fix lines in
      let r = all-room in
      fits-within (all *ℤ most) z is.room (omega (arith, ints, low, high, r), omega (arith, ints, high, r))

  pub column-sum-fits : (c : Column) → IsColumn g c → (i : ℕ) → Fits (sum_in_column g fix (take i lines) c)
  column-sum-fits c known i =
      let small = column_sums g people is.security fix is.is_fix (pos 1) (pos 0) (omega (arith, ints)) (take i lines) (front-of i) c known in
      small-fits (multiplier_total g fix (take i lines)) (sum_in_column g fix (take i lines) c) (front-total i) small.entries_small

  pub unit-sum-fits : (f : Row → ℤ) → ((row : Row) → IsUnit (f row)) → (i : ℕ) → Fits (sum_of g fix f (take i lines))
  unit-sum-fits f unit i =
      let h = unit-sum g fix f unit (take i lines) (front-of i) in
      let low = h.0 in let high = h.1 in let front = front-total i in
      total-fits (sum_of g fix f (take i lines)) low (omega (arith, ints, high, front))

  module _ (i : ℕ) (d : Line) (lt : i < length lines) where
    abbrev line : Line
    line = get_or lines i d

    pub line-is : IsLineOf g fix line
    line-is = is.lines_of i d lt

    one-total : line.v ≤ℤ multiplier_total g fix lines
    one-total =
        let more = total-more (λ (x : Line). x.v) lines i d lt in
        let front = front-total (i + 1) in
        let before = total-nonneg (λ (x : Line). x.v) (take i lines) (All-take (λ (x : Line). pos 0 ≤ℤ x.v) i lines multipliers-nonneg) in
        omega (arith, ints, more, front, before)

    multiplier-fits : FitsSigned w128 line.v
    multiplier-fits =
        let p = line-is.positive in let q = one-total in let r = all-room in let s = fits-below (multiplier_total g fix lines *ℤ most) is.room in
        omega (arith, ints, p, q, r, s)

    pub multiplier-is : to_z w128 (of_z w128 line.v) ≡ line.v
    multiplier-is = to_z-of_z w128 line.v multiplier-fits

    -- one line more
    pub next-is : (f : Row → ℤ) (row : Row) (now m next : ℤ) → row ≡ row_of g fix line → now ≡ sum_of g fix f (take i lines) → m ≡ line.v → next ≡ now +ℤ (m *ℤ f row) → next ≡ sum_of g fix f (take (i + 1) lines)
    next-is f row now m next er en em ex =
        ex ∙ rw (er, en, em) (sym (total-more (λ (x : Line). x.v *ℤ f (row_of g fix x)) lines i d lt))

    pub unit-next-fits : (f : Row → ℤ) → ((row : Row) → IsUnit (f row)) → (row : Row) (now m : ℤ) → row ≡ row_of g fix line → now ≡ sum_of g fix f (take i lines) → m ≡ line.v → Fits (now +ℤ (m *ℤ f row))
    unit-next-fits f unit row now m er en em = subst Fits (sym (next-is f row now m (now +ℤ (m *ℤ f row)) er en em refl)) (unit-sum-fits f unit (i + 1))

    module _ (c : Column) (known : IsColumn g c) where
      pub column-next-fits : (row : Row) (now m : ℤ) → row ≡ row_of g fix line → now ≡ sum_in_column g fix (take i lines) c → m ≡ line.v → Fits (now +ℤ (m *ℤ entry g fix row c))
      column-next-fits row now m er en em =
          subst Fits (sym (next-is (λ row. entry g fix row c) row now m (now +ℤ (m *ℤ entry g fix row c)) er en em refl)) (column-sum-fits c known (i + 1))

      pub column-term-fits : (row : Row) (m : ℤ) → row ≡ row_of g fix line → m ≡ line.v → Fits (m *ℤ entry g fix row c)
      column-term-fits row m er em =
          let alone = column_sums g people is.security fix is.is_fix (pos 1) (pos 0) (omega (arith, ints)) (line ∷ []) (All-cons (IsLineOf g fix) line [] line-is (All-nil (IsLineOf g fix))) c known in
          let small = alone.entries_small in
          let p = small.0 in let q = small.1 in
          let one : ℤ = line.v *ℤ entry g fix (row_of g fix line) c in
          let le : (line.v +ℤ pos 0) ≤ℤ multiplier_total g fix lines = (let t = one-total in omega (arith, ints, t)) in
          rw (er, em) (small-fits (line.v +ℤ pos 0) one le (omega (arith, ints, p), omega (arith, ints, q)))
