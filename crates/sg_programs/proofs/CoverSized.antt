-- The program of a node over the coverage table is within its limits, and some multipliers bound it.
use Rattle.std.proofs.Common.{◌≡◌, ℕ, zero, suc, ◌+◌, ◌-◌, ◌*◌, ◌<◌, ◌≤◌, ◌^◌, true, false, cond, List, [], ◌∷◌, ◌++◌, map, length, sym, ◌∙◌, ap, refl, arith, ◌⊎◌, inl, inr, eqb, flat_map, slice_index_or}
use Rattle.std.specs.List.{All}
use Rattle.std.specs.Prelude.{ℤ, pos, negsuc, ◌+ℤ◌, ◌-ℤ◌, ◌*ℤ◌, ◌≤ℤ◌, nat_eq}
use Rattle.std.proofs.lemmas.Bool.{cases_eq, cases_Bool, eq-eqb, eqb-true, ne_eqb}
use Rattle.std.proofs.lemmas.Int.{ints}
use Rattle.std.proofs.lemmas.List.Elements.{All-nil}
use Rattle.std.proofs.Math.Nat.{mul-le-mul_right}
use Rattle.sg_num.proofs.Laws.{mul-comm, one-mul, zero-mul}
use Rattle.sg_num.proofs.Ring.{var, num, ◌⊕◌, ◌⊗◌, ring}
use Rattle.sg_num.proofs.Signs.{mul-nonneg}
use Rattle.sg_num.specs.Exact.{IsAtMost}
use Rattle.sg_model.specs.declared.kind.Kind.TheVariants.{Security}
use Rattle.sg_model.specs.Sums.{numbers, numbers_from, total}
use Rattle.sg_model.specs.Games.{Game, attacker, payoff, resource_count}
use Rattle.sg_model.specs.Limits.{IsGame, IsPay, program_rows}
use Rattle.sg_model.specs.Payoffs.{shift_of}
use Rattle.sg_model.proofs.Forms.{no_matrix}
use Rattle.sg_model.proofs.Promises.{payoff-in_range, peopled}
use Rattle.sg_model.proofs.Spans.{Spans, spans_product}
use Rattle.sg_model.proofs.Sums.{total-append, total-scaled, total-zero}
use Rattle.sg_tree.specs.declared.fix.Fix.{Fix}
use Rattle.sg_bounds.specs.Coverage as table
use Rattle.sg_bounds.specs.Facts.{IsLineOf}
use Rattle.sg_bounds.specs.Regions.{IsFix, act_of, fixed}
use Rattle.sg_bounds.specs.Sizes.{defender_most, fixed_priors}
use Rattle.sg_bounds.proofs.Cover.{fixed_pairs, total-map}
use Rattle.sg_bounds.proofs.Listed.{columns_are_all}
use Rattle.sg_bounds.proofs.RowOrder.{rows_in_order}
use Rattle.sg_bounds.proofs.SizeBounds.{column_sums}
use Rattle.sg_linear.specs.Sums.{dot}
use Rattle.sg_lp.specs.Programs.{Bounds}
use Rattle.sg_programs.specs.CoverLaws.{CoverIsBounded, CoverIsSized, bounding_row, cost_limit, cover_bounding}
use Rattle.sg_programs.specs.CoverPrograms.{cover_program, table_row}
use Rattle.sg_programs.proofs.CoverColumns.{over-columns, rows-total}
use Rattle.sg_programs.proofs.Heights.{limit}
use Rattle.sg_programs.proofs.Sized.{parts-sum, prior-spans, shifted-pay}

-- ---- rows

pub table-few : (g : Game) → IsGame g → g.scale ≡ pos 0 → g.kind ≡ Security → (fix : Fix) → IsFix g fix → length (table.table_rows g fix) + 1 ≤ 1536
table-few g h unscaled security fix is_fix =
    let k : ℕ = length g.goals - 1 in
    let acts = is_fix.in_range in
    let first = is_fix.from_one in
    let more : length fix.acts * k ≤ length g.types * k = mul-le-mul_right k (omega (arith, acts, first)) in
    let rows : program_rows g ≡ 1 + resource_count g + 2 * length g.goals + length g.types * k = rw (no_matrix g security) refl in
    omega (arith, (rows_in_order g security fix is_fix).count, more, rows, limit g h unscaled)

-- ---- entries

abbrev IsEntry : ℤ → Type 0
IsEntry z = IsAtMost (pos (2 ^ 31 + 1)) z

difference : (x y : ℤ) → IsPay x → IsPay y → IsEntry (x -ℤ y)
difference x y p q = (omega (arith, ints, p.at_least, q.at_most), omega (arith, ints, p.at_most, q.at_least))

one-where : (a b : ℕ) → IsEntry (table.where_same a b (pos 1))
one-where a b = elim (nat_eq a b) as (λ t. IsEntry (cond t (pos 1) (pos 0))) [ true ↦ (omega (arith, ints), omega (arith, ints)) | false ↦ (omega (arith, ints), omega (arith, ints)) ]

-- two numbers, one at each of two places: where the places are one, the first is as much above 0 as the second below
either : (b a t : ℕ) (x y : ℤ) → IsEntry x → IsEntry y → (b ≡ a → x +ℤ y ≡ pos 0) → IsEntry (table.where_same b t x +ℤ table.where_same a t y)
either b a t x y p q both = go (cases_Bool (nat_eq b t)) (cases_Bool (nat_eq a t))
  where
    go : (nat_eq b t ≡ true) ⊎ (nat_eq b t ≡ false) → (nat_eq a t ≡ true) ⊎ (nat_eq a t ≡ false) → IsEntry (table.where_same b t x +ℤ table.where_same a t y)
    go (inl e) (inl f) = let z = both (eqb-true b t e ∙ sym (eqb-true a t f)) in rw (e, f) (omega (arith, ints, z), omega (arith, ints, z))
    go (inl e) (inr f) = rw (e, f) (let m = p.0 in let n = p.1 in (omega (arith, ints, m), omega (arith, ints, n)))
    go (inr e) (inl f) = rw (e, f) (let m = q.0 in let n = q.1 in (omega (arith, ints, m), omega (arith, ints, n)))
    go (inr e) (inr f) = rw (e, f) (omega (arith, ints), omega (arith, ints))

entry-small : (g : Game) → IsGame g → (fix : Fix) (row : table.Row) (c : table.Column) → IsEntry (table.entry g fix row c)
entry-small g h fix table.whole table.always = (omega (arith, ints), omega (arith, ints))
entry-small g h fix table.whole (table.chooses r j) = (omega (arith, ints), omega (arith, ints))
entry-small g h fix table.whole (table.covering t) = (omega (arith, ints), omega (arith, ints))
entry-small g h fix (table.spends s) table.always = (omega (arith, ints), omega (arith, ints))
entry-small g h fix (table.spends s) (table.chooses r j) = one-where s r
entry-small g h fix (table.spends s) (table.covering t) = (omega (arith, ints), omega (arith, ints))
entry-small g h fix (table.held s) table.always = (omega (arith, ints), omega (arith, ints))
entry-small g h fix (table.held s) (table.chooses r j) =
    elim (table.choice_holds g r j s) as (λ b. IsEntry (cond b (negsuc 0) (pos 0))) [ true ↦ (omega (arith, ints), omega (arith, ints)) | false ↦ (omega (arith, ints), omega (arith, ints)) ]
entry-small g h fix (table.held s) (table.covering t) = one-where s t
entry-small g h fix (table.within s) table.always = (omega (arith, ints), omega (arith, ints))
entry-small g h fix (table.within s) (table.chooses r j) = (omega (arith, ints), omega (arith, ints))
entry-small g h fix (table.within s) (table.covering t) = one-where s t
entry-small g h fix (table.gains l b) table.always = difference (payoff g l b).au (payoff g l (act_of fix l)).au (payoff-in_range g h l b).au (payoff-in_range g h l (act_of fix l)).au
entry-small g h fix (table.gains l b) (table.chooses r j) = (omega (arith, ints), omega (arith, ints))
entry-small g h fix (table.gains l b) (table.covering t) =
    let p = payoff g l b in let q = payoff g l (act_of fix l) in
    let ip = payoff-in_range g h l b in let iq = payoff-in_range g h l (act_of fix l) in
    either b (act_of fix l) t (p.ac -ℤ p.au) (q.au -ℤ q.ac) (difference p.ac p.au ip.ac ip.au) (difference q.au q.ac iq.au iq.ac)
    (λ e. let s = ap (λ (a : ℕ). (payoff g l a).ac -ℤ (payoff g l a).au) e in omega (arith, ints, s))

-- ---- costs

module _ (g : Game) (h : IsGame g) (fix : Fix) (is_fix : IsFix g fix) where
  weighed : (f : ℕ × ℕ → ℤ) → ((p : ℕ × ℕ) → Spans (2 ^ 31 + 1) (f p)) → All (λ p. Spans (2 ^ 20 * (2 ^ 31 + 1)) ((attacker g p.0).prior *ℤ f p)) (fixed fix)
  weighed f small = λ i d lt.
      let p : ℕ × ℕ = slice_index_or (fixed fix) i d in
      let pair = fixed_pairs fix i d lt in
      let first = is_fix.from_one in let last = is_fix.in_range in
      let low = pair.low in let high = pair.high in
      spans_product (2 ^ 20) (2 ^ 31 + 1) (attacker g p.0).prior (f p) (prior-spans g h p.0 (omega (arith, first, low)) (omega (arith, last, high))) (small p)

  same-spans : (a b : ℕ) (z : ℤ) (m : ℕ) → Spans m z → Spans m (table.where_same a b z)
  same-spans a b z m s = elim (nat_eq a b) as (λ t. Spans m (cond t z (pos 0))) [ true ↦ s | false ↦ (let p = s.low in let q = s.high in record { low = omega (arith, ints); high = omega (arith, ints) }) ]

  cost-small : (c : table.Column) → IsAtMost (pos (2 ^ 56)) (table.column_cost g fix c)
  cost-small table.always =
      parts-sum g h fix is_fix (λ (p : ℕ × ℕ). (attacker g p.0).prior *ℤ ((payoff g p.0 p.1).du +ℤ shift_of g))
      (weighed (λ (p : ℕ × ℕ). (payoff g p.0 p.1).du +ℤ shift_of g) (λ p. shifted-pay g h (payoff g p.0 p.1).du (payoff-in_range g h p.0 p.1).du))
  cost-small (table.chooses r j) = (omega (arith, ints), omega (arith, ints))
  cost-small (table.covering t) =
      let gain : ℕ × ℕ → ℤ = λ (p : ℕ × ℕ). (payoff g p.0 p.1).dc -ℤ (payoff g p.0 p.1).du in
      let all = weighed gain (λ p. let d = difference (payoff g p.0 p.1).dc (payoff g p.0 p.1).du (payoff-in_range g h p.0 p.1).dc (payoff-in_range g h p.0 p.1).du in let a = d.0 in let b = d.1 in record { low = omega (arith, ints, a); high = omega (arith, ints, b) }) in
      parts-sum g h fix is_fix (λ (p : ℕ × ℕ). table.where_same p.1 t ((attacker g p.0).prior *ℤ gain p))
      (λ i d lt. let p : ℕ × ℕ = slice_index_or (fixed fix) i d in same-spans p.1 t ((attacker g p.0).prior *ℤ gain p) (2 ^ 20 * (2 ^ 31 + 1)) (all i d lt))

pub cover_is_sized : CoverIsSized
cover_is_sized g h unscaled security fix is_fix = record {
  some = omega arith;
  few = table-few g h unscaled security fix is_fix;
  entries = over-columns g fix (λ c. (j : ℕ) → j < (cover_program g fix).height → IsEntry (table.entry g fix (table_row g fix j) c)) (λ i d lt j below. entry-small g h fix (table_row g fix j) (slice_index_or (table.columns g) i d));
  costs = over-columns g fix (λ c. IsAtMost (pos (2 ^ 56)) (table.column_cost g fix c)) (λ i d lt. cost-small g h fix is_fix (slice_index_or (table.columns g) i d));
}

-- ---- multipliers that bound every column

same-total : (z : ℤ) (a n : ℕ) → total (λ (t : ℕ). z) (numbers_from a n) ≡ z *ℤ pos n
same-total z a zero = sym (mul-comm z (pos 0) ∙ zero-mul z)
same-total z a (suc n) =
    let next : pos (suc n) ≡ pos n +ℤ pos 1 = omega (arith, ints) in
    ap (λ (s : ℤ). z +ℤ s) (same-total z (a + 1) n) ∙ ring (z ∷ pos n ∷ []) (var 0 ⊕ var 0 ⊗ var 1) (var 0 ⊗ (var 1 ⊕ num (pos 1))) tt ∙ ap (λ (s : ℤ). z *ℤ s) (sym next)

past : (z : ℤ) (t a n : ℕ) → t < a → total (λ (s : ℕ). table.where_same s t z) (numbers_from a n) ≡ pos 0
past z t a zero lt = refl
past z t a (suc n) lt = let e : eqb a t ≡ false = ne_eqb a t (λ same. absurd (omega (arith, lt, same))) in rw e (omega (arith, ints, past z t (a + 1) n (omega (arith, lt))))

once : (z : ℤ) (t a n : ℕ) → a ≤ t → t < a + n → total (λ (s : ℕ). table.where_same s t z) (numbers_from a n) ≡ z
once z t a zero low high = absurd (omega (arith, low, high))
once z t a (suc n) low high = elim (cases_eq a t) [
  | inl same ↦ (let e : eqb a t ≡ true = eq-eqb a t same in rw e (omega (arith, ints, past z t (a + 1) n (omega (arith, same)))))
  | inr other ↦ (let e : eqb a t ≡ false = ne_eqb a t other in rw e (omega (arith, ints, once z t (a + 1) n (omega (arith, low, other)) (omega (arith, high)))))
]

-- a sum over the rows of the table, by kind
pub split-rows : (g : Game) (fix : Fix) (f : table.Row → ℤ) → total f (table.table_rows g fix)
    ≡ total (λ (r : ℕ). f (table.spends r)) (numbers (resource_count g)) +ℤ (total (λ (t : ℕ). f (table.held t)) (numbers (length g.goals)) +ℤ (total (λ (t : ℕ). f (table.within t)) (numbers (length g.goals))
    +ℤ total f (flat_map (λ (p : ℕ × ℕ). map (table.gains p.0) (table.others g p.1)) (fixed fix))))
split-rows g fix f =
    let r : List table.Row = map table.spends (numbers (resource_count g)) in
    let s : List table.Row = map table.held (numbers (length g.goals)) in
    let u : List table.Row = map table.within (numbers (length g.goals)) in
    let v : List table.Row = flat_map (λ (p : ℕ × ℕ). map (table.gains p.0) (table.others g p.1)) (fixed fix) in
    let a = total-append f r (s ++ (u ++ v)) in
    let b = total-append f s (u ++ v) in
    let c = total-append f u v in
    omega (arith, ints, a, b, c, total-map f table.spends (numbers (resource_count g)), total-map f table.held (numbers (length g.goals)), total-map f table.within (numbers (length g.goals)))

module _ (g : Game) (h : IsGame g) (security : g.kind ≡ Security) (fix : Fix) (is_fix : IsFix g fix) where
  abbrev most : ℤ
  most = cost_limit g fix

  cost-within : (c : table.Column) → table.IsColumn g c → ((pos 0 -ℤ most) ≤ℤ table.column_cost g fix c) × (table.column_cost g fix c ≤ℤ most)
  cost-within c is =
      let small = column_sums g (peopled g h) security fix is_fix (pos 1) (pos 0) (omega (arith, ints)) [] (All-nil (IsLineOf g fix)) c is in
      let w = small.costs in
      let low = w.0 in let high = w.1 in
      let size : (pos 1 *ℤ fixed_priors g fix) *ℤ defender_most g ≡ most = ap (λ (z : ℤ). z *ℤ defender_most g) (one-mul (fixed_priors g fix)) in
      let worth = one-mul (table.column_cost g fix c) in
      (omega (arith, ints, low, size, worth), omega (arith, ints, high, size, worth))

  most-nonneg : pos 0 ≤ℤ most
  most-nonneg = let w = cost-within table.always tt in let low = w.0 in let high = w.1 in omega (arith, ints, low, high)

  bounding-nonneg : (row : table.Row) → pos 0 ≤ℤ bounding_row g fix row
  bounding-nonneg table.whole = mul-nonneg most (pos (length g.goals + 1)) most-nonneg (omega (arith, ints))
  bounding-nonneg (table.spends r) = omega (arith, ints)
  bounding-nonneg (table.held t) = omega (arith, ints)
  bounding-nonneg (table.within t) = most-nonneg
  bounding-nonneg (table.gains l b) = omega (arith, ints)

  abbrev part : table.Column → table.Row → ℤ
  part c row = bounding_row g fix row *ℤ table.entry g fix row c

  abbrev held_part : table.Column → ℤ
  held_part c = total (λ (t : ℕ). part c (table.within t)) (numbers (length g.goals))

  gains-none : (c : table.Column) (ps : List (ℕ × ℕ)) → total (part c) (flat_map (λ (p : ℕ × ℕ). map (table.gains p.0) (table.others g p.1)) ps) ≡ pos 0
  gains-none c [] = refl
  gains-none c (p ∷ ps) =
      omega (arith, ints, total-append (part c) (map (table.gains p.0) (table.others g p.1)) (flat_map (λ (q : ℕ × ℕ). map (table.gains q.0) (table.others g q.1)) ps), row-none p.0 (table.others g p.1), gains-none c ps)
    where
      row-none : (l : ℕ) (bs : List ℕ) → total (part c) (map (table.gains l) bs) ≡ pos 0
      row-none l [] = refl
      row-none l (b ∷ bs) = omega (arith, ints, zero-mul (table.entry g fix (table.gains l b) c), row-none l bs)

  zeros : (f : ℕ → ℤ) (ns : List ℕ) → total (λ (n : ℕ). pos 0 *ℤ f n) ns ≡ pos 0
  zeros f [] = refl
  zeros f (n ∷ ns) = omega (arith, ints, zero-mul (f n), zeros f ns)

  sum-is : (c : table.Column) → dot (cover_program g fix).height (cover_bounding g fix) (λ j. table.entry g fix (table_row g fix j) c) ≡ part c table.whole +ℤ held_part c
  sum-is c =
      let all = rows-total (part c) (table.table_rows g fix) table.whole in
      let parts = split-rows g fix (part c) in
      omega (arith, ints, all, parts, zeros (λ r. table.entry g fix (table.spends r) c) (numbers (resource_count g)), zeros (λ t. table.entry g fix (table.held t) c) (numbers (length g.goals)), gains-none c (fixed fix))

  bounds-one : (c : table.Column) → table.IsColumn g c → table.column_cost g fix c ≤ℤ (part c table.whole +ℤ held_part c)
  bounds-one table.always is =
      let n : ℕ = length g.goals in
      let top = cost-within table.always tt in
      let high = top.1 in
      let held = same-total (most *ℤ negsuc 0) 1 n in
      let more : pos (n + 1) ≡ pos n +ℤ pos 1 = omega (arith, ints) in
      let sum : ((most *ℤ (pos n +ℤ pos 1)) *ℤ pos 1) +ℤ ((most *ℤ negsuc 0) *ℤ pos n) ≡ most = ring (most ∷ pos n ∷ []) ((var 0 ⊗ (var 1 ⊕ num (pos 1))) ⊗ num (pos 1) ⊕ (var 0 ⊗ num (negsuc 0)) ⊗ var 1) (var 0) tt in
      omega (arith, ints, high, held, sum, ap (λ (z : ℤ). (most *ℤ z) *ℤ pos 1) more)
  bounds-one (table.chooses r j) is =
      let n : ℕ = length g.goals in
      let none : (most *ℤ pos (n + 1)) *ℤ pos 0 ≡ pos 0 = mul-comm (most *ℤ pos (n + 1)) (pos 0) ∙ zero-mul (most *ℤ pos (n + 1)) in
      let held = total-scaled (λ (t : ℕ). pos 0) most (numbers n) in
      let nothing = ap (λ (z : ℤ). most *ℤ z) (total-zero (numbers n)) ∙ mul-comm most (pos 0) ∙ zero-mul most in
      omega (arith, ints, none, held, nothing)
  bounds-one (table.covering t) is =
      let n : ℕ = length g.goals in
      let none : (most *ℤ pos (n + 1)) *ℤ pos 0 ≡ pos 0 = mul-comm (most *ℤ pos (n + 1)) (pos 0) ∙ zero-mul (most *ℤ pos (n + 1)) in
      let held = total-scaled (λ (s : ℕ). table.where_same s t (pos 1)) most (numbers n) in
      let whole = ap (λ (z : ℤ). most *ℤ z) (once (pos 1) t 1 n is.0 (let last = is.1 in omega (arith, last))) ∙ mul-comm most (pos 1) ∙ one-mul most in
      let top = cost-within (table.covering t) is in
      let high = top.1 in
      omega (arith, ints, none, held, whole, high)

  pub cover-bounded : Bounds (cover_program g fix) (cover_bounding g fix)
  cover-bounded = record {
    nonnegative = λ j below. bounding-nonneg (table_row g fix j);
    allows = over-columns g fix (λ c. table.column_cost g fix c ≤ℤ dot (cover_program g fix).height (cover_bounding g fix) (λ j. table.entry g fix (table_row g fix j) c))
        (λ i d lt.
        let c : table.Column = slice_index_or (table.columns g) i d in
        let known : table.IsColumn g c = (columns_are_all g).known i d lt in
        omega (arith, ints, bounds-one c known, sum-is c));
  }

pub cover_is_bounded : CoverIsBounded
cover_is_bounded g h security fix is_fix = cover-bounded g h security fix is_fix
