-- What is left of the targets' amounts, as choice after choice takes its count.
use Rattle.std.proofs.Common.{◌≡◌, ◌≢◌, ◌∙◌, ℕ, suc, ◌+◌, ◌-◌, ◌<◌, ◌≤◌, true, false, cond, List, [], ◌∷◌, length, map, set, ap, subst, sym, refl, arith, inl, inr, slice_index, slice_index_or, get_or-set_same, get_or-set_other}
use Rattle.std.specs.Prelude.{ℤ, pos, ◌+ℤ◌, ◌-ℤ◌, ◌≤ℤ◌}
use Rattle.std.specs.Int.{int_max, int_min}
use Rattle.std.specs.List.{All}
use Rattle.std.proofs.Math.ListN.{length-set}
use Rattle.std.proofs.lemmas.Bool.{cases_eq, cond-false, cond-true, eq-eqb, ne_eqb}
use Rattle.std.proofs.lemmas.Int.{ints, int_max_is, int_min_is}
use Rattle.std.proofs.lemmas.List.{get_or-map, length-map}
use Rattle.sg_model.specs.Games.{Game, resource_schedules}
use Rattle.sg_model.specs.Sums.{nth, numbers, total}
use Rattle.sg_model.proofs.Numbers.{length-numbers_from, nth-numbers}
use Rattle.sg_model.proofs.Sums.{total-append, total-nonneg}
use Rattle.sg_bounds.specs.Coverage as table
use Rattle.sg_split.specs.ByTarget.{IsTargetOf}
use Rattle.sg_split.proofs.Singles.{holds_is}
use Rattle.sg_programs.specs.CoverFilling.{amount_left, filled_count, filled_row, held_amount, resource_amount, target_in}
use Rattle.sg_programs.specs.CoverPoints.{is_same_column}
use Rattle.sg_programs.specs.CoverPrograms.{table_column}
use Rattle.sg_dual.specs.declared.part.Part.{Part}
use Rattle.sg_eraser.specs.Amounts.{AreLeft, amount_in}
use Rattle.sg_eraser.proofs.Written.{numbers-next}

-- no amount is below 0
pub amount_in-low : (g : Game) (parts : List Part) → All (λ (x : Part). pos 0 ≤ℤ x.weight) parts → (c : table.Column) → pos 0 ≤ℤ amount_in g parts c
amount_in-low g parts low c =
    total-nonneg (λ (x : Part). cond (is_same_column (table_column g x.col) c) x.weight (pos 0)) parts
    (λ k d lt. let x : Part = slice_index_or parts k d in let w = low k d lt in
    elim (is_same_column (table_column g x.col) c) as (λ b. pos 0 ≤ℤ cond b x.weight (pos 0)) [ true ↦ w | false ↦ omega (arith, ints) ])

-- one number more
more : (f : ℕ → ℤ) (k : ℕ) → total f (numbers (k + 1)) ≡ total f (numbers k) +ℤ f (k + 1)
more f k = let e = ap (total f) (numbers-next k) ∙ total-append f (numbers k) ((k + 1) ∷ []) in omega (arith, ints, e)

last : (f : ℕ → ℤ) (j : ℕ) → 1 ≤ j → total f (numbers j) ≡ total f (numbers (j - 1)) +ℤ f j
last f j from_one = let e : j - 1 + 1 ≡ j = omega (arith, from_one) in ap (λ (k : ℕ). total f (numbers k)) (sym e) ∙ more f (j - 1) ∙ ap (λ (k : ℕ). total f (numbers (j - 1)) +ℤ f k) e

module _ (g : Game) (a : table.Column → ℤ) where
  left-before : (u r j : ℕ) → 1 ≤ j → amount_left g a u r (j + 1) ≡ amount_left g a u r j -ℤ held_amount g a u r j
  left-before u r j from_one =
      let e : j + 1 - 1 ≡ j = omega arith in
      let sum = ap (λ (k : ℕ). total (held_amount g a u r) (numbers k)) e ∙ last (held_amount g a u r) j from_one in
      omega (arith, ints, sum)

  -- at the start all of it
  pub left-all : ((c : table.Column) → pos 0 ≤ℤ a c) → (left : List ℤ) → left ≡ map (λ (u : ℕ). a (table.covering u)) (numbers (length g.goals)) → AreLeft g a 1 1 left
  left-all low left is = record {
    long = ap length is ∙ length-map (numbers (length g.goals)) (λ (u : ℕ). a (table.covering u)) ∙ length-numbers_from 1 (length g.goals);
    each = λ u from_one in_range.
        let at : slice_index_or left (u - 1) (pos 0) ≡ a (table.covering u) =
        ap (λ (zs : List ℤ). slice_index_or zs (u - 1) (pos 0)) is
        ∙ get_or-map (λ (v : ℕ). a (table.covering v)) (numbers (length g.goals)) (u - 1) 0 (pos 0) (omega (arith, from_one, in_range, length-numbers_from 1 (length g.goals)))
        ∙ ap (λ (v : ℕ). a (table.covering v)) (subst (λ (k : ℕ). nth (numbers (length g.goals)) k 0 ≡ u) (let back : u ≡ suc (u - 1) = omega (arith, from_one) in back) (nth-numbers (length g.goals) u 0 from_one in_range)) in
        let m = int_max_is (pos 0) (amount_left g a u 1 1) in
        let some = low (table.covering u) in
        let whole : amount_left g a u 1 1 ≡ a (table.covering u) = omega (arith, ints) in
        omega (arith, ints, at, m, some, whole);
  }

  module _ (r j own : ℕ) (left : List ℤ) (amount taken : ℤ) (from_one : 1 ≤ j) (is : IsTargetOf g r j own) (are : AreLeft g a r j left) (amount-is : amount ≡ a (table.chooses r j)) (low : pos 0 ≤ℤ amount)
      (taken-is : taken ≡ int_min (slice_index_or left (own - 1) (pos 0)) amount) where
    own-is : target_in g r j ≡ own
    own-is = ap (λ (xs : List ℕ). slice_index xs 0) is.own

    here : slice_index_or left (own - 1) (pos 0) ≡ int_max (pos 0) (amount_left g a own r j)
    here = are.each own is.known.0 is.known.1

    pub count-is : taken ≡ filled_count g a r j
    count-is =
        let l : ℤ = amount_left g a own r j in
        let x : ℤ = slice_index_or left (own - 1) (pos 0) in
        let m = int_max_is (pos 0) l in let n = int_min_is x amount in let p = int_min_is l amount in let q = int_max_is (pos 0) (int_min l amount) in
        let same : taken ≡ int_max (pos 0) (int_min l amount) = omega (arith, ints, taken-is, here, low, m, n, p, q) in
        same ∙ ap (λ (z : ℤ). int_max (pos 0) (int_min l z)) amount-is ∙ ap (λ (u : ℕ). int_max (pos 0) (int_min (amount_left g a u r j) (a (table.chooses r j)))) (sym own-is)

    held-own : held_amount g a own r j ≡ amount
    held-own = cond-true (table.choice_holds g r j own) (a (table.chooses r j)) (pos 0) (holds_is g r j own is own ∙ eq-eqb own own refl) ∙ sym amount-is

    held-other : (u : ℕ) → u ≢ own → held_amount g a u r j ≡ pos 0
    held-other u ne = cond-false (table.choice_holds g r j u) (a (table.chooses r j)) (pos 0) (holds_is g r j own is u ∙ ne_eqb own u (λ e. ne (sym e)))

    pub left-next : (rest : List ℤ) → rest ≡ set left (own - 1) (slice_index_or left (own - 1) (pos 0) -ℤ int_min (slice_index_or left (own - 1) (pos 0)) amount) → AreLeft g a r (j + 1) rest
    left-next rest e =
        let x : ℤ = slice_index_or left (own - 1) (pos 0) in
        let w : ℤ = x -ℤ int_min x amount in
        let known = is.known.0 in let high = is.known.1 in let long = are.long in
        let inside : own - 1 < length left = omega (arith, known, high, long) in
        rw e (record {
          long = length-set left (own - 1) w ∙ are.long;
          each = λ u first in_range.
              let before = left-before u r j from_one in
              let m = int_max_is (pos 0) (amount_left g a u r j) in
              let n = int_max_is (pos 0) (amount_left g a u r (j + 1)) in
              elim (cases_eq u own) [
                | inl q ↦ (
                    let at : slice_index_or (set left (own - 1) w) (u - 1) (pos 0) ≡ w = ap (λ (v : ℕ). slice_index_or (set left (own - 1) w) (v - 1) (pos 0)) q ∙ get_or-set_same left (own - 1) w (pos 0) inside in
                    let held : held_amount g a u r j ≡ amount = ap (λ (v : ℕ). held_amount g a v r j) q ∙ held-own in
                    let old : x ≡ int_max (pos 0) (amount_left g a u r j) = here ∙ ap (λ (v : ℕ). int_max (pos 0) (amount_left g a v r j)) (sym q) in
                    let p = int_min_is x amount in
                    omega (arith, ints, at, held, old, before, low, m, n, p))
                | inr ne ↦ (
                    let apart : u - 1 ≢ own - 1 = (λ (q : u - 1 ≡ own - 1). ne (omega (arith, q, first, known))) in
                    let at = get_or-set_other left (own - 1) (u - 1) w (pos 0) apart in
                    let held = held-other u ne in
                    let old = are.each u first in_range in
                    omega (arith, ints, at, held, old, before, m, n))
              ];
        })

  -- behind the last choice of a resource comes the first of the next one
  pub left-over : (r k : ℕ) (left : List ℤ) → 1 ≤ r → length (resource_schedules g r) ≤ k → k ≤ length (resource_schedules g r) → AreLeft g a r (k + 1) left → AreLeft g a (r + 1) 1 left
  left-over r k left from_one le ge are =
      let count : k + 1 - 1 ≡ length (resource_schedules g r) = omega (arith, le, ge) in
      let back : r + 1 - 1 ≡ r = omega arith in
      record {
        long = are.long;
        each = λ u first in_range.
            let old = are.each u first in_range in
            let sum = last (resource_amount g a u) r from_one in
            let all = ap (λ (n : ℕ). total (held_amount g a u r) (numbers n)) count in
            let gone = ap (λ (n : ℕ). total (resource_amount g a u) (numbers n)) back in
            let same : amount_left g a u r (k + 1) ≡ amount_left g a u (r + 1) 1 = omega (arith, ints, sum, all, gone) in
            old ∙ ap (λ (z : ℤ). int_max (pos 0) z) same;
      }

-- ---- what is written

-- the counts of the first k choices of resource r, and what they leave
abbrev pub IsFilledTo : Game → (table.Column → ℤ) → ℕ → ℕ → List ℤ → List ℤ → Type 0
IsFilledTo g a r k row left = (row ≡ map (filled_count g a r) (numbers k)) × AreLeft g a r (k + 1) left

-- those of the first r resources
abbrev pub AreFilledTo : Game → (table.Column → ℤ) → ℕ → List (List ℤ) → List ℤ → Type 0
AreFilledTo g a r rows left = (rows ≡ map (filled_row g a) (numbers r)) × AreLeft g a (r + 1) 1 left
