-- What weights of the columns of the coverage table come to in each row, and what they cost.
use Rattle.std.proofs.Common.{◌≡◌, ℕ, zero, suc, ◌+◌, ◌<◌, ◌≤◌, Bool, true, false, cond, List, [], ◌∷◌, map, length, sym, ◌∙◌, ap, subst, refl, arith, inl, inr, eqb, slice_index_or}
use Rattle.std.specs.List.{Contains}
use Rattle.std.specs.Prelude.{ℤ, pos, negsuc, ◌+ℤ◌, ◌-ℤ◌, ◌*ℤ◌}
use Rattle.std.proofs.lemmas.Bool.{cases_eq, eq-eqb, ne_eqb}
use Rattle.std.proofs.lemmas.Int.{ints}
use Rattle.std.proofs.lemmas.List.Elements.{Contains-append_left, Contains-append_right}
use Rattle.sg_num.proofs.Laws.{mul-comm, one-mul, zero-mul}
use Rattle.sg_num.proofs.Ring.{var, num, ◌⊕◌, ◌⊖◌, ◌⊗◌, ring}
use Rattle.sg_model.specs.declared.kind.Kind.TheVariants.{Security}
use Rattle.sg_model.specs.Sums.{numbers, numbers_from, total}
use Rattle.sg_model.specs.Games.{Game, action_count, attacker, payoff, resource_count, resource_schedules}
use Rattle.sg_model.specs.Payoffs.{shift_of}
use Rattle.sg_model.proofs.Forms.{no_matrix}
use Rattle.sg_model.proofs.Payoffs.{Contains-flat_map, Contains-map, Contains-numbers}
use Rattle.sg_model.proofs.Sums.{total-add, total-same, total-scaled}
use Rattle.sg_tree.specs.declared.fix.Fix.{Fix}
use Rattle.sg_bounds.specs.Coverage as table
use Rattle.sg_bounds.specs.Regions.{IsFix, act_of, fixed}
use Rattle.sg_programs.specs.CoverPoints.{coverage_sum}
use Rattle.sg_programs.specs.Laws.{IsComparison}
use Rattle.sg_programs.proofs.Comparisons.{fixed-inside, kept-inside}
use Rattle.sg_programs.proofs.CoverAmounts.{split-amounts}
use Rattle.sg_programs.proofs.PlayPoints.{weighted}

-- ---- sums over numbers

pub times-zero : (z : ℤ) → z *ℤ pos 0 ≡ pos 0
times-zero z = mul-comm z (pos 0) ∙ zero-mul z

pub times-minus : (z : ℤ) → z *ℤ negsuc 0 ≡ pos 0 -ℤ z
times-minus z = ring (z ∷ []) (var 0 ⊗ num (negsuc 0)) (num (pos 0) ⊖ var 0) tt

zeros : {X : Type 0} (f : X → ℤ) (xs : List X) → total (λ x. f x *ℤ pos 0) xs ≡ pos 0
zeros f [] = refl
zeros f (x ∷ xs) = omega (arith, ints, times-zero (f x), zeros f xs)

all-zeros : {X Y : Type 0} (f : X → Y → ℤ) (ys : X → List Y) (xs : List X) → total (λ x. total (λ y. f x y *ℤ pos 0) (ys x)) xs ≡ pos 0
all-zeros f ys [] = refl
all-zeros f ys (x ∷ xs) = omega (arith, ints, zeros (f x) (ys x), all-zeros f ys xs)

-- one number among all
none-of : (h : ℕ → ℤ) (r a n : ℕ) → r < a → total (λ s. cond (eqb r s) (h s) (pos 0)) (numbers_from a n) ≡ pos 0
none-of h r a zero lt = refl
none-of h r a (suc n) lt = let e : eqb r a ≡ false = ne_eqb r a (λ same. absurd (omega (arith, lt, same))) in rw e (omega (arith, ints, none-of h r (a + 1) n (omega (arith, lt))))

one-of : (h : ℕ → ℤ) (r a n : ℕ) → a ≤ r → r < a + n → total (λ s. cond (eqb r s) (h s) (pos 0)) (numbers_from a n) ≡ h r
one-of h r a zero low high = absurd (omega (arith, low, high))
one-of h r a (suc n) low high = elim (cases_eq r a) [
  | inl same ↦ (let e : eqb r a ≡ true = eq-eqb r a same in rw e (omega (arith, ints, none-of h r (a + 1) n (omega (arith, same)), ap h same)))
  | inr other ↦ (let e : eqb r a ≡ false = ne_eqb r a other in rw e (omega (arith, ints, one-of h r (a + 1) n (omega (arith, low, other)) (omega (arith, high)))))
]

-- what is counted at one number
same-times : (r s : ℕ) (z x : ℤ) → z *ℤ table.where_same r s x ≡ cond (eqb r s) (z *ℤ x) (pos 0)
same-times r s z x = elim (eqb r s) as (λ b. z *ℤ cond b x (pos 0) ≡ cond b (z *ℤ x) (pos 0)) [ true ↦ refl | false ↦ times-zero z ]

pub picked-times : (a : ℕ → ℤ) (x : ℤ) (r n : ℕ) → 1 ≤ r → r ≤ n → total (λ s. a s *ℤ table.where_same r s x) (numbers n) ≡ a r *ℤ x
picked-times a x r n low high =
    total-same (λ s. a s *ℤ table.where_same r s x) (λ s. cond (eqb r s) (a s *ℤ x) (pos 0)) (numbers n) (λ i d lt. let s : ℕ = slice_index_or (numbers n) i d in same-times r s (a s) x)
    ∙ one-of (λ s. a s *ℤ x) r 1 n low (omega (arith, high))

-- ---- the rows of the table

module _ (g : Game) (fix : Fix) where
  pub spends-listed : (r : ℕ) → 1 ≤ r → r ≤ resource_count g → Contains (table.table_rows g fix) (table.spends r)
  spends-listed r low high =
      Contains-append_left (map table.spends (numbers (resource_count g))) _ (table.spends r) (Contains-map table.spends (numbers (resource_count g)) r (Contains-numbers (resource_count g) r low high))

  pub held-listed : (u : ℕ) → 1 ≤ u → u ≤ length g.goals → Contains (table.table_rows g fix) (table.held u)
  held-listed u low high =
      Contains-append_right (map table.spends (numbers (resource_count g))) _ (table.held u)
      (Contains-append_left (map table.held (numbers (length g.goals))) _ (table.held u) (Contains-map table.held (numbers (length g.goals)) u (Contains-numbers (length g.goals) u low high)))

  pub within-listed : (u : ℕ) → 1 ≤ u → u ≤ length g.goals → Contains (table.table_rows g fix) (table.within u)
  within-listed u low high =
      Contains-append_right (map table.spends (numbers (resource_count g))) _ (table.within u)
      (Contains-append_right (map table.held (numbers (length g.goals))) _ (table.within u)
      (Contains-append_left (map table.within (numbers (length g.goals))) _ (table.within u) (Contains-map table.within (numbers (length g.goals)) u (Contains-numbers (length g.goals) u low high))))

  pub gains-listed : g.kind ≡ Security → (l b : ℕ) → IsComparison g fix (l, b) → Contains (table.table_rows g fix) (table.gains l b)
  gains-listed security l b is =
      let targets : action_count g l ≡ length g.goals = rw (no_matrix g security) refl in
      let known = is.action in
      Contains-append_right (map table.spends (numbers (resource_count g))) _ (table.gains l b)
      (Contains-append_right (map table.held (numbers (length g.goals))) _ (table.gains l b)
      (Contains-append_right (map table.within (numbers (length g.goals))) _ (table.gains l b)
      (Contains-flat_map (λ (p : ℕ × ℕ). map (table.gains p.0) (table.others g p.1)) (fixed fix) (l, act_of fix l) (table.gains l b) (fixed-inside fix.first fix.acts l is.from_first is.in_range)
      (Contains-map (table.gains l) (table.others g (act_of fix l)) b
      (kept-inside (act_of fix l) b 1 (length g.goals) (λ same. is.other (sym same)) is.from_one (omega (arith, known, targets)))))))

-- the target that a type is fixed to
pub own-target : (g : Game) → g.kind ≡ Security → (fix : Fix) → IsFix g fix → (l : ℕ) → fix.first ≤ l → l < fix.first + length fix.acts → (1 ≤ act_of fix l) × (act_of fix l ≤ length g.goals)
own-target g security fix is_fix l low high =
    let targets : action_count g l ≡ length g.goals = rw (no_matrix g security) refl in
    let at = fixed-inside fix.first fix.acts l low high in
    let q : ℕ × ℕ = (l, act_of fix l) in
    let act = subst (λ (m : ℕ × ℕ). (1 ≤ m.1) × (m.1 ≤ action_count g m.0)) at.2 (is_fix.acts at.0 q at.1) in
    (act.0, omega (arith, act.1, targets))

-- ---- weights of the columns, by row

module _ (g : Game) (fix : Fix) (a : table.Column → ℤ) where
  abbrev part : table.Row → table.Column → ℤ
  part row c = a c *ℤ table.entry g fix row c

  -- what they come to in a row
  abbrev pub over : table.Row → ℤ
  over row = total (part row) (table.columns g)

  abbrev choice_sum : table.Row → ℤ
  choice_sum row = total (λ (r : ℕ). total (λ (j : ℕ). part row (table.chooses r j)) (numbers (length (resource_schedules g r)))) (numbers (resource_count g))

  abbrev target_sum : table.Row → ℤ
  target_sum row = total (λ (u : ℕ). part row (table.covering u)) (numbers (length g.goals))

  no-choices : (row : table.Row) → ((r j : ℕ) → table.entry g fix row (table.chooses r j) ≡ pos 0) → choice_sum row ≡ pos 0
  no-choices row e =
      total-same (λ (r : ℕ). total (λ (j : ℕ). part row (table.chooses r j)) (numbers (length (resource_schedules g r)))) (λ (r : ℕ). total (λ (j : ℕ). a (table.chooses r j) *ℤ pos 0) (numbers (length (resource_schedules g r)))) (numbers (resource_count g))
      (λ k d lt. let r : ℕ = slice_index_or (numbers (resource_count g)) k d in
      total-same (λ (j : ℕ). part row (table.chooses r j)) (λ (j : ℕ). a (table.chooses r j) *ℤ pos 0) (numbers (length (resource_schedules g r)))
      (λ m f in_list. let j : ℕ = slice_index_or (numbers (length (resource_schedules g r))) m f in ap (λ (z : ℤ). a (table.chooses r j) *ℤ z) (e r j)))
      ∙ all-zeros (λ (r j : ℕ). a (table.chooses r j)) (λ (r : ℕ). numbers (length (resource_schedules g r))) (numbers (resource_count g))

  one-covered : (u : ℕ) → 1 ≤ u → u ≤ length g.goals → total (λ (s : ℕ). a (table.covering s) *ℤ table.where_same u s (pos 1)) (numbers (length g.goals)) ≡ a (table.covering u)
  one-covered u low high = picked-times (λ (s : ℕ). a (table.covering s)) (pos 1) u (length g.goals) low high ∙ mul-comm (a (table.covering u)) (pos 1) ∙ one-mul (a (table.covering u))

  pub whole-over : over table.whole ≡ a table.always
  whole-over =
      let split = split-amounts g (part table.whole) in
      let one = mul-comm (a table.always) (pos 1) ∙ one-mul (a table.always) in
      omega (arith, ints, split, one, no-choices table.whole (λ r j. refl), zeros (λ (u : ℕ). a (table.covering u)) (numbers (length g.goals)))

  pub spends-over : (r : ℕ) → 1 ≤ r → r ≤ resource_count g → over (table.spends r) ≡ total (λ (j : ℕ). a (table.chooses r j)) (numbers (length (resource_schedules g r))) -ℤ a table.always
  spends-over r low high =
      let own : ℕ → ℤ = λ s. total (λ (j : ℕ). a (table.chooses s j)) (numbers (length (resource_schedules g s))) in
      let each : choice_sum (table.spends r) ≡ total (λ (s : ℕ). cond (eqb r s) (own s) (pos 0)) (numbers (resource_count g)) =
      total-same (λ (s : ℕ). total (λ (j : ℕ). part (table.spends r) (table.chooses s j)) (numbers (length (resource_schedules g s)))) (λ (s : ℕ). cond (eqb r s) (own s) (pos 0)) (numbers (resource_count g))
      (λ k d lt. let s : ℕ = slice_index_or (numbers (resource_count g)) k d in of-row s (numbers (length (resource_schedules g s)))) in
      let one = one-of own r 1 (resource_count g) low (omega (arith, high)) in
      omega (arith, ints, split-amounts g (part (table.spends r)), each, one, zeros (λ (u : ℕ). a (table.covering u)) (numbers (length g.goals)), times-minus (a table.always))
    where
      of-row : (s : ℕ) (js : List ℕ) → total (λ (j : ℕ). a (table.chooses s j) *ℤ table.where_same r s (pos 1)) js ≡ cond (eqb r s) (total (λ (j : ℕ). a (table.chooses s j)) js) (pos 0)
      of-row s js = elim (eqb r s) as (λ b. total (λ (j : ℕ). a (table.chooses s j) *ℤ cond b (pos 1) (pos 0)) js ≡ cond b (total (λ (j : ℕ). a (table.chooses s j)) js) (pos 0)) [
        | true ↦ total-same (λ (j : ℕ). a (table.chooses s j) *ℤ pos 1) (λ (j : ℕ). a (table.chooses s j)) js (λ k d lt. let z : ℤ = a (table.chooses s (slice_index_or js k d)) in mul-comm z (pos 1) ∙ one-mul z)
        | false ↦ zeros (λ (j : ℕ). a (table.chooses s j)) js
      ]

  pub within-over : (u : ℕ) → 1 ≤ u → u ≤ length g.goals → over (table.within u) ≡ a (table.covering u) -ℤ a table.always
  within-over u low high =
      omega (arith, ints, split-amounts g (part (table.within u)), no-choices (table.within u) (λ r j. refl), one-covered u low high, times-minus (a table.always))

  -- what choice j of resource r has for target u
  abbrev pub holding : ℕ → ℕ → ℕ → ℤ
  holding u r j = cond (table.choice_holds g r j u) (a (table.chooses r j)) (pos 0)

  pub held-over : (u : ℕ) → 1 ≤ u → u ≤ length g.goals
      → over (table.held u) ≡ a (table.covering u) -ℤ total (λ (r : ℕ). total (λ (j : ℕ). holding u r j) (numbers (length (resource_schedules g r)))) (numbers (resource_count g))
  held-over u low high =
      let own : ℕ → ℤ = λ r. total (λ (j : ℕ). holding u r j) (numbers (length (resource_schedules g r))) in
      let each : choice_sum (table.held u) ≡ total (λ (r : ℕ). negsuc 0 *ℤ own r) (numbers (resource_count g)) =
      total-same (λ (r : ℕ). total (λ (j : ℕ). part (table.held u) (table.chooses r j)) (numbers (length (resource_schedules g r)))) (λ (r : ℕ). negsuc 0 *ℤ own r) (numbers (resource_count g))
      (λ k d lt. let r : ℕ = slice_index_or (numbers (resource_count g)) k d in of-row r (numbers (length (resource_schedules g r)))) in
      let scaled = total-scaled own (negsuc 0) (numbers (resource_count g)) in
      let turned = mul-comm (negsuc 0) (total own (numbers (resource_count g))) ∙ times-minus (total own (numbers (resource_count g))) in
      omega (arith, ints, split-amounts g (part (table.held u)), each, scaled, turned, one-covered u low high, times-zero (a table.always))
    where
      of-one : (z : ℤ) (b : Bool) → z *ℤ cond b (negsuc 0) (pos 0) ≡ negsuc 0 *ℤ cond b z (pos 0)
      of-one z true = mul-comm z (negsuc 0)
      of-one z false = times-zero z

      of-row : (r : ℕ) (js : List ℕ) → total (λ (j : ℕ). a (table.chooses r j) *ℤ cond (table.choice_holds g r j u) (negsuc 0) (pos 0)) js ≡ negsuc 0 *ℤ total (λ (j : ℕ). holding u r j) js
      of-row r js =
          total-same (λ (j : ℕ). a (table.chooses r j) *ℤ cond (table.choice_holds g r j u) (negsuc 0) (pos 0)) (λ (j : ℕ). negsuc 0 *ℤ holding u r j) js
          (λ k d lt. let j : ℕ = slice_index_or js k d in of-one (a (table.chooses r j)) (table.choice_holds g r j u))
          ∙ total-scaled (λ (j : ℕ). holding u r j) (negsuc 0) js

  -- what an action of a type comes to
  abbrev pub attack_sum : ℕ → ℕ → ℤ
  attack_sum l b = coverage_sum (payoff g l b).ac (payoff g l b).au (a table.always) (a (table.covering b))

  pub gains-over : (l b : ℕ) → 1 ≤ b → b ≤ length g.goals → 1 ≤ act_of fix l → act_of fix l ≤ length g.goals → over (table.gains l b) ≡ attack_sum l b -ℤ attack_sum l (act_of fix l)
  gains-over l b low high own_low own_high =
      let s : ℕ = act_of fix l in
      let q = payoff g l b in let o = payoff g l s in
      let both : target_sum (table.gains l b)
      ≡ total (λ (u : ℕ). a (table.covering u) *ℤ table.where_same b u (q.ac -ℤ q.au)) (numbers (length g.goals)) +ℤ total (λ (u : ℕ). a (table.covering u) *ℤ table.where_same s u (o.au -ℤ o.ac)) (numbers (length g.goals)) =
      total-same (λ (u : ℕ). part (table.gains l b) (table.covering u)) (λ (u : ℕ). (a (table.covering u) *ℤ table.where_same b u (q.ac -ℤ q.au)) +ℤ (a (table.covering u) *ℤ table.where_same s u (o.au -ℤ o.ac))) (numbers (length g.goals))
      (λ k d lt. let u : ℕ = slice_index_or (numbers (length g.goals)) k d in spread (a (table.covering u)) (table.where_same b u (q.ac -ℤ q.au)) (table.where_same s u (o.au -ℤ o.ac)))
      ∙ total-add (λ (u : ℕ). a (table.covering u) *ℤ table.where_same b u (q.ac -ℤ q.au)) (λ (u : ℕ). a (table.covering u) *ℤ table.where_same s u (o.au -ℤ o.ac)) (numbers (length g.goals)) in
      let first = picked-times (λ (u : ℕ). a (table.covering u)) (q.ac -ℤ q.au) b (length g.goals) low high in
      let second = picked-times (λ (u : ℕ). a (table.covering u)) (o.au -ℤ o.ac) s (length g.goals) own_low own_high in
      let x : ℤ = a table.always in let yb : ℤ = a (table.covering b) in let ys : ℤ = a (table.covering s) in
      let same : (x *ℤ (q.au -ℤ o.au)) +ℤ ((yb *ℤ (q.ac -ℤ q.au)) +ℤ (ys *ℤ (o.au -ℤ o.ac))) ≡ coverage_sum q.ac q.au x yb -ℤ coverage_sum o.ac o.au x ys =
      ring (x ∷ yb ∷ ys ∷ q.ac ∷ q.au ∷ o.ac ∷ o.au ∷ []) (var 0 ⊗ (var 4 ⊖ var 6) ⊕ (var 1 ⊗ (var 3 ⊖ var 4) ⊕ var 2 ⊗ (var 6 ⊖ var 5)))
      ((var 4 ⊗ var 0 ⊕ (var 3 ⊖ var 4) ⊗ var 1) ⊖ (var 6 ⊗ var 0 ⊕ (var 5 ⊖ var 6) ⊗ var 2)) tt in
      omega (arith, ints, split-amounts g (part (table.gains l b)), no-choices (table.gains l b) (λ r j. refl), both, first, second, same)
    where
      spread : (z x y : ℤ) → z *ℤ (x +ℤ y) ≡ (z *ℤ x) +ℤ (z *ℤ y)
      spread z x y = ring (z ∷ x ∷ y ∷ []) (var 0 ⊗ (var 1 ⊕ var 2)) (var 0 ⊗ var 1 ⊕ var 0 ⊗ var 2) tt

  -- what a fixed type comes to for the defender, with the shift
  abbrev pub defence_part : ℕ × ℕ → ℤ
  defence_part q = (attacker g q.0).prior *ℤ (coverage_sum (payoff g q.0 q.1).dc (payoff g q.0 q.1).du (a table.always) (a (table.covering q.1)) +ℤ (shift_of g *ℤ a table.always))

  pub costs-over : g.kind ≡ Security → IsFix g fix → total (λ c. a c *ℤ table.column_cost g fix c) (table.columns g) ≡ total defence_part (fixed fix)
  costs-over security is_fix =
      let x : ℤ = a table.always in
      let base : ℕ × ℕ → ℤ = λ q. (attacker g q.0).prior *ℤ ((payoff g q.0 q.1).du +ℤ shift_of g) in
      let gain : ℕ × ℕ → ℤ = λ q. (attacker g q.0).prior *ℤ ((payoff g q.0 q.1).dc -ℤ (payoff g q.0 q.1).du) in
      let whole_part = total-scaled base x (fixed fix) in
      let target_part =
      weighted (λ (u : ℕ). a (table.covering u)) (λ (u : ℕ) (q : ℕ × ℕ). table.where_same q.1 u (gain q)) (numbers (length g.goals)) (fixed fix)
      ∙ total-same (λ (q : ℕ × ℕ). total (λ (u : ℕ). a (table.covering u) *ℤ table.where_same q.1 u (gain q)) (numbers (length g.goals))) (λ (q : ℕ × ℕ). a (table.covering q.1) *ℤ gain q) (fixed fix)
      (λ k d lt.
      let q : ℕ × ℕ = slice_index_or (fixed fix) k d in
      let act = is_fix.acts k d lt in
      let targets : action_count g q.0 ≡ length g.goals = rw (no_matrix g security) refl in
      picked-times (λ (u : ℕ). a (table.covering u)) (gain q) q.1 (length g.goals) act.0 (omega (arith, act.1, targets))) in
      let together = total-add (λ (q : ℕ × ℕ). x *ℤ base q) (λ (q : ℕ × ℕ). a (table.covering q.1) *ℤ gain q) (fixed fix) in
      let each = total-same (λ (q : ℕ × ℕ). (x *ℤ base q) +ℤ (a (table.covering q.1) *ℤ gain q)) defence_part (fixed fix)
      (λ k d lt. let q : ℕ × ℕ = slice_index_or (fixed fix) k d in of-type (attacker g q.0).prior (payoff g q.0 q.1).dc (payoff g q.0 q.1).du (shift_of g) x (a (table.covering q.1))) in
      omega (arith, ints, whole_part, target_part, together, each, no-costs, split-amounts g (λ c. a c *ℤ table.column_cost g fix c))
    where
      of-type : (prior dc du shift x y : ℤ) → (x *ℤ (prior *ℤ (du +ℤ shift))) +ℤ (y *ℤ (prior *ℤ (dc -ℤ du))) ≡ prior *ℤ (coverage_sum dc du x y +ℤ (shift *ℤ x))
      of-type prior dc du shift x y =
          ring (prior ∷ dc ∷ du ∷ shift ∷ x ∷ y ∷ []) (var 4 ⊗ (var 0 ⊗ (var 2 ⊕ var 3)) ⊕ var 5 ⊗ (var 0 ⊗ (var 1 ⊖ var 2))) (var 0 ⊗ ((var 2 ⊗ var 4 ⊕ (var 1 ⊖ var 2) ⊗ var 5) ⊕ var 3 ⊗ var 4)) tt

      no-costs : total (λ (r : ℕ). total (λ (j : ℕ). a (table.chooses r j) *ℤ pos 0) (numbers (length (resource_schedules g r)))) (numbers (resource_count g)) ≡ pos 0
      no-costs = all-zeros (λ (r j : ℕ). a (table.chooses r j)) (λ (r : ℕ). numbers (length (resource_schedules g r))) (numbers (resource_count g))
