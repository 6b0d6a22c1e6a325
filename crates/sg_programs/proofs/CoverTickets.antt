-- A commitment of a node's region as a combination of the coverage table's columns.
use Rattle.std.proofs.Common.{◌≡◌, ◌⊎◌, ℕ, zero, suc, ◌+◌, ◌<◌, ◌≤◌, Bool, true, false, cond, List, [], ◌∷◌, ◌++◌, map, flat_map, length, sym, ◌∙◌, ap, subst, refl, arith, inl, inr, eqb, not, slice_index, slice_index_or}
use Rattle.std.specs.List.{All}
use Rattle.std.specs.Prelude.{ℤ, pos, ◌+ℤ◌, ◌*ℤ◌, ◌≤ℤ◌, nat_eq}
use Rattle.std.proofs.lemmas.Bool.{cases_Bool, cases_eq, eq-eqb, true≢false}
use Rattle.std.proofs.lemmas.Bool.Decides.{when_false}
use Rattle.std.proofs.lemmas.Int.{ints}
use Rattle.std.proofs.lemmas.List.Elements.{All-append, All-filter, All-map}
use Rattle.sg_num.proofs.Laws.{mul-comm, one-mul}
use Rattle.sg_model.specs.declared.kind.Kind.TheVariants.{Security}
use Rattle.sg_model.specs.declared.ticket.Ticket.{Ticket}
use Rattle.sg_model.specs.Commitments.{IsCommitment, cover_count, sum_a, sum_d, weight_total}
use Rattle.sg_model.specs.Games.{Game, action_count, attacker, payoff, resource_count, resource_schedules, schedule_targets}
use Rattle.sg_model.specs.Payoffs.{shift_of}
use Rattle.sg_model.specs.Plays.{IsLegal, IsLegalJoint, IsRow, covers}
use Rattle.sg_model.specs.Sums.{nth, numbers, numbers_from, total}
use Rattle.sg_model.proofs.Best.{is_best-out}
use Rattle.sg_model.proofs.Covers.{cover_count-bounds, total-covered, weight_total-nonneg}
use Rattle.sg_model.proofs.Forms.{no_matrix}
use Rattle.sg_model.proofs.Held.{any-contains, held}
use Rattle.sg_model.proofs.Lists.{All-flat_map}
use Rattle.sg_model.proofs.Numbers.{All-numbers, once}
use Rattle.sg_model.proofs.Sums.{total-exchange, total-le, total-nonneg, total-same}
use Rattle.sg_tree.specs.declared.fix.Fix.{Fix}
use Rattle.sg_bounds.specs.Coverage as table
use Rattle.sg_bounds.specs.Facts.{shifted_sum}
use Rattle.sg_bounds.specs.Regions.{IsFix, IsInRegion, act_of, fixed}
use Rattle.sg_bounds.proofs.Cover.{fixed_pairs}
use Rattle.sg_split.proofs.Singles.{idle}
use Rattle.sg_linear.specs.Sums.{unit}
use Rattle.sg_linear.proofs.Products.{unit-apart}
use Rattle.sg_programs.specs.CoverPoints.{coverage_sum}
use Rattle.sg_programs.specs.CoverPrograms.{cover_program, table_row}
use Rattle.sg_programs.specs.CoverRegions.{IsAllowed, RegionIsAllowed, tickets_with}
use Rattle.sg_programs.proofs.CoverRows.{costs-over, defence_part, gains-over, held-over, holding, over, spends-over, times-zero, whole-over, within-over}

-- ---- sums over tickets by cover counts

module _ (g : Game) (security : g.kind ≡ Security) (k : List Ticket) where
  pub defender-sum : (l a : ℕ) → sum_d g k l a ≡ coverage_sum (payoff g l a).dc (payoff g l a).du (weight_total k) (cover_count g k a)
  defender-sum l a = rw (no_matrix g security) (total-covered g k a (payoff g l a).dc (payoff g l a).du)

  pub attacker-sum : (l a : ℕ) → sum_a g k l a ≡ coverage_sum (payoff g l a).ac (payoff g l a).au (weight_total k) (cover_count g k a)
  attacker-sum l a = rw (no_matrix g security) (total-covered g k a (payoff g l a).ac (payoff g l a).au)

-- ---- one term of a sum

term-from : (f : ℕ → ℤ) → ((n : ℕ) → pos 0 ≤ℤ f n) → (r a n : ℕ) → a ≤ r → r < a + n → f r ≤ℤ total f (numbers_from a n)
term-from f low r a zero from high = absurd (omega (arith, from, high))
term-from f low r a (suc n) from high = elim (cases_eq r a) [
  | inl same ↦ (let rest = total-nonneg f (numbers_from (a + 1) n) (λ i d lt. low (slice_index_or (numbers_from (a + 1) n) i d)) in omega (arith, ints, rest, ap f same))
  | inr other ↦ (let rest = term-from f low r (a + 1) n (omega (arith, from, other)) (omega (arith, high)) in let here = low a in omega (arith, ints, rest, here))
]

-- what counts where another test holds too
inside : {X : Type 0} (b : Bool) (f : X → ℤ) (xs : List X) → cond b (total f xs) (pos 0) ≡ total (λ x. cond b (f x) (pos 0)) xs
inside true f xs = refl
inside false f xs = sym (none xs)
  where
    none : {X : Type 0} (xs : List X) → total (λ (x : X). pos 0) xs ≡ pos 0
    none [] = refl
    none (x ∷ xs) = omega (arith, ints, none xs)

cond-low : (b : Bool) (w : ℤ) → pos 0 ≤ℤ w → pos 0 ≤ℤ cond b w (pos 0)
cond-low true w low = low
cond-low false w low = omega (arith, ints)

-- ---- the tickets of a commitment

module _ (g : Game) (security : g.kind ≡ Security) (fix : Fix) (is_fix : IsFix g fix) (k : List Ticket) (is_k : IsCommitment g k) where
  abbrev a : table.Column → ℤ
  a c = tickets_with g k c

  abbrev choices_of : ℕ → List ℕ
  choices_of r = numbers (length (resource_schedules g r))

  weight-low : (i : ℕ) (d : Ticket) → i < length k → pos 0 ≤ℤ (slice_index_or k i d).weight
  weight-low i d lt = let w = is_k.positive i d lt in omega (arith, ints, w)

  -- what a ticket has for a choice
  abbrev takes : ℕ → ℕ → Ticket → ℤ
  takes r j x = cond (eqb (nth x.play.code r 0) j) x.weight (pos 0)

  nonnegative : (c : table.Column) → table.IsColumn g c → pos 0 ≤ℤ a c
  nonnegative table.always is = weight_total-nonneg k is_k.positive
  nonnegative (table.chooses r j) is = total-nonneg (takes r j) k (λ i d lt. let x : Ticket = slice_index_or k i d in cond-low (eqb (nth x.play.code r 0) j) x.weight (weight-low i d lt))
  nonnegative (table.covering u) is = (cover_count-bounds g k u is_k.positive).0

  -- a resource takes one choice at most
  one-choice : (r : ℕ) → total (λ (j : ℕ). a (table.chooses r j)) (choices_of r) ≤ℤ a table.always
  one-choice r =
      let each = total-exchange (λ (j : ℕ) (x : Ticket). takes r j x) (choices_of r) k in
      let le = total-le (λ (x : Ticket). total (λ (j : ℕ). takes r j x) (choices_of r)) (λ (x : Ticket). x.weight) k
      (λ i d lt. let x : Ticket = slice_index_or k i d in once x.weight (weight-low i d lt) (nth x.play.code r 0) 1 (length (resource_schedules g r))) in
      omega (arith, ints, each, le)

  -- what a ticket has for a choice that holds a target
  abbrev serves : ℕ → ℕ → ℕ → Ticket → ℤ
  serves u r j x = cond (table.choice_holds g r j u) (takes r j x) (pos 0)

  abbrev served : ℕ → Ticket → ℤ
  served u x = total (λ (r : ℕ). total (λ (j : ℕ). serves u r j x) (choices_of r)) (numbers (resource_count g))

  -- what covers a target is a choice that holds it
  covered-serves : (u : ℕ) (x : Ticket) → IsLegal g x.play.code → pos 0 ≤ℤ x.weight → cond (covers g x.play.code u) x.weight (pos 0) ≤ℤ served u x
  covered-serves u x legal low = go (cases_Bool (covers g x.play.code u))
    where
      serves-low : (r j : ℕ) → pos 0 ≤ℤ serves u r j x
      serves-low r j = cond-low (table.choice_holds g r j u) (takes r j x) (cond-low (eqb (nth x.play.code r 0) j) x.weight low)

      row-low : (r : ℕ) → pos 0 ≤ℤ total (λ (j : ℕ). serves u r j x) (choices_of r)
      row-low r = total-nonneg (λ (j : ℕ). serves u r j x) (choices_of r) (λ i d lt. serves-low r (slice_index_or (choices_of r) i d))

      joint : IsLegalJoint g x.play.code
      joint = when_false (IsRow g x.play.code) (IsLegalJoint g x.play.code) (no_matrix g security) legal

      in-list : (r : ℕ) → 1 ≤ r → r ≤ length x.play.code → nth x.play.code r 0 ≤ length (resource_schedules g r)
      in-list zero from_one last = absurd (omega (arith, from_one))
      in-list (suc i) from_one last = let e : i + 1 ≡ suc i = omega arith in subst (λ (s : ℕ). slice_index x.play.code i ≤ length (resource_schedules g s)) e (joint.in_list i (omega (arith, last)))

      by : (r : ℕ) → 1 ≤ r → r ≤ length x.play.code → table.choice_holds g r (nth x.play.code r 0) u ≡ true → x.weight ≤ℤ served u x
      by r from_one last holds =
          let j : ℕ = nth x.play.code r 0 in
          let some : 1 ≤ j = taken j refl in
          let here : serves u r j x ≡ x.weight = ap (λ (b : Bool). cond b (takes r j x) (pos 0)) holds ∙ ap (λ (b : Bool). cond b x.weight (pos 0)) (eq-eqb j j refl) in
          let row = term-from (λ (i : ℕ). serves u r i x) (serves-low r) j 1 (length (resource_schedules g r)) some (let within = in-list r from_one last in omega (arith, within)) in
          let all = term-from (λ (s : ℕ). total (λ (i : ℕ). serves u s i x) (choices_of s)) row-low r 1 (resource_count g) from_one (omega (arith, last, joint.one_each)) in
          omega (arith, ints, here, row, all)
        where
          taken : (j : ℕ) → j ≡ nth x.play.code r 0 → 1 ≤ j
          taken zero e = absurd (true≢false (sym holds ∙ ap (λ (n : ℕ). table.choice_holds g r n u) (sym e) ∙ idle g u))
          taken (suc j) e = omega arith

      go : (covers g x.play.code u ≡ true) ⊎ (covers g x.play.code u ≡ false) → cond (covers g x.play.code u) x.weight (pos 0) ≤ℤ served u x
      go (inl e) = rw e (let h = held g x.play.code u e in by h.0 h.1 h.2 (any-contains (schedule_targets g (nth (resource_schedules g h.0) (nth x.play.code h.0 0) 0)) u h.3))
      go (inr e) = rw e (total-nonneg (λ (r : ℕ). total (λ (j : ℕ). serves u r j x) (choices_of r)) (numbers (resource_count g)) (λ i d lt. row-low (slice_index_or (numbers (resource_count g)) i d)))

  held-low : (u : ℕ) → cover_count g k u ≤ℤ total (λ (r : ℕ). total (λ (j : ℕ). holding g fix a u r j) (choices_of r)) (numbers (resource_count g))
  held-low u =
      let le = total-le (λ (x : Ticket). cond (covers g x.play.code u) x.weight (pos 0)) (served u) k (λ i d lt. let x : Ticket = slice_index_or k i d in covered-serves u x (is_k.legal i d lt) (weight-low i d lt)) in
      let rows = total-exchange (λ (x : Ticket) (r : ℕ). total (λ (j : ℕ). serves u r j x) (choices_of r)) k (numbers (resource_count g)) in
      let each = total-same (λ (r : ℕ). total (λ (x : Ticket). total (λ (j : ℕ). serves u r j x) (choices_of r)) k) (λ (r : ℕ). total (λ (j : ℕ). holding g fix a u r j) (choices_of r)) (numbers (resource_count g))
      (λ i d lt.
      let r : ℕ = slice_index_or (numbers (resource_count g)) i d in
      total-exchange (λ (x : Ticket) (j : ℕ). serves u r j x) k (choices_of r)
      ∙ total-same (λ (j : ℕ). total (λ (x : Ticket). serves u r j x) k) (λ (j : ℕ). holding g fix a u r j) (choices_of r)
      (λ m e in_list. let j : ℕ = slice_index_or (choices_of r) m e in sym (inside (table.choice_holds g r j u) (takes r j) k))) in
      omega (arith, ints, le, rows, each)

  -- ---- row by row

  module _ (region : IsInRegion g fix k) where
    abbrev IsLow : table.Row → Type 0
    IsLow row = over g fix a row ≤ℤ pos 0

    targets-are : (l : ℕ) → action_count g l ≡ length g.goals
    targets-are l = rw (no_matrix g security) refl

    gains-low : (l own b : ℕ) → fix.first ≤ l → l < fix.first + length fix.acts → act_of fix l ≡ own → 1 ≤ own → own ≤ length g.goals → 1 ≤ b → b ≤ length g.goals → IsLow (table.gains l b)
    gains-low l own b low high is own_low own_high from_one in_range =
        let best = is_best-out g k l (act_of fix l) (region l low high) b from_one (omega (arith, in_range, targets-are l)) in
        omega (arith, ints, gains-over g fix a l b from_one in_range (omega (arith, is, own_low)) (omega (arith, is, own_high)), best, attacker-sum g security k l b, attacker-sum g security k l (act_of fix l))

    all-low : All IsLow (table.table_rows g fix)
    all-low =
        let n : ℕ = length g.goals in
        let moves : List table.Row = flat_map (λ (p : ℕ × ℕ). map (table.gains p.0) (table.others g p.1)) (fixed fix) in
        let InRange : ℕ → Type 0 = λ b. (1 ≤ b) × (b ≤ n) in
        All-append IsLow (map table.spends (numbers (resource_count g))) (map table.held (numbers n) ++ (map table.within (numbers n) ++ moves))
        (All-map IsLow table.spends (numbers (resource_count g)) (All-numbers (λ r. IsLow (table.spends r)) (resource_count g) (λ r low high. omega (arith, ints, spends-over g fix a r low high, one-choice r))))
        (All-append IsLow (map table.held (numbers n)) (map table.within (numbers n) ++ moves)
        (All-map IsLow table.held (numbers n) (All-numbers (λ u. IsLow (table.held u)) n (λ u low high. omega (arith, ints, held-over g fix a u low high, held-low u))))
        (All-append IsLow (map table.within (numbers n)) moves
        (All-map IsLow table.within (numbers n) (All-numbers (λ u. IsLow (table.within u)) n (λ u low high. let count = (cover_count-bounds g k u is_k.positive).1 in omega (arith, ints, within-over g fix a u low high, count))))
        (All-flat_map IsLow (λ (p : ℕ × ℕ). map (table.gains p.0) (table.others g p.1)) (fixed fix)
        (λ i d lt.
        let p : ℕ × ℕ = slice_index_or (fixed fix) i d in
        let pair = fixed_pairs fix i d lt in
        let act = is_fix.acts i d lt in
        let range : All InRange (table.others g p.1) = All-filter (λ b. not (nat_eq p.1 b)) InRange (numbers n) (All-numbers InRange n (λ b low high. (low, high))) in
        All-map IsLow (table.gains p.0) (table.others g p.1)
        (λ m e in_list. let b = range m e in_list in gains-low p.0 p.1 (slice_index_or (table.others g p.1) m e) pair.low pair.high pair.act act.0 (omega (arith, act.1, targets-are p.0)) b.0 b.1)))))

    rows : (j : ℕ) → j < (cover_program g fix).height → total (λ c. a c *ℤ table.entry g fix (table_row g fix j) c) (table.columns g) ≤ℤ (weight_total k *ℤ unit 0 j)
    rows zero below = let one = mul-comm (weight_total k) (pos 1) ∙ one-mul (weight_total k) in omega (arith, ints, whole-over g fix a, one)
    rows (suc i) below =
        let none : weight_total k *ℤ unit 0 (suc i) ≡ pos 0 = ap (λ (z : ℤ). weight_total k *ℤ z) (unit-apart 0 (suc i) (λ e. absurd (omega (arith, e)))) ∙ times-zero (weight_total k) in
        omega (arith, ints, all-low i table.whole (omega (arith, below)), none)

    cost : total (λ c. a c *ℤ table.column_cost g fix c) (table.columns g) ≡ shifted_sum g fix k
    cost =
        costs-over g fix a security is_fix
        ∙ total-same (defence_part g fix a) (λ (q : ℕ × ℕ). (attacker g q.0).prior *ℤ (sum_d g k q.0 q.1 +ℤ (shift_of g *ℤ weight_total k))) (fixed fix)
        (λ i d lt. let q : ℕ × ℕ = slice_index_or (fixed fix) i d in ap (λ (z : ℤ). (attacker g q.0).prior *ℤ (z +ℤ (shift_of g *ℤ weight_total k))) (sym (defender-sum g security k q.0 q.1)))

    pub allowed : IsAllowed g fix (tickets_with g k) (weight_total k)
    allowed = record { nonnegative = nonnegative; rows = rows }

    pub equal_cost : total (λ c. tickets_with g k c *ℤ table.column_cost g fix c) (table.columns g) ≡ shifted_sum g fix k
    equal_cost = cost

pub region_is_allowed : RegionIsAllowed
region_is_allowed g security fix is_fix k is_k region = (allowed g security fix is_fix k is_k region, equal_cost g security fix is_fix k is_k region)
