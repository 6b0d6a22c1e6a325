-- A play is a point of the coverage table, so a fact of the table is a fact over plays.
use Rattle.std.proofs.Common.{◌≡◌, ◌≢◌, ℕ, zero, suc, ◌+◌, ◌-◌, ◌<◌, ◌≤◌, Bool, true, false, cond, ◌||◌, List, [], ◌∷◌, ◌++◌, map, length, ℤ, pos, negsuc, ◌+ℤ◌, ◌-ℤ◌, ◌*ℤ◌, ◌≤ℤ◌, sym, ◌∙◌, ap, subst, refl, arith, eqb, Option, Some, None, inl, inr, slice_index_or}
use Rattle.std.specs.List.{All, filter, flat_map, list_any, zip}
use Rattle.std.specs.Prelude.{slice_index, nat_eq, not}
use Rattle.std.proofs.lemmas.Int.{ints}
use Rattle.std.proofs.lemmas.Bool.{cases_eq}
use Rattle.std.proofs.lemmas.Bool.Decides.{nat_tests, when_false}
use Rattle.std.proofs.lemmas.List.Elements.{All-head, All-tail, All-nil, All-cons, All-append, All-filter, All-map, filter_passes}
use Rattle.sg_model.specs.Payoffs.{shift_of}
use Rattle.sg_model.specs.Sums.{total, numbers, numbers_from, nth}
use Rattle.sg_model.specs.Games.{Game, is_matrix, attacker, action_count, payoff, resource_count, resource_schedules, schedule_targets}
use Rattle.sg_model.specs.Plays.{pay_a, pay_d, covers, covers_from, IsLegal, IsLegalJoint, IsRow}
use Rattle.sg_tree.specs.declared.fix.Fix.{Fix}
use Rattle.sg_tree.specs.declared.fact.Mark.{Mark}
use Rattle.sg_bounds.specs.Regions.{fixed, act_of}
use Rattle.sg_bounds.specs.Facts.{cost, regret, IsMarkOf, IsPlaysFact}
use Rattle.sg_bounds.specs.Coverage.{Column, always, chooses, covering, Row, whole, spends, held, within, gains, IsColumn, others, table_rows, choice_holds, where_same, entry, column_cost, row_of}
use Rattle.sg_tree.specs.declared.fact.Line.{Line}
use Rattle.sg_bounds.specs.Facts.{IsLineOf, IsCoverFact}
use Rattle.sg_bounds.specs.Regions.{IsFix}
use Rattle.sg_bounds.specs.FactLaws.{CoverIsPlays}
use Rattle.sg_model.proofs.Lists.{All-flat_map}
use Rattle.sg_model.proofs.Forms.{no_matrix}
use Rattle.sg_model.proofs.Ints.{v, n, plus, less, times, same_by, mul-le}
use Rattle.sg_model.proofs.Sums.{total-add, total-le, total-same, total-scaled, total-exchange, total-append}
use Rattle.sg_model.proofs.Numbers.{All-numbers}

pub total-map : {X Y : Type 0} (f : Y → ℤ) (h : X → Y) (xs : List X) → total f (map h xs) ≡ total (λ x. f (h x)) xs
total-map f h [] = refl
total-map f h (x ∷ xs) = ap (λ (z : ℤ). f (h x) +ℤ z) (total-map f h xs)

-- one number among those that pass
none_left : (p : ℕ → Bool) (z : ℤ) (s a m : ℕ) → s < a → total (λ t. where_same s t z) (filter p (numbers_from a m)) ≡ pos 0
none_left p z s a zero h = refl
none_left p z s a (suc m) h =
    let e : eqb s a ≡ false = grind (arith, nat_tests) in
    let rest = none_left p z s (a + 1) m (omega arith) in
    elim (p a) as (λ b. total (λ t. where_same s t z) (cond b (a ∷ filter p (numbers_from (a + 1) m)) (filter p (numbers_from (a + 1) m))) ≡ pos 0) [
      | true ↦ rw e (omega (arith, ints, rest))
      | false ↦ rest
    ]

picked : (p : ℕ → Bool) (z : ℤ) (s a m : ℕ) → a ≤ s → s < a + m → total (λ t. where_same s t z) (filter p (numbers_from a m)) ≡ cond (p s) z (pos 0)
picked p z s a zero low high = absurd (omega arith)
picked p z s a (suc m) low high =
    let f = λ (t : ℕ). where_same s t z in
    let tail : List ℕ = filter p (numbers_from (a + 1) m) in
    elim (cases_eq s a) [
      | inl same ↦ (
          let e : eqb s a ≡ true = grind (arith, nat_tests) in
          let rest : total f tail ≡ pos 0 = none_left p z s (a + 1) m (omega arith) in
          let here : (b : Bool) → total f (cond b (a ∷ tail) tail) ≡ cond b z (pos 0) =
          λ b. elim b as (λ b. total f (cond b (a ∷ tail) tail) ≡ cond b z (pos 0)) [ true ↦ rw e (omega (arith, ints, rest)) | false ↦ rest ] in
          here (p a) ∙ ap (λ (t : ℕ). cond (p t) z (pos 0)) (sym same))
      | inr other ↦ (
          let e : eqb s a ≡ false = grind (arith, nat_tests) in
          let rest : total f tail ≡ cond (p s) z (pos 0) = picked p z s (a + 1) m (omega arith) (omega arith) in
          elim (p a) as (λ b. total f (cond b (a ∷ tail) tail) ≡ cond (p s) z (pos 0)) [ true ↦ rw e (omega (arith, ints, rest)) | false ↦ rest ])
    ]

-- the columns of a play's choices
abbrev pub chosen : ℕ → List ℕ → List Column
chosen r [] = []
chosen r (zero ∷ cs) = chosen (r + 1) cs
chosen r (suc j ∷ cs) = chooses r (suc j) ∷ chosen (r + 1) cs

abbrev pub covered : Game → List ℕ → List ℕ
covered g play = filter (covers g play) (numbers (length g.goals))

abbrev pub columns_of : Game → List ℕ → List Column
columns_of g play = always ∷ (chosen 1 play ++ map covering (covered g play))

-- a sum over the columns of a play
split_columns : (f : Column → ℤ) (g : Game) (play : List ℕ) → total f (columns_of g play) ≡ f always +ℤ (total f (chosen 1 play) +ℤ total (λ t. f (covering t)) (covered g play))
split_columns f g play =
    let a = total-append f (chosen 1 play) (map covering (covered g play)) in
    let b = total-map f covering (covered g play) in
    omega (arith, ints, a, b)

total-none : {X : Type 0} (f : X → ℤ) (xs : List X) → ((x : X) → f x ≡ pos 0) → total f xs ≡ pos 0
total-none f [] h = refl
total-none f (x ∷ xs) h = omega (arith, ints, h x, total-none f xs h)

-- a sum over the choices of what is 0 at each
chosen-none : (f : Column → ℤ) (r : ℕ) (play : List ℕ) → ((r j : ℕ) → f (chooses r j) ≡ pos 0) → total f (chosen r play) ≡ pos 0
chosen-none f r [] h = refl
chosen-none f r (zero ∷ cs) h = chosen-none f (r + 1) cs h
chosen-none f r (suc j ∷ cs) h = omega (arith, ints, h r (suc j), chosen-none f (r + 1) cs h)

module _ (g : Game) (fix : Fix) where
  abbrev row_sum : Row → List ℕ → ℤ
  row_sum row play = total (entry g fix row) (columns_of g play)

  whole_is : (play : List ℕ) → row_sum whole play ≡ pos 1
  whole_is play =
      let a = split_columns (entry g fix whole) g play in
      let b = chosen-none (entry g fix whole) 1 play (λ r j. refl) in
      let d = total-none (λ t. entry g fix whole (covering t)) (covered g play) (λ t. refl) in
      omega (arith, ints, a, b, d)

  spent_after : (s r : ℕ) (play : List ℕ) → s < r → total (entry g fix (spends s)) (chosen r play) ≡ pos 0
  spent_after s r [] h = refl
  spent_after s r (zero ∷ cs) h = spent_after s (r + 1) cs (omega arith)
  spent_after s r (suc j ∷ cs) h =
      let e : eqb s r ≡ false = grind (arith, nat_tests) in
      rw e (omega (arith, ints, spent_after s (r + 1) cs (omega arith)))

  spent_once : (s r : ℕ) (play : List ℕ) → total (entry g fix (spends s)) (chosen r play) ≤ℤ pos 1
  spent_once s r [] = omega (arith, ints)
  spent_once s r (zero ∷ cs) = spent_once s (r + 1) cs
  spent_once s r (suc j ∷ cs) =
      elim (cases_eq s r) [
        | inl same ↦ (let e : eqb s r ≡ true = grind (arith, nat_tests) in rw e (omega (arith, ints, spent_after s (r + 1) cs (omega arith))))
        | inr other ↦ (let e : eqb s r ≡ false = grind (arith, nat_tests) in rw e (omega (arith, ints, spent_once s (r + 1) cs)))
      ]

  spends_low : (s : ℕ) (play : List ℕ) → row_sum (spends s) play ≤ℤ pos 0
  spends_low s play =
      let a = split_columns (entry g fix (spends s)) g play in
      let d = total-none (λ t. entry g fix (spends s) (covering t)) (covered g play) (λ t. refl) in
      omega (arith, ints, a, spent_once s 1 play, d)

  idle : (t : ℕ) → list_any (λ x. nat_eq x t) (schedule_targets g 0) ≡ false
  idle t = idle_of g.patrols refl
    where
      idle_of : (o : Option ℕ) → g.patrols ≡ o → list_any (λ x. nat_eq x t) (schedule_targets g 0) ≡ false
      idle_of None e = rw e refl
      idle_of (Some k) e = rw e refl

  -- what is covered is held by a choice
  held_by : (t r : ℕ) (play : List ℕ) → (cond (covers_from g r play t) (pos 1) (pos 0) +ℤ total (entry g fix (held t)) (chosen r play)) ≤ℤ pos 0
  held_by t r [] = omega (arith, ints)
  held_by t r (zero ∷ cs) = rw (idle t) (held_by t (r + 1) cs)
  held_by t r (suc j ∷ cs) =
      let rest = held_by t (r + 1) cs in
      let step : (b d : Bool) (z : ℤ) → (cond d (pos 1) (pos 0) +ℤ z) ≤ℤ pos 0 → (cond (b || d) (pos 1) (pos 0) +ℤ (cond b (negsuc 0) (pos 0) +ℤ z)) ≤ℤ pos 0 =
      λ b d z h. elim b as (λ b. (cond (b || d) (pos 1) (pos 0) +ℤ (cond b (negsuc 0) (pos 0) +ℤ z)) ≤ℤ pos 0) [
        | true ↦ (let w : pos 0 ≤ℤ cond d (pos 1) (pos 0) = elim d as (λ d. pos 0 ≤ℤ cond d (pos 1) (pos 0)) [ true ↦ omega (arith, ints) | false ↦ omega (arith, ints) ] in omega (arith, ints, h, w))
        | false ↦ omega (arith, ints, h)
      ] in
      step (choice_holds g r (suc j) t) (covers_from g (r + 1) cs t) (total (entry g fix (held t)) (chosen (r + 1) cs)) rest

  held_low : (s : ℕ) (play : List ℕ) → 1 ≤ s → s ≤ length g.goals → row_sum (held s) play ≤ℤ pos 0
  held_low s play low high =
      let a = split_columns (entry g fix (held s)) g play in
      let d = picked (covers g play) (pos 1) s 1 (length g.goals) low (omega arith) in
      omega (arith, ints, a, held_by s 1 play, d)

  within_low : (s : ℕ) (play : List ℕ) → 1 ≤ s → s ≤ length g.goals → row_sum (within s) play ≤ℤ pos 0
  within_low s play low high =
      let a = split_columns (entry g fix (within s)) g play in
      let b = chosen-none (entry g fix (within s)) 1 play (λ r j. refl) in
      let d = picked (covers g play) (pos 1) s 1 (length g.goals) low (omega arith) in
      let w : cond (covers g play s) (pos 1) (pos 0) ≤ℤ pos 1 = elim (covers g play s) as (λ d. cond d (pos 1) (pos 0) ≤ℤ pos 1) [ true ↦ omega (arith, ints) | false ↦ omega (arith, ints) ] in
      omega (arith, ints, a, b, d, w)

  gains_is : is_matrix g ≡ false → (l b : ℕ) (play : List ℕ) → 1 ≤ b → b ≤ length g.goals → 1 ≤ act_of fix l → act_of fix l ≤ length g.goals
      → row_sum (gains l b) play ≡ pay_a g l play b -ℤ pay_a g l play (act_of fix l)
  gains_is security l b play low high low2 high2 =
      let s : ℕ = act_of fix l in
      let p = payoff g l b in let q = payoff g l s in
      let a = split_columns (entry g fix (gains l b)) g play in
      let e = chosen-none (entry g fix (gains l b)) 1 play (λ r j. refl) in
      let d = total-add (λ t. where_same b t (p.ac -ℤ p.au)) (λ t. where_same s t (q.au -ℤ q.ac)) (covered g play) in
      let f = picked (covers g play) (p.ac -ℤ p.au) b 1 (length g.goals) low (omega arith) in
      let h = picked (covers g play) (q.au -ℤ q.ac) s 1 (length g.goals) low2 (omega arith) in
      let one : pay_a g l play b ≡ p.au +ℤ cond (covers g play b) (p.ac -ℤ p.au) (pos 0) = rw security (elim (covers g play b) as (λ d. cond d p.ac p.au ≡ p.au +ℤ cond d (p.ac -ℤ p.au) (pos 0)) [ true ↦ omega (arith, ints) | false ↦ omega (arith, ints) ]) in
      let two : pay_a g l play s ≡ q.au -ℤ cond (covers g play s) (q.au -ℤ q.ac) (pos 0) = rw security (elim (covers g play s) as (λ d. cond d q.ac q.au ≡ q.au -ℤ cond d (q.au -ℤ q.ac) (pos 0)) [ true ↦ omega (arith, ints) | false ↦ omega (arith, ints) ]) in
      omega (arith, ints, a, e, d, f, h, one, two)

-- each pair of a fix is a type with its action
pub record IsPair (fix : Fix) (p : ℕ × ℕ) : Type 0 where
  pub low : fix.first ≤ p.0
  pub high : p.0 < fix.first + length fix.acts
  pub act : act_of fix p.0 ≡ p.1

zipped : (a : ℕ) (acts : List ℕ) → All (λ (p : ℕ × ℕ). (a ≤ p.0) × (p.0 < a + length acts) × (slice_index acts (p.0 - a) ≡ p.1)) (zip (numbers_from a (length acts)) acts)
zipped a [] = All-nil (λ (p : ℕ × ℕ). (a ≤ p.0) × (p.0 < a + length {A = ℕ} []) × (slice_index [] (p.0 - a) ≡ p.1))
zipped a (c ∷ cs) =
    let P : ℕ × ℕ → Type 0 = λ (p : ℕ × ℕ). (a ≤ p.0) × (p.0 < a + length (c ∷ cs)) × (slice_index (c ∷ cs) (p.0 - a) ≡ p.1) in
    let rest = zipped (a + 1) cs in
    let here : a - a ≡ 0 = omega arith in
    All-cons P (a, c) (zip (numbers_from (a + 1) (length cs)) cs) (omega arith, omega arith, ap (λ (i : ℕ). slice_index (c ∷ cs) i) here)
    (λ i d lt.
    let p : ℕ × ℕ = slice_index_or (zip (numbers_from (a + 1) (length cs)) cs) i d in
    let h = rest i d lt in
    let e : p.0 - a ≡ suc (p.0 - (a + 1)) = omega (arith, h.0) in
    (omega (arith, h.0), omega (arith, h.1), ap (λ (i : ℕ). slice_index (c ∷ cs) i) e ∙ h.2))

pub fixed_pairs : (fix : Fix) → All (IsPair fix) (fixed fix)
fixed_pairs fix = λ i d lt. let h = zipped fix.first fix.acts i d lt in record { low = h.0; high = h.1; act = h.2 }

-- what a row of the table needs
abbrev pub IsRowOf : Game → Fix → Row → Type 0
IsRowOf g fix whole = ⊥
IsRowOf g fix (spends s) = Unit {0}
IsRowOf g fix (held s) = (1 ≤ s) × (s ≤ length g.goals)
IsRowOf g fix (within s) = (1 ≤ s) × (s ≤ length g.goals)
IsRowOf g fix (gains l b) = (fix.first ≤ l) × (l < fix.first + length fix.acts) × (1 ≤ b) × (b ≤ length g.goals) × (b ≢ act_of fix l) × (1 ≤ act_of fix l) × (act_of fix l ≤ length g.goals)

rows_are : (g : Game) → is_matrix g ≡ false → (fix : Fix) → IsFix g fix → All (IsRowOf g fix) (table_rows g fix)
rows_are g security fix is_fix =
    let t : ℕ = length g.goals in
    let P : Row → Type 0 = IsRowOf g fix in
    let targets : List ℕ = numbers t in
    let moves : List Row = flat_map (λ (p : ℕ × ℕ). map (gains p.0) (others g p.1)) (fixed fix) in
    let InTargets : ℕ → Type 0 = λ s. (1 ≤ s) × (s ≤ t) in
    let range : All InTargets targets = All-numbers InTargets t (λ s low high. (low, high)) in
    let actions : (l : ℕ) → action_count g l ≡ t = λ l. rw security refl in
    let each : All (λ (p : ℕ × ℕ). All P (map (gains p.0) (others g p.1))) (fixed fix) =
    λ i d lt.
    let p : ℕ × ℕ = slice_index_or (fixed fix) i d in
    let pair = fixed_pairs fix i d lt in
    let act = is_fix.acts i d lt in
    let test = λ (b : ℕ). not (nat_eq p.1 b) in
    let passes : All (λ b. test b ≡ true) (others g p.1) = filter_passes test targets in
    let within_range : All InTargets (others g p.1) = All-filter test InTargets targets range in
    let e = pair.act in
    All-map P (gains p.0) (others g p.1)
    (λ j d2 lt2.
    let b : ℕ = slice_index_or (others g p.1) j d2 in
    let r = within_range j d2 lt2 in
    let pass : not (nat_eq p.1 b) ≡ true = passes j d2 lt2 in
    let differs : b ≢ act_of fix p.0 = λ same. let q : p.1 ≡ b = sym e ∙ sym same in let z : nat_eq p.1 b ≡ true = grind (arith, nat_tests) in let y : false ≡ true = ap not (sym z) ∙ pass in cc in
    (pair.low, pair.high, r.0, r.1, differs, omega (arith, act.0, e), omega (arith, act.1, e, actions p.0)))
    in
    All-append P (map spends (numbers (resource_count g))) (map held targets ++ (map within targets ++ moves)) (All-map P spends (numbers (resource_count g)) (λ i d lt. tt))
    (All-append P (map held targets) (map within targets ++ moves) (All-map P held targets range)
    (All-append P (map within targets) moves (All-map P within targets range) (All-flat_map P (λ (p : ℕ × ℕ). map (gains p.0) (others g p.1)) (fixed fix) each)))

pub at_row : (g : Game) → is_matrix g ≡ false → (fix : Fix) → IsFix g fix → (line : Line) → IsLineOf g fix line → IsRowOf g fix (row_of g fix line)
at_row g security fix is_fix line is_line = at line.row is_line.from_one is_line.in_range
  where
    at : (k : ℕ) → 1 ≤ k → k ≤ length (table_rows g fix) → IsRowOf g fix (nth (table_rows g fix) k whole)
    at zero low high = absurd (omega arith)
    at (suc k) low high = rows_are g security fix is_fix k whole (omega arith)

-- the marks of a row with a multiplier
abbrev pub mark_of : ℤ → Row → List Mark
mark_of m whole = []
mark_of m (spends s) = []
mark_of m (held s) = []
mark_of m (within s) = []
mark_of m (gains l b) = record { l = l; a = b; v = m } ∷ []

abbrev pub marks_of : Game → Fix → List Line → List Mark
marks_of g fix lines = flat_map (λ (x : Line). mark_of x.v (row_of g fix x)) lines

marks_are : (g : Game) → is_matrix g ≡ false → (fix : Fix) → IsFix g fix → (lines : List Line) → All (IsLineOf g fix) lines → All (IsMarkOf g fix) (marks_of g fix lines)
marks_are g security fix is_fix lines all =
    All-flat_map (IsMarkOf g fix) (λ (x : Line). mark_of x.v (row_of g fix x)) lines
    (λ i d lt. let x : Line = slice_index_or lines i d in each x.v (row_of g fix x) (at_row g security fix is_fix x (all i d lt)) (let h = all i d lt in h.positive))
  where
    each : (m : ℤ) (row : Row) → IsRowOf g fix row → pos 1 ≤ℤ m → All (IsMarkOf g fix) (mark_of m row)
    each m whole r h = All-nil (IsMarkOf g fix)
    each m (spends s) r h = All-nil (IsMarkOf g fix)
    each m (held s) r h = All-nil (IsMarkOf g fix)
    each m (within s) r h = All-nil (IsMarkOf g fix)
    each m (gains l b) r h =
        let actions : action_count g l ≡ length g.goals = rw security refl in
        let x : Mark = record { l = l; a = b; v = m } in
        All-cons (IsMarkOf g fix) x [] (record { from_first = r.0; in_range = r.1; from_one = r.2; action = omega (arith, r.3, actions); other = r.4; positive = h }) (All-nil (IsMarkOf g fix))

low : (m s : ℤ) → s ≤ℤ pos 0 → pos 1 ≤ℤ m → (m *ℤ s) ≤ℤ pos 0
low m s h k =
    let q = mul-le s (pos 0) m h (omega (arith, ints, k)) in
    omega (arith, ints, q, same_by (times (v s) (v m)) (times (v m) (v s)) (omega arith), same_by (times (n 0) (v m)) (n 0) (omega arith))

-- a line's sum over the columns of a play is at most what its marks regret
line_regrets : (g : Game) → is_matrix g ≡ false → (fix : Fix) (play : List ℕ) (m : ℤ) (row : Row) → IsRowOf g fix row → pos 1 ≤ℤ m
    → (m *ℤ row_sum g fix row play) ≤ℤ regret g fix (mark_of m row) play
line_regrets g security fix play m whole r h = absurd r
line_regrets g security fix play m (spends s) r h = low m (row_sum g fix (spends s) play) (spends_low g fix s play) h
line_regrets g security fix play m (held s) r h = low m (row_sum g fix (held s) play) (held_low g fix s play r.0 r.1) h
line_regrets g security fix play m (within s) r h = low m (row_sum g fix (within s) play) (within_low g fix s play r.0 r.1) h
line_regrets g security fix play m (gains l b) r h =
    let e = gains_is g fix security l b play r.2 r.3 r.5 r.6 in
    let f : m *ℤ row_sum g fix (gains l b) play ≡ m *ℤ (pay_a g l play b -ℤ pay_a g l play (act_of fix l)) = ap (λ (z : ℤ). m *ℤ z) e in
    omega (arith, ints, f)

lines_regret : (g : Game) → is_matrix g ≡ false → (fix : Fix) → IsFix g fix → (play : List ℕ) (lines : List Line) → All (IsLineOf g fix) lines
    → total (λ (x : Line). x.v *ℤ row_sum g fix (row_of g fix x) play) lines ≤ℤ regret g fix (marks_of g fix lines) play
lines_regret g security fix is_fix play [] all = omega (arith, ints)
lines_regret g security fix is_fix play (x ∷ xs) all =
    let is_line = All-head (IsLineOf g fix) x xs all in
    let here = line_regrets g security fix play x.v (row_of g fix x) (at_row g security fix is_fix x is_line) is_line.positive in
    let rest = lines_regret g security fix is_fix play xs (All-tail (IsLineOf g fix) x xs all) in
    let both = total-append (λ (m : Mark). m.v *ℤ (pay_a g m.l play m.a -ℤ pay_a g m.l play (act_of fix m.l))) (mark_of x.v (row_of g fix x)) (marks_of g fix xs) in
    omega (arith, ints, here, rest, both)

rest_in_list : (g : Game) (r c : ℕ) (cs : List ℕ) → ((i : ℕ) → i < length (c ∷ cs) → slice_index (c ∷ cs) i ≤ length (resource_schedules g (r + i)))
    → (i : ℕ) → i < length cs → slice_index cs i ≤ length (resource_schedules g (r + 1 + i))
rest_in_list g r c cs h i lt =
    let e : r + suc i ≡ r + 1 + i = omega arith in
    subst (λ (s : ℕ). slice_index cs i ≤ length (resource_schedules g s)) e (h (suc i) (omega arith))

-- each column of a legal play is a column of the table
chosen_are : (g : Game) (r : ℕ) (play : List ℕ) → 1 ≤ r → r + length play ≤ resource_count g + 1
    → ((i : ℕ) → i < length play → slice_index play i ≤ length (resource_schedules g (r + i))) → All (IsColumn g) (chosen r play)
chosen_are g r [] low high h = All-nil (IsColumn g)
chosen_are g r (zero ∷ cs) low high h = chosen_are g (r + 1) cs (omega arith) (omega arith) (rest_in_list g r zero cs h)
chosen_are g r (suc j ∷ cs) low high h =
    let e : r + 0 ≡ r = omega arith in
    let here : suc j ≤ length (resource_schedules g r) = subst (λ (s : ℕ). suc j ≤ length (resource_schedules g s)) e (h 0 (omega arith)) in
    All-cons (IsColumn g) (chooses r (suc j)) (chosen (r + 1) cs) (low, omega arith, omega arith, here) (chosen_are g (r + 1) cs (omega arith) (omega arith) (rest_in_list g r (suc j) cs h))

columns_are : (g : Game) → is_matrix g ≡ false → (play : List ℕ) → IsLegal g play → All (IsColumn g) (columns_of g play)
columns_are g security play legal =
    let joint : IsLegalJoint g play = when_false (IsRow g play) (IsLegalJoint g play) security legal in
    let InTargets : ℕ → Type 0 = λ s. (1 ≤ s) × (s ≤ length g.goals) in
    let range : All InTargets (numbers (length g.goals)) = All-numbers InTargets (length g.goals) (λ s low high. (low, high)) in
    let plain : All (IsColumn g) (chosen 1 play) = chosen_are g 1 play (omega arith) (omega (arith, joint.one_each)) (λ i lt. let e : i + 1 ≡ 1 + i = omega arith in subst (λ (s : ℕ). slice_index play i ≤ length (resource_schedules g s)) e (joint.in_list i lt)) in
    All-cons (IsColumn g) always (chosen 1 play ++ map covering (covered g play)) tt
    (All-append (IsColumn g) (chosen 1 play) (map covering (covered g play)) plain (All-map (IsColumn g) covering (covered g play) (All-filter (covers g play) InTargets (numbers (length g.goals)) range)))

-- the cost of a play is the sum of its columns' costs
cost_is : (g : Game) → is_matrix g ≡ false → (fix : Fix) → IsFix g fix → (play : List ℕ) → total (column_cost g fix) (columns_of g play) ≡ cost g fix play
cost_is g security fix is_fix play =
    let a = split_columns (column_cost g fix) g play in
    let b = chosen-none (column_cost g fix) 1 play (λ r j. refl) in
    let gain = λ (p : ℕ × ℕ). (attacker g p.0).prior *ℤ ((payoff g p.0 p.1).dc -ℤ (payoff g p.0 p.1).du) in
    let d = total-exchange (λ (t : ℕ) (p : ℕ × ℕ). where_same p.1 t (gain p)) (covered g play) (fixed fix) in
    let base = λ (p : ℕ × ℕ). (attacker g p.0).prior *ℤ ((payoff g p.0 p.1).du +ℤ shift_of g) in
    let more = λ (p : ℕ × ℕ). total (λ t. where_same p.1 t (gain p)) (covered g play) in
    let e = total-add base more (fixed fix) in
    let part = λ (p : ℕ × ℕ). (attacker g p.0).prior *ℤ (pay_d g p.0 play p.1 +ℤ shift_of g) in
    let f = total-same (λ p. base p +ℤ more p) part (fixed fix) (λ i y lt.
    let p : ℕ × ℕ = slice_index_or (fixed fix) i y in
    let act = is_fix.acts i y lt in
    let actions : action_count g p.0 ≡ length g.goals = rw security refl in
    let q = picked (covers g play) (gain p) p.1 1 (length g.goals) act.0 (omega (arith, act.1, actions)) in
    let w = v (attacker g p.0).prior in let u = v (payoff g p.0 p.1).du in let k = v (payoff g p.0 p.1).dc in let h = v (shift_of g) in
    let both : base p +ℤ cond (covers g play p.1) (gain p) (pos 0) ≡ part p = rw security (elim (covers g play p.1) as (λ x. base p +ℤ cond x (gain p) (pos 0) ≡ (attacker g p.0).prior *ℤ (cond x (payoff g p.0 p.1).dc (payoff g p.0 p.1).du +ℤ shift_of g)) [
      | true ↦ same_by (plus (times w (plus u h)) (times w (less k u))) (times w (plus k h)) (omega arith)
      | false ↦ same_by (plus (times w (plus u h)) (n 0)) (times w (plus u h)) (omega arith)
    ]) in
    ap (λ (z : ℤ). base p +ℤ z) q ∙ both) in
    omega (arith, ints, a, b, d, e, f)

-- a sum over columns of a sum over lines
lines_sum : (g : Game) (fix : Fix) (mu : ℤ) (lines : List Line) (play : List ℕ)
    → total (λ c. (mu *ℤ entry g fix whole c) +ℤ total (λ (x : Line). x.v *ℤ entry g fix (row_of g fix x) c) lines) (columns_of g play)
    ≡ mu +ℤ total (λ (x : Line). x.v *ℤ row_sum g fix (row_of g fix x) play) lines
lines_sum g fix mu lines play =
    let cs : List Column = columns_of g play in
    let a = total-add (λ c. mu *ℤ entry g fix whole c) (λ c. total (λ (x : Line). x.v *ℤ entry g fix (row_of g fix x) c) lines) cs in
    let b = total-scaled (entry g fix whole) mu cs in
    let one : mu *ℤ row_sum g fix whole play ≡ mu = ap (λ (z : ℤ). mu *ℤ z) (whole_is g fix play) ∙ same_by (times (v mu) (n 1)) (v mu) (omega arith) in
    let d = total-exchange (λ c (x : Line). x.v *ℤ entry g fix (row_of g fix x) c) cs lines in
    let e = total-same (λ (x : Line). total (λ c. x.v *ℤ entry g fix (row_of g fix x) c) cs) (λ (x : Line). x.v *ℤ row_sum g fix (row_of g fix x) play) lines
    (λ i y lt. let x : Line = slice_index_or lines i y in total-scaled (entry g fix (row_of g fix x)) x.v cs) in
    omega (arith, ints, a, b, one, d, e)

pub cover_is_plays : (g : Game) (fix : Fix) → IsFix g fix → (rho mu : ℤ) (lines : List Line) → IsCoverFact g fix rho mu lines → IsPlaysFact g fix rho mu (marks_of g fix lines)
cover_is_plays g fix is_fix rho mu lines fact =
    let security = no_matrix g fact.security in
    record {
      rho_positive = fact.rho_positive;
      mu_nonneg = fact.mu_nonneg;
      marks_of = marks_are g security fix is_fix lines fact.lines_of;
      each = λ play legal.
          let cs : List Column = columns_of g play in
          let right = λ (c : Column). (mu *ℤ entry g fix whole c) +ℤ total (λ (x : Line). x.v *ℤ entry g fix (row_of g fix x) c) lines in
          let are = columns_are g security play legal in
          let a = total-le (λ c. rho *ℤ column_cost g fix c) right cs (λ i d lt. fact.each (slice_index_or cs i d) (are i d lt)) in
          let b = total-scaled (column_cost g fix) rho cs in
          let d : rho *ℤ total (column_cost g fix) cs ≡ rho *ℤ cost g fix play = ap (λ (z : ℤ). rho *ℤ z) (cost_is g security fix is_fix play) in
          let e = lines_sum g fix mu lines play in
          let f = lines_regret g security fix is_fix play lines fact.lines_of in
          omega (arith, ints, a, b, d, e, f);
    }

pub cover_plays : CoverIsPlays
cover_plays g fix is_fix rho mu lines fact = (marks_of g fix lines, cover_is_plays g fix is_fix rho mu lines fact)
