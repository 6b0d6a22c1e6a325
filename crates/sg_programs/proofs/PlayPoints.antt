-- The point of a final state of a program of plays: a commitment of the node's region that reaches the bound of the multipliers' fact.
use Rattle.std.proofs.Common.{◌≡◌, ◌≢◌, ℕ, zero, suc, ◌+◌, ◌<◌, ◌≤◌, Bool, true, false, cond, List, [], ◌∷◌, ◌++◌, map, flat_map, length, ◌⊎◌, inl, inr, sym, ◌∙◌, ap, subst, refl, arith, slice_index_or, Option, None, Result, Ok}
use Rattle.std.specs.List.{All, AllPairs, Contains}
use Rattle.std.specs.Prelude.{ℤ, pos, ◌+ℤ◌, ◌-ℤ◌, ◌*ℤ◌, ◌≤ℤ◌, ◌<ℤ◌, int_le}
use Rattle.std.proofs.lemmas.Int.{ints}
use Rattle.std.proofs.lemmas.List.Elements.{All-contains, All-head, All-map, All-nil, All-cons, All-tail}
use Rattle.sg_num.specs.declared.step.Wide.{Wide}
use Rattle.sg_num.specs.Exact.{and_then, exact_sum}
use Rattle.sg_num.specs.Operations.{first_wide, plus}
use Rattle.sg_num.proofs.Ring.{var, num, ◌⊕◌, ◌⊖◌, ◌⊗◌, ring}
use Rattle.sg_num.proofs.Signs.{cancel}
use Rattle.sg_num.proofs.Laws.{mul-comm, one-mul}
use Rattle.sg_rows.specs.Rows.{place}
use Rattle.sg_rows.proofs.Fitting.{back-fits, head-fits, tail-fits}
use Rattle.sg_linear.specs.Sums.{dot, unit}
use Rattle.sg_linear.proofs.Lex.{same_or}
use Rattle.sg_linear.proofs.Products.{unit-apart}
use Rattle.sg_model.specs.declared.ticket.Ticket.{Ticket}
use Rattle.sg_model.specs.Sums.{total}
use Rattle.sg_model.specs.Games.{Game, action_count, attacker}
use Rattle.sg_model.specs.Limits.{IsGame}
use Rattle.sg_model.specs.Plays.{IsLegal, pay_a, pay_d}
use Rattle.sg_model.specs.PlayLists.{legal_plays}
use Rattle.sg_model.specs.Payoffs.{shift_of}
use Rattle.sg_model.specs.Commitments.{IsCommitment, scaled, sum_a, sum_d, weight_total}
use Rattle.sg_model.proofs.Before.{pairs-append, pairs-map, pairs-none}
use Rattle.sg_model.proofs.Best.{from_map, is_best-from, is_best-out}
use Rattle.sg_model.proofs.Joined.{same_sum_a, same_sum_d, same_weight_total}
use Rattle.sg_model.proofs.Promises.{peopled}
use Rattle.sg_model.proofs.Scaled.{sum_a-scaled, sum_d-scaled, weight_total-scaled}
use Rattle.sg_model.proofs.Sums.{total-exchange, total-same, total-scaled}
use Rattle.sg_commit.specs.Parts.{exact_total, fault_from, first_below, part_fault}
use Rattle.sg_commit.proofs.Kept.{kept, legal_parts}
use Rattle.sg_tree.specs.declared.fix.Fix.{Fix}
use Rattle.sg_bounds.specs.PlayRows.{comparison_at, comparisons, gain}
use Rattle.sg_bounds.specs.Regions.{IsFix, IsInRegion, act_of, fixed}
use Rattle.sg_bounds.specs.Facts.{cost, mu_of, rho_of, shifted_sum}
use Rattle.sg_bounds.specs.SizeSteps.{running_steps}
use Rattle.sg_bounds.proofs.Caps.{empty_region}
use Rattle.sg_bounds.proofs.Cover.{total-map}
use Rattle.sg_lp.specs.declared.column.Column.{Column}
use Rattle.sg_lp.specs.declared.column.Enter.{Enter}
use Rattle.sg_lp.specs.declared.column.Enter.TheVariants.{Col}
use Rattle.sg_lp.specs.Programs.{IsWithinLimits, Program, member_entry}
use Rattle.sg_lp.specs.Moves.{IsFinal}
use Rattle.sg_lp.specs.States.{IsTableau, Tableau, member_at, row_at}
use Rattle.sg_programs.specs.Laws.{IsComparison}
use Rattle.sg_programs.specs.Plays.{column_of, play_of, plays_program}
use Rattle.sg_programs.specs.Points.{column_in, is_column, is_point_row, own_steps, multiple_steps, point_rows, point_rows_below, point_ticket, point_tickets, point_weight, point_whole, weight_at, weight_step, weights_of, whole_weight}
use Rattle.sg_programs.specs.PointLaws.{FormedPointHasNoFault, HasPointValue, IsBestOfRegion, KeptReaches, NoPointMeansEmpty, PointReachesFact}
use Rattle.sg_programs.specs.Shown.{fact_at}
use Rattle.sg_programs.proofs.Columns.{columns_legal, play-column}
use Rattle.sg_programs.proofs.Comparisons.{rows_are_comparisons}
use Rattle.sg_programs.proofs.Multipliers.{final_is_fact}
use Rattle.sg_programs.proofs.PointSums.{both, column-is, has_point_value, le-cancel, over-rows, rows-more, weight-above, whole-above}
use Rattle.sg_programs.proofs.Sized.{program_is_sized}

-- ---- sums over tickets

pub weighted : {X Y : Type 0} (w : X → ℤ) (f : X → Y → ℤ) (xs : List X) (ys : List Y) → total (λ x. w x *ℤ total (f x) ys) xs ≡ total (λ y. total (λ x. w x *ℤ f x y) xs) ys
weighted w f xs ys =
    total-same (λ x. w x *ℤ total (f x) ys) (λ x. total (λ y. w x *ℤ f x y) ys) xs (λ i d lt. sym (total-scaled (f (slice_index_or xs i d)) (w (slice_index_or xs i d)) ys)) ∙ total-exchange (λ x y. w x *ℤ f x y) xs ys

-- one type's part of the cost
cost_part : (p shift : ℤ) (k : List Ticket) (f : Ticket → ℤ)
    → total (λ (x : Ticket). x.weight *ℤ (p *ℤ (f x +ℤ shift))) k ≡ p *ℤ (total (λ (x : Ticket). x.weight *ℤ f x) k +ℤ (shift *ℤ weight_total k))
cost_part p shift [] f = sym (ring (p ∷ shift ∷ []) (var 0 ⊗ (num (pos 0) ⊕ var 1 ⊗ num (pos 0))) (num (pos 0)) tt)
cost_part p shift (x ∷ xs) f =
    let s : ℤ = total (λ (x : Ticket). x.weight *ℤ f x) xs in let d : ℤ = weight_total xs in
    ap (λ (z : ℤ). (x.weight *ℤ (p *ℤ (f x +ℤ shift))) +ℤ z) (cost_part p shift xs f)
    ∙ ring (p ∷ shift ∷ x.weight ∷ f x ∷ s ∷ d ∷ []) (var 2 ⊗ (var 0 ⊗ (var 3 ⊕ var 1)) ⊕ var 0 ⊗ (var 4 ⊕ var 1 ⊗ var 5)) (var 0 ⊗ ((var 2 ⊗ var 3 ⊕ var 4) ⊕ var 1 ⊗ (var 2 ⊕ var 5))) tt

-- what the defender gets of the fixed types is the weighted cost of the plays
costs-are : (g : Game) (fix : Fix) (k : List Ticket) → total (λ (x : Ticket). x.weight *ℤ cost g fix x.play.code) k ≡ shifted_sum g fix k
costs-are g fix k =
    let part = λ (x : Ticket) (p : ℕ × ℕ). (attacker g p.0).prior *ℤ (pay_d g p.0 x.play.code p.1 +ℤ shift_of g) in
    let sums = λ (p : ℕ × ℕ). (attacker g p.0).prior *ℤ (sum_d g k p.0 p.1 +ℤ (shift_of g *ℤ weight_total k)) in
    weighted (λ (x : Ticket). x.weight) part k (fixed fix)
    ∙ total-same (λ (p : ℕ × ℕ). total (λ (x : Ticket). x.weight *ℤ part x p) k) sums (fixed fix)
    (λ i y lt. let p : ℕ × ℕ = slice_index_or (fixed fix) i y in cost_part (attacker g p.0).prior (shift_of g) k (λ (x : Ticket). pay_d g p.0 x.play.code p.1))

-- the weighted difference of two payoffs
gain_part : (k : List Ticket) (f h : Ticket → ℤ) → total (λ (x : Ticket). x.weight *ℤ (f x -ℤ h x)) k ≡ total (λ (x : Ticket). x.weight *ℤ f x) k -ℤ total (λ (x : Ticket). x.weight *ℤ h x) k
gain_part [] f h = refl
gain_part (x ∷ xs) f h =
    let s : ℤ = total (λ (x : Ticket). x.weight *ℤ f x) xs in let u : ℤ = total (λ (x : Ticket). x.weight *ℤ h x) xs in
    ap (λ (z : ℤ). (x.weight *ℤ (f x -ℤ h x)) +ℤ z) (gain_part xs f h)
    ∙ ring (x.weight ∷ f x ∷ h x ∷ s ∷ u ∷ []) (var 0 ⊗ (var 1 ⊖ var 2) ⊕ (var 3 ⊖ var 4)) ((var 0 ⊗ var 1 ⊕ var 3) ⊖ (var 0 ⊗ var 2 ⊕ var 4)) tt

pub any-default : {X : Type 0} (xs : List X) (k : ℕ) (d e : X) → k < length xs → slice_index_or xs k d ≡ slice_index_or xs k e
any-default [] k d e lt = absurd (omega arith)
any-default (x ∷ xs) zero d e lt = refl
any-default (x ∷ xs) (suc k) d e lt = any-default xs k d e (omega (arith, lt))

-- ---- pairs of rows

pairs-rows : (S : ℕ → ℕ → Type 0) (t : Tableau) (m : ℕ) → ((i j : ℕ) → i < j → j < m → is_point_row t i ≡ true → is_point_row t j ≡ true → S i j) → AllPairs S (point_rows_below t m)
pairs-rows S t zero h = pairs-none S
pairs-rows S t (suc m) h =
    subst (AllPairs S) (sym (rows-more t m))
    (pairs-append S (point_rows_below t m) (cond (is_point_row t m) (m ∷ []) [])
    (pairs-rows S t m (λ i j lt in_range. h i j lt (omega (arith, in_range))))
    (alone (is_point_row t m))
    (over-rows (λ i. All (S i) (cond (is_point_row t m) (m ∷ []) [])) t m (λ i lt test. last i lt test (is_point_row t m) (λ e. e))))
  where
    alone : (b : Bool) → AllPairs S (cond b (m ∷ []) [])
    alone true = λ i j d lt in_range. absurd (omega arith)
    alone false = pairs-none S

    last : (i : ℕ) → i < m → is_point_row t i ≡ true → (b : Bool) → (b ≡ true → is_point_row t m ≡ true) → All (S i) (cond b (m ∷ []) [])
    last i lt test true is = All-cons (S i) m [] (h i m lt (omega arith) test (is refl)) (All-nil (S i))
    last i lt test false is = All-nil (S i)

module _ (g : Game) (h : IsGame g) (unscaled : g.scale ≡ pos 0) (fix : Fix) (is_fix : IsFix g fix) (t : Tableau) (st : IsTableau (plays_program g fix) t) (final : IsFinal (plays_program g fix) t) where
  abbrev p : Program
  p = plays_program g fix

  sized : IsWithinLimits p
  sized = program_is_sized g h unscaled fix is_fix

  abbrev rows : List ℕ
  rows = point_rows p t

  abbrev tickets : List Ticket
  tickets = point_tickets p t

  column-at : (k : ℕ) → k < p.height → is_point_row t k ≡ true → Contains p.columns (column_in (member_at t k)) × (member_at t k ≡ Col (column_in (member_at t k)))
  column-at k lt test = column-is p t st k lt (both (is_column (member_at t k)) _ test).0

  -- a sum over the tickets is one over the rows
  over-tickets : (f : List ℕ → ℤ) → total (λ (x : Ticket). x.weight *ℤ f x.play.code) tickets ≡ total (λ (i : ℕ). point_weight p t i *ℤ f (play_of (column_in (member_at t i)))) rows
  over-tickets f = total-map (λ (x : Ticket). x.weight *ℤ f x.play.code) (point_ticket p t) rows

  module _ (above : pos 0 <ℤ place t.y 0) where
    has : HasPointValue p t
    has = has_point_value p t sized st

    whole : weight_total tickets ≡ pos (point_whole p t)
    whole =
        total-map (λ (x : Ticket). x.weight) (point_ticket p t) rows
        ∙ total-same (λ (i : ℕ). point_weight p t i) (λ (i : ℕ). point_weight p t i *ℤ pos 1) rows (λ i d lt. let w : ℤ = point_weight p t (slice_index_or rows i d) in sym (mul-comm w (pos 1) ∙ one-mul w))
        ∙ has.filled above

    some : tickets ≢ []
    some e = absurd (let z = ap weight_total e in let w = whole-above p t sized st in omega (arith, ints, z, whole, w))

    -- no two plays of the point are the same
    apart : (i j : ℕ) → i < j → j < p.height → is_point_row t i ≡ true → is_point_row t j ≡ true → play_of (column_in (member_at t i)) ≢ play_of (column_in (member_at t j))
    apart i j lt in_range ti tj same =
        let ci = column-at i (omega arith) ti in
        let cj = column-at j in_range tj in
        let members : member_at t i ≡ member_at t j =
        ci.1 ∙ ap Col (sym (told (column_in (member_at t i)) ci.0) ∙ ap column_of same ∙ told (column_in (member_at t j)) cj.0) ∙ sym cj.1 in
        let zero_there = st.state.apart i j (omega arith) in_range (λ e. absurd (omega arith)) in
        let own = st.state.own i (omega arith) in
        absurd (omega (arith, ints, own, zero_there, ap (λ (b : Enter). dot p.height (place (row_at t i)) (member_entry p b)) members))
      where
        told : (c : Column) → Contains p.columns c → column_of (play_of c) ≡ c
        told c at = let f = from_map column_of (legal_plays g) c at in ap (λ (d : Column). column_of (play_of d)) (sym f.2) ∙ ap column_of (play-column f.0) ∙ f.2

    commitment : IsCommitment g tickets
    commitment = record {
      some = some;
      legal = All-map (λ (x : Ticket). IsLegal g x.play.code) (point_ticket p t) rows
          (over-rows (λ i. IsLegal g (play_of (column_in (member_at t i)))) t p.height
          (λ i lt test. All-contains (λ (c : Column). IsLegal g (play_of c)) p.columns (column_in (member_at t i)) (columns_legal g) (column-at i lt test).0));
      positive = All-map (λ (x : Ticket). pos 1 ≤ℤ x.weight) (point_ticket p t) rows
          (over-rows (λ i. pos 1 ≤ℤ point_weight p t i) t p.height (λ i lt test. let w = weight-above p t sized st i lt test in omega (arith, ints, w)));
      distinct = pairs-map (λ (i j : ℕ). play_of (column_in (member_at t i)) ≢ play_of (column_in (member_at t j))) (λ (x y : Ticket). x.play.code ≢ y.play.code) (point_ticket p t) (λ i j ne. ne) rows
          (pairs-rows (λ (i j : ℕ). play_of (column_in (member_at t i)) ≢ play_of (column_in (member_at t j))) t p.height apart);
    }

    -- each comparison gains nothing
    no_gain : (l b : ℕ) → IsComparison g fix (l, b) → sum_a g tickets l b ≤ℤ sum_a g tickets l (act_of fix l)
    no_gain l b is =
        let at = (rows_are_comparisons g fix is_fix).complete (l, b) is in
        let k : ℕ = at.0 in
        let inside : k < length (comparisons g fix) = at.1 in
        let which : comparison_at g fix k ≡ (l, b) = any-default (comparisons g fix) k (0, 0) (l, b) inside ∙ at.2 in
        let f : List ℕ → ℤ = λ play. gain g fix play (l, b) in
        let sum : total (λ (i : ℕ). point_weight p t i *ℤ f (play_of (column_in (member_at t i)))) rows ≤ℤ (pos (point_whole p t) *ℤ unit 0 (suc k)) =
        subst (λ (m : ℕ × ℕ). total (λ (i : ℕ). point_weight p t i *ℤ gain g fix (play_of (column_in (member_at t i))) m) rows ≤ℤ (pos (point_whole p t) *ℤ unit 0 (suc k))) which (has.rows (suc k) (omega (arith, inside))) in
        let none : pos (point_whole p t) *ℤ unit 0 (suc k) ≡ pos 0 = ap (λ (z : ℤ). pos (point_whole p t) *ℤ z) (unit-apart 0 (suc k) (λ e. absurd (omega (arith, e)))) ∙ omega (arith, ints) in
        let parts = gain_part tickets (λ (x : Ticket). pay_a g l x.play.code b) (λ (x : Ticket). pay_a g l x.play.code (act_of fix l)) in
        omega (arith, ints, sum, none, parts, over-tickets f)

    region : IsInRegion g fix tickets
    region l low high = is_best-from g tickets l (act_of fix l) (λ b from_one action. by b from_one action (same_or b (act_of fix l)))
      where
        by : (b : ℕ) → 1 ≤ b → b ≤ action_count g l → (b ≡ act_of fix l) ⊎ (b ≢ act_of fix l) → sum_a g tickets l b ≤ℤ sum_a g tickets l (act_of fix l)
        by b from_one action (inl e) = rw e (omega (arith, ints))
        by b from_one action (inr ne) = no_gain l b (record { from_first = low; in_range = high; from_one = from_one; action = action; other = ne })

    pub best : IsBestOfRegion g fix t
    best = record {
      reaches = record {
        commitment = commitment;
        region = region;
        equal =
            ap (λ (z : ℤ). t.rho *ℤ z) (sym (costs-are g fix tickets) ∙ over-tickets (cost g fix)) ∙ has.value
            ∙ mul-comm (pos (point_whole p t)) (place t.y 0)
            ∙ ap (λ (z : ℤ). place t.y 0 *ℤ z) (sym whole);
      };
      whole = whole;
    }

pub point_reaches_fact : PointReachesFact
point_reaches_fact g h unscaled fix is_fix t st final above = best g h unscaled fix is_fix t st final above

pub no_point_means_empty : NoPointMeansEmpty
no_point_means_empty g h unscaled fix is_fix t st final none k is_k region =
    empty_region g (peopled g h) fix is_fix (fact_at g fix t) (final_is_fact g h unscaled fix is_fix t st final) none k is_k region

-- ---- parts without a fault

running-total : (acc : ℤ) (k : List Ticket) → first_wide (running_steps acc (map (λ (x : Ticket). x.weight) k)) ≡ None → (z : ℤ) × (exact_total acc k ≡ Ok z)
running-total acc [] e = (acc, refl)
running-total acc (x ∷ xs) e =
    let ws = map (λ (y : Ticket). y.weight) xs in
    let fit = head-fits (plus acc x.weight) (running_steps (acc +ℤ x.weight) ws) e in
    let rest = running-total (acc +ℤ x.weight) xs (tail-fits (plus acc x.weight) (running_steps (acc +ℤ x.weight) ws) e) in
    let step : exact_sum acc x.weight ≡ Ok (acc +ℤ x.weight) = rw fit refl in
    (rest.0, ap (λ (r : Result ℤ Wide). and_then r (λ next. exact_total next xs)) step ∙ rest.1)

none-below : (i : ℕ) (k : List Ticket) → All (λ (x : Ticket). pos 1 ≤ℤ x.weight) k → first_below i k ≡ None
none-below i [] all = refl
none-below i (x ∷ xs) all =
    let here = All-head (λ (x : Ticket). pos 1 ≤ℤ x.weight) x xs all in
    let test : int_le (pos 1) x.weight ≡ true = sym (omega (arith, ints, here)) in
    rw test (none-below (i + 1) xs (All-tail (λ (x : Ticket). pos 1 ≤ℤ x.weight) x xs all))

no_fault : (k : List Ticket) → k ≢ [] → All (λ (x : Ticket). pos 1 ≤ℤ x.weight) k → first_wide (running_steps (pos 0) (map (λ (x : Ticket). x.weight) k)) ≡ None → part_fault k ≡ None
no_fault [] ne all e = absurd (ne refl)
no_fault (x ∷ xs) ne all e =
    let sum = running-total (pos 0) (x ∷ xs) e in
    ap (λ (i : Option ℕ). fault_from i (exact_total (pos 0) (x ∷ xs))) (none-below 0 (x ∷ xs) all) ∙ ap (fault_from None) sum.1

same-weights : (p : Program) (t : Tableau) (is : List ℕ) → map (λ (x : Ticket). x.weight) (map (point_ticket p t) is) ≡ map (whole_weight (point_whole p t)) (map (weight_at p t) is)
same-weights p t [] = refl
same-weights p t (i ∷ is) = ap (λ (zs : List ℤ). point_weight p t i ∷ zs) (same-weights p t is)

pub formed_point_has_no_fault : FormedPointHasNoFault
formed_point_has_no_fault g h unscaled fix is_fix t st final above fit =
    let p = plays_program g fix in
    let is_k = (best g h unscaled fix is_fix t st final above).reaches.commitment in
    let last = running_steps (pos 0) (map (whole_weight (point_whole p t)) (weights_of p t)) in
    let weights = map (weight_step (point_whole p t)) (weights_of p t) in
    let totals = back-fits weights last (back-fits (multiple_steps 1 (weights_of p t)) (weights ++ last) (back-fits (flat_map (own_steps p t) (point_rows p t)) (multiple_steps 1 (weights_of p t) ++ (weights ++ last)) fit)) in
    no_fault (point_tickets p t) is_k.some is_k.positive (ap (λ (zs : List ℤ). first_wide (running_steps (pos 0) zs)) (same-weights p t (point_rows p t)) ∙ totals)

-- ---- the commitment that is kept

pub kept_reaches : KeptReaches
kept_reaches g fix is_fix f parts k is_k mult r =
    let c : ℤ = mult.0 in
    let some = mult.1 in
    let mix = mult.2 in
    let kts = k.tickets in
    let wt : weight_total parts ≡ c *ℤ weight_total kts = same_weight_total g parts (scaled c kts) mix ∙ weight_total-scaled c kts in
    let sd = λ (l a : ℕ). same_sum_d g parts (scaled c kts) mix l a ∙ sum_d-scaled g c kts l a in
    let sa = λ (l a : ℕ). same_sum_a g parts (scaled c kts) mix l a ∙ sum_a-scaled g c kts l a in
    let above : pos 0 <ℤ c = omega (arith, ints, some) in
    let whole : shifted_sum g fix parts ≡ c *ℤ shifted_sum g fix kts =
    total-same (part parts) (λ (p : ℕ × ℕ). c *ℤ part kts p) (fixed fix)
    (λ i d lt. let p : ℕ × ℕ = slice_index_or (fixed fix) i d in one (attacker g p.0).prior (shift_of g) c (sum_d g parts p.0 p.1) (sum_d g kts p.0 p.1) (weight_total parts) (weight_total kts) (sd p.0 p.1) wt)
    ∙ total-scaled (part kts) c (fixed fix) in
    record {
      commitment = kept g k is_k (legal_parts g parts k is_k mult r.commitment.legal);
      region = λ l low high. is_best-from g kts l (act_of fix l)
          (λ b from_one action. le-cancel c (sum_a g kts l b) (sum_a g kts l (act_of fix l)) above
          (let best = is_best-out g parts l (act_of fix l) (r.region l low high) b from_one action in omega (arith, ints, best, sa l b, sa l (act_of fix l))));
      equal = cancel c (rho_of f *ℤ shifted_sum g fix kts) (mu_of f *ℤ weight_total kts) above
          (ring (c ∷ rho_of f ∷ shifted_sum g fix kts ∷ []) (var 0 ⊗ (var 1 ⊗ var 2)) (var 1 ⊗ (var 0 ⊗ var 2)) tt
          ∙ ap (λ (z : ℤ). rho_of f *ℤ z) (sym whole) ∙ r.equal ∙ ap (λ (z : ℤ). mu_of f *ℤ z) wt
          ∙ ring (c ∷ mu_of f ∷ weight_total kts ∷ []) (var 1 ⊗ (var 0 ⊗ var 2)) (var 0 ⊗ (var 1 ⊗ var 2)) tt);
    }
  where
    part : List Ticket → ℕ × ℕ → ℤ
    part ts p = (attacker g p.0).prior *ℤ (sum_d g ts p.0 p.1 +ℤ (shift_of g *ℤ weight_total ts))

    one : (p shift c d e v w : ℤ) → d ≡ c *ℤ e → v ≡ c *ℤ w → p *ℤ (d +ℤ (shift *ℤ v)) ≡ c *ℤ (p *ℤ (e +ℤ (shift *ℤ w)))
    one p shift c d e v w ed ev = ap (λ (z : ℤ). p *ℤ (z +ℤ (shift *ℤ v))) ed ∙ ap (λ (z : ℤ). p *ℤ (c *ℤ e +ℤ (shift *ℤ z))) ev
        ∙ ring (p ∷ shift ∷ c ∷ e ∷ w ∷ []) (var 0 ⊗ (var 2 ⊗ var 3 ⊕ var 1 ⊗ (var 2 ⊗ var 4))) (var 2 ⊗ (var 0 ⊗ (var 3 ⊕ var 1 ⊗ var 4))) tt
