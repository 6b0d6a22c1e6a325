-- Weak and strong duality.
use Rattle.std.proofs.Common.{◌≡◌, ℕ, List, [], ◌∷◌, map, sym, ◌∙◌, ap, subst, refl, arith, slice_index_or, None}
use Rattle.std.specs.List.{All, Contains}
use Rattle.std.specs.Prelude.{ℤ, pos, ◌+ℤ◌, ◌*ℤ◌, ◌≤ℤ◌, ◌<ℤ◌}
use Rattle.std.proofs.lemmas.Int.{ints}
use Rattle.std.proofs.lemmas.List.Elements.{All-contains, All-map}
use Rattle.sg_num.proofs.Ring.{var, ◌⊕◌, ◌⊗◌, ring}
use Rattle.sg_num.proofs.Signs.{mul-le_left}
use Rattle.sg_num.specs.Operations.{first_wide}
use Rattle.sg_model.specs.declared.ticket.Ticket.{Ticket}
use Rattle.sg_model.specs.Games.{Game}
use Rattle.sg_model.specs.Limits.{IsGame}
use Rattle.sg_model.specs.Sums.{total}
use Rattle.sg_commit.specs.Parts.{part_fault}
use Rattle.sg_tree.specs.declared.fix.Fix.{Fix}
use Rattle.sg_bounds.specs.Facts.{HoldsFor}
use Rattle.sg_bounds.specs.Regions.{IsFix}
use Rattle.sg_search.specs.Results.{Reaches}
use Rattle.sg_programs.specs.Marks.{plays_fact}
use Rattle.sg_programs.specs.Plays.{plays_program}
use Rattle.sg_programs.specs.Shown.{fact_at}
use Rattle.sg_programs.proofs.Multipliers.{final_is_fact}
use Rattle.sg_programs.proofs.PlayPoints.{formed_point_has_no_fault, point_reaches_fact}
use Rattle.sg_model.proofs.Sums.{total-le, total-same, total-scaled}
use Rattle.sg_bounds.proofs.Cover.{total-map}
use Rattle.sg_linear.specs.Sums.{dot, unit}
use Rattle.sg_linear.proofs.SumLaws.{sum_below-add, sum_below-ext, sum_below-le, sum_below-zero}
use Rattle.sg_linear.proofs.BasisLaws.{dot-scale_right}
use Rattle.sg_linear.proofs.Products.{dot-unit_right}
use Rattle.sg_rows.specs.Rows.{place}
use Rattle.sg_lp.specs.declared.column.Column.{Column}
use Rattle.sg_lp.specs.Programs.{IsWithinLimits, Program}
use Rattle.sg_lp.specs.Moves.{IsFinal}
use Rattle.sg_lp.specs.States.{IsTableau, Tableau, member_at}
use Rattle.sg_lp.proofs.Values.{final_dual}
use Rattle.sg_programs.specs.Points.{column_in, point_rows, point_steps, point_ticket, point_tickets, point_weight, point_whole}
use Rattle.sg_programs.specs.PointLaws.{HasPointValue}
use Rattle.sg_programs.proofs.PointSums.{both, column-is, has_point_value, le-cancel, over-rows, weight-above, whole-above}
use Rattle.sg_dual.specs.declared.part.Part.{Part}
use Rattle.sg_dual.specs.Parts.{part_of_row, point_parts, tickets_of}
use Rattle.sg_dual.specs.Duality.{AreOfOneValue, IsFeasible, PointIsOptimal, StrongDuality, WeakDuality, cost_total, point_row_total}

-- the product with what weighted columns have in each row
dot-rows : (p : Program) (n : ℕ) (y : ℕ → ℤ) (parts : List Part) → total (λ (x : Part). x.weight *ℤ dot n y (p.entry x.col)) parts ≡ dot n y (point_row_total p parts)
dot-rows p n y [] = sym (sum_below-zero n (λ j. y j *ℤ pos 0) (λ j h. omega (arith, ints)))
dot-rows p n y (x ∷ xs) =
    let R : ℕ → ℤ = point_row_total p xs in
    let a : ℕ → ℤ = p.entry x.col in
    ap (λ (z : ℤ). (x.weight *ℤ dot n y a) +ℤ z) (dot-rows p n y xs)
    ∙ ap (λ (z : ℤ). z +ℤ dot n y R) (sym (dot-scale_right n x.weight y a))
    ∙ sym (sum_below-add n (λ j. y j *ℤ (x.weight *ℤ a j)) (λ j. y j *ℤ R j))
    ∙ sum_below-ext n _ _ (λ j h. ring (y j ∷ x.weight ∷ a j ∷ R j ∷ []) (var 0 ⊗ (var 1 ⊗ var 2) ⊕ var 0 ⊗ var 3) (var 0 ⊗ (var 1 ⊗ var 2 ⊕ var 3)) tt)

pub weak_duality : WeakDuality
weak_duality p t some dual parts whole feasible =
    let n : ℕ = p.height in
    let y : ℕ → ℤ = place t.y in
    let each : All (λ (x : Part). (x.weight *ℤ (t.rho *ℤ p.cost x.col)) ≤ℤ (x.weight *ℤ dot n y (p.entry x.col))) parts =
    λ i d lt.
    let x : Part = slice_index_or parts i d in
    mul-le_left x.weight (t.rho *ℤ p.cost x.col) (dot n y (p.entry x.col)) (feasible.nonnegative i d lt)
    (All-contains (λ (c : Column). (t.rho *ℤ p.cost c) ≤ℤ dot n y (p.entry c)) p.columns x.col dual.bounds (feasible.columns i d lt)) in
    let first = total-le (λ (x : Part). x.weight *ℤ (t.rho *ℤ p.cost x.col)) (λ (x : Part). x.weight *ℤ dot n y (p.entry x.col)) parts each in
    let costs : total (λ (x : Part). x.weight *ℤ (t.rho *ℤ p.cost x.col)) parts ≡ t.rho *ℤ cost_total p parts =
    total-same (λ (x : Part). x.weight *ℤ (t.rho *ℤ p.cost x.col)) (λ (x : Part). t.rho *ℤ (x.weight *ℤ p.cost x.col)) parts
    (λ i d lt. let x : Part = slice_index_or parts i d in ring (x.weight ∷ t.rho ∷ p.cost x.col ∷ []) (var 0 ⊗ (var 1 ⊗ var 2)) (var 1 ⊗ (var 0 ⊗ var 2)) tt)
    ∙ total-scaled (λ (x : Part). x.weight *ℤ p.cost x.col) t.rho parts in
    let second = dot-rows p n y parts in
    let third = sum_below-le n (λ j. y j *ℤ point_row_total p parts j) (λ j. y j *ℤ (whole *ℤ unit 0 j)) (λ j h. mul-le_left (y j) (point_row_total p parts j) (whole *ℤ unit 0 j) (dual.above j h) (feasible.rows j h)) in
    let fourth = dot-scale_right n whole y (unit 0) ∙ ap (λ (z : ℤ). whole *ℤ z) (dot-unit_right n 0 y (omega (arith, some))) in
    omega (arith, ints, first, costs, second, third, fourth)

module _ (p : Program) (t : Tableau) (sized : IsWithinLimits p) (st : IsTableau p t) where
  has : HasPointValue p t
  has = has_point_value p t sized st

  over-parts : (g : Column → ℤ) → total (λ (x : Part). x.weight *ℤ g x.col) (point_parts p t) ≡ total (λ (i : ℕ). point_weight p t i *ℤ g (column_in (member_at t i))) (point_rows p t)
  over-parts g = total-map (λ (x : Part). x.weight *ℤ g x.col) (part_of_row p t) (point_rows p t)

  primal : IsFeasible p (point_parts p t) (pos (point_whole p t))
  primal = record {
    positive = (let w = whole-above p t sized st in omega (arith, ints, w));
    columns = All-map (λ (x : Part). Contains p.columns x.col) (part_of_row p t) (point_rows p t)
        (over-rows (λ (i : ℕ). Contains p.columns (column_in (member_at t i))) t p.height (λ i lt test. (column-is p t st i lt (both _ _ test).0).0));
    nonnegative = All-map (λ (x : Part). pos 0 ≤ℤ x.weight) (part_of_row p t) (point_rows p t)
        (over-rows (λ (i : ℕ). pos 0 ≤ℤ point_weight p t i) t p.height (λ i lt test. let w = weight-above p t sized st i lt test in omega (arith, ints, w)));
    rows = λ j h. let r = has.rows j h in omega (arith, ints, r, over-parts (λ (c : Column). p.entry c j));
  }

  pub one_value : IsFinal p t → AreOfOneValue p t
  one_value final = record {
    dual = final_dual p t st final;
    primal = primal;
    equal = ap (λ (z : ℤ). t.rho *ℤ z) (over-parts p.cost) ∙ has.value;
  }

pub strong_duality : StrongDuality
strong_duality p t sized st final = one_value p t sized st final

pub point_is_optimal : PointIsOptimal
point_is_optimal p t sized st final parts whole feasible =
    let s = one_value p t sized st final in
    let w = weak_duality p t sized.some s.dual parts whole feasible in
    let m : ℤ = pos (point_whole p t) in
    let c : ℤ = cost_total p parts in
    let best : ℤ = cost_total p (point_parts p t) in
    let scaled = mul-le_left m (t.rho *ℤ c) (whole *ℤ place t.y 0) (let a = s.primal.positive in omega (arith, ints, a)) w in
    le-cancel t.rho (c *ℤ m) (best *ℤ whole) (let r = s.dual.rho in omega (arith, ints, r))
    (omega (
      arith,
      ints,
      scaled,
      ring (m ∷ t.rho ∷ c ∷ []) (var 0 ⊗ (var 1 ⊗ var 2)) (var 1 ⊗ (var 2 ⊗ var 0)) tt,
      ring (m ∷ whole ∷ place t.y 0 ∷ []) (var 0 ⊗ (var 1 ⊗ var 2)) (var 1 ⊗ (var 0 ⊗ var 2)) tt,
      ap (λ (z : ℤ). whole *ℤ z) s.equal,
      ring (whole ∷ t.rho ∷ best ∷ []) (var 0 ⊗ (var 1 ⊗ var 2)) (var 1 ⊗ (var 2 ⊗ var 0)) tt,
    ))

-- ---- over plays

module _ (p : Program) (t : Tableau) (st : IsTableau p t) (final : IsFinal p t) (g : Game) (h : IsGame g) (unscaled : g.scale ≡ pos 0) (fix : Fix) (is_fix : IsFix g fix) (e : p ≡ plays_program g fix) where
  state : IsTableau (plays_program g fix) t
  state = subst (λ (q : Program). IsTableau q t) e st

  last : IsFinal (plays_program g fix) t
  last = subst (λ (q : Program). IsFinal q t) e final

  pub dual_fact : (y : List ℤ) (rho : ℤ) → y ≡ t.y → rho ≡ t.rho → HoldsFor g fix (plays_fact g fix y rho)
  dual_fact y rho ey er =
      subst (λ (z : ℤ). HoldsFor g fix (plays_fact g fix y z)) (sym er)
      (subst (λ (zs : List ℤ). HoldsFor g fix (plays_fact g fix zs t.rho)) (sym ey) (final_is_fact g h unscaled fix is_fix t state last))

  tickets-are : (is : List ℕ) → tickets_of (map (part_of_row (plays_program g fix) t) is) ≡ map (point_ticket (plays_program g fix) t) is
  tickets-are [] = refl
  tickets-are (i ∷ is) = ap (λ (xs : List Ticket). point_ticket (plays_program g fix) t i ∷ xs) (tickets-are is)

  module _ (above : pos 0 <ℤ place t.y 0) (parts : List Part) (is : parts ≡ point_parts p t) where
    tickets : tickets_of parts ≡ point_tickets (plays_program g fix) t
    tickets = ap tickets_of is ∙ ap (λ (q : Program). tickets_of (point_parts q t)) e ∙ tickets-are (point_rows (plays_program g fix) t)

    pub parts_reach : Reaches g fix (fact_at g fix t) (tickets_of parts)
    parts_reach = subst (Reaches g fix (fact_at g fix t)) (sym tickets) (point_reaches_fact g h unscaled fix is_fix t state last above).reaches

    pub parts_faultless : first_wide (point_steps p t) ≡ None → part_fault (tickets_of parts) ≡ None
    parts_faultless fit = ap part_fault tickets ∙ formed_point_has_no_fault g h unscaled fix is_fix t state last above (subst (λ (q : Program). first_wide (point_steps q t) ≡ None) e fit)
