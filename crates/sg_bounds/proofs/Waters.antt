-- A report of right tickets at a water level is accepted.
use Rattle.std.proofs.Common.{◌≡◌, ℕ, Bool, [], ◌∷◌, ◌++◌, ◌*ℤ◌, sym, subst, refl, arith}
use Rattle.std.specs.List.{All}
use Rattle.std.specs.Prelude.{MatchBool}
use Rattle.std.proofs.lemmas.Int.{ints}
use Rattle.std.proofs.lemmas.List.Elements.{All-nil, All-cons, All-append}
use Rattle.sg_frac.specs.Fractions.{Fraction}
use Rattle.sg_model.specs.Limits.{is_scaled}
use Rattle.sg_model.specs.Origami.{IsWater, water_bound}
use Rattle.sg_model.proofs.Bound.{water_bounds}
use Rattle.sg_model.proofs.Greatest.{Contains-head}
use Rattle.sg_model.proofs.Promises.{origami, peopled}
use Rattle.sg_model.proofs.Tickets.{tickets-optimal, tickets-value}
use Rattle.sg_model.proofs.Values.{bound_above, optimal-bound}
use Rattle.sg_tree.specs.declared.fact.Fact.TheVariants.{Water}
use Rattle.sg_tree.specs.declared.tree.Tree.TheVariants.{Closed}
use Rattle.sg_bounds.specs.Trees.{Node, closed, node_of}
use Rattle.sg_bounds.specs.Leaves.{tree_bounds_of}
use Rattle.sg_bounds.specs.Sizes.{value_sums, weight_sums}
use Rattle.sg_num.specs.Exact.{Fits}
use Rattle.sg_bounds.specs.Accepted.{IsNotAbove, IsGreatest, IsSplitTree, IsWaterTree, tree_sums}
use Rattle.sg_bounds.specs.ReportLaws.{LevelReportIsAccepted}
use Rattle.sg_bounds.proofs.Nodes.{node_of-Closed}

pub level_accepted : LevelReportIsAccepted
level_accepted g is_game scaled k is_k lowest value is_value reduced level why water shares weights values =
    let is_o = origami g is_game scaled in
    let bound : Fraction = record { num = water_bound g level.num level.den; den = level.den *ℤ g.scale } in
    let best = tickets-optimal g is_o level.num level.den water.positive k is_k shares why water in
    let same : node_of (Closed (Water level why)) ≡ closed (Water level why) = node_of-Closed (Water level why) in
    let one = is_o.one_type in
    let low : IsNotAbove value bound = bound_above g (peopled g is_game) bound.num bound.den (water_bounds g is_o level.num level.den why water) k is_k value.num value.den is_value in
    let high : IsNotAbove bound value =
    bound_above g (peopled g is_game) value.num value.den (optimal-bound g k is_k best value.num value.den is_value) k is_k bound.num bound.den
    (tickets-value g is_o level.num level.den water.positive k is_k shares why water) in
    record {
      tickets = is_k;
      total = refl;
      lowest = lowest;
      value = is_value;
      value_reduced = reduced;
      caps = record { one_each = sym one; in_order = λ l at_least at_most. absurd (omega (arith, one, at_least, at_most)); allowed = λ l at_least at_most. absurd (omega (arith, one, at_least, at_most)) };
      tree = subst (λ (t : Node). MatchBool (is_scaled g) (IsWaterTree g t) (IsSplitTree g t)) (sym same) (subst (λ (b : Bool). MatchBool b (IsWaterTree g (closed (Water level why))) (IsSplitTree g (closed (Water level why)))) (sym scaled) water);
      upper = subst (λ (t : Node). IsGreatest value (value ∷ tree_bounds_of g [] t)) (sym same)
          (record {
            bounds = All-cons (λ x. IsNotAbove x value) value (bound ∷ []) (omega (arith, ints)) (All-cons (λ x. IsNotAbove x value) bound [] high (All-nil (λ x. IsNotAbove x value)));
            reached = (value, Contains-head value (bound ∷ []), refl);
          });
      upper_reduced = reduced;
      ending = (λ _. refl, λ _. refl);
      sums = All-append Fits (weight_sums k) (value_sums g k ++ ([] ++ tree_sums g [] [] (node_of (Closed (Water level why))))) weights
          (All-append Fits (value_sums g k) (tree_sums g [] [] (node_of (Closed (Water level why)))) values (subst (λ (t : Node). All Fits (tree_sums g [] [] t)) (sym same) (All-nil Fits)));
    }
