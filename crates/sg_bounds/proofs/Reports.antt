-- An accepted report's upper bound holds, and where its bounds meet its tickets are optimal.
use Rattle.std.proofs.Common.{◌≡◌, ℕ, Bool, true, false, List, [], ℤ, pos, ◌*ℤ◌, ◌≤ℤ◌, sym, ◌∙◌, ap, refl, arith, Some, subst}
use Rattle.std.specs.List.{All}
use Rattle.std.proofs.lemmas.Int.{ints, by_lt_z}
use Rattle.std.proofs.lemmas.Bool.Decides.{when_false, when_true}
use Rattle.std.proofs.lemmas.List.Elements.{All-head, All-tail}
use Rattle.sg_frac.specs.Fractions.{Fraction}
use Rattle.sg_model.specs.Games.{Game, prior_total, resource_count}
use Rattle.sg_model.specs.Limits.{IsGame, is_scaled}
use Rattle.sg_model.specs.Commitments.{weight_total, worth}
use Rattle.sg_model.specs.Optimality.{IsUpperBound}
use Rattle.sg_model.specs.Payoffs.{IsPeopled}
use Rattle.sg_model.specs.Origami.{IsOrigami, IsWater, water_bound}
use Rattle.sg_model.proofs.Ints.{v, times, same_by, le_by, le_from, mul-le, cancel-le}
use Rattle.sg_model.proofs.Covers.{weight_total-positive}
use Rattle.sg_model.proofs.Bound.{water_bounds}
use Rattle.sg_model.proofs.Values.{prior_total-positive}
use Rattle.sg_model.proofs.Optimal.{optimal_at_bound}
use Rattle.sg_model.proofs.Promises.{peopled, origami}
use Rattle.sg_tree.specs.declared.fact.Fact.TheVariants.{Plays, Cover, Water}
use Rattle.sg_tree.specs.declared.report.Cap.{Cap}
use Rattle.sg_tree.specs.declared.report.Report.{Report}
use Rattle.sg_bounds.specs.Trees.{Node, unproved, closed, split, node_of}
use Rattle.sg_bounds.specs.Leaves.{tree_bounds_of}
use Rattle.sg_bounds.specs.Accepted.{IsAccepted, IsNotAbove, IsSame, IsSplitTree, IsWaterTree, is_optimal}
use Rattle.sg_bounds.specs.ReportLaws.{AcceptedMeans}
use Rattle.sg_bounds.proofs.Caps.{one_le_product}
use Rattle.sg_bounds.proofs.Trees.{tree_bounds}

-- an upper bound may be raised
raised : (g : Game) → IsPeopled g → (a b : Fraction) → IsUpperBound g a.num a.den → pos 1 ≤ℤ b.den → IsNotAbove a b → IsUpperBound g b.num b.den
raised g is_peopled a b bound positive below =
    record {
      positive = positive;
      bounds = λ k is_k.
          let w : ℤ = worth g k in let d : ℤ = weight_total k in let p : ℤ = prior_total g in
          let dp = one_le_product d p (weight_total-positive k is_k.some is_k.positive) (prior_total-positive g is_peopled) in
          let x = mul-le (w *ℤ a.den) ((a.num *ℤ d) *ℤ p) b.den (bound.bounds k is_k) (omega (arith, ints, positive)) in
          let y = mul-le (a.num *ℤ b.den) (b.num *ℤ a.den) (d *ℤ p) below (omega (arith, ints, dp)) in
          let e = v a.den in let q = v a.num in let z = v b.den in let u = v b.num in let i = v d in let j = v p in
          cancel-le (w *ℤ b.den) ((b.num *ℤ d) *ℤ p) a.den
          (le_by (times (times (v w) z) e) (times (times (times u i) j) e) (omega (arith, le_from (times (times (v w) e) z) (times (times (times q i) j) z) x, le_from (times (times q z) (times i j)) (times (times u e) (times i j)) y)))
          bound.positive;
    }

water_upper : (g : Game) → IsPeopled g → IsOrigami g → (caps : List Cap) (t : Node) (upper : Fraction) → pos 1 ≤ℤ upper.den
    → IsWaterTree g t → All (λ (x : Fraction). IsNotAbove x upper) (tree_bounds_of g caps t) → IsUpperBound g upper.num upper.den
water_upper g is_peopled o caps unproved upper positive h all = absurd h
water_upper g is_peopled o caps (split l base parts) upper positive h all = absurd h
water_upper g is_peopled o caps (closed (Plays rho mu marks)) upper positive h all = absurd h
water_upper g is_peopled o caps (closed (Cover rho mu lines)) upper positive h all = absurd h
water_upper g is_peopled o caps (closed (Water level why)) upper positive h all =
    let b : Fraction = record { num = water_bound g level.num level.den; den = level.den *ℤ g.scale } in
    raised g is_peopled b upper (water_bounds g o level.num level.den why h) positive (All-head (λ (x : Fraction). IsNotAbove x upper) b [] all)

upper_bound : (g : Game) → IsGame g → (r : Report) → IsAccepted g r → IsUpperBound g r.upper.num r.upper.den
upper_bound g is_game r a = by_form (is_scaled g) refl
  where
    tree : Node
    tree = node_of r.tree

    positive : pos 1 ≤ℤ r.upper.den
    positive = let q = a.upper_reduced in q.positive

    all : All (λ (x : Fraction). IsNotAbove x r.upper) (tree_bounds_of g r.caps (node_of r.tree))
    all = let q = a.upper in All-tail (λ (x : Fraction). IsNotAbove x r.upper) r.value (tree_bounds_of g r.caps (node_of r.tree)) q.bounds

    by_form : (b : Bool) → is_scaled g ≡ b → IsUpperBound g r.upper.num r.upper.den
    by_form true e = let o = origami g is_game e in water_upper g (peopled g is_game) o r.caps (node_of r.tree) r.upper positive (when_true (IsWaterTree g (node_of r.tree)) (IsSplitTree g (node_of r.tree)) e a.tree) all
    by_form false e = tree_bounds g (peopled g is_game) r.caps a.caps (node_of r.tree) (when_false (IsWaterTree g (node_of r.tree)) (IsSplitTree g (node_of r.tree)) e a.tree) r.upper positive all

-- tickets whose value is the upper bound meet it
meets_upper : (w d p vn vd un ud : ℤ) → pos 1 ≤ℤ vd → w *ℤ vd ≡ (vn *ℤ d) *ℤ p → vn *ℤ ud ≡ un *ℤ vd → w *ℤ ud ≡ (un *ℤ d) *ℤ p
meets_upper w d p vn vd un ud positive e f =
    let a : (w *ℤ ud) *ℤ vd ≡ (w *ℤ vd) *ℤ ud = same_by (times (times (v w) (v ud)) (v vd)) (times (times (v w) (v vd)) (v ud)) (omega arith) in
    let b : (w *ℤ vd) *ℤ ud ≡ ((vn *ℤ d) *ℤ p) *ℤ ud = ap (λ (z : ℤ). z *ℤ ud) e in
    let c : ((vn *ℤ d) *ℤ p) *ℤ ud ≡ (vn *ℤ ud) *ℤ (d *ℤ p) = same_by (times (times (times (v vn) (v d)) (v p)) (v ud)) (times (times (v vn) (v ud)) (times (v d) (v p))) (omega arith) in
    let h : (vn *ℤ ud) *ℤ (d *ℤ p) ≡ (un *ℤ vd) *ℤ (d *ℤ p) = ap (λ (z : ℤ). z *ℤ (d *ℤ p)) f in
    let i : (un *ℤ vd) *ℤ (d *ℤ p) ≡ ((un *ℤ d) *ℤ p) *ℤ vd = same_by (times (times (v un) (v vd)) (times (v d) (v p))) (times (times (times (v un) (v d)) (v p)) (v vd)) (omega arith) in
    let whole : (w *ℤ ud) *ℤ vd ≡ ((un *ℤ d) *ℤ p) *ℤ vd = a ∙ (b ∙ (c ∙ (h ∙ i))) in
    let low = cancel-le (w *ℤ ud) ((un *ℤ d) *ℤ p) vd (omega (arith, ints, whole)) positive in
    let high = cancel-le ((un *ℤ d) *ℤ p) (w *ℤ ud) vd (omega (arith, ints, whole)) positive in
    omega (arith, ints, low, high)

pub accepted_means : AcceptedMeans
accepted_means g is_game r a =
    let bound = upper_bound g is_game r a in
    let q = a.value in
    let k = r.tickets.tickets in
    let top = a.upper in
    let below : IsNotAbove r.value r.upper = All-head (λ (x : Fraction). IsNotAbove x r.upper) r.value (tree_bounds_of g r.caps (node_of r.tree)) top.bounds in
    let ending = a.ending in
    record {
      tickets = a.tickets;
      value = a.value;
      reduced = a.value_reduced;
      upper = bound;
      optimal = λ yes. optimal_at_bound g k a.tickets r.upper.num r.upper.den bound
          (meets_upper (worth g k) (weight_total k) (prior_total g) r.value.num r.value.den r.upper.num r.upper.den q.positive q.same (ending.0 yes));
      gap = λ gap. by_lt_z (r.value.num *ℤ r.upper.den) (r.upper.num *ℤ r.value.den) (λ lt. lt)
          (λ le. let same : IsSame r.value r.upper = omega (arith, ints, below, le) in let yes : is_optimal r.ending ≡ true = ending.1 same in absurd (let e : true ≡ false = sym yes ∙ gap in cc));
    }
