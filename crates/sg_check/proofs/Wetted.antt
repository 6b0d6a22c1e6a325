-- The tests of a root that is a water level.
use Rattle.std.proofs.Common.{◌≡◌, ◌∙◌, ℕ, ◌+◌, ◌-◌, ◌^◌, min, true, List, [], ◌∷◌, ◌++◌, Some, Ok, ap, subst, sym, refl, arith}
use Rattle.sg_model.specs.Games.{Game}
use Rattle.sg_model.specs.Limits.{is_scaled}
use Rattle.sg_frac.specs.Fractions.{Fraction, IsReduced}
use Rattle.sg_tree.specs.declared.report.Report.{Report}
use Rattle.sg_tree.specs.declared.fact.Fact.TheVariants.{Plays, Cover, Water}
use Rattle.sg_bounds.specs.Checking.{AllPass, IsWaterRoot, root_stops, tree_lines}
use Rattle.sg_bounds.specs.Leaves.{tree_bounds_of}
use Rattle.sg_bounds.specs.Trees.{Node, closed, node_of, split, unproved}
use Rattle.sg_check.specs.Answering.{IsGreatestBound, RootAnswers, ShowsOnly, WaterAnswers, held_line}
use Rattle.sg_check.proofs.Tops.{top-start}

water_line : (t : Node) → IsWaterRoot t → tree_lines t ≡ 1
water_line unproved h = absurd h
water_line (closed (Plays rho mu marks)) h = absurd h
water_line (closed (Cover rho mu lines)) h = absurd h
water_line (closed (Water level why)) h = refl
water_line (split l base parts) h = absurd h

-- the root's own test says that it is a water level
pub root_is_water : (g : Game) (r : Report) (n : ℕ) → is_scaled g ≡ true → AllPass g r (root_stops g n (node_of r.tree)) → IsWaterRoot (node_of r.tree)
root_is_water g r n scaled h = rw scaled at h.0

pub water-passes : (g : Game) (r : Report) (n line after : ℕ) (value bound best : Fraction) → line ≡ held_line n → is_scaled g ≡ true → after ≡ min (line + 1) (2 ^ 64 - 1)
    → value ≡ r.value → IsReduced value → WaterAnswers g r (root_stops g n (node_of r.tree)) (tree_bounds_of g r.caps (node_of r.tree)) (Ok bound)
    → ((bounds more : List Fraction) → IsGreatestBound value bounds → ShowsOnly more (Some bound) → IsGreatestBound best (bounds ++ more))
    → RootAnswers g r n (node_of r.tree) (Ok (record { next = after; best = best }))
water-passes g r n line after value bound best e scaled f same reduced h rises =
    let start : IsGreatestBound value (r.value ∷ []) = subst (λ (v : Fraction). IsGreatestBound value (v ∷ [])) same (top-start value reduced) in
    let lines : tree_lines (node_of r.tree) ≡ 1 = water_line (node_of r.tree) (root_is_water g r n scaled h.0) in
    let next : after ≡ held_line (n + 1) = omega (arith, e, f) in
    (h.0, record { best = rises (r.value ∷ []) (tree_bounds_of g r.caps (node_of r.tree)) start h.1; next = next ∙ ap (λ (k : ℕ). held_line (n + k)) (sym lines) })
