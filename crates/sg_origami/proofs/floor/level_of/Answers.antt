use Rattle.std.proofs.Common.{arith, sym, ◌∙◌, ◌≡◌, true, false, pos, ◌*ℤ◌}
use Rattle.std.specs.Int.{w128}
use Rattle.std.specs.Prelude.{FitsSigned, int_le}
use Rattle.std.proofs.lemmas.Int.{ints, to_z-of_z}
use Rattle.sg_origami.proofs.Reachable.{reachable_spent, reachable_floor}
use Rattle.sg_origami.proofs.Reasons.{no_floor, first_floor}
use Rattle.sg_model.specs.Games.{payoff}
use Rattle.sg_model.proofs.Ints.{v, n, times, same_by}
use Rattle.sg_origami.proofs.floor.level_of.Goals as goal

pub returns-then-is_reached-clause-water : goal.returns-then-is_reached-clause-water
returns-then-is_reached-clause-water c =
    let f = c.floor_of-floor.ensures in
    let a : FitsSigned w128 c.floor_of-floor.result.pay = omega (arith, ints, f.range.at_least, f.range.at_most) in
    let p = (payoff c.args.game.now 1 c.floor_of-floor.result.target).ac in
    let one : p *ℤ pos 1 ≡ p = same_by (times (v p) (n 1)) (v p) (omega arith) in
    rw c.of.ensures (simp to_z-of_z (record {
      positive = omega (arith, ints);
      level = record { from_one = f.floor.from_one; in_range = f.floor.in_range; pays = one ∙ sym f.floor.pays };
    }))

pub returns-then-is_reached-clause-reachable : goal.returns-then-is_reached-clause-reachable
returns-then-is_reached-clause-reachable c =
    let f = c.floor_of-floor.ensures in
    let s = c.spent_of-spent.ensures in
    let a : FitsSigned w128 c.floor_of-floor.result.pay = omega (arith, ints, f.range.at_least, f.range.at_most) in
    let e = simp to_z-of_z at c.is_reached.ensures.reached in
    let t : int_le c.spent_of-spent.result.num (c.floor_of-floor.result.pay *ℤ c.spent_of-spent.result.den) ≡ true = sym e ∙ c.if-is_reached.true in
    rw c.of.ensures (simp to_z-of_z (reachable_floor c.args.game.now c.requires.fillable c.spent_of-spent.result.num c.spent_of-spent.result.den s c.is_reached.ensures.range.den.at_least c.floor_of-floor.result.target c.floor_of-floor.result.pay f.floor (omega (arith, ints, t))))

pub returns-then-is_reached-clause-reason : goal.returns-then-is_reached-clause-reason
returns-then-is_reached-clause-reason c =
    let f = c.floor_of-floor.ensures in
    let a : FitsSigned w128 c.floor_of-floor.result.pay = omega (arith, ints, f.range.at_least, f.range.at_most) in
    rw c.of.ensures (simp to_z-of_z (first_floor c.args.game.now c.floor_of-floor.result.target c.floor_of-floor.result.pay f.floor))

pub returns-else-is_reached-clause-reachable : goal.returns-else-is_reached-clause-reachable
returns-else-is_reached-clause-reachable c =
    let f = c.floor_of-floor.ensures in
    let s = c.spent_of-spent.ensures in
    let a : FitsSigned w128 c.floor_of-floor.result.pay = omega (arith, ints, f.range.at_least, f.range.at_most) in
    let e = simp to_z-of_z at c.is_reached.ensures.reached in
    let t : int_le c.spent_of-spent.result.num (c.floor_of-floor.result.pay *ℤ c.spent_of-spent.result.den) ≡ false = sym e ∙ c.if-is_reached.false in
    reachable_spent c.args.game.now c.spent_of-spent.result.num c.spent_of-spent.result.den s c.is_reached.ensures.range.den.at_least c.floor_of-floor.result.target c.floor_of-floor.result.pay f.floor (omega (arith, ints, t))

pub returns-else-is_reached-clause-reason : goal.returns-else-is_reached-clause-reason
returns-else-is_reached-clause-reason c =
    let f = c.floor_of-floor.ensures in
    let s = c.spent_of-spent.ensures in
    let a : FitsSigned w128 c.floor_of-floor.result.pay = omega (arith, ints, f.range.at_least, f.range.at_most) in
    let e = simp to_z-of_z at c.is_reached.ensures.reached in
    let t : int_le c.spent_of-spent.result.num (c.floor_of-floor.result.pay *ℤ c.spent_of-spent.result.den) ≡ false = sym e ∙ c.if-is_reached.false in
    no_floor c.args.game.now c.spent_of-spent.result.num c.spent_of-spent.result.den c.is_reached.ensures.range.den.at_least c.floor_of-floor.result.target c.floor_of-floor.result.pay f.floor (omega (arith, ints, t))
