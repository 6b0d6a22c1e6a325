use Rattle.std.proofs.Common.{◌+◌, ℤ, subst, sym, arith, refl}
use Rattle.std.specs.Prelude.{◌≤ℤ◌, ◌*ℤ◌}
use Rattle.sg_check.proofs.Watered.{level-none, level-some, none-more}
use Rattle.sg_check.proofs.water.has_target.Goals as goal

pub returns-then-is_high : goal.returns-then-is_high
returns-then-is_high c =
    let count = rw c.requires.fillable.security at c.targets-i-end.ensures.count in
    let h = c.if-is_high.ensures.0 refl in
    let le = subst (λ (u : ℤ). c.args.level.now.num ≤ℤ (u *ℤ c.args.level.now.den)) c.pays_of.ensures.uncovered h in
    (λ _. level-some c.args.game.now c.args.level.now.num c.args.level.now.den (c.loop-i.i + 1) (omega arith) (omega (arith, c.loop-i-test.true, count)) le, λ _. refl)

pub loop-i-preserved : goal.loop-i-preserved
loop-i-preserved c =
    none-more c.args.game.now c.args.level.now.num c.args.level.now.den c.loop-i.i c.loop-i.invariant
    (λ le. let f = c.if-is_high.ensures.1 (subst (λ (u : ℤ). c.args.level.now.num ≤ℤ (u *ℤ c.args.level.now.den)) (sym c.pays_of.ensures.uncovered) le) in cc)

pub returns : goal.returns
returns c =
    let count = rw c.requires.fillable.security at c.targets-i-end.ensures.count in
    (λ f. cc, λ some. absurd (some (level-none c.args.game.now c.args.level.now.num c.args.level.now.den (λ t low high. c.loop-i.invariant t low (omega (arith, high, c.loop-i-test.false, count))))))
