use Rattle.std.proofs.Common.{◌≡◌, ℕ, ◌+◌, ◌-◌, arith}
use Rattle.std.specs.Int.{w128}
use Rattle.std.specs.Prelude.{FitsSigned}
use Rattle.std.proofs.lemmas.Int.{ints}
use Rattle.sg_commit_tests.proofs.Patrols.{one_more}
use Rattle.sg_commit_tests.proofs.wraps.left.Goals as goal

pub returns-in_default-clause-left : goal.returns-in_default-clause-left
returns-in_default-clause-left c =
    let count : FitsSigned w128 c.args.count = c.ranges.count in
    let tickets : FitsSigned w128 c.args.tickets = c.ranges.tickets in
    let p : ℕ = c.args.room.now.patrols in
    let some : p ≡ (p - 1) + 1 = omega (arith, c.in_default) in
    omega (arith, ints, one_more p (p - 1) c.args.tickets some, c.requires.count.at_least, c.requires.count.at_most, c.requires.room.at_least, c.requires.room.at_most, c.if-count-room.false)
