use Rattle.std.proofs.Common.{rules, arith, sym, ◌∙◌, ◌≡◌, ◌<◌, length, to_z, of_z, get_or, pos, ℤ, ℕ}
use Rattle.std.specs.Int.{w128}
use Rattle.std.specs.Prelude.{FitsSigned}
use Rattle.std.proofs.lemmas.Int.{ints}
use Rattle.sg_split.proofs.Firsts.{less_test}
use Rattle.sg_split.proofs.Tickets.{apart_last, apart_next, cuts_are_moments}
use Rattle.sg_split.proofs.laying.lay_all.Goals as goal

pub lay-requires-clause-cut : goal.lay-requires-clause-cut
lay-requires-clause-cut c =
    let i : ℕ = c.loop-cut.cut-index in
    let lt : i < length c.args.cuts.now = omega (arith, c.loop-cut-test.true) in
    let f : FitsSigned w128 (get_or c.args.cuts.now i (pos 0)) = search rules in
    let is = cuts_are_moments c.args.line.now c.args.cuts.now c.requires.line c.requires.cuts i (pos 0) lt in
    record { low = omega (arith, ints, is.low, f); high = omega (arith, ints, is.high, f) }

pub lay-requires-clause-later : goal.lay-requires-clause-later
lay-requires-clause-later c =
    less_test c.loop-cut.laid.last.moment (to_z w128 (of_z w128 (get_or c.args.cuts.now c.loop-cut.cut-index (pos 0)))) (sym c.if-is_later.true ∙ c.is_later.ensures)

pub lay-requires-clause-apart : goal.lay-requires-clause-apart
lay-requires-clause-apart c =
    let i : ℕ = c.loop-cut.cut-index in
    let lt : i < length c.args.cuts.now = omega (arith, c.loop-cut-test.true) in
    let f : FitsSigned w128 (get_or c.args.cuts.now i (pos 0)) = search rules in
    let y : ℤ = to_z w128 (of_z w128 (get_or c.args.cuts.now i (pos 0))) in
    let e : y ≡ get_or c.args.cuts.now i (pos 0) = omega (arith, ints, f) in
    apart_next c.args.line.now.ends c.args.cuts.now c.loop-cut.laid.last.moment i c.requires.cuts c.loop-cut.invariant.passed y lt e

pub returns-clause-last : goal.returns-clause-last
returns-clause-last c =
    apart_last c.args.line.now.ends c.args.cuts.now c.loop-cut.laid.last.moment c.args.line.now.moments c.requires.cuts (λ j lt. c.loop-cut.invariant.passed j (omega (arith, lt, c.loop-cut-test.false, c.loop-cut.auto)))
