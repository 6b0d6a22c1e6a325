use Rattle.std.proofs.Common.{◌≡◌, ◌+◌, ◌<◌, ℤ, ℕ, pos, ◌-ℤ◌, ◌≤ℤ◌, arith, to_z, of_z}
use Rattle.std.specs.Int.{w128}
use Rattle.std.proofs.lemmas.Int.{ints}
use Rattle.sg_linear.specs.Sums.{sum_below}
use Rattle.sg_matchings.specs.Tables.{cell}
use Rattle.sg_matchings.proofs.PadSteps.{left_within, sum_below-next}
use Rattle.sg_matchings.proofs.padding.row_lack.Goals as goal

pub overflow_sub-lack : goal.overflow_sub-lack
overflow_sub-lack c =
    let lack : ℤ = to_z w128 c.loop-column.lack-bits in
    let v : ℤ = to_z w128 (of_z w128 c.count_at-lack.result) in
    let most : ℤ = to_z w128 (of_z w128 c.args.most) in
    let f : ℕ → ℤ = λ x. cell c.args.counts.now c.args.row x in
    let from : (x : ℕ) → x < c.args.width → pos 0 ≤ℤ f x = (λ x lt. c.requires.counts.nonnegative c.args.row x c.requires.row lt) in
    let is_v : v ≡ c.count_at-lack.result = omega (arith, ints, c.count_at-lack.type_inv) in
    let is_most : most ≡ c.args.most = omega (arith, ints, c.ranges.most) in
    let up = left_within c.args.width c.loop-column.column f most lack c.loop-column-test.true from (omega (arith, ints, is_most, c.requires.counts.rows_within c.args.row c.requires.row)) c.loop-column.invariant in
    let low : pos 0 ≤ℤ f c.loop-column.column = from c.loop-column.column c.loop-column-test.true in
    omega (arith, ints, up, low, is_v, c.count_at-lack.ensures, c.loop-column.auto.lack-fits)

pub loop-column-preserved : goal.loop-column-preserved
loop-column-preserved c =
    let lack : ℤ = to_z w128 c.loop-column.lack-bits in
    let v : ℤ = to_z w128 (of_z w128 c.count_at-lack.result) in
    let most : ℤ = to_z w128 (of_z w128 c.args.most) in
    let f : ℕ → ℤ = λ x. cell c.args.counts.now c.args.row x in
    let from : (x : ℕ) → x < c.args.width → pos 0 ≤ℤ f x = (λ x lt. c.requires.counts.nonnegative c.args.row x c.requires.row lt) in
    let is_v : v ≡ c.count_at-lack.result = omega (arith, ints, c.count_at-lack.type_inv) in
    let is_most : most ≡ c.args.most = omega (arith, ints, c.ranges.most) in
    let up = left_within c.args.width c.loop-column.column f most lack c.loop-column-test.true from (omega (arith, ints, is_most, c.requires.counts.rows_within c.args.row c.requires.row)) c.loop-column.invariant in
    let low : pos 0 ≤ℤ f c.loop-column.column = from c.loop-column.column c.loop-column-test.true in
    let next : ℤ = to_z w128 (of_z w128 (lack -ℤ v)) in
    let is_next : next ≡ lack -ℤ v = omega (arith, ints, up, low, is_v, c.count_at-lack.ensures, c.loop-column.auto.lack-fits) in
    let all : next ≡ most -ℤ sum_below (c.loop-column.column + 1) f = omega (arith, ints, is_next, is_v, c.count_at-lack.ensures, c.loop-column.invariant, sum_below-next c.loop-column.column f) in
    all
