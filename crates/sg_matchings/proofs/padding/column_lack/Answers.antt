use Rattle.std.proofs.Common.{◌≡◌, ◌+◌, ◌<◌, ℤ, ℕ, pos, ◌-ℤ◌, ◌≤ℤ◌, arith, length, to_z, of_z}
use Rattle.std.specs.Int.{w128}
use Rattle.std.proofs.lemmas.Int.{ints}
use Rattle.sg_linear.specs.Sums.{sum_below}
use Rattle.sg_matchings.specs.Tables.{cell}
use Rattle.sg_matchings.proofs.PadSteps.{left_within, sum_below-next}
use Rattle.sg_matchings.proofs.padding.column_lack.Goals as goal

pub overflow_sub-lack : goal.overflow_sub-lack
overflow_sub-lack c =
    let lack : ℤ = to_z w128 c.loop-row.lack-bits in
    let v : ℤ = to_z w128 (of_z w128 c.count_at-lack.result) in
    let most : ℤ = to_z w128 (of_z w128 c.args.most) in
    let f : ℕ → ℤ = λ x. cell c.args.counts.now x c.args.column in
    let from : (x : ℕ) → x < length c.args.counts.now → pos 0 ≤ℤ f x = (λ x lt. c.requires.counts.nonnegative x c.args.column lt c.requires.column) in
    let is_v : v ≡ c.count_at-lack.result = omega (arith, ints, c.count_at-lack.type_inv) in
    let is_most : most ≡ c.args.most = omega (arith, ints, c.ranges.most) in
    let up = left_within (length c.args.counts.now) c.loop-row.row f most lack c.loop-row-test.true from (omega (arith, ints, is_most, c.requires.counts.columns_within c.args.column c.requires.column)) c.loop-row.invariant in
    let low : pos 0 ≤ℤ f c.loop-row.row = from c.loop-row.row c.loop-row-test.true in
    omega (arith, ints, up, low, is_v, c.count_at-lack.ensures, c.loop-row.auto.lack-fits)

pub loop-row-preserved : goal.loop-row-preserved
loop-row-preserved c =
    let lack : ℤ = to_z w128 c.loop-row.lack-bits in
    let v : ℤ = to_z w128 (of_z w128 c.count_at-lack.result) in
    let most : ℤ = to_z w128 (of_z w128 c.args.most) in
    let f : ℕ → ℤ = λ x. cell c.args.counts.now x c.args.column in
    let from : (x : ℕ) → x < length c.args.counts.now → pos 0 ≤ℤ f x = (λ x lt. c.requires.counts.nonnegative x c.args.column lt c.requires.column) in
    let is_v : v ≡ c.count_at-lack.result = omega (arith, ints, c.count_at-lack.type_inv) in
    let is_most : most ≡ c.args.most = omega (arith, ints, c.ranges.most) in
    let up = left_within (length c.args.counts.now) c.loop-row.row f most lack c.loop-row-test.true from (omega (arith, ints, is_most, c.requires.counts.columns_within c.args.column c.requires.column)) c.loop-row.invariant in
    let low : pos 0 ≤ℤ f c.loop-row.row = from c.loop-row.row c.loop-row-test.true in
    let next : ℤ = to_z w128 (of_z w128 (lack -ℤ v)) in
    let is_next : next ≡ lack -ℤ v = omega (arith, ints, up, low, is_v, c.count_at-lack.ensures, c.loop-row.auto.lack-fits) in
    let all : next ≡ most -ℤ sum_below (c.loop-row.row + 1) f = omega (arith, ints, is_next, is_v, c.count_at-lack.ensures, c.loop-row.invariant, sum_below-next c.loop-row.row f) in
    all
