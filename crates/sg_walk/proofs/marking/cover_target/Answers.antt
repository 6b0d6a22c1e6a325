use Rattle.std.proofs.Common.{rules, arith, ◌≡◌, ◌∙◌, ◌≤◌, ◌-◌, eqb, ℕ, Bool, false, cond, length, ap, refl, List, ℤ, ◌+ℤ◌, pos, to_z, of_z}
use Rattle.std.specs.Int.{w128}
use Rattle.std.specs.Prelude.{FitsSigned, slice_set}
use Rattle.std.proofs.lemmas.Int.{ints, to_z-of_z}
use Rattle.sg_walk.specs.Marks.{IsMarkable, has_mark, mark_of}
use Rattle.sg_walk.specs.Weights.{sum_where}
use Rattle.sg_model.specs.Sums.{nth}
use Rattle.sg_walk.proofs.Marked.{added-one, has-added}
use Rattle.sg_walk.proofs.Summed.{sum_fits, sum_where-more}
use Rattle.sg_walk.proofs.marking.cover_target.Goals as goal

-- the sum with the weight of a target that wasn't marked
sum-now : (ws : List ℤ) (marks : List ℕ) (x r : ℕ) → length ws ≤ 10000 → length marks ≡ 10000 → 1 ≤ x → x ≤ length ws → 1 ≤ r → mark_of marks x ≡ 0
    → sum_where ws (has_mark (slice_set marks (x - 1) r)) (length ws) ≡ sum_where ws (has_mark marks) (length ws) +ℤ nth ws x (pos 0)
sum-now ws marks x r few long low high positive none =
    let known : IsMarkable x = record { at_least = low; at_most = omega (arith, high, few) } in
    let adds = added-one marks x r known long none in
    let more = sum_where-more ws (has_mark marks) (has_mark (slice_set marks (x - 1) r)) (length ws) x low high
    (λ t from to. has-added (λ s. eqb x s) r marks (slice_set marks (x - 1) r) positive adds t (record { at_least = from; at_most = omega (arith, to, few) })) in
    let free : has_mark marks x ≡ false = rw none refl in
    more ∙ ap (λ (b : Bool). sum_where ws (has_mark marks) (length ws) +ℤ cond b (pos 0) (nth ws x (pos 0))) free

pub overflow_add-result : goal.overflow_add-result
overflow_add-result c =
    let ws = c.args.weights.now in
    let now = slice_set c.args.marks.now (c.args.t - 1) c.args.r in
    let s : to_z w128 (of_z w128 c.args.covered) ≡ c.args.covered = search (rules, to_z-of_z) in
    let w : to_z w128 (of_z w128 c.weight_of.result) ≡ c.weight_of.result = search (rules, to_z-of_z) in
    let none : mark_of c.args.marks.now c.args.t ≡ 0 = c.if-marks-i-eq0.true in
    let is = sum-now ws c.args.marks.now c.args.t c.args.r c.requires.few (omega arith) c.requires.known.at_least c.requires.known.at_most c.requires.positive none in
    let fits = sum_fits (has_mark now) ws c.requires.sized (length ws) (omega arith) in
    omega (arith, ints, s, w, is, fits, c.requires.sum, c.weight_of.ensures)

pub returns-then-marks-i-eq0-clause-sum : goal.returns-then-marks-i-eq0-clause-sum
returns-then-marks-i-eq0-clause-sum c =
    let ws = c.args.weights.now in
    let now = slice_set c.args.marks.now (c.args.t - 1) c.args.r in
    let s : to_z w128 (of_z w128 c.args.covered) ≡ c.args.covered = search (rules, to_z-of_z) in
    let w : to_z w128 (of_z w128 c.weight_of.result) ≡ c.weight_of.result = search (rules, to_z-of_z) in
    let none : mark_of c.args.marks.now c.args.t ≡ 0 = c.if-marks-i-eq0.true in
    let is = sum-now ws c.args.marks.now c.args.t c.args.r c.requires.few (omega arith) c.requires.known.at_least c.requires.known.at_most c.requires.positive none in
    let fits : FitsSigned w128 (sum_where ws (has_mark now) (length ws)) = sum_fits (has_mark now) ws c.requires.sized (length ws) (omega arith) in
    let sum : to_z w128 (of_z w128 c.args.covered) +ℤ to_z w128 (of_z w128 c.weight_of.result) ≡ sum_where ws (has_mark now) (length ws) = omega (arith, ints, s, w, is, c.requires.sum, c.weight_of.ensures) in
    rw sum (simp to_z-of_z)
