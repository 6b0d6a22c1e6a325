use Rattle.std.proofs.Common.{◌≡◌, ◌≤ℤ◌, ℕ, List, length, arith, below_more, refl, rules, of_z, to_z}
use Rattle.std.specs.Int.{w128}
use Rattle.std.proofs.lemmas.Int.{ints, to_z-of_z}
use Rattle.sg_plays_fact.specs.Testing.{play_sum}
use Rattle.sg_plays_fact.proofs.Few.{each-row}
use Rattle.sg_plays_fact.proofs.rows.rows_hold.Goals as goal

pub loop-i-preserved : goal.loop-i-preserved
loop-i-preserved c =
    let e : to_z w128 (of_z w128 c.args.stated.now.mu) ≡ c.args.stated.now.mu = search (rules, to_z-of_z) in
    let f : to_z w128 (of_z w128 c.play_sum.result) ≡ c.play_sum.result = search (rules, to_z-of_z) in
    below_more _ _ c.loop-i.invariant (omega (arith, ints, e, f, c.if-stated-play_sum.false, c.play_sum.ensures))

pub returns : goal.returns
returns c =
    let g = c.args.game.now in
    let rows : c.rows-i-end.result ≡ length g.goals = rw c.requires.matrix at c.rows-i-end.ensures.count in
    let P : List ℕ → Type 0 = λ play. play_sum g c.args.fix.now c.args.stated.now.rho c.args.marks.now play ≤ℤ c.args.stated.now.mu in
    (λ _. each-row g P c.requires.matrix (λ k lt. c.loop-i.invariant k (omega (arith, rows))), λ _. refl)
