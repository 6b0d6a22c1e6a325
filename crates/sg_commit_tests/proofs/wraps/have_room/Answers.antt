use Rattle.std.proofs.Common.{rules, ◌≡◌, ap, arith, drop, slice_index_or, List, ℕ, ℤ, pos, ◌+ℤ◌, ◌*ℤ◌, ◌≤ℤ◌}
use Rattle.std.specs.Int.{w128}
use Rattle.std.specs.Prelude.{FitsSigned}
use Rattle.std.proofs.lemmas.Int.{ints, to_z-of_z}
use Rattle.std.proofs.lemmas.List.{drop_all}
use Rattle.sg_model.specs.Sums.{total}
use Rattle.sg_model.proofs.Ints.{product_nonneg}
use Rattle.sg_commit_tests.proofs.Patrols.{total_more}
use Rattle.sg_commit_tests.proofs.wraps.have_room.Goals as goal

pub loop-count-preserved : goal.loop-count-preserved
loop-count-preserved c =
    let counts : List ℤ = c.args.counts.now in
    let i : ℕ = c.loop-count.count-index in
    let f : FitsSigned w128 (slice_index_or counts i (pos 0)) = search rules in
    let cut = total_more counts i c.loop-count-test.true in
    record {
      room = c.in-Some.ensures.room;
      all = omega (arith, ints, f, cut, c.in-Some.ensures.left, c.loop-count.invariant.all);
    }

pub returns : goal.returns
returns c = λ _.
    let counts : List ℤ = c.args.counts.now in
    let i : ℕ = c.loop-count.count-index in
    let p : ℕ = c.loop-count.room.patrols in
    let fits : FitsSigned w128 c.args.tickets = c.ranges.tickets in
    let rest : total (λ (count : ℤ). count) (drop i counts) ≡ pos 0 = ap (total (λ (count : ℤ). count)) (drop_all i counts c.loop-count-test.false) in
    let all : ((pos p *ℤ c.args.tickets) +ℤ c.loop-count.room.tickets) +ℤ total (λ (count : ℤ). count) counts ≡ (pos c.args.patrols *ℤ c.args.tickets) +ℤ total (λ (count : ℤ). count) (drop i counts) = simp to_z-of_z at c.loop-count.invariant.all in
    let held : pos 0 ≤ℤ (pos p *ℤ c.args.tickets) = product_nonneg (pos p) c.args.tickets (omega (arith, ints)) (omega (arith, ints, c.requires.positive)) in
    omega (arith, ints, rest, all, held, c.loop-count.invariant.room.at_least)
