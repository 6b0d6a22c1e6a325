use Rattle.std.proofs.Common.{◌≡◌, ◌∙◌, ◌+◌, ℕ, List, arith, length, rules, subst, sym, to_z, of_z}
use Rattle.std.specs.Int.{w128}
use Rattle.std.proofs.lemmas.Int.{to_z-of_z}
use Rattle.sg_walk.specs.Marks.{AddsMarks, IsEntered, is_among, targets_by}
use Rattle.sg_walk.proofs.Trailed.{marked-sum, still-marked}
use Rattle.sg_walk.proofs.trail.Trail.enter.Goals as goal
use Rattle.sg_walk.proofs.trail.Trail.enter.Goals.{After-cover}

-- one more choice
entered : (c : After-cover) → IsEntered c.args.weighted.now.game.now c.args.self.now c.args.choice (record { play = c.push.new.self; marks = c.cover.new.marks })
entered c =
    let g = c.args.weighted.now.game.now in
    let k : ℕ = length c.args.self.now.play in
    let r : c.len.result + 1 ≡ k + 1 = omega (arith, c.len.ensures.count) in
    let adds = subst (λ (ts : List ℕ). AddsMarks c.args.self.now.marks (is_among ts) (c.len.result + 1) c.cover.new.marks) c.choice_targets-targets.ensures.list c.cover.ensures.marked in
    record {
      play = c.push.ensures;
      marks = subst (λ (n : ℕ). AddsMarks c.args.self.now.marks (is_among (targets_by g n c.args.choice)) n c.cover.new.marks) r adds;
      few = c.requires.marked.few;
      long = omega arith;
    }

pub cover-requires-clause-sum : goal.cover-requires-clause-sum
cover-requires-clause-sum c =
    let is : to_z w128 (of_z w128 c.args.covered) ≡ c.args.covered = search (rules, to_z-of_z) in
    is ∙ c.requires.sum ∙ sym (marked-sum c.args.weighted.now.game.now c.args.weighted.now.weights.now c.args.self.now c.requires.weighted c.requires.marked)

pub returns-clause-marked : goal.returns-clause-marked
returns-clause-marked c =
    still-marked c.args.weighted.now.game.now c.args.self.now _ c.args.choice c.requires.marked (entered c)

pub returns-clause-sum : goal.returns-clause-sum
returns-clause-sum c =
    let is : to_z w128 (of_z w128 c.cover.result) ≡ c.cover.result = search (rules, to_z-of_z) in
    let marked = still-marked c.args.weighted.now.game.now c.args.self.now (record { play = c.push.new.self; marks = c.cover.new.marks }) c.args.choice c.requires.marked (entered c) in
    is ∙ c.cover.ensures.sum ∙ marked-sum c.args.weighted.now.game.now c.args.weighted.now.weights.now (record { play = c.push.new.self; marks = c.cover.new.marks }) c.requires.weighted marked
