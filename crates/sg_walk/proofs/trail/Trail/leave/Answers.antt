use Rattle.std.proofs.Common.{ℕ, List, arith, subst}
use Rattle.sg_walk.specs.Marks.{TakesMarks, is_among}
use Rattle.sg_walk.proofs.Trailed.{left}
use Rattle.sg_walk.proofs.trail.Trail.leave.Goals as goal

pub uncover-requires : goal.uncover-requires
uncover-requires c =
    let g = c.args.weighted.now.game.now in
    record { known = λ k d lt. let is = c.choice_targets.ensures.known k d lt in record { at_least = is.0; at_most = omega (arith, is.1, c.requires.weighted.one_each, c.requires.weighted.few) } }

pub returns : goal.returns
returns c before choice entered =
    let g = c.args.weighted.now.game.now in
    let takes = subst (λ (ts : List ℕ). TakesMarks c.args.self.now.marks (is_among ts) c.len-r.result c.uncover.new.marks) c.choice_targets.ensures.list c.uncover.ensures in
    left g before c.args.self.now choice c.pop-choice.new.self c.pop-choice.result c.len-r.result c.uncover.new.marks entered c.pop-choice.ensures c.len-r.ensures.count c.uncover.array_long takes
