use Rattle.std.proofs.Common.{Some}
use Rattle.sg_bounds.specs.Leaves.{root_bound}
use Rattle.sg_bounds.specs.Trees.{node_of}
use Rattle.sg_upper.proofs.Walked.{tree-stated, upper-is}
use Rattle.sg_upper.proofs.leaves.upper.Goals as goal

pub returns : goal.returns
returns c =
    let g = c.args.game.now in
    upper-is g c.args.value c.args.caps.now (node_of c.args.tree.now) c.raised_by_node.result c.den-lowest.ensures.reduced c.requires.tree.root
    (c.raised_by_node.ensures g c.args.caps.now (Some (root_bound g)) c.rests_of-rests.ensures (tree-stated g (node_of c.args.tree.now) c.requires.tree) (c.root_bound.ensures c.args.caps.now c.rests_of-rests.ensures))
