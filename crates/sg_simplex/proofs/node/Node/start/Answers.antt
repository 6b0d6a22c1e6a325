use Rattle.sg_simplex.proofs.Turned.{kept_start}
use Rattle.sg_simplex.proofs.node.Node.start.Goals as goal

pub invariant_of-result : goal.invariant_of-result
invariant_of-result g c =
    kept_start (g.F.Family.program c.args.family) c.rows-height.result c.in_ok-state.state c.args.pool.now.width _ _ c.rows-height.ensures.count c.in_ok-state.ensures.started c.rows-height.ensures.sized c.rows-height.ensures.bounded c.in_ok-entries.ensures c.in_ok-products.ensures
