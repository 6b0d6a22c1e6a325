use Rattle.sg_simplex_tests.proofs.Held.{is_bounded, sized, table-by}
use Rattle.sg_simplex_tests.proofs.table.TableFamily.rows.Goals as goal

pub returns-clause-sized : goal.returns-clause-sized
returns-clause-sized c =
    let s = c.self.inside in
    sized c.args.self.now (table-by c.args.self.now (record { height = s.height; costs = s.costs; entries = s.entries }) c.self.view_is c.self.invariant)

pub returns-clause-bounded : goal.returns-clause-bounded
returns-clause-bounded c =
    let s = c.self.inside in
    is_bounded c.args.self.now (table-by c.args.self.now (record { height = s.height; costs = s.costs; entries = s.entries }) c.self.view_is c.self.invariant)
