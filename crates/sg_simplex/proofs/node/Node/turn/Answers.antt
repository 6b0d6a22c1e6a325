use Rattle.sg_simplex.proofs.Turned.{again_of, few_of, fresh_of, lasting_of, node_by, node_of, rises_of}
use Rattle.sg_simplex.proofs.node.Node.turn.Goals as goal

pub returns-in-Enters-clause-run : goal.returns-in-Enters-clause-run
returns-in-Enters-clause-run g c =
    let node = node_by g.F.Family.program g.F.Family.answer c.args.self.now c.self.inside.family c.self.inside.state.tableau c.self.inside.state.width c.self.inside.steps c.self.inside.pivots c.self.inside.looks c.self.view_is c.self.invariant.node in
    (node_of g.F.Family.program g.F.Family.answer c.args.self.now c.enter.new.self node c.enter.result c.enter.ensures).run

pub returns-in-Enters-clause-rises : goal.returns-in-Enters-clause-rises
returns-in-Enters-clause-rises g c =
    let node = node_by g.F.Family.program g.F.Family.answer c.args.self.now c.self.inside.family c.self.inside.state.tableau c.self.inside.state.width c.self.inside.steps c.self.inside.pivots c.self.inside.looks c.self.view_is c.self.invariant.node in
    rises_of g.F.Family.program g.F.Family.answer c.args.self.now c.enter.new.self node c.enter.result c.enter.ensures

pub returns-in-Enters-clause-fresh : goal.returns-in-Enters-clause-fresh
returns-in-Enters-clause-fresh g c =
    let node = node_by g.F.Family.program g.F.Family.answer c.args.self.now c.self.inside.family c.self.inside.state.tableau c.self.inside.state.width c.self.inside.steps c.self.inside.pivots c.self.inside.looks c.self.view_is c.self.invariant.node in
    fresh_of g.F.Family.program g.F.Family.answer c.args.self.now c.enter.new.self node c.enter.result c.enter.ensures

pub returns-in-Enters-clause-few : goal.returns-in-Enters-clause-few
returns-in-Enters-clause-few g c =
    let node = node_by g.F.Family.program g.F.Family.answer c.args.self.now c.self.inside.family c.self.inside.state.tableau c.self.inside.state.width c.self.inside.steps c.self.inside.pivots c.self.inside.looks c.self.view_is c.self.invariant.node in
    few_of g.F.Family.program g.F.Family.answer c.args.self.now c.enter.new.self node c.enter.result c.enter.ensures

pub returns-in-Enters-clause-lasting : goal.returns-in-Enters-clause-lasting
returns-in-Enters-clause-lasting g c =
    let node = node_by g.F.Family.program g.F.Family.answer c.args.self.now c.self.inside.family c.self.inside.state.tableau c.self.inside.state.width c.self.inside.steps c.self.inside.pivots c.self.inside.looks c.self.view_is c.self.invariant.node in
    lasting_of g.F.Family.program g.F.Family.answer c.args.self.now c.enter.new.self node c.enter.result c.enter.ensures

pub returns-in-Enters-clause-again : goal.returns-in-Enters-clause-again
returns-in-Enters-clause-again g c =
    let node = node_by g.F.Family.program g.F.Family.answer c.args.self.now c.self.inside.family c.self.inside.state.tableau c.self.inside.state.width c.self.inside.steps c.self.inside.pivots c.self.inside.looks c.self.view_is c.self.invariant.node in
    again_of g.F.Family.program g.F.Family.answer c.args.self.now c.enter.new.self node c.enter.result c.enter.ensures
