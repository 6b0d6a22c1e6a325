use Rattle.std.proofs.Common.{◌≡◌, ◌∙◌, sym}
use Rattle.sg_lanes.proofs.Begun.{begin-idle, begin-may, begin-number, branch-answer, branch-loads, branch-together, chosen-branch, chosen-take, took-answer, took-together}
use Rattle.sg_lanes.proofs.Joined.{unloaded}
use Rattle.sg_lanes.proofs.Known.{same-node}
use Rattle.sg_lanes.proofs.lanes.Lanes.begin.Goals as goal

pub returns-then-n-choices-clause-answers : goal.returns-then-n-choices-clause-answers
returns-then-n-choices-clause-answers g c = begin-idle c.args.self.now.task c.args.self.now.search c.args.lane c.args.n c.choices.result c.enabled.result c.enabled.ensures c.choices.ensures c.if-n-choices.true

pub choose-requires : goal.choose-requires
choose-requires g c = begin-number c.args.self.now.task c.args.self.now.search c.args.lane c.args.n c.choices.result c.enabled.result c.enabled.ensures c.choices.ensures c.if-n-choices.false

pub start-requires-clause-node : goal.start-requires-clause-node
start-requires-clause-node g c =
    let k = chosen-take c.args.self.now.task c.args.self.now.search c.args.n c.in_ok-node.field-0 c.in-Take.node c.in_ok-node.ensures c.in-Take.is in
    same-node c.args.self.now.task.game _ c.in-Take.node c.requires.same_game (c.keeps.ensures.nodes c.in-Take.node k.1)

pub start-requires-clause-free : goal.start-requires-clause-free
start-requires-clause-free g c =
    let b = begin-may c.args.self.now.task c.args.self.now.search c.args.lane c.args.n c.choices.result c.enabled.result c.enabled.ensures c.choices.ensures c.if-n-choices.false in
    unloaded _ c.args.self.now.search c.args.lane c.requires.same_lanes b.free

pub take-requires-clause-may : goal.take-requires-clause-may
take-requires-clause-may g c = begin-may c.args.self.now.task c.args.self.now.search c.args.lane c.args.n c.choices.result c.enabled.result c.enabled.ensures c.choices.ensures c.if-n-choices.false

pub branch-self-requires-clause-may : goal.branch-self-requires-clause-may
branch-self-requires-clause-may g c = begin-may c.args.self.now.task c.args.self.now.search c.args.lane c.args.n c.choices.result c.enabled.result c.enabled.ensures c.choices.ensures c.if-n-choices.false

pub returns-in_ok-start-in-Take-clause-together : goal.returns-in_ok-start-in-Take-clause-together
returns-in_ok-start-in-Take-clause-together g c =
    took-together _ _ _ _ _ _ _ _ _ _ c.args.self.now c.take.new.self c.args.lane c.requires c.in_ok-start-in-Take.ensures.same c.in_ok-start-in-Take.ensures.tests c.take.ensures.task
    c.in-Take.node c.in_ok-held-in-Take.held c.in_ok-held-in-Take.ensures c.take.ensures.goes c.in_ok-start-in-Take.ensures.started

pub returns-in_ok-start-in-Take-clause-answers : goal.returns-in_ok-start-in-Take-clause-answers
returns-in_ok-start-in-Take-clause-answers g c =
    let k = chosen-take c.args.self.now.task c.args.self.now.search c.args.n c.in_ok-node.field-0 c.in-Take.node c.in_ok-node.ensures c.in-Take.is in
    took-answer c.args.self.now.task c.args.self.now.search c.take.new.self.search c.args.lane c.args.n c.in-Take.node c.in_ok-held-in-Take.held k c.in_ok-held-in-Take.ensures c.take.ensures.goes

pub returns-in_ok-node-in-Branch-clause-together : goal.returns-in_ok-node-in-Branch-clause-together
returns-in_ok-node-in-Branch-clause-together g c =
    branch-together _ _ _ _ _ _ _ _ _ _ c.args.self.now c.branch-self.new.self c.args.lane c.requires c.in_ok-node-in-Branch.ensures.same c.in_ok-node-in-Branch.ensures.tests c.in_ok-node-in-Branch.ensures.task
    c.in-Branch.acts c.in_ok-node-in-Branch.ensures.goes c.in_ok-node-in-Branch.ensures.started

pub returns-in_ok-node-in-Branch-clause-answers : goal.returns-in_ok-node-in-Branch-clause-answers
returns-in_ok-node-in-Branch-clause-answers g c =
    let k = chosen-branch c.args.self.now.task c.args.self.now.search c.args.n c.in_ok-node.field-0 c.in-Branch.acts c.in-Branch.bound c.in_ok-node.ensures c.in-Branch.is in
    branch-answer c.args.self.now.task c.args.self.now.search c.branch-self.new.self.search c.args.lane c.args.n c.in-Branch.acts c.in_ok-node-in-Branch.node k.0 c.in_ok-node-in-Branch.ensures.node c.in_ok-node-in-Branch.ensures.goes

pub returns-in_ok-start-in-Take-clause-loads : goal.returns-in_ok-start-in-Take-clause-loads
returns-in_ok-start-in-Take-clause-loads g c = c.in_ok-start-in-Take.ensures.started

pub returns-in_ok-node-in-Branch-clause-loads : goal.returns-in_ok-node-in-Branch-clause-loads
returns-in_ok-node-in-Branch-clause-loads g c = branch-loads _ _ c.args.lane c.in-Branch.acts c.in_ok-node-in-Branch.node c.in_ok-node-in-Branch.ensures.started c.in_ok-node-in-Branch.ensures.node
