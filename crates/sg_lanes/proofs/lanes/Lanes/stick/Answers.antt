use Rattle.std.proofs.Common.{◌++◌, ◌∷◌, [], ap, ◌∙◌}
use Rattle.sg_lanes.proofs.Glued.{stick-kept}
use Rattle.sg_lanes.proofs.lanes.Lanes.stick.Goals as goal

pub invariant_of-self-in-Some : goal.invariant_of-self-in-Some
invariant_of-self-in-Some c =
    stick-kept _ _ _ c.args.self.now c.args.lane c.args.cause c.let_go.result c.in-Some.held _ _ _ c.self.view_is c.self.invariant c.requires.0 c.requires.1 c.let_go.ensures.held c.in-Some.is c.let_go.ensures.lanes
    (c.push_reserved.ensures.items ∙ ap (λ xs. xs ++ (record { node = c.in-Some.held.node; cause = c.args.cause } ∷ [])) c.reserve.ensures.items) c.take_out.ensures
