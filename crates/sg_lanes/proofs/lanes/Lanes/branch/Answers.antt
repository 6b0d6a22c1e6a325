use Rattle.std.proofs.Common.{◌≡◌, ◌∙◌, ◌++◌, ◌∷◌, [], ◌+◌, ◌-◌, ap, length, map, List, ℕ}
use Rattle.sg_bounds.specs.Regions.{prefix}
use Rattle.sg_model.specs.Sums.{numbers_from}
use Rattle.sg_model.specs.Games.{action_count}
use Rattle.sg_tree.specs.declared.fix.Fix.{Fix}
use Rattle.sg_lanes.proofs.Branched.{branch-kept, part_by}
use Rattle.sg_lanes.proofs.Known.{first-node-of}
use Rattle.sg_lanes.proofs.lanes.Lanes.branch.Goals as goal

pub start-requires-clause-node : goal.start-requires-clause-node
start-requires-clause-node g c =
    first-node-of _ _ _ c.args.self.now c.args.acts _ _ c.self.view_is c.self.invariant c.requires.splits c.requires.together.same_game
    (c.in_ok-node.ensures ∙ ap (λ (xs : List ℕ). prefix (xs ++ (1 ∷ []))) c.as_slice-2.ensures)

pub invariant_of-self-2 : goal.invariant_of-self-2
invariant_of-self-2 g c =
    branch-kept _ _ _ c.args.self.now c.args.lane c.args.acts c.args.bound _ _ _ _ c.in_ok-held.held c.self.view_is c.self.invariant c.requires.may c.requires.splits c.requires.bound
    c.give.ensures (c.in_ok-held.ensures ∙ ap (λ (xs : List ℕ). prefix (xs ++ (1 ∷ []))) c.as_slice-3.ensures)
    (c.push_reserved.ensures.items ∙ ap (λ (xs : List (List ℕ)). xs ++ (c.args.acts ∷ [])) c.reserve.ensures.items)
    (c.in_ok-parts.ensures ∙ ap (λ (xs : List ℕ). map (part_by xs) (numbers_from 2 (action_count c.self.inside.game.now (length xs + 1) - 1))) c.as_slice.ensures)
    c.take_ripe.ensures
