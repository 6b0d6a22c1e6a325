use Rattle.std.proofs.Common.{◌≡◌, ◌∙◌, ◌∷◌, [], ◌++◌, ap, sym, refl, rules, of_z, to_z, List, ℕ}
use Rattle.std.specs.Int.{w64}
use Rattle.std.proofs.lemmas.Int.{to_z-of_z}
use Rattle.sg_lanes.proofs.Risen.{never-wide}
use Rattle.sg_lanes.proofs.Started.{start-kept}
use Rattle.sg_lanes.proofs.lanes.Lanes.new.Goals as goal

pub unreachable-requires : goal.unreachable-requires
unreachable-requires c = never-wide c.args.game.now c.in_ok-best.best.tickets c.in-Err.field-0 c.in_ok-best.ensures.first.narrow c.in-Err.ensures.value

pub invariant_of-result : goal.invariant_of-result
invariant_of-result c =
    let shift_is : to_z w64 (of_z w64 c.shift.result) ≡ c.shift.result = search (rules, to_z-of_z) in
    start-kept c.args.game.now c.args.lanes c.args.nodes c.promises.ensures c.requires.nodes c.root_bound-root.result c.in-Ok.value _ c.in_ok-best.best _ _ _ _ _ _ _ _ _ _
    c.in_ok-best.ensures.tickets c.in_ok-best.ensures.rules c.in_ok-best.ensures.first c.root_bound-root.ensures c.in-Ok.ensures.value.1
    c.in_ok-free.ensures
    (c.in_ok-push.ensures.items ∙ ap (λ (xs : List (List ℕ)). xs ++ (c.new.result ∷ [])) c.new-splits.ensures.items ∙ ap (λ (xs : List ℕ). xs ∷ []) c.new.ensures)
    c.new-2.ensures.items c.new-3.ensures.items (shift_is ∙ c.shift.ensures.shift) c.in_ok-plain_caps.ensures c.in_ok-root_parts.ensures c.in_ok-cap_nodes.ensures c.in_ok-root_parts-2.ensures c.in_ok-cap_nodes-2.ensures c.new-4.ensures.items
