use Rattle.std.proofs.Common.{◌∙◌, ◌++◌, ◌∷◌, [], ap, List}
use Rattle.std.specs.Prelude.{filter}
use Rattle.sg_tree.specs.declared.worked.Worked.{Worked}
use Rattle.sg_search.specs.Bounding.{exceeds}
use Rattle.sg_lanes.specs.declared.ripe.Ripe.{Ripe}
use Rattle.sg_lanes.proofs.Prefixed.{prefix-kept}
use Rattle.sg_lanes.proofs.lanes.Lanes.record_prefix.Goals as goal

pub invariant_of-self-2 : goal.invariant_of-self-2
invariant_of-self-2 c =
    prefix-kept _ _ _ c.args.self.now c.args.lane c.args.node c.args.fact c.args.point c.args.best c.in_ok-entry.entry c.value_with-value.result _ _ _ c.sift.new.ripe.items _ _ _
    c.self.view_is c.self.invariant c.requires.held c.requires.form c.requires.result c.requires.rise c.value_with-value.ensures c.in_ok-entry.ensures
    (c.sift.ensures.kept ∙ ap (λ (rs : List Ripe). filter (λ (r : Ripe). exceeds r.bound c.value_with-value.result) rs) c.reserve-2.ensures.items)
    c.put_in.ensures c.take_out.ensures c.let_go-held.ensures.lanes
    (c.push_reserved.ensures.items ∙ ap (λ (ws : List Worked). ws ++ (record { fix = c.args.node; fact = c.args.fact; point = c.args.point } ∷ [])) c.reserve.ensures.items)
    c.put_best.ensures.commitment c.put_best.ensures.value
