use Rattle.std.proofs.Common.{arith, ◌∙◌, ◌++◌, ◌∷◌, [], ap, List}
use Rattle.sg_tree.specs.declared.worked.Worked.{Worked}
use Rattle.sg_lanes.proofs.CapKept.{Asked, asked, cap-kept, kept-back}
use Rattle.sg_lanes.proofs.lanes.Lanes.record_cap.Goals as goal

-- what the caps are formed by
asked-of : (c : goal.After-as_slice-2) → Asked c.self.inside.game.now c.self.inside.caps.items c.as_slice-2.result.now c.args.node.first c.has_other-more.result
asked-of c =
    asked _ _ _ c.args.self.now c.args.lane c.args.node c.args.fact c.args.point c.as_slice.result.now c.as_slice-2.result.now c.has_other-more.result
    c.self.view_is c.self.invariant c.requires.held c.requires.form c.requires.result c.as_slice.ensures.value c.has_other-more.ensures
    (c.as_slice-2.ensures.value ∙ c.push_reserved.ensures.items ∙ ap (λ (ws : List Worked). ws ++ (record { fix = c.args.node; fact = c.args.fact; point = c.args.point } ∷ [])) c.in_ok-reserve.ensures.items)

pub renew-requires-clause-within : goal.renew-requires-clause-within
renew-requires-clause-within c = (asked-of c).within

pub renew-requires-clause-results : goal.renew-requires-clause-results
renew-requires-clause-results c = (asked-of c).results

pub renew-requires-clause-more : goal.renew-requires-clause-more
renew-requires-clause-more c = (asked-of c).missing

pub renew-requires-clause-plain : goal.renew-requires-clause-plain
renew-requires-clause-plain c = (asked-of c).plain

pub renew-requires-clause-proved : goal.renew-requires-clause-proved
renew-requires-clause-proved c = (asked-of c).proved

pub invariant_of-self-in-Err : goal.invariant_of-self-in-Err
invariant_of-self-in-Err c =
    kept-back _ _ _ (record { fix = c.args.node; fact = c.args.fact; point = c.args.point }) _ _ c.pop-last.result _ _ c.self.invariant
    (c.pop-last.ensures.variant.1 (omega (arith, c.push_reserved.ensures.len))) c.pop-last.ensures.items
    (c.push_reserved.ensures.items ∙ ap (λ (ws : List Worked). ws ++ (record { fix = c.args.node; fact = c.args.fact; point = c.args.point } ∷ [])) c.in_ok-reserve.ensures.items)
    c.in-Err.ensures.caps_kept c.in-Err.ensures.ripe_kept

pub invariant_of-self-2 : goal.invariant_of-self-2
invariant_of-self-2 c =
    cap-kept _ _ _ c.args.self.now c.args.lane c.args.node c.in_ok-out.out c.args.fact c.args.point c.args.best c.value_with-value.result _ _ c.as_slice-2.result.now _ _ _ _ _
    c.self.view_is c.self.invariant c.requires.held c.requires.form c.requires.result c.requires.rise c.in_ok-out.ensures c.value_with-value.ensures c.as_slice-2.ensures.value
    c.in-Ok.ensures.caps c.in-Ok.ensures.ripe c.take_out.ensures c.let_go-held.ensures.lanes
    (c.push_reserved.ensures.items ∙ ap (λ (ws : List Worked). ws ++ (record { fix = c.args.node; fact = c.args.fact; point = c.args.point } ∷ [])) c.in_ok-reserve.ensures.items)
    c.put_best.ensures.commitment c.put_best.ensures.value
