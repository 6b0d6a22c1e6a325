use Rattle.std.proofs.Common.{◌≡◌, ◌∙◌, ◌+◌, ◌-◌, ◌++◌, ◌∷◌, [], ap, map, List, ℕ}
use Rattle.sg_model.specs.Sums.{numbers, numbers_from}
use Rattle.sg_bounds.specs.Regions.{prefix}
use Rattle.sg_tree.specs.declared.fix.Fix.{Fix}
use Rattle.sg_lanes.proofs.Branched.{later-end, later-step, part_by}
use Rattle.sg_lanes.proofs.start.root_parts.Goals as goal

pub loop-i-preserved : goal.loop-i-preserved
loop-i-preserved c =
    let i = c.loop-i.i in
    let n = c.actions-count.result in
    let xs : List Fix = c.loop-i.parts.items in
    let f = part_by [] in
    ap (λ (zs : List Fix). zs ++ map f (numbers_from (i + 1 + 1) (n - (i + 1)))) (c.in_ok-push.ensures.items ∙ ap (λ (x : Fix). xs ++ (x ∷ [])) (c.in_ok-part_of.ensures ∙ ap (λ (ys : List ℕ). prefix (ys ++ (i + 1) ∷ [])) c.as_slice.ensures))
    ∙ later-step f xs (map f (numbers n)) i n c.loop-i-test.true c.loop-i.invariant
