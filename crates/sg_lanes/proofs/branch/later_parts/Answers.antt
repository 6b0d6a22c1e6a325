use Rattle.std.proofs.Common.{◌∙◌, ◌+◌, ◌-◌, ◌++◌, ◌∷◌, [], ap, map, List}
use Rattle.sg_model.specs.Sums.{numbers_from}
use Rattle.sg_tree.specs.declared.fix.Fix.{Fix}
use Rattle.sg_lanes.proofs.Branched.{later-end, later-step, part_by}
use Rattle.sg_lanes.proofs.branch.later_parts.Goals as goal

pub loop-a-init : goal.loop-a-init
loop-a-init c = ap (λ (xs : List Fix). xs ++ map (part_by c.args.acts.now) (numbers_from 2 (c.actions-count.result - 1))) c.new-parts.ensures.items

pub loop-a-preserved : goal.loop-a-preserved
loop-a-preserved c =
    let a = c.loop-a.a in
    let n = c.actions-count.result in
    let xs : List Fix = c.loop-a.parts.items in
    let f = part_by c.args.acts.now in
    ap (λ (zs : List Fix). zs ++ map f (numbers_from (a + 1 + 1) (n - (a + 1)))) (c.in_ok-push.ensures.items ∙ ap (λ (x : Fix). xs ++ (x ∷ [])) c.in_ok-part_of.ensures)
    ∙ later-step f xs (map f (numbers_from 2 (n - 1))) a n c.loop-a-test.true c.loop-a.invariant

pub returns : goal.returns
returns c =
    let n = c.actions-count.result in
    let f = part_by c.args.acts.now in
    later-end f c.loop-a.parts.items (map f (numbers_from 2 (n - 1))) c.loop-a.a n c.loop-a-test.false c.loop-a.invariant
    ∙ ap (λ (k : _). map f (numbers_from 2 (k - 1))) c.actions-count.ensures.count
