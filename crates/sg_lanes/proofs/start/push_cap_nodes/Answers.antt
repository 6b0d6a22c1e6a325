use Rattle.std.proofs.Common.{◌≡◌, ◌∙◌, ◌+◌, ◌-◌, ◌++◌, ◌∷◌, [], ap, map, List, ℕ}
use Rattle.sg_model.specs.Sums.{numbers, numbers_from}
use Rattle.sg_tree.specs.declared.fix.Fix.{Fix}
use Rattle.sg_bounds.specs.Regions.{alone}
use Rattle.sg_lanes.proofs.Branched.{later-step}
use Rattle.sg_lanes.proofs.start.push_cap_nodes.Goals as goal

pub loop-a-preserved : goal.loop-a-preserved
loop-a-preserved c =
    let a = c.loop-a.a in
    let n = c.actions-count.result in
    let l = c.args.l in
    let xs : List Fix = c.loop-a.nodes.items in
    let acts = c.in_ok-push.ensures.ok ∙ ap (λ (ys : List ℕ). ys ++ ((a + 1) ∷ [])) c.new-acts.ensures in
    ap (λ (zs : List Fix). zs ++ map (alone l) (numbers_from (a + 1 + 1) (n - (a + 1)))) (c.in_ok-push-2.ensures.items ∙ ap (λ (ys : List ℕ). xs ++ (record { first = l; acts = ys } ∷ [])) acts)
    ∙ later-step (alone l) xs (c.args.nodes.now.items ++ map (alone l) (numbers n)) a n c.loop-a-test.true c.loop-a.invariant
