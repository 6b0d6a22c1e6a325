use Rattle.std.proofs.Common.{◌≡◌, ◌∙◌, ◌+◌, ◌-◌, ◌++◌, ap, flat_map, List, ℕ}
use Rattle.sg_model.specs.Sums.{numbers_from}
use Rattle.sg_tree.specs.declared.fix.Fix.{Fix}
use Rattle.sg_search.proofs.Enough.{cap_nodes_of}
use Rattle.sg_lanes.proofs.Started.{flat-end, flat-step}
use Rattle.sg_lanes.proofs.start.cap_nodes.Goals as goal

pub loop-l-preserved : goal.loop-l-preserved
loop-l-preserved c =
    let l = c.loop-l.l in
    let n = c.types-count.result in
    let xs : List Fix = c.loop-l.nodes.items in
    let f : ℕ → List Fix = cap_nodes_of c.args.game.now in
    ap (λ (zs : List Fix). zs ++ flat_map f (numbers_from (l + 1 + 1) (n - (l + 1)))) c.in_ok-push_cap_nodes.ensures
    ∙ flat-step f xs (flat_map f (numbers_from 2 (n - 1))) l n c.loop-l-test.true c.loop-l.invariant
