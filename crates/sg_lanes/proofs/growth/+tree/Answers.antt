use Rattle.std.proofs.Common.{◌≡◌, ◌∙◌, ◌+◌, ◌-◌, ◌++◌, ◌∷◌, [], ℕ, List, ap, arith, length, map, sym}
use Rattle.sg_model.specs.Sums.{numbers}
use Rattle.sg_model.specs.Games.{action_count}
use Rattle.sg_tree.specs.declared.fix.Fix.{Fix}
use Rattle.sg_bounds.specs.Trees.{Node, node_of}
use Rattle.sg_search.specs.Bounding.{tree_at}
use Rattle.sg_lanes.proofs.Branched.{later-end}
use Rattle.sg_lanes.proofs.Indexed.{leaf-unsplit, parts-step, split-node}
use Rattle.sg_lanes.proofs.growth.+tree.Goals as goal

pub node-returns-then-not-contains : goal.node-returns-then-not-contains
node-returns-then-not-contains t c = λ s has cut.
    leaf-unsplit c.args.game.now s c.args.left c.args.acts.now _ c.in-Ok.fact (sym (cut c.args.acts.now) ∙ sym c.contains.ensures ∙ c.if-not-contains.true) c.leaf-then-not-contains.ensures (c.in-Ok.ensures s.worked has)

pub node-returns-in-Ok-parts : goal.node-returns-in-Ok-parts
node-returns-in-Ok-parts t c = λ s has cut.
    split-node c.args.game.now s c.args.left c.args.acts.now c.in-Ok.fact c.in-Ok-parts.parts (omega (arith, c.if-left-eq0.false)) (sym (cut c.args.acts.now) ∙ sym c.contains.ensures ∙ c.if-not-contains.false) (c.in-Ok.ensures s.worked has) (c.in-Ok-parts.ensures s has cut)

pub parts-loop-a-preserved : goal.parts-loop-a-preserved
parts-loop-a-preserved t c = λ s has cut.
    let g = c.args.game.now in
    let acts = c.args.acts.now in
    let f : ℕ → Node = λ a. tree_at g s c.args.left (acts ++ (a ∷ [])) in
    let below = c.as_slice.ensures ∙ ap (λ (x : Fix). x.acts) c.in_ok-below.ensures in
    parts-step f c.loop-a.parts c.push.new.self c.in-Ok.part (map f (numbers c.actions-count.result)) c.loop-a.a c.actions-count.result c.loop-a-test.true c.in_ok-push-in-Ok.ensures.ok
    (c.in-Ok.ensures s has cut ∙ ap (λ (xs : List ℕ). tree_at g s c.args.left xs) below) (c.loop-a.invariant s has cut)

pub parts-returns : goal.parts-returns
parts-returns t c = λ s has cut.
    let f : ℕ → Node = λ a. tree_at c.args.game.now s c.args.left (c.args.acts.now ++ (a ∷ [])) in
    let n = c.actions-count.result in
    later-end f (map node_of c.loop-a.parts) (map f (numbers n)) c.loop-a.a n c.loop-a-test.false (c.loop-a.invariant s has cut)
    ∙ ap (λ (k : ℕ). map f (numbers k)) c.actions-count.ensures.count
