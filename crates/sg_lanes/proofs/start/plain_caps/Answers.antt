use Rattle.std.proofs.Common.{◌≡◌, ◌∙◌, ◌+◌, ◌-◌, ◌++◌, ◌∷◌, [], ap, map, List, ℕ}
use Rattle.sg_model.specs.Sums.{numbers_from}
use Rattle.sg_model.specs.Payoffs.{greatest_of}
use Rattle.sg_tree.specs.declared.report.Cap.{Cap}
use Rattle.sg_lanes.proofs.Branched.{later-end, later-step}
use Rattle.sg_lanes.proofs.start.plain_caps.Goals as goal

pub loop-l-preserved : goal.loop-l-preserved
loop-l-preserved c =
    let l = c.loop-l.l in
    let n = c.types-count.result in
    let xs : List Cap = c.loop-l.caps.items in
    let f : ℕ → Cap = λ t. record { l = t; v = greatest_of c.args.game.now t; proof = [] } in
    ap (λ (zs : List Cap). zs ++ map f (numbers_from (l + 1 + 1) (n - (l + 1)))) (c.in_ok-push.ensures.items ∙ ap (λ (x : Cap). xs ++ (x ∷ [])) c.plain_cap.ensures)
    ∙ later-step f xs (map f (numbers_from 2 (n - 1))) l n c.loop-l-test.true c.loop-l.invariant
