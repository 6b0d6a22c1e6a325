use Rattle.std.proofs.Common.{◌∙◌, ap, arith, get_or, length, List}
use Rattle.sg_tree.specs.declared.report.Cap.{Cap}
use Rattle.sg_check.proofs.Capped.{capped-fails, capped-more}
use Rattle.sg_check.proofs.caps.test_caps.Goals as goal

pub loop-i-preserved : goal.loop-i-preserved
loop-i-preserved c =
    let r = c.args.report.now in
    let same = c.as_slice-caps.ensures in
    let is = c.index-caps-i.is ∙ ap (λ (cs : List Cap). get_or cs c.loop-i.i c.index-caps-i.result) same in
    capped-more c.args.game.now r c.loop-i.next c.loop-i.i c.index-caps-i.result (omega (arith, c.loop-i-test.true, ap (λ (cs : List Cap). length cs) same)) is c.loop-i.invariant c.in-Ok.behind c.in-Ok.ensures

pub returns-in-Err : goal.returns-in-Err
returns-in-Err c =
    let r = c.args.report.now in
    let same = c.as_slice-caps.ensures in
    let is = c.index-caps-i.is ∙ ap (λ (cs : List Cap). get_or cs c.loop-i.i c.index-caps-i.result) same in
    capped-fails c.args.game.now r c.loop-i.next c.loop-i.i c.index-caps-i.result (omega (arith, c.loop-i-test.true, ap (λ (cs : List Cap). length cs) same)) is c.loop-i.invariant c.in-Err.refusal c.in-Err.ensures
