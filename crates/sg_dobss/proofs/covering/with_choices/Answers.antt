use Rattle.sg_dobss.proofs.Covered.{choices-next}
use Rattle.sg_dobss.proofs.covering.with_choices.Goals as goal

pub loop-c-preserved : goal.loop-c-preserved
loop-c-preserved c =
    choices-next c.args.game.now c.args.t c.args.r c.loop-c.c c.args.rest.now c.loop-c.all c.add_choice.new.all c.choice_holds.result c.choice_holds.ensures c.loop-c.invariant c.in_ok-add_choice.ensures
