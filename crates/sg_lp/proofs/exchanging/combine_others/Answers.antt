use Rattle.sg_lp.proofs.Exchanged.{none_combined}
use Rattle.sg_lp.proofs.exchanging.combine_others.Goals as goal

pub loop-k-init : goal.loop-k-init
loop-k-init c = none_combined c.args.height c.args.rows.now c.args.products.now c.args.leaving c.args.pivot.now
