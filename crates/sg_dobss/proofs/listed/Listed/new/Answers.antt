use Rattle.std.proofs.Common.{◌∙◌, sym}
use Rattle.sg_dobss.proofs.Held.{plays-count}
use Rattle.sg_dobss.proofs.listed.Listed.new.Goals as goal

pub costs-requires-clause-count : goal.costs-requires-clause-count
costs-requires-clause-count c = c.few_plays-count.ensures ∙ sym (plays-count c.args.game.now)
