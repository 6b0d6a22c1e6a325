use Rattle.std.proofs.Common.{sym}
use Rattle.std.proofs.lemmas.List.{get_or-take}
use Rattle.sg_dobss.proofs.pricing.live_place.Goals as goal

pub returns-clause-value : goal.returns-clause-value
returns-clause-value c = sym (get_or-take c.args.live.now.count c.args.live.now.places c.args.i 0 c.requires.inside)
