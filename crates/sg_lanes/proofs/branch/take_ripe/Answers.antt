use Rattle.std.proofs.Common.{rules, not}
use Rattle.std.proofs.lemmas.Fn.{filter_same}
use Rattle.sg_search.specs.Searches.{same}
use Rattle.sg_lanes.specs.declared.ripe.Ripe.{Ripe}
use Rattle.sg_lanes.proofs.branch.take_ripe.Goals as goal

pub returns : goal.returns
returns c = filter_same _ (λ (y : Ripe). not (same c.args.node.now y.node)) _ (λ x b g h. search rules) _ _ c.retain.ensures.filtered
