use Rattle.std.proofs.Common.{rules, not}
use Rattle.std.proofs.lemmas.Fn.{filter_same}
use Rattle.sg_search.specs.Searches.{same}
use Rattle.sg_lanes.proofs.nodes.take_out.Goals as goal

pub returns : goal.returns
returns c = filter_same _ (λ y. not (same c.args.node.now y)) _ (λ x b g h. search rules) _ _ c.retain.ensures.filtered
