use Rattle.std.proofs.Common.{rules}
use Rattle.std.proofs.lemmas.Fn.{filter_same}
use Rattle.sg_search.specs.Bounding.{exceeds}
use Rattle.sg_lanes.specs.declared.ripe.Ripe.{Ripe}
use Rattle.sg_lanes.proofs.ripe.sift.Goals as goal

pub returns-clause-kept : goal.returns-clause-kept
returns-clause-kept c = filter_same _ (λ (r : Ripe). exceeds r.bound c.args.value) _ (λ x b g h. search rules) _ _ c.retain.ensures.filtered
