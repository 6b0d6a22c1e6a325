use Rattle.std.proofs.Common.{◌∙◌, sym}
use Rattle.std.specs.Int.{w128}
use Rattle.std.proofs.lemmas.Int.{to_z-of_z}
use Rattle.sg_cover_fact.proofs.Costs.{same-where}
use Rattle.sg_cover_fact.proofs.cost.target_part.Goals as goal

pub returns-clause-value : goal.returns-clause-value
returns-clause-value c =
    to_z-of_z w128 c.own_part.result (record { sfits = c.own_part.type_inv }) ∙ (c.own_part.ensures.value ∙ sym (same-where c.args.own c.args.t _ c.if-own-t.false))
