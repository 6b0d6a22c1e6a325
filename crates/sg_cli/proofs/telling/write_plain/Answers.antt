use Rattle.std.proofs.Common.{◌∙◌}
use Rattle.sg_cli.proofs.Tellings.{told}
use Rattle.sg_cli.proofs.telling.write_plain.Goals as goal

pub returns-clause-tells : goal.returns-clause-tells
returns-clause-tells g c =
    let e = c.put.ensures in
    told _ _ c.args.refusal c.as_bytes.result.now c.put.result (c.as_bytes.ensures.value ∙ c.plain_line.ensures) e.whole e.front e.failed
