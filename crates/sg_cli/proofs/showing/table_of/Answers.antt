use Rattle.std.proofs.Common.{ap}
use Rattle.sg_commit.specs.Committed.{Committed}
use Rattle.sg_cli.proofs.Formed.{never_wide}
use Rattle.sg_cli.proofs.showing.table_of.Goals as goal

pub unreachable-requires : goal.unreachable-requires
unreachable-requires c =
    let k = c.commitment_of-commitment.result in
    let w = c.in-Err-Wide in
    never_wide c.args.pair.game c.args.pair.report c.requires k.tickets (ap (λ (x : Committed). x.tickets) c.commitment_of-commitment.ensures) w.field-0-0 (w.ensures.cause w.field-0-0 w.field-0-is)
