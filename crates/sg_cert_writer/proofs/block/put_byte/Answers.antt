use Rattle.std.proofs.Common.{[], ◌∷◌}
use Rattle.sg_cert_writer.proofs.Adding.{Stops-early}
use Rattle.sg_cert_writer.proofs.block.put_byte.Goals as goal

pub returns-in-Err : goal.returns-in-Err
returns-in-Err g c = Stops-early _ _ c.args.block.now [] (c.args.byte ∷ []) c.in-Err.ensures.text
