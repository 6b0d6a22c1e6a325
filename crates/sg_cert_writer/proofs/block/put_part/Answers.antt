use Rattle.std.proofs.Common.{map}
use Rattle.std.specs.Fmt.{signed_decimal}
use Rattle.sg_cert.specs.Text.{spaced}
use Rattle.sg_cert_writer.proofs.Adding.{Writes-trans, Stops-early}
use Rattle.sg_cert_writer.proofs.block.put_part.Goals as goal

pub returns-in-Ok : goal.returns-in-Ok
returns-in-Ok g c = Writes-trans c.put_numbers.result _ _ _ c.args.block.now _ _ c.args.words.now _ c.in-Ok.ensures c.put_numbers.ensures

pub returns-in-Err : goal.returns-in-Err
returns-in-Err g c = Stops-early _ _ c.args.block.now c.args.words.now (spaced (map signed_decimal c.args.numbers.now)) c.in-Err.ensures
