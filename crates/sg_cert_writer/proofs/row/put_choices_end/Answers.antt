use Rattle.sg_cert_writer.proofs.Adding.{Writes-trans, Stops-early}
use Rattle.std.proofs.Common.{[], ◌∷◌, map}
use Rattle.std.specs.Prelude.{decimal}
use Rattle.sg_cert.specs.Text.{spaced}
use Rattle.sg_cert_writer.proofs.row.put_choices_end.Goals as goal

pub returns-in-Ok : goal.returns-in-Ok
returns-in-Ok g c = Writes-trans c.put_bytes.result _ _ _ c.args.block.now _ _ (spaced (map decimal c.args.choices.now)) (10 ∷ []) c.in-Ok.ensures c.put_bytes.ensures

pub returns-in-Err : goal.returns-in-Err
returns-in-Err g c = Stops-early _ _ c.args.block.now (spaced (map decimal c.args.choices.now)) (10 ∷ []) c.in-Err.ensures
