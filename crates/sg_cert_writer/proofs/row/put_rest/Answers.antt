use Rattle.sg_cert_writer.proofs.Adding.{Writes-trans, Stops-early}
use Rattle.std.proofs.Common.{[], ◌∷◌, ◌++◌, map}
use Rattle.std.specs.Prelude.{decimal}
use Rattle.std.specs.Fmt.{signed_decimal}
use Rattle.sg_model.specs.TextLines.{field_line}
use Rattle.sg_cert_writer.proofs.row.put_rest.Goals as goal

pub returns-in-Ok : goal.returns-in-Ok
returns-in-Ok g c = Writes-trans c.put_list_line.result _ _ _ c.args.block.now _ _ (32 ∷ []) (field_line c.args.word.now (map signed_decimal c.args.numbers.now ++ map decimal c.args.choices.now)) c.in-Ok.ensures c.put_list_line.ensures

pub returns-in-Err : goal.returns-in-Err
returns-in-Err g c = Stops-early _ _ c.args.block.now (32 ∷ []) (field_line c.args.word.now (map signed_decimal c.args.numbers.now ++ map decimal c.args.choices.now)) c.in-Err.ensures
