use Rattle.sg_cert_writer.proofs.Adding.{Writes-trans, Stops-early}
use Rattle.std.proofs.Common.{[], ◌∷◌, map, length}
use Rattle.std.specs.Prelude.{decimal, codes}
use Rattle.std.specs.Fmt.{signed_decimal}
use Rattle.sg_cert.specs.Text.{spell, text_of, line_row}
use Rattle.sg_cert_writer.proofs.writing.put_cover.Goals as goal

pub returns-in-Ok : goal.returns-in-Ok
returns-in-Ok g c = Writes-trans c.put_rows.result _ _ _ c.args.block.now _ _ (spell (codes "cover" ∷ signed_decimal c.args.pair.0.now ∷ signed_decimal c.args.pair.1.now ∷ decimal (length c.args.rows.now) ∷ [])) (text_of (map line_row c.args.rows.now)) c.in-Ok.ensures c.put_rows.ensures

pub returns-in-Err : goal.returns-in-Err
returns-in-Err g c = Stops-early _ _ c.args.block.now (spell (codes "cover" ∷ signed_decimal c.args.pair.0.now ∷ signed_decimal c.args.pair.1.now ∷ decimal (length c.args.rows.now) ∷ [])) (text_of (map line_row c.args.rows.now)) c.in-Err.ensures
