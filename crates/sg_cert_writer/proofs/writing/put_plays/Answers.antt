use Rattle.sg_cert_writer.proofs.Adding.{Writes-trans, Stops-early}
use Rattle.std.proofs.Common.{[], ◌∷◌, map, length}
use Rattle.std.specs.Prelude.{decimal, codes}
use Rattle.std.specs.Fmt.{signed_decimal}
use Rattle.sg_cert.specs.Text.{spell, text_of, mark_row}
use Rattle.sg_cert_writer.proofs.writing.put_plays.Goals as goal

pub returns-in-Ok : goal.returns-in-Ok
returns-in-Ok g c = Writes-trans c.put_marks.result _ _ _ c.args.block.now _ _ (spell (codes "plays" ∷ signed_decimal c.args.pair.0.now ∷ signed_decimal c.args.pair.1.now ∷ decimal (length c.args.marks.now) ∷ [])) (text_of (map mark_row c.args.marks.now)) c.in-Ok.ensures c.put_marks.ensures

pub returns-in-Err : goal.returns-in-Err
returns-in-Err g c = Stops-early _ _ c.args.block.now (spell (codes "plays" ∷ signed_decimal c.args.pair.0.now ∷ signed_decimal c.args.pair.1.now ∷ decimal (length c.args.marks.now) ∷ [])) (text_of (map mark_row c.args.marks.now)) c.in-Err.ensures
