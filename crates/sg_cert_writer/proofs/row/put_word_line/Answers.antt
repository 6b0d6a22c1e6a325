use Rattle.sg_cert_writer.proofs.Adding.{Writes-trans, Writes-as, Stops-early, Stops-as}
use Rattle.std.proofs.Common.{◌∷◌, ◌++◌, map}
use Rattle.std.specs.Prelude.{decimal}
use Rattle.std.specs.Fmt.{signed_decimal}
use Rattle.sg_model.specs.TextLines.{field_line}
use Rattle.sg_cert.specs.Text.{spaced}
use Rattle.sg_cert_writer.proofs.LineTexts.{word_text}
use Rattle.sg_cert_writer.proofs.row.put_word_line.Goals as goal

pub returns-in-Ok : goal.returns-in-Ok
returns-in-Ok g c = Writes-as c.put_rest.result _ _ c.args.block.now _ _ _ (word_text c.args.words.now c.args.word.now (map signed_decimal c.args.around.before.now) (map signed_decimal c.args.around.after.now ++ map decimal c.args.around.choices.now)) (Writes-trans c.put_rest.result _ _ _ c.args.block.now _ _ (c.args.words.now ++ spaced (map signed_decimal c.args.around.before.now)) (32 ∷ field_line c.args.word.now (map signed_decimal c.args.around.after.now ++ map decimal c.args.around.choices.now)) c.in-Ok.ensures c.put_rest.ensures)

pub returns-in-Err : goal.returns-in-Err
returns-in-Err g c = Stops-as _ _ c.args.block.now _ _ (word_text c.args.words.now c.args.word.now (map signed_decimal c.args.around.before.now) (map signed_decimal c.args.around.after.now ++ map decimal c.args.around.choices.now)) (Stops-early _ _ c.args.block.now (c.args.words.now ++ spaced (map signed_decimal c.args.around.before.now)) (32 ∷ field_line c.args.word.now (map signed_decimal c.args.around.after.now ++ map decimal c.args.around.choices.now)) c.in-Err.ensures)
