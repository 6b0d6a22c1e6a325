use Rattle.sg_cert_writer.proofs.Adding.{Writes-trans, Writes-as, Stops-early, Stops-as}
use Rattle.std.proofs.Common.{[], ◌∷◌, ◌++◌, map}
use Rattle.std.specs.Prelude.{decimal}
use Rattle.std.specs.Fmt.{signed_decimal}
use Rattle.sg_cert.specs.Text.{spaced}
use Rattle.sg_cert_writer.proofs.LineTexts.{list_text}
use Rattle.sg_cert_writer.proofs.row.put_list_line.Goals as goal

pub returns-in-Ok : goal.returns-in-Ok
returns-in-Ok g c = Writes-as c.put_choices_end.result _ _ c.args.block.now _ _ _ (list_text c.args.words.now (map signed_decimal c.args.numbers.now) (map decimal c.args.choices.now)) (Writes-trans c.put_choices_end.result _ _ _ c.args.block.now _ _ (c.args.words.now ++ spaced (map signed_decimal c.args.numbers.now)) (spaced (map decimal c.args.choices.now) ++ 10 ∷ []) c.in-Ok.ensures c.put_choices_end.ensures)

pub returns-in-Err : goal.returns-in-Err
returns-in-Err g c = Stops-as _ _ c.args.block.now _ _ (list_text c.args.words.now (map signed_decimal c.args.numbers.now) (map decimal c.args.choices.now)) (Stops-early _ _ c.args.block.now (c.args.words.now ++ spaced (map signed_decimal c.args.numbers.now)) (spaced (map decimal c.args.choices.now) ++ 10 ∷ []) c.in-Err.ensures)
