use Rattle.std.proofs.Common.{sym, ap, ◌∙◌, ◌+◌}
use Rattle.std.proofs.lemmas.List.Splits.{length-slice_split}
use Rattle.std.specs.Prelude.{◌==◌}
use Rattle.sg_cert_reader.proofs.field.fields_count.Goals as goal

pub returns : goal.returns
returns c = ap (λ n. n + 1) c.spaces_count.ensures ∙ sym (length-slice_split (λ b. b == 32) c.args.line.now)
