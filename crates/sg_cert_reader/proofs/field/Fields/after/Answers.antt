use Rattle.std.proofs.Common.{◌∙◌, ap, ℕ, List, drop}
use Rattle.sg_cert.specs.Fields.{fields}
use Rattle.sg_cert_reader.proofs.FieldSteps.{drop_once}
use Rattle.sg_cert_reader.proofs.field.Fields.after.Goals as goal

pub loop-preserved : goal.loop-preserved
loop-preserved c = c.skip.ensures ∙ ap (λ (fs : List (List ℕ)). drop 1 fs) c.loop.invariant ∙ drop_once (fields c.args.line.now) c.loop.counter
