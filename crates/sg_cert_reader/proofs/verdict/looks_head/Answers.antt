use Rattle.sg_cert.specs.Fields.{fields}
use Rattle.sg_cert_reader.proofs.Heads.{looks_done}
use Rattle.sg_cert_reader.proofs.verdict.looks_head.Goals as goal

pub returns : goal.returns
returns c = looks_done (fields c.args.line.now) c.in_ok-budget.field-0 c.in_ok-step.field-0 c.natural.new.self c.natural-2.new.self c.in_ok-shaped_by.ensures (rw c.after-left.ensures at c.in_ok-budget.ensures.read) c.in_ok-step.ensures.read
