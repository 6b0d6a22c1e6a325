use Rattle.std.proofs.Common.{◌≡◌, drop}
use Rattle.sg_cert.specs.Fields.{fields}
use Rattle.sg_cert_reader.proofs.field.Fields.after.Given as goal

abbrev pub invariant-loop : goal.invariant-loop
invariant-loop l = l.left ≡ drop l.counter (fields l.line)
