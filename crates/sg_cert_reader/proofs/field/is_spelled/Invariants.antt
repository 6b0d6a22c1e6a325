use Rattle.std.proofs.Common.{◌≡◌, length}
use Rattle.sg_cert.specs.Fields.{fields, spelled_of}
use Rattle.sg_cert_reader.proofs.field.is_spelled.Given as goal

abbrev pub invariant-loop-field : goal.invariant-loop-field
invariant-loop-field l = spelled_of l.words l.left ≡ spelled_of (fields l.fn.words) (fields l.line)

abbrev pub decreases-loop-field : goal.decreases-loop-field
decreases-loop-field l = length l.left
