use Rattle.std.proofs.Common.{◌≡◌, [], length}
use Rattle.sg_cert.specs.Fields.{numbers_of}
use Rattle.sg_cert_reader.proofs.field.numbers.Given as goal

abbrev pub invariant-loop-field : goal.invariant-loop-field
invariant-loop-field l = numbers_of l.low 65535 l.numbers l.left ≡ numbers_of l.low 65535 [] l.fn.left

abbrev pub decreases-loop-field : goal.decreases-loop-field
decreases-loop-field l = length l.left
