use Rattle.std.proofs.Common.{◌≡◌, length}
use Rattle.sg_cert.specs.Fields.{fields, words_of}
use Rattle.sg_cert_reader.proofs.field.has_words.Given as goal

abbrev pub invariant-loop-word : goal.invariant-loop-word
invariant-loop-word l = words_of l.words l.left ≡ words_of (fields l.fn.words) (fields l.line)

abbrev pub decreases-loop-word : goal.decreases-loop-word
decreases-loop-word l = length l.words
