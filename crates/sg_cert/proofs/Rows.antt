-- The text of lines, one list of them behind another.
use Rattle.std.proofs.Common.{◌≡◌, List, ◌++◌}
use Rattle.std.proofs.lemmas.List.Concat.{flat_map-append}
use Rattle.sg_cert.specs.Text.{FieldRow, spell, text_of}

pub text_then : (a b : List FieldRow) → text_of (a ++ b) ≡ text_of a ++ text_of b
text_then a b = flat_map-append spell a b
