use Rattle.std.proofs.Common.{refl}
use Rattle.std.specs.Fmt.{digits}
use Rattle.sg_cert.proofs.laws.worked_texts.Goals as goal

pub returns : goal.returns
unfolding digits
returns c = record { by_resources = refl; by_target = refl }
