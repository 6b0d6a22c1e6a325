use Rattle.std.proofs.Common.{sym}
use Rattle.sg_cert_reader.proofs.Fractions.{shares_gcd}
use Rattle.sg_cert_reader.proofs.fraction.has_common.Goals as goal

pub returns : goal.returns
returns c = sym (shares_gcd c.args.a c.args.b _ c.requires c.gcd.ensures)
