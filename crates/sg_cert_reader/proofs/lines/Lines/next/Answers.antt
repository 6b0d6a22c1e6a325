use Rattle.sg_cert_reader.proofs.Lining.{line_none, line_some}
use Rattle.sg_cert_reader.proofs.lines.Lines.next.Goals as goal

pub returns-in-None : goal.returns-in-None
returns-in-None c = line_none c.self.inside.rest.now c.self.inside.line c.args.self.now c.self.view_is c.in-None.ensures.parts

pub returns-in-Some : goal.returns-in-Some
returns-in-Some c = line_some c.self.inside.rest.now c.self.inside.line c.args.self.now c.in-Some.line.now c.in-Some.after.now c.self.view_is c.in-Some.ensures.parts
