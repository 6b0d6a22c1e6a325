use Rattle.std.proofs.Common.{◌≡◌, ◌-◌, []}
use Rattle.sg_cert.specs.Reading.{caps_at}
use Rattle.sg_cert_reader.proofs.node.caps.Given as goal

abbrev pub invariant-loop : goal.invariant-loop
invariant-loop l = caps_at l.caps (l.most - l.counter) l.lines ≡ caps_at [] l.most l.fn.lines
