use Rattle.std.proofs.Common.{◌≡◌, ◌-◌, []}
use Rattle.sg_cert.specs.Reading.{repeat, mark_at}
use Rattle.sg_cert_reader.proofs.fact.marks.Given as goal

abbrev pub invariant-loop : goal.invariant-loop
invariant-loop l = repeat mark_at l.marks (l.k - l.counter) l.lines ≡ repeat mark_at [] l.k l.fn.lines
