use Rattle.std.proofs.Common.{◌≡◌, ◌-◌, []}
use Rattle.sg_cert.specs.Reading.{repeat, row_at}
use Rattle.sg_cert_reader.proofs.fact.rows.Given as goal

abbrev pub invariant-loop : goal.invariant-loop
invariant-loop l = repeat row_at l.rows (l.k - l.counter) l.lines ≡ repeat row_at [] l.k l.fn.lines
