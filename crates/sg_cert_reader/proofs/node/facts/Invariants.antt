use Rattle.std.proofs.Common.{◌≡◌, ◌-◌, []}
use Rattle.sg_cert.specs.Reading.{repeat, fact_at}
use Rattle.sg_cert_reader.proofs.node.facts.Given as goal

abbrev pub invariant-loop : goal.invariant-loop
invariant-loop l = repeat (λ done q. fact_at q) l.facts (l.n - l.counter) l.lines ≡ repeat (λ done q. fact_at q) [] l.n l.fn.lines
