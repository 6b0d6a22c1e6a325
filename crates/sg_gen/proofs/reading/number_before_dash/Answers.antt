use Rattle.std.proofs.Common.{◌∙◌, ap, arith, lit<}
use Rattle.std.specs.Prelude.{◌==◌, decimal}
use Rattle.std.specs.List.{before_first}
use Rattle.sg_gen.proofs.Dashes.{before, digits-of, has_dash}
use Rattle.sg_gen.proofs.reading.number_before_dash.Goals as goal

pub returns-in-None : goal.returns-in-None
returns-in-None c = λ n rest low high e.
    let p = c.in-None.ensures.byte (lit< tt) (λ w o f. f) in
    has_dash (decimal n) rest (digits-of n (omega (arith, high, c.ranges.greatest))) (rw e at p)

pub returns-in-None-number_within : goal.returns-in-None-number_within
returns-in-None-number_within c = λ n rest low high e.
    let p = c.in-Some.ensures.byte (lit< tt) (λ w o f. f) in
    c.in-None-number_within.ensures n low high (p.0 ∙ (ap (before_first (λ b. b == 45)) e ∙ before (decimal n) rest (digits-of n (omega (arith, high, c.ranges.greatest)))))
