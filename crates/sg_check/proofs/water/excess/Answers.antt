use Rattle.std.proofs.Common.{◌∙◌, ◌-ℤ◌, ◌*ℤ◌}
use Rattle.sg_check.proofs.Spans.{excess_made}
use Rattle.sg_check.proofs.water.excess.Goals as goal

pub overflow_sub-result : goal.overflow_sub-result
overflow_sub-result c = (excess_made c.args.pays.now.uncovered c.den.result c.num.result c.requires.pays.uncovered c.den.ensures.range c.num.ensures.range).fits

pub returns-clause-value : goal.returns-clause-value
returns-clause-value c = (excess_made c.args.pays.now.uncovered c.den.result c.num.result c.requires.pays.uncovered c.den.ensures.range c.num.ensures.range).value ∙ (λ i. c.args.pays.now.uncovered *ℤ c.den.ensures.value i -ℤ c.num.ensures.value i)

pub returns-clause-low : goal.returns-clause-low
returns-clause-low c = (excess_made c.args.pays.now.uncovered c.den.result c.num.result c.requires.pays.uncovered c.den.ensures.range c.num.ensures.range).low

pub returns-clause-high : goal.returns-clause-high
returns-clause-high c = (excess_made c.args.pays.now.uncovered c.den.result c.num.result c.requires.pays.uncovered c.den.ensures.range c.num.ensures.range).high
