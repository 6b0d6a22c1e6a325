-- Each operation is the first that doesn't fit.
use Rattle.std.proofs.Common.{refl}
use Rattle.sg_programs.specs.Refusals.{RefusalsAreWorked}

pub worked_refusals : RefusalsAreWorked
worked_refusals = record {
  size = record { prior = refl; payoff = refl; marks = refl; twice = refl; both = refl };
  bounds = record { rest = refl; sum = refl; priors = refl };
  point = record { product = refl; running = refl; multiple = refl; weight = refl; total = refl };
}
