-- That a count rose, in other words.
use Rattle.std.proofs.Common.{ℕ, ◌<◌, ◌≤◌, arith}
use Rattle.sg_shelf.specs.Faults.{HasRisen, HasNotRisen}
use Rattle.sg_shelf.specs.RiseLaws.{RisesAreStrict}

no_rise : (before after : ℕ) → ¬ (HasRisen before after) → HasNotRisen before after
no_rise before after h = omega (arith, h)

pub rises_are_strict : RisesAreStrict
rises_are_strict = record {
  contrary = λ before after. (λ calm risen. omega (arith, calm, risen), no_rise before after);
  strict = λ before after low. (λ risen. omega (arith, low, risen), λ more. omega (arith, low, more));
  last = λ before after high. (λ risen. omega (arith, high, risen), λ there. omega (arith, high, there));
}
