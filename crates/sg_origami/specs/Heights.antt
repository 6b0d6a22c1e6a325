-- Levels in the range of those that are formed.
use Rattle.std.specs.Prelude.{◌^◌, pos, ◌-ℤ◌}
use Rattle.sg_model.specs.Limits.{IsWithin}
use Rattle.sg_frac.specs.Fractions.{Fraction}

-- the numerator is from -2^77 to 2^77, the denominator from 1 to 2^46
pub record IsHeight (level : Fraction) : Type 0 where
  pub num : IsWithin (pos 0 -ℤ pos (2 ^ 77)) (pos (2 ^ 77)) level.num
  pub den : IsWithin (pos 1) (pos (2 ^ 46)) level.den
