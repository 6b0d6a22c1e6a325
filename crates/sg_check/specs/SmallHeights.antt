-- Levels so small that all sums of their test fit.
use Rattle.std.specs.Prelude.{◌^◌, pos, ◌-ℤ◌}
use Rattle.sg_frac.specs.Fractions.{Fraction}
use Rattle.sg_model.specs.Limits.{IsWithin}

-- a level with parts so small that all sums of its test fit
pub record IsSmallHeight (h : Fraction) : Type 0 where
  pub den : IsWithin (pos 1) (pos (2 ^ 46)) h.den
  pub num : IsWithin (pos 0 -ℤ pos (2 ^ 77)) (pos (2 ^ 77)) h.num
