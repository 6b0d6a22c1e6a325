-- Bounds as they are kept: in lowest terms.
use Rattle.std.specs.Prelude.{Option, Some, None}
use Rattle.sg_frac.specs.Fractions.{Fraction, IsReducedForm}

-- a kept fraction is this one in lowest terms
abbrev pub Stands : Fraction → Fraction → Type 0
Stands f x = IsReducedForm x.num x.den f

-- both are none, or one is the other in lowest terms
abbrev pub StandsFor : Option Fraction → Option Fraction → Type 0
StandsFor None None = Unit {0}
StandsFor None (Some x) = ⊥
StandsFor (Some f) None = ⊥
StandsFor (Some f) (Some x) = Stands f x
