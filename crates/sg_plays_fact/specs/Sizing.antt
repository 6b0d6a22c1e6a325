-- Numbers that are there exactly where all that they are formed of fits, and the numbers under a size sum.
use Rattle.std.specs.Prelude.{◌≡◌, List, [], ◌∷◌, ◌++◌, ℤ, pos, ◌+ℤ◌, ◌*ℤ◌, All, Option, MatchOption}
use Rattle.sg_model.specs.Sums.{total}
use Rattle.sg_num.specs.Exact.{Fits}
use Rattle.sg_bounds.specs.Sizes.{running}

-- z where all these numbers fit, and else nothing
abbrev pub IsWhereAllFit : Option ℤ → List ℤ → ℤ → Type 0
IsWhereAllFit o xs z = MatchOption o (All Fits xs → ⊥) (λ v. All Fits xs × (v ≡ z))

-- the numbers under a size sum, and the sum: of rho, the fixed priors, the most of the defender, the multipliers and the most of an attacker
abbrev pub size_numbers : ℤ → ℤ → ℤ → List ℤ → ℤ → List ℤ
size_numbers rho priors defender vs attacker =
    (rho *ℤ priors) ∷ ((rho *ℤ priors) *ℤ defender)
    ∷ (running (pos 0) vs ++ ((total (λ v. v) vs *ℤ attacker) ∷ (((rho *ℤ priors) *ℤ defender) +ℤ (total (λ v. v) vs *ℤ attacker)) ∷ []))
