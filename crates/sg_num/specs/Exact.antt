-- Exact operations within 128 bits: the result, or the operation whose result does not fit.
use Rattle.std.specs.Prelude.{◌≡◌, ◌^◌, Bool, true, if◌then◌else◌, ℤ, pos, negsuc, ◌+ℤ◌, ◌-ℤ◌, ◌*ℤ◌, ◌≤ℤ◌, nat_lt, Result, Ok, Err}
use Rattle.sg_num.specs.declared.step.Op.{Op}
use Rattle.sg_num.specs.declared.step.Op.TheVariants.{Sum, Less, Times}
use Rattle.sg_num.specs.declared.step.Wide.{Wide}

-- whether a whole number lies in i128, from -2^127 to 2^127 - 1
abbrev pub fits : ℤ → Bool
fits (pos n) = nat_lt n (2 ^ 127)
fits (negsuc n) = nat_lt n (2 ^ 127)

-- a number that fits 128 bits
abbrev pub Fits : ℤ → Type 0
Fits z = fits z ≡ true

-- from -b to b
abbrev pub IsAtMost : ℤ → ℤ → Type 0
IsAtMost b z = ((pos 0 -ℤ b) ≤ℤ z) × (z ≤ℤ b)

-- the exact result of an operation on two whole numbers
abbrev pub result_of : Op → ℤ → ℤ → ℤ
result_of Sum a b = a +ℤ b
result_of Less a b = a -ℤ b
result_of Times a b = a *ℤ b

-- the exact result where it fits, else the operation and its operands
abbrev pub exact : Op → ℤ → ℤ → Result ℤ Wide
exact op a b = if fits (result_of op a b) then Ok (result_of op a b) else Err (record { op = op; left = a; right = b })

-- the sum, where it fits
abbrev pub exact_sum : ℤ → ℤ → Result ℤ Wide
exact_sum a b = exact Sum a b

-- the difference, where it fits
abbrev pub exact_less : ℤ → ℤ → Result ℤ Wide
exact_less a b = exact Less a b

-- the product, where it fits
abbrev pub exact_times : ℤ → ℤ → Result ℤ Wide
exact_times a b = exact Times a b

-- a next step from the value of the one before, whose refusal comes first
abbrev pub and_then : {A B E : Type 0} → Result A E → (A → Result B E) → Result B E
and_then (Ok x) next = next x
and_then (Err e) next = Err e

-- acc + a * b: the product, then the sum
abbrev pub exact_dot_step : ℤ → ℤ → ℤ → Result ℤ Wide
exact_dot_step acc a b = and_then (exact_times a b) (λ product. exact_sum acc product)

-- a * p - q * b: the first product, the second, then their difference
abbrev pub exact_mul_sub : ℤ → ℤ → ℤ → ℤ → Result ℤ Wide
exact_mul_sub a p q b = and_then (exact_times a p) (λ left. and_then (exact_times q b) (λ right. exact_less left right))
