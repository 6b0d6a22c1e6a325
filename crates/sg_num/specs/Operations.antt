-- Operations on whole numbers in the order in which they are formed, and the first whose result doesn't fit 128 bits.
use Rattle.std.specs.Prelude.{◌≡◌, ◌↔◌, Bool, if◌then◌else◌, IsTrue, List, [], ◌∷◌, ◌++◌, map, All, ℤ, Option, Some, None, Result, Ok, Err, IsOk}
use Rattle.sg_num.specs.declared.step.Op.TheVariants.{Sum, Less, Times}
use Rattle.sg_num.specs.declared.step.Wide.{Wide}
use Rattle.sg_num.specs.Exact.{Fits, fits, result_of}

-- the sum of two numbers, as an operation with its operands
abbrev pub plus : ℤ → ℤ → Wide
plus a b = record { op = Sum; left = a; right = b }

-- the difference
abbrev pub minus : ℤ → ℤ → Wide
minus a b = record { op = Less; left = a; right = b }

-- the product
abbrev pub times : ℤ → ℤ → Wide
times a b = record { op = Times; left = a; right = b }

-- the exact result of an operation
abbrev pub value_of_step : Wide → ℤ
value_of_step step = result_of step.op step.left step.right

-- whether it fits
abbrev pub is_formed : Wide → Bool
is_formed step = fits (value_of_step step)

-- it does
abbrev pub DoesFit : Wide → Type 0
DoesFit step = IsTrue (is_formed step)

-- the first of these operations that doesn't fit
abbrev pub first_wide : List Wide → Option Wide
first_wide [] = None
first_wide (step ∷ steps) = if is_formed step then first_wide steps else Some step

-- the value, where all of these operations fit, else the first that doesn't
abbrev pub formed : {A : Type 0} → List Wide → A → Result A Wide
formed [] value = Ok value
formed (step ∷ steps) value = if is_formed step then formed steps value else Err step

-- the operation that is told does not fit, and each one before it does
abbrev pub FirstWideIsFirst : Type 0
FirstWideIsFirst =
    (steps : List Wide) (w : Wide) → first_wide steps ≡ Some w
    → (before : List Wide) × ((after : List Wide) × ((steps ≡ before ++ w ∷ after) × All DoesFit before × ¬ (DoesFit w)))

-- where none is told, each one fits
abbrev pub NoneWideFits : Type 0
NoneWideFits = (steps : List Wide) → first_wide steps ≡ None → All DoesFit steps

-- the value comes where none is told, and else the first is
abbrev pub FormedIsFirst : Type 0
FormedIsFirst = (steps : List Wide) (value : ℤ)
    → (first_wide steps ≡ None → formed steps value ≡ Ok value) × ((w : Wide) → first_wide steps ≡ Some w → formed steps value ≡ Err w)

-- the results of all operations fit exactly where the value comes
abbrev pub ResultsFitWhereFormed : Type 0
ResultsFitWhereFormed = (steps : List Wide) (value : ℤ) → All Fits (map value_of_step steps) ↔ IsOk (formed steps value)
