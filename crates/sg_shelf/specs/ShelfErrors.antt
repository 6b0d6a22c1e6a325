-- The errors of a shelf.
use Rattle.std.specs.Prelude.{ℕ}
use Rattle.sg_shelf.specs.Faults.{raised}
use Rattle.sg_shelf.specs.declared.shelf.ShelfError.{ShelfError}
use Rattle.sg_shelf.specs.declared.shelf.ShelfError.TheVariants.{Failed, TooLong, Memory}

-- too many bytes, or want of memory
abbrev pub IsTooLongOrMemory : ShelfError → Type 0
IsTooLongOrMemory Failed = ⊥
IsTooLongOrMemory (TooLong seen) = Unit {0}
IsTooLongOrMemory Memory = Unit {0}

-- a failure, or want of memory
abbrev pub IsFailedOrMemory : ShelfError → Type 0
IsFailedOrMemory Failed = Unit {0}
IsFailedOrMemory (TooLong seen) = ⊥
IsFailedOrMemory Memory = Unit {0}

-- the count of faults after the error: a failure alone is a fault
abbrev pub faults_after : ShelfError → ℕ → ℕ
faults_after Failed count = raised count
faults_after (TooLong seen) count = count
faults_after Memory count = count
