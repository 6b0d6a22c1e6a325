-- The files of a shelf, which it may tell or not: names and bytes. Of two files with one name the first counts.
use Rattle.std.specs.Prelude.{◌≡◌, ℕ, ◌<◌, ◌≤◌, List, [], ◌∷◌, length, Option, Some, None, IsSomeAnd, bytes_eq, if◌then◌else◌}

-- names, each with its bytes
abbrev pub Files : Type 0
Files = List (List ℕ × List ℕ)

-- the bytes under a name
abbrev pub bytes_under : Files → List ℕ → Option (List ℕ)
bytes_under [] name = None
bytes_under (file ∷ files) name = if bytes_eq file.0 name then Some file.1 else bytes_under files name

-- The bytes stand under the name, where the files are told.
abbrev pub MayHold : Option Files → List ℕ → List ℕ → Type 0
MayHold None name bytes = Unit {0}
MayHold (Some files) name bytes = bytes_under files name ≡ Some bytes

-- which bytes a shelf's reads hand over: for a name and a limit
abbrev pub HandsOver : Type 1
HandsOver = List ℕ → ℕ → List ℕ → Type 0

-- any bytes at all
abbrev pub any_bytes : HandsOver
any_bytes name limit bytes = Unit {0}

-- A read of the name up to the limit may give these bytes.
pub record Reads (files : Option Files) (name : List ℕ) (limit : ℕ) (bytes : List ℕ) : Type 0 where
  pub may_hold : MayHold files name bytes
  pub within : length bytes ≤ limit

-- The files are told, and none has the name.
abbrev pub IsMissing : Option Files → List ℕ → Type 0
IsMissing None name = ⊥
IsMissing (Some files) name = bytes_under files name ≡ None

-- The files are told, and the one with the name has more bytes than the limit.
abbrev pub IsLong : Option Files → List ℕ → ℕ → Type 0
IsLong None name limit = ⊥
IsLong (Some files) name limit = IsSomeAnd (bytes_under files name) (λ bytes. limit < length bytes)
