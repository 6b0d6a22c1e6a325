-- What a shelf over opened files says of them, where their readers tell what they have left.
use Rattle.std.specs.Prelude.{◌≡◌, ◌⊎◌, ℕ, List, Option, IfSome}
use Rattle.sg_shelf.specs.ReaderState.{MayHaveMore}

-- which files may be opened: a name, and what such a file has left
abbrev pub Opens : Type 1
Opens = List ℕ → Option (List ℕ) → Type 0

-- a file of this name was opened, and these bytes are all that it had left
pub record IsWholeFile (opens : List ℕ → Option (List ℕ) → Type 0) (name bytes : List ℕ) : Type 0 where
  pub left : Option (List ℕ)
  pub opened : opens name left
  pub whole : IfSome left (λ all. bytes ≡ all)

-- a file of this name was opened, and it had more bytes left than the limit
pub record IsLongFile (opens : List ℕ → Option (List ℕ) → Type 0) (name : List ℕ) (limit : ℕ) : Type 0 where
  pub left : Option (List ℕ)
  pub opened : opens name left
  pub long : MayHaveMore limit left

-- no file of this name was opened, or one was, of which a read failed
abbrev pub IsUnread : (List ℕ → Option (List ℕ) → Type 0) → (List ℕ → Type 0) → List ℕ → Type 0
IsUnread opens refuses name = refuses name ⊎ ((left : Option (List ℕ)) × opens name left)
