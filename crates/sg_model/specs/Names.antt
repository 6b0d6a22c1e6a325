-- How the names of a game are spelled.
use Rattle.std.specs.Prelude.{◌≡◌, ◌≢◌, ℕ, Bool, true, ◌&&◌, ◌||◌, ◌==◌, nat_le, List, length, All, AllPairs}
use Rattle.std.specs.List.{list_all}
use Rattle.std.specs.Char.{is_ascii_alphanumeric}

-- a letter, a digit, an underscore or a dash
abbrev pub is_name_byte : ℕ → Bool
is_name_byte b = (is_ascii_alphanumeric b || b == 95) || b == 45

-- one to 64 of them
unfoldable pub is_name : List ℕ → Bool
is_name text = (nat_le 1 (length text) && nat_le (length text) 64) && list_all is_name_byte text

-- names, no two of them the same
pub record AreNames (names : List (List ℕ)) : Type 0 where
  pub spelled : All (λ name. is_name name ≡ true) names
  pub distinct : AllPairs (λ x y. x ≢ y) names
