-- What the list of legal plays holds, and what its length is.
use Rattle.std.specs.Prelude.{◌≡◌, ◌≢◌, ℕ, List, length, All, AllPairs, Contains}
use Rattle.sg_model.specs.Games.{Game}
use Rattle.sg_model.specs.Orders.{IsBefore}
use Rattle.sg_model.specs.Plays.{IsLegal}
use Rattle.sg_model.specs.PlayLists.{legal_plays, play_count}

-- legal plays alone, no two of them the same, and every legal play among them
pub record AreAllPlays (g : Game) (plays : List (List ℕ)) : Type 0 where
  pub legal : All (IsLegal g) plays
  pub distinct : AllPairs (λ x y. x ≢ y) plays
  pub complete : (play : List ℕ) → IsLegal g play → Contains plays play

-- the list of legal plays holds each of them once, and nothing else
abbrev pub LegalPlaysAreAll : Type 0
LegalPlaysAreAll = (g : Game) → AreAllPlays g (legal_plays g)

-- each of its plays comes before all that stand behind it
abbrev pub LegalPlaysRise : Type 0
LegalPlaysRise = (g : Game) → AllPairs IsBefore (legal_plays g)

-- it is as long as the number of plays says
abbrev pub LegalPlaysAreCounted : Type 0
LegalPlaysAreCounted = (g : Game) → length (legal_plays g) ≡ play_count g

-- and so is whatever list holds each legal play once
abbrev pub PlaysAreCounted : Type 0
PlaysAreCounted = (g : Game) (plays : List (List ℕ)) → AreAllPlays g plays → length plays ≡ play_count g
