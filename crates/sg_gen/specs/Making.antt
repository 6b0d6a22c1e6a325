-- Parts of a generated game while they are made.
use Rattle.std.specs.Prelude.{◌≡◌, ℕ, ◌+◌, ◌<◌, ◌^◌, List, map, Vec}
use Rattle.std.specs.declared.alloc.Global.{Global}
use Rattle.rand_chacha.specs.ChaCha.{ChaCha}
use Rattle.sg_model.specs.Games.{Game}
use Rattle.sg_game.specs.declared.parts.Parts.{Parts}
use Rattle.sg_game.specs.Building.{HasOwnFields, IsTold}
use Rattle.sg_game.specs.Seen.{game_of}
use Rattle.sg_gen.specs.Draws.{generator_at}

-- lists of members
abbrev pub member_lists : List (Vec ℕ Global) → List (List ℕ)
member_lists lists = map (λ (v : Vec ℕ Global). v.items) lists

-- parts that say all of a game, and nothing of the other form
pub record IsPartsOf (p : Parts) (g : Game) : Type 0 where
  pub own : HasOwnFields p
  pub told : IsTold p
  pub game : game_of p ≡ g

-- from the place k of a seed's words the generator gave n, and f says at each place what they are made into
abbrev pub Draws : {X : Type 0} → ChaCha → ChaCha → ℕ → X → (ℕ → ℕ → X) → Type 0
Draws before after n x f = (seed k : ℕ) → k + n < 2 ^ 60 → before ≡ generator_at seed k → (x ≡ f seed k) × (after ≡ generator_at seed (k + n))
