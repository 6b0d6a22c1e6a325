-- The whole texts of small games, written out by hand.
use Rattle.std.specs.Prelude.{◌≡◌, [], ◌∷◌, pos, None, codes}
use Rattle.sg_model.specs.declared.kind.Kind.TheVariants.{Security}
use Rattle.sg_model.specs.Games.{Game}
use Rattle.sg_model.specs.Examples.{guarded, one_player, plain, thief, two_targets}
use Rattle.sg_format.specs.GameText.{game_text}

-- two targets, and one resource that takes the first, the second or both
abbrev pub one_block : Game
one_block = record {
  kind = Security;
  scale = pos 0;
  patrols = None;
  goals = codes "t1" ∷ codes "t2" ∷ [];
  schedules = record { name = codes "s1"; members = 1 ∷ [] } ∷ record { name = codes "s2"; members = 2 ∷ [] } ∷ record { name = codes "s3"; members = 1 ∷ 2 ∷ [] } ∷ [];
  resources = record { name = codes "r1"; members = 1 ∷ 2 ∷ 3 ∷ [] } ∷ [];
  types = record { name = codes "a1"; prior = pos 1; payoffs = plain ∷ plain ∷ []; actions = []; leader = []; follower = [] } ∷ [];
}

-- a target that nobody guards
abbrev pub unguarded : Game
unguarded = record (guarded [] [] (plain ∷ [])) { types = record (thief (plain ∷ [])) { prior = pos 5 } ∷ [] }

-- the texts
pub record WorkedTexts : Type 0 where
  pub listed : game_text one_block ≡ codes "version = 1\nform = \"security\"\ntargets = [\"t1\", \"t2\"]\n\n[[schedule]]\nname = \"s1\"\ntargets = [\"t1\"]\n\n[[schedule]]\nname = \"s2\"\ntargets = [\"t2\"]\n\n[[schedule]]\nname = \"s3\"\ntargets = [\"t1\", \"t2\"]\n\n[[resource]]\nname = \"r1\"\nschedules = [\"s1\", \"s2\", \"s3\"]\n\n[[type]]\nname = \"a1\"\nprior = 1\npayoffs = [[0, -1, 0, 1], [0, -1, 0, 1]]\n"
  pub scaled : game_text two_targets ≡ codes "version = 1\nform = \"security\"\nscale = 4\npatrols = 1\ntargets = [\"a\", \"b\"]\n\n[[type]]\nname = \"thief\"\nprior = 1\npayoffs = [[2, -2, 0, 4], [1, -1, 0, 2]]\n"
  pub matrix : game_text one_player ≡ codes "version = 1\nform = \"matrix\"\nrows = [\"a\", \"b\"]\n\n[[type]]\nname = \"first\"\nprior = 1\nactions = [\"a\", \"b\"]\nleader = [[2, 4], [1, 3]]\nfollower = [[1, 0], [0, 2]]\n"
  pub empty : game_text unguarded ≡ codes "version = 1\nform = \"security\"\ntargets = [\"a\"]\nschedule = []\nresource = []\n\n[[type]]\nname = \"thief\"\nprior = 5\npayoffs = [[0, -1, 0, 1]]\n"
