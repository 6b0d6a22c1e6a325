-- Lists of legal plays, worked out by hand.
use Rattle.std.specs.Prelude.{◌≡◌, ℕ, true, false, List, [], ◌∷◌}
use Rattle.sg_model.specs.Orders.{is_before}
use Rattle.sg_model.specs.PlayLists.{legal_plays, play_count}
use Rattle.sg_model.specs.Examples.{three_rows, two_targets, two_thieves, unpatrolled}

pub record AreWorkedPlays : Type 0 where
  -- one schedule for the first resource, two for the second
  pub joint : legal_plays two_thieves ≡ (0 ∷ 0 ∷ []) ∷ (0 ∷ 1 ∷ []) ∷ (0 ∷ 2 ∷ []) ∷ (1 ∷ 0 ∷ []) ∷ (1 ∷ 1 ∷ []) ∷ (1 ∷ 2 ∷ []) ∷ []
  pub joint_count : play_count two_thieves ≡ 6
  -- one patrol: idle, or one of two targets
  pub patrolled : legal_plays two_targets ≡ (0 ∷ []) ∷ (1 ∷ []) ∷ (2 ∷ []) ∷ []
  -- no patrol: the play of no choice
  pub idle : legal_plays unpatrolled ≡ [] ∷ []
  pub rows : legal_plays three_rows ≡ (1 ∷ []) ∷ (2 ∷ []) ∷ (3 ∷ []) ∷ []
  -- the first difference decides, and a list comes before what goes on
  pub first_difference : is_before (1 ∷ 9 ∷ []) (2 ∷ 0 ∷ []) ≡ true
  pub extension : is_before (1 ∷ []) (1 ∷ 0 ∷ []) ≡ true
  pub same : is_before (1 ∷ 2 ∷ []) (1 ∷ 2 ∷ []) ≡ false
