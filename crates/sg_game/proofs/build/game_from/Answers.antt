use Rattle.std.proofs.Common.{refl, ◌≡◌, ◌≤◌, ℕ, arith, rules, Option, Some, None, ◌^◌}
use Rattle.sg_game.specs.Converting.{IsUnderLimit}
use Rattle.sg_game.specs.Drafts.{drawn}
use Rattle.sg_game.proofs.Promises.{goals_few, patrols_few}
use Rattle.sg_game.proofs.build.game_from.Goals as goal

below : (o : Option ℕ) → ((n : ℕ) → o ≡ Some n → n ≤ 200) → IsUnderLimit (2 ^ 15) o
below None h = tt
below (Some n) h = let few = h n refl in omega (arith, few)

pub overflow_cast-len : goal.overflow_cast-len
overflow_cast-len c = let few = goals_few (drawn c.args.draft) c.requires in let n = c.len.ensures in search rules

pub numbers_to-requires : goal.numbers_to-requires
numbers_to-requires c = let few = goals_few (drawn c.args.draft) c.requires in let n = c.len.ensures in omega (arith, few, n)

pub patrols_named-requires : goal.patrols_named-requires
patrols_named-requires c = below c.args.draft.patrols (patrols_few (drawn c.args.draft) c.requires)
