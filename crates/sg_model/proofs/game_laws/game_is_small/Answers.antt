use Rattle.sg_model.proofs.Sizes.{short_lists, small_counts}
use Rattle.sg_model.proofs.game_laws.game_is_small.Goals as goal

pub returns : goal.returns
returns c = λ g h. (short_lists g h, small_counts g (short_lists g h))
