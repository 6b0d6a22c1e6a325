use Rattle.sg_model.proofs.Before.{test_is_order}
use Rattle.sg_model.proofs.play_list_laws.test_is_order.Goals as goal

pub returns : goal.returns
returns c = test_is_order
