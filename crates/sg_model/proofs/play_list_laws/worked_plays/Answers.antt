use Rattle.std.proofs.Common.{refl}
use Rattle.sg_model.proofs.play_list_laws.worked_plays.Goals as goal

pub returns : goal.returns
returns c = record { joint = refl; joint_count = refl; patrolled = refl; idle = refl; rows = refl; first_difference = refl; extension = refl; same = refl }
