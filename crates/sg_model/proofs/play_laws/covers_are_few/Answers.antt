use Rattle.sg_model.proofs.Covers.{cover_count-sum}
use Rattle.sg_model.proofs.Forms.{no_matrix}
use Rattle.sg_model.proofs.play_laws.covers_are_few.Goals as goal

pub returns : goal.returns
returns c = λ g patrols s e k is_k. cover_count-sum g patrols e (no_matrix g s) k is_k
