-- What the promises of a game file give a game that declares a scale.
use Rattle.std.proofs.Common.{◌≡◌, true}
use Rattle.sg_model.specs.Games.{Game}
use Rattle.sg_model.specs.Limits.{IsGame, is_scaled}
use Rattle.sg_model.specs.Fillable.{IsFillable}
use Rattle.sg_model.proofs.Forms.{no_matrix}
use Rattle.sg_model.proofs.Promises.{limited, payoff-in_range}

pub fillable : (g : Game) → IsGame g → is_scaled g ≡ true → IsFillable g
fillable g h scaled =
    let l = limited g h scaled in
    record {
      origami = l.origami;
      security = no_matrix g l.origami.security;
      one_type = l.origami.one_type;
      few_patrols = l.few_patrols;
      scale_range = l.scale;
      some = l.targets.0;
      few = l.targets.1;
      small = payoff-in_range g h 1;
    }
