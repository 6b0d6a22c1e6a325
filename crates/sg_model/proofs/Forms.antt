-- The two forms of a game.
use Rattle.std.proofs.Common.{◌≡◌, false, ap}
use Rattle.sg_model.specs.declared.kind.Kind.TheVariants.{Security}
use Rattle.sg_model.specs.Games.{Game, is_kind_matrix, is_matrix}

pub no_matrix : (g : Game) → g.kind ≡ Security → is_matrix g ≡ false
no_matrix g e = ap is_kind_matrix e
