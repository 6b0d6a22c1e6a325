use Rattle.std.proofs.Common.{sym, subst}
use Rattle.sg_model.specs.Limits.{IsGame}
use Rattle.sg_game.proofs.Fitting.{fits_made}
use Rattle.sg_game.proofs.game.Game.made.Goals as goal

pub draft_from-requires : goal.draft_from-requires
draft_from-requires c = fits_made c.args.parts c.requires

pub game_from-requires : goal.game_from-requires
game_from-requires c = subst IsGame (sym c.in_ok-draft.ensures) c.requires
