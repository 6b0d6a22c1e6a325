use Rattle.std.proofs.Common.{◌≡◌, Bool, None, sym, subst}
use Rattle.sg_model.specs.Games.{Game}
use Rattle.sg_model.specs.Limits.{IsGame}
use Rattle.sg_game.specs.Drafts.{IsCountable, drawn}
use Rattle.sg_game.specs.Faults.{whole_fault}
use Rattle.sg_game.specs.Seen.{game_of}
use Rattle.sg_game.proofs.Fielded.{fielded}
use Rattle.sg_game.proofs.Drawn.{fits_draft, small}
use Rattle.sg_game.proofs.Sound.{makes_game}
use Rattle.sg_game.proofs.game.Game.of.Goals as goal

pub draft_from-requires : goal.draft_from-requires
draft_from-requires c = fits_draft c.args.parts c.requires (fielded c.args.parts c.in_ok-test_fields.ensures)

pub test_whole-requires : goal.test_whole-requires
test_whole-requires c =
    subst IsCountable (sym c.in_ok-draft.ensures) (small c.args.parts c.requires (fielded c.args.parts c.in_ok-test_fields.ensures))

pub game_from-requires : goal.game_from-requires
game_from-requires c =
    let f = fielded c.args.parts c.in_ok-test_fields.ensures in
    let whole : whole_fault c.is_some-is_scale_given.result (drawn c.in_ok-draft.draft) ≡ None = c.in_ok-test_whole.ensures in
    let same : whole_fault c.is_some-is_scale_given.result (game_of c.args.parts) ≡ None = subst (λ (g : Game). whole_fault c.is_some-is_scale_given.result g ≡ None) c.in_ok-draft.ensures whole in
    subst IsGame (sym c.in_ok-draft.ensures) (makes_game c.args.parts c.requires f (subst (λ (b : Bool). whole_fault b (game_of c.args.parts) ≡ None) c.is_some-is_scale_given.ensures same))
