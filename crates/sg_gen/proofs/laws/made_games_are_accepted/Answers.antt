use Rattle.sg_gen.specs.Generated.{made_game}
use Rattle.sg_gen.proofs.Kept.{made-is-game}
use Rattle.sg_gen.proofs.laws.made_games_are_accepted.Goals as goal

pub returns : goal.returns
returns c = λ shape is seed.
    let kept = made-is-game shape seed is in
    record { promises = kept; file = c.game_text_is_file.ensures (made_game shape seed) kept }
