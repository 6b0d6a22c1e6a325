use Rattle.sg_check.proofs.Watered.{told-scaled, water-shows}
use Rattle.sg_check.proofs.water.test_fact.Goals as goal

pub returns-in-Some : goal.returns-in-Some
returns-in-Some c =
    let h = c.in-Some.ensures in
    let g = c.args.game.now in
    rw c.in-Water.is (tt, h.0, λ caps. water-shows g c.in-Water.level c.in-Some.bound h.0.positive (told-scaled g c.requires) h.1)
