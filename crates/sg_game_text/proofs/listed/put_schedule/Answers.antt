use Rattle.std.proofs.Common.{◌∙◌, ◌++◌, ℕ, List, [], map, ap, codes}
use Rattle.sg_model.specs.Games.{unnamed}
use Rattle.sg_model.specs.Sums.{nth}
use Rattle.sg_format.specs.GameText.{head, key_line, names_array, quoted}
use Rattle.sg_game_text.proofs.Joined.{three}
use Rattle.sg_game_text.proofs.Sized.{schedule_name-is}
use Rattle.sg_game_text.proofs.listed.put_schedule.Goals as goal

pub returns : goal.returns
returns c =
    let g = c.args.game.now in
    let x = nth g.schedules c.args.s unnamed in
    let name = c.schedule_name.ensures ∙ schedule_name-is g c.args.s c.requires.listed in
    three c.args.text.now.items c.put_head.new.text.items c.put_name_line.new.text.items c.put_targets_line.new.text.items
    (head (codes "schedule")) (key_line (codes "name") (quoted x.name)) (key_line (codes "targets") (names_array (map (λ (m : ℕ). nth g.goals m []) x.members)))
    c.in_ok-put_head.ensures
    (c.in_ok-put_name_line.ensures ∙ ap (λ (k : List ℕ). c.put_head.new.text.items ++ key_line (codes "name") (quoted k)) name)
    c.in_ok-put_targets_line.ensures
