use Rattle.std.proofs.Common.{◌∙◌, ◌++◌, ℕ, List, [], map, ap, codes}
use Rattle.sg_model.specs.Games.{Named, unnamed}
use Rattle.sg_model.specs.Sums.{nth}
use Rattle.sg_format.specs.GameText.{head, key_line, names_array, quoted}
use Rattle.sg_game_text.proofs.Joined.{three}
use Rattle.sg_game_text.proofs.Sized.{resource_name-is}
use Rattle.sg_game_text.proofs.listed.put_resource.Goals as goal

pub returns : goal.returns
returns c =
    let g = c.args.game.now in
    let x = nth g.resources c.args.r unnamed in
    let name = c.resource_name.ensures ∙ resource_name-is g c.args.r c.requires.listed in
    three c.args.text.now.items c.put_head.new.text.items c.put_name_line.new.text.items c.put_schedules_line.new.text.items
    (head (codes "resource")) (key_line (codes "name") (quoted x.name)) (key_line (codes "schedules") (names_array (map (λ (m : ℕ). nth (map (λ (y : Named). y.name) g.schedules) m []) x.members)))
    c.in_ok-put_head.ensures
    (c.in_ok-put_name_line.ensures ∙ ap (λ (k : List ℕ). c.put_head.new.text.items ++ key_line (codes "name") (quoted k)) name)
    c.in_ok-put_schedules_line.ensures
