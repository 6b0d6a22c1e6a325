use Rattle.std.proofs.Common.{◌∙◌, ◌++◌, ℕ, List, Option, ap, codes}
use Rattle.sg_format.specs.GameText.{form_name, goals_key, key_line, names_array, patrols_line, quoted, scale_line}
use Rattle.sg_game_text.proofs.Joined.{five}
use Rattle.sg_game_text.proofs.write.put_top_lines.Goals as goal

pub returns : goal.returns
returns c =
    let g = c.args.game.now in
    let name = c.form_name.ensures ∙ ap form_name c.kind.ensures in
    five c.args.text.now.items c.extend_from_slice.new.self.items c.put_name_line.new.text.items c.put_scale_line.new.text.items c.put_patrols_line.new.text.items c.put_goals_line.new.text.items
    (key_line (codes "version") (codes "1")) (key_line (codes "form") (quoted (form_name g.kind))) (scale_line g) (patrols_line g.patrols) (key_line (goals_key g.kind) (names_array g.goals))
    c.in_ok-extend_from_slice.ensures.items
    (c.in_ok-put_name_line.ensures ∙ ap (λ (k : List ℕ). c.extend_from_slice.new.self.items ++ key_line (codes "form") (quoted k)) name)
    c.in_ok-put_scale_line.ensures
    (c.in_ok-put_patrols_line.ensures ∙ ap (λ (p : Option ℕ). c.put_scale_line.new.text.items ++ patrols_line p) c.patrols.ensures)
    c.in_ok-put_goals_line.ensures
