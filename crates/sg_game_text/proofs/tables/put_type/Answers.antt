use Rattle.std.proofs.Common.{◌≡◌, ◌∙◌, ◌++◌, ℕ, ℤ, List, ap, arith, codes, to_z, of_z}
use Rattle.std.specs.Int.{w64}
use Rattle.std.specs.Fmt.{signed_decimal}
use Rattle.std.proofs.lemmas.Int.{ints}
use Rattle.sg_model.specs.Games.{attacker}
use Rattle.sg_format.specs.GameText.{head, key_line, pay_lines, quoted}
use Rattle.sg_game_text.proofs.Joined.{four}
use Rattle.sg_game_text.proofs.tables.put_type.Goals as goal

pub returns : goal.returns
returns c =
    let x = attacker c.args.game.now c.args.l in
    let prior = to_z w64 (of_z w64 c.prior.result) in
    let same : prior ≡ x.prior = omega (arith, ints, c.prior.ensures.prior, c.prior.type_inv) in
    four c.args.text.now.items c.put_head.new.text.items c.put_name_line.new.text.items c.put_number_line.new.text.items c.put_pay_lines.new.text.items
    (head (codes "type")) (key_line (codes "name") (quoted x.name)) (key_line (codes "prior") (signed_decimal x.prior)) (pay_lines c.args.game.now.kind x)
    c.in_ok-put_head.ensures
    (c.in_ok-put_name_line.ensures ∙ ap (λ (k : List ℕ). c.put_head.new.text.items ++ key_line (codes "name") (quoted k)) c.type_name.ensures)
    (c.in_ok-put_number_line.ensures ∙ ap (λ (z : ℤ). c.put_name_line.new.text.items ++ key_line (codes "prior") (signed_decimal z)) same)
    c.in_ok-put_pay_lines.ensures
