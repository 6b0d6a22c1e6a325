use Rattle.std.proofs.Common.{◌≡◌, ◌+◌, [], pos, ap, arith, to_z, of_z}
use Rattle.std.specs.Int.{w64}
use Rattle.std.proofs.lemmas.Int.{ints}
use Rattle.std.specs.Fmt.{signed_decimal}
use Rattle.sg_model.specs.Games.{attacker}
use Rattle.sg_model.specs.Sums.{nth}
use Rattle.sg_game_text.specs.Writing.{table_of_side}
use Rattle.sg_game_text.proofs.Joined.{array_written, nth_written}
use Rattle.sg_game_text.proofs.Sized.{columns_count}
use Rattle.sg_game_text.proofs.tables.put_row.Goals as goal

pub loop-a-preserved : goal.loop-a-preserved
loop-a-preserved c =
    let count = columns_count c.args.game.now c.args.side c.args.l c.args.i c.promises.ensures c.requires.matrix c.requires.known_type c.requires.known_row in
    let row = nth (table_of_side c.args.side (attacker c.args.game.now c.args.l)) c.args.i [] in
    let pay = to_z w64 (of_z w64 c.pay.result) in
    let same : pay ≡ nth row (c.loop-a.a + 1) (pos 0) = omega (arith, ints, c.pay.ensures, c.pay.type_inv) in
    nth_written signed_decimal (nth (table_of_side c.args.side (attacker c.args.game.now c.args.l)) c.args.i []) c.loop-a.a c.from.result (pos 0) c.push.new.self.items c.loop-a.text.items c.put_comma.new.text.items c.put_number.new.text.items (signed_decimal pay)
    (omega (arith, count)) (omega arith) c.loop-a.invariant c.in_ok-put_comma.ensures c.in_ok-put_number.ensures (ap signed_decimal same)

pub returns : goal.returns
returns c =
    let count = columns_count c.args.game.now c.args.side c.args.l c.args.i c.promises.ensures c.requires.matrix c.requires.known_type c.requires.known_row in
    array_written signed_decimal (nth (table_of_side c.args.side (attacker c.args.game.now c.args.l)) c.args.i []) c.loop-a.a c.args.text.now.items c.push.new.self.items c.loop-a.text.items c.push-2.new.self.items
    (omega (arith, count)) c.in_ok-push.ensures.items c.loop-a.invariant c.in_ok-push-2.ensures.items
