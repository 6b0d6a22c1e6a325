use Rattle.std.proofs.Common.{◌≡◌, ◌∙◌, ◌∷◌, ℕ, List, Vec, ap, arith, drop, length, subst}
use Rattle.std.specs.Prelude.{OnErr, OnOk, decimal}
use Rattle.std.specs.declared.alloc.Global.{Global}
use Rattle.csv.specs.Writing.{default_writer, row_text}
use Rattle.sg_shelf.specs.Taken.{Takes, TakesFront}
use Rattle.sg_roster.specs.Rows.{assignments}
use Rattle.sg_roster.specs.Writing.{block_of}
use Rattle.sg_roster.proofs.Rowed.{longer}
use Rattle.sg_roster.proofs.Putting.{added_row, no_front}
use Rattle.sg_roster.proofs.rows.put_day.Goals as goal

pub put_row-requires : goal.put_row-requires
put_row-requires g c =
    let start : length c.as_slice-start.result.now ≡ length (block_of c.args.writer.now) = ap length (c.as_slice-start.ensures.value ∙ ap (λ (v : Vec ℕ Global). v.items) c.get_ref.ensures) in
    omega (arith, start, longer c.args.writer.now c.write_day.new.writer (decimal c.args.day ∷ assignments c.args.game.now c.args.code.now) c.in-Ok.ensures)

pub returns-in-Ok-clause-whole : goal.returns-in-Ok-clause-whole
returns-in-Ok-clause-whole g c =
    let start : length c.as_slice-start.result.now ≡ length (block_of c.args.writer.now) = ap length (c.as_slice-start.ensures.value ∙ ap (λ (v : Vec ℕ Global). v.items) c.get_ref.ensures) in
    let row = ap (λ (n : ℕ). drop n (block_of c.write_day.new.writer)) start ∙ added_row c.args.writer.now c.write_day.new.writer (decimal c.args.day ∷ assignments c.args.game.now c.args.code.now) c.in-Ok.ensures in
    subst (λ (t : List ℕ). OnOk c.put_row.result (Takes (g.O.Sink.state c.args.out.now).bytes (g.O.Sink.state c.put_row.new.out).bytes t)) row c.put_row.ensures.whole

pub returns-in-Ok-clause-front : goal.returns-in-Ok-clause-front
returns-in-Ok-clause-front g c =
    let start : length c.as_slice-start.result.now ≡ length (block_of c.args.writer.now) = ap length (c.as_slice-start.ensures.value ∙ ap (λ (v : Vec ℕ Global). v.items) c.get_ref.ensures) in
    let row = ap (λ (n : ℕ). drop n (block_of c.write_day.new.writer)) start ∙ added_row c.args.writer.now c.write_day.new.writer (decimal c.args.day ∷ assignments c.args.game.now c.args.code.now) c.in-Ok.ensures in
    subst (λ (t : List ℕ). OnErr c.put_row.result (TakesFront (g.O.Sink.state c.args.out.now).bytes (g.O.Sink.state c.put_row.new.out).bytes t)) row c.put_row.ensures.front

pub returns-in-Err-clause-front : goal.returns-in-Err-clause-front
returns-in-Err-clause-front g c = no_front (g.O.Sink.state c.args.out.now).bytes (row_text default_writer (decimal c.args.day ∷ assignments c.args.game.now c.args.code.now))
