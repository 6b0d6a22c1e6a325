use Rattle.std.proofs.Common.{◌≡◌, ◌∙◌, ◌++◌, ◌∷◌, [], ℤ, List, Vec, Global, get_or, Ok, sym}
use Rattle.std.proofs.lemmas.List.{map_push}
use Rattle.toml.specs.View.{view as data_of}
use Rattle.sg_game.specs.Seen.{number_lists}
use Rattle.sg_format.specs.Types.{pays_at}
use Rattle.sg_file.specs.Answers.{FailsPart}
use Rattle.sg_file.proofs.Items.{each-Fails, each-next, each-done}
use Rattle.sg_file.proofs.types.pay_rows.Goals as goal

pub returns-in-Err : goal.returns-in-Err
returns-in-Err c =
    let read : FailsPart c.in-Err.e (pays_at c.args.place c.args.columns (data_of (get_or c.args.values.now c.loop-i.i c.index-values-i.result))) = rw (← c.index-values-i.is) c.in-Err.ensures in
    rw (← c.loop-i.invariant) (each-Fails (λ before. pays_at c.args.place c.args.columns) (number_lists c.loop-i.table.items) c.args.values.now c.loop-i.i c.index-values-i.result c.in-Err.e c.loop-i-test.true read)

pub loop-i-preserved : goal.loop-i-preserved
loop-i-preserved c =
    let read : pays_at c.args.place c.args.columns (data_of (get_or c.args.values.now c.loop-i.i c.index-values-i.result)) ≡ Ok c.in-Ok.row.items = rw (← c.index-values-i.is) c.in-Ok.ensures in
    let step = each-next (λ (before : List (List ℤ)). pays_at c.args.place c.args.columns) (number_lists c.loop-i.table.items) c.args.values.now c.loop-i.i c.index-values-i.result _ c.loop-i-test.true read in
    let pushed : number_lists c.push.new.self.items ≡ number_lists c.loop-i.table.items ++ c.in-Ok.row.items ∷ [] =
    rw (c.in_ok-push-in-Ok.ensures.items) (map_push (λ (v : Vec ℤ Global). v.items) c.loop-i.table.items c.in-Ok.row) in
    rw pushed (sym step ∙ c.loop-i.invariant)

pub returns : goal.returns
returns c = sym c.loop-i.invariant ∙ each-done (λ before. pays_at c.args.place c.args.columns) (number_lists c.loop-i.table.items) c.args.values.now c.loop-i.i c.loop-i-test.false
