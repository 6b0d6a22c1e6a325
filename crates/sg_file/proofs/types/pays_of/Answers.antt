use Rattle.std.proofs.Common.{◌≡◌, ◌∙◌, ℤ, List, ◌++◌, ◌∷◌, [], get_or, Ok, Err, sym, rules, FitsSigned, w64}
use Rattle.std.proofs.lemmas.Int.{to_z-of_z}
use Rattle.toml.specs.View.{view as data_of}
use Rattle.sg_format.specs.Types.{pay_at}
use Rattle.sg_file.proofs.Items.{each-failed, each-next, each-done}
use Rattle.sg_file.proofs.types.pays_of.Goals as goal

pub returns-in-Err : goal.returns-in-Err
returns-in-Err c =
    let read : pay_at c.args.place (data_of (get_or c.args.values.now c.loop-i.i c.index-values-i.result)) ≡ Err c.in-Err.fault = rw (← c.index-values-i.is) (sym c.in-Err.ensures) in
    sym c.loop-i.invariant ∙ each-failed (λ before. pay_at c.args.place) c.loop-i.pays.items c.args.values.now c.loop-i.i c.index-values-i.result c.in-Err.fault c.loop-i-test.true read

pub loop-i-preserved : goal.loop-i-preserved
loop-i-preserved c =
    let read : pay_at c.args.place (data_of (get_or c.args.values.now c.loop-i.i c.index-values-i.result)) ≡ Ok c.in-Ok.number = rw (← c.index-values-i.is) (sym c.in-Ok.ensures) in
    let step = each-next (λ (before : List ℤ). pay_at c.args.place) c.loop-i.pays.items c.args.values.now c.loop-i.i c.index-values-i.result _ c.loop-i-test.true read in
    let fit : FitsSigned w64 c.in-Ok.number = search rules in
    let pushed : c.push.new.self.items ≡ c.loop-i.pays.items ++ c.in-Ok.number ∷ [] = simp to_z-of_z at c.in_ok-push-in-Ok.ensures.items in
    rw pushed (sym step ∙ c.loop-i.invariant)

pub returns : goal.returns
returns c = sym c.loop-i.invariant ∙ each-done (λ before. pay_at c.args.place) c.loop-i.pays.items c.args.values.now c.loop-i.i c.loop-i-test.false
