use Rattle.std.proofs.Common.{[], ◌∷◌, ◌∙◌, ap, List, ℕ}
use Rattle.std.specs.Prelude.{decimal}
use Rattle.sg_cert_writer.proofs.Adding.{Writes-trans, Writes-as, Stops-early}
use Rattle.sg_cert_writer.proofs.block.put_choice.Goals as goal

pub returns-in-Ok : goal.returns-in-Ok
returns-in-Ok g c =
    let e = c.format.ensures.text in
    Writes-as c.put_bytes.result _ _ c.args.block.now _ _ _ (ap (λ (t : List ℕ). 32 ∷ t) (c.as_bytes.ensures.value ∙ e)) (Writes-trans c.put_bytes.result _ _ _ c.args.block.now _ _ (32 ∷ []) _ c.in-Ok.ensures c.put_bytes.ensures)

pub returns-in-Err : goal.returns-in-Err
returns-in-Err g c = Stops-early _ _ c.args.block.now (32 ∷ []) (decimal c.args.choice) c.in-Err.ensures
