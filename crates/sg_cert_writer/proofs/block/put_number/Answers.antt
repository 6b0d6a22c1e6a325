use Rattle.std.proofs.Common.{[], ◌∷◌, ◌∙◌, ap, List, ℕ}
use Rattle.std.specs.Fmt.{signed_decimal}
use Rattle.std.specs.Prelude.{FitsSigned}
use Rattle.std.specs.Int.{w128}
use Rattle.std.proofs.Common.{rules}
use Rattle.std.proofs.lemmas.Int.{to_z-of_z}
use Rattle.sg_cert_writer.proofs.Adding.{Writes-trans, Writes-as, Stops-early}
use Rattle.sg_cert_writer.proofs.block.put_number.Goals as goal

pub returns-in-Ok : goal.returns-in-Ok
returns-in-Ok g c =
    let n : FitsSigned w128 c.args.number.now = search rules in
    let e = simp to_z-of_z at c.format.ensures.text in
    Writes-as c.put_bytes.result _ _ c.args.block.now _ _ _ (ap (λ (t : List ℕ). 32 ∷ t) (c.as_bytes.ensures.value ∙ e)) (Writes-trans c.put_bytes.result _ _ _ c.args.block.now _ _ (32 ∷ []) _ c.in-Ok.ensures c.put_bytes.ensures)

pub returns-in-Err : goal.returns-in-Err
returns-in-Err g c = Stops-early _ _ c.args.block.now (32 ∷ []) (signed_decimal c.args.number.now) c.in-Err.ensures
