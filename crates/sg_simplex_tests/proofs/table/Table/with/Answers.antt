use Rattle.std.proofs.Common.{◌∙◌, ap, arith, refl, ◌++◌, ◌∷◌, [], List}
use Rattle.std.specs.Int.{w64}
use Rattle.std.specs.Prelude.{FitsSigned, ℤ}
use Rattle.std.proofs.lemmas.Int.{to_z-of_z}
use Rattle.sg_simplex_tests.proofs.Held.{longer}
use Rattle.sg_simplex_tests.proofs.table.Table.with.Goals as goal

pub invariant_of-result : goal.invariant_of-result
invariant_of-result c =
    let s = c.self.inside in
    let fc : FitsSigned w64 c.args.cost = c.ranges.cost in
    let one = c.if-not-is_column.ensures.0 refl in
    let is = simp to_z-of_z at one in
    let pushed = simp to_z-of_z at c.in_ok-push.ensures.ok in
    longer s.height s.costs c.push.new.self s.entries c.push-2.new.self c.args.cost c.args.entries.now c.self.invariant (omega (arith, c.if-len-ge65535.false, c.len.ensures)) is pushed
    (c.in_ok-push-2.ensures.ok ∙ ap (λ (x : List ℤ). s.entries ++ x ∷ []) c.in_ok-column.ensures)
