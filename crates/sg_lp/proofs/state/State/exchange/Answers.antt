use Rattle.std.proofs.Common.{◌≡◌, ◌<◌, ◌∙◌, ℕ, List, [], ◌++◌, ap, arith, drop, length, rules, slice_index_or, slice_set, subst, sym, take, None}
use Rattle.std.specs.Int.{w128}
use Rattle.std.specs.Prelude.{FitsSigned, ℤ}
use Rattle.std.proofs.lemmas.Int.{to_z-of_z}
use Rattle.std.proofs.lemmas.List.{length-map, length-set, take_at}
use Rattle.sg_num.specs.Operations.{first_wide}
use Rattle.sg_lp.specs.Exchanging.{ListsExchanged, OthersFit}
use Rattle.sg_lp.specs.Moves.{Exchanges, row_steps}
use Rattle.sg_lp.specs.States.{AreHeld, StateView, held_tableau}
use Rattle.sg_lp.specs.declared.column.Enter.{Enter}
use Rattle.sg_lp.proofs.Exchanged.{exchanged, others_fit}
use Rattle.sg_lp.proofs.Fronts.{held_after}
use Rattle.sg_lp.proofs.state.State.exchange.Goals as goal

pub exchange_lists-rho-requires-clause-rows_fit : goal.exchange_lists-rho-requires-clause-rows_fit
exchange_lists-rho-requires-clause-rows_fit c =
    let rows = c.self.inside.rows.items in
    let q = c.args.products.now in
    let r = c.args.leaving in
    let n = length c.self.inside.basis in
    let fits = subst (λ (v : StateView). first_wide (row_steps v.tableau.rows q r) ≡ None) (sym c.self.view_is) c.requires.rows_fit in
    let inside = subst (λ (v : StateView). r < length v.tableau.rows) (sym c.self.view_is) c.requires.within in
    let within : r < length rows = omega (arith, length-map rows (take n), inside) in
    subst (λ (k : ℕ). OthersFit k c.as_mut_slice-rows.result.now q r (slice_index_or c.as_mut_slice-rows.result.now r [])) (sym c.len-height.ensures)
    (subst (λ (z : List (List ℤ)). OthersFit n z q r (slice_index_or z r [])) (sym c.as_mut_slice-rows.ensures.value) (others_fit n rows q r within fits))

pub invariant_of-self : goal.invariant_of-self
invariant_of-self c =
    let held = c.self.invariant in
    let rows = c.self.inside.rows.items in
    let x = c.exchange_lists-rho.ensures in
    let new = c.exchange_lists-rho.new.rows in
    let same = c.as_mut_slice-rows.ensures.value in
    let many : length new ≡ length rows = x.rows.many ∙ ap length same in
    let len : length new ≡ c.self.inside.rows.len = (let o = c.self.inside.rows.ok in omega arith) in
    let basis = ap length c.set.ensures ∙ length-set c.self.inside.basis c.args.leaving c.args.entering in
    subst (λ (z : List (List ℤ)). AreHeld (length c.set.new.self) c.self.inside.width z c.exchange_lists-rho.new.y) (sym (take_at new (drop (length new) rows) c.self.inside.rows.len len))
    (held_after (length c.self.inside.basis) (length c.set.new.self) c.self.inside.width rows new c.self.inside.y c.exchange_lists-rho.new.y held basis many
    (λ k h. x.rows.wide k (let l = ap length same in omega arith) ∙ ap (λ (z : List (List ℤ)). length (slice_index_or z k [])) same) x.y_wide)

pub returns-clause-exchanged : goal.returns-clause-exchanged
returns-clause-exchanged c =
    let fr : FitsSigned w128 c.self.inside.rho = search rules in
    let fg : FitsSigned w128 c.args.gap = c.ranges.gap in
    let fu : FitsSigned w128 c.exchange_lists-rho.result = search rules in
    let basis = c.self.inside.basis in
    let rows = c.self.inside.rows.items in
    let y = c.self.inside.y in
    let q = c.args.products.now in
    let r = c.args.leaving in
    let s = c.args.entering in
    let new = c.exchange_lists-rho.new.rows in
    let y' = c.exchange_lists-rho.new.y in
    let x = simp to_z-of_z at c.exchange_lists-rho.ensures in
    let same = c.as_mut_slice-rows.ensures.value in
    let by_rows = subst (λ (z : List (List ℤ)). ListsExchanged c.len-height.result z new y y' c.self.inside.rho c.exchange_lists-rho.result q r c.args.gap) same x in
    let by_height = subst (λ (n : ℕ). ListsExchanged n rows new y y' c.self.inside.rho c.exchange_lists-rho.result q r c.args.gap) c.len-height.ensures by_rows in
    let inside = subst (λ (v : StateView). r < length v.tableau.rows) (sym c.self.view_is) c.requires.within in
    let within : r < length rows = omega (arith, length-map rows (take (length basis)), inside) in
    let whole = exchanged basis rows new y y' c.self.inside.rho c.exchange_lists-rho.result q c.args.gap s r within by_height in
    let many : length new ≡ length rows = by_height.rows.many in
    let len : length new ≡ c.self.inside.rows.len = (let o = c.self.inside.rows.ok in omega arith) in
    let kept = subst (λ (z : List (List ℤ)). Exchanges (held_tableau basis rows y c.self.inside.rho) s r q c.args.gap (held_tableau (slice_set basis r s) z y' c.exchange_lists-rho.result)) (sym (take_at new (drop (length new) rows) c.self.inside.rows.len len)) whole in
    let based = subst (λ (b : List Enter). Exchanges (held_tableau basis rows y c.self.inside.rho) s r q c.args.gap (held_tableau b (take c.self.inside.rows.len (new ++ drop (length new) rows)) y' c.exchange_lists-rho.result)) (sym c.set.ensures) kept in
    simp to_z-of_z (subst (λ (v : StateView). Exchanges v.tableau s r q c.args.gap (held_tableau c.set.new.self (take c.self.inside.rows.len (new ++ drop (length new) rows)) y' c.exchange_lists-rho.result)) c.self.view_is based)
