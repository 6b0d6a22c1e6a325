use Rattle.std.proofs.Common.{◌∙◌, ◌<◌, arith, ap, subst, sym, ℕ}
use Rattle.std.specs.Int.{w128, w64}
use Rattle.std.proofs.lemmas.Int.{to_z-of_z}
use Rattle.sg_lp.specs.Pricing.{told_of}
use Rattle.sg_lp.proofs.Listing.{says_listing}
use Rattle.sg_programs.specs.CoverPrograms.{cover_program}
use Rattle.sg_programs.specs.Nodes.{NodeOf}
use Rattle.sg_programs.proofs.Found.{clean-found, found-same, spent-found, wide-found}
use Rattle.sg_eraser.proofs.Answered.{any-item, at-rho, clean-here, enters-here, fails-here, lengths, number-fits, rows-named, spent-here, stays-here}
use Rattle.sg_eraser.proofs.cover.CoverFamily.price.Goals as goal

pub does_enter-requires : goal.does_enter-requires
does_enter-requires c =
    let s = c.self.inside in
    let v = c.args.self.now in
    let n : NodeOf = record { game = s.game.now; fix = s.fix } in
    let at = any-item c.as_slice-entries.result.now c.loop-k.k _ (subst (λ (m : ℕ). c.loop-k.k < m) (lengths v n s.rows s.columns s.costs _ s.entries _ c.self.view_is c.self.invariant c.as_slice-costs.ensures c.as_slice-entries.ensures c.args.y.now c.requires) c.loop-k-test.true) c.index-entries-k.is in
    rows-named v n s.rows s.columns s.costs _ s.entries _ c.self.view_is c.self.invariant c.as_slice-costs.ensures c.as_slice-entries.ensures c.args.y.now c.requires c.loop-k.k c.loop-k-test.true _ (c.as_slice.ensures ∙ at)

pub overflow_cast-k : goal.overflow_cast-k
overflow_cast-k c =
    let s = c.self.inside in
    let v = c.args.self.now in
    let n : NodeOf = record { game = s.game.now; fix = s.fix } in
    omega (arith, number-fits v n s.rows s.columns s.costs _ s.entries _ c.self.view_is c.self.invariant c.as_slice-costs.ensures c.as_slice-entries.ensures c.args.y.now c.requires c.promises.ensures c.loop-k.k c.loop-k-test.true)

pub overflow_add-k : goal.overflow_add-k
overflow_add-k c =
    let s = c.self.inside in
    let v = c.args.self.now in
    let n : NodeOf = record { game = s.game.now; fix = s.fix } in
    omega (arith, number-fits v n s.rows s.columns s.costs _ s.entries _ c.self.view_is c.self.invariant c.as_slice-costs.ensures c.as_slice-entries.ensures c.args.y.now c.requires c.promises.ensures c.loop-k.k c.loop-k-test.true)

pub returns-then-k-budget-clause-answers : goal.returns-then-k-budget-clause-answers
returns-then-k-budget-clause-answers c =
    let s = c.self.inside in
    let v = c.args.self.now in
    let n : NodeOf = record { game = s.game.now; fix = s.fix } in
    let er = to_z-of_z w128 c.args.rho c.ranges.rho in
    sym (ap told_of (at-rho v c.args.y.now c.args.rho _ c.args.budget _ er (spent-here v n s.rows s.columns s.costs _ s.entries _ c.self.view_is c.self.invariant c.as_slice-costs.ensures c.as_slice-entries.ensures c.args.y.now c.requires _ c.args.budget c.loop-k.k c.loop-k-test.true c.if-k-budget.true c.loop-k.invariant)))

pub returns-then-k-budget-clause-column : goal.returns-then-k-budget-clause-column
returns-then-k-budget-clause-column c = λ d e.
    let s = c.self.inside in
    let v = c.args.self.now in
    let n : NodeOf = record { game = s.game.now; fix = s.fix } in
    let er = to_z-of_z w128 c.args.rho c.ranges.rho in
    spent-found _ _ d (at-rho v c.args.y.now c.args.rho _ c.args.budget _ er (spent-here v n s.rows s.columns s.costs _ s.entries _ c.self.view_is c.self.invariant c.as_slice-costs.ensures c.as_slice-entries.ensures c.args.y.now c.requires _ c.args.budget c.loop-k.k c.loop-k-test.true c.if-k-budget.true c.loop-k.invariant)) e

pub returns-then-k-budget-clause-says : goal.returns-then-k-budget-clause-says
returns-then-k-budget-clause-says c = says_listing (cover_program c.args.self.now.game c.args.self.now.fix) c.args.y.now c.args.rho c.args.budget c.requires

pub returns-in-Ok-true-clause-answers : goal.returns-in-Ok-true-clause-answers
returns-in-Ok-true-clause-answers c =
    let s = c.self.inside in
    let v = c.args.self.now in
    let n : NodeOf = record { game = s.game.now; fix = s.fix } in
    let er = to_z-of_z w128 c.args.rho c.ranges.rho in
    let cost = to_z-of_z w64 c.cost_in.result (record { sfits = c.cost_in.type_inv }) in
    let at = any-item c.as_slice-entries.result.now c.loop-k.k _ (subst (λ (m : ℕ). c.loop-k.k < m) (lengths v n s.rows s.columns s.costs _ s.entries _ c.self.view_is c.self.invariant c.as_slice-costs.ensures c.as_slice-entries.ensures c.args.y.now c.requires) c.loop-k-test.true) c.index-entries-k.is in
    sym (ap told_of (at-rho v c.args.y.now c.args.rho _ c.args.budget _ er (enters-here v n s.rows s.columns s.costs _ s.entries _ c.self.view_is c.self.invariant c.as_slice-costs.ensures c.as_slice-entries.ensures c.args.y.now c.requires _ c.args.budget c.loop-k.k c.loop-k-test.true _ _ (cost ∙ c.cost_in.ensures) (c.as_slice.ensures ∙ at) c.loop-k.invariant c.if-k-budget.false c.in-Ok-true.field-0 (sym c.in-Ok-true.is ∙ c.does_enter.ensures) c.in-Ok-true.field-0-test)))

pub returns-in-Ok-true-clause-column : goal.returns-in-Ok-true-clause-column
returns-in-Ok-true-clause-column c = λ d e.
    let s = c.self.inside in
    let v = c.args.self.now in
    let n : NodeOf = record { game = s.game.now; fix = s.fix } in
    let er = to_z-of_z w128 c.args.rho c.ranges.rho in
    let cost = to_z-of_z w64 c.cost_in.result (record { sfits = c.cost_in.type_inv }) in
    let at = any-item c.as_slice-entries.result.now c.loop-k.k _ (subst (λ (m : ℕ). c.loop-k.k < m) (lengths v n s.rows s.columns s.costs _ s.entries _ c.self.view_is c.self.invariant c.as_slice-costs.ensures c.as_slice-entries.ensures c.args.y.now c.requires) c.loop-k-test.true) c.index-entries-k.is in
    c.numbered.ensures ∙ sym (found-same d _ (sym e ∙ at-rho v c.args.y.now c.args.rho _ c.args.budget _ er (enters-here v n s.rows s.columns s.costs _ s.entries _ c.self.view_is c.self.invariant c.as_slice-costs.ensures c.as_slice-entries.ensures c.args.y.now c.requires _ c.args.budget c.loop-k.k c.loop-k-test.true _ _ (cost ∙ c.cost_in.ensures) (c.as_slice.ensures ∙ at) c.loop-k.invariant c.if-k-budget.false c.in-Ok-true.field-0 (sym c.in-Ok-true.is ∙ c.does_enter.ensures) c.in-Ok-true.field-0-test)))

pub returns-in-Ok-true-clause-says : goal.returns-in-Ok-true-clause-says
returns-in-Ok-true-clause-says c = says_listing (cover_program c.args.self.now.game c.args.self.now.fix) c.args.y.now c.args.rho c.args.budget c.requires

pub returns-in-Err-clause-answers : goal.returns-in-Err-clause-answers
returns-in-Err-clause-answers c =
    let s = c.self.inside in
    let v = c.args.self.now in
    let n : NodeOf = record { game = s.game.now; fix = s.fix } in
    let er = to_z-of_z w128 c.args.rho c.ranges.rho in
    let cost = to_z-of_z w64 c.cost_in.result (record { sfits = c.cost_in.type_inv }) in
    let at = any-item c.as_slice-entries.result.now c.loop-k.k _ (subst (λ (m : ℕ). c.loop-k.k < m) (lengths v n s.rows s.columns s.costs _ s.entries _ c.self.view_is c.self.invariant c.as_slice-costs.ensures c.as_slice-entries.ensures c.args.y.now c.requires) c.loop-k-test.true) c.index-entries-k.is in
    sym (ap told_of (at-rho v c.args.y.now c.args.rho _ c.args.budget _ er (fails-here v n s.rows s.columns s.costs _ s.entries _ c.self.view_is c.self.invariant c.as_slice-costs.ensures c.as_slice-entries.ensures c.args.y.now c.requires _ c.args.budget c.loop-k.k c.loop-k-test.true _ _ (cost ∙ c.cost_in.ensures) (c.as_slice.ensures ∙ at) c.loop-k.invariant c.if-k-budget.false c.in-Err.wide (sym c.in-Err.is ∙ c.does_enter.ensures))))

pub returns-in-Err-clause-column : goal.returns-in-Err-clause-column
returns-in-Err-clause-column c = λ d e.
    let s = c.self.inside in
    let v = c.args.self.now in
    let n : NodeOf = record { game = s.game.now; fix = s.fix } in
    let er = to_z-of_z w128 c.args.rho c.ranges.rho in
    let cost = to_z-of_z w64 c.cost_in.result (record { sfits = c.cost_in.type_inv }) in
    let at = any-item c.as_slice-entries.result.now c.loop-k.k _ (subst (λ (m : ℕ). c.loop-k.k < m) (lengths v n s.rows s.columns s.costs _ s.entries _ c.self.view_is c.self.invariant c.as_slice-costs.ensures c.as_slice-entries.ensures c.args.y.now c.requires) c.loop-k-test.true) c.index-entries-k.is in
    wide-found 2 c.in-Err.wide _ _ d (at-rho v c.args.y.now c.args.rho _ c.args.budget _ er (fails-here v n s.rows s.columns s.costs _ s.entries _ c.self.view_is c.self.invariant c.as_slice-costs.ensures c.as_slice-entries.ensures c.args.y.now c.requires _ c.args.budget c.loop-k.k c.loop-k-test.true _ _ (cost ∙ c.cost_in.ensures) (c.as_slice.ensures ∙ at) c.loop-k.invariant c.if-k-budget.false c.in-Err.wide (sym c.in-Err.is ∙ c.does_enter.ensures))) e

pub returns-in-Err-clause-says : goal.returns-in-Err-clause-says
returns-in-Err-clause-says c = says_listing (cover_program c.args.self.now.game c.args.self.now.fix) c.args.y.now c.args.rho c.args.budget c.requires

pub loop-k-preserved : goal.loop-k-preserved
loop-k-preserved c =
    let s = c.self.inside in
    let v = c.args.self.now in
    let n : NodeOf = record { game = s.game.now; fix = s.fix } in
    let cost = to_z-of_z w64 c.cost_in.result (record { sfits = c.cost_in.type_inv }) in
    let at = any-item c.as_slice-entries.result.now c.loop-k.k _ (subst (λ (m : ℕ). c.loop-k.k < m) (lengths v n s.rows s.columns s.costs _ s.entries _ c.self.view_is c.self.invariant c.as_slice-costs.ensures c.as_slice-entries.ensures c.args.y.now c.requires) c.loop-k-test.true) c.index-entries-k.is in
    stays-here v n s.rows s.columns s.costs _ s.entries _ c.self.view_is c.self.invariant c.as_slice-costs.ensures c.as_slice-entries.ensures c.args.y.now c.requires _ c.args.budget c.loop-k.k c.loop-k-test.true _ _ (cost ∙ c.cost_in.ensures) (c.as_slice.ensures ∙ at) c.loop-k.invariant c.if-k-budget.false c.in-Ok-false.field-0 (sym c.in-Ok-false.is ∙ c.does_enter.ensures) c.in-Ok-false.field-0-test

pub returns-clause-answers : goal.returns-clause-answers
returns-clause-answers c =
    let s = c.self.inside in
    let v = c.args.self.now in
    let n : NodeOf = record { game = s.game.now; fix = s.fix } in
    let er = to_z-of_z w128 c.args.rho c.ranges.rho in
    sym (ap told_of (at-rho v c.args.y.now c.args.rho _ c.args.budget _ er (clean-here v n s.rows s.columns s.costs _ s.entries _ c.self.view_is c.self.invariant c.as_slice-costs.ensures c.as_slice-entries.ensures c.args.y.now c.requires _ c.args.budget c.loop-k.k c.loop-k-test.false c.loop-k.auto.k-end c.loop-k.invariant)))

pub returns-clause-column : goal.returns-clause-column
returns-clause-column c = λ d e.
    let s = c.self.inside in
    let v = c.args.self.now in
    let n : NodeOf = record { game = s.game.now; fix = s.fix } in
    let er = to_z-of_z w128 c.args.rho c.ranges.rho in
    clean-found _ _ _ d (at-rho v c.args.y.now c.args.rho _ c.args.budget _ er (clean-here v n s.rows s.columns s.costs _ s.entries _ c.self.view_is c.self.invariant c.as_slice-costs.ensures c.as_slice-entries.ensures c.args.y.now c.requires _ c.args.budget c.loop-k.k c.loop-k-test.false c.loop-k.auto.k-end c.loop-k.invariant)) e

pub returns-clause-says : goal.returns-clause-says
returns-clause-says c = says_listing (cover_program c.args.self.now.game c.args.self.now.fix) c.args.y.now c.args.rho c.args.budget c.requires
