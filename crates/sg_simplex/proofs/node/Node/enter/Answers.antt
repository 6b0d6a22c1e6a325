use Rattle.std.proofs.Common.{◌≡◌, ◌<◌, ◌∙◌, ap, arith, drop, length, rules, subst, List}
use Rattle.std.specs.Int.{w128}
use Rattle.std.specs.Prelude.{FitsSigned, ℤ}
use Rattle.std.proofs.lemmas.Int.{to_z-of_z}
use Rattle.std.proofs.lemmas.List.{take_at}
use Rattle.sg_lp.specs.Moves.{Exchanges}
use Rattle.sg_simplex.proofs.Turned.{enters_by, has_moved, next_node, turned_moved, turned_wide}
use Rattle.sg_simplex.proofs.node.Node.enter.Goals as goal

pub invariant_of-self : goal.invariant_of-self
invariant_of-self g c =
    let f = c.self.inside.family in
    let p = g.F.Family.program f in
    let t = c.self.inside.state.tableau in
    let s = c.args.member in
    let q = c.try_move.new.products in
    let x = c.in-Ok.exchange in
    let entries = c.try_move.new.entries in
    let kept = c.self.invariant in
    let fg : FitsSigned w128 x.gap = search rules in
    let enters = enters_by g.F.Family.program g.F.Family.answer c.args.self.now c.self.inside.family c.self.inside.state.tableau c.self.inside.state.width c.self.inside.steps c.self.inside.pivots c.self.inside.looks c.self.view_is s c.requires in
    let long_q : length q ≡ c.self.inside.products.len = (let o = c.self.inside.products.ok in omega (arith, ap length c.as_mut_slice-products.ensures.value)) in
    let long_e : length entries ≡ c.self.inside.entries.len = (let o = c.self.inside.entries.ok in omega (arith, ap length c.as_mut_slice-entries.ensures.value)) in
    let written = take_at q (drop (length q) c.self.inside.products.items) c.self.inside.products.len long_q in
    let written_e = take_at entries (drop (length entries) c.self.inside.entries.items) c.self.inside.entries.len long_e in
    let gone = simp to_z-of_z at c.exchange.ensures.exchanged in
    let by = subst (λ (z : List ℤ). Exchanges t s x.row z x.gap c.exchange.new.self.tableau) (c.as_slice-products.ensures.value ∙ written) gone in
    record {
      node = next_node p (g.F.Family.answer f) t c.exchange.new.self.tableau s q x.row x.gap c.self.inside.steps c.self.inside.pivots c.self.inside.looks kept.node.state enters c.in-Ok.ensures by kept.node.run kept.node;
      entries_long = (let k = kept.entries_long in let o = c.self.inside.entries.ok in omega (arith, ap length written_e));
      products_long = (let k = kept.products_long in let o = c.self.inside.products.ok in omega (arith, ap length written));
    }

pub returns-in-Ok : goal.returns-in-Ok
returns-in-Ok g c =
    let f = c.self.inside.family in
    let p = g.F.Family.program f in
    let t = c.self.inside.state.tableau in
    let s = c.args.member in
    let q = c.try_move.new.products in
    let x = c.in-Ok.exchange in
    let kept = c.self.invariant in
    let fg : FitsSigned w128 x.gap = search rules in
    let enters = enters_by g.F.Family.program g.F.Family.answer c.args.self.now c.self.inside.family c.self.inside.state.tableau c.self.inside.state.width c.self.inside.steps c.self.inside.pivots c.self.inside.looks c.self.view_is s c.requires in
    let long_q : length q ≡ c.self.inside.products.len = (let o = c.self.inside.products.ok in omega (arith, ap length c.as_mut_slice-products.ensures.value)) in
    let written = take_at q (drop (length q) c.self.inside.products.items) c.self.inside.products.len long_q in
    let gone = simp to_z-of_z at c.exchange.ensures.exchanged in
    let by = subst (λ (z : List ℤ). Exchanges t s x.row z x.gap c.exchange.new.self.tableau) (c.as_slice-products.ensures.value ∙ written) gone in
    let room : c.self.inside.steps < c.self.inside.pivots = omega arith in
    turned_moved g.F.Family.program g.F.Family.answer c.args.self.now c.self.inside.family c.self.inside.state.tableau c.self.inside.state.width c.self.inside.steps c.self.inside.pivots c.self.inside.looks c.self.view_is c.exchange.new.self.tableau c.exchange.new.self.width
    (has_moved p (g.F.Family.answer f) t c.exchange.new.self.tableau s q x.row x.gap c.self.inside.steps c.self.inside.pivots c.self.inside.looks kept.node.state enters c.in-Ok.ensures by room) c.exchange.ensures.width

pub returns-in-Err : goal.returns-in-Err
returns-in-Err g c =
    let s = c.args.member in
    let enters = enters_by g.F.Family.program g.F.Family.answer c.args.self.now c.self.inside.family c.self.inside.state.tableau c.self.inside.state.width c.self.inside.steps c.self.inside.pivots c.self.inside.looks c.self.view_is s c.requires in
    let room : c.self.inside.steps < c.self.inside.pivots = omega arith in
    turned_wide g.F.Family.program g.F.Family.answer c.args.self.now c.self.inside.family c.self.inside.state.tableau c.self.inside.state.width c.self.inside.steps c.self.inside.pivots c.self.inside.looks c.self.view_is s c.in-Err.misfit enters c.in-Err.ensures room
