use Rattle.std.proofs.Common.{◌∙◌, sym, ap, arith, length}
use Rattle.std.specs.Int.{w128}
use Rattle.std.specs.Prelude.{FitsSigned}
use Rattle.std.proofs.lemmas.Int.{to_z-of_z}
use Rattle.sg_lp.specs.Pricing.{clean, told_of}
use Rattle.sg_lp.proofs.Listing.{says_listing}
use Rattle.sg_programs.specs.Plays.{plays_program}
use Rattle.sg_programs.specs.Nodes.{NodeOf}
use Rattle.sg_programs.proofs.Found.{clean-found, spent-found, wide-found}
use Rattle.sg_dobss.proofs.Held.{columns-long, costs-long, few-rows, found-by, game-by, listing-by, row-room, rows-read, tables-read}
use Rattle.sg_dobss.proofs.listed.ListedFamily.price.Goals as goal

pub price_in-requires-clause-multipliers : goal.price_in-requires-clause-multipliers
price_in-requires-clause-multipliers c =
    let s = c.self.inside in
    let v = c.args.self.now in
    let n : NodeOf = record { game = s.game.now; fix = s.fix } in
    let is = listing-by v n s.count s.costs s.rows c.self.view_is c.self.invariant in
    omega (arith, few-rows v.game v.fix s.count s.costs s.rows is (game-by v n c.self.view_is c.promises.ensures), c.requires)

pub price_in-requires-clause-rows : goal.price_in-requires-clause-rows
price_in-requires-clause-rows c =
    let s = c.self.inside in
    rows-read c.args.self.now (record { game = s.game.now; fix = s.fix }) s.count s.costs s.rows _ c.self.view_is c.self.invariant c.as_slice.ensures ∙ sym c.requires

pub price_in-requires-clause-long : goal.price_in-requires-clause-long
price_in-requires-clause-long c = λ i lt.
    let s = c.self.inside in
    row-room s.game.now s.fix s.count s.costs s.rows _ c.self.invariant c.as_slice.ensures i lt ∙ sym (ap length c.as_slice-costs.ensures ∙ costs-long s.game.now s.fix s.count s.costs s.rows c.self.invariant)

pub column_at-requires-clause-inside : goal.column_at-requires-clause-inside
column_at-requires-clause-inside c =
    let s = c.self.inside in
    let v = c.args.self.now in
    let n : NodeOf = record { game = s.game.now; fix = s.fix } in
    let fr : FitsSigned w128 c.args.rho = c.ranges.rho in
    let says = simp to_z-of_z at c.in-Found.ensures in
    let t = tables-read v n s.count s.costs _ s.rows _ c.self.view_is c.self.invariant c.as_slice-costs.ensures c.as_slice.ensures in
    let is = listing-by v n s.count s.costs s.rows c.self.view_is c.self.invariant in
    let lt = (says (plays_program v.game v.fix) t).0 in
    omega (arith, lt, columns-long v.game v.fix s.count s.costs s.rows is)

pub returns-in-Found-clause-answers : goal.returns-in-Found-clause-answers
returns-in-Found-clause-answers c =
    let s = c.self.inside in
    let v = c.args.self.now in
    let n : NodeOf = record { game = s.game.now; fix = s.fix } in
    let fr : FitsSigned w128 c.args.rho = c.ranges.rho in
    let says = simp to_z-of_z at c.in-Found.ensures in
    let t = tables-read v n s.count s.costs _ s.rows _ c.self.view_is c.self.invariant c.as_slice-costs.ensures c.as_slice.ensures in
    sym (ap told_of ((says (plays_program v.game v.fix) t).1 c.args.found.now))

pub returns-in-Found-clause-column : goal.returns-in-Found-clause-column
returns-in-Found-clause-column c = λ d e.
    let s = c.self.inside in
    let v = c.args.self.now in
    let n : NodeOf = record { game = s.game.now; fix = s.fix } in
    let fr : FitsSigned w128 c.args.rho = c.ranges.rho in
    let says = simp to_z-of_z at c.in-Found.ensures in
    let t = tables-read v n s.count s.costs _ s.rows _ c.self.view_is c.self.invariant c.as_slice-costs.ensures c.as_slice.ensures in
    let p = says (plays_program v.game v.fix) t in
    found-by v n c.self.view_is c.in-Found.k _ c.column_at.result d c.args.found.now p.0 (p.1 c.args.found.now) c.column_at.ensures e

pub returns-in-Found-clause-says : goal.returns-in-Found-clause-says
returns-in-Found-clause-says c = says_listing (plays_program c.args.self.now.game c.args.self.now.fix) c.args.y.now c.args.rho c.args.budget c.requires

pub returns-in-Clean-clause-answers : goal.returns-in-Clean-clause-answers
returns-in-Clean-clause-answers c =
    let s = c.self.inside in
    let v = c.args.self.now in
    let n : NodeOf = record { game = s.game.now; fix = s.fix } in
    let fr : FitsSigned w128 c.args.rho = c.ranges.rho in
    let says = simp to_z-of_z at c.in-Clean.ensures in
    let t = tables-read v n s.count s.costs _ s.rows _ c.self.view_is c.self.invariant c.as_slice-costs.ensures c.as_slice.ensures in
    let is = listing-by v n s.count s.costs s.rows c.self.view_is c.self.invariant in
    sym (ap told_of (says (plays_program v.game v.fix) t ∙ ap clean (columns-long v.game v.fix s.count s.costs s.rows is)))

pub returns-in-Clean-clause-column : goal.returns-in-Clean-clause-column
returns-in-Clean-clause-column c = λ d e.
    let s = c.self.inside in
    let v = c.args.self.now in
    let n : NodeOf = record { game = s.game.now; fix = s.fix } in
    let fr : FitsSigned w128 c.args.rho = c.ranges.rho in
    let says = simp to_z-of_z at c.in-Clean.ensures in
    let t = tables-read v n s.count s.costs _ s.rows _ c.self.view_is c.self.invariant c.as_slice-costs.ensures c.as_slice.ensures in
    clean-found _ _ _ d (says (plays_program v.game v.fix) t) e

pub returns-in-Clean-clause-says : goal.returns-in-Clean-clause-says
returns-in-Clean-clause-says c = says_listing (plays_program c.args.self.now.game c.args.self.now.fix) c.args.y.now c.args.rho c.args.budget c.requires

pub returns-in-Spent-clause-answers : goal.returns-in-Spent-clause-answers
returns-in-Spent-clause-answers c =
    let s = c.self.inside in
    let v = c.args.self.now in
    let n : NodeOf = record { game = s.game.now; fix = s.fix } in
    let fr : FitsSigned w128 c.args.rho = c.ranges.rho in
    let says = simp to_z-of_z at c.in-Spent.ensures in
    let t = tables-read v n s.count s.costs _ s.rows _ c.self.view_is c.self.invariant c.as_slice-costs.ensures c.as_slice.ensures in
    sym (ap told_of (says (plays_program v.game v.fix) t))

pub returns-in-Spent-clause-column : goal.returns-in-Spent-clause-column
returns-in-Spent-clause-column c = λ d e.
    let s = c.self.inside in
    let v = c.args.self.now in
    let n : NodeOf = record { game = s.game.now; fix = s.fix } in
    let fr : FitsSigned w128 c.args.rho = c.ranges.rho in
    let says = simp to_z-of_z at c.in-Spent.ensures in
    let t = tables-read v n s.count s.costs _ s.rows _ c.self.view_is c.self.invariant c.as_slice-costs.ensures c.as_slice.ensures in
    spent-found _ _ d (says (plays_program v.game v.fix) t) e

pub returns-in-Spent-clause-says : goal.returns-in-Spent-clause-says
returns-in-Spent-clause-says c = says_listing (plays_program c.args.self.now.game c.args.self.now.fix) c.args.y.now c.args.rho c.args.budget c.requires

pub returns-in-Wide-clause-answers : goal.returns-in-Wide-clause-answers
returns-in-Wide-clause-answers c =
    let s = c.self.inside in
    let v = c.args.self.now in
    let n : NodeOf = record { game = s.game.now; fix = s.fix } in
    let fr : FitsSigned w128 c.args.rho = c.ranges.rho in
    let says = simp to_z-of_z at c.in-Wide.ensures in
    let t = tables-read v n s.count s.costs _ s.rows _ c.self.view_is c.self.invariant c.as_slice-costs.ensures c.as_slice.ensures in
    sym (ap told_of (says (plays_program v.game v.fix) t))

pub returns-in-Wide-clause-column : goal.returns-in-Wide-clause-column
returns-in-Wide-clause-column c = λ d e.
    let s = c.self.inside in
    let v = c.args.self.now in
    let n : NodeOf = record { game = s.game.now; fix = s.fix } in
    let fr : FitsSigned w128 c.args.rho = c.ranges.rho in
    let says = simp to_z-of_z at c.in-Wide.ensures in
    let t = tables-read v n s.count s.costs _ s.rows _ c.self.view_is c.self.invariant c.as_slice-costs.ensures c.as_slice.ensures in
    wide-found _ _ _ _ d (says (plays_program v.game v.fix) t) e

pub returns-in-Wide-clause-says : goal.returns-in-Wide-clause-says
returns-in-Wide-clause-says c = says_listing (plays_program c.args.self.now.game c.args.self.now.fix) c.args.y.now c.args.rho c.args.budget c.requires
