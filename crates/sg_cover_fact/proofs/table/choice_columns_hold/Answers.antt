use Rattle.std.proofs.Common.{◌≤ℤ◌, ℤ, pos, sym, subst}
use Rattle.sg_bounds.specs.Coverage.{Row}
use Rattle.sg_cover_fact.specs.LineSums.{holding, spending}
use Rattle.sg_cover_fact.proofs.Rooms.{holding-unit, spending-unit, unit-sum}
use Rattle.sg_cover_fact.proofs.Testable.{choice-same}
use Rattle.sg_cover_fact.proofs.table.choice_columns_hold.Goals as goal

pub resources_hold-requires-clause-spent : goal.resources_hold-requires-clause-spent
resources_hold-requires-clause-spent c = λ r.
    let low = (unit-sum c.args.game.now c.args.fix.now (λ (row : Row). spending row r) (spending-unit r) c.args.lines.now c.requires.lines_of).0 in
    subst (λ (z : ℤ). pos 0 ≤ℤ z) (sym (c.gather_spent.ensures r)) low

pub resources_hold-requires-clause-held : goal.resources_hold-requires-clause-held
resources_hold-requires-clause-held c = λ t.
    let low = (unit-sum c.args.game.now c.args.fix.now (λ (row : Row). holding row t) (holding-unit t) c.args.lines.now c.requires.lines_of).0 in
    subst (λ (z : ℤ). pos 0 ≤ℤ z) (sym (c.gather_held.ensures t)) low

pub returns : goal.returns
returns c =
    let h = c.resources_hold.ensures in
    let same = choice-same c.args.game.now c.args.fix.now c.args.lines.now _ _ c.promises.ensures c.requires.security c.gather_spent.ensures c.gather_held.ensures in
    (λ t r j known low high. (same r j).0 (h.0 t r known j low high), λ k. h.1 (λ r known j low high. (same r j).1 (k r j known low high)))
