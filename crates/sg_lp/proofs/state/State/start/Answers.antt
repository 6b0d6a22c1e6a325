use Rattle.std.proofs.Common.{◌∙◌, ap, length, List}
use Rattle.std.specs.Prelude.{ℤ}
use Rattle.sg_pool.specs.Pools.{PoolView}
use Rattle.sg_lp.proofs.Fronts.{started}
use Rattle.sg_lp.proofs.state.State.start.Goals as goal

pub returns-clause-started : goal.returns-clause-started
returns-clause-started c =
    let width = ap (λ (z : List ℤ). length z) c.places-width.ensures ∙ c.take_unit_row-y.ensures.wide ∙ ap (λ (p : PoolView). p.width) c.take_unit_rows.ensures.taken in
    started c.args.height c.in_ok-basis.basis c.take_unit_rows.new.rows.items c.take_unit_row-y.result (length c.places-width.result.now) c.args.pool.now.width c.in_ok-basis.ensures c.take_unit_rows.ensures.fronts c.take_unit_row-y.ensures.front width
