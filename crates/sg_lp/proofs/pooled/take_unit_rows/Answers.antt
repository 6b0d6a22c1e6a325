use Rattle.std.proofs.Common.{◌∙◌, ap, arith}
use Rattle.sg_pool.specs.Pools.{PoolView}
use Rattle.sg_lp.proofs.Fronts.{fronts_push, taken_more, wide_push}
use Rattle.sg_lp.proofs.pooled.take_unit_rows.Goals as goal

pub loop-i-preserved : goal.loop-i-preserved
loop-i-preserved c =
    let m = c.loop-i.invariant in
    let row = c.take_unit_row-row.result in
    let i = c.loop-i.i in
    let pushed = c.push_reserved.ensures.items in
    record {
      fronts = fronts_push c.args.height i c.loop-i.rows.items c.push_reserved.new.self.items row pushed m.fronts c.take_unit_row-row.ensures.front;
      wide = wide_push c.args.pool.now.width c.loop-i.rows.items c.push_reserved.new.self.items row pushed m.wide (c.take_unit_row-row.ensures.wide ∙ ap (λ (p : PoolView). p.width) m.pool);
      pool = taken_more c.args.pool.now c.loop-i.pool c.take_unit_row-row.new.pool i (let s = c.requires.spare in omega arith) m.pool c.take_unit_row-row.ensures.taken;
      room = (let r = m.room in omega (arith, c.push_reserved.ensures.capacity));
      many = (let r = m.many in omega (arith, c.push_reserved.ensures.len));
    }
