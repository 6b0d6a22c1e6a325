use Rattle.std.proofs.Common.{◌∙◌, sym}
use Rattle.sg_eraser.proofs.Tabled.{columns-long}
use Rattle.sg_eraser.proofs.Viewed.{coverage-by}
use Rattle.sg_eraser.proofs.cover.Cover.count.Goals as goal

pub returns : goal.returns
returns c =
    let s = c.self.inside in
    let v = c.args.self.now in
    let is = coverage-by v (record { game = s.game.now; fix = s.fix }) s.rows s.columns s.costs s.entries c.self.view_is c.self.invariant in
    c.len.ensures ∙ sym (columns-long v.game v.fix s.rows s.columns s.costs s.entries is)
