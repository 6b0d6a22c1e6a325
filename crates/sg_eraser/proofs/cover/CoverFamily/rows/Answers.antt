use Rattle.sg_eraser.proofs.Tabled.{is-bounded, sized}
use Rattle.sg_eraser.proofs.Viewed.{coverage-by, game-by}
use Rattle.sg_eraser.proofs.cover.CoverFamily.rows.Goals as goal

pub returns-clause-sized : goal.returns-clause-sized
returns-clause-sized c =
    let s = c.self.inside in
    let v = c.args.self.now in
    let is = coverage-by v (record { game = s.game.now; fix = s.fix }) s.rows s.columns s.costs s.entries c.self.view_is c.self.invariant in
    sized v.game v.fix s.rows s.columns s.costs s.entries is (game-by v (record { game = s.game.now; fix = s.fix }) c.self.view_is c.promises.ensures)

pub returns-clause-bounded : goal.returns-clause-bounded
returns-clause-bounded c =
    let s = c.self.inside in
    let v = c.args.self.now in
    let is = coverage-by v (record { game = s.game.now; fix = s.fix }) s.rows s.columns s.costs s.entries c.self.view_is c.self.invariant in
    is-bounded v.game v.fix s.rows s.columns s.costs s.entries is (game-by v (record { game = s.game.now; fix = s.fix }) c.self.view_is c.promises.ensures)
