use Rattle.std.proofs.Common.{◌∙◌, ap, arith, ◌+◌}
use Rattle.sg_dobss.proofs.Held.{few-rows, game-by, height-is, is-bounded, listing-by, sized}
use Rattle.sg_dobss.proofs.listed.ListedFamily.rows.Goals as goal

pub overflow_add-result : goal.overflow_add-result
overflow_add-result c =
    let s = c.self.inside in
    let v = c.args.self.now in
    let is = listing-by v (record { game = s.game.now; fix = s.fix }) s.count s.costs s.rows c.self.view_is c.self.invariant in
    let game = game-by v (record { game = s.game.now; fix = s.fix }) c.self.view_is c.promises.ensures in
    let few = few-rows v.game v.fix s.count s.costs s.rows is game in
    let height = height-is v.game v.fix s.count s.costs s.rows is in
    omega (arith, few, height, c.len.ensures)

pub returns-clause-count : goal.returns-clause-count
returns-clause-count c =
    let s = c.self.inside in
    let v = c.args.self.now in
    let is = listing-by v (record { game = s.game.now; fix = s.fix }) s.count s.costs s.rows c.self.view_is c.self.invariant in
    ap (λ n. n + 1) c.len.ensures ∙ height-is v.game v.fix s.count s.costs s.rows is

pub returns-clause-sized : goal.returns-clause-sized
returns-clause-sized c =
    let s = c.self.inside in
    let v = c.args.self.now in
    let is = listing-by v (record { game = s.game.now; fix = s.fix }) s.count s.costs s.rows c.self.view_is c.self.invariant in
    sized v.game v.fix s.count s.costs s.rows is (game-by v (record { game = s.game.now; fix = s.fix }) c.self.view_is c.promises.ensures)

pub returns-clause-bounded : goal.returns-clause-bounded
returns-clause-bounded c =
    let s = c.self.inside in
    let v = c.args.self.now in
    let is = listing-by v (record { game = s.game.now; fix = s.fix }) s.count s.costs s.rows c.self.view_is c.self.invariant in
    is-bounded v.game v.fix s.count s.costs s.rows is (game-by v (record { game = s.game.now; fix = s.fix }) c.self.view_is c.promises.ensures)
