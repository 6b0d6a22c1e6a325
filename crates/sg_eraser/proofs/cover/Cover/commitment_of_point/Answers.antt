use Rattle.sg_eraser.proofs.Pointed.{commits-by, had-by, reaches-by, weighed-by}
use Rattle.sg_eraser.proofs.cover.Cover.commitment_of_point.Goals as goal

pub matched-requires-clause-weighed : goal.matched-requires-clause-weighed
matched-requires-clause-weighed c =
    let s = c.self.inside in
    weighed-by c.args.self.now (record { game = s.game.now; fix = s.fix }) s.rows s.columns c.as_slice.result.now s.costs s.entries c.self.view_is c.self.invariant c.as_slice.ensures c.promises.ensures c.requires.single c.args.parts.now c.requires.point

pub matched-requires-clause-counts : goal.matched-requires-clause-counts
matched-requires-clause-counts c =
    let s = c.self.inside in
    had-by c.args.self.now (record { game = s.game.now; fix = s.fix }) s.rows s.columns c.as_slice.result.now s.costs s.entries c.self.view_is c.self.invariant c.as_slice.ensures c.promises.ensures c.requires.single c.args.parts.now c.requires.point

pub returns-clause-commitment : goal.returns-clause-commitment
returns-clause-commitment c =
    let s = c.self.inside in
    λ t st above e.
    commits-by c.args.self.now (record { game = s.game.now; fix = s.fix }) s.rows s.columns c.as_slice.result.now s.costs s.entries c.self.view_is c.self.invariant c.as_slice.ensures c.promises.ensures c.requires.single c.args.parts.now c.requires.point
    c.in_ok-commitment.commitment c.in_ok-commitment.ensures.rules c.in_ok-commitment.ensures.matched t st above e

pub returns-clause-reaches : goal.returns-clause-reaches
returns-clause-reaches c =
    let s = c.self.inside in
    λ t st above e.
    reaches-by c.args.self.now (record { game = s.game.now; fix = s.fix }) s.rows s.columns c.as_slice.result.now s.costs s.entries c.self.view_is c.self.invariant c.as_slice.ensures c.promises.ensures c.requires.single c.args.parts.now c.requires.point
    c.in_ok-commitment.commitment c.in_ok-commitment.ensures.rules c.in_ok-commitment.ensures.matched t st above e
