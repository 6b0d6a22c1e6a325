use Rattle.std.proofs.Common.{rules, arith}
use Rattle.std.specs.Int.{w64}
use Rattle.std.specs.Prelude.{FitsSigned}
use Rattle.std.proofs.lemmas.Int.{to_z-of_z}
use Rattle.sg_dobss.proofs.Held.{entry-of, listed-by, row-room, rows-read}
use Rattle.sg_dobss.proofs.listed.ListedFamily.entry.Goals as goal

pub place_of-k-requires-clause-listed : goal.place_of-k-requires-clause-listed
place_of-k-requires-clause-listed c = let s = c.self.inside in listed-by c.args.self.now (record { game = s.game.now; fix = s.fix }) c.self.view_is c.args.col.now c.requires.listed

pub entry_in-requires-clause-row : goal.entry_in-requires-clause-row
entry_in-requires-clause-row c =
    let s = c.self.inside in
    let v = c.args.self.now in
    omega (arith, rows-read v (record { game = s.game.now; fix = s.fix }) s.count s.costs s.rows _ c.self.view_is c.self.invariant c.as_slice.ensures, c.requires.below)

pub entry_in-requires-clause-long : goal.entry_in-requires-clause-long
entry_in-requires-clause-long c = λ i lt. let s = c.self.inside in omega (arith, row-room s.game.now s.fix s.count s.costs s.rows _ c.self.invariant c.as_slice.ensures i lt, c.place_of-k.ensures.inside)

pub returns : goal.returns
returns c =
    let s = c.self.inside in
    let v = c.args.self.now in
    let fits : FitsSigned w64 c.entry_in.result = search rules in
    simp to_z-of_z (entry-of v (record { game = s.game.now; fix = s.fix }) s.count s.costs s.rows _ c.self.view_is c.self.invariant c.args.col.now c.args.row c.place_of-k.result c.entry_in.result c.requires.below c.place_of-k.ensures.inside c.place_of-k.ensures.there c.as_slice.ensures c.entry_in.ensures)
