use Rattle.std.proofs.Common.{map, refl, subst, sym}
use Rattle.std.specs.List.{Contains}
use Rattle.sg_lp.specs.declared.column.Column.{Column}
use Rattle.sg_model.specs.Games.{Game}
use Rattle.sg_model.specs.PlayLists.{legal_plays}
use Rattle.sg_programs.specs.Plays.{column_of}
use Rattle.sg_dobss_tests.proofs.asking.entry_of.Goals as goal

pub entry-requires-clause-listed : goal.entry-requires-clause-listed
entry-requires-clause-listed c =
    let g = c.args.game.now in
    let plays = c.columns_are_plays.ensures g c.promises.ensures c.requires.unscaled c.args.listed.now.fix in
    let has = plays.complete c.args.play.now (c.if-not-legal.ensures.0 refl) in
    let here = subst (λ (d : Column). Contains (map column_of (legal_plays g)) d) (sym c.column.ensures) has in
    subst (λ (h : Game). Contains (map column_of (legal_plays h)) c.column.result) (sym c.requires.game) here
