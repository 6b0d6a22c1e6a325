use Rattle.std.proofs.Common.{sym, subst}
use Rattle.sg_model.specs.Limits.{IsGame}
use Rattle.sg_gen.proofs.Kept.{made-is-game}
use Rattle.sg_gen.proofs.made.make_game.Goals as goal

pub unreachable-requires : goal.unreachable-requires
unreachable-requires c =
    let p = c.in_ok-parts.ensures in
    let is = subst IsGame (sym p.game) (made-is-game c.args.shape c.args.seed c.requires) in
    let none = (c.no_fault_is_a_game.ensures c.in_ok-parts.parts p.own).1 (p.told, is) in
    let refused = (rw c.in-Err-Refused.field-0-is at c.in-Err-Refused.ensures).fault in
    cc
