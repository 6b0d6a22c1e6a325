use Rattle.std.proofs.Common.{◌≡◌, ℕ, ℤ, List, ◌+◌, ◌-◌, ◌<◌, arith, length, pos, suc, subst}
use Rattle.std.proofs.lemmas.Int.{ints}
use Rattle.sg_model.specs.declared.ticket.Ticket.{Ticket}
use Rattle.sg_model.specs.Games.{Game}
use Rattle.sg_check.proofs.Valued.{IsWorthSoFar, worth-end, worth-more, worth-start, worth-wide}
use Rattle.sg_check.proofs.value.table_worth.Goals as goal

pub loop-l-init : goal.loop-l-init
loop-l-init c =
    let e : length c.args.game.now.types ≡ length c.args.game.now.types - 0 = omega arith in
    subst (IsWorthSoFar c.args.game.now c.args.tickets.now (pos 0) 1) e (worth-start c.args.game.now c.args.tickets.now)

left : (g : Game) (k : List Ticket) (z : ℤ) (i : ℕ) → i < length g.types → IsWorthSoFar g k z (i + 1) (length g.types - i) → IsWorthSoFar g k z (i + 1) (suc (length g.types - (i + 1)))
left g k z i lt h = let e : length g.types - i ≡ suc (length g.types - (i + 1)) = omega (arith, lt) in subst (IsWorthSoFar g k z (i + 1)) e h

pub loop-l-preserved : goal.loop-l-preserved
loop-l-preserved c =
    let g = c.args.game.now in
    let k = c.args.tickets.now in
    let lt : c.loop-l.l < length g.types = omega (arith, c.loop-l-test.true, c.types-l-end.ensures.count) in
    worth-more g k _ (c.loop-l.l + 1) (length g.types - (c.loop-l.l + 1)) _ (left g k _ c.loop-l.l lt c.loop-l.invariant) c.in-Some.ensures.0 (omega (arith, ints, c.in-Some.ensures.1))

pub returns-in-None : goal.returns-in-None
returns-in-None c =
    let g = c.args.game.now in
    let k = c.args.tickets.now in
    let lt : c.loop-l.l < length g.types = omega (arith, c.loop-l-test.true, c.types-l-end.ensures.count) in
    worth-wide g k _ (c.loop-l.l + 1) (length g.types - (c.loop-l.l + 1)) (left g k _ c.loop-l.l lt c.loop-l.invariant) c.in-None.ensures

pub returns : goal.returns
returns c = worth-end c.args.game.now c.args.tickets.now _ _ _ (omega (arith, c.loop-l-test.false, c.types-l-end.ensures.count)) c.loop-l.invariant
