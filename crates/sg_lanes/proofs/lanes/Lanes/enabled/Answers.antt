use Rattle.std.proofs.Common.{◌∙◌, sym, arith, true≢false, true, false}
use Rattle.sg_lanes.proofs.Joined.{is-held, not-held}
use Rattle.sg_lanes.proofs.Telling.{no-choice, one-choice, told-count, told-finish, told-none, told-turn}
use Rattle.sg_lanes.proofs.lanes.Lanes.enabled.Goals as goal

pub returns-then-holds : goal.returns-then-holds
returns-then-holds c = let s = c.args.self.now.search in told-finish c.args.self.now.task s c.args.lane (is-held s c.args.lane true c.holds.result c.if-holds.true c.holds.ensures)

pub returns-then-holds-2 : goal.returns-then-holds-2
returns-then-holds-2 c = let s = c.args.self.now.search in told-turn c.args.self.now.task s c.args.lane (is-held s c.args.lane false c.holds-2.result c.if-holds-2.true c.holds-2.ensures)

pub returns-then-not-is_free : goal.returns-then-not-is_free
returns-then-not-is_free c =
    let s = c.args.self.now.search in
    told-none c.args.self.now.task s c.args.lane (not-held s c.args.lane true c.holds.result c.if-holds.false c.holds.ensures) (not-held s c.args.lane false c.holds-2.result c.if-holds-2.false c.holds-2.ensures)
    (λ n node b k. true≢false (sym (c.is_free.ensures.1 b.free) ∙ c.if-not-is_free.true))

pub returns-then-count-eq0 : goal.returns-then-count-eq0
returns-then-count-eq0 c =
    let s = c.args.self.now.search in
    let p = c.args.self.now.task in
    let k = c.count-count.ensures in
    told-none p s c.args.lane (not-held s c.args.lane true c.holds.result c.if-holds.false c.holds.ensures) (not-held s c.args.lane false c.holds-2.result c.if-holds-2.false c.holds-2.ensures)
    (λ n node b choice. no-choice p s (k.0, k.1, sym c.if-count-eq0.true ∙ k.2) n node choice)

pub returns-then-not-has_room : goal.returns-then-not-has_room
returns-then-not-has_room c =
    let s = c.args.self.now.search in
    told-none c.args.self.now.task s c.args.lane (not-held s c.args.lane true c.holds.result c.if-holds.false c.holds.ensures) (not-held s c.args.lane false c.holds-2.result c.if-holds-2.false c.holds-2.ensures)
    (λ n node b k. true≢false (sym (c.has_room.ensures.1 b.room) ∙ c.if-not-has_room.true))

pub is_open-requires : goal.is_open-requires
is_open-requires c = one-choice c.args.self.now.task c.args.self.now.search c.count-count.result c.count-count.ensures (omega (arith, c.if-count-eq0.false))

pub returns-then-is_open : goal.returns-then-is_open
returns-then-is_open c =
    told-count c.args.self.now.task c.args.self.now.search c.args.lane c.count-count.result c.count-count.ensures (omega (arith, c.if-count-eq0.false)) (c.is_free.ensures.0 c.if-not-is_free.false) (c.has_room.ensures.0 c.if-not-has_room.false) (sym c.is_open.ensures ∙ c.if-is_open.true)

pub returns-else-is_open : goal.returns-else-is_open
returns-else-is_open c =
    let s = c.args.self.now.search in
    told-none c.args.self.now.task s c.args.lane (not-held s c.args.lane true c.holds.result c.if-holds.false c.holds.ensures) (not-held s c.args.lane false c.holds-2.result c.if-holds-2.false c.holds-2.ensures)
    (λ n node b k. true≢false (sym b.open_yet ∙ sym c.is_open.ensures ∙ c.if-is_open.false))
