use Rattle.std.proofs.Common.{◌∙◌, sym}
use Rattle.sg_lanes.proofs.Risen.{no-rise-of, not-wide, rise-of}
use Rattle.sg_lanes.proofs.lanes.Lanes.rise.Goals as goal

pub unreachable-requires : goal.unreachable-requires
unreachable-requires c = not-wide _ _ c.args.self.now c.args.point.now c.in-Some.k c.in-Err.field-0 c.self.view_is c.requires c.in-Some.is c.in-Err.ensures.value

pub returns-then-not-is_above : goal.returns-then-not-is_above
returns-then-not-is_above c =
    no-rise-of _ _ _ c.args.self.now c.args.point.now c.in-Some.k c.in-Ok.new c.self.view_is c.self.invariant c.requires c.in-Some.is c.in-Ok.ensures.value.1 (sym c.is_above.ensures ∙ c.if-not-is_above.true)

pub returns-in_ok-copy-in-Some : goal.returns-in_ok-copy-in-Some
returns-in_ok-copy-in-Some c =
    rise-of _ _ _ c.args.self.now c.args.point.now c.in-Some.k c.in_ok-copy-in-Some.field-0 c.in-Ok.new c.self.view_is c.self.invariant c.requires c.in-Some.is c.in-Ok.ensures.value.1 (sym c.is_above.ensures ∙ c.if-not-is_above.false) c.in_ok-copy-in-Some.ensures
