use Rattle.std.proofs.Common.{take}
use Rattle.sg_split.specs.ByTarget.{AreTicketsFor}
use Rattle.sg_split.proofs.serving.tickets_for.Given as goal

-- the tickets of the parts before
abbrev pub invariant-loop-part : goal.invariant-loop-part
invariant-loop-part l = AreTicketsFor l.game (take l.part-index l.parts) l.tickets.items
