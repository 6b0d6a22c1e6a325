use Rattle.std.proofs.Common.{◌≡◌, ◌++◌, drop}
use Rattle.sg_dual.specs.Parts.{tickets_of}
use Rattle.sg_desk.proofs.committing.tickets.Given as goal

-- what is made, and what is left, is the whole
abbrev pub invariant-loop-part : goal.invariant-loop-part
invariant-loop-part l = l.tickets.items ++ tickets_of (drop l.part-index l.parts) ≡ tickets_of l.parts
