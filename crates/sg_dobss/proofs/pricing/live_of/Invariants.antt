use Rattle.std.proofs.Common.{◌≡◌, ◌≤◌, length, take}
use Rattle.sg_dobss.proofs.Living.{IsLiving}
use Rattle.sg_dobss.proofs.pricing.live_of.Given as goal

abbrev pub invariant-loop-j : goal.invariant-loop-j
invariant-loop-j l = (l.count ≤ l.j) × (length l.places ≡ 1536) × IsLiving l.y l.j (take l.count l.places)
