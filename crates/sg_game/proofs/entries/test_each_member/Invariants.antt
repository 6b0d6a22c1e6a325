use Rattle.std.proofs.Common.{◌≡◌, [], drop, take}
use Rattle.sg_game.specs.Faults.{each_member_fault}
use Rattle.sg_game.proofs.entries.test_each_member.Given as goal

-- the rest decides
abbrev pub invariant-loop-i : goal.invariant-loop-i
invariant-loop-i l = each_member_fault l.count l.place (take l.i l.members) (drop l.i l.members) ≡ each_member_fault l.count l.place [] l.members
