use Rattle.std.proofs.Common.{◌≡◌, map}
use Rattle.sg_game.specs.Seen.{named_of}
use Rattle.sg_gen.specs.Generated.{named_lists}
use Rattle.sg_gen.specs.Making.{member_lists}
use Rattle.sg_gen.proofs.names.named_lists.Given as goal

-- the lists so far
abbrev pub invariant-loop-members : goal.invariant-loop-members
invariant-loop-members l = map named_of l.named.items ≡ named_lists l.front 1 (member_lists l.yielded)
