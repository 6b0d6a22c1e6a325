use Rattle.std.proofs.Common.{ap, length}
use Rattle.sg_gen.proofs.Lists.{lists-named}
use Rattle.sg_gen.proofs.names.named_lists.Goals as goal

pub loop-members-preserved : goal.loop-members-preserved
loop-members-preserved c =
    lists-named c.args.front.now c.loop-members.named.items c.push.new.self.items c.loop-members.yielded c.in-Some.members c.in_ok-name.name _ c.loop-members.invariant c.in_ok-push.ensures.items c.in_ok-name.ensures (ap length c.as_slice.ensures.value)
