use Rattle.std.proofs.Common.{◌≡◌, ◌+◌, ◌-◌, None}
use Rattle.sg_model.specs.Sums.{numbers, numbers_from}
use Rattle.sg_model.specs.Games.{action_count}
use Rattle.sg_commit.specs.Responses.{take_from}
use Rattle.sg_commit.proofs.response.look_at_all.Given as goal

-- the actions that are left are looked at after what was taken so far
abbrev pub invariant-loop-i : goal.invariant-loop-i
invariant-loop-i l =
    take_from l.game l.k.tickets l.l None (numbers (action_count l.game l.l))
    ≡ take_from l.game l.k.tickets l.l l.taken (numbers_from (l.i + 1) (action_count l.game l.l - l.i))
