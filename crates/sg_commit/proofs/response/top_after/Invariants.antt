use Rattle.std.proofs.Common.{◌≡◌, ◌+◌, ◌-◌}
use Rattle.sg_model.specs.Sums.{numbers_from}
use Rattle.sg_model.specs.Games.{action_count}
use Rattle.sg_commit.specs.Responses.{top_from}
use Rattle.sg_commit.proofs.response.top_after.Given as goal

-- the actions that are left are compared with the greatest so far
abbrev pub invariant-loop-i : goal.invariant-loop-i
invariant-loop-i l =
    top_from l.game l.k.tickets l.l l.fn.first (numbers_from 2 (action_count l.game l.l - 1))
    ≡ top_from l.game l.k.tickets l.l l.top (numbers_from (l.i + 1) (action_count l.game l.l - l.i))
