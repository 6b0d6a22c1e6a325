use Rattle.std.proofs.Common.{◌≡◌, ◌+◌, ◌-◌}
use Rattle.std.specs.List.{find}
use Rattle.sg_model.specs.Games.{action_count}
use Rattle.sg_model.specs.Sums.{numbers_from}
use Rattle.sg_commit.specs.Answers.{answer, is_answer}
use Rattle.sg_commit.proofs.response.first_answer.Given as goal

-- those left decide
abbrev pub invariant-loop-i : goal.invariant-loop-i
invariant-loop-i l = answer l.game l.k.tickets l.l ≡ find (is_answer l.game l.k.tickets l.l) (numbers_from (l.i + 1) (action_count l.game l.l - l.i))
