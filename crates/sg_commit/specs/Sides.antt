-- What each of the two sides gets, the defender and a type of attacker.
use Rattle.std.specs.Prelude.{ℕ, List, ℤ, pos, Result}
use Rattle.sg_model.specs.declared.ticket.Ticket.{Ticket}
use Rattle.sg_model.specs.Games.{Game, Payoff}
use Rattle.sg_model.specs.Plays.{pay_a, pay_d}
use Rattle.sg_num.specs.declared.step.Wide.{Wide}
use Rattle.sg_commit.specs.declared.side.Side.{Side}
use Rattle.sg_commit.specs.declared.side.Side.TheVariants.{Defender, Attacker}
use Rattle.sg_commit.specs.ExactSums.{exact_dot}

-- what a side gets where a play is drawn and type l takes action a
abbrev pub pay_to : Side → Game → ℕ → List ℕ → ℕ → ℤ
pay_to Defender g l play a = pay_d g l play a
pay_to Attacker g l play a = pay_a g l play a

-- what a target pays it where it is covered, and where it isn't
abbrev pub covered_to : Side → Payoff → ℤ
covered_to Defender p = p.dc
covered_to Attacker p = p.ac

abbrev pub uncovered_to : Side → Payoff → ℤ
uncovered_to Defender p = p.du
uncovered_to Attacker p = p.au

-- its sum over the tickets, by rising ticket
abbrev pub exact_sum_to : Side → Game → List Ticket → ℕ → ℕ → Result ℤ Wide
exact_sum_to side g k l a = exact_dot (λ (x : Ticket). pay_to side g l x.play.code a) (pos 0) k
