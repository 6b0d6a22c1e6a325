-- The operations under the value of a small commitment, and the first that doesn't fit, worked out by hand.
use Rattle.std.specs.Prelude.{◌≡◌, ◌^◌, List, [], ◌∷◌, codes, pos, None, Err}
use Rattle.sg_model.specs.declared.kind.Kind.TheVariants.{Matrix}
use Rattle.sg_model.specs.declared.ticket.Ticket.{Ticket}
use Rattle.sg_model.specs.Games.{Game}
use Rattle.sg_model.specs.Examples.{letters, ticket}
use Rattle.sg_num.specs.Operations.{plus, times}
use Rattle.sg_commit.specs.ExactSums.{exact_base, exact_sum_a, exact_take, exact_worth}
use Rattle.sg_commit.specs.SumSteps.{base_steps}

-- three rows against one type of prior 9 with two actions
abbrev pub three_choices : Game
three_choices = record {
  kind = Matrix;
  scale = pos 0;
  patrols = None;
  goals = letters 3;
  schedules = [];
  resources = [];
  types = record {
    name = codes "one";
    prior = pos 9;
    payoffs = [];
    actions = letters 2;
    leader = (pos 5 ∷ pos 0 ∷ []) ∷ (pos 1 ∷ pos 4 ∷ []) ∷ (pos 0 ∷ pos 0 ∷ []) ∷ [];
    follower = (pos 1 ∷ pos 2 ∷ []) ∷ (pos 3 ∷ pos 0 ∷ []) ∷ (pos 0 ∷ pos 0 ∷ []) ∷ [];
  }
      ∷ [];
}

-- two tickets of the first row, one of the second
abbrev pub two_and_one : List Ticket
two_and_one = ticket 2 (1 ∷ []) ∷ ticket 1 (2 ∷ []) ∷ []

pub record AreWorkedSums : Type 0 where
  -- the attacker gets 2 * 1 + 1 * 3 = 5 from action 1 and 2 * 2 + 1 * 0 = 4 from action 2; of action 1 the defender gets 2 * 5 + 1 * 1 = 11;
  -- prior 9 times 11, and 3 tickets times 9
  pub steps : base_steps three_choices two_and_one
      ≡ times (pos 2) (pos 1) ∷ plus (pos 0) (pos 2) ∷ times (pos 1) (pos 3) ∷ plus (pos 2) (pos 3)
      ∷ times (pos 2) (pos 2) ∷ plus (pos 0) (pos 4) ∷ times (pos 1) (pos 0) ∷ plus (pos 4) (pos 0)
      ∷ times (pos 2) (pos 5) ∷ plus (pos 0) (pos 10) ∷ times (pos 1) (pos 1) ∷ plus (pos 10) (pos 1)
      ∷ times (pos 9) (pos 11) ∷ plus (pos 0) (pos 99)
      ∷ times (pos 3) (pos 9) ∷ []
  -- the attacker's sum of the first action: 2^126 * 3 doesn't fit
  pub attacker : exact_sum_a three_choices (ticket (2 ^ 126) (2 ∷ []) ∷ []) 1 1 ≡ Err (times (pos (2 ^ 126)) (pos 3))
  -- so the answer isn't known, though the defender's sums of both actions fit
  pub taken : exact_take three_choices (ticket (2 ^ 126) (2 ∷ []) ∷ []) 1 ≡ Err (times (pos (2 ^ 126)) (pos 3))
  -- the sum fits, and its product with the prior doesn't
  pub prior : exact_worth three_choices (ticket (2 ^ 124) (2 ∷ []) ∷ []) ≡ Err (times (pos 9) (pos (2 ^ 124)))
  -- the worth is 0, and the total times the sum of the priors doesn't fit
  pub base : exact_base three_choices (ticket (2 ^ 124) (3 ∷ []) ∷ []) ≡ Err (times (pos (2 ^ 124)) (pos 9))
