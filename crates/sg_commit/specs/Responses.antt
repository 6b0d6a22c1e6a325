-- How the best answers are found: the greatest sum of the attacker, then the defender's greatest where it is reached.
use Rattle.std.specs.Prelude.{ℕ, List, [], ◌∷◌, map, ℤ, pos, if◌then◌else◌, Option, Some, None, Result, Ok, Err}
use Rattle.std.specs.Int.{int_max}
use Rattle.sg_model.specs.declared.ticket.Ticket.{Ticket}
use Rattle.sg_model.specs.Sums.{greatest, numbers}
use Rattle.sg_model.specs.Games.{Game, action_count}
use Rattle.sg_model.specs.Commitments.{is_best, sum_a}
use Rattle.sg_num.specs.declared.step.Wide.{Wide}
use Rattle.sg_num.specs.Exact.{and_then}
use Rattle.sg_commit.specs.ExactSums.{exact_sum_a, exact_sum_d}

-- the greatest sum of type l over its actions
abbrev pub top_sum : Game → List Ticket → ℕ → ℤ
top_sum g k l = greatest (map (sum_a g k l) (numbers (action_count g l)))

-- the greatest of top and of the sums of these actions, formed in turn
abbrev pub top_from : Game → List Ticket → ℕ → ℤ → List ℕ → Result ℤ Wide
top_from g k l top [] = Ok top
top_from g k l top (a ∷ rest) = and_then (exact_sum_a g k l a) (λ sum. top_from g k l (int_max top sum) rest)

-- the greater of what was taken before, if anything, and of one sum more
abbrev pub taken_with : Option ℤ → ℤ → ℤ
taken_with None sum = sum
taken_with (Some best) sum = int_max best sum

-- what is taken where action a is looked at too
abbrev pub take_step : Game → List Ticket → ℕ → Option ℤ → ℕ → Result (Option ℤ) Wide
take_step g k l taken a = if is_best g k l a then and_then (exact_sum_d g k l a) (λ sum. Ok (Some (taken_with taken sum))) else Ok taken

-- what is taken where these actions are looked at too, in turn
abbrev pub take_from : Game → List Ticket → ℕ → Option ℤ → List ℕ → Result (Option ℤ) Wide
take_from g k l taken [] = Ok taken
take_from g k l taken (a ∷ rest) = and_then (take_step g k l taken a) (λ next. take_from g k l next rest)

-- what is taken in the end, and 0 where nothing was
abbrev pub settled : Result (Option ℤ) Wide → Result ℤ Wide
settled (Ok (Some taken)) = Ok taken
settled (Ok None) = Ok (pos 0)
settled (Err wide) = Err wide
