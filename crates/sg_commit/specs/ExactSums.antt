-- The sums of a commitment and the answers of the attackers, formed within 128 bits in a stated order: the value, or the first operation that doesn't fit.
use Rattle.std.specs.Prelude.{◌≡◌, ℕ, Bool, List, [], ◌∷◌, length, ℤ, pos, ◌*ℤ◌, filter, Option, Some, None, Result, Ok, Err, IsOk}
use Rattle.sg_model.specs.declared.ticket.Ticket.{Ticket}
use Rattle.sg_model.specs.Sums.{numbers}
use Rattle.sg_model.specs.Games.{Game, action_count, attacker, prior_total}
use Rattle.sg_model.specs.Plays.{pay_a, pay_d}
use Rattle.sg_model.specs.Commitments.{IsValue, is_best, take_of, weight_total, worth}
use Rattle.sg_num.specs.declared.step.Wide.{Wide}
use Rattle.sg_num.specs.Exact.{and_then, exact_dot_step, exact_times}
use Rattle.sg_frac.specs.Fractions.{Fraction, IsReducedForm}

-- by rising ticket, the weight times the pay is added to acc
abbrev pub exact_dot : (Ticket → ℤ) → ℤ → List Ticket → Result ℤ Wide
exact_dot pay acc [] = Ok acc
exact_dot pay acc (x ∷ xs) = and_then (exact_dot_step acc x.weight (pay x)) (λ next. exact_dot pay next xs)

-- what the defender gets against type l, which takes action a
abbrev pub exact_sum_d : Game → List Ticket → ℕ → ℕ → Result ℤ Wide
exact_sum_d g k l a = exact_dot (λ (x : Ticket). pay_d g l x.play.code a) (pos 0) k

-- what type l gets from action a
abbrev pub exact_sum_a : Game → List Ticket → ℕ → ℕ → Result ℤ Wide
exact_sum_a g k l a = exact_dot (λ (x : Ticket). pay_a g l x.play.code a) (pos 0) k

-- the refusal of a first value, else of the later ones
abbrev pub refusal_or : Result ℤ Wide → Option Wide → Option Wide
refusal_or (Err wide) later = Some wide
refusal_or (Ok z) later = later

-- the first refusal where these are formed in turn
abbrev pub first_refusal : (ℕ → Result ℤ Wide) → List ℕ → Option Wide
first_refusal form [] = None
first_refusal form (a ∷ rest) = refusal_or (form a) (first_refusal form rest)

-- a result, unless there was a refusal before it
abbrev pub unless : {A : Type 0} → Option Wide → Result A Wide → Result A Wide
unless (Some wide) result = Err wide
unless None result = result

-- the sums that type l compares, of all its actions by rising action
abbrev pub compared : Game → List Ticket → ℕ → Option Wide
compared g k l = first_refusal (exact_sum_a g k l) (numbers (action_count g l))

-- whether a is best for type l, once the sums are compared
abbrev pub exact_is_best : Game → List Ticket → ℕ → ℕ → Result Bool Wide
exact_is_best g k l a = unless (compared g k l) (Ok (is_best g k l a))

-- what type l leaves the defender: the sums are compared, then the defender's sums formed of the best actions by rising action
abbrev pub exact_take : Game → List Ticket → ℕ → Result ℤ Wide
exact_take g k l =
    unless (compared g k l)
    (unless (first_refusal (exact_sum_d g k l) (filter (is_best g k l) (numbers (action_count g l)))) (Ok (take_of g k l)))

-- acc and the prior of type l times what it leaves the defender
abbrev pub worth_step : Game → List Ticket → ℤ → ℕ → Result ℤ Wide
worth_step g k acc l = and_then (exact_take g k l) (λ taken. exact_dot_step acc (attacker g l).prior taken)

-- so for each of these types in turn
abbrev pub worth_from : Game → List Ticket → ℤ → List ℕ → Result ℤ Wide
worth_from g k acc [] = Ok acc
worth_from g k acc (l ∷ rest) = and_then (worth_step g k acc l) (λ next. worth_from g k next rest)

-- what all types leave the defender, weighted by their priors, by rising type
abbrev pub exact_worth : Game → List Ticket → Result ℤ Wide
exact_worth g k = worth_from g k (pos 0) (numbers (length g.types))

-- the worth, then the total times the sum of the priors, which is what the worth is over
abbrev pub exact_base : Game → List Ticket → Result ℤ Wide
exact_base g k = and_then (exact_worth g k) (λ worth. exact_times (weight_total k) (prior_total g))

-- the defender value in lowest terms, where the worth and what it is over fit, else the first operation that doesn't
abbrev pub IsExactValue : Game → List Ticket → Result Fraction Wide → Type 0
IsExactValue g k (Ok value) =
    IsOk (exact_base g k) × IsReducedForm (worth g k) (weight_total k *ℤ prior_total g) value × IsValue g k value.num value.den
IsExactValue g k (Err wide) = exact_base g k ≡ Err wide
