-- The sums that a report states: numbers that its reader forms one after another, each of which must fit 128 bits.
use Rattle.std.specs.Prelude.{ℕ, if◌then◌else◌, List, [], ◌∷◌, ◌++◌, map, length, ℤ, pos, ◌+ℤ◌, ◌-ℤ◌, ◌*ℤ◌, filter, flat_map, int_lt}
use Rattle.std.specs.Int.{int_max}
use Rattle.sg_model.specs.declared.ticket.Ticket.{Ticket}
use Rattle.sg_model.specs.Sums.{total, greatest, least, numbers, nth}
use Rattle.sg_model.specs.Games.{Game, attacker, action_count, payoff, is_matrix, prior_total}
use Rattle.sg_model.specs.Plays.{pay_a, pay_d}
use Rattle.sg_model.specs.Payoffs.{payoffs_of, shift_of}
use Rattle.sg_model.specs.Commitments.{is_best, take_of, weight_total}
use Rattle.sg_tree.specs.declared.fact.Fact.{Fact}
use Rattle.sg_tree.specs.declared.fact.Fact.TheVariants.{Plays, Cover, Water}
use Rattle.sg_tree.specs.declared.fact.Mark.{Mark}
use Rattle.sg_tree.specs.declared.fact.Line.{Line}
use Rattle.sg_tree.specs.declared.fix.Fix.{Fix}
use Rattle.sg_tree.specs.declared.report.Cap.{Cap}
use Rattle.sg_bounds.specs.Regions.{fixed}
use Rattle.sg_bounds.specs.Facts.{mu_of, rho_of}
use Rattle.sg_bounds.specs.Leaves.{rest_of}

-- the running sums of numbers, after z
abbrev pub running : ℤ → List ℤ → List ℤ
running z [] = []
running z (x ∷ xs) = (z +ℤ x) ∷ running (z +ℤ x) xs

-- the running totals of the weights
abbrev pub weight_sums : List Ticket → List ℤ
weight_sums k = running (pos 0) (map (λ (x : Ticket). x.weight) k)

-- for each ticket its weight times what it pays, and the sum so far, after z
abbrev pub pay_sums : (List ℕ → ℤ) → ℤ → List Ticket → List ℤ
pay_sums pays z [] = []
pay_sums pays z (x ∷ xs) = (x.weight *ℤ pays x.play.code) ∷ (z +ℤ (x.weight *ℤ pays x.play.code)) ∷ pay_sums pays (z +ℤ (x.weight *ℤ pays x.play.code)) xs

-- what a type gets from each of its actions, and then what the defender gets from each of its best ones
abbrev pub take_sums : Game → List Ticket → ℕ → List ℤ
take_sums g k l =
    flat_map (λ a. pay_sums (λ play. pay_a g l play a) (pos 0) k) (numbers (action_count g l))
    ++ flat_map (λ a. pay_sums (λ play. pay_d g l play a) (pos 0) k) (filter (is_best g k l) (numbers (action_count g l)))

-- for each type what it takes, then its prior times that, and the sum so far, after z
abbrev pub worth_sums : Game → List Ticket → ℤ → List ℕ → List ℤ
worth_sums g k z [] = []
worth_sums g k z (l ∷ ls) =
    take_sums g k l
    ++ (((attacker g l).prior *ℤ take_of g k l) ∷ (z +ℤ ((attacker g l).prior *ℤ take_of g k l)) ∷ worth_sums g k (z +ℤ ((attacker g l).prior *ℤ take_of g k l)) ls)

-- the numbers under the value of tickets: those of their worth, and the total times the sum of the priors
abbrev pub value_sums : Game → List Ticket → List ℤ
value_sums g k = worth_sums g k (pos 0) (numbers (length g.types)) ++ ((weight_total k *ℤ prior_total g) ∷ [])

-- the greatest defender payoff of the game, with the shift
abbrev pub defender_most : Game → ℤ
defender_most g = greatest (flat_map (payoffs_of g) (numbers (length g.types))) +ℤ shift_of g

-- what type l may get where it takes action a
abbrev pub attacker_payoffs_at : Game → ℕ → ℕ → List ℤ
attacker_payoffs_at g l a =
    if is_matrix g then map (λ r. nth (nth (attacker g l).follower r []) a (pos 0)) (numbers (length g.goals))
    else ((payoff g l a).ac ∷ (payoff g l a).au ∷ [])

-- what type l may get
abbrev pub attacker_payoffs_of : Game → ℕ → List ℤ
attacker_payoffs_of g l = flat_map (attacker_payoffs_at g l) (numbers (action_count g l))

-- the greatest difference between two payoffs of type l
abbrev pub attacker_span : Game → ℕ → ℤ
attacker_span g l = greatest (attacker_payoffs_of g l) -ℤ least (attacker_payoffs_of g l)

-- the greatest difference between two attacker payoffs of one type, and at least 1
abbrev pub attacker_most : Game → ℤ
attacker_most g = int_max (pos 1) (greatest (map (attacker_span g) (numbers (length g.types))))

-- the sum of the priors of the fixed types
abbrev pub fixed_priors : Game → Fix → ℤ
fixed_priors g fix = total (λ (p : ℕ × ℕ). (attacker g p.0).prior) (fixed fix)

-- the multipliers of a fact's marks or lines
abbrev pub multipliers_of : Fact → List ℤ
multipliers_of (Plays rho mu marks) = map (λ (m : Mark). m.v) marks
multipliers_of (Cover rho mu lines) = map (λ (line : Line). line.v) lines
multipliers_of (Water level why) = []

-- the size sum of a fact: rho times the fixed priors times the most of the defender, and all multipliers times the most of an attacker
abbrev pub size_sum : Game → Fix → Fact → ℤ
size_sum g fix f = ((rho_of f *ℤ fixed_priors g fix) *ℤ defender_most g) +ℤ (total (λ v. v) (multipliers_of f) *ℤ attacker_most g)

-- the numbers under it, in the order in which they are formed
abbrev pub size_list : Game → Fix → Fact → List ℤ
size_list g fix f =
    (rho_of f *ℤ fixed_priors g fix) ∷ ((rho_of f *ℤ fixed_priors g fix) *ℤ defender_most g)
    ∷ (running (pos 0) (multipliers_of f) ++ ((total (λ v. v) (multipliers_of f) *ℤ attacker_most g) ∷ size_sum g fix f ∷ []))

-- a water level has no size sum
abbrev pub size_sums : Game → Fix → Fact → List ℤ
size_sums g fix (Plays rho mu marks) = size_list g fix (Plays rho mu marks)
size_sums g fix (Cover rho mu lines) = size_list g fix (Cover rho mu lines)
size_sums g fix (Water level why) = []

-- the numbers under the bound of a fact that fixes n types; a fact with mu = 0 has none
abbrev pub bound_sums : Game → List Cap → ℕ → Fact → List ℤ
bound_sums g caps n f =
    if int_lt (pos 0) (mu_of f)
    then ((rho_of f *ℤ rest_of g caps n) ∷ (mu_of f +ℤ (rho_of f *ℤ rest_of g caps n)) ∷ (rho_of f *ℤ prior_total g) ∷ [])
    else []
