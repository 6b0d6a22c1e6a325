-- What is read off a search: the incumbent, the facts, the caps of the moment, the tree, and the bounds.
use Rattle.std.specs.Prelude.{ℕ, zero, suc, ◌+◌, ◌-◌, nat_eq, Bool, false, if◌then◌else◌, List, [], ◌∷◌, ◌++◌, map, length, fold, find, filter_map, ℤ, pos, ◌+ℤ◌, ◌-ℤ◌, ◌*ℤ◌, int_lt, int_div, Option, Some, None, option_map, option_and_then, bytes_eq}
use Rattle.std.specs.List.{list_any}
use Rattle.sg_model.specs.Sums.{greatest, numbers, numbers_from}
use Rattle.sg_model.specs.Games.{Game, attacker, action_count, prior_total}
use Rattle.sg_model.specs.declared.ticket.Ticket.{Ticket}
use Rattle.sg_model.specs.Commitments.{weight_total, worth}
use Rattle.sg_model.specs.Payoffs.{greatest_of, shift_of}
use Rattle.sg_frac.specs.Fractions.{Fraction}
use Rattle.sg_commit.specs.Committed.{Committed}
use Rattle.sg_tree.specs.declared.fact.Fact.{Fact}
use Rattle.sg_tree.specs.declared.fix.Fix.{Fix}
use Rattle.sg_tree.specs.declared.report.Cap.{Cap}
use Rattle.sg_tree.specs.declared.worked.Worked.{Worked}
use Rattle.sg_bounds.specs.Regions.{alone, prefix}
use Rattle.sg_bounds.specs.Facts.{mu_of, rho_of}
use Rattle.sg_bounds.specs.Trees.{Node, unproved, closed, split, parts_of}
use Rattle.sg_bounds.specs.Leaves.{fact_bound, root_bound, tree_bounds_of}
use Rattle.sg_search.specs.Searches.{Task, Search, same}

-- the defender value of a commitment, as a fraction that need not be reduced
abbrev pub value_fraction : Game → List Ticket → Fraction
value_fraction g k = record { num = worth g k; den = weight_total k *ℤ prior_total g }

-- whether a is above b, where both denominators are at least 1
abbrev pub exceeds : Fraction → Fraction → Bool
exceeds a b = int_lt (b.num *ℤ a.den) (a.num *ℤ b.den)

-- of the best so far and a further commitment, the one of greater value; an equal one doesn't replace the best
abbrev pub better : Game → List Ticket → Option Committed → List Ticket
better g best None = best
better g best (Some k) = if exceeds (value_fraction g k.tickets) (value_fraction g best) then k.tickets else best

-- the incumbent: the best of the first commitment and the points of the worked nodes
abbrev pub incumbent : Task → Search → List Ticket
incumbent p s = fold (λ best (w : Worked). better p.game best w.point) p.first s.worked

abbrev pub lower : Task → Search → Fraction
lower p s = value_fraction p.game (incumbent p s)

-- the fact of a worked node
abbrev pub fact_of : List Worked → Fix → Option Fact
fact_of worked node = option_map (λ (w : Worked). w.fact) (find (λ (w : Worked). same node w.fix) worked)

-- the facts of a type's cap nodes that are worked, by action
abbrev pub cap_facts : Game → Search → ℕ → List Fact
cap_facts g s l = filter_map (λ a. fact_of s.worked (alone l a)) (numbers (action_count g l))

-- the least whole number that a fact's bound, mu / (rho * prior) less the shift, does not exceed; none where its region is empty
abbrev pub least_cap : Game → ℕ → Fact → Option ℤ
least_cap g l f =
    let d = rho_of f *ℤ (attacker g l).prior in
    if int_lt (pos 0) (mu_of f) then Some (int_div (mu_of f +ℤ (d -ℤ pos 1)) d -ℤ shift_of g) else None

-- a cap is plain until all nodes of the type are worked; then it is the least whole number that none of its facts exceeds
abbrev pub cap_at : Game → Search → ℕ → Cap
cap_at g s l =
    if nat_eq (length (cap_facts g s l)) (action_count g l)
    then record { l = l; v = greatest (filter_map (least_cap g l) (cap_facts g s l)); proof = cap_facts g s l }
    else record { l = l; v = greatest_of g l; proof = [] }

-- the caps of the moment, of types 2 and up
abbrev pub caps_of : Game → Search → List Cap
caps_of g s = map (cap_at g s) (numbers_from 2 (length g.types - 1))

-- whether a prefix was split
abbrev pub is_split : List (List ℕ) → List ℕ → Bool
is_split splits acts = list_any (bytes_eq acts) splits

-- a part without a fact, or closed by its fact
abbrev pub leaf_with : Option Fact → Node
leaf_with None = unproved
leaf_with (Some f) = closed f

-- the tree from a prefix on, where n more types may be fixed: a split prefix has its fact as base, and a part for each
-- action of the next type
abbrev pub tree_at : Game → Search → ℕ → List ℕ → Node
tree_at g s zero acts = leaf_with (fact_of s.worked (prefix acts))
tree_at g s (suc n) acts =
    if is_split s.splits acts
    then split (length acts + 1) (fact_of s.worked (prefix acts)) (parts_of (map (λ a. tree_at g s n (acts ++ (a ∷ []))) (numbers (action_count g (length acts + 1)))))
    else leaf_with (fact_of s.worked (prefix acts))

abbrev pub tree_of : Game → Search → Node
tree_of g s = tree_at g s (length g.types) []

-- the bound of a prefix's own fact under the caps of the moment; none where it has no fact, or its region is empty
abbrev pub own_bound : Game → Search → List ℕ → Option Fraction
own_bound g s acts = option_and_then (fact_bound g (caps_of g s) (length acts)) (fact_of s.worked (prefix acts))

-- the bound that the open parts of a split have: that of the split prefix, and of the root the greatest payoffs
abbrev pub inherited : Game → Search → List ℕ → Option Fraction
inherited g s [] = Some (root_bound g)
inherited g s (a ∷ acts) = own_bound g s (a ∷ acts)

-- whether a bound is there and above the incumbent's value
abbrev pub is_over : Task → Search → Option Fraction → Bool
is_over p s None = false
is_over p s (Some b) = exceeds b (lower p s)

-- whether the bound of a leaf is above the incumbent's value: then the upper bound is
abbrev pub is_open : Task → Search → Bool
is_open p s = list_any (λ b. exceeds b (lower p s)) (tree_bounds_of p.game (caps_of p.game s) (tree_of p.game s))
