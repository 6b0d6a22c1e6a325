-- All columns of the coverage table of a game, as a list.
use Rattle.std.proofs.Common.{◌≡◌, ◌≢◌, ◌≤◌, ℕ, List, ◌∷◌, ◌++◌, map, length, arith, slice_index_or, flat_map}
use Rattle.std.specs.List.{All, AllPairs, Contains}
use Rattle.std.proofs.lemmas.List.Elements.{All-cons, All-append, All-map, Contains-append_left, Contains-append_right}
use Rattle.sg_model.specs.Sums.{numbers}
use Rattle.sg_model.specs.Games.{Game, resource_count, resource_schedules}
use Rattle.std.proofs.lemmas.List.Kept.{AllPairs-cons}
use Rattle.sg_model.proofs.Before.{Lesser, pairs-append, pairs-flat_map, pairs-map, rise-numbers_from}
use Rattle.sg_model.proofs.Greatest.{Contains-head, Contains-tail}
use Rattle.sg_model.proofs.Lists.{All-flat_map}
use Rattle.sg_model.proofs.Numbers.{All-numbers}
use Rattle.sg_model.proofs.Payoffs.{Contains-flat_map, Contains-map, Contains-numbers}
use Rattle.sg_bounds.specs.RowLaws.{ColumnsAreAll}
use Rattle.sg_bounds.specs.Coverage.{Column, IsColumn, always, chooses, columns, covering}

abbrev choice_columns : Game → ℕ → List Column
choice_columns g r = map (chooses r) (numbers (length (resource_schedules g r)))

pub columns-are : (g : Game) → All (IsColumn g) (columns g)
columns-are g =
    let choices : List Column = flat_map (choice_columns g) (numbers (resource_count g)) in
    let targets : List Column = map covering (numbers (length g.goals)) in
    All-cons (IsColumn g) always (choices ++ targets) tt
    (All-append (IsColumn g) choices targets
    (All-flat_map (IsColumn g) (choice_columns g) (numbers (resource_count g)) (All-numbers (λ r. All (IsColumn g) (choice_columns g r)) (resource_count g)
    (λ r low high. All-map (IsColumn g) (chooses r) (numbers (length (resource_schedules g r))) (All-numbers (λ j. IsColumn g (chooses r j)) (length (resource_schedules g r)) (λ j from_one in_list. (low, high, from_one, in_list))))))
    (All-map (IsColumn g) covering (numbers (length g.goals)) (All-numbers (λ t. IsColumn g (covering t)) (length g.goals) (λ t low high. (low, high)))))

pub columns-inside : (g : Game) (c : Column) → IsColumn g c → Contains (columns g) c
columns-inside g c is = at c is
  where
    choices : List Column
    choices = flat_map (choice_columns g) (numbers (resource_count g))

    targets : List Column
    targets = map covering (numbers (length g.goals))

    at : (c : Column) → IsColumn g c → Contains (columns g) c
    at always is = Contains-head always (choices ++ targets)
    at (chooses r j) is =
        Contains-tail always (choices ++ targets) (chooses r j) (Contains-append_left choices targets (chooses r j)
        (Contains-flat_map (choice_columns g) (numbers (resource_count g)) r (chooses r j) (Contains-numbers (resource_count g) r is.0 is.1)
        (Contains-map (chooses r) (numbers (length (resource_schedules g r))) j (Contains-numbers (length (resource_schedules g r)) j is.2 is.3))))
    at (covering t) is =
        Contains-tail always (choices ++ targets) (covering t) (Contains-append_right choices targets (covering t) (Contains-map covering (numbers (length g.goals)) t (Contains-numbers (length g.goals) t is.0 is.1)))

-- ---- each once

abbrev Apart : Column → Column → Type 0
Apart x y = x ≢ y

choices-apart : (g : Game) (r : ℕ) → AllPairs Apart (choice_columns g r)
choices-apart g r =
    pairs-map Lesser Apart (chooses r) (λ a b lt e. let same : a ≡ b = cc in omega (arith, lt, same)) (numbers (length (resource_schedules g r))) (rise-numbers_from 1 (length (resource_schedules g r)))

others-apart : (g : Game) (r s : ℕ) → Lesser r s → All (λ x. All (Apart x) (choice_columns g s)) (choice_columns g r)
others-apart g r s lt =
    All-map (λ x. All (Apart x) (choice_columns g s)) (chooses r) (numbers (length (resource_schedules g r)))
    (λ i d here. All-map (Apart (chooses r (slice_index_or (numbers (length (resource_schedules g r))) i d))) (chooses s) (numbers (length (resource_schedules g s)))
    (λ j e there same. let equal : r ≡ s = cc in omega (arith, lt, equal)))

targets-apart : (g : Game) → AllPairs Apart (map covering (numbers (length g.goals)))
targets-apart g = pairs-map Lesser Apart covering (λ a b lt e. let same : a ≡ b = cc in omega (arith, lt, same)) (numbers (length g.goals)) (rise-numbers_from 1 (length g.goals))

columns-apart : (g : Game) → AllPairs Apart (columns g)
columns-apart g =
    let choices : List Column = flat_map (choice_columns g) (numbers (resource_count g)) in
    let targets : List Column = map covering (numbers (length g.goals)) in
    AllPairs-cons Apart always (choices ++ targets)
    (All-append (Apart always) choices targets
    (All-flat_map (Apart always) (choice_columns g) (numbers (resource_count g))
    (λ i d lt. All-map (Apart always) (chooses (slice_index_or (numbers (resource_count g)) i d)) (numbers (length (resource_schedules g (slice_index_or (numbers (resource_count g)) i d)))) (λ j e in_list same. cc)))
    (All-map (Apart always) covering (numbers (length g.goals)) (λ i d lt same. cc)))
    (pairs-append Apart choices targets
    (pairs-flat_map Apart (choice_columns g) (choices-apart g) (others-apart g) 1 (resource_count g))
    (targets-apart g)
    (All-flat_map (λ x. All (Apart x) targets) (choice_columns g) (numbers (resource_count g))
    (λ i d lt. All-map (λ x. All (Apart x) targets) (chooses (slice_index_or (numbers (resource_count g)) i d)) (numbers (length (resource_schedules g (slice_index_or (numbers (resource_count g)) i d))))
    (λ j e in_list.
    All-map (Apart (chooses (slice_index_or (numbers (resource_count g)) i d) (slice_index_or (numbers (length (resource_schedules g (slice_index_or (numbers (resource_count g)) i d)))) j e))) covering (numbers (length g.goals)) (λ k f there same. cc)))))

pub columns_are_all : ColumnsAreAll
columns_are_all g = record { known = columns-are g; distinct = columns-apart g; complete = columns-inside g }
