-- How many looks pricing takes where plays are listed.
use Rattle.std.proofs.Common.{ℕ, zero, suc, ◌+◌, ◌*◌, ◌≤◌, Bool, true, false, List, [], ◌∷◌, length, arith}
use Rattle.std.specs.Prelude.{ℤ, if◌then◌else◌}
use Rattle.std.proofs.Math.Nat.{mul-le-mul_left}
use Rattle.std.proofs.lemmas.List.{length-map}
use Rattle.sg_model.specs.Games.{Game, is_matrix, resource_count, resource_schedules}
use Rattle.sg_model.specs.PlayLists.{choices_from, legal_plays, play_count}
use Rattle.sg_model.proofs.LegalPlays.{legal_plays_are_counted}
use Rattle.sg_tree.specs.declared.fix.Fix.{Fix}
use Rattle.sg_lp.specs.declared.column.Column.{Column}
use Rattle.sg_lp.specs.Programs.{Program}
use Rattle.sg_lp.specs.Listing.{enters, listing_looks}
use Rattle.sg_programs.specs.Enough.{coverage_columns, enough_looks, partial_count}
use Rattle.sg_programs.specs.Plays.{column_of, plays_program}

pub looks-few : (p : Program) (y : List ℤ) (rho : ℤ) (cs : List Column) → listing_looks p y rho cs ≤ length cs
looks-few p y rho [] = omega arith
looks-few p y rho (c ∷ cs) = go (enters p y rho c) (looks-few p y rho cs)
  where
    go : (t : Bool) → listing_looks p y rho cs ≤ length cs → (if t then 1 else 1 + listing_looks p y rho cs) ≤ suc (length cs)
    go true h = omega arith
    go false h = omega arith

-- full plays are partial plays
partials-more : (g : Game) (r n : ℕ) → choices_from g r n ≤ partial_count g r n
partials-more g r zero = omega arith
partials-more g r (suc n) =
    let some = mul-le-mul_left (length (resource_schedules g r) + 1) (partials-more g (r + 1) n) in
    more (length (resource_schedules g r)) (choices_from g (r + 1) n) (partial_count g (r + 1) n) some
  where
    more : (k a b : ℕ) → (k + 1) * a ≤ (k + 1) * b → (1 + k) * a ≤ 1 + (k + 1) * b
    more k a b h = omega (arith, h)

plays-few : (g : Game) → play_count g ≤ enough_looks g
plays-few g = go (is_matrix g)
  where
    go : (t : Bool) → (if t then length g.goals else choices_from g 1 (resource_count g)) ≤ (if t then length g.goals else partial_count g 1 (resource_count g) + coverage_columns g)
    go true = omega arith
    go false = let some = partials-more g 1 (resource_count g) in omega (arith, some)

pub looks_enough : (g : Game) (fix : Fix) (y : List ℤ) (rho : ℤ) → listing_looks (plays_program g fix) y rho (plays_program g fix).columns ≤ enough_looks g
looks_enough g fix y rho =
    let few = looks-few (plays_program g fix) y rho (plays_program g fix).columns in
    let count = length-map (legal_plays g) column_of in
    let plays = legal_plays_are_counted g in
    let enough = plays-few g in
    omega (arith, few, count, plays, enough)
