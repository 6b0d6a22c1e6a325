-- The sum of lines in the column of a choice: what its resource spends, less what its targets are held by.
use Rattle.std.proofs.Common.{◌≡◌, ◌≢◌, ℕ, zero, suc, Bool, true, false, cond, List, [], ◌∷◌, ap, subst, refl, arith, eqb, Option, Some, None, inl, inr, slice_index_or}
use Rattle.std.specs.Prelude.{ℤ, pos, negsuc, ◌-ℤ◌, ◌*ℤ◌}
use Rattle.std.specs.List.{All, AllPairs, list_any}
use Rattle.std.proofs.lemmas.Bool.{cases_eq}
use Rattle.std.proofs.lemmas.Bool.Decides.{nat_tests}
use Rattle.std.proofs.lemmas.Int.{ints}
use Rattle.std.proofs.lemmas.List.Elements.{All-head, All-tail}
use Rattle.sg_model.specs.declared.kind.Kind.TheVariants.{Security}
use Rattle.sg_model.specs.Sums.{nth, total}
use Rattle.sg_model.specs.Games.{Game, Named, resource_schedules, schedule_targets, unnamed}
use Rattle.sg_model.specs.Limits.{AreListed, IsDefended, IsGame}
use Rattle.sg_model.proofs.Ints.{v, less, times, same_by}
use Rattle.sg_model.proofs.Promises.{game_cases, nth-or}
use Rattle.sg_model.proofs.Sums.{total-add, total-scaled, total-zero}
use Rattle.sg_tree.specs.declared.fact.Line.{Line}
use Rattle.sg_tree.specs.declared.fix.Fix.{Fix}
use Rattle.sg_bounds.specs.Coverage.{Row, choice_holds, chooses, entry, gains, held, row_of, spends, where_same, whole, within}
use Rattle.sg_cover_fact.specs.LineSums.{sum_in_column, held_sum, holding, spending, spent_sum}

abbrev Apart : List ℕ → Type 0
Apart xs = AllPairs (λ (x y : ℕ). x ≢ y) xs

none-apart : Apart []
none-apart = λ i j d lt in_list. absurd (omega (arith, in_list))

one-apart : (x : ℕ) → Apart (x ∷ [])
one-apart x = λ i j d lt in_list. absurd (omega (arith, lt, in_list))

patrol-apart : (g : Game) (m : ℕ) → g.patrols ≡ Some m → (s : ℕ) → Apart (schedule_targets g s)
patrol-apart g m e zero = rw e none-apart
patrol-apart g m e (suc k) = rw e (one-apart (suc k))

listed-apart : (g : Game) → g.patrols ≡ None → IsDefended g g.patrols → (s : ℕ) → Apart (schedule_targets g s)
listed-apart g e h s =
    let listed : AreListed g = subst (IsDefended g) e h in
    let P : Named → Type 0 = λ (x : Named). Apart x.members in
    let all : All P g.schedules = λ k d lt. (listed.schedules.members k d lt).distinct in
    rw e (nth-or P g.schedules unnamed none-apart all s)

-- a schedule holds no target twice
pub targets-apart : (g : Game) → IsGame g → g.kind ≡ Security → (s : ℕ) → Apart (schedule_targets g s)
targets-apart g is_game security s =
    elim (game_cases g is_game) [
      | inl secure ↦ (
          elim g.patrols as (λ (o : Option ℕ). g.patrols ≡ o → Apart (schedule_targets g s)) [
            | Some m ↦ (λ e. patrol-apart g m e s)
            | None ↦ (λ e. listed-apart g e secure.game.defended s)
          ] refl)
      | inr table ↦ (let k = table.kind in cc)
    ]

none-held : (s : ℕ) (xs : List ℕ) → All (λ (y : ℕ). s ≢ y) xs → total (λ t. where_same s t (pos 1)) xs ≡ pos 0
none-held s [] h = refl
none-held s (x ∷ xs) h =
    let P : ℕ → Type 0 = λ (y : ℕ). s ≢ y in
    let ne = All-head P x xs h in
    let e : eqb s x ≡ false = grind (arith, nat_tests, ne) in
    rw e (omega (arith, ints, none-held s xs (All-tail P x xs h)))

-- whether a target is one of some, counted
held-members : (s : ℕ) (xs : List ℕ) → Apart xs → total (λ t. where_same s t (pos 1)) xs ≡ cond (list_any (λ (x : ℕ). eqb x s) xs) (pos 1) (pos 0)
held-members s [] h = refl
held-members s (x ∷ xs) h =
    elim (cases_eq x s) [
      | inl same ↦ (
          let e : eqb x s ≡ true = grind (arith, nat_tests, same) in
          let f : eqb s x ≡ true = grind (arith, nat_tests, same) in
          let others : All (λ (y : ℕ). s ≢ y) xs = λ k d lt. subst (λ (z : ℕ). z ≢ slice_index_or xs k d) same (h 0 (suc k) d (omega arith) (omega (arith, lt))) in
          rw (e, f) (omega (arith, ints, none-held s xs others)))
      | inr other ↦ (
          let e : eqb x s ≡ false = grind (arith, nat_tests, other) in
          let f : eqb s x ≡ false = grind (arith, nat_tests, other) in
          let rest = held-members s xs (λ i j d lt in_list. h (suc i) (suc j) d (omega (arith, lt)) (omega (arith, in_list))) in
          rw (e, f) (omega (arith, ints, rest)))
    ]

module _ (g : Game) (fix : Fix) (is_game : IsGame g) (security : g.kind ≡ Security) (r j : ℕ) where
  abbrev members : List ℕ
  members = schedule_targets g (nth (resource_schedules g r) j 0)

  no-members : pos 0 ≡ pos 0 -ℤ total (λ (t : ℕ). pos 0) members
  no-members = omega (arith, ints, total-zero members)

  choice-row : (row : Row) → entry g fix row (chooses r j) ≡ spending row r -ℤ total (λ t. holding row t) members
  choice-row whole = no-members
  choice-row (spends s) = omega (arith, ints, total-zero members)
  choice-row (held s) =
      let sum = held-members s members (targets-apart g is_game security (nth (resource_schedules g r) j 0)) in
      by (choice_holds g r j s) sum
    where
      by : (b : Bool) → total (λ t. where_same s t (pos 1)) members ≡ cond b (pos 1) (pos 0) → cond b (negsuc 0) (pos 0) ≡ pos 0 -ℤ total (λ t. where_same s t (pos 1)) members
      by true e = omega (arith, ints, e)
      by false e = omega (arith, ints, e)
  choice-row (within s) = no-members
  choice-row (gains l b) = no-members

  pub choice-sum : (lines : List Line) → sum_in_column g fix lines (chooses r j) ≡ spent_sum g fix lines r -ℤ total (λ t. held_sum g fix lines t) members
  choice-sum [] = no-members
  choice-sum (x ∷ xs) =
      let row : Row = row_of g fix x in
      let here = ap (λ (z : ℤ). x.v *ℤ z) (choice-row row) in
      let spread : x.v *ℤ (spending row r -ℤ total (λ t. holding row t) members) ≡ (x.v *ℤ spending row r) -ℤ (x.v *ℤ total (λ t. holding row t) members) =
      same_by (times (v x.v) (less (v (spending row r)) (v (total (λ t. holding row t) members)))) (less (times (v x.v) (v (spending row r))) (times (v x.v) (v (total (λ t. holding row t) members)))) (omega arith) in
      let scaled = total-scaled (λ (t : ℕ). holding row t) x.v members in
      let parts = total-add (λ (t : ℕ). x.v *ℤ holding row t) (λ (t : ℕ). held_sum g fix xs t) members in
      omega (arith, ints, here, spread, scaled, parts, choice-sum xs)
