-- What a fact whose size sum fits forms at a column fits, and what its sums say of the column.
use Rattle.std.proofs.Common.{◌≡◌, ℕ, ◌≤◌, List, [], ◌∷◌, ◌++◌, length, map, sym, subst, refl, arith, slice_index_or}
use Rattle.std.specs.Prelude.{ℤ, pos, ◌+ℤ◌, ◌-ℤ◌, ◌*ℤ◌, ◌≤ℤ◌, ◌↔◌}
use Rattle.std.specs.List.{All}
use Rattle.std.proofs.lemmas.Int.{ints}
use Rattle.std.proofs.lemmas.List.{drop_at}
use Rattle.std.proofs.lemmas.List.Elements.{All-head, All-tail, All-drop}
use Rattle.sg_model.specs.declared.kind.Kind.TheVariants.{Security}
use Rattle.sg_model.specs.Games.{Game, resource_schedules, schedule_targets}
use Rattle.sg_model.specs.Limits.{IsGame}
use Rattle.sg_model.specs.Sums.{nth, total}
use Rattle.sg_model.proofs.Promises.{peopled}
use Rattle.sg_model.proofs.Sums.{total-same}
use Rattle.sg_num.specs.Exact.{Fits}
use Rattle.sg_game.specs.Counts.{IsGoalOf, IsResourceOf}
use Rattle.sg_tree.specs.declared.fact.Fact.TheVariants.{Cover}
use Rattle.sg_tree.specs.declared.fact.Line.{Line}
use Rattle.sg_tree.specs.declared.fix.Fix.{Fix}
use Rattle.sg_bounds.specs.Coverage.{Column, IsColumn, always, chooses, column_cost, covering}
use Rattle.sg_bounds.specs.Facts.{IsLineOf}
use Rattle.sg_bounds.specs.Regions.{IsFix}
use Rattle.sg_bounds.specs.SizeLaws.{AreSmall}
use Rattle.sg_bounds.specs.Sizes.{attacker_most, defender_most, fixed_priors, running, size_sum, size_sums}
use Rattle.sg_bounds.proofs.Cover.{total-map}
use Rattle.sg_bounds.proofs.SizeBounds.{column_sums}
use Rattle.sg_cover_fact.specs.LineSums.{IsTestable, sum_in_column, held_sum, spent_sum}
use Rattle.sg_cover_fact.specs.Holding.{ColumnHolds, ScheduleHolds}
use Rattle.sg_cover_fact.proofs.Choices.{choice-sum}
use Rattle.sg_cover_fact.proofs.Rooms.{fits-within}

-- what the numbers under a size sum give
pub testable : (g : Game) (fix : Fix) (rho mu : ℤ) (lines : List Line) → g.kind ≡ Security → IsFix g fix → All (IsLineOf g fix) lines → pos 1 ≤ℤ rho → All Fits (size_sums g fix (Cover rho mu lines)) → IsTestable g fix rho lines
testable g fix rho mu lines security is_fix all positive fit =
    let share : ℤ = rho *ℤ fixed_priors g fix in
    let gain : ℤ = share *ℤ defender_most g in
    let vs : List ℤ = map (λ (line : Line). line.v) lines in
    let sum : ℤ = total (λ (v : ℤ). v) vs *ℤ attacker_most g in
    let last : List ℤ = sum ∷ (gain +ℤ sum) ∷ [] in
    let same = total-map (λ (z : ℤ). z) (λ (line : Line). line.v) lines in
    let behind = All-tail Fits share (gain ∷ (running (pos 0) vs ++ last)) fit in
    let ends = subst (All Fits) (drop_at (running (pos 0) vs) last (length (running (pos 0) vs)) refl) (All-drop Fits (length (running (pos 0) vs)) (running (pos 0) vs ++ last) (All-tail Fits gain (running (pos 0) vs ++ last) behind)) in
    record {
      summable = record { security = security; is_fix = is_fix; lines_of = all; room = subst (λ (z : ℤ). Fits (z *ℤ attacker_most g)) same (All-head Fits sum ((gain +ℤ sum) ∷ []) ends) };
      rho_positive = positive;
      gain = All-head Fits gain (running (pos 0) vs ++ last) behind;
      size = subst (λ (z : ℤ). Fits (gain +ℤ (z *ℤ attacker_most g))) same (All-head Fits (gain +ℤ sum) [] (All-tail Fits sum ((gain +ℤ sum) ∷ []) ends));
    }

module _ (g : Game) (is_game : IsGame g) (fix : Fix) (rho : ℤ) (lines : List Line) (is : IsTestable g fix rho lines) (c : Column) (known : IsColumn g c) where
  small : AreSmall g fix rho (size_sum g fix (Cover rho (pos 0) lines)) (total (λ (line : Line). line.v) lines) (column_cost g fix c) (sum_in_column g fix lines c)
  small = column_sums g (peopled g is_game) is.summable.security fix is.summable.is_fix rho (pos 0) is.rho_positive lines is.summable.lines_of c known

  pub worth-fits : Fits (rho *ℤ column_cost g fix c)
  worth-fits = fits-within ((rho *ℤ fixed_priors g fix) *ℤ defender_most g) (rho *ℤ column_cost g fix c) is.gain small.costs

  pub less-fits : Fits ((rho *ℤ column_cost g fix c) -ℤ sum_in_column g fix lines c)
  less-fits =
      let gain : ℤ = (rho *ℤ fixed_priors g fix) *ℤ defender_most g in
      let same = total-map (λ (z : ℤ). z) (λ (line : Line). line.v) lines in
      let size = subst (λ (z : ℤ). Fits (gain +ℤ (z *ℤ attacker_most g))) (sym same) is.size in
      fits-within (size_sum g fix (Cover rho (pos 0) lines)) ((rho *ℤ column_cost g fix c) -ℤ sum_in_column g fix lines c) size small.difference

module _ (g : Game) (fix : Fix) (rho mu : ℤ) (lines : List Line) where
  pub whole-same : (sum : ℤ) → sum ≡ sum_in_column g fix lines always → (((rho *ℤ column_cost g fix always) -ℤ sum) ≤ℤ mu) ↔ ColumnHolds g fix rho mu lines always
  whole-same sum e = whole-of (rho *ℤ column_cost g fix always) mu sum (sum_in_column g fix lines always) e
    where
      whole-of : (p m s z : ℤ) → s ≡ z → ((p -ℤ s) ≤ℤ m) ↔ (p ≤ℤ ((m *ℤ pos 1) +ℤ z))
      whole-of p m s z e = (λ h. omega (arith, ints, e, h), λ h. omega (arith, ints, e, h))

  -- a column whose entry in row 0 is 0
  pub plain-same : (p s : ℤ) → (p ≤ℤ s) ↔ (p ≤ℤ ((mu *ℤ pos 0) +ℤ s))
  plain-same p s = (λ h. omega (arith, ints, h), λ h. omega (arith, ints, h))

  -- a column that is worth nothing besides
  pub choice-plain : (r j : ℕ) → (pos 0 ≤ℤ sum_in_column g fix lines (chooses r j)) ↔ ColumnHolds g fix rho mu lines (chooses r j)
  choice-plain r j = plain-of rho mu (sum_in_column g fix lines (chooses r j))
    where
      plain-of : (p m z : ℤ) → (pos 0 ≤ℤ z) ↔ ((p *ℤ pos 0) ≤ℤ ((m *ℤ pos 0) +ℤ z))
      plain-of p m z = (λ le. omega (arith, ints, le), λ le. omega (arith, ints, le))

module _ (g : Game) (fix : Fix) (lines : List Line) where
  pub choice-same : (spent held : List ℤ) → IsGame g → g.kind ≡ Security → ((r : ℕ) → slice_index_or spent r (pos 0) ≡ spent_sum g fix lines r) → ((t : ℕ) → slice_index_or held t (pos 0) ≡ held_sum g fix lines t)
      → (r j : ℕ) → ScheduleHolds g held (slice_index_or spent r (pos 0)) (nth (resource_schedules g r) j 0) ↔ (pos 0 ≤ℤ sum_in_column g fix lines (chooses r j))
  choice-same spent held is_game security spends holds r j =
      let ms : List ℕ = schedule_targets g (nth (resource_schedules g r) j 0) in
      let sums = total-same (λ (t : ℕ). slice_index_or held t (pos 0)) (λ (t : ℕ). held_sum g fix lines t) ms (λ i d lt. holds (slice_index_or ms i d)) in
      let e = choice-sum g fix is_game security r j lines in
      choice-of (slice_index_or spent r (pos 0)) (spent_sum g fix lines r) (total (λ (t : ℕ). slice_index_or held t (pos 0)) ms) (total (λ (t : ℕ). held_sum g fix lines t) ms) (sum_in_column g fix lines (chooses r j)) (spends r) sums e
    where
      choice-of : (s s' h h' z : ℤ) → s ≡ s' → h ≡ h' → z ≡ s' -ℤ h' → (h ≤ℤ s) ↔ (pos 0 ≤ℤ z)
      choice-of s s' h h' z es eh e = (λ le. omega (arith, ints, es, eh, e, le), λ le. omega (arith, ints, es, eh, e, le))

-- a fact about each column, by its kind
pub by-kind : (g : Game) (P : Column → Type 0) → P always → ((r j : ℕ) → IsResourceOf g r → 1 ≤ j → j ≤ length (resource_schedules g r) → P (chooses r j)) → ((t : ℕ) → IsGoalOf g t → P (covering t)) → (c : Column) → IsColumn g c → P c
by-kind g P first choices targets always is = first
by-kind g P first choices targets (chooses r j) is = choices r j (is.0, is.1) is.2 is.3
by-kind g P first choices targets (covering t) is = targets t is
