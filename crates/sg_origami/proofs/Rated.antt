-- The rates of a game's targets.
use Rattle.std.proofs.Common.{◌≡◌, ◌≢◌, ℕ, ◌≤◌, ◌^◌, Bool, true, false, cond, List, [], ◌∷◌, length, map, ℤ, pos, ◌*ℤ◌, ◌≤ℤ◌, sym, ◌∙◌, ap, subst, refl, arith}
use Rattle.std.specs.List.{All, filter}
use Rattle.std.proofs.lemmas.Int.{ints}
use Rattle.std.proofs.lemmas.List.{length-map}
use Rattle.std.proofs.lemmas.List.Elements.{All-map}
use Rattle.sg_model.specs.Sums.{total, numbers}
use Rattle.sg_model.specs.Games.{Game, payoff, resource_count}
use Rattle.sg_model.specs.Origami.{SpendsAll, at_level, gap}
use Rattle.sg_model.proofs.Ints.{v, n, times, same_by}
use Rattle.sg_model.proofs.Levels.{multiple_is}
use Rattle.sg_model.proofs.Numbers.{All-numbers, length-numbers_from, map-none, numbers-some}
use Rattle.sg_origami.specs.Rates.{RateView}
use Rattle.sg_model.specs.Fillable.{IsFillable}
use Rattle.sg_origami.specs.Rates.{IsRate, is_above, multiple, need_of, rate_at}
use Rattle.sg_model.proofs.Spans.{multiple_bounds}
use Rattle.sg_origami.proofs.Lags.{IsSpent}
use Rattle.sg_origami.proofs.Rise.{Heavy}

abbrev pub au : Game → ℕ → ℤ
au g t = (payoff g 1 t).au

multiple_at : (g : Game) → IsFillable g → (t : ℕ) → 1 ≤ t → t ≤ length g.goals → (pos 1 ≤ℤ multiple g t) × (multiple g t ≤ℤ pos (2 ^ 32))
multiple_at g f t low high =
    let s = f.origami.targets t low high in
    multiple_bounds (multiple g t) (gap (payoff g 1 t)) g.scale (2 ^ 32) (multiple_is g t s) (omega (arith, ints, s.attacker_loses)) f.origami.scaled f.scale_range.at_most

pub heavy : (g : Game) → IsFillable g → All (Heavy (multiple g) (au g)) (numbers (length g.goals))
heavy g f = All-numbers (Heavy (multiple g) (au g)) (length g.goals) (λ t low high. (multiple_at g f t low high).0)

-- what the rates of a game are
pub record AreRates (rates : List RateView) : Type 0 where
  pub each : All IsRate rates
  pub some : rates ≢ []
  pub few : length rates ≤ 10000

pub are_rates : (g : Game) → IsFillable g → (rates : List RateView) → rates ≡ map (rate_at g) (numbers (length g.goals)) → AreRates rates
are_rates g f rates e =
    let m : ℕ = length g.goals in
    let some = f.some in
    let few = f.few in
    subst AreRates (sym e) (record {
      each = All-map IsRate (rate_at g) (numbers m) (All-numbers (λ t. IsRate (rate_at g t)) m (λ t low high.
          let w = multiple_at g f t low high in
          record { multiple = record { at_least = w.0; at_most = w.1 }; uncovered = (f.small t).au }));
      some = λ none. numbers-some m some (map-none (rate_at g) (numbers m) none);
      few = omega (arith, length-map (numbers m) (rate_at g), length-numbers_from 1 m, few);
    })

filter-map : {X Y : Type 0} (p : Y → Bool) (h : X → Y) (xs : List X) → filter p (map h xs) ≡ map h (filter (λ x. p (h x)) xs)
filter-map p h [] = refl
filter-map {X = X} {Y = Y} p h (x ∷ xs) =
    elim (p (h x)) as (λ (b : Bool). cond b (h x ∷ filter p (map h xs)) (filter p (map h xs)) ≡ map h (cond b (x ∷ filter (λ x. p (h x)) xs) (filter (λ x. p (h x)) xs)))
    [ true ↦ ap (λ (ys : List Y). h x ∷ ys) (filter-map p h xs) | false ↦ filter-map p h xs ]

pub total-map : {X Y : Type 0} (f : Y → ℤ) (h : X → Y) (xs : List X) → total f (map h xs) ≡ total (λ x. f (h x)) xs
total-map f h [] = refl
total-map f h (x ∷ xs) = omega (arith, ints, total-map f h xs)

-- the patrols are just enough where the rates say so
pub spends_rates : (g : Game) (rates : List RateView) → rates ≡ map (rate_at g) (numbers (length g.goals)) → (have num den : ℤ) → have ≡ pos (resource_count g) *ℤ g.scale → IsSpent rates have num den → SpendsAll g num den
spends_rates g rates e have num den is spent =
    let xs : List ℕ = numbers (length g.goals) in
    let ys : List ℕ = at_level g num den in
    let same : filter (is_above num den) rates ≡ map (rate_at g) ys = ap (λ (zs : List RateView). filter (is_above num den) zs) e ∙ filter-map (is_above num den) (rate_at g) xs in
    let whole : have *ℤ den ≡ (pos (resource_count g) *ℤ den) *ℤ g.scale =
    ap (λ (z : ℤ). z *ℤ den) is ∙ same_by (times (times (n (resource_count g)) (v g.scale)) (v den)) (times (times (n (resource_count g)) (v den)) (v g.scale)) (omega arith) in
    record {
      some = λ none. spent.some (same ∙ ap (λ (zs : List ℕ). map (rate_at g) zs) none);
      sum = sym (ap (total (need_of num den)) same ∙ total-map (need_of num den) (rate_at g) ys) ∙ (spent.spends ∙ whole);
    }
