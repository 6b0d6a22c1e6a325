-- Steps over choices and types, and what a declared scale means.
use Rattle.std.proofs.Common.{◌≡◌, ◌≢◌, ◌∙◌, ℕ, ◌+◌, ◌<◌, ◌≤◌, ◌-◌, List, [], ◌∷◌, length, ℤ, pos, ◌≤ℤ◌, ◌+ℤ◌, Option, Some, None, take, get_or, sym, ap, subst, refl, arith, add-one}
use Rattle.std.specs.List.{All}
use Rattle.std.proofs.lemmas.Int.{ints}
use Rattle.std.proofs.lemmas.List.{take_more}
use Rattle.sg_model.specs.Games.{Game, Attacker, attacker, payoff, nobody, nothing, resource_count}
use Rattle.sg_model.specs.Limits.{IsGame}
use Rattle.sg_model.specs.Origami.{IsOrigami, IsScaled}
use Rattle.sg_model.specs.Sums.{nth, total}
use Rattle.sg_model.proofs.Sums.{total-append}
use Rattle.sg_model.proofs.Numbers.{nth-is}
use Rattle.sg_game.proofs.Promises.{All-attacker, by_form, security_type}

prior_of : Attacker → ℤ
prior_of x = x.prior

pub total-more : (types : List Attacker) (l : ℕ) → l < length types → total (λ (x : Attacker). x.prior) (take (l + 1) types) ≡ total (λ (x : Attacker). x.prior) (take l types) +ℤ (nth types (l + 1) nobody).prior
total-more types l lt =
    let f = λ (x : Attacker). x.prior in
    let at : nth types (l + 1) nobody ≡ get_or types l nobody = rw add-one refl in
    let more = ap (total f) (take_more types l nobody lt) ∙ total-append f (take l types) (get_or types l nobody ∷ []) in
    omega (arith, ints, more, ap f at)

some_patrols : (p : Option ℕ) → p ≢ None → (n : ℕ) × (p ≡ Some n)
some_patrols None h = absurd (h refl)
some_patrols (Some n) h = (n, refl)

resource_is : (g : Game) (n : ℕ) → g.patrols ≡ Some n → resource_count g ≡ n
resource_is g n e = rw e refl

-- a game with a scale is one of identical patrols against one attacker
pub scaled_origami : (g : Game) → IsGame g → pos 1 ≤ℤ g.scale → IsOrigami g
scaled_origami g h low =
    by_form g (IsOrigami g) h
    (λ e s.
    let is = s.scaled low in
    let some = some_patrols g.patrols is.identical in
    let at : (1 ≤ 1) × (1 ≤ length g.types) = (omega arith, omega (arith, is.one_type)) in
    let one_each = security_type g h e 1 at in
    record {
      security = e;
      identical = some.1 ∙ ap (λ (k : ℕ). Some k) (sym (resource_is g some.0 some.1));
      scaled = low;
      one_type = is.one_type;
      prior_one = All-attacker (λ (x : Attacker). x.prior ≡ pos 1) g 1 at is.prior_one;
      targets = λ t from_one in_range.
          let all = All-attacker (λ (x : Attacker). All (IsScaled g.scale) x.payoffs) g 1 at is.targets in
          let lt : t - 1 < length (attacker g 1).payoffs = omega (arith, one_each.one_each) in
          let here : payoff g 1 t ≡ get_or (attacker g 1).payoffs (t - 1) nothing = nth-is (attacker g 1).payoffs t nothing nothing from_one (omega (arith, one_each.one_each)) in
          subst (IsScaled g.scale) (sym here) (all (t - 1) nothing lt);
    })
    (λ e m. absurd (let q = m.no_scale in omega (arith, ints, q)))

pub not_negative : (g : Game) → IsGame g → pos 0 ≤ℤ g.scale
not_negative g h = by_form g (pos 0 ≤ℤ g.scale) h (λ e s. s.scale_range.at_least) (λ e m. omega (arith, ints, m.no_scale))
