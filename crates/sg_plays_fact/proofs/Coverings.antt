-- What targets pay, covered or not, within the most of the game.
use Rattle.std.proofs.Common.{◌≡◌, ℕ, ◌≤◌, false, length, ℤ, ◌-ℤ◌, refl, subst, sym}
use Rattle.sg_model.specs.declared.kind.Kind.{Kind}
use Rattle.sg_model.specs.declared.kind.Kind.TheVariants.{Security, Matrix}
use Rattle.sg_model.specs.Games.{Game, action_count, is_kind_matrix, is_matrix, payoff}
use Rattle.sg_num.specs.Exact.{IsAtMost}
use Rattle.sg_bounds.specs.Sizes.{attacker_most}
use Rattle.sg_bounds.proofs.Spans.{covered-listed, difference-small, of-type, uncovered-listed}

kind-is : (k : Kind) → is_kind_matrix k ≡ false → k ≡ Security
kind-is Security e = refl
kind-is Matrix e = cc

pub is-security : (g : Game) → is_matrix g ≡ false → g.kind ≡ Security
is-security g e = kind-is g.kind e

pub gap-small : (g : Game) → is_matrix g ≡ false → (l t : ℕ) → 1 ≤ l → l ≤ length g.types → 1 ≤ t → t ≤ action_count g l → IsAtMost (attacker_most g) ((payoff g l t).ac -ℤ (payoff g l t).au)
gap-small g e l t low high from_one in_list =
    let security = is-security g e in
    difference-small g l low high (payoff g l t).ac (payoff g l t).au
    (of-type g l t (payoff g l t).ac from_one in_list (covered-listed g security l t)) (of-type g l t (payoff g l t).au from_one in_list (uncovered-listed g security l t))

pub gap-small-as : (g : Game) → is_matrix g ≡ false → (l t : ℕ) (d : ℤ) → 1 ≤ l → l ≤ length g.types → 1 ≤ t → t ≤ action_count g l → d ≡ (payoff g l t).ac -ℤ (payoff g l t).au → IsAtMost (attacker_most g) d
gap-small-as g e l t d low high from_one in_list is = subst (IsAtMost (attacker_most g)) (sym is) (gap-small g e l t low high from_one in_list)
