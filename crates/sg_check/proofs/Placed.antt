-- Actions of the first types, and of one type alone.
use Rattle.std.proofs.Common.{◌≡◌, ◌≢◌, ℕ, suc, ◌+◌, ◌<◌, ◌≤◌, List, [], ◌∷◌, ◌++◌, length, subst, sym, refl, arith, length-append}
use Rattle.std.specs.List.{All, zip}
use Rattle.std.proofs.lemmas.List.Elements.{All-cons, All-head, All-nil, All-tail}
use Rattle.sg_model.specs.Sums.{numbers_from}
use Rattle.sg_model.specs.Games.{Game, action_count}
use Rattle.sg_bounds.specs.Regions.{IsFix, alone, prefix}
use Rattle.sg_check.specs.Placing.{AreActions}

-- an action of the type that it is paired with
abbrev IsOwn : Game → ℕ × ℕ → Type 0
IsOwn g p = (1 ≤ p.1) × (p.1 ≤ action_count g p.0)

each-more : (g : Game) (r : ℕ) (acts : List ℕ) (a : ℕ) → All (IsOwn g) (zip (numbers_from r (length acts)) acts) → IsOwn g (r + length acts, a)
    → All (IsOwn g) (zip (numbers_from r (length (acts ++ a ∷ []))) (acts ++ a ∷ []))
each-more g r [] a h k =
    let e : r + 0 ≡ r = omega arith in
    All-cons (IsOwn g) (r, a) [] (subst (λ (l : ℕ). IsOwn g (l, a)) e k) (All-nil (IsOwn g))
each-more g r (b ∷ acts) a h k =
    let e : r + suc (length acts) ≡ r + 1 + length acts = omega arith in
    let rest = zip (numbers_from (r + 1) (length acts)) acts in
    All-cons (IsOwn g) (r, b) (zip (numbers_from (r + 1) (length (acts ++ a ∷ []))) (acts ++ a ∷ [])) (All-head (IsOwn g) (r, b) rest h)
    (each-more g (r + 1) acts a (All-tail (IsOwn g) (r, b) rest h) (subst (λ (l : ℕ). IsOwn g (l, a)) e k))

pub no_actions : (g : Game) → AreActions g []
no_actions g = record { few = omega arith; each = All-nil (IsOwn g) }

-- and one of the next type
pub actions-more : (g : Game) (acts : List ℕ) (a : ℕ) → AreActions g acts → length acts < length g.types → 1 ≤ a → a ≤ action_count g (length acts + 1) → AreActions g (acts ++ a ∷ [])
actions-more g acts a h lt low high =
    let e : 1 + length acts ≡ length acts + 1 = omega arith in
    record {
      few = omega (arith, lt, length-append acts (a ∷ []));
      each = each-more g 1 acts a h.each (subst (λ (l : ℕ). IsOwn g (l, a)) (sym e) (low, high));
    }

pub some-more : (acts : List ℕ) (a : ℕ) → (acts ++ a ∷ []) ≢ []
some-more [] a = λ e. cc
some-more (b ∷ acts) a = λ e. cc

pub actions-fix : (g : Game) (acts : List ℕ) → acts ≢ [] → AreActions g acts → IsFix g (prefix acts)
actions-fix g acts some h = record { some = some; from_one = omega arith; in_range = omega (arith, h.few); acts = h.each }

pub alone-fix : (g : Game) (l a : ℕ) → 1 ≤ l → l ≤ length g.types → 1 ≤ a → a ≤ action_count g l → IsFix g (alone l a)
alone-fix g l a low high from_one in_range = record {
  some = λ e. cc;
  from_one = low;
  in_range = omega (arith, high);
  acts = All-cons (IsOwn g) (l, a) [] (from_one, in_range) (All-nil (IsOwn g));
}

pub length-some : (acts : List ℕ) → acts ≢ [] → 1 ≤ length acts
length-some [] some = absurd (some refl)
length-some (a ∷ acts) some = omega arith
