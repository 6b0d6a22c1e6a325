-- What lanes hold.
use Rattle.std.proofs.Common.{◌≡◌, ℕ, zero, suc, ◌-◌, ◌≤◌, ◌<◌, Bool, true, false, true≢false, List, [], ◌∷◌, length, get_or, map, set, sym, ◌∙◌, ap, subst, refl, arith, Option, Some, None}
use Rattle.sg_model.specs.Sums.{nth}
use Rattle.sg_tree.specs.declared.fix.Fix.{Fix}
use Rattle.sg_search.specs.declared.held.Held.{Held}
use mathlib.Core.Bool.{beq}
use Rattle.sg_search.specs.Searches.{Search}
use Rattle.sg_search.specs.Changes.{Holds}
use Rattle.sg_work.specs.Works.{Load, held_by}

-- what stands at a place in range doesn't rest on what stands past the end
pub get-any : {X : Type 0} (xs : List X) (i : ℕ) (d e : X) → i < length xs → get_or xs i d ≡ get_or xs i e
get-any [] i d e lt = absurd (omega (arith, lt))
get-any (x ∷ xs) zero d e lt = refl
get-any (x ∷ xs) (suc i) d e lt = get-any xs i d e (omega (arith, lt))

-- a lane counted from 1 is the place before it
pub nth-at : {X : Type 0} (xs : List X) (n : ℕ) (d e : X) → 1 ≤ n → n ≤ length xs → nth xs n d ≡ get_or xs (n - 1) e
nth-at xs zero d e low high = absurd (omega (arith, low))
nth-at xs (suc n) d e low high =
    let z : suc n - 1 ≡ n = omega arith in
    subst (λ (k : ℕ). get_or xs n d ≡ get_or xs k e) (sym z) (get-any xs n d e (omega (arith, high)))

pub state-is : (lanes : List (Option Held)) (lane : ℕ) (o : Option Held) (h : Held) (ended : Bool) → 1 ≤ lane → lane ≤ length lanes → o ≡ get_or lanes (lane - 1) o → o ≡ Some h → h.ended ≡ ended
    → nth lanes lane None ≡ Some (record { node = h.node; ended = ended })
state-is lanes lane o h ended low high is some e = nth-at lanes lane None o low high ∙ sym is ∙ some ∙ ap (λ (b : Bool). Some (record { node = h.node; ended = b })) e

-- what is put twice at a place stays as put last
pub set-twice : {X : Type 0} (xs : List X) (i : ℕ) (x y : X) → set (set xs i x) i y ≡ set xs i y
set-twice [] i x y = refl
set-twice (z ∷ xs) zero x y = refl
set-twice {X} (z ∷ xs) (suc i) x y = ap (λ (ys : List X). z ∷ ys) (set-twice xs i x y)

pub ended-again : (lanes after : List (Option Held)) (i : ℕ) (o : Option Held) (h : Held) (node : Fix) → after ≡ set lanes i None → o ≡ Some h → o ≡ Some (record { node = node; ended = false })
    → set after i (Some (record { node = h.node; ended = true })) ≡ set lanes i (Some (record { node = node; ended = true }))
ended-again lanes after i o h node e is held =
    let f : h ≡ record { node = node; ended = false } = inside (sym is ∙ held) in
    ap (λ (xs : List (Option Held)). set xs i (Some (record { node = h.node; ended = true }))) e
    ∙ set-twice lanes i None (Some (record { node = h.node; ended = true }))
    ∙ ap (λ (v : Held). set lanes i (Some (record { node = v.node; ended = true }))) f
  where
    inside : {v w : Held} → Some v ≡ Some w → v ≡ w
    inside e = cc

-- whether a lane holds a node whose program has ended or not, by what it holds
pub held-test : (s : Search) (m : Search) (lane : ℕ) (o : Option Held) (h : Held) (ended : Bool) → s ≡ m → 1 ≤ lane → lane ≤ length s.lanes → o ≡ get_or s.lanes (lane - 1) o → o ≡ Some h
    → (beq h.ended ended ≡ true → (node : Fix) × Holds m lane node ended) × ((node : Fix) × Holds m lane node ended → beq h.ended ended ≡ true)
held-test s m lane o h ended e low high at some =
    subst (λ (x : Search). (beq h.ended ended ≡ true → (node : Fix) × Holds x lane node ended) × ((node : Fix) × Holds x lane node ended → beq h.ended ended ≡ true)) e (
      λ b. (h.node, record { from_one = low; in_range = high; held = state-is s.lanes lane o h ended low high at some (beq-is h.ended ended b) }),
      λ k. is-beq h.ended ended (ap (λ (v : Held). v.ended) (inside (sym (state-is s.lanes lane o h h.ended low high at some refl) ∙ k.1.held))),
    )
  where
    beq-is : (a b : Bool) → beq a b ≡ true → a ≡ b
    beq-is true true e = refl
    beq-is true false e = absurd (true≢false (sym e))
    beq-is false true e = absurd (true≢false (sym e))
    beq-is false false e = refl

    is-beq : (a b : Bool) → a ≡ b → beq a b ≡ true
    is-beq true true e = refl
    is-beq true false e = absurd (true≢false e)
    is-beq false true e = absurd (true≢false (sym e))
    is-beq false false e = refl

    inside : {v w : Held} → Some v ≡ Some w → v ≡ w
    inside e = cc
