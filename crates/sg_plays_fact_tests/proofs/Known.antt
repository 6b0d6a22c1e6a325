-- Nodes of games: each action is one of its type; columns: each legal play is one.
use Rattle.std.proofs.Common.{◌≡◌, ℕ, suc, ◌+◌, ◌<◌, ◌≤◌, List, [], ◌∷◌, length, slice_index_or, Option, Some, None, arith, refl, subst, sym}
use Rattle.std.specs.Prelude.{All, IfSome}
use Rattle.sg_tree.specs.declared.fix.Fix.{Fix}
use Rattle.std.specs.List.{zip}
use Rattle.std.proofs.lemmas.List.Elements.{All-cons, All-nil}
use Rattle.sg_model.specs.Games.{Game, action_count}
use Rattle.sg_model.specs.Sums.{numbers_from}
use Rattle.sg_bounds.specs.Regions.{IsFix}

abbrev pub IsAction : Game → ℕ × ℕ → Type 0
IsAction g p = (1 ≤ p.1) × (p.1 ≤ action_count g p.0)

acts_known : (g : Game) (r : ℕ) (acts : List ℕ) → ((k : ℕ) → k < length acts → IsAction g (r + k, slice_index_or acts k 0)) → All (IsAction g) (zip (numbers_from r (length acts)) acts)
acts_known g r [] h = All-nil (IsAction g)
acts_known g r (a ∷ as1) h =
    let same : r + 0 ≡ r = omega arith in
    All-cons (IsAction g) (r, a) (zip (numbers_from (r + 1) (length as1)) as1) (subst (λ (l : ℕ). IsAction g (l, a)) same (h 0 (omega arith)))
    (acts_known g (r + 1) as1 (λ k lt. let next : r + suc k ≡ r + 1 + k = omega arith in subst (λ (l : ℕ). IsAction g (l, slice_index_or as1 k 0)) next (h (suc k) (omega (arith, lt)))))

pub known_fix : (g : Game) (r : ℕ) (acts : List ℕ) → 1 ≤ length acts → 1 ≤ r → r + length acts ≤ length g.types + 1 → ((k : ℕ) → k < length acts → IsAction g (r + k, slice_index_or acts k 0)) → IsFix g (record { first = r; acts = acts })
known_fix g r acts some low high h = record { some = not_empty acts some; from_one = low; in_range = high; acts = acts_known g r acts h }
  where
    not_empty : (xs : List ℕ) → 1 ≤ length xs → xs ≡ [] → ⊥
    not_empty [] h e = absurd (omega arith)
    not_empty (x ∷ xs) h e = cc

pub fixed_is : (g : Game) (r : ℕ) (acts : List ℕ) (o : Option Fix) → IfSome o (λ f. f ≡ record { first = r; acts = acts }) → IsFix g (record { first = r; acts = acts }) → IfSome o (λ f. IsFix g f)
fixed_is g r acts None h known = tt
fixed_is g r acts (Some f) h known = subst (IsFix g) (sym h) known

pub one_act : (acts : List ℕ) → length acts ≡ 1 → acts ≡ slice_index_or acts 0 0 ∷ []
one_act [] e = absurd (omega (arith, e))
one_act (a ∷ []) e = refl
one_act (a ∷ b ∷ as1) e = absurd (omega (arith, e))
