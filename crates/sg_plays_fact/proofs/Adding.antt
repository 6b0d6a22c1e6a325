-- Sums over the fixed types, one type more.
use Rattle.std.proofs.Common.{◌≡◌, ◌∙◌, ℕ, ◌+◌, ◌*◌, ◌<◌, ◌^◌, List, [], ◌∷◌, length, take, ℤ, pos, ◌+ℤ◌, ◌*ℤ◌, ◌≤ℤ◌, ap, arith, slice_index}
use Rattle.std.proofs.lemmas.Int.{ints}
use Rattle.sg_model.specs.Games.{Game, attacker}
use Rattle.sg_model.specs.Sums.{total}
use Rattle.sg_model.proofs.Sums.{total-append}
use Rattle.sg_tree.specs.declared.fix.Fix.{Fix}
use Rattle.sg_bounds.specs.Regions.{fixed}
use Rattle.sg_bounds.specs.Facts.{cost}
use Rattle.sg_bounds.specs.Sizes.{fixed_priors}
use Rattle.sg_num.specs.Exact.{IsAtMost}
use Rattle.sg_model.specs.Payoffs.{shift_of}
use Rattle.sg_model.specs.Plays.{pay_d}
use Rattle.sg_plays_fact.proofs.Fixes.{fixed-all, fixed-more}

-- the sum over one type more
pub total-next : (f : ℕ × ℕ → ℤ) (fix : Fix) (i : ℕ) → i < length fix.acts → total f (take (i + 1) (fixed fix)) ≡ total f (take i (fixed fix)) +ℤ f (fix.first + i, slice_index fix.acts i)
total-next f fix i lt =
    let p : ℕ × ℕ = (fix.first + i, slice_index fix.acts i) in
    ap (total f) (fixed-more fix i lt) ∙ total-append f (take i (fixed fix)) (p ∷ []) ∙ omega (arith, ints)

abbrev pub prior_at : Game → ℕ × ℕ → ℤ
prior_at g p = (attacker g p.0).prior

pub priors-next : (g : Game) (fix : Fix) (i l : ℕ) (sum prior next : ℤ) → i < length fix.acts → l ≡ fix.first + i → prior ≡ (attacker g l).prior → pos 1 ≤ℤ prior → prior ≤ℤ pos (2 ^ 20)
    → sum ≡ total (prior_at g) (take i (fixed fix)) → pos 0 ≤ℤ sum → sum ≤ℤ pos (i * 2 ^ 20) → next ≡ sum +ℤ prior
    → (next ≡ total (prior_at g) (take (i + 1) (fixed fix))) × (pos 0 ≤ℤ next) × (next ≤ℤ pos ((i + 1) * 2 ^ 20))
priors-next g fix i l sum prior next lt at is low high value least most e =
    let same : prior ≡ (attacker g (fix.first + i)).prior = is ∙ ap (λ (m : ℕ). (attacker g m).prior) at in
    (omega (arith, ints, e, value, same, total-next (prior_at g) fix i lt), omega (arith, ints, e, low, least), omega (arith, ints, e, high, most))

pub priors-end : (g : Game) (fix : Fix) (i : ℕ) (sum : ℤ) → i ≡ length fix.acts → sum ≡ total (prior_at g) (take i (fixed fix)) → sum ≡ fixed_priors g fix
priors-end g fix i sum e value = value ∙ ap (total (prior_at g)) (fixed-all fix i e)

-- ---- what a play costs

abbrev pub worth_at : Game → List ℕ → ℕ × ℕ → ℤ
worth_at g play p = (attacker g p.0).prior *ℤ (pay_d g p.0 play p.1 +ℤ shift_of g)

-- the sum over the first i fixed types
pub record IsCostTo (g : Game) (fix : Fix) (play : List ℕ) (i : ℕ) (sum : ℤ) : Type 0 where
  pub value : sum ≡ total (worth_at g play) (take i (fixed fix))
  pub small : IsAtMost (pos (i * 2 ^ 52)) sum

pub cost-next : (g : Game) (fix : Fix) (play : List ℕ) (i l a : ℕ) (sum part next : ℤ) → i < length fix.acts → l ≡ fix.first + i → a ≡ slice_index fix.acts i
    → part ≡ (attacker g l).prior *ℤ (pay_d g l play a +ℤ shift_of g) → IsAtMost (pos (2 ^ 52)) part → IsCostTo g fix play i sum → next ≡ sum +ℤ part → IsCostTo g fix play (i + 1) next
cost-next g fix play i l a sum part next lt at act is small h e =
    let same : part ≡ worth_at g play (fix.first + i, slice_index fix.acts i) = is ∙ (λ j. worth_at g play (at j, act j)) in
    let x = small.0 in let y = small.1 in
    let u = h.small.0 in let w = h.small.1 in
    record {
      value = omega (arith, ints, e, h.value, same, total-next (worth_at g play) fix i lt);
      small = (omega (arith, ints, e, x, u), omega (arith, ints, e, y, w));
    }

pub cost-end : (g : Game) (fix : Fix) (play : List ℕ) (i : ℕ) (sum : ℤ) → i ≡ length fix.acts → IsCostTo g fix play i sum → sum ≡ cost g fix play
cost-end g fix play i sum e h = h.value ∙ ap (total (worth_at g play)) (fixed-all fix i e)
