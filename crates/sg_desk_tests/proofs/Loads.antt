-- What a lane holds after a step.
use Rattle.std.proofs.Common.{◌≡◌, ◌∙◌, ℕ, zero, suc, ◌+◌, ◌-◌, ◌<◌, ◌≤◌, Bool, true, false, List, [], ◌∷◌, length, Option, Some, None, ap, sym, subst, refl, arith, slice_index_or, slice_set, length-set, get_or-set_same}
use Rattle.sg_tree.specs.declared.fix.Fix.{Fix}
use Rattle.sg_work.specs.Works.{IsLoaded, IsStep, Load, load_at, with_load}
use Rattle.sg_work.specs.declared.work.Step.TheVariants as step

-- the lane that was set holds what it was given
set-at : (loads : List (Option Load)) (lane : ℕ) (l : Load) → 1 ≤ lane → lane ≤ length loads → load_at (with_load loads lane (Some l)) lane ≡ Some l
set-at loads zero l low high = absurd (omega (arith, low))
set-at loads (suc k) l low high =
    let e : suc k - 1 ≡ k = omega arith in
    ap (λ i. slice_index_or (slice_set loads i (Some l)) k None) e ∙ get_or-set_same loads k (Some l) None (omega (arith, high))

pub loaded-set : (loads after : List (Option Load)) (lane : ℕ) (l : Load) (ended : Bool) → 1 ≤ lane → lane ≤ length loads → after ≡ with_load loads lane (Some l) → l.ended ≡ ended → IsLoaded after lane ended
loaded-set loads after lane l ended low high e s =
    subst (λ xs. IsLoaded xs lane ended) (sym e)
    (record { load = l; from_one = low; in_range = let long = length-set loads (lane - 1) (Some l) in omega (arith, high, long); held = set-at loads lane l low high; state = s })

same-load : (a b : Load) → ◌≡◌ {A = Option Load} (Some a) (Some b) → a ≡ b
same-load a b e = cc

-- a lane that moves goes on, and one that ends has ended
pub moved-on : (ends : Fix → ℕ → Type 0) (most : ℕ) (loads after : List (Option Load)) (lane : ℕ) → IsLoaded loads lane false → IsStep ends most loads after lane step.Moved → IsLoaded after lane false
moved-on ends most loads after lane h s =
    let same = same-load s.0 h.load (sym s.1 ∙ h.held) in
    loaded-set loads after lane (record { node = s.0.node; moves = s.0.moves + 1; ended = s.0.ended }) false h.from_one h.in_range s.3 (ap (λ (l : Load). l.ended) same ∙ h.state)

pub ended-on : (ends : Fix → ℕ → Type 0) (most : ℕ) (loads after : List (Option Load)) (lane : ℕ) → IsLoaded loads lane false → IsStep ends most loads after lane step.Ended → IsLoaded after lane true
ended-on ends most loads after lane h s = loaded-set loads after lane (record { node = s.0.node; moves = s.0.moves; ended = true }) true h.from_one h.in_range s.3 refl
