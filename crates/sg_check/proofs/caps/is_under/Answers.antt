use Rattle.std.proofs.Common.{◌≡◌, ◌∙◌, ℤ, Bool, pos, of_z, to_z, rules, inl, inr, subst, sym, ap, ◌⊎◌, ◌↔◌, ◌≤ℤ◌, ◌*ℤ◌, ◌+ℤ◌}
use Rattle.std.specs.Prelude.{IsTrue}
use Rattle.std.specs.Int.{w128, w64}
use Rattle.std.proofs.lemmas.Int.{to_z-of_z}
use Rattle.sg_model.specs.Games.{attacker}
use Rattle.sg_model.specs.Payoffs.{shift_of}
use Rattle.sg_bounds.specs.Facts.{mu_of, rho_of}
use Rattle.sg_check.proofs.caps.is_under.Goals as goal

-- where mu is above 0 the bound decides
above : (mu rho w mu' rho' w' : ℤ) (b : Bool) → mu' ≡ mu → rho' ≡ rho → w' ≡ w → IsTrue b ↔ (mu' ≤ℤ (rho' *ℤ w')) → (mu ≡ pos 0 → ⊥) → IsTrue b ↔ ((mu ≡ pos 0) ⊎ (mu ≤ℤ (rho *ℤ w)))
above mu rho w mu' rho' w' b e f k h some =
    let q : mu' ≤ℤ (rho' *ℤ w') ≡ mu ≤ℤ (rho *ℤ w) = (λ i. e i ≤ℤ (f i *ℤ k i)) in (
      λ yes. inr (subst (λ (P : Type 0). P) q (h.0 yes)),
      λ under. elim under [ inl none ↦ absurd (some none) | inr le ↦ h.1 (subst (λ (P : Type 0). P) (sym q) le) ],
    )

pub returns : goal.returns
returns c =
    let g = c.args.game.now in
    let f = c.args.fact.now in
    let s = c.stated_by-stated.result in
    let is = c.stated_by-stated.ensures in
    let m : to_z w128 (of_z w128 s.mu) ≡ s.mu = search (rules, to_z-of_z) in
    let r : to_z w128 (of_z w128 s.rho) ≡ s.rho = search (rules, to_z-of_z) in
    let x : to_z w128 (of_z w128 c.shifted_worth.result) ≡ c.shifted_worth.result = search (rules, to_z-of_z) in
    let v : to_z w64 (of_z w64 c.args.v) ≡ c.args.v = search (rules, to_z-of_z) in
    let worth : c.shifted_worth.result ≡ (attacker g c.args.l).prior *ℤ (c.args.v +ℤ shift_of g) = c.shifted_worth.ensures ∙ ap (λ (z : ℤ). (attacker g c.args.l).prior *ℤ (z +ℤ shift_of g)) v in
    above (mu_of f) (rho_of f) ((attacker g c.args.l).prior *ℤ (c.args.v +ℤ shift_of g)) _ _ _ c.is_at_most.result (m ∙ is.mu) (r ∙ is.rho) (x ∙ worth) c.is_at_most.ensures
    (λ none. c.if-stated-eq0.false (ap (of_z w128) (is.mu ∙ none)))
