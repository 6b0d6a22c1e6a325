use Rattle.std.proofs.Common.{Some, ◌≡◌, ◌∙◌, ◌≤ℤ◌, ℤ, pos, ap, arith, of_z, rules, subst, sym, to_z}
use Rattle.std.specs.Int.{w64, w128}
use Rattle.std.proofs.lemmas.Int.{ints, to_z-of_z}
use Rattle.sg_bounds.specs.Facts.{mu_of, rho_of}
use Rattle.sg_lanes.proofs.Bounded.{above-none}
use Rattle.sg_lanes.proofs.Capping.{least-high, least-is}
use Rattle.sg_lanes.proofs.Fractions.{product-positive}
use Rattle.sg_lanes.proofs.Totals.{product-same}
use Rattle.sg_lanes.proofs.cap.least_of.Goals as goal

pub rounded_up-requires-clause-den : goal.rounded_up-requires-clause-den
rounded_up-requires-clause-den c =
    let a : to_z w128 (of_z w128 c.rho.result) ≡ c.rho.result = search (rules, to_z-of_z) in
    let b : to_z w128 (of_z w128 c.from.result) ≡ c.from.result = search (rules, to_z-of_z) in
    let k : to_z w64 (of_z w64 c.prior.result) ≡ c.prior.result = search (rules, to_z-of_z) in
    let t : to_z w128 (of_z w128 c.times-den.result) ≡ c.times-den.result = search (rules, to_z-of_z) in
    subst (λ (z : ℤ). pos 1 ≤ℤ z) (sym (t ∙ c.times-den.ensures ∙ product-same _ _ _ _ (a ∙ c.rho.ensures) (b ∙ c.from.ensures ∙ k)))
    (product-positive (rho_of c.args.fact.now) c.prior.result c.requires.fact.rho c.prior.ensures.some)

pub unshifted-requires-clause-within : goal.unshifted-requires-clause-within
unshifted-requires-clause-within c =
    let m : to_z w128 (of_z w128 c.mu-mu.result) ≡ c.mu-mu.result = search (rules, to_z-of_z) in
    let some = above-none c.mu-mu.result (mu_of c.args.fact.now) c.mu-mu.ensures (omega (arith, ints, m, c.if-mu-le0.false)) in
    let a : to_z w128 (of_z w128 c.rho.result) ≡ c.rho.result = search (rules, to_z-of_z) in
    let b : to_z w128 (of_z w128 c.from.result) ≡ c.from.result = search (rules, to_z-of_z) in
    let k : to_z w64 (of_z w64 c.prior.result) ≡ c.prior.result = search (rules, to_z-of_z) in
    let t : to_z w128 (of_z w128 c.times-den.result) ≡ c.times-den.result = search (rules, to_z-of_z) in
    let u : to_z w128 (of_z w128 c.rounded_up.result) ≡ c.rounded_up.result = search (rules, to_z-of_z) in
    let high = least-high c.args.game.now c.args.l c.args.fact.now c.requires.fact some _ _ c.rounded_up.result (m ∙ c.mu-mu.ensures)
    (t ∙ c.times-den.ensures ∙ product-same _ _ _ _ (a ∙ c.rho.ensures) (b ∙ c.from.ensures ∙ k ∙ c.prior.ensures.prior)) c.rounded_up.ensures.least in
    let s : to_z w64 (of_z w64 c.args.shift) ≡ c.args.shift = search (rules, to_z-of_z) in
    omega (arith, ints, u, s, high, c.requires.shift)

pub returns : goal.returns
returns c =
    let m : to_z w128 (of_z w128 c.mu-mu.result) ≡ c.mu-mu.result = search (rules, to_z-of_z) in
    let some = above-none c.mu-mu.result (mu_of c.args.fact.now) c.mu-mu.ensures (omega (arith, ints, m, c.if-mu-le0.false)) in
    let a : to_z w128 (of_z w128 c.rho.result) ≡ c.rho.result = search (rules, to_z-of_z) in
    let b : to_z w128 (of_z w128 c.from.result) ≡ c.from.result = search (rules, to_z-of_z) in
    let k : to_z w64 (of_z w64 c.prior.result) ≡ c.prior.result = search (rules, to_z-of_z) in
    let t : to_z w128 (of_z w128 c.times-den.result) ≡ c.times-den.result = search (rules, to_z-of_z) in
    let u : to_z w128 (of_z w128 c.rounded_up.result) ≡ c.rounded_up.result = search (rules, to_z-of_z) in
    let s : to_z w64 (of_z w64 c.args.shift) ≡ c.args.shift = search (rules, to_z-of_z) in
    let w : to_z w64 (of_z w64 c.unshifted.result) ≡ c.unshifted.result = search (rules, to_z-of_z) in
    ap (λ (z : ℤ). Some z) (w ∙ c.unshifted.ensures)
    ∙ least-is c.args.game.now c.args.l c.args.fact.now c.requires.fact some _ _ _ _ (m ∙ c.mu-mu.ensures)
    (t ∙ c.times-den.ensures ∙ product-same _ _ _ _ (a ∙ c.rho.ensures) (b ∙ c.from.ensures ∙ k ∙ c.prior.ensures.prior)) (s ∙ c.requires.shift) (u ∙ c.rounded_up.ensures.value)
