use Rattle.std.proofs.Common.{◌≡◌, ◌∙◌, ap₂, arith, rules, of_z, to_z, subst, sym, pos, ◌+ℤ◌, ◌≤ℤ◌, ℤ}
use Rattle.std.specs.Int.{w64, w128}
use Rattle.std.proofs.lemmas.Int.{ints, to_z-of_z}
use Rattle.sg_num.specs.Exact.{Fits}
use Rattle.sg_bounds.specs.Facts.{mu_of, rho_of}
use Rattle.sg_lanes.proofs.Bounded.{above-none, bound-parts, bound-stands}
use Rattle.sg_lanes.proofs.Fractions.{product-positive}
use Rattle.sg_lanes.proofs.Totals.{product-same}
use Rattle.sg_lanes.proofs.bound.bound_of.Goals as goal

pub times-requires : goal.times-requires
times-requires c =
    let f = c.args.fact.now in
    let m : to_z w128 (of_z w128 c.mu-mu.result) ≡ c.mu-mu.result = search (rules, to_z-of_z) in
    let some = above-none c.mu-mu.result (mu_of f) c.mu-mu.ensures (omega (arith, ints, m, c.if-mu-le0.false)) in
    let a : to_z w128 (of_z w128 c.rho-rho.result) ≡ c.rho-rho.result = search (rules, to_z-of_z) in
    let b : to_z w128 (of_z w128 c.rest.result) ≡ c.rest.result = search (rules, to_z-of_z) in
    subst (λ (z : ℤ). Fits z) (sym (product-same _ _ _ _ (a ∙ c.rho-rho.ensures) (b ∙ c.rest.ensures))) (bound-parts c.args.game.now c.args.caps.now c.args.n f some c.requires.fits).share

pub plus-num-requires : goal.plus-num-requires
plus-num-requires c =
    let f = c.args.fact.now in
    let m : to_z w128 (of_z w128 c.mu-mu.result) ≡ c.mu-mu.result = search (rules, to_z-of_z) in
    let some = above-none c.mu-mu.result (mu_of f) c.mu-mu.ensures (omega (arith, ints, m, c.if-mu-le0.false)) in
    let a : to_z w128 (of_z w128 c.rho-rho.result) ≡ c.rho-rho.result = search (rules, to_z-of_z) in
    let b : to_z w128 (of_z w128 c.rest.result) ≡ c.rest.result = search (rules, to_z-of_z) in
    let t : to_z w128 (of_z w128 c.times.result) ≡ c.times.result = search (rules, to_z-of_z) in
    subst (λ (z : ℤ). Fits z) (sym (ap₂ (λ (x y : ℤ). x +ℤ y) (m ∙ c.mu-mu.ensures) (t ∙ c.times.ensures ∙ product-same _ _ _ _ (a ∙ c.rho-rho.ensures) (b ∙ c.rest.ensures)))) (bound-parts c.args.game.now c.args.caps.now c.args.n f some c.requires.fits).num

pub times-requires-2 : goal.times-requires-2
times-requires-2 c =
    let f = c.args.fact.now in
    let m : to_z w128 (of_z w128 c.mu-mu.result) ≡ c.mu-mu.result = search (rules, to_z-of_z) in
    let some = above-none c.mu-mu.result (mu_of f) c.mu-mu.ensures (omega (arith, ints, m, c.if-mu-le0.false)) in
    let a : to_z w128 (of_z w128 c.rho-rho.result) ≡ c.rho-rho.result = search (rules, to_z-of_z) in
    let b : to_z w128 (of_z w128 c.from.result) ≡ c.from.result = search (rules, to_z-of_z) in
    let k : to_z w64 (of_z w64 c.prior_total.result) ≡ c.prior_total.result = search (rules, to_z-of_z) in
    subst (λ (z : ℤ). Fits z) (sym (product-same _ _ _ _ (a ∙ c.rho-rho.ensures) (b ∙ c.from.ensures ∙ k ∙ c.prior_total.ensures.total))) (bound-parts c.args.game.now c.args.caps.now c.args.n f some c.requires.fits).den

pub quotient-requires : goal.quotient-requires
quotient-requires c =
    let a : to_z w128 (of_z w128 c.rho-rho.result) ≡ c.rho-rho.result = search (rules, to_z-of_z) in
    let b : to_z w128 (of_z w128 c.from.result) ≡ c.from.result = search (rules, to_z-of_z) in
    let k : to_z w64 (of_z w64 c.prior_total.result) ≡ c.prior_total.result = search (rules, to_z-of_z) in
    let t : to_z w128 (of_z w128 c.times-2.result) ≡ c.times-2.result = search (rules, to_z-of_z) in
    subst (λ (z : ℤ). pos 1 ≤ℤ z) (sym (t ∙ c.times-2.ensures ∙ product-same _ _ _ _ (a ∙ c.rho-rho.ensures) (b ∙ c.from.ensures ∙ k)))
    (product-positive (rho_of c.args.fact.now) c.prior_total.result c.requires.rho c.prior_total.ensures.some)

pub returns : goal.returns
returns c =
    let f = c.args.fact.now in
    let m : to_z w128 (of_z w128 c.mu-mu.result) ≡ c.mu-mu.result = search (rules, to_z-of_z) in
    let some = above-none c.mu-mu.result (mu_of f) c.mu-mu.ensures (omega (arith, ints, m, c.if-mu-le0.false)) in
    let a : to_z w128 (of_z w128 c.rho-rho.result) ≡ c.rho-rho.result = search (rules, to_z-of_z) in
    let b : to_z w128 (of_z w128 c.rest.result) ≡ c.rest.result = search (rules, to_z-of_z) in
    let b2 : to_z w128 (of_z w128 c.from.result) ≡ c.from.result = search (rules, to_z-of_z) in
    let k : to_z w64 (of_z w64 c.prior_total.result) ≡ c.prior_total.result = search (rules, to_z-of_z) in
    let t : to_z w128 (of_z w128 c.times.result) ≡ c.times.result = search (rules, to_z-of_z) in
    let t2 : to_z w128 (of_z w128 c.times-2.result) ≡ c.times-2.result = search (rules, to_z-of_z) in
    let u : to_z w128 (of_z w128 c.plus-num.result) ≡ c.plus-num.result = search (rules, to_z-of_z) in
    bound-stands c.args.game.now c.args.caps.now c.args.n f c.quotient.result _ _ some
    (u ∙ c.plus-num.ensures ∙ ap₂ (λ (x y : ℤ). x +ℤ y) (m ∙ c.mu-mu.ensures) (t ∙ c.times.ensures ∙ product-same _ _ _ _ (a ∙ c.rho-rho.ensures) (b ∙ c.rest.ensures)))
    (t2 ∙ c.times-2.ensures ∙ product-same _ _ _ _ (a ∙ c.rho-rho.ensures) (b2 ∙ c.from.ensures ∙ k ∙ c.prior_total.ensures.total))
    c.quotient.ensures
