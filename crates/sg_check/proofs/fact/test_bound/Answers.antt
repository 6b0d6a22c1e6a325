use Rattle.std.proofs.Common.{◌≡◌, arith, false, true, of_z, pos, rules, sym, to_z}
use Rattle.std.specs.Int.{w128}
use Rattle.std.specs.Prelude.{int_lt}
use Rattle.std.proofs.lemmas.Int.{ints, to_z-of_z}
use Rattle.sg_check.proofs.Bounded.{bound-none, bound-some, bound-wide, den-some}
use Rattle.sg_check.proofs.fact.test_bound.Goals as goal

pub returns-then-stated-lt1 : goal.returns-then-stated-lt1
returns-then-stated-lt1 c =
    let s = c.stated_by-stated.result in
    let h : to_z w128 (of_z w128 s.mu) ≡ s.mu = search (rules, to_z-of_z) in
    let none : int_lt (pos 0) s.mu ≡ false = sym (omega (arith, ints, h, c.if-stated-lt1.true)) in
    λ n e. bound-none c.args.game.now c.args.report.now c.args.numbers.now c.requires.setting.numbers c.args.fixed c.args.fact.now s c.stated_by-stated.ensures.rho c.stated_by-stated.ensures.mu n none

pub reduced-requires : goal.reduced-requires
reduced-requires c =
    let s = c.stated_by-stated.result in
    den-some c.args.game.now c.args.report.now c.args.numbers.now c.requires.setting.numbers c.args.fixed c.args.fact.now s c.stated_by-stated.ensures.rho c.stated_by-stated.ensures.mu c.in-Some.bound c.requires.positive c.in-Some.ensures.1

pub returns-in-Some : goal.returns-in-Some
returns-in-Some c =
    let s = c.stated_by-stated.result in
    let h : to_z w128 (of_z w128 s.mu) ≡ s.mu = search (rules, to_z-of_z) in
    let some : int_lt (pos 0) s.mu ≡ true = sym (omega (arith, ints, h, c.if-stated-lt1.false)) in
    λ n e. bound-some c.args.game.now c.args.report.now c.args.numbers.now c.requires.setting.numbers c.args.fixed c.args.fact.now s c.stated_by-stated.ensures.rho c.stated_by-stated.ensures.mu n c.in-Some.bound c.reduced.result c.requires.positive some c.in-Some.ensures.0 c.in-Some.ensures.1 c.reduced.ensures

pub returns-in-None : goal.returns-in-None
returns-in-None c =
    let s = c.stated_by-stated.result in
    let h : to_z w128 (of_z w128 s.mu) ≡ s.mu = search (rules, to_z-of_z) in
    let some : int_lt (pos 0) s.mu ≡ true = sym (omega (arith, ints, h, c.if-stated-lt1.false)) in
    λ n e. bound-wide c.args.game.now c.args.report.now c.args.numbers.now c.requires.setting.numbers c.args.fixed c.args.fact.now s c.stated_by-stated.ensures.rho c.stated_by-stated.ensures.mu n c.args.line e some c.in-None.ensures
