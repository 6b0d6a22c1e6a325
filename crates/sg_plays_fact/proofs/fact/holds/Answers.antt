use Rattle.std.proofs.Common.{◌≡◌, ℤ, sym, subst, refl, arith, rules, of_z, to_z}
use Rattle.std.specs.Int.{w128}
use Rattle.std.specs.List.{All}
use Rattle.std.proofs.lemmas.Int.{ints, to_z-of_z}
use Rattle.sg_num.specs.Exact.{Fits}
use Rattle.sg_tree.specs.declared.fact.Fact.TheVariants.{Plays}
use Rattle.sg_bounds.specs.Sizes.{size_sums}
use Rattle.sg_plays_fact.specs.declared.stated.Stated.{Stated}
use Rattle.sg_plays_fact.proofs.Regrets.{above-as}
use Rattle.sg_plays_fact.proofs.fact.holds.Goals as goal

pub none_plays_above-requires-clause-sized : goal.none_plays_above-requires-clause-sized
none_plays_above-requires-clause-sized c =
    let e : to_z w128 (of_z w128 c.args.rho) ≡ c.args.rho = search (rules, to_z-of_z) in
    let f : to_z w128 (of_z w128 c.args.mu) ≡ c.args.mu = search (rules, to_z-of_z) in
    record {
      is_fix = c.requires.is_fix;
      rho = omega (arith, ints, e, c.if-rho-lt1.false);
      marked = c.if-not-are_marks.ensures.0 refl;
      size = subst (λ (z : ℤ). All Fits (size_sums c.args.game.now c.args.fix.now (Plays z (to_z w128 (of_z w128 c.args.mu)) c.args.marks.now))) (sym e)
          (subst (λ (z : ℤ). All Fits (size_sums c.args.game.now c.args.fix.now (Plays c.args.rho z c.args.marks.now))) (sym f) c.requires.size);
    }

pub returns : goal.returns
returns c =
    let g = c.args.game.now in
    let fix = c.args.fix.now in
    let e : to_z w128 (of_z w128 c.args.rho) ≡ c.args.rho = search (rules, to_z-of_z) in
    let f : to_z w128 (of_z w128 c.args.mu) ≡ c.args.mu = search (rules, to_z-of_z) in
    let s : Stated = record { rho = c.args.rho; mu = c.args.mu } in
    let s' : Stated = record { rho = to_z w128 (of_z w128 c.args.rho); mu = to_z w128 (of_z w128 c.args.mu) } in
    let h = c.none_plays_above.ensures in (
      λ r. record {
        rho_positive = omega (arith, ints, e, c.if-rho-lt1.false);
        mu_nonneg = omega (arith, ints, f, c.if-mu-lt0.false);
        marks_of = c.if-not-are_marks.ensures.0 refl;
        each = above-as g fix s' s c.args.marks.now e f (h.0 r);
      },
      λ fact. h.1 (above-as g fix s s' c.args.marks.now (sym e) (sym f) fact.each),
    )
