use Rattle.std.proofs.Common.{◌≡◌, FitsSigned, length, map, pos, ap, arith}
use Rattle.std.specs.Int.{int_max, w64}
use Rattle.std.proofs.lemmas.Int.{ints, to_z-of_z}
use Rattle.sg_model.specs.Sums.{greatest, numbers}
use Rattle.sg_bounds.specs.Sizes.{attacker_span}
use Rattle.sg_desk.proofs.Measured.{greatest-more, larger-is}
use Rattle.sg_desk.proofs.measures.attacker_most.Goals as goal

pub loop-l-preserved : goal.loop-l-preserved
loop-l-preserved c =
    let f = attacker_span c.args.game.now in
    let more = greatest-more f c.loop-l.l (omega (arith, c.loop-l.auto.l)) in
    let fits : FitsSigned w64 c.attacker_span.result = record { sfits = c.attacker_span.type_inv } in
    let e = simp (to_z-of_z, fits) at c.larger-most.ensures in
    let is = larger-is _ _ _ _ _ _ e c.loop-l.invariant c.attacker_span.ensures.span more in
    omega (arith, ints, is)

pub returns : goal.returns
returns c =
    let f = attacker_span c.args.game.now in
    let all : c.loop-l.l ≡ length c.args.game.now.types = omega (arith, c.loop-l-test.false, c.loop-l.auto.l-end, c.types-types.ensures.count, c.types-types.ensures.some) in
    let same = ap (λ n. int_max (pos 1) (greatest (map f (numbers n)))) all in
    omega (arith, ints, same, ap (int_max (pos 1)) c.loop-l.invariant, c.larger.ensures, c.from.ensures)
