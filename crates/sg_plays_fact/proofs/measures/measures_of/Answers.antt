use Rattle.std.proofs.Common.{arith}
use Rattle.std.proofs.lemmas.Int.{ints}
use Rattle.sg_plays_fact.proofs.measures.measures_of.Goals as goal

pub returns : goal.returns
returns c =
    let w = c.defender_greatest.ensures.within in
    record {
      shift = omega (arith, ints, c.from.ensures, c.shift-shift.ensures.shift);
      defender_most = omega (arith, ints, c.from-2.ensures, c.shift-shift.ensures.shift, c.shift-shift.ensures.low, c.shift-shift.ensures.high, c.defender_greatest.ensures.greatest, w.at_least, w.at_most);
      attacker_most = omega (arith, ints, c.from-3.ensures, c.attacker_most.ensures.most, c.attacker_most.ensures.some, c.attacker_most.ensures.few);
      shift_range = record { at_least = omega (arith, ints, c.from.ensures, c.shift-shift.ensures.low); at_most = omega (arith, ints, c.from.ensures, c.shift-shift.ensures.high) };
      attacker_range = record { at_least = omega (arith, ints, c.from-3.ensures, c.attacker_most.ensures.some); at_most = omega (arith, ints, c.from-3.ensures, c.attacker_most.ensures.few) };
    }
