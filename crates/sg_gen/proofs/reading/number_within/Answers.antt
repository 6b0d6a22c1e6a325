use Rattle.std.proofs.Common.{◌≡◌, ◌∙◌, ap, arith, sym, true, false}
use Rattle.sg_words.specs.Kinds.{is_of, number}
use Rattle.sg_gen.proofs.Dashes.{decimal-of, of-decimal}
use Rattle.sg_gen.proofs.reading.number_within.Goals as goal

pub returns-then-not-is_of : goal.returns-then-not-is_of
returns-then-not-is_of c = λ n low high e.
    let spelled = decimal-of c.args.least c.args.greatest n (omega (arith, high, c.ranges.greatest)) low high in
    let t : true ≡ false = sym spelled ∙ (ap (is_of (number c.args.least c.args.greatest)) (sym e) ∙ (sym c.is_of.ensures ∙ c.if-not-is_of.true)) in
    cc

pub returns : goal.returns
returns c =
    rw (c.number.ensures) (of-decimal c.args.least c.args.greatest c.args.text.now (omega (arith, c.ranges.greatest)) (sym c.is_of.ensures ∙ c.if-not-is_of.false))
