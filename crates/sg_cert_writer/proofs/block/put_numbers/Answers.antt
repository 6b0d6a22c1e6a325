use Rattle.std.proofs.Common.{ℤ, pos, List, ◌∷◌, map, refl}
use Rattle.std.specs.Fmt.{signed_decimal}
use Rattle.sg_cert.specs.Text.{spaced}
use Rattle.sg_cert_writer.proofs.Adding.{folds_more, folds_stop, folds_end, folds_start, folds_spaced}
use Rattle.sg_cert_writer.proofs.block.put_numbers.Goals as goal

pub loop-number-init : goal.loop-number-init
loop-number-init g c = folds_start (λ (xs : List ℤ). spaced (map signed_decimal xs)) (λ (x : ℤ). 32 ∷ signed_decimal x) (folds_spaced signed_decimal) c.args.numbers.now _ c.args.block.now

pub loop-number-preserved : goal.loop-number-preserved
loop-number-preserved g c = folds_more (λ (xs : List ℤ). spaced (map signed_decimal xs)) (λ (x : ℤ). 32 ∷ signed_decimal x) (folds_spaced signed_decimal) c.args.numbers.now c.loop-number.number-index _ (pos 0) c.loop-number-test.true refl _ _ _ _ _ _ c.loop-number.invariant c.in-Ok.ensures

pub returns-in-Err : goal.returns-in-Err
returns-in-Err g c = folds_stop (λ (xs : List ℤ). spaced (map signed_decimal xs)) (λ (x : ℤ). 32 ∷ signed_decimal x) (folds_spaced signed_decimal) c.args.numbers.now c.loop-number.number-index _ (pos 0) c.loop-number-test.true refl _ _ _ _ _ c.loop-number.invariant c.in-Err.ensures

pub returns : goal.returns
returns g c = folds_end (λ (xs : List ℤ). spaced (map signed_decimal xs)) c.args.numbers.now c.loop-number.number-index c.loop-number-test.false _ _ _ _ c.loop-number.invariant
