use Rattle.std.proofs.Common.{ℕ, List, ◌∷◌, map, refl}
use Rattle.std.specs.Prelude.{decimal}
use Rattle.sg_cert.specs.Text.{spaced}
use Rattle.sg_cert_writer.proofs.Adding.{folds_more, folds_stop, folds_end, folds_start, folds_spaced}
use Rattle.sg_cert_writer.proofs.block.put_choices.Goals as goal

pub loop-choice-init : goal.loop-choice-init
loop-choice-init g c = folds_start (λ (xs : List ℕ). spaced (map decimal xs)) (λ (x : ℕ). 32 ∷ decimal x) (folds_spaced decimal) c.args.choices.now _ c.args.block.now

pub loop-choice-preserved : goal.loop-choice-preserved
loop-choice-preserved g c = folds_more (λ (xs : List ℕ). spaced (map decimal xs)) (λ (x : ℕ). 32 ∷ decimal x) (folds_spaced decimal) c.args.choices.now c.loop-choice.choice-index _ 0 c.loop-choice-test.true refl _ _ _ _ _ _ c.loop-choice.invariant c.in-Ok.ensures

pub returns-in-Err : goal.returns-in-Err
returns-in-Err g c = folds_stop (λ (xs : List ℕ). spaced (map decimal xs)) (λ (x : ℕ). 32 ∷ decimal x) (folds_spaced decimal) c.args.choices.now c.loop-choice.choice-index _ 0 c.loop-choice-test.true refl _ _ _ _ _ c.loop-choice.invariant c.in-Err.ensures

pub returns : goal.returns
returns g c = folds_end (λ (xs : List ℕ). spaced (map decimal xs)) c.args.choices.now c.loop-choice.choice-index c.loop-choice-test.false _ _ _ _ c.loop-choice.invariant
