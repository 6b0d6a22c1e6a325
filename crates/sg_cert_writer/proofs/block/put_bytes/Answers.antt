use Rattle.std.proofs.Common.{ℕ, List, [], ◌∷◌, refl}
use Rattle.sg_cert_writer.proofs.Adding.{folds_more, folds_stop, folds_end, folds_start, folds_bytes}
use Rattle.sg_cert_writer.proofs.block.put_bytes.Goals as goal

pub loop-byte-init : goal.loop-byte-init
loop-byte-init g c = folds_start (λ (xs : List ℕ). xs) (λ (x : ℕ). x ∷ []) folds_bytes c.args.text.now _ c.args.block.now

pub loop-byte-preserved : goal.loop-byte-preserved
loop-byte-preserved g c = folds_more (λ (xs : List ℕ). xs) (λ (x : ℕ). x ∷ []) folds_bytes c.args.text.now c.loop-byte.byte-index _ 0 c.loop-byte-test.true refl _ _ _ _ _ _ c.loop-byte.invariant c.in-Ok.ensures

pub returns-in-Err : goal.returns-in-Err
returns-in-Err g c = folds_stop (λ (xs : List ℕ). xs) (λ (x : ℕ). x ∷ []) folds_bytes c.args.text.now c.loop-byte.byte-index _ 0 c.loop-byte-test.true refl _ _ _ _ _ c.loop-byte.invariant c.in-Err.ensures

pub returns : goal.returns
returns g c = folds_end (λ (xs : List ℕ). xs) c.args.text.now c.loop-byte.byte-index c.loop-byte-test.false _ _ _ _ c.loop-byte.invariant
