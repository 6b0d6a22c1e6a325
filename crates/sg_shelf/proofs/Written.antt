-- Pieces that a writer took one after the other.
use Rattle.std.proofs.Common.{◌≡◌, ℕ, ◌+◌, ◌-◌, List, ◌++◌, length, take, drop, sym, ap, ◌∙◌, subst}
use Rattle.std.proofs.Math.Seq.{take-add}
use Rattle.std.proofs.lemmas.List.{take_rest}
use Rattle.std.specs.Prelude.{Option}
use Rattle.std.specs.Io.KnownBytes.{Appends}
use Rattle.std.proofs.KnownBytes.{Appends-trans}

-- The writer took n bytes of the piece, and then m bytes of its rest.
pub Appends-more : (a b c : Option (List ℕ)) (piece : List ℕ) (n m : ℕ) → Appends a b (take n piece) → Appends b c (take m (take (length piece - n) (drop n piece))) → Appends a c (take (n + m) piece)
Appends-more a b c piece n m so_far more =
    let rest : take n piece ++ take m (take (length piece - n) (drop n piece)) ≡ take (n + m) piece =
    ap (λ rest. take n piece ++ take m rest) (take_rest piece n) ∙ sym (take-add n m piece) in
    subst (Appends a c) rest (Appends-trans a b c _ _ so_far more)
