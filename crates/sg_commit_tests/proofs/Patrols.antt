-- What patrols hold, one patrol at a time.
use Rattle.std.proofs.Common.{◌≡◌, ℕ, ◌+◌, ◌<◌, List, length, drop, slice_index_or, ℤ, pos, ◌+ℤ◌, ◌*ℤ◌, ap, arith}
use Rattle.std.proofs.lemmas.List.{drop_more}
use Rattle.sg_model.specs.Sums.{total}
use Rattle.sg_model.proofs.Ints.{v, n, plus, times, same_by}

pub one_more : (p q : ℕ) (m : ℤ) → p ≡ q + 1 → pos p *ℤ m ≡ (pos q *ℤ m) +ℤ m
one_more p q m e = rw e (same_by (times (n (q + 1)) (v m)) (plus (times (n q) (v m)) (v m)) (omega arith))

pub total_more : (counts : List ℤ) (i : ℕ) → i < length counts → total (λ count. count) (drop i counts) ≡ slice_index_or counts i (pos 0) +ℤ total (λ count. count) (drop (i + 1) counts)
total_more counts i lt = ap (total (λ (count : ℤ). count)) (drop_more counts i (pos 0) lt)
