-- Rows written place by place.
use Rattle.std.proofs.Common.{◌≡◌, ℕ, ◌+◌, ◌<◌, ◌≤◌, ◌⊎◌, inl, inr, List, length, arith, sym, ◌∙◌, slice_set}
use Rattle.std.specs.Prelude.{ℤ, pos, ◌-ℤ◌, ◌*ℤ◌}
use Rattle.std.proofs.lemmas.List.{get_or-set_other, get_or-set_same, length-set, ext_get_or}
use Rattle.sg_rows.specs.Rows.{AreQuotients, combined_rows, place}
use Rattle.sg_rows.proofs.Combined.{length-combined, place-combined}

last : (m k : ℕ) → k < m + 1 → (k < m) ⊎ (k ≡ m)
last m k h = grind arith

-- the first j places of a row are written, and the others stand as before
pub record AreWritten (P : ℕ → ℤ → Type 0) (before now : List ℤ) (j : ℕ) : Type 0 where
  pub long : length now ≡ length before
  pub written : (k : ℕ) → k < j → P k (place now k)
  pub left : (k : ℕ) → j ≤ k → place now k ≡ place before k

pub none_written : (P : ℕ → ℤ → Type 0) (before : List ℤ) → AreWritten P before before 0
none_written P before = record { long = refl'; written = λ k h. absurd (omega arith); left = λ k h. refl'' k }
  where
    refl' : length before ≡ length before
    refl' = omega arith

    refl'' : (k : ℕ) → place before k ≡ place before k
    refl'' k = cc

pub more_written : (P : ℕ → ℤ → Type 0) (before now : List ℤ) (j : ℕ) (v : ℤ) → AreWritten P before now j → j < length now → P j v → AreWritten P before (slice_set now j v) (j + 1)
more_written P before now j v m h p = record {
  long = length-set now j v ∙ m.long;
  written = λ k l. at k (last j k l);
  left = λ k l. get_or-set_other now j k v (pos 0) (omega arith) ∙ m.left k (omega arith);
}
  where
    at : (k : ℕ) → (k < j) ⊎ (k ≡ j) → P k (place (slice_set now j v) k)
    at k (inl lt) = let e : place (slice_set now j v) k ≡ place now k = get_or-set_other now j k v (pos 0) (omega arith) in rw e (m.written k lt)
    at k (inr is) = let e : place (slice_set now j v) j ≡ v = get_or-set_same now j v (pos 0) h in rw (is, e) p

abbrev pub CombinedAt : ℤ → ℤ → List ℤ → List ℤ → ℕ → ℤ → Type 0
CombinedAt p q row other k v = v ≡ (place row k *ℤ p) -ℤ (q *ℤ place other k)

pub all_combined : (p q : ℤ) (row other now : List ℤ) (j : ℕ) → length row ≡ length other → AreWritten (CombinedAt p q row other) row now j → length now ≤ j → now ≡ combined_rows p q row other
all_combined p q row other now j same m h =
    ext_get_or (pos 0) now (combined_rows p q row other) (m.long ∙ sym (length-combined p q row other same))
    (λ k l. m.written k (omega arith) ∙ sym (place-combined p q row other k same (let e = m.long in omega arith)))

abbrev pub QuotientAt : ℕ → List ℤ → ℕ → ℤ → Type 0
QuotientAt d row k v = pos d *ℤ v ≡ place row k

pub all_quotients : (d : ℕ) (row now : List ℤ) (j : ℕ) → AreWritten (QuotientAt d row) row now j → length now ≤ j → AreQuotients d row (length row) now
all_quotients d row now j m h = record { long = m.long; times_divisor = λ k l. m.written k (let e = m.long in omega arith) }
