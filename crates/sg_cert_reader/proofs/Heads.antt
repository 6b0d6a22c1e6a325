-- The numbers of a line, from those of its fields.
use Rattle.std.proofs.Common.{◌≡◌, ℕ, List, drop, Ok, Err, refl, ◌-◌, ◌^◌}
use Rattle.std.specs.Prelude.{ℤ, codes}
use Rattle.sg_cert.specs.Fields.{natural_next, shaped_as, shaped_to}
use Rattle.sg_cert.specs.LineReading.{bound_next, plain_of, proved_of, looks_head_of}

pub plain_done : (fs : List (List ℕ)) (l : ℕ) (v : ℤ) (p q : List (List ℕ)) → Ok tt ≡ shaped_as (codes "cap # plain #") 4 4 fs
    → natural_next 1 8 (drop 1 fs) ≡ Ok (l, p) → bound_next (drop 3 fs) ≡ Ok (v, q) → Ok (l, v, 0) ≡ plain_of fs
unfolding plain_of
plain_done fs l v p q a b c = rw (← a, b, c) refl

pub proved_done : (fs : List (List ℕ)) (l n : ℕ) (v : ℤ) (p q r : List (List ℕ)) → Ok tt ≡ shaped_as (codes "cap # proved # #") 5 5 fs
    → natural_next 1 8 (drop 1 fs) ≡ Ok (l, p) → bound_next (drop 3 fs) ≡ Ok (v, q) → natural_next 1 65535 q ≡ Ok (n, r) → Ok (l, v, n) ≡ proved_of fs
unfolding proved_of
proved_done fs l n v p q r a b c d = rw (← a, b, c, d) refl

pub proved_none : (fs : List (List ℕ)) (l e : ℕ) (v : ℤ) (p q : List (List ℕ)) → Ok tt ≡ shaped_as (codes "cap # proved # #") 5 5 fs
    → natural_next 1 8 (drop 1 fs) ≡ Ok (l, p) → bound_next (drop 3 fs) ≡ Ok (v, q) → natural_next 1 65535 q ≡ Err e → Err e ≡ proved_of fs
unfolding proved_of
proved_none fs l e v p q a b c d = rw (← a, b, c, d) refl

pub looks_done : (fs : List (List ℕ)) (n step : ℕ) (p q : List (List ℕ)) → Ok tt ≡ shaped_to (codes "verdict gap looks") 6 fs
    → natural_next 1 (2 ^ 64 - 1) (drop 3 fs) ≡ Ok (n, p) → natural_next 0 (2 ^ 64 - 1) p ≡ Ok (step, q) → Ok ((n, step), q) ≡ looks_head_of fs
unfolding looks_head_of
looks_done fs n step p q a b c = rw (← a, b, c) refl
