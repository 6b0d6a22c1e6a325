-- A matching turned into its own mirror, row by row.
use Rattle.std.proofs.Common.{◌≡◌, ◌≢◌, ℕ, ◌+◌, ◌<◌, ◌≤◌, List, length, get_or, set, inl, inr, refl, arith, ap, sym, ◌∙◌, subst, get_or-set_same, get_or-set_other}
use Rattle.std.proofs.Math.ListN.{length-set}
use Rattle.std.proofs.lemmas.Bool.{cases_eq}
use Rattle.sg_matchings.specs.Mirrors.{AreSeparate, AreReset, IsMirror}

-- what is written at another place is not seen
other : (xs : List ℕ) (k i v : ℕ) → i ≢ k → get_or (set xs k v) i 0 ≡ get_or xs i 0
other xs k i v ne = get_or-set_other xs k i v 0 ne

module _ (count width : ℕ) (m : List ℕ) where
  -- the first columns of the counts have their own rows
  pub record IsResetting (s : List ℕ) (k : ℕ) : Type 0 where
    pub long : length s ≡ length m
    pub kept : (i : ℕ) → i < count → get_or s i 0 ≡ get_or m i 0
    pub own : (t : ℕ) → t < k → get_or s (count + t) 0 ≡ t

  pub resetting-more : (s s' : List ℕ) (k : ℕ) → count + k < length s → IsResetting s k → s' ≡ set s (count + k) k → IsResetting s' (k + 1)
  resetting-more s s' k lt is e = rw e (record {
    long = length-set s (count + k) k ∙ is.long;
    kept = λ i l. other s (count + k) i k (λ q. absurd (omega (arith, q, l))) ∙ is.kept i l;
    own = λ t l. elim (cases_eq t k) [
      | inl q ↦ rw q (get_or-set_same s (count + k) k 0 lt)
      | inr ne ↦ other s (count + k) (count + t) k (λ q. ne (omega (arith, q))) ∙ is.own t (omega (arith, l, ne))
    ];
  })

  pub resetting-all : (s : List ℕ) (k : ℕ) → k ≡ width → IsResetting s k → AreReset count width m s
  resetting-all s k e is = record { long = is.long; kept = is.kept; own = λ t lt. is.own t (omega (arith, lt, e)) }

  -- the rows before one are turned
  pub record IsTurning (s : List ℕ) (k : ℕ) : Type 0 where
    pub long : length s ≡ count + width
    pub inside : (i : ℕ) → i < k → get_or m i 0 < width → get_or s i 0 ≡ get_or m i 0
    pub free_row : (i : ℕ) → i < k → width ≤ get_or m i 0 → get_or s i 0 ≡ width + i
    pub turned : (i : ℕ) → i < k → get_or m i 0 < width → get_or s (count + get_or m i 0) 0 ≡ width + i
    pub free_column : (t : ℕ) → t < width → ((i : ℕ) → i < k → get_or m i 0 ≢ t) → get_or s (count + t) 0 ≡ t
    pub rest : (i : ℕ) → k ≤ i → i < count → get_or s i 0 ≡ get_or m i 0

  pub turning-none : length m ≡ count + width → ((t : ℕ) → t < width → get_or m (count + t) 0 ≡ t) → IsTurning m 0
  turning-none long own = record {
    long = long;
    inside = λ i lt. absurd (omega (arith, lt));
    free_row = λ i lt. absurd (omega (arith, lt));
    turned = λ i lt. absurd (omega (arith, lt));
    free_column = λ t lt none. own t lt;
    rest = λ i le lt. refl;
  }

  -- a matched row
  pub turning-pair : (s s' : List ℕ) (k c : ℕ) → k < count → AreSeparate count width m → IsTurning s k → c ≡ get_or s k 0 → c < width → s' ≡ set s (count + c) (width + k) → IsTurning s' (k + 1)
  turning-pair s s' k c lt apart is e inside e' =
      let at : get_or m k 0 ≡ c = sym (e ∙ is.rest k (omega arith) lt) in
      let long = is.long in
      rw e' (record {
        long = length-set s (count + c) (width + k) ∙ is.long;
        inside = λ i l low. other s (count + c) i (width + k) (λ q. absurd (omega (arith, q, l, lt))) ∙ elim (cases_eq i k) [
          | inl q ↦ rw q (is.rest k (omega arith) lt)
          | inr ne ↦ is.inside i (omega (arith, l, ne)) low
        ];
        free_row = λ i l high. elim (cases_eq i k) [
          | inl q ↦ absurd (omega (arith, ap (λ (x : ℕ). get_or m x 0) q, at, inside, high))
          | inr ne ↦ other s (count + c) i (width + k) (λ q. absurd (omega (arith, q, l, lt))) ∙ is.free_row i (omega (arith, l, ne)) high
        ];
        turned = λ i l low. elim (cases_eq i k) [
          | inl q ↦ rw q (let here : get_or (set s (count + c) (width + k)) (count + c) 0 ≡ width + k = get_or-set_same s (count + c) (width + k) 0 (omega (arith, inside, long)) in
              subst (λ (x : ℕ). get_or (set s (count + c) (width + k)) (count + x) 0 ≡ width + k) (sym at) here)
          | inr ne ↦ other s (count + c) (count + get_or m i 0) (width + k) (λ q. apart i k (omega (arith, l, ne)) lt low (omega (arith, q, at))) ∙ is.turned i (omega (arith, l, ne)) low
        ];
        free_column = λ t l none. other s (count + c) (count + t) (width + k) (λ q. none k (omega arith) (omega (arith, q, at))) ∙ is.free_column t l (λ i j. none i (omega (arith, j)));
        rest = λ i le l. other s (count + c) i (width + k) (λ q. absurd (omega (arith, q, l))) ∙ is.rest i (omega (arith, le)) l;
      })

  -- a row that is not matched
  pub turning-free : (s s' : List ℕ) (k c : ℕ) → k < count → IsTurning s k → c ≡ get_or s k 0 → width ≤ c → s' ≡ set s k (width + k) → IsTurning s' (k + 1)
  turning-free s s' k c lt is e outside e' =
      let at : get_or m k 0 ≡ c = sym (e ∙ is.rest k (omega arith) lt) in
      let long = is.long in
      rw e' (record {
        long = length-set s k (width + k) ∙ is.long;
        inside = λ i l low. elim (cases_eq i k) [
          | inl q ↦ absurd (omega (arith, ap (λ (x : ℕ). get_or m x 0) q, at, outside, low))
          | inr ne ↦ other s k i (width + k) ne ∙ is.inside i (omega (arith, l, ne)) low
        ];
        free_row = λ i l high. elim (cases_eq i k) [
          | inl q ↦ rw q (get_or-set_same s k (width + k) 0 (omega (arith, lt, long)))
          | inr ne ↦ other s k i (width + k) ne ∙ is.free_row i (omega (arith, l, ne)) high
        ];
        turned = λ i l low. elim (cases_eq i k) [
          | inl q ↦ absurd (omega (arith, ap (λ (x : ℕ). get_or m x 0) q, at, outside, low))
          | inr ne ↦ other s k (count + get_or m i 0) (width + k) (λ q. absurd (omega (arith, q, lt))) ∙ is.turned i (omega (arith, l, ne)) low
        ];
        free_column = λ t l none. other s k (count + t) (width + k) (λ q. absurd (omega (arith, q, lt))) ∙ is.free_column t l (λ i j. none i (omega (arith, j)));
        rest = λ i le l. other s k i (width + k) (λ q. absurd (omega (arith, q, le))) ∙ is.rest i (omega (arith, le)) l;
      })

  pub turning-all : (s : List ℕ) (k : ℕ) → k ≡ count → IsTurning s k → IsMirror count width m s
  turning-all s k e is = record {
    long = is.long;
    inside = λ i lt. is.inside i (omega (arith, lt, e));
    free_row = λ i lt. is.free_row i (omega (arith, lt, e));
    turned = λ i lt. is.turned i (omega (arith, lt, e));
    free_column = λ t lt none. is.free_column t lt (λ i l. none i (omega (arith, l, e)));
  }

  pub resetting-none : IsResetting m 0
  resetting-none = record { long = refl; kept = λ i lt. refl; own = λ t lt. absurd (omega (arith, lt)) }

  pub apart-kept : (r : List ℕ) → AreReset count width m r → AreSeparate count width m → AreSeparate count width r
  apart-kept r is apart i k before lt low q =
      let a = is.kept i (omega (arith, before, lt)) in
      let b = is.kept k lt in
      apart i k before lt (omega (arith, low, a)) (sym a ∙ (q ∙ b))

  -- the mirror of what is kept of a matching is its mirror
  pub mirror-kept : (r s : List ℕ) → AreReset count width m r → IsMirror count width r s → IsMirror count width m s
  mirror-kept r s is mirror = record {
    long = mirror.long;
    inside = λ i lt low. mirror.inside i lt (omega (arith, low, is.kept i lt)) ∙ is.kept i lt;
    free_row = λ i lt high. mirror.free_row i lt (omega (arith, high, is.kept i lt));
    turned = λ i lt low. subst (λ (x : ℕ). get_or s (count + x) 0 ≡ width + i) (is.kept i lt) (mirror.turned i lt (omega (arith, low, is.kept i lt)));
    free_column = λ t lt none. mirror.free_column t lt (λ i l q. none i l (sym (is.kept i l) ∙ q));
  }
