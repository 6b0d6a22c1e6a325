-- From one level to the next: a level too low for the patrols rises to where the patrols suffice for its targets.
use Rattle.std.proofs.Common.{◌≡◌, ◌≢◌, Bool, true, false, cond, List, [], ◌∷◌, ℤ, pos, ◌+ℤ◌, ◌-ℤ◌, ◌*ℤ◌, ◌≤ℤ◌, ◌<ℤ◌, sym, ◌∙◌, ap, subst, refl, arith}
use Rattle.std.specs.List.{All, filter}
use Rattle.std.specs.Prelude.{int_le}
use Rattle.std.proofs.lemmas.Int.{ints, by_lt_z}
use Rattle.std.proofs.lemmas.List.Elements.{All-head, All-tail}
use Rattle.sg_model.specs.Sums.{total}
use Rattle.sg_model.proofs.Ints.{v, n, plus, less, times, same_by, le_by, le_from, mul-le, product_nonneg, cancel-le}

module _ {X : Type 0} (m u : X → ℤ) where
  -- the targets of a level
  abbrev pub high : ℤ → ℤ → X → Bool
  high num den x = int_le num (u x *ℤ den)

  abbrev pub need : ℤ → ℤ → X → ℤ
  need num den x = m x *ℤ (u x *ℤ den -ℤ num)

  abbrev pub slopes : List X → ℤ
  slopes xs = total m xs

  abbrev pub heights : List X → ℤ
  heights xs = total (λ x. m x *ℤ u x) xs

  -- what a list needs to come down to a level
  pub need_sum : (num den : ℤ) (xs : List X) → total (need num den) xs ≡ (heights xs *ℤ den) -ℤ (num *ℤ slopes xs)
  need_sum num den [] = same_by (n 0) (less (times (n 0) (v den)) (times (v num) (n 0))) (omega arith)
  need_sum num den (x ∷ xs) =
      ap (λ (z : ℤ). need num den x +ℤ z) (need_sum num den xs)
      ∙ same_by (plus (times (v (m x)) (less (times (v (u x)) (v den)) (v num))) (less (times (v (heights xs)) (v den)) (times (v num) (v (slopes xs)))))
      (less (times (plus (times (v (m x)) (v (u x))) (v (heights xs))) (v den)) (times (v num) (plus (v (m x)) (v (slopes xs))))) (omega arith)

  -- what needs anything is in the level, and what is in the level needs something
  high_needs : (num den : ℤ) (x : X) → pos 1 ≤ℤ m x → high num den x ≡ true → pos 0 ≤ℤ need num den x
  high_needs num den x p h = product_nonneg (m x) (u x *ℤ den -ℤ num) (omega (arith, ints)) (omega (arith, ints, h))

  low_needs : (num den : ℤ) (x : X) → pos 1 ≤ℤ m x → high num den x ≡ false → need num den x ≤ℤ pos 0
  low_needs num den x p h =
      let q = product_nonneg (m x) (num -ℤ u x *ℤ den) (omega (arith, ints)) (omega (arith, ints, h)) in
      le_by (times (v (m x)) (less (times (v (u x)) (v den)) (v num))) (n 0) (omega (arith, le_from (n 0) (times (v (m x)) (less (v num) (times (v (u x)) (v den)))) q))

  -- no part of a list needs more than the targets of the level do
  pub most_needed : (num den : ℤ) (p : X → Bool) (xs : List X) → All (λ x. pos 1 ≤ℤ m x) xs → total (need num den) (filter p xs) ≤ℤ total (need num den) (filter (high num den) xs)
  most_needed num den p [] h = omega (arith, ints)
  most_needed num den p (x ∷ xs) h =
      let rest = most_needed num den p xs (All-tail (λ x. pos 1 ≤ℤ m x) x xs h) in
      let here = All-head (λ x. pos 1 ≤ℤ m x) x xs h in
      let f = need num den in
      let q = high num den in
      elim (q x) as (λ b. q x ≡ b → total f (cond (p x) (x ∷ filter p xs) (filter p xs)) ≤ℤ total f (cond b (x ∷ filter q xs) (filter q xs))) [
        | true ↦ (λ e. elim (p x) as (λ b. total f (cond b (x ∷ filter p xs) (filter p xs)) ≤ℤ (f x +ℤ total f (filter q xs))) [ true ↦ omega (arith, ints, rest) | false ↦ omega (arith, ints, rest, high_needs num den x here e) ])
        | false ↦ (λ e. elim (p x) as (λ b. total f (cond b (x ∷ filter p xs) (filter p xs)) ≤ℤ total f (filter q xs)) [ true ↦ omega (arith, ints, rest, low_needs num den x here e) | false ↦ rest ])
      ] refl

  -- the same part of a list, where one test passes no more than another and the slopes are no less
  pub same_part : (p q : X → Bool) (xs : List X) → All (λ x. pos 1 ≤ℤ m x) xs → ((x : X) → q x ≡ true → p x ≡ true)
      → (total m (filter q xs) ≤ℤ total m (filter p xs)) × ((total m (filter p xs) ≤ℤ total m (filter q xs)) → filter q xs ≡ filter p xs)
  same_part p q [] h sub = (omega (arith, ints), λ _. refl)
  same_part p q (x ∷ xs) h sub =
      let rest = same_part p q xs (All-tail (λ x. pos 1 ≤ℤ m x) x xs h) sub in
      let here = All-head (λ x. pos 1 ≤ℤ m x) x xs h in
      elim (q x) as (λ b. q x ≡ b → (total m (cond b (x ∷ filter q xs) (filter q xs)) ≤ℤ total m (cond (p x) (x ∷ filter p xs) (filter p xs))) × ((total m (cond (p x) (x ∷ filter p xs) (filter p xs)) ≤ℤ total m (cond b (x ∷ filter q xs) (filter q xs))) → cond b (x ∷ filter q xs) (filter q xs) ≡ cond (p x) (x ∷ filter p xs) (filter p xs))) [
        | true ↦ (λ e. rw (sub x e) (omega (arith, ints, rest.0), λ k. ap (λ (ys : List X). x ∷ ys) (rest.1 (omega (arith, ints, k)))))
        | false ↦ (λ e. elim (p x) as (λ b. (total m (filter q xs) ≤ℤ total m (cond b (x ∷ filter p xs) (filter p xs))) × ((total m (cond b (x ∷ filter p xs) (filter p xs)) ≤ℤ total m (filter q xs)) → filter q xs ≡ cond b (x ∷ filter p xs) (filter p xs))) [
          | true ↦ (omega (arith, ints, rest.0, here), λ k. absurd (omega (arith, ints, k, rest.0, here)))
          | false ↦ rest
        ])
      ] refl

  -- some target of the level, where its slopes are above 0
  pub none_no_slopes : (xs : List X) → pos 1 ≤ℤ slopes xs → xs ≢ []
  none_no_slopes [] h = absurd (omega (arith, ints, h))
  none_no_slopes (x ∷ xs) h = λ e. cc

  slopes_nonneg : (p : X → Bool) (xs : List X) → All (λ x. pos 1 ≤ℤ m x) xs → pos 0 ≤ℤ slopes (filter p xs)
  slopes_nonneg p [] h = omega (arith, ints)
  slopes_nonneg p (x ∷ xs) h =
      let here = All-head (λ x. pos 1 ≤ℤ m x) x xs h in
      let rest = slopes_nonneg p xs (All-tail (λ x. pos 1 ≤ℤ m x) x xs h) in
      elim (p x) as (λ b. pos 0 ≤ℤ total m (cond b (x ∷ filter p xs) (filter p xs))) [ true ↦ omega (arith, ints, here, rest) | false ↦ rest ]

  needs_nonneg : (num den : ℤ) (xs : List X) → All (λ x. pos 1 ≤ℤ m x) xs → pos 0 ≤ℤ total (need num den) (filter (high num den) xs)
  needs_nonneg num den [] h = omega (arith, ints)
  needs_nonneg num den (x ∷ xs) h =
      let here = All-head (λ x. pos 1 ≤ℤ m x) x xs h in
      let rest = needs_nonneg num den xs (All-tail (λ x. pos 1 ≤ℤ m x) x xs h) in
      let q = high num den in
      elim (q x) as (λ b. q x ≡ b → pos 0 ≤ℤ total (need num den) (cond b (x ∷ filter q xs) (filter q xs))) [ true ↦ (λ e. omega (arith, ints, high_needs num den x here e, rest)) | false ↦ (λ e. rest) ] refl

  -- the next level: what the list's targets need there is just what there is
  abbrev pub next_num : ℤ → List X → ℤ
  next_num have xs = heights xs -ℤ have

  pub spent_at_next : (have : ℤ) (xs : List X) → total (need (next_num have xs) (slopes xs)) xs ≡ have *ℤ slopes xs
  spent_at_next have xs =
      need_sum (next_num have xs) (slopes xs) xs
      ∙ same_by (less (times (v (heights xs)) (v (slopes xs))) (times (less (v (heights xs)) (v have)) (v (slopes xs)))) (times (v have) (v (slopes xs))) (omega arith)

  abbrev pub Heavy : X → Type 0
  Heavy x = pos 1 ≤ℤ m x

  low_lacks : (num den : ℤ) (x : X) → Heavy x → high num den x ≡ false → need num den x <ℤ pos 0
  low_lacks num den x p h =
      let k : ℤ = num -ℤ u x *ℤ den in
      let q = product_nonneg (m x -ℤ pos 1) (k -ℤ pos 1) (omega (arith, ints)) (omega (arith, ints, h)) in
      let r : (m x +ℤ k) ≤ℤ ((m x *ℤ k) +ℤ pos 1) = le_by (plus (v (m x)) (v k)) (plus (times (v (m x)) (v k)) (n 1)) (omega (arith, le_from (n 0) (times (less (v (m x)) (n 1)) (less (v k) (n 1))) q)) in
      let e : need num den x ≡ pos 0 -ℤ (m x *ℤ k) = same_by (times (v (m x)) (less (times (v (u x)) (v den)) (v num))) (less (n 0) (times (v (m x)) (less (v num) (times (v (u x)) (v den))))) (omega arith) in
      omega (arith, ints, r, e, h)

  -- where none is in the level, a part of the list lacks
  all_lack : (num den : ℤ) (p : X → Bool) (xs : List X) → All Heavy xs → (slopes (filter (high num den) xs) <ℤ pos 1)
      → (total (need num den) (filter p xs) ≤ℤ pos 0) × (filter p xs ≢ [] → total (need num den) (filter p xs) <ℤ pos 0) × (pos 0 ≤ℤ slopes (filter (high num den) xs))
  all_lack num den p [] h none = (omega (arith, ints), λ some. absurd (some refl), omega (arith, ints))
  all_lack num den p (x ∷ xs) h none =
      let q = high num den in
      let f = need num den in
      let here = All-head Heavy x xs h in
      let later = All-tail Heavy x xs h in
      elim (q x) as (λ b. q x ≡ b → (total m (cond b (x ∷ filter q xs) (filter q xs)) <ℤ pos 1) → (total f (cond (p x) (x ∷ filter p xs) (filter p xs)) ≤ℤ pos 0) × (cond (p x) (x ∷ filter p xs) (filter p xs) ≢ [] → total f (cond (p x) (x ∷ filter p xs) (filter p xs)) <ℤ pos 0) × (pos 0 ≤ℤ total m (cond b (x ∷ filter q xs) (filter q xs)))) [
        | true ↦ (λ e k. absurd (let r = slopes_nonneg q xs later in omega (arith, ints, k, r, here)))
        | false ↦ (λ e k.
            let r = all_lack num den p xs later k in
            let l = low_lacks num den x here e in
            elim (p x) as (λ b. (total f (cond b (x ∷ filter p xs) (filter p xs)) ≤ℤ pos 0) × (cond b (x ∷ filter p xs) (filter p xs) ≢ [] → total f (cond b (x ∷ filter p xs) (filter p xs)) <ℤ pos 0) × (pos 0 ≤ℤ total m (filter q xs))) [
              | true ↦ (omega (arith, ints, l, r.0), λ _. omega (arith, ints, l, r.0), r.2)
              | false ↦ r
            ])
      ] refl none

  -- some target is in the level, where a part of the list that isn't empty lacks nothing
  pub some_high : (num den : ℤ) (p : X → Bool) (xs : List X) → All Heavy xs → filter p xs ≢ [] → pos 0 ≤ℤ total (need num den) (filter p xs) → pos 1 ≤ℤ slopes (filter (high num den) xs)
  some_high num den p xs h some k =
      by_lt_z (slopes (filter (high num den) xs)) (pos 1) (λ lt. absurd (let r = (all_lack num den p xs h lt).1 some in omega (arith, ints, r, k))) (λ le. le)

  -- a level that the patrols can't hold down to: its targets need at least what there is
  pub record Short (xs : List X) (have num den : ℤ) : Type 0 where
    pub positive : pos 1 ≤ℤ den
    pub some : pos 1 ≤ℤ slopes (filter (high num den) xs)
    pub short : (have *ℤ den) ≤ℤ total (need num den) (filter (high num den) xs)

  -- the next level is no lower
  no_lower : (xs : List X) (have num den : ℤ) → Short xs have num den → (num *ℤ slopes (filter (high num den) xs)) ≤ℤ (next_num have (filter (high num den) xs) *ℤ den)
  no_lower xs have num den r =
      let ys = filter (high num den) xs in
      let q : (have *ℤ den) ≤ℤ ((heights ys *ℤ den) -ℤ (num *ℤ slopes ys)) = subst (λ (z : ℤ). (have *ℤ den) ≤ℤ z) (need_sum num den ys) r.short in
      le_by (times (v num) (v (slopes ys))) (times (less (v (heights ys)) (v have)) (v den))
      (omega (arith, le_from (times (v have) (v den)) (less (times (v (heights ys)) (v den)) (times (v num) (v (slopes ys)))) q))

  -- and what is in the next level is in this one
  within : (num den num' den' : ℤ) → pos 1 ≤ℤ den → pos 1 ≤ℤ den' → (num *ℤ den') ≤ℤ (num' *ℤ den) → (x : X) → high num' den' x ≡ true → high num den x ≡ true
  within num den num' den' p p' le x h =
      let a : num' ≤ℤ (u x *ℤ den') = omega (arith, ints, h) in
      let b = mul-le num' (u x *ℤ den') den a (omega (arith, ints, p)) in
      let e : (u x *ℤ den') *ℤ den ≡ (u x *ℤ den) *ℤ den' = same_by (times (times (v (u x)) (v den')) (v den)) (times (times (v (u x)) (v den)) (v den')) (omega arith) in
      let q = cancel-le num (u x *ℤ den) den' (omega (arith, ints, le, b, e)) p' in
      sym (omega (arith, ints, q))

  -- the next level is such a level too
  pub still_short : (xs : List X) (have num den : ℤ) → All Heavy xs → pos 0 ≤ℤ have → Short xs have num den
      → Short xs have (next_num have (filter (high num den) xs)) (slopes (filter (high num den) xs))
  still_short xs have num den heavy some r =
      let ys = filter (high num den) xs in
      let num' : ℤ = next_num have ys in
      let den' : ℤ = slopes ys in
      let spent = spent_at_next have ys in
      let enough = product_nonneg have den' some (omega (arith, ints, r.some)) in
      record {
        positive = r.some;
        some = some_high num' den' (high num den) xs heavy (none_no_slopes ys r.some) (omega (arith, ints, spent, enough));
        short = omega (arith, ints, spent, most_needed num' den' (high num den) xs heavy);
      }

  -- where the next level keeps all targets, the patrols are just enough for it
  pub just_enough : (xs : List X) (have num den : ℤ) → All Heavy xs → Short xs have num den
      → slopes (filter (high num den) xs) ≤ℤ slopes (filter (high (next_num have (filter (high num den) xs)) (slopes (filter (high num den) xs))) xs)
      → total (need (next_num have (filter (high num den) xs)) (slopes (filter (high num den) xs))) (filter (high (next_num have (filter (high num den) xs)) (slopes (filter (high num den) xs))) xs)
      ≡ have *ℤ slopes (filter (high num den) xs)
  just_enough xs have num den heavy r kept =
      let ys = filter (high num den) xs in
      let num' : ℤ = next_num have ys in
      let den' : ℤ = slopes ys in
      let same : filter (high num' den') xs ≡ ys = (same_part (high num den) (high num' den') xs heavy (within num den num' den' r.positive r.some (no_lower xs have num den r))).1 kept in
      subst (λ (zs : List X). total (need num' den') zs ≡ have *ℤ den') (sym same) (spent_at_next have ys)

  -- a level below all by what there is
  pub short_below_all : (low have : ℤ) (xs : List X) → xs ≢ [] → All Heavy xs → All (λ x. low ≤ℤ u x) xs → pos 0 ≤ℤ have → Short xs have (low -ℤ have) (pos 1)
  short_below_all low have [] some heavy above h = absurd (some refl)
  short_below_all low have (x ∷ xs) some heavy above h =
      let q = high (low -ℤ have) (pos 1) in
      let here = All-head (λ x. low ≤ℤ u x) x xs above in
      let w = All-head Heavy x xs heavy in
      let one : u x *ℤ pos 1 ≡ u x = same_by (times (v (u x)) (n 1)) (v (u x)) (omega arith) in
      let e : q x ≡ true = sym (omega (arith, ints, here, h, one)) in
      let rest = needs_nonneg (low -ℤ have) (pos 1) xs (All-tail Heavy x xs heavy) in
      let k : ℤ = u x *ℤ pos 1 -ℤ (low -ℤ have) in
      let f = product_nonneg (m x -ℤ pos 1) k (omega (arith, ints, w)) (omega (arith, ints, one, here, h)) in
      let g : k ≤ℤ (m x *ℤ k) = le_by (v k) (times (v (m x)) (v k)) (omega (arith, le_from (n 0) (times (less (v (m x)) (n 1)) (v k)) f)) in
      let hv : have *ℤ pos 1 ≡ have = same_by (times (v have) (n 1)) (v have) (omega arith) in
      record {
        positive = omega (arith, ints);
        some = rw e (omega (arith, ints, w, slopes_nonneg q xs (All-tail Heavy x xs heavy)));
        short = rw e (omega (arith, ints, rest, g, one, here, hv));
      }
