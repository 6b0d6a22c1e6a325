-- The lanes that are told that something may happen in them, as a list.
use Rattle.std.proofs.Common.{◌≡◌, ℕ, zero, suc, ◌+◌, ◌<◌, Bool, true, false, true≢false, cond, List, [], ◌∷◌, length, take, count_by, Some, sym, ◌∙◌, ap, refl, arith, ⊎_elim, All, Contains}
use Rattle.std.specs.Prelude.{slice_get}
use Rattle.std.proofs.lemmas.List.Elements.{All-nil, All-cons}
use Rattle.std.proofs.lemmas.List.Kept.{AllPairs-cons}
use Rattle.std.proofs.lemmas.List.Sums.{sum_by-cons}
use Rattle.sg_search.specs.declared.event.Ready.{Ready}
use Rattle.sg_search.proofs.Listing.{either-in, none-in}
use Rattle.sg_selection.specs.Readiness.{is_ready, is_ready_at}
use Rattle.sg_selection.proofs.Lists.{Rises}

-- where the first is lane k
abbrev pub lanes_from : ℕ → List Ready → List ℕ
lanes_from k [] = []
lanes_from k (r ∷ rs) = cond (is_ready r) (k ∷ lanes_from (suc k) rs) (lanes_from (suc k) rs)

-- a lane that is told so, by its place
pub record IsReadyFrom (k : ℕ) (rs : List Ready) (lane : ℕ) : Type 0 where
  pub place : ℕ
  pub lane_is : lane ≡ k + place
  pub within : place < length rs
  pub ready : is_ready_at rs place ≡ true

ready-here : (k : ℕ) (r : Ready) (rs : List Ready) (lane : ℕ) → is_ready r ≡ true → k ≡ lane → IsReadyFrom k (r ∷ rs) lane
ready-here k r rs lane e same = record { place = 0; lane_is = omega (arith, same); within = omega arith; ready = e }

ready-later : (k : ℕ) (r : Ready) (rs : List Ready) (lane : ℕ) → IsReadyFrom (suc k) rs lane → IsReadyFrom k (r ∷ rs) lane
ready-later k r rs lane q =
    let e = q.lane_is in
    let lt = q.within in
    record { place = suc q.place; lane_is = omega (arith, e); within = omega (arith, lt); ready = q.ready }

in-by : (k : ℕ) (r : Ready) (rs : List Ready) (lane : ℕ) → (Contains (lanes_from (suc k) rs) lane → IsReadyFrom (suc k) rs lane) → (b : Bool) → is_ready r ≡ b → Contains (cond b (k ∷ lanes_from (suc k) rs) (lanes_from (suc k) rs)) lane
    → IsReadyFrom k (r ∷ rs) lane
in-by k r rs lane rest true e at = ⊎_elim (λ same. ready-here k r rs lane e same) (λ l. ready-later k r rs lane (rest l)) (either-in k (lanes_from (suc k) rs) lane at)
in-by k r rs lane rest false e at = ready-later k r rs lane (rest at)

pub lane-in : (k : ℕ) (rs : List Ready) (lane : ℕ) → Contains (lanes_from k rs) lane → IsReadyFrom k rs lane
lane-in k [] lane at = absurd (none-in at)
lane-in k (r ∷ rs) lane at = in-by k r rs lane (lane-in (suc k) rs lane) (is_ready r) refl at

-- they rise
all-above : (k m : ℕ) (rs : List Ready) → m < k → All (λ (y : ℕ). m < y) (lanes_from k rs)
all-above k m [] h = All-nil (λ (y : ℕ). m < y)
all-above k m (r ∷ rs) h = by k m rs (all-above (suc k) m rs (omega (arith, h))) h (is_ready r)
  where
    by : (k m : ℕ) (rs : List Ready) → All (λ (y : ℕ). m < y) (lanes_from (suc k) rs) → m < k → (b : Bool) → All (λ (y : ℕ). m < y) (cond b (k ∷ lanes_from (suc k) rs) (lanes_from (suc k) rs))
    by k m rs rest h true = All-cons (λ (y : ℕ). m < y) k (lanes_from (suc k) rs) h rest
    by k m rs rest h false = rest

pub lanes-rise : (k : ℕ) (rs : List Ready) → Rises (lanes_from k rs)
lanes-rise k [] = λ i j d low high. absurd (omega (arith, high))
lanes-rise k (r ∷ rs) = by k rs (lanes-rise (suc k) rs) (is_ready r)
  where
    by : (k : ℕ) (rs : List Ready) → Rises (lanes_from (suc k) rs) → (b : Bool) → Rises (cond b (k ∷ lanes_from (suc k) rs) (lanes_from (suc k) rs))
    by k rs rest true = AllPairs-cons (λ (a b : ℕ). a < b) k (lanes_from (suc k) rs) (all-above (suc k) k rs (omega arith)) rest
    by k rs rest false = rest

-- there are as many as are told so
pub lanes-count : (k : ℕ) (rs : List Ready) → length (lanes_from k rs) ≡ count_by is_ready rs
lanes-count k [] = refl
lanes-count k (r ∷ rs) = by k rs (lanes-count (suc k) rs) (is_ready r) ∙ sym (sum_by-cons (λ (x : Ready). cond (is_ready x) 1 0) r rs)
  where
    by : (k : ℕ) (rs : List Ready) → length (lanes_from (suc k) rs) ≡ count_by is_ready rs → (b : Bool) → length (cond b (k ∷ lanes_from (suc k) rs) (lanes_from (suc k) rs)) ≡ cond b 1 0 + count_by is_ready rs
    by k rs e true = omega (arith, e)
    by k rs e false = omega (arith, e)

-- one that is told so stands behind as many as are told so before it
pub lane-at : (k : ℕ) (rs : List Ready) (place : ℕ) → place < length rs → is_ready_at rs place ≡ true → slice_get (lanes_from k rs) (count_by is_ready (take place rs)) ≡ Some (k + place)
lane-at k [] place lt e = absurd (omega (arith, lt))
lane-at k (r ∷ rs) zero lt e = by (is_ready r) e
  where
    by : (b : Bool) → b ≡ true → slice_get (cond b (k ∷ lanes_from (suc k) rs) (lanes_from (suc k) rs)) 0 ≡ Some (k + 0)
    by true h = let z : k ≡ k + 0 = omega arith in ap (λ (x : ℕ). Some x) z
    by false h = absurd (true≢false (sym h))
lane-at k (r ∷ rs) (suc place) lt e =
    by k rs place (count_by is_ready (take place rs)) (lane-at (suc k) rs place (omega (arith, lt)) e) (is_ready r) (count_by is_ready (r ∷ take place rs)) (sum_by-cons (λ (x : Ready). cond (is_ready x) 1 0) r (take place rs))
  where
    by : (k : ℕ) (rs : List Ready) (place n : ℕ) → slice_get (lanes_from (suc k) rs) n ≡ Some (suc k + place) → (b : Bool) (m : ℕ) → m ≡ cond b 1 0 + n
        → slice_get (cond b (k ∷ lanes_from (suc k) rs) (lanes_from (suc k) rs)) m ≡ Some (k + suc place)
    by k rs place n h true m e =
        let q : m ≡ suc n = omega (arith, e) in
        let w : suc k + place ≡ k + suc place = omega arith in
        ap (slice_get (k ∷ lanes_from (suc k) rs)) q ∙ h ∙ ap (λ (x : ℕ). Some x) w
    by k rs place n h false m e =
        let q : m ≡ n = omega (arith, e) in
        let w : suc k + place ≡ k + suc place = omega arith in
        ap (slice_get (lanes_from (suc k) rs)) q ∙ h ∙ ap (λ (x : ℕ). Some x) w
