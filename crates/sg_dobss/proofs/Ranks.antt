-- Joint schedules by their places: numbers in mixed radix.
use Rattle.std.proofs.Common.{◌≡◌, ◌∙◌, ℕ, zero, suc, ◌+◌, ◌-◌, ◌*◌, ◌/◌, ◌%◌, ◌<◌, ◌≤◌, false, List, [], ◌∷◌, ◌++◌, length, map, drop, replicate, flat_map, sym, ap, subst, refl, arith, slice_index, get_or, length-append, set, append_assoc}
use Rattle.std.specs.List.{Contains}
use Rattle.std.proofs.lemmas.List.{append-nil, get_or-drop, get_or-map, get_or_append_left, get_or-append-add, length-map}
use Rattle.std.proofs.lemmas.Nat.{div-mul-add}
use Rattle.std.proofs.Math.Nat.{div-le_self, div-lt_iff_lt-mul}
use Rattle.std.proofs.Math.Seq.{set-append_seam}
use Rattle.sg_model.specs.Games.{Game, is_matrix, resource_count, resource_schedules}
use Rattle.sg_model.specs.Sums.{numbers_from}
use Rattle.sg_model.specs.PlayLists.{choices_from, joint_plays, legal_plays, play_count}
use Rattle.sg_model.proofs.LegalPlays.{legal_plays_are_counted}
use Rattle.sg_model.proofs.Lists.{length-flat_map-same}
use Rattle.sg_model.proofs.Numbers.{length-numbers_from, nth-numbers_from}
use Rattle.sg_lp.specs.declared.column.Column.{Column}
use Rattle.sg_programs.specs.Plays.{column_of}
use Rattle.sg_dobss.specs.Paying.{listed_play}

-- the k-th of the choices of n resources, from resource r on
abbrev pub joint_at : Game → ℕ → ℕ → ℕ → List ℕ
joint_at g r zero k = []
joint_at g r (suc n) k = k / choices_from g (r + 1) n ∷ joint_at g (r + 1) n (k % choices_from g (r + 1) n)

-- how many choices a resource has
abbrev width : Game → ℕ → ℕ
width g r = length (resource_schedules g r) + 1

pub length-joint : (g : Game) (r n : ℕ) → length (joint_plays g r n) ≡ choices_from g r n
length-joint g r zero = refl
length-joint g r (suc n) =
    let rest = joint_plays g (r + 1) n in
    let m = length (resource_schedules g r) in
    let count = length-flat_map-same (λ c. map (λ cs. c ∷ cs) rest) (length rest) (λ c. length-map rest (λ cs. c ∷ cs)) (numbers_from 0 (m + 1)) in
    let swap : m + 1 ≡ 1 + m = omega arith in
    count ∙ ap (λ k. k * length rest) (length-numbers_from 0 (m + 1) ∙ swap) ∙ ap (λ k. (1 + m) * k) (length-joint g (r + 1) n)

-- a place of lists of equal length, laid end to end
block-at : {X Y : Type 0} (f : X → List Y) (s : ℕ) → ((x : X) → length (f x) ≡ s) → (xs : List X) (q e : ℕ) (x : X) (d : Y) → q < length xs → e < s → get_or (flat_map f xs) (q * s + e) d ≡ get_or (f (get_or xs q x)) e d
block-at f s each [] q e x d lq le = absurd (omega arith)
block-at f s each (y ∷ ys) zero e x d lq le =
    let at : 0 * s + e ≡ e = omega arith in
    ap (λ i. get_or (f y ++ flat_map f ys) i d) at ∙ get_or_append_left (f y) (flat_map f ys) d e (omega (arith, le, each y))
block-at f s each (y ∷ ys) (suc q) e x d lq le =
    let at : suc q * s + e ≡ length (f y) + (q * s + e) = omega (arith, each y) in
    ap (λ i. get_or (f y ++ flat_map f ys) i d) at ∙ get_or-append-add (f y) (flat_map f ys) (q * s + e) d ∙ block-at f s each ys q e x d (omega (arith, lq)) le

-- a digit and what is left
parts : (k s : ℕ) → 0 < s → (k / s) * s + k % s ≡ k
parts k s h = omega arith

rest-below : (k s : ℕ) → 0 < s → k % s < s
rest-below k s h = omega arith

digit-below : (k s m : ℕ) → 0 < s → k < m * s → k / s < m
digit-below k s m h lt = (div-lt_iff_lt-mul {k = s} {x = k} {y = m} h).1 lt

some-below : (k m s : ℕ) → k < m * s → 0 < s
some-below k m zero lt = absurd (omega arith)
some-below k m (suc s) lt = omega arith

pub joint-at : (g : Game) (r n k : ℕ) (d : List ℕ) → k < choices_from g r n → get_or (joint_plays g r n) k d ≡ joint_at g r n k
joint-at g r zero k d lt = let first : k ≡ 0 = omega arith in ap (λ i. get_or ([] ∷ []) i d) first
joint-at g r (suc n) k d lt =
    let s : ℕ = choices_from g (r + 1) n in
    let m : ℕ = length (resource_schedules g r) in
    let rest : List (List ℕ) = joint_plays g (r + 1) n in
    let f : ℕ → List (List ℕ) = λ c. map (λ cs. c ∷ cs) rest in
    let some : 0 < s = some-below k (1 + m) s lt in
    let q : ℕ = k / s in
    let e : ℕ = k % s in
    let le : e < s = rest-below k s some in
    let lq : q < 1 + m = digit-below k s (1 + m) some lt in
    let each : (c : ℕ) → length (f c) ≡ s = λ c. length-map rest (λ cs. c ∷ cs) ∙ length-joint g (r + 1) n in
    let digit : get_or (numbers_from 0 (m + 1)) q 0 ≡ q = nth-numbers_from 0 (m + 1) q 0 (omega (arith, lq)) ∙ omega arith in
    ap (λ i. get_or (flat_map f (numbers_from 0 (m + 1))) i d) (sym (parts k s some))
    ∙ block-at f s each (numbers_from 0 (m + 1)) q e 0 d (omega (arith, lq, length-numbers_from 0 (m + 1))) le
    ∙ ap (λ c. get_or (f c) e d) digit
    ∙ get_or-map (λ cs. q ∷ cs) rest e [] d (omega (arith, le, length-joint g (r + 1) n))
    ∙ ap (λ cs. q ∷ cs) (joint-at g (r + 1) n e [] le)

pub length-joint_at : (g : Game) (r n k : ℕ) → length (joint_at g r n k) ≡ n
length-joint_at g r zero k = refl
length-joint_at g r (suc n) k = ap suc (length-joint_at g (r + 1) n (k % choices_from g (r + 1) n))

-- in security form
pub play_at-joint : (g : Game) → is_matrix g ≡ false → (k : ℕ) → k < play_count g → listed_play g k ≡ joint_at g 1 (resource_count g) k
play_at-joint g security k lt =
    let e : legal_plays g ≡ joint_plays g 1 (resource_count g) = rw security refl in
    let c : play_count g ≡ choices_from g 1 (resource_count g) = rw security refl in
    ap (λ (xs : List (List ℕ)). get_or xs k []) e ∙ joint-at g 1 (resource_count g) k [] (omega (arith, lt, c))

-- ---- from a place to a play

-- after r digits: how many plays begin alike, the place among them, and the digits so far with zeros behind them
pub record IsUnranked (g : Game) (m k r size rest : ℕ) (code : List ℕ) : Type 0 where
  pub size_is : size ≡ choices_from g (r + 1) (m - r)
  pub inside : rest < size
  pub small : rest ≤ k
  pub front : List ℕ
  pub long : length front ≡ r
  pub code_is : code ≡ front ++ replicate (32 - r) 0
  pub whole : front ++ joint_at g (r + 1) (m - r) rest ≡ joint_at g 1 m k

pub unrank-start : (g : Game) (m k count : ℕ) → count ≡ choices_from g 1 m → k < count → IsUnranked g m k 0 count k (replicate 32 0)
unrank-start g m k count e lt = record {
  size_is = (let z : m - 0 ≡ m = omega arith in let one : 0 + 1 ≡ 1 = omega arith in e ∙ ap (λ n. choices_from g 1 n) (sym z));
  inside = lt;
  small = omega arith;
  front = [];
  long = refl;
  code_is = refl;
  whole = (let z : m - 0 ≡ m = omega arith in ap (λ n. joint_at g 1 n k) z);
}

-- the size of what is left, without one resource
pub size-next : (g : Game) (m r size : ℕ) → r < m → size ≡ choices_from g (r + 1) (m - r) → size / width g (r + 1) ≡ choices_from g (r + 1 + 1) (m - (r + 1))
size-next g m r size lt e =
    let n : ℕ = m - (r + 1) in
    let more : m - r ≡ suc n = omega arith in
    let s : ℕ = choices_from g (r + 1 + 1) n in
    let w : ℕ = width g (r + 1) in
    let product : size ≡ s * w + 0 = e ∙ ap (λ j. choices_from g (r + 1) j) more ∙ omega arith in
    ap (λ z. z / w) product ∙ div-mul-add s w 0 (omega arith)

pub unrank-next : (g : Game) (m k r size rest : ℕ) (code : List ℕ) → r < m → m ≤ 32 → IsUnranked g m k r size rest code
    → IsUnranked g m k (r + 1) (size / width g (r + 1)) (rest % (size / width g (r + 1))) (set code r (rest / (size / width g (r + 1))))
unrank-next g m k r size rest code lt few is =
    let n : ℕ = m - (r + 1) in
    let more : m - r ≡ suc n = omega arith in
    let s : ℕ = choices_from g (r + 1 + 1) n in
    let next : size / width g (r + 1) ≡ s = size-next g m r size lt is.size_is in
    let full : size ≡ (1 + length (resource_schedules g (r + 1))) * s = is.size_is ∙ ap (λ j. choices_from g (r + 1) j) more in
    let some : 0 < s = some-below rest (1 + length (resource_schedules g (r + 1))) s (let h = is.inside in omega (arith, h, full)) in
    let front : List ℕ = is.front in
    let zeros : 32 - r ≡ suc (32 - (r + 1)) = omega arith in
    rw next (record {
      size_is = refl;
      inside = rest-below rest s some;
      small = (let p = parts rest s some in let h = is.small in omega (arith, p, h));
      front = front ++ rest / s ∷ [];
      long = omega (arith, length-append front (rest / s ∷ []), is.long);
      code_is =
          ap (λ (xs : List ℕ). set xs r (rest / s)) (is.code_is ∙ ap (λ j. front ++ replicate j 0) zeros)
          ∙ ap (λ i. set (front ++ 0 ∷ replicate (32 - (r + 1)) 0) i (rest / s)) (sym is.long)
          ∙ set-append_seam front 0 (replicate (32 - (r + 1)) 0) (rest / s)
          ∙ sym (append_assoc front (rest / s ∷ []) (replicate (32 - (r + 1)) 0));
      whole =
          append_assoc front (rest / s ∷ []) (joint_at g (r + 1 + 1) n (rest % s))
          ∙ ap (λ j. front ++ joint_at g (r + 1) j rest) (sym more)
          ∙ is.whole;
    })

pub unrank-end : (g : Game) (m k size rest : ℕ) (code : List ℕ) (play : List ℕ) → m ≤ 32 → IsUnranked g m k m size rest code → play ≡ joint_at g 1 m k
    → (length play ≡ m) × (code ≡ play ++ replicate (32 - length play) 0)
unrank-end g m k size rest code play few is e =
    let none : m - m ≡ 0 = omega arith in
    let all : is.front ≡ joint_at g 1 m k = sym (append-nil is.front) ∙ ap (λ j. is.front ++ joint_at g (m + 1) j rest) (sym none) ∙ is.whole in
    let same : is.front ≡ play = all ∙ sym e in
    let long : length play ≡ m = ap length (sym same) ∙ is.long in
    (long, is.code_is ∙ ap (λ (xs : List ℕ). xs ++ replicate (32 - m) 0) same ∙ ap (λ j. play ++ replicate (32 - j) 0) (sym long))

-- ---- from a play to its place

-- after r digits: the place of what begins alike, with what is left
pub record IsRanked (g : Game) (m k r place : ℕ) (play : List ℕ) : Type 0 where
  pub rest : ℕ
  pub inside : rest < choices_from g (r + 1) (m - r)
  pub sum : place * choices_from g (r + 1) (m - r) + rest ≡ k
  pub left : drop r play ≡ joint_at g (r + 1) (m - r) rest

pub rank-start : (g : Game) (m k : ℕ) (play : List ℕ) → k < choices_from g 1 m → play ≡ joint_at g 1 m k → IsRanked g m k 0 0 play
rank-start g m k play lt e = record {
  rest = k;
  inside = (let z : m ≡ m - 0 = omega arith in omega (arith, lt, ap (λ n. choices_from g 1 n) z));
  sum = omega arith;
  left = (let z : m ≡ m - 0 = omega arith in e ∙ ap (λ n. joint_at g 1 n k) z);
}

tail-of : (xs : List ℕ) (r x : ℕ) (ys : List ℕ) → drop r xs ≡ x ∷ ys → drop (suc r) xs ≡ ys
tail-of [] zero x ys e = cc
tail-of [] (suc r) x ys e = cc
tail-of (z ∷ zs) zero x ys e = cc
tail-of (z ∷ zs) (suc r) x ys e = tail-of zs r x ys e

joined : (p w s d e rest k : ℕ) → d * s + e ≡ rest → p * (w * s) + rest ≡ k → (p * w + d) * s + e ≡ k
joined p w s d e rest k h q = omega arith

pub rank-next : (g : Game) (m k r place digit : ℕ) (play : List ℕ) → r < m → IsRanked g m k r place play → digit ≡ slice_index play r → IsRanked g m k (r + 1) (place * width g (r + 1) + digit) play
rank-next g m k r place digit play lt is e =
    let n : ℕ = m - (r + 1) in
    let more : m - r ≡ suc n = omega arith in
    let s : ℕ = choices_from g (r + 1 + 1) n in
    let w : ℕ = 1 + length (resource_schedules g (r + 1)) in
    let rest : ℕ = is.rest in
    let full : choices_from g (r + 1) (m - r) ≡ w * s = ap (λ j. choices_from g (r + 1) j) more in
    let some : 0 < s = some-below rest w s (let h = is.inside in omega (arith, h, full)) in
    let opened : drop r play ≡ rest / s ∷ joint_at g (r + 1 + 1) n (rest % s) = is.left ∙ ap (λ j. joint_at g (r + 1) j rest) more in
    let at : digit ≡ rest / s = e ∙ (let z : r ≡ r + 0 = omega arith in ap (λ i. get_or play i 0) z) ∙ sym (get_or-drop r play 0 0) ∙ ap (λ (xs : List ℕ). get_or xs 0 0) opened in
    let whole : place * (w * s) + rest ≡ k = ap (λ z. place * z + rest) (sym full) ∙ is.sum in
    let turn : width g (r + 1) ≡ w = omega arith in
    let next : suc r ≡ r + 1 = omega arith in
    record {
      rest = rest % s;
      inside = rest-below rest s some;
      sum = ap (λ z. (place * z + digit) * s + rest % s) turn ∙ ap (λ z. (place * w + z) * s + rest % s) at ∙ joined place w s (rest / s) (rest % s) rest k (parts rest s some) whole;
      left = ap (λ i. drop i play) (sym next) ∙ tail-of play r (rest / s) (joint_at g (r + 1 + 1) n (rest % s)) opened;
    }

room-for : (p w s rest k : ℕ) → 0 < s → p * (w * s) + rest ≡ k → p * w ≤ k
room-for p w zero rest k some h = absurd (omega arith)
room-for p w (suc s) rest k some h = omega arith

-- no product on the way is above the place
pub rank-room : (g : Game) (m k r place : ℕ) (play : List ℕ) → r < m → IsRanked g m k r place play → place * width g (r + 1) ≤ k
rank-room g m k r place play lt is =
    let n : ℕ = m - (r + 1) in
    let more : m - r ≡ suc n = omega arith in
    let s : ℕ = choices_from g (r + 1 + 1) n in
    let w : ℕ = 1 + length (resource_schedules g (r + 1)) in
    let full : choices_from g (r + 1) (m - r) ≡ w * s = ap (λ j. choices_from g (r + 1) j) more in
    let some : 0 < s = some-below is.rest w s (let h = is.inside in omega (arith, h, full)) in
    let whole : place * (w * s) + is.rest ≡ k = ap (λ z. place * z + is.rest) (sym full) ∙ is.sum in
    let turn : width g (r + 1) ≡ w = omega arith in
    subst (λ z. place * z ≤ k) (sym turn) (room-for place w s is.rest k some whole)

pub rank-end : (g : Game) (m k place : ℕ) (play : List ℕ) → IsRanked g m k m place play → place ≡ k
rank-end g m k place play is =
    let none : m - m ≡ 0 = omega arith in
    let one : choices_from g (m + 1) (m - m) ≡ 1 = ap (λ j. choices_from g (m + 1) j) none in
    let h = is.inside in
    let q : place * 1 + is.rest ≡ k = ap (λ z. place * z + is.rest) (sym one) ∙ is.sum in
    omega (arith, h, one, q)

-- ---- plays of either form, as columns

-- a column of a legal play, by the play's place
pub place-of : (g : Game) (col : Column) → Contains (map column_of (legal_plays g)) col → (k : ℕ) × (k < length (legal_plays g)) × (column_of (listed_play g k) ≡ col)
place-of g col h =
    let lt : h.0 < length (legal_plays g) = (let a = h.1 in omega (arith, a, length-map (legal_plays g) column_of)) in
    (h.0, lt, sym (get_or-map column_of (legal_plays g) h.0 [] col lt) ∙ h.2)

pub rank-begin : (g : Game) (count : ℕ) (col : Column) → is_matrix g ≡ false → count ≡ play_count g → Contains (map column_of (legal_plays g)) col
    → (k : ℕ) × (k < count) × (column_of (listed_play g k) ≡ col) × IsRanked g (resource_count g) k 0 0 (listed_play g k)
rank-begin g count col security e h =
    let p = place-of g col h in
    let k : ℕ = p.0 in
    let lt : k < play_count g = (let a = p.1 in omega (arith, a, legal_plays_are_counted g)) in
    let c : play_count g ≡ choices_from g 1 (resource_count g) = rw security refl in
    (k, omega (arith, lt, e), p.2, rank-start g (resource_count g) k (listed_play g k) (omega (arith, lt, c)) (play_at-joint g security k lt))

-- a digit of a column's code is one of its play
code-digit : (play zeros : List ℕ) (r : ℕ) → r < length play → get_or (play ++ zeros) r 0 ≡ slice_index play r
code-digit play zeros r lt = get_or_append_left play zeros 0 r lt

pub rank-step : (g : Game) (count r place digit : ℕ) (col : Column) → is_matrix g ≡ false → count ≡ play_count g → r < resource_count g → digit ≡ get_or col.code r 0
    → (k : ℕ) → k < count → column_of (listed_play g k) ≡ col → IsRanked g (resource_count g) k r place (listed_play g k) → IsRanked g (resource_count g) k (r + 1) (place * width g (r + 1) + digit) (listed_play g k)
rank-step g count r place digit col security e lt d k below is ranked =
    let play : List ℕ = listed_play g k in
    let joint : play ≡ joint_at g 1 (resource_count g) k = play_at-joint g security k (omega (arith, below, e)) in
    let long : length play ≡ resource_count g = ap length joint ∙ length-joint_at g 1 (resource_count g) k in
    let code : digit ≡ slice_index play r = d ∙ ap (λ (c : Column). get_or c.code r 0) (sym is) ∙ code-digit play (replicate (32 - length play) 0) r (omega (arith, lt, long)) in
    rank-next g (resource_count g) k r place digit play lt ranked code

pub rank-last : (g : Game) (m count r place : ℕ) (col : Column) → m ≤ r → r ≤ m → (k : ℕ) → k < count → column_of (listed_play g k) ≡ col → IsRanked g m k r place (listed_play g k) → (place < count) × (column_of (listed_play g place) ≡ col)
rank-last g m count r place col le ge k below is ranked =
    let all : r ≡ m = omega (arith, le, ge) in
    let same : place ≡ k = rank-end g m k place (listed_play g k) (subst (λ n. IsRanked g m k n place (listed_play g k)) all ranked) in
    (omega (arith, same, below), ap (λ n. column_of (listed_play g n)) same ∙ is)

-- as the code reads them
pub rank-room-by : (g : Game) (k r place m : ℕ) (play : List ℕ) → r < resource_count g → m ≡ length (resource_schedules g (r + 1)) → IsRanked g (resource_count g) k r place play → place * (m + 1) ≤ k
rank-room-by g k r place m play lt e ranked = subst (λ n. place * (n + 1) ≤ k) (sym e) (rank-room g (resource_count g) k r place play lt ranked)

pub rank-step-by : (g : Game) (count r place m : ℕ) (col : Column) → is_matrix g ≡ false → count ≡ play_count g → r < resource_count g → m ≡ length (resource_schedules g (r + 1))
    → (k : ℕ) → k < count → column_of (listed_play g k) ≡ col → IsRanked g (resource_count g) k r place (listed_play g k) → IsRanked g (resource_count g) k (r + 1) (place * (m + 1) + get_or col.code r 0) (listed_play g k)
rank-step-by g count r place m col security e lt em k below is ranked =
    subst (λ n. IsRanked g (resource_count g) k (r + 1) (place * (n + 1) + get_or col.code r 0) (listed_play g k)) (sym em) (rank-step g count r place (get_or col.code r 0) col security e lt refl k below is ranked)

product-above : (p s : ℕ) → 0 < s → p ≤ p * s
product-above p zero some = absurd (omega arith)
product-above p (suc s) some = omega arith

-- a place on the way is not above the last
pub rank-below : (g : Game) (m k r place : ℕ) (play : List ℕ) → IsRanked g m k r place play → place ≤ k
rank-below g m k r place play is =
    let s : ℕ = choices_from g (r + 1) (m - r) in
    let h = is.inside in
    let some : 0 < s = omega (arith, h) in
    let q = is.sum in
    omega (arith, product-above place s some, q)

pub unrank-begin : (g : Game) (m k count : ℕ) → is_matrix g ≡ false → m ≡ resource_count g → count ≡ play_count g → k < count → IsUnranked g m k 0 count k (replicate 32 0)
unrank-begin g m k count security em e lt =
    let c : play_count g ≡ choices_from g 1 (resource_count g) = rw security refl in
    unrank-start g m k count (e ∙ c ∙ ap (λ n. choices_from g 1 n) (sym em)) lt

pub size-some : (g : Game) (m k r size rest w : ℕ) (code : List ℕ) → r < m → w ≡ length (resource_schedules g (r + 1)) → IsUnranked g m k r size rest code → 0 < size / (w + 1)
size-some g m k r size rest w code lt e is =
    let n : ℕ = m - (r + 1) in
    let more : m - r ≡ suc n = omega arith in
    let s : ℕ = choices_from g (r + 1 + 1) n in
    let next : size / width g (r + 1) ≡ s = size-next g m r size lt is.size_is in
    let full : size ≡ (1 + length (resource_schedules g (r + 1))) * s = is.size_is ∙ ap (λ j. choices_from g (r + 1) j) more in
    let some : 0 < s = some-below rest (1 + length (resource_schedules g (r + 1))) s (let h = is.inside in omega (arith, h, full)) in
    subst (λ z. 0 < size / (z + 1)) (sym e) (subst (λ z. 0 < z) (sym next) some)

pub digit-small : (g : Game) (m k r size rest w : ℕ) (code : List ℕ) → IsUnranked g m k r size rest code → rest / (size / (w + 1)) ≤ k
digit-small g m k r size rest w code is = let h = is.small in omega (arith, div-le_self rest (size / (w + 1)), h)

pub unrank-step : (g : Game) (m k r size rest w : ℕ) (code : List ℕ) → r < m → m ≤ 32 → w ≡ length (resource_schedules g (r + 1)) → IsUnranked g m k r size rest code
    → IsUnranked g m k (r + 1) (size / (w + 1)) (rest % (size / (w + 1))) (set code r (rest / (size / (w + 1))))
unrank-step g m k r size rest w code lt few e is =
    subst (λ z. IsUnranked g m k (r + 1) (size / (z + 1)) (rest % (size / (z + 1))) (set code r (rest / (size / (z + 1))))) (sym e) (unrank-next g m k r size rest code lt few is)

column-by : (n : ℕ) (code play : List ℕ) → length play ≡ n → code ≡ play ++ replicate (32 - length play) 0 → ◌≡◌ {A = Column} (record { len = n; code = code }) (column_of play)
column-by n code play e f = cc

pub unrank-column : (g : Game) (m k count r size rest : ℕ) (code : List ℕ) → is_matrix g ≡ false → m ≡ resource_count g → m ≤ 32 → count ≡ play_count g → k < count → m ≤ r → r ≤ m → IsUnranked g m k r size rest code
    → ◌≡◌ {A = Column} (record { len = m; code = code }) (column_of (listed_play g k))
unrank-column g m k count r size rest code security em few e lt le ge is =
    let all : r ≡ m = omega (arith, le, ge) in
    let play : List ℕ = listed_play g k in
    let joint : play ≡ joint_at g 1 m k = play_at-joint g security k (omega (arith, lt, e)) ∙ ap (λ n. joint_at g 1 n k) (sym em) in
    let last = unrank-end g m k size rest code play few (subst (λ n. IsUnranked g m k n size rest code) all is) joint in
    column-by m code play last.0 last.1
