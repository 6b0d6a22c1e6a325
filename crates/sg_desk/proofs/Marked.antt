-- Marks, one comparison more at a time.
use Rattle.std.proofs.Common.{◌≡◌, ◌≢◌, ◌∙◌, ℕ, zero, suc, ◌+◌, ◌<◌, ◌≤◌, Bool, true, false, cond, List, [], ◌∷◌, ◌++◌, drop, take, length, flat_map, ℤ, pos, refl, ap, sym, subst, arith, append_assoc, length-append}
use Rattle.std.specs.Prelude.{int_lt, slice_index}
use Rattle.std.proofs.lemmas.Grind.{flat_map-append}
use Rattle.std.proofs.lemmas.List.{append-nil, take_more}
use Rattle.std.proofs.Math.Seq.{take-length}
use Rattle.sg_model.specs.Games.{Game}
use Rattle.sg_tree.specs.declared.fact.Mark.{Mark}
use Rattle.sg_tree.specs.declared.fix.Fix.{Fix}
use Rattle.sg_bounds.specs.PlayRows.{comparisons, other_actions}
use Rattle.sg_bounds.specs.Regions.{fixed}
use Rattle.sg_rows.specs.Rows.{place}
use Rattle.sg_programs.specs.Marks.{marks_of}
use Rattle.sg_dobss.proofs.Gains.{others-more, others-same, others_to}
use Rattle.sg_programs.proofs.Fixed.{fixed-at, fixed-count}

-- the mark of one comparison
one : (m : ℕ × ℕ) (vs : List ℤ) → marks_of (m ∷ []) vs ≡ marks_of (m ∷ []) (place vs 0 ∷ [])
one m [] = refl
one m (v ∷ vs) = refl

pub marks-append : (ms ns : List (ℕ × ℕ)) (vs : List ℤ) → marks_of (ms ++ ns) vs ≡ marks_of ms vs ++ marks_of ns (drop (length ms) vs)
marks-append [] ns vs = refl
marks-append (m ∷ ms) ns [] = sym (none ns)
  where
    none : (ks : List (ℕ × ℕ)) → marks_of ks [] ≡ []
    none [] = refl
    none (k ∷ ks) = refl
marks-append (m ∷ ms) ns (v ∷ vs) = go (int_lt (pos 0) v) (marks-append ms ns vs)
  where
    go : (t : Bool) → marks_of (ms ++ ns) vs ≡ marks_of ms vs ++ marks_of ns (drop (length ms) vs)
        → cond t (record { l = m.0; a = m.1; v = v } ∷ marks_of (ms ++ ns) vs) (marks_of (ms ++ ns) vs) ≡ cond t (record { l = m.0; a = m.1; v = v } ∷ marks_of ms vs) (marks_of ms vs) ++ marks_of ns (drop (length ms) vs)
    go true e = ap (λ (xs : List Mark). record { l = m.0; a = m.1; v = v } ∷ xs) e
    go false e = e

drop-drop : (m n : ℕ) (vs : List ℤ) → drop m (drop n vs) ≡ drop (n + m) vs
drop-drop m zero vs = let e : m ≡ 0 + m = omega arith in ap (λ k. drop k vs) e
drop-drop m (suc n) [] = nothing m ∙ sym (nothing (suc n + m))
  where
    nothing : (k : ℕ) → ◌≡◌ {A = List ℤ} (drop k []) []
    nothing zero = refl
    nothing (suc k) = refl
drop-drop m (suc n) (v ∷ vs) = let e : suc (n + m) ≡ suc n + m = omega arith in drop-drop m n vs ∙ ap (λ k. drop k (v ∷ vs)) e

place-drop : (n : ℕ) (vs : List ℤ) → place (drop n vs) 0 ≡ place vs n
place-drop zero vs = refl
place-drop (suc n) [] = refl
place-drop (suc n) (v ∷ vs) = place-drop n vs

-- one comparison more, whose multiplier stands at row + length ms
pub marks-more : (ms : List (ℕ × ℕ)) (m : ℕ × ℕ) (y : List ℤ) (row at : ℕ) → at ≡ row + length ms → marks_of (ms ++ m ∷ []) (drop row y) ≡ marks_of ms (drop row y) ++ marks_of (m ∷ []) (place y at ∷ [])
marks-more ms m y row at e =
    marks-append ms (m ∷ []) (drop row y)
    ∙ ap (λ (xs : List Mark). marks_of ms (drop row y) ++ xs)
    (ap (marks_of (m ∷ [])) (drop-drop (length ms) row y) ∙ one m (drop (row + length ms) y) ∙ ap (λ (z : ℤ). marks_of (m ∷ []) (z ∷ [])) (place-drop (row + length ms) y ∙ ap (place y) (sym e)))

-- so far, of one type
pub record AreMarked (before marks : List Mark) (l act n row next : ℕ) (y : List ℤ) : Type 0 where
  pub are : marks ≡ before ++ marks_of (others_to l act n) (drop row y)
  pub next_is : next ≡ row + length (others_to l act n)
  pub near : next ≤ row + n

pub marked-none : (before : List Mark) (l act row : ℕ) (y : List ℤ) → AreMarked before before l act 0 row row y
marked-none before l act row y = record { are = sym (append-nil before); next_is = omega arith; near = omega arith }

pub marked-other : (before marks all : List Mark) (l act n row next : ℕ) (y : List ℤ) → n + 1 ≢ act → AreMarked before marks l act n row next y
    → all ≡ marks ++ marks_of ((l, n + 1) ∷ []) (place y next ∷ []) → AreMarked before all l act (n + 1) row (next + 1) y
marked-other before marks all l act n row next y ne h e =
    let ms : List (ℕ × ℕ) = others_to l act n in
    let more = others-more l act n ne in
    let long : length (others_to l act (n + 1)) ≡ length ms + 1 = ap length more ∙ length-append ms ((l, n + 1) ∷ []) in
    record {
      are =
          e
          ∙ (ap (λ (xs : List Mark). xs ++ marks_of ((l, n + 1) ∷ []) (place y next ∷ [])) h.are
          ∙ (append_assoc before (marks_of ms (drop row y)) (marks_of ((l, n + 1) ∷ []) (place y next ∷ []))
          ∙ ap (λ (xs : List Mark). before ++ xs) (sym (ap (λ ks. marks_of ks (drop row y)) more ∙ marks-more ms (l, n + 1) y row next h.next_is))));
      next_is = omega (arith, h.next_is, long);
      near = let a = h.near in omega (arith, a);
    }

pub marked-same : (before marks : List Mark) (l act n row next : ℕ) (y : List ℤ) → n + 1 ≡ act → AreMarked before marks l act n row next y → AreMarked before marks l act (n + 1) row next y
marked-same before marks l act n row next y is h =
    let same = others-same l act n is in
    record {
      are = h.are ∙ ap (λ ks. before ++ marks_of ks (drop row y)) (sym same);
      next_is = h.next_is ∙ ap (λ ks. row + length ks) (sym same);
      near = let a = h.near in omega (arith, a);
    }

-- ---- all types

-- the comparisons of the first n fixed types
abbrev pub compared_to : Game → Fix → ℕ → List (ℕ × ℕ)
compared_to g fix n = flat_map (other_actions g) (take n (fixed fix))

pub record AreAllMarked (g : Game) (fix : Fix) (marks : List Mark) (n row : ℕ) (y : List ℤ) : Type 0 where
  pub are : marks ≡ marks_of (compared_to g fix n) (drop 1 y)
  pub row_is : row ≡ 1 + length (compared_to g fix n)

compared-more : (g : Game) (fix : Fix) (n : ℕ) → n < length fix.acts → compared_to g fix (n + 1) ≡ compared_to g fix n ++ other_actions g (fix.first + n, slice_index fix.acts n)
compared-more g fix n lt =
    ap (flat_map (other_actions g)) (take_more (fixed fix) n (0, 0) (omega (arith, lt, fixed-count fix)) ∙ ap (λ (p : ℕ × ℕ). take n (fixed fix) ++ p ∷ []) (fixed-at fix n (0, 0) lt))
    ∙ (flat_map-append (other_actions g) (take n (fixed fix)) ((fix.first + n, slice_index fix.acts n) ∷ [])
    ∙ ap (λ ks. compared_to g fix n ++ ks) (append-nil (other_actions g (fix.first + n, slice_index fix.acts n))))

pub all-marked : (g : Game) (fix : Fix) (before marks : List Mark) (n row next l act : ℕ) (y : List ℤ) → n < length fix.acts → l ≡ fix.first + n → act ≡ slice_index fix.acts n → AreAllMarked g fix before n row y
    → next ≡ row + length (other_actions g (l, act)) → marks ≡ before ++ marks_of (other_actions g (l, act)) (drop row y) → AreAllMarked g fix marks (n + 1) next y
all-marked g fix before marks n row next l act y lt el ea h en em =
    let here : ℕ × ℕ = (l, act) in
    let ms : List (ℕ × ℕ) = compared_to g fix n in
    let ns : List (ℕ × ℕ) = other_actions g here in
    let at : here ≡ (fix.first + n, slice_index fix.acts n) = ap (λ (k : ℕ). (k, act)) el ∙ ap (λ (k : ℕ). (fix.first + n, k)) ea in
    let more : compared_to g fix (n + 1) ≡ ms ++ ns = compared-more g fix n lt ∙ ap (λ p. ms ++ other_actions g p) (sym at) in
    let behind : drop (length ms) (drop 1 y) ≡ drop row y = drop-drop (length ms) 1 y ∙ ap (λ k. drop k y) (sym h.row_is) in
    record {
      are =
          em
          ∙ (ap (λ (xs : List Mark). xs ++ marks_of ns (drop row y)) h.are
          ∙ sym (ap (λ ks. marks_of ks (drop 1 y)) more ∙ (marks-append ms ns (drop 1 y) ∙ ap (λ vs. marks_of ms (drop 1 y) ++ marks_of ns vs) behind)));
      row_is = omega (arith, en, h.row_is, ap length more, length-append ms ns);
    }

pub all-end : (g : Game) (fix : Fix) (marks : List Mark) (n row : ℕ) (y : List ℤ) → length fix.acts ≤ n → n ≤ length fix.acts → AreAllMarked g fix marks n row y → marks ≡ marks_of (comparisons g fix) (drop 1 y)
all-end g fix marks n row y le ge h =
    let e : n ≡ length (fixed fix) = omega (arith, le, ge, fixed-count fix) in
    h.are ∙ ap (λ ps. marks_of (flat_map (other_actions g) ps) (drop 1 y)) (ap (λ k. take k (fixed fix)) e ∙ take-length (fixed fix))

-- as they are put
pub marked-other-by : (before marks put all : List Mark) (l act n row next after : ℕ) (y : List ℤ) (v : ℤ) → n + 1 ≢ act → AreMarked before marks l act n row next y
    → put ≡ marks ++ marks_of ((l, n + 1) ∷ []) (v ∷ []) → v ≡ place y next → all ≡ put → after ≡ next + 1 → AreMarked before all l act (n + 1) row after y
marked-other-by before marks put all l act n row next after y v ne h e ev ea en =
    subst (λ k. AreMarked before all l act (n + 1) row k y) (sym en)
    (marked-other before marks all l act n row next y ne h (ea ∙ (e ∙ ap (λ (z : ℤ). marks ++ marks_of ((l, n + 1) ∷ []) (z ∷ [])) ev)))

pub marked-same-by : (before marks all : List Mark) (l act n row next after : ℕ) (y : List ℤ) → n + 1 ≡ act → AreMarked before marks l act n row next y → all ≡ marks → after ≡ next → AreMarked before all l act (n + 1) row after y
marked-same-by before marks all l act n row next after y is h ea en =
    subst (λ k. AreMarked before all l act (n + 1) row k y) (sym en) (subst (λ xs. AreMarked before xs l act (n + 1) row next y) (sym ea) (marked-same before marks l act n row next y is h))
