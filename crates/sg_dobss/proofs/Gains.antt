-- The rows of a node, type by type.
use Rattle.std.proofs.Common.{◌≡◌, ◌≢◌, ◌∙◌, ℕ, zero, suc, ◌+◌, ◌<◌, ◌≤◌, List, [], ◌∷◌, ◌++◌, length, map, take, flat_map, sym, ap, subst, refl, arith, slice_index, get_or}
use Rattle.std.specs.Prelude.{ℤ, ◌-ℤ◌}
use Rattle.std.specs.List.{All, AllZip, filter}
use Rattle.std.proofs.lemmas.Grind.{flat_map-append}
use Rattle.std.proofs.lemmas.List.{append-nil, map-append}
use Rattle.std.proofs.lemmas.List.Elements.{All-map}
use Rattle.sg_model.specs.Games.{Game, action_count}
use Rattle.sg_model.specs.Plays.{pay_a}
use Rattle.sg_model.specs.Sums.{numbers}
use Rattle.sg_tree.specs.declared.fix.Fix.{Fix}
use Rattle.sg_bounds.specs.Regions.{act_of, fixed}
use Rattle.sg_rows.specs.Rows.{place}
use Rattle.sg_bounds.specs.PlayRows.{comparisons, other_actions}
use Rattle.sg_programs.proofs.Comparisons.{apart}
use Rattle.sg_programs.proofs.Fixed.{act-is, apart-more, apart-same, fixed-all, fixed-more}
use Rattle.sg_dobss.specs.Paying.{AreByPlay, AreNumbers, difference_at, listed_play}
use Rattle.sg_dobss.specs.Tables.{AreGainRows, IsGainRow, IsTypeRow}

-- ---- lists side by side

pub zip-append : {A B : Type 0} (R : A → B → Type 0) (xs : List A) (ys : List B) (us : List A) (vs : List B) → AllZip R xs ys → AllZip R us vs → AllZip R (xs ++ us) (ys ++ vs)
zip-append R [] [] us vs h k = k
zip-append R [] (y ∷ ys) us vs h k = absurd h
zip-append R (x ∷ xs) [] us vs h k = absurd h
zip-append R (x ∷ xs) (y ∷ ys) us vs h k = (h.0, zip-append R xs ys us vs h.1 k)

pub zip-weaker : {A B : Type 0} (P : A → Type 0) (R S : A → B → Type 0) → ((x : A) (y : B) → P x → R x y → S x y) → (xs : List A) (ys : List B) → All P xs → AllZip R xs ys → AllZip S xs ys
zip-weaker P R S f [] [] all h = tt
zip-weaker P R S f [] (y ∷ ys) all h = absurd h
zip-weaker P R S f (x ∷ xs) [] all h = absurd h
zip-weaker P R S f (x ∷ xs) (y ∷ ys) all h = (f x y (all 0 x (omega arith)) h.0, zip-weaker P R S f xs ys (λ i d lt. all (suc i) d (omega (arith, lt))) h.1)

pub zip-at : {A B : Type 0} (R : A → B → Type 0) (xs : List A) (ys : List B) (i : ℕ) (d : A) (e : B) → AllZip R xs ys → i < length xs → R (get_or xs i d) (get_or ys i e)
zip-at R [] [] i d e h lt = absurd (omega arith)
zip-at R [] (y ∷ ys) i d e h lt = absurd h
zip-at R (x ∷ xs) [] i d e h lt = absurd h
zip-at R (x ∷ xs) (y ∷ ys) zero d e h lt = h.0
zip-at R (x ∷ xs) (y ∷ ys) (suc i) d e h lt = zip-at R xs ys i d e h.1 (omega (arith, lt))

-- ---- one action

pub differences-by_play : (g : Game) (f h : List ℕ → ℤ) (xs ys zs : List ℤ) → AreByPlay g f xs → AreByPlay g h ys → AreNumbers (length xs) (difference_at xs ys) zs → AreByPlay g (λ play. f play -ℤ h play) zs
differences-by_play g f h xs ys zs p q r = record {
  long = r.long ∙ p.long;
  each = λ k lt.
      let d = r.each k (omega (arith, lt, p.long)) in
      d ∙ ap (λ (z : ℤ). z -ℤ place ys k) (p.each k lt) ∙ ap (λ (z : ℤ). f (listed_play g k) -ℤ z) (q.each k lt);
}

-- ---- one type

-- the actions up to n, but one, each with its type
abbrev pub others_to : ℕ → ℕ → ℕ → List (ℕ × ℕ)
others_to l act n = map (λ (a : ℕ). (l, a)) (filter (apart act) (numbers n))

pub others-more : (l act n : ℕ) → n + 1 ≢ act → others_to l act (n + 1) ≡ others_to l act n ++ (l, n + 1) ∷ []
others-more l act n ne = ap (map (λ (a : ℕ). (l, a))) (apart-more act n ne) ∙ map-append (λ (a : ℕ). (l, a)) (filter (apart act) (numbers n)) ((n + 1) ∷ [])

pub others-same : (l act n : ℕ) → n + 1 ≡ act → others_to l act (n + 1) ≡ others_to l act n
others-same l act n is = ap (map (λ (a : ℕ). (l, a))) (apart-same act n is)

-- ---- all types

-- the rows of one type more
pub rows-more : (g : Game) (fix : Fix) (i : ℕ) (rows more : List (List ℤ)) → i < length fix.acts → AreGainRows g fix i rows
    → AllZip (IsTypeRow g (slice_index fix.acts i)) (other_actions g (fix.first + i, slice_index fix.acts i)) more → AreGainRows g fix (i + 1) (rows ++ more)
rows-more g fix i rows more lt h k =
    let act : ℕ = slice_index fix.acts i in
    let l : ℕ = fix.first + i in
    let before : List (ℕ × ℕ) = flat_map (other_actions g) (take i (fixed fix)) in
    let of-type : All (λ (m : ℕ × ℕ). m.0 ≡ l) (other_actions g (l, act)) = All-map (λ (m : ℕ × ℕ). m.0 ≡ l) (λ (a : ℕ). (l, a)) (filter (apart act) (numbers (action_count g l))) (λ j d within. refl) in
    let gained : AllZip (IsGainRow g fix) (other_actions g (l, act)) more =
    zip-weaker (λ (m : ℕ × ℕ). m.0 ≡ l) (IsTypeRow g act) (IsGainRow g fix)
    (λ m row is r. record {
      long = r.long;
      each = λ n within. r.each n within ∙ ap (λ (a : ℕ). pay_a g m.0 (listed_play g n) m.1 -ℤ pay_a g m.0 (listed_play g n) a) (sym (ap (act_of fix) is ∙ act-is fix i));
    }) (other_actions g (l, act)) more of-type k in
    let e : flat_map (other_actions g) (take (i + 1) (fixed fix)) ≡ before ++ other_actions g (l, act) =
    ap (flat_map (other_actions g)) (fixed-more fix i lt) ∙ flat_map-append (other_actions g) (take i (fixed fix)) ((l, act) ∷ []) ∙ ap (λ xs. before ++ xs) (append-nil (other_actions g (l, act))) in
    subst (λ (ms : List (ℕ × ℕ)). AllZip (IsGainRow g fix) ms (rows ++ more)) (sym e) (zip-append (IsGainRow g fix) before rows (other_actions g (l, act)) more h gained)

pub rows-all : (g : Game) (fix : Fix) (rows : List (List ℤ)) → AreGainRows g fix (length fix.acts) rows → AllZip (IsGainRow g fix) (comparisons g fix) rows
rows-all g fix rows h = subst (λ (ps : List (ℕ × ℕ)). AllZip (IsGainRow g fix) (flat_map (other_actions g) ps) rows) (fixed-all fix) h

-- the differences of two lists of payoffs, of which the first is read as a slice
pub gained : (g : Game) (f h : List ℕ → ℤ) (pays xs ys zs : List ℤ) → xs ≡ pays → AreByPlay g f pays → AreByPlay g h ys → AreNumbers (length xs) (difference_at xs ys) zs → AreByPlay g (λ play. f play -ℤ h play) zs
gained g f h pays xs ys zs e p q r = differences-by_play g f h xs ys zs (subst (AreByPlay g f) (sym e) p) q r

-- one action more, other than the fixed one
pub type-more : (g : Game) (l act n : ℕ) (rows : List (List ℤ)) (row : List ℤ) → n + 1 ≢ act → AllZip (IsTypeRow g act) (others_to l act n) rows → IsTypeRow g act (l, n + 1) row
    → AllZip (IsTypeRow g act) (others_to l act (n + 1)) (rows ++ row ∷ [])
type-more g l act n rows row ne h k =
    subst (λ ms. AllZip (IsTypeRow g act) ms (rows ++ row ∷ [])) (sym (others-more l act n ne)) (zip-append (IsTypeRow g act) (others_to l act n) rows ((l, n + 1) ∷ []) (row ∷ []) h (k, tt))

-- and the fixed one, which has no row
pub type-same : (g : Game) (l act n : ℕ) (rows : List (List ℤ)) → n + 1 ≡ act → AllZip (IsTypeRow g act) (others_to l act n) rows → AllZip (IsTypeRow g act) (others_to l act (n + 1)) rows
type-same g l act n rows is h = subst (λ ms. AllZip (IsTypeRow g act) ms rows) (sym (others-same l act n is)) h

-- the rows of one type more, as they are made
pub rows-next : (g : Game) (fix : Fix) (i l act : ℕ) (rows more all : List (List ℤ)) → i < length fix.acts → l ≡ fix.first + i → act ≡ slice_index fix.acts i → AreGainRows g fix i rows
    → AllZip (IsTypeRow g act) (other_actions g (l, act)) more → all ≡ rows ++ more → AreGainRows g fix (i + 1) all
rows-next g fix i l act rows more all lt e f h k is =
    subst (AreGainRows g fix (i + 1)) (sym is)
    (rows-more g fix i rows more lt h (subst (λ a. AllZip (IsTypeRow g a) (other_actions g (fix.first + i, a)) more) f (subst (λ m. AllZip (IsTypeRow g act) (other_actions g (m, act)) more) e k)))

pub rows-end : (g : Game) (fix : Fix) (i : ℕ) (rows : List (List ℤ)) → length fix.acts ≤ i → i ≤ length fix.acts → AreGainRows g fix i rows → AllZip (IsGainRow g fix) (comparisons g fix) rows
rows-end g fix i rows le ge h = let e : i ≡ length fix.acts = omega (arith, le, ge) in rows-all g fix rows (subst (λ n. AreGainRows g fix n rows) e h)

-- as the rows are written
pub type-more-by : (g : Game) (l act n : ℕ) (rows : List (List ℤ)) (row : List ℤ) (pushed all : List (List ℤ)) → n + 1 ≢ act → AllZip (IsTypeRow g act) (others_to l act n) rows → IsTypeRow g act (l, n + 1) row
    → pushed ≡ rows ++ row ∷ [] → all ≡ pushed → AllZip (IsTypeRow g act) (others_to l act (n + 1)) all
type-more-by g l act n rows row pushed all ne h k e f = subst (AllZip (IsTypeRow g act) (others_to l act (n + 1))) (sym (f ∙ e)) (type-more g l act n rows row ne h k)

pub type-same-by : (g : Game) (l act n : ℕ) (rows all : List (List ℤ)) → n + 1 ≡ act → AllZip (IsTypeRow g act) (others_to l act n) rows → all ≡ rows → AllZip (IsTypeRow g act) (others_to l act (n + 1)) all
type-same-by g l act n rows all is h f = subst (AllZip (IsTypeRow g act) (others_to l act (n + 1))) (sym f) (type-same g l act n rows is h)
