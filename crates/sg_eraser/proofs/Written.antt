-- Lists that are written one item, or one list, after another.
use Rattle.std.proofs.Common.{◌≡◌, ◌≢◌, ◌∙◌, ℕ, ◌+◌, ◌<◌, ◌≤◌, List, [], ◌∷◌, ◌++◌, length, map, take, flat_map, sym, ap, arith, slice_index, get_or}
use Rattle.std.specs.List.{filter}
use Rattle.std.proofs.lemmas.Grind.{flat_map-append}
use Rattle.std.proofs.lemmas.List.{append-nil, map-append, take_more}
use Rattle.std.proofs.Math.Seq.{take-length}
use Rattle.sg_model.specs.Sums.{numbers}
use Rattle.sg_tree.specs.declared.fix.Fix.{Fix}
use Rattle.sg_bounds.specs.Regions.{fixed}
use Rattle.sg_programs.proofs.Comparisons.{apart}
use Rattle.sg_programs.proofs.Fixed.{apart-more, apart-same, fixed-all, fixed-more}
use Rattle.sg_programs.proofs.Heights.{numbers-split}

pub numbers-next : (k : ℕ) → numbers (k + 1) ≡ numbers k ++ (k + 1) ∷ []
numbers-next k = let e : 1 + k ≡ k + 1 = omega arith in numbers-split 1 k 1 ∙ ap (λ (n : ℕ). numbers k ++ n ∷ []) e

pushed : {X Y : Type 0} (f : X → Y) (xs all : List X) (x : X) (ys : List Y) (y : Y) → map f xs ≡ ys → f x ≡ y → all ≡ xs ++ x ∷ [] → map f all ≡ ys ++ y ∷ []
pushed {Y = Y} f xs all x ys y h e is = ap (map f) is ∙ map-append f xs (x ∷ []) ∙ ap (λ (zs : List Y). zs ++ f x ∷ []) h ∙ ap (λ (z : Y). ys ++ z ∷ []) e

appended : {X Y : Type 0} (f : X → Y) (xs more all : List X) (ys zs : List Y) → map f xs ≡ ys → map f more ≡ zs → all ≡ xs ++ more → map f all ≡ ys ++ zs
appended {Y = Y} f xs more all ys zs h k is = ap (map f) is ∙ map-append f xs more ∙ ap (λ (us : List Y). us ++ map f more) h ∙ ap (λ (us : List Y). ys ++ us) k

-- one number more
pub next-number : {X Y : Type 0} (f : X → Y) (h : ℕ → Y) (k : ℕ) (xs all : List X) (x : X) → map f xs ≡ map h (numbers k) → f x ≡ h (k + 1) → all ≡ xs ++ x ∷ [] → map f all ≡ map h (numbers (k + 1))
next-number f h k xs all x before e is = pushed f xs all x (map h (numbers k)) (h (k + 1)) before e is ∙ sym (ap (map h) (numbers-next k) ∙ map-append h (numbers k) ((k + 1) ∷ []))

pub next-value : {Y : Type 0} (h : ℕ → Y) (k : ℕ) (ys all : List Y) (y : Y) → ys ≡ map h (numbers k) → y ≡ h (k + 1) → all ≡ ys ++ y ∷ [] → all ≡ map h (numbers (k + 1))
next-value {Y = Y} h k ys all y before e is =
    is ∙ ap (λ (zs : List Y). zs ++ y ∷ []) before ∙ ap (λ (z : Y). map h (numbers k) ++ z ∷ []) e ∙ sym (ap (map h) (numbers-next k) ∙ map-append h (numbers k) ((k + 1) ∷ []))

-- one number more, but the one left out
pub next-apart : {X Y : Type 0} (f : X → Y) (h : ℕ → Y) (own k : ℕ) (xs all : List X) (x : X) → k + 1 ≢ own → map f xs ≡ map h (filter (apart own) (numbers k)) → f x ≡ h (k + 1) → all ≡ xs ++ x ∷ []
    → map f all ≡ map h (filter (apart own) (numbers (k + 1)))
next-apart f h own k xs all x ne before e is =
    pushed f xs all x (map h (filter (apart own) (numbers k))) (h (k + 1)) before e is ∙ sym (ap (map h) (apart-more own k ne) ∙ map-append h (filter (apart own) (numbers k)) ((k + 1) ∷ []))

pub next-own : {X Y : Type 0} (f : X → Y) (h : ℕ → Y) (own k : ℕ) (xs all : List X) → k + 1 ≡ own → map f xs ≡ map h (filter (apart own) (numbers k)) → all ≡ xs → map f all ≡ map h (filter (apart own) (numbers (k + 1)))
next-own f h own k xs all e before is = ap (map f) is ∙ before ∙ sym (ap (map h) (apart-same own k e))

-- the list of one number more
pub next-list : {X Y : Type 0} (f : X → Y) (h : ℕ → List Y) (k : ℕ) (xs more all : List X) → map f xs ≡ flat_map h (numbers k) → map f more ≡ h (k + 1) → all ≡ xs ++ more → map f all ≡ flat_map h (numbers (k + 1))
next-list {Y = Y} f h k xs more all before e is =
    appended f xs more all (flat_map h (numbers k)) (h (k + 1)) before e is
    ∙ sym (ap (flat_map h) (numbers-next k) ∙ flat_map-append h (numbers k) ((k + 1) ∷ []) ∙ ap (λ (zs : List Y). flat_map h (numbers k) ++ zs) (append-nil (h (k + 1))))

-- the list of one fixed type more
pub next-fixed : {X Y : Type 0} (f : X → Y) (h : ℕ × ℕ → List Y) (fix : Fix) (i l own : ℕ) (xs more all : List X) → i < length fix.acts → l ≡ fix.first + i → own ≡ slice_index fix.acts i
    → map f xs ≡ flat_map h (take i (fixed fix)) → map f more ≡ h (l, own) → all ≡ xs ++ more → map f all ≡ flat_map h (take (i + 1) (fixed fix))
next-fixed {Y = Y} f h fix i l own xs more all lt el eo before e is =
    let p : ℕ × ℕ = (fix.first + i, slice_index fix.acts i) in
    let here : map f more ≡ h p = e ∙ ap (λ (m : ℕ). h (m, own)) el ∙ ap (λ (a : ℕ). h (fix.first + i, a)) eo in
    appended f xs more all (flat_map h (take i (fixed fix))) (h p) before here is
    ∙ sym (ap (flat_map h) (fixed-more fix i lt) ∙ flat_map-append h (take i (fixed fix)) (p ∷ []) ∙ ap (λ (zs : List Y). flat_map h (take i (fixed fix)) ++ zs) (append-nil (h p)))

pub all-fixed : {Y : Type 0} (h : ℕ × ℕ → List Y) (fix : Fix) (i : ℕ) → length fix.acts ≤ i → i ≤ length fix.acts → flat_map h (take i (fixed fix)) ≡ flat_map h (fixed fix)
all-fixed h fix i le ge = let e : i ≡ length fix.acts = omega (arith, le, ge) in ap (flat_map h) (ap (λ (n : ℕ). take n (fixed fix)) e ∙ fixed-all fix)

pub all-numbers : {Y : Type 0} (h : List ℕ → Y) (k n : ℕ) → n ≤ k → k ≤ n → h (numbers k) ≡ h (numbers n)
all-numbers h k n le ge = let e : k ≡ n = omega (arith, le, ge) in ap (λ (m : ℕ). h (numbers m)) e

-- one item more
pub next-item : {X Y : Type 0} (h : X → Y) (xs : List X) (i : ℕ) (d : X) (ys all : List Y) (y : Y) → i < length xs → ys ≡ map h (take i xs) → y ≡ h (get_or xs i d) → all ≡ ys ++ y ∷ [] → all ≡ map h (take (i + 1) xs)
next-item {Y = Y} h xs i d ys all y lt before e is =
    is ∙ ap (λ (zs : List Y). zs ++ y ∷ []) before ∙ ap (λ (z : Y). map h (take i xs) ++ z ∷ []) e ∙ sym (ap (map h) (take_more xs i d lt) ∙ map-append h (take i xs) (get_or xs i d ∷ []))

pub all-items : {X Y : Type 0} (h : X → Y) (xs : List X) (i : ℕ) → length xs ≤ i → i ≤ length xs → map h (take i xs) ≡ map h xs
all-items {X = X} h xs i le ge = let e : i ≡ length xs = omega (arith, le, ge) in ap (map h) (ap (λ (n : ℕ). take n xs) e ∙ take-length xs)
