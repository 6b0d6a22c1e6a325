-- Texts that are added to a sink one after the other.
use Rattle.std.proofs.Common.{◌≡◌, ℕ, zero, suc, ◌+◌, ◌≤◌, List, [], ◌∷◌, ◌++◌, ◌<◌, length, map, get_or, take, drop, Option, Some, None, Result, Ok, Err, refl, sym, ap, ◌∙◌, subst, arith, append_assoc}
use Rattle.std.proofs.lemmas.List.{append-nil, take_more, take_all}
use Rattle.std.specs.Prelude.{OnOk, OnErr}
use Rattle.sg_shelf.specs.declared.sink.SinkError.{SinkError}
use Rattle.sg_shelf.specs.Taken.{Takes, TakesFront}
use Rattle.std.proofs.Common.{take-append-drop}
use Rattle.sg_cert.specs.Text.{spaced}
use Rattle.sg_shelf.specs.States.{SinkState}
use Rattle.sg_cert_writer.specs.Writing.{Adds, StopsInside, Writes}

Takes-none : (a : Option (List ℕ)) → Takes a a []
Takes-none None = refl
Takes-none (Some xs) = ap Some (sym (append-nil xs))

Takes-both : (a b c : Option (List ℕ)) (x y : List ℕ) → Takes a b x → Takes b c y → Takes a c (x ++ y)
Takes-both None b c x y p q = q ∙ rw p refl
Takes-both (Some xs) b c x y p q = q ∙ rw p (ap Some (append_assoc xs x y))

-- nothing is added
Adds-none : (a : SinkState) (p : List ℕ) → Adds a p a p []
Adds-none a p = record { put = []; taken = Takes-none a.bytes; all = sym (append-nil p); count = omega arith }

pub Adds-trans : (a b c : SinkState) (p q r t u : List ℕ) → Adds a p b q t → Adds b q c r u → Adds a p c r (t ++ u)
Adds-trans a b c p q r t u x y = record {
  put = x.put ++ y.put;
  taken = Takes-both a.bytes b.bytes c.bytes x.put y.put x.taken y.taken;
  all = append_assoc x.put y.put r ∙ ap (λ (xs : List ℕ). x.put ++ xs) y.all ∙ sym (append_assoc x.put q u) ∙ ap (λ (xs : List ℕ). xs ++ u) x.all ∙ append_assoc p t u;
  count = omega (arith, x.count, y.count);
}

take_past : (xs ys : List ℕ) (n : ℕ) → take (length xs + n) (xs ++ ys) ≡ xs ++ take n ys
take_past [] ys n = let k : 0 + n ≡ n = omega arith in rw k refl
take_past (x ∷ xs) ys n = let k : length (x ∷ xs) + n ≡ suc (length xs + n) = omega arith in rw k (ap (λ (zs : List ℕ). x ∷ zs) (take_past xs ys n))

pub Stops-trans : (a b c : SinkState) (p q t u : List ℕ) → Adds a p b q t → StopsInside b q c u → StopsInside a p c (t ++ u)
Stops-trans a b c p q t u x y =
    let all : x.put ++ (q ++ u) ≡ p ++ (t ++ u) = sym (append_assoc x.put q u) ∙ ap (λ (xs : List ℕ). xs ++ u) x.all ∙ append_assoc p t u in
    record {
      size = length x.put + y.size;
      taken = subst (λ (xs : List ℕ). Takes a.bytes c.bytes xs) (sym (take_past x.put (q ++ u) y.size) ∙ ap (take (length x.put + y.size)) all) (Takes-both a.bytes b.bytes c.bytes x.put (take y.size (q ++ u)) x.taken y.taken);
      count = omega (arith, x.count, y.count);
      last_count = y.last_count;
      risen = omega (arith, x.count, y.risen);
    }

-- a front of a text's front
least : ℕ → ℕ → ℕ
least n zero = 0
least zero (suc m) = 0
least (suc n) (suc m) = suc (least n m)

take_front : (xs ys : List ℕ) (n : ℕ) → take (least n (length xs)) (xs ++ ys) ≡ take n xs
unfolding least
take_front [] ys zero = refl
take_front [] ys (suc n) = refl
take_front (x ∷ xs) ys zero = refl
take_front (x ∷ xs) ys (suc n) = ap (λ (zs : List ℕ). x ∷ zs) (take_front xs ys n)

pub Stops-early : (a c : SinkState) (p t u : List ℕ) → StopsInside a p c t → StopsInside a p c (t ++ u)
Stops-early a c p t u x = record {
  size = least x.size (length (p ++ t));
  taken = subst (λ (xs : List ℕ). Takes a.bytes c.bytes xs) (sym (take_front (p ++ t) u x.size) ∙ ap (take (least x.size (length (p ++ t)))) (append_assoc p t u)) x.taken;
  count = x.count;
  last_count = x.last_count;
  risen = x.risen;
}

-- a text after one that was added
pub Writes-trans : (r : Result (Unit {0}) SinkError) (a b c : SinkState) (p q s t u : List ℕ) → Adds a p b q t → Writes r b q c s u → Writes r a p c s (t ++ u)
Writes-trans (Ok v) a b c p q s t u x y = Adds-trans a b c p q s t u x y
Writes-trans (Err e) a b c p q s t u x y = Stops-trans a b c p q t u x y

-- the same for a text that is written otherwise
pub Writes-as : (r : Result (Unit {0}) SinkError) (a c : SinkState) (p s t u : List ℕ) → t ≡ u → Writes r a p c s t → Writes r a p c s u
Writes-as r a c p s t u e w = subst (λ (xs : List ℕ). Writes r a p c s xs) e w

-- ---- loops over lists

-- the text of a list, item by item
pub record Folds {A : Type 0} (F : List A → List ℕ) (k : A → List ℕ) : Type 0 where
  pub nil : F [] ≡ []
  pub cons : (x : A) (xs : List A) → F (x ∷ xs) ≡ k x ++ F xs

folds_push : {A : Type 0} (F : List A → List ℕ) (k : A → List ℕ) → Folds F k → (xs : List A) (x : A) → F (xs ++ x ∷ []) ≡ F xs ++ k x
folds_push F k f [] x = f.cons x [] ∙ ap (λ (ys : List ℕ). k x ++ ys) f.nil ∙ append-nil (k x) ∙ ap (λ (ys : List ℕ). ys ++ k x) (sym f.nil)
folds_push F k f (y ∷ ys) x =
    f.cons y (ys ++ x ∷ []) ∙ ap (λ (zs : List ℕ). k y ++ zs) (folds_push F k f ys x) ∙ sym (append_assoc (k y) (F ys) (k x)) ∙ ap (λ (zs : List ℕ). zs ++ k x) (sym (f.cons y ys))

folds_append : {A : Type 0} (F : List A → List ℕ) (k : A → List ℕ) → Folds F k → (xs ys : List A) → F (xs ++ ys) ≡ F xs ++ F ys
folds_append F k f [] ys = ap (λ (zs : List ℕ). zs ++ F ys) (sym f.nil)
folds_append F k f (x ∷ xs) ys = f.cons x (xs ++ ys) ∙ ap (λ (zs : List ℕ). k x ++ zs) (folds_append F k f xs ys) ∙ sym (append_assoc (k x) (F xs) (F ys)) ∙ ap (λ (zs : List ℕ). zs ++ F ys) (sym (f.cons x xs))

split_here : {A : Type 0} (xs : List A) (i : ℕ) (d : A) → i < length xs → (take i xs ++ get_or xs i d ∷ []) ++ drop (i + 1) xs ≡ xs
split_here {A = A} xs i d lt = ap (λ (ys : List A). ys ++ drop (i + 1) xs) (sym (take_more xs i d lt)) ∙ take-append-drop (i + 1) xs

-- one more item
pub folds_more : {A : Type 0} (F : List A → List ℕ) (k : A → List ℕ) → Folds F k → (xs : List A) (i : ℕ) (x d : A) → i < length xs → x ≡ get_or xs i d
    → (a b c : SinkState) (p q r : List ℕ) → Adds a p b q (F (take i xs)) → Adds b q c r (k x) → Adds a p c r (F (take (i + 1) xs))
folds_more {A = A} F k f xs i x d lt is a b c p q r so_far more =
    let e : F (take i xs) ++ k x ≡ F (take (i + 1) xs) = sym (folds_push F k f (take i xs) x) ∙ ap F (ap (λ (y : A). take i xs ++ y ∷ []) is ∙ sym (take_more xs i d lt)) in
    subst (λ (t : List ℕ). Adds a p c r t) e (Adds-trans a b c p q r (F (take i xs)) (k x) so_far more)

-- an item that stopped
pub folds_stop : {A : Type 0} (F : List A → List ℕ) (k : A → List ℕ) → Folds F k → (xs : List A) (i : ℕ) (x d : A) → i < length xs → x ≡ get_or xs i d
    → (a b c : SinkState) (p q : List ℕ) → Adds a p b q (F (take i xs)) → StopsInside b q c (k x) → StopsInside a p c (F xs)
folds_stop {A = A} F k f xs i x d lt is a b c p q so_far stop =
    let e : (F (take i xs) ++ k x) ++ F (drop (i + 1) xs) ≡ F xs =
    ap (λ (t : List ℕ). t ++ F (drop (i + 1) xs)) (sym (folds_push F k f (take i xs) x)) ∙ sym (folds_append F k f (take i xs ++ x ∷ []) (drop (i + 1) xs))
    ∙ ap F (ap (λ (y : A). (take i xs ++ y ∷ []) ++ drop (i + 1) xs) is ∙ split_here xs i d lt) in
    subst (λ (t : List ℕ). StopsInside a p c t) e (Stops-early a c p (F (take i xs) ++ k x) (F (drop (i + 1) xs)) (Stops-trans a b c p q (F (take i xs)) (k x) so_far stop))

pub folds_end : {A : Type 0} (F : List A → List ℕ) (xs : List A) (i : ℕ) → length xs ≤ i → (a b : SinkState) (p q : List ℕ) → Adds a p b q (F (take i xs)) → Adds a p b q (F xs)
folds_end {A = A} F xs i le a b p q so_far = subst (λ (ys : List A). Adds a p b q (F ys)) (take_all i xs le) so_far

pub folds_start : {A : Type 0} (F : List A → List ℕ) (k : A → List ℕ) → Folds F k → (xs : List A) (a : SinkState) (p : List ℕ) → Adds a p a p (F (take 0 xs))
folds_start F k f xs a p = subst (λ (t : List ℕ). Adds a p a p t) (sym f.nil) (Adds-none a p)

-- bytes, and fields behind spaces
pub folds_bytes : Folds (λ (xs : List ℕ). xs) (λ (x : ℕ). x ∷ [])
folds_bytes = record { nil = refl; cons = λ x xs. refl }

pub folds_spaced : {A : Type 0} (h : A → List ℕ) → Folds (λ (xs : List A). spaced (map h xs)) (λ (x : A). 32 ∷ h x)
folds_spaced h = record { nil = refl; cons = λ x xs. refl }

pub Stops-as : (a c : SinkState) (p t u : List ℕ) → t ≡ u → StopsInside a p c t → StopsInside a p c u
Stops-as a c p t u e w = subst (λ (xs : List ℕ). StopsInside a p c xs) e w

-- ---- a whole text, from an empty block

Takes-as : (a b : Option (List ℕ)) (t u : List ℕ) → t ≡ u → Takes a b t → Takes a b u
Takes-as a b t u e h = subst (λ (xs : List ℕ). Takes a b xs) e h

-- all was put: the text was added, and then the block
whole_put : (a b c : SinkState) (q t : List ℕ) → Adds a [] b q t → Adds b q c [] [] → Takes a.bytes c.bytes t
whole_put a b c q t x y =
    let e : y.put ≡ q = sym (append-nil y.put) ∙ y.all ∙ append-nil q in
    Takes-as a.bytes c.bytes (x.put ++ y.put) t (ap (λ (zs : List ℕ). x.put ++ zs) e ∙ x.all) (Takes-both a.bytes b.bytes c.bytes x.put y.put x.taken y.taken)

last_front : (a b c : SinkState) (q t : List ℕ) → Adds a [] b q t → StopsInside b q c [] → TakesFront a.bytes c.bytes t
last_front a b c q t x y =
    let s = Stops-trans a b c [] q t [] x y in
    (s.size, subst (λ (xs : List ℕ). Takes a.bytes c.bytes (take s.size xs)) (append-nil t) s.taken)

pub whole_end : (r : Result (Unit {0}) SinkError) (a b c : SinkState) (p q s t : List ℕ) → p ≡ [] → Adds a p b q t → Writes r b q c s [] → OnOk r (s ≡ []) → OnOk r (Takes a.bytes c.bytes t)
whole_end (Ok u) a b c p q s t e x y f = whole_put a b c q t (subst (λ (xs : List ℕ). Adds a xs b q t) e x) (subst (λ (xs : List ℕ). Adds b q c xs []) f y)
whole_end (Err w) a b c p q s t e x y f = tt

pub front_end : (r : Result (Unit {0}) SinkError) (a b c : SinkState) (p q s t : List ℕ) → p ≡ [] → Adds a p b q t → Writes r b q c s [] → OnErr r (TakesFront a.bytes c.bytes t)
front_end (Ok u) a b c p q s t e x y = tt
front_end (Err w) a b c p q s t e x y = last_front a b c q t (subst (λ (xs : List ℕ). Adds a xs b q t) e x) y
