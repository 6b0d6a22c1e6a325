-- Arrays and tables that are written item by item.
use Rattle.std.proofs.Common.{◌≡◌, ◌∙◌, ℕ, ◌+◌, ◌<◌, ◌≤◌, List, [], ◌∷◌, ◌++◌, length, map, take, get_or, codes, ap, sym, refl, arith, append_assoc, add-one}
use Rattle.std.specs.List.{flat_map}
use Rattle.std.proofs.lemmas.List.{take_more, map_more, append-nil, length-map, length-take-le, take_all}
use Rattle.std.proofs.lemmas.Grind.{flat_map-append}
use Rattle.sg_model.specs.Sums.{nth}
use Rattle.sg_format.specs.GameText.{comma_joined, array}
use Rattle.sg_game_text.specs.Writing.{comma_before}

-- two pieces, written one after the other
pub two : (t0 t1 t2 a b : List ℕ) → t1 ≡ t0 ++ a → t2 ≡ t1 ++ b → t2 ≡ t0 ++ (a ++ b)
two t0 t1 t2 a b p q = q ∙ (ap (λ (k : List ℕ). k ++ b) p ∙ append_assoc t0 a b)

-- three pieces
pub three : (t0 t1 t2 t3 a b d : List ℕ) → t1 ≡ t0 ++ a → t2 ≡ t1 ++ b → t3 ≡ t2 ++ d → t3 ≡ t0 ++ (a ++ (b ++ d))
three t0 t1 t2 t3 a b d p q r = two t0 t1 t3 a (b ++ d) p (two t1 t2 t3 b d q r)

-- four pieces
pub four : (t0 t1 t2 t3 t4 a b d e : List ℕ) → t1 ≡ t0 ++ a → t2 ≡ t1 ++ b → t3 ≡ t2 ++ d → t4 ≡ t3 ++ e → t4 ≡ t0 ++ (a ++ (b ++ (d ++ e)))
four t0 t1 t2 t3 t4 a b d e p q r s = two t0 t1 t4 a (b ++ (d ++ e)) p (three t1 t2 t3 t4 b d e q r s)

-- five pieces
pub five : (t0 t1 t2 t3 t4 t5 a b d e f : List ℕ) → t1 ≡ t0 ++ a → t2 ≡ t1 ++ b → t3 ≡ t2 ++ d → t4 ≡ t3 ++ e → t5 ≡ t4 ++ f → t5 ≡ t0 ++ (a ++ (b ++ (d ++ (e ++ f))))
five t0 t1 t2 t3 t4 t5 a b d e f p q r s u = two t0 t1 t5 a (b ++ (d ++ (e ++ f))) p (four t1 t2 t3 t4 t5 b d e f q r s u)

-- one more item
joined_push : (xs : List (List ℕ)) (x : List ℕ) → comma_joined (xs ++ x ∷ []) ≡ comma_joined xs ++ (comma_before (length xs) ++ x)
joined_push [] x = append-nil x
joined_push (y ∷ ys) x =
    let f = λ (item : List ℕ). codes ", " ++ item in
    let e : flat_map f (ys ++ x ∷ []) ≡ flat_map f ys ++ (codes ", " ++ x) = flat_map-append f ys (x ∷ []) ∙ ap (λ (k : List ℕ). flat_map f ys ++ k) (append-nil (codes ", " ++ x)) in
    ap (λ (k : List ℕ). y ++ k) e ∙ sym (append_assoc y (flat_map f ys) (codes ", " ++ x))

joined-more : {X : Type 0} (f : X → List ℕ) (xs : List X) (i : ℕ) (d : X) → i < length xs
    → comma_joined (map f (take (i + 1) xs)) ≡ comma_joined (map f (take i xs)) ++ (comma_before i ++ f (get_or xs i d))
joined-more f xs i d lt =
    let count : length (map f (take i xs)) ≡ i = length-map (take i xs) f ∙ length-take-le i xs (omega arith) in
    let push = joined_push (map f (take i xs)) (f (get_or xs i d)) in
    ap comma_joined (map_more f xs i d lt) ∙ (push ∙ ap (λ (n : ℕ). comma_joined (map f (take i xs)) ++ (comma_before n ++ f (get_or xs i d))) count)

pub nth-next : {X : Type 0} (xs : List X) (i : ℕ) (d : X) → nth xs (i + 1) d ≡ get_or xs i d
nth-next xs i d = rw add-one refl

-- the next item of an array is written: its comma, and then its text
pub item_written : {X : Type 0} (f : X → List ℕ) (xs : List X) (i j : ℕ) (d : X) (t0 t t1 t2 y : List ℕ) → i < length xs → j ≡ i
    → t ≡ t0 ++ comma_joined (map f (take i xs)) → t1 ≡ t ++ comma_before j → t2 ≡ t1 ++ y → y ≡ f (get_or xs i d)
    → t2 ≡ t0 ++ comma_joined (map f (take (i + 1) xs))
item_written f xs i j d t0 t t1 t2 y lt same p q r is =
    let q' : t1 ≡ t ++ comma_before i = q ∙ ap (λ (k : ℕ). t ++ comma_before k) same in
    let r' : t2 ≡ t1 ++ f (get_or xs i d) = r ∙ ap (λ (k : List ℕ). t1 ++ k) is in
    three t0 t t1 t2 (comma_joined (map f (take i xs))) (comma_before i) (f (get_or xs i d)) p q' r'
    ∙ ap (λ (k : List ℕ). t0 ++ k) (sym (joined-more f xs i d lt))

-- the same where items are counted from 1
pub nth_written : {X : Type 0} (f : X → List ℕ) (xs : List X) (i j : ℕ) (d : X) (t0 t t1 t2 y : List ℕ) → i < length xs → j ≡ i
    → t ≡ t0 ++ comma_joined (map f (take i xs)) → t1 ≡ t ++ comma_before j → t2 ≡ t1 ++ y → y ≡ f (nth xs (i + 1) d)
    → t2 ≡ t0 ++ comma_joined (map f (take (i + 1) xs))
nth_written f xs i j d t0 t t1 t2 y lt same p q r is = item_written f xs i j d t0 t t1 t2 y lt same p q r (is ∙ ap f (nth-next xs i d))

-- all items of an array are written, between brackets
pub array_written : {X : Type 0} (f : X → List ℕ) (xs : List X) (i : ℕ) (t0 t1 t2 t3 : List ℕ) → length xs ≤ i
    → t1 ≡ t0 ++ 91 ∷ [] → t2 ≡ t1 ++ comma_joined (map f (take i xs)) → t3 ≡ t2 ++ 93 ∷ []
    → t3 ≡ t0 ++ array (map f xs)
array_written f xs i t0 t1 t2 t3 all p q r =
    three t0 t1 t2 t3 (91 ∷ []) (comma_joined (map f (take i xs))) (93 ∷ []) p q r
    ∙ ap (λ (k : List _). t0 ++ array (map f k)) (take_all i xs all)

-- a mapped list is mapped again
pub map-map : {X Y Z : Type 0} (f : Y → Z) (h : X → Y) (xs : List X) → map f (map h xs) ≡ map (λ x. f (h x)) xs
map-map f h [] = refl
map-map f h (x ∷ xs) = ap (λ (k : List _). f (h x) ∷ k) (map-map f h xs)

-- the next table is written
pub table_written : {X : Type 0} (f : X → List ℕ) (xs : List X) (i : ℕ) (d : X) (t0 t t1 : List ℕ) → i < length xs
    → t ≡ t0 ++ flat_map f (take i xs) → t1 ≡ t ++ f (nth xs (i + 1) d) → t1 ≡ t0 ++ flat_map f (take (i + 1) xs)
table_written f xs i d t0 t t1 lt p q =
    let one : flat_map f (get_or xs i d ∷ []) ≡ f (nth xs (i + 1) d) = append-nil (f (get_or xs i d)) ∙ ap f (sym (nth-next xs i d)) in
    let more : flat_map f (take (i + 1) xs) ≡ flat_map f (take i xs) ++ f (nth xs (i + 1) d) =
    ap (flat_map f) (take_more xs i d lt) ∙ (flat_map-append f (take i xs) (get_or xs i d ∷ []) ∙ ap (λ (k : List ℕ). flat_map f (take i xs) ++ k) one) in
    two t0 t t1 (flat_map f (take i xs)) (f (nth xs (i + 1) d)) p q ∙ ap (λ (k : List ℕ). t0 ++ k) (sym more)
