-- Lists whose items are other than each other and other than those before.
use Rattle.std.proofs.Common.{◌≡◌, ◌≢◌, ◌∙◌, ℕ, suc, ◌<◌, Bool, true, false, cond, ◌||◌, List, [], ◌∷◌, ◌++◌, length, get_or, Decides, refl, ap, sym, arith}
use Rattle.std.specs.List.{All, AllPairs, list_any}
use Rattle.std.proofs.lemmas.Bool.{false_from_ne_true}
use Rattle.std.proofs.lemmas.List.Elements.{All-nil, All-cons, All-tail}
use Rattle.std.proofs.lemmas.List.Kept.{AllPairs-cons}

or_false : (b : Bool) → (b || false) ≡ cond b true false
or_false true = refl
or_false false = refl

or_cond : (a b c : Bool) → (a || cond b true c) ≡ cond b true (a || c)
or_cond true true c = refl
or_cond true false c = refl
or_cond false true c = refl
or_cond false false c = refl

pub AllPairs-nil : {X : Type 0} (R : X → X → Type 0) → AllPairs R []
AllPairs-nil R = λ i j d lt within. absurd (omega arith)

pub AllPairs-head : {X : Type 0} (R : X → X → Type 0) (x : X) (xs : List X) → AllPairs R (x ∷ xs) → All (R x) xs
AllPairs-head R x xs h = λ i d lt. h 0 (suc i) d (omega arith) (omega arith)

pub AllPairs-tail : {X : Type 0} (R : X → X → Type 0) (x : X) (xs : List X) → AllPairs R (x ∷ xs) → AllPairs R xs
AllPairs-tail R x xs h = λ i j d lt within. h (suc i) (suc j) d (omega arith) (omega arith)

module _ {X : Type 0} (same : X → X → Bool) where
  -- whether it stands in the list
  abbrev pub stands : List X → X → Bool
  stands before q = list_any (λ known. same known q) before

  pub stands_more : (q : X) (before : List X) (x : X) → list_any (λ known. same known q) (before ++ x ∷ []) ≡ cond (same x q) true (list_any (λ known. same known q) before)
  stands_more q [] x = or_false (same x q)
  stands_more q (y ∷ ys) x = ap (λ (b : Bool). same y q || b) (stands_more q ys x) ∙ or_cond (same y q) (same x q) (list_any (λ known. same known q) ys)

-- items that stand nowhere before, and each once
pub record AreFresh {X : Type 0} (same : X → X → Bool) (before xs : List X) : Type 0 where
  pub new : All (λ x. stands same before x ≡ false) xs
  pub distinct : AllPairs (λ x y. x ≢ y) xs

cond_false : (b c : Bool) → cond b true c ≡ false → (b ≡ false) × (c ≡ false)
cond_false true c h = absurd (cc)
cond_false false c h = (refl, h)

module _ {X : Type 0} (same : X → X → Bool) (decides : (a b : X) → Decides (same a b) (a ≡ b)) where
  pub fresh_tail : (before : List X) (x : X) (xs : List X) → AreFresh same before (x ∷ xs) → AreFresh same (before ++ x ∷ []) xs
  fresh_tail before x xs h =
      let other = AllPairs-head (λ (x y : X). x ≢ y) x xs h.distinct in
      record {
        new = λ i d lt.
            let q : X = get_or xs i d in
            let differs : same x q ≡ false = false_from_ne_true (same x q) (λ t. other i d lt ((decides x q).0 t)) in
            let old : stands same before q ≡ false = All-tail (λ (x : X). stands same before x ≡ false) x xs h.new i d lt in
            stands_more same q before x ∙ rw (differs, old) refl;
        distinct = AllPairs-tail (λ (x y : X). x ≢ y) x xs h.distinct;
      }

  pub fresh_cons : (before : List X) (x : X) (xs : List X) → stands same before x ≡ false → AreFresh same (before ++ x ∷ []) xs → AreFresh same before (x ∷ xs)
  fresh_cons before x xs here h =
      let apart : (i : ℕ) (d : X) → i < length xs → (same x (get_or xs i d) ≡ false) × (stands same before (get_or xs i d) ≡ false) =
      (λ i d lt. cond_false (same x (get_or xs i d)) (stands same before (get_or xs i d)) (sym (stands_more same (get_or xs i d) before x) ∙ h.new i d lt)) in
      record {
        new = All-cons (λ (x : X). stands same before x ≡ false) x xs here (λ i d lt. (apart i d lt).1);
        distinct = AllPairs-cons (λ (x y : X). x ≢ y) x xs
            (λ i d lt e. let t : same x (get_or xs i d) ≡ true = (decides x (get_or xs i d)).1 e in let f = (apart i d lt).0 in absurd (let q : true ≡ false = sym t ∙ f in cc)) h.distinct;
      }

  pub fresh_nil : (before : List X) → AreFresh same before []
  fresh_nil before = record { new = All-nil (λ (x : X). stands same before x ≡ false); distinct = AllPairs-nil (λ (x y : X). x ≢ y) }

  -- with nothing before
  pub fresh_first : (xs : List X) → AllPairs (λ (x y : X). x ≢ y) xs → AreFresh same [] xs
  fresh_first xs h = record { new = λ i d lt. refl; distinct = h }
