-- Names with their numbers, as they are read one after the other.
use Rattle.std.proofs.Common.{◌≡◌, ◌∙◌, ℕ, suc, ◌+◌, Bool, true, false, cond, ◌||◌, List, [], ◌∷◌, ◌++◌, length, Option, Some, None, is_some, String, BTreeMap, Global, refl, sym, ap, inl, inr, arith}
use Rattle.std.specs.Prelude.{bytes_eq}
use Rattle.std.specs.List.{list_any, position_from}
use Rattle.std.specs.BTreeMap.{get_by_text}
use Rattle.std.specs.Map.{update}
use Rattle.std.proofs.lemmas.Bool.{cases_Bool, false≢true}
use Rattle.std.proofs.lemmas.Slice.Eq.{bytes_eq-Decides}
use Rattle.sg_format.specs.Lists.{number_of}
use Rattle.sg_file.specs.Numbers.{Numbers}

-- texts that a test tells apart are told apart the other way round too
bytes_eq-sym : (a b : List ℕ) → bytes_eq a b ≡ false → bytes_eq b a ≡ false
bytes_eq-sym a b other =
    elim (cases_Bool (bytes_eq b a)) [
      | inl same ↦ absurd (false≢true (sym other ∙ (bytes_eq-Decides a b).1 (sym ((bytes_eq-Decides b a).0 same))))
      | inr e ↦ e
    ]

module _ {X : Type 0} (test : X → Bool) (y : X) where
  absent-at : (i : ℕ) (xs : List X) (b : Bool) → (position_from test (i + 1) xs ≡ None → position_from test (i + 1) (xs ++ y ∷ []) ≡ cond (test y) (Some (i + 1 + length xs)) None)
      → cond b (Some i) (position_from test (i + 1) xs) ≡ None → cond b (Some i) (position_from test (i + 1) (xs ++ y ∷ [])) ≡ cond (test y) (Some (i + suc (length xs))) None
  absent-at i xs true more h = absurd cc
  absent-at i xs false more h =
      let count : i + suc (length xs) ≡ i + 1 + length xs = omega arith in
      rw count (more h)

  -- one more item, where none before it passes
  pub position_from-absent : (i : ℕ) (xs : List X) → position_from test i xs ≡ None → position_from test i (xs ++ y ∷ []) ≡ cond (test y) (Some (i + length xs)) None
  position_from-absent i [] e = let count : i + 0 ≡ i = omega arith in rw count refl
  position_from-absent i (x ∷ xs) e = absent-at i xs (test x) (position_from-absent (i + 1) xs) e

  -- one more item, which doesn't pass
  pub position_from-other : (i : ℕ) (xs : List X) → test y ≡ false → position_from test i (xs ++ y ∷ []) ≡ position_from test i xs
  position_from-other i [] e = rw e refl
  position_from-other i (x ∷ xs) e = ap (λ r. cond (test x) (Some i) r) (position_from-other (i + 1) xs e)

numbered-at : (b any : Bool) (i : ℕ) (o : Option ℕ) → any ≡ is_some o → (b || any) ≡ is_some (cond b (Some i) o)
numbered-at true any i o e = refl
numbered-at false any i o e = e

-- some item passes where one has a number
pub list_any-numbered : {X : Type 0} (test : X → Bool) (i : ℕ) (xs : List X) → list_any test xs ≡ is_some (position_from test i xs)
list_any-numbered test i [] = refl
list_any-numbered test i (x ∷ xs) = numbered-at (test x) (list_any test xs) i (position_from test (i + 1) xs) (list_any-numbered test (i + 1) xs)

-- one more name, which was in no place before
pub number_of-push : (names : List (List ℕ)) (name : List ℕ) → number_of name names ≡ None
    → (q : List ℕ) → cond (bytes_eq name q) (Some (length names + 1)) (number_of q names) ≡ number_of q (names ++ name ∷ [])
number_of-push names name absent q =
    elim (cases_Bool (bytes_eq name q)) [
      | inl same ↦
          let e : q ≡ name = sym ((bytes_eq-Decides name q).0 same) in
          let count : length names + 1 ≡ 1 + length names = omega arith in
          let own : bytes_eq name name ≡ true = (bytes_eq-Decides name name).1 refl in
          rw (same, e, position_from-absent (bytes_eq name) name 1 names absent, own, count) refl
      | inr other ↦ rw (other, position_from-other (bytes_eq q) name 1 names (bytes_eq-sym name q other)) refl
    ]

-- the map after an insert has one name more
pub Numbers-insert : (old new : BTreeMap (String Global) ℕ) (names : List (List ℕ)) (name : List ℕ) (number : ℕ)
    → Numbers old names → get_by_text old name ≡ None → number ≡ length names + 1
    → ((q : List ℕ) → get_by_text new q ≡ update bytes_eq (get_by_text old) name (Some number) q) → Numbers new (names ++ name ∷ [])
Numbers-insert old new names name number known absent count updates q =
    updates q ∙ rw (known q, count) (number_of-push names name (sym (known name) ∙ absent) q)
