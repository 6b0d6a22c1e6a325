-- What the values and names that are read promise.
use Rattle.std.proofs.Common.{◌≡◌, ◌≢◌, ℕ, ◌^◌, Bool, true, false, not, ◌&&◌, int_le, int_lt, List, [], ◌∷◌, ◌++◌, ℤ, pos, Option, Some, None, is_some, unwrap_or, Ok, refl, sym, subst, ◌∙◌, arith, bytes_eq}
use Rattle.std.specs.List.{All, list_any}
use Rattle.std.proofs.lemmas.Bool.{true≢false, not-true, or_parts}
use Rattle.std.proofs.lemmas.List.Elements.{All-nil, All-cons, All-push, All-weaker}
use Rattle.std.proofs.lemmas.List.Quantifiers.{all_pairs_push}
use Rattle.std.proofs.lemmas.Slice.Eq.{bytes_eq-Decides}
use Rattle.std.proofs.lemmas.Int.{ints}
use Rattle.toml.specs.Data.{Data}
use Rattle.sg_model.specs.declared.fault.Place.{Place}
use Rattle.sg_model.specs.declared.fault.Place.TheVariants as place_of
use Rattle.sg_model.specs.Names.{AreNames, is_name}
use Rattle.sg_model.specs.Limits.{IsWithin}
use Rattle.sg_model.proofs.Deciding.{range_by}
use Rattle.sg_format.specs.Documents.{integer_at, text_at, number_at, name_at}
use Rattle.sg_format.specs.Lists.{new_name}
use Rattle.sg_format.specs.GameFiles.{scale_at}
use Rattle.sg_format.proofs.Inversion.{after, after_test}

pub number_at-within : (place : Place) (low high : ℤ) (value : Data) (z : ℤ) → number_at place low high value ≡ Ok z → IsWithin low high z
unfolding number_at
number_at-within place low high value z h =
    after (integer_at place value) h (λ n e rest.
    after_test (int_le low n && int_le n high) _ _ rest (λ test last.
    let same : n ≡ z = cc in
    subst (λ (x : ℤ). IsWithin low high x) same (range_by low high n test)))

pub name_at-spelled : (place : Place) (value : Data) (name : List ℕ) → name_at place value ≡ Ok name → is_name name ≡ true
unfolding name_at
name_at-spelled place value name h =
    after (text_at place value) h (λ text e rest.
    after_test (is_name text) _ _ rest (λ test last.
    let same : text ≡ name = cc in
    subst (λ (x : List ℕ). is_name x ≡ true) same test))

-- no item passes where the test of any fails
pub none_passes : {X : Type 0} (p : X → Bool) (xs : List X) → list_any p xs ≡ false → All (λ x. p x ≡ false) xs
none_passes p [] e = All-nil (λ x. p x ≡ false)
none_passes p (x ∷ xs) e =
    let parts = or_parts (p x) (list_any p xs) e in
    All-cons (λ x. p x ≡ false) x xs parts.0 (none_passes p xs parts.1)

-- a name in the right spelling that isn't among those before it
pub record IsNewName (before : List (List ℕ)) (name : List ℕ) : Type 0 where
  pub spelled : is_name name ≡ true
  pub new : All (λ x. x ≢ name) before

pub new_name-new : (place : Place) (before : List (List ℕ)) (value : Data) (name : List ℕ) → new_name place before value ≡ Ok name → IsNewName before name
unfolding new_name
new_name-new place before value name h =
    after (name_at place value) h (λ text e rest.
    after_test (not (list_any (bytes_eq text) before)) _ _ rest (λ test last.
    let same : text ≡ name = cc in
    let other = none_passes (bytes_eq text) before (not-true (list_any (bytes_eq text) before) test) in
    let is : IsNewName before text = record {
      spelled = name_at-spelled place value text e;
      new = All-weaker (λ x. bytes_eq text x ≡ false) (λ x. x ≢ text) (λ x differs q. true≢false (sym ((bytes_eq-Decides text x).1 (sym q)) ∙ differs)) before other;
    } in
    subst (IsNewName before) same is))

pub AreNames-nil : AreNames []
AreNames-nil = record { spelled = All-nil (λ name. is_name name ≡ true); distinct = λ i j d low high. absurd (omega (arith, high)) }

pub AreNames-push : (before : List (List ℕ)) (name : List ℕ) → AreNames before → IsNewName before name → AreNames (before ++ name ∷ [])
AreNames-push before name h is = record {
  spelled = All-push (λ x. is_name x ≡ true) before name h.spelled is.spelled;
  distinct = all_pairs_push (λ x y. x ≢ y) before name h.distinct is.new;
}

-- the scale of a game: 0, or from 1 where one is declared
pub record IsScale (declared : Bool) (z : ℤ) : Type 0 where
  pub is : int_lt (pos 0) z ≡ declared
  pub range : IsWithin (pos 0) (pos (2 ^ 32)) z

pub scale_at-scale : (declared : Option Data) (scale : Option ℤ) → scale_at declared ≡ Ok scale → IsScale (is_some declared) (unwrap_or scale (pos 0))
unfolding scale_at
scale_at-scale None scale h =
    let same : None ≡ scale = cc in
    let is : IsScale false (pos 0) = record { is = refl; range = record { at_least = omega (arith, ints); at_most = omega (arith, ints) } } in
    subst (λ (o : Option ℤ). IsScale false (unwrap_or o (pos 0))) same is
scale_at-scale (Some value) scale h =
    after (number_at place_of.Document (pos 1) (pos (2 ^ 32)) value) h (λ z e last.
    let same : Some z ≡ scale = cc in
    let within = number_at-within place_of.Document (pos 1) (pos (2 ^ 32)) value z e in
    let is : IsScale true z = record {
      is = sym (omega (arith, ints, within.at_least));
      range = record { at_least = omega (arith, ints, within.at_least); at_most = within.at_most };
    } in
    subst (λ (o : Option ℤ). IsScale true (unwrap_or o (pos 0))) same is)
