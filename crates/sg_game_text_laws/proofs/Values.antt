-- Names, numbers and arrays of the canonical text are as TOML writes them.
use Rattle.std.proofs.Common.{◌≡◌, ℕ, suc, ◌≤◌, Bool, true, false, ◌&&◌, ◌==◌, List, [], ◌∷◌, ◌++◌, length, map, ℤ, refl, ap, arith, append_assoc}
use Rattle.std.specs.Prelude.{codes, flat_map, nat_le}
use Rattle.std.specs.Fmt.{signed_decimal}
use Rattle.std.specs.List.{All, list_all, list_any}
use Rattle.std.specs.Str.{IsAscii}
use Rattle.std.proofs.lemmas.Bool.{and_from, and_parts}
use Rattle.std.proofs.lemmas.Bool.Decides.{nat_tests}
use Rattle.std.proofs.lemmas.List.Elements.{All-head, All-tail, All-map}
use Rattle.std.proofs.lemmas.List.Sums.{AllPass-from_list_all}
use Rattle.std.proofs.lemmas.Str.{IsAscii-append}
use Rattle.toml_writer.specs.Text.{basic, encoding_of, escaped, is_control, quotes_after, string_text}
use Rattle.toml.specs.Data.{Data, depth, has_valid_dates, integer, items_depth, items_have_valid_dates, string}
use Rattle.toml.specs.Text.{IsItemsText, IsValueText, breaks_lines}
use Rattle.sg_model.specs.Games.{Payoff}
use Rattle.sg_model.specs.Limits.{IsPay, IsPayoff}
use Rattle.sg_model.specs.Names.{is_name, is_name_byte}
use Rattle.sg_game.specs.Counts.{four}
use Rattle.sg_format.specs.FaultExamples.{items_of, listed}
use Rattle.sg_format.specs.GameText.{array, comma_joined, four_pays, names_array, pays_array, quoted, table_array}
use Rattle.sg_document_laws.specs.Tables.{names_data, pays_data, table_data}
use Rattle.sg_document_laws.proofs.Spelled.{four_pays as pays_of_four}
use Rattle.sg_document_laws.proofs.Texts.{IsPlain, seen}
use Rattle.sg_document_laws.proofs.Written.{bytes_ascii, pay_plain, unescaped}

-- the text is what TOML writes for the value, which is at most n deep
pub record Spells (n : ℕ) (d : Data) (text : List ℕ) : Type 0 where
  pub is : IsValueText false d text
  pub ascii : IsAscii text
  pub deep : depth d ≤ n
  pub dates : has_valid_dates d ≡ true

-- ---- names

none_of : (p : ℕ → Bool) → ((c : ℕ) → is_name_byte c ≡ true → p c ≡ false) → (s : List ℕ) → list_all is_name_byte s ≡ true → list_any p s ≡ false
none_of p each [] h = refl
none_of p each (c ∷ cs) h =
    let (own, rest) = and_parts (is_name_byte c) (list_all is_name_byte cs) h in
    rw (each c own, none_of p each cs rest)

basic_name : (s : List ℕ) → list_all is_name_byte s ≡ true → encoding_of s ≡ basic
unfolding encoding_of
basic_name s h =
    let a = none_of is_control (λ c own. grind (arith, nat_tests)) s h in
    let b = none_of (λ x. x == 92) (λ c own. grind (arith, nat_tests)) s h in
    let d = none_of (λ x. x == 34) (λ c own. grind (arith, nat_tests)) s h in
    let e = none_of (λ x. x == 10) (λ c own. grind (arith, nat_tests)) s h in
    rw (a, b, d, e)

name_escaped : (quotes : ℕ) (s : List ℕ) → list_all is_name_byte s ≡ true → escaped false quotes s ≡ s
unfolding escaped
name_escaped quotes [] h = refl
name_escaped quotes (c ∷ cs) h =
    let (own, rest) = and_parts (is_name_byte c) (list_all is_name_byte cs) h in
    rw (unescaped false quotes c own) (ap (λ t. c ∷ t) (name_escaped (quotes_after false quotes c) cs rest))

name_text : (name : List ℕ) → list_all is_name_byte name ≡ true → quoted name ≡ string_text name
unfolding string_text
name_text name h = rw (basic_name name h, name_escaped 0 name h)

-- a name in quotes
pub name_spells : (name : List ℕ) → is_name name ≡ true → Spells 0 (string name) (quoted name)
unfolding is_name
name_spells name h =
    let bytes = (and_parts (nat_le 1 (length name) && nat_le (length name) 64) (list_all is_name_byte name) h).1 in
    record {
      is = name_text name bytes;
      ascii = IsAscii-append (codes "\"") (name ++ codes "\"") (seen (codes "\"") refl) (IsAscii-append name (codes "\"") (bytes_ascii name (AllPass-from_list_all is_name_byte name bytes)) (seen (codes "\"") refl));
      deep = omega arith;
      dates = refl;
    }

-- ---- numbers

-- a number of 64 bits
pub number_spells : (z : ℤ) → IsPlain (integer z) → Spells 0 (integer z) (signed_decimal z)
number_spells z h = record { is = (refl, h.0); ascii = h.1; deep = omega arith; dates = refl }

-- ---- arrays

-- what stands behind the first item of an array
abbrev behind : List (List ℕ) → List ℕ
behind texts = flat_map (λ text. codes ", " ++ text) texts ++ codes "]"

module _ {X : Type 0} (spell : X → Data) (write : X → List ℕ) (n : ℕ) (P : X → Type 0) (each : (x : X) → P x → Spells n (spell x) (write x)) where
  all_behind : (xs : List X) → All P xs → IsItemsText false false false (items_of (map spell xs)) (behind (map write xs))
  all_behind [] h = refl
  all_behind (x ∷ xs) h =
      (write x, behind (map write xs), append_assoc (codes ", " ++ write x) (flat_map (λ text. codes ", " ++ text) (map write xs)) (codes "]"), (each x (All-head P x xs h)).is, all_behind xs (All-tail P x xs h))

  all_items : (xs : List X) → All P xs → IsItemsText false false true (items_of (map spell xs)) (comma_joined (map write xs) ++ codes "]")
  all_items [] h = refl
  all_items (x ∷ xs) h =
      (write x, behind (map write xs), append_assoc (write x) (flat_map (λ text. codes ", " ++ text) (map write xs)) (codes "]"), (each x (All-head P x xs h)).is, all_behind xs (All-tail P x xs h))

  -- all on one line
  one_line : (xs : List X) → breaks_lines false (items_of (map spell xs)) ≡ false
  one_line [] = refl
  one_line (x ∷ []) = refl
  one_line (x ∷ y ∷ xs) = refl

  behind_ascii : (xs : List X) → All P xs → IsAscii (flat_map (λ text. codes ", " ++ text) (map write xs))
  behind_ascii [] h = seen [] refl
  behind_ascii (x ∷ xs) h =
      IsAscii-append (codes ", " ++ write x) (flat_map (λ text. codes ", " ++ text) (map write xs))
      (IsAscii-append (codes ", ") (write x) (seen (codes ", ") refl) (each x (All-head P x xs h)).ascii) (behind_ascii xs (All-tail P x xs h))

  joined_ascii : (xs : List X) → All P xs → IsAscii (comma_joined (map write xs))
  joined_ascii [] h = seen [] refl
  joined_ascii (x ∷ xs) h = IsAscii-append (write x) (flat_map (λ text. codes ", " ++ text) (map write xs)) (each x (All-head P x xs h)).ascii (behind_ascii xs (All-tail P x xs h))

  all_deep : (xs : List X) → All P xs → items_depth (items_of (map spell xs)) ≤ n
  all_deep [] h = omega arith
  all_deep (x ∷ xs) h = omega (arith, (each x (All-head P x xs h)).deep, all_deep xs (All-tail P x xs h))

  all_dates : (xs : List X) → All P xs → items_have_valid_dates (items_of (map spell xs)) ≡ true
  all_dates [] h = refl
  all_dates (x ∷ xs) h = and_from (has_valid_dates (spell x)) (items_have_valid_dates (items_of (map spell xs))) (each x (All-head P x xs h)).dates (all_dates xs (All-tail P x xs h))

  -- an array of such values
  pub array_spells : (xs : List X) → All P xs → Spells (suc n) (listed (map spell xs)) (array (map write xs))
  array_spells xs h =
      let its : IsItemsText false (breaks_lines false (items_of (map spell xs))) true (items_of (map spell xs)) (comma_joined (map write xs) ++ codes "]") = rw (one_line xs) (all_items xs h) in
      record {
        is = (comma_joined (map write xs) ++ codes "]", refl, its);
        ascii = IsAscii-append (codes "[") (comma_joined (map write xs) ++ codes "]") (seen (codes "[") refl)
            (IsAscii-append (comma_joined (map write xs)) (codes "]") (joined_ascii xs h) (seen (codes "]") refl));
        deep = omega (arith, all_deep xs h);
        dates = all_dates xs h;
      }

-- an array of names
pub names_spell : (names : List (List ℕ)) → All (λ name. is_name name ≡ true) names → Spells 1 (names_data names) (names_array names)
names_spell names h = array_spells string quoted 0 (λ name. is_name name ≡ true) name_spells names h

-- an array of payoffs
pub pays_spell : (pays : List ℤ) → All IsPay pays → Spells 1 (pays_data pays) (pays_array pays)
pays_spell pays h = array_spells integer signed_decimal 0 IsPay (λ z own. number_spells z (pay_plain z own)) pays h

-- an array of arrays of payoffs
pub rows_spell : (rows : List (List ℤ)) → All (λ row. All IsPay row) rows → Spells 2 (table_data rows) (table_array rows)
rows_spell rows h = array_spells pays_data pays_array 1 (λ row. All IsPay row) pays_spell rows h

-- an array of the four payoffs at each target
pub fours_spell : (payoffs : List Payoff) → All IsPayoff payoffs → Spells 2 (table_data (map four payoffs)) (table_array (map four_pays payoffs))
fours_spell payoffs h =
    let P : List ℤ → Type 0 = (λ row. All IsPay row) in
    rows_spell (map four payoffs) (All-map P four payoffs (λ k d lt. pays_of_four _ (h k d lt)))
