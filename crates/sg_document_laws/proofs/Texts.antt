-- Data with no floats, truth values or dates have a text that TOML reads, in ASCII.
use Rattle.std.proofs.Common.{◌≡◌, ℕ, ◌<◌, ◌≤◌, Bool, true, false, cond, List, [], ◌∷◌, ◌++◌, Some, Ok, refl, arith}
use Rattle.std.specs.Prelude.{codes, FitsSigned, nat_lt}
use Rattle.std.specs.Int.{w64}
use Rattle.std.specs.Fmt.{signed_decimal}
use Rattle.std.specs.Str.{IsAscii}
use Rattle.std.proofs.lemmas.Str.{IsAscii-append}
use Rattle.std.proofs.lemmas.Str.Ascii.{IsAscii-from_all}
use Rattle.std.proofs.lemmas.Bool.{and_from}
use Rattle.std.proofs.lemmas.Bool.Decides.{nat_tests}
use Rattle.std.proofs.lemmas.List.Elements.{All-weaker}
use Rattle.std.proofs.lemmas.List.Sums.{AllPass-from_list_all}
use Rattle.std.proofs.lemmas.Str.{IsUtf8-from_ascii, is_utf8-from_IsUtf8}
use Rattle.std.specs.Str.{is_utf8}
use Rattle.std.specs.List.{list_all}
use Rattle.toml.specs.Parse.{parse_document}
use Rattle.toml.proofs.ReadBack.{parse_document-printed}
use Rattle.sg_format.specs.Documents.{document_of}
use Rattle.toml_parser.specs.Strings.{Key}
use Rattle.toml_writer.specs.Text.{dotted_text, key_text, path_text, string_text}
use Rattle.toml.specs.Data.{Data, Items, Members, array, boolean, datetime, float, has_valid_dates, integer, is_before, item, items_have_valid_dates, member, members_are_sorted, members_depth, members_have_valid_dates, no_items, no_members, string, table}
use Rattle.toml.specs.Tables.{Definition, Expression, array_table, key_value, std_table}
use Rattle.toml.specs.Text.{IsItemsText, IsLineText, IsLinesText, IsMembersText, IsValueText, after_item, are_tables, array_end, before_item, before_member, breaks_lines, elements, expressions, gap, header_of, is_section, needs_header, pairs, section, sections, table_end}

-- nothing but texts and 64-bit numbers, whose texts are ASCII, in arrays and in tables whose keys ascend
abbrev mutual
  pub IsPlain : Data → Type 0
  IsPlain (string s) = IsAscii (string_text s)
  IsPlain (integer z) = FitsSigned w64 z × IsAscii (signed_decimal z)
  IsPlain (float x) = ⊥
  IsPlain (boolean b) = ⊥
  IsPlain (datetime dt) = ⊥
  IsPlain (array ds) = ArePlain ds
  IsPlain (table ms) = HasPlain ms

  pub ArePlain : Items → Type 0
  ArePlain no_items = Unit {0}
  ArePlain (item d ds) = IsPlain d × ArePlain ds

  pub HasPlain : Members → Type 0
  HasPlain no_members = Unit {0}
  HasPlain (member k d ms) = IsAscii (key_text k) × IsPlain d × (is_before k ms ≡ true) × HasPlain ms

-- a text in ASCII of which this holds
record HasText (P : List ℕ → Type 0) : Type 0 where
  text : List ℕ
  is : P text
  ascii : IsAscii text

-- a text that is seen to be ASCII
pub seen : (bs : List ℕ) → list_all (λ b. nat_lt b 128) bs ≡ true → IsAscii bs
seen bs h = IsAscii-from_all bs (All-weaker (λ b. nat_lt b 128 ≡ true) (λ b. b < 128) (λ b e. grind (arith, nat_tests)) bs (AllPass-from_list_all (λ b. nat_lt b 128) bs h))

before_item_ascii : (lines first : Bool) → IsAscii (before_item lines first)
before_item_ascii true first = seen (codes "\n    ") refl
before_item_ascii false true = seen [] refl
before_item_ascii false false = seen (codes ", ") refl

after_item_ascii : (lines : Bool) → IsAscii (after_item lines)
after_item_ascii true = seen (codes ",") refl
after_item_ascii false = seen [] refl

array_end_ascii : (lines : Bool) → IsAscii (array_end lines)
array_end_ascii true = seen (codes "\n]") refl
array_end_ascii false = seen (codes "]") refl

before_member_ascii : (first : Bool) → IsAscii (before_member first)
before_member_ascii true = seen (codes " ") refl
before_member_ascii false = seen (codes ", ") refl

table_end_ascii : (first : Bool) → IsAscii (table_end first)
table_end_ascii true = seen (codes "}") refl
table_end_ascii false = seen (codes " }") refl

mutual
  value_text : (d : Data) → IsPlain d → HasText (IsValueText false d)
  value_text (string s) h = record { text = string_text s; is = refl; ascii = h }
  value_text (integer z) h = record { text = signed_decimal z; is = (refl, h.0); ascii = h.1 }
  value_text (float x) h = absurd h
  value_text (boolean b) h = absurd h
  value_text (datetime dt) h = absurd h
  value_text (array ds) h =
      let r = items_text (breaks_lines false ds) true ds h in
      record { text = codes "[" ++ r.text; is = (r.text, refl, r.is); ascii = IsAscii-append (codes "[") r.text (seen (codes "[") refl) r.ascii }
  value_text (table ms) h =
      let r = members_text true ms h in
      record { text = codes "{" ++ r.text; is = (r.text, refl, r.is); ascii = IsAscii-append (codes "{") r.text (seen (codes "{") refl) r.ascii }

  items_text : (lines first : Bool) (ds : Items) → ArePlain ds → HasText (IsItemsText false lines first ds)
  items_text lines first no_items h = record { text = array_end lines; is = refl; ascii = array_end_ascii lines }
  items_text lines first (item d ds) h =
      let a = value_text d h.0 in
      let r = items_text lines false ds h.1 in
      record {
        text = before_item lines first ++ (a.text ++ (after_item lines ++ r.text));
        is = (a.text, r.text, refl, a.is, r.is);
        ascii = IsAscii-append (before_item lines first) (a.text ++ (after_item lines ++ r.text)) (before_item_ascii lines first)
            (IsAscii-append a.text (after_item lines ++ r.text) a.ascii (IsAscii-append (after_item lines) r.text (after_item_ascii lines) r.ascii));
      }

  members_text : (first : Bool) (ms : Members) → HasPlain ms → HasText (IsMembersText false first ms)
  members_text first no_members h = record { text = table_end first; is = refl; ascii = table_end_ascii first }
  members_text first (member k d ms) h =
      let a = value_text d h.1 in
      let r = members_text false ms h.3 in
      record {
        text = before_member first ++ (key_text k ++ (codes " = " ++ (a.text ++ r.text)));
        is = (a.text, r.text, refl, a.is, r.is, h.2);
        ascii = IsAscii-append (before_member first) (key_text k ++ (codes " = " ++ (a.text ++ r.text))) (before_member_ascii first)
            (IsAscii-append (key_text k) (codes " = " ++ (a.text ++ r.text)) h.0
            (IsAscii-append (codes " = ") (a.text ++ r.text) (seen (codes " = ") refl) (IsAscii-append a.text r.text a.ascii r.ascii)));
      }

-- lines

-- each part of a path is written in ASCII
abbrev ArePathKeys : List (List ℕ) → Type 0
ArePathKeys [] = Unit {0}
ArePathKeys (k ∷ path) = IsAscii (key_text k) × ArePathKeys path

path_push : (path : List (List ℕ)) (k : List ℕ) → ArePathKeys path → IsAscii (key_text k) → ArePathKeys (path ++ k ∷ [])
path_push [] k h own = (own, tt)
path_push (first ∷ path) k h own = (h.0, path_push path k h.1 own)

path_ascii : (path : List (List ℕ)) → ArePathKeys path → IsAscii (path_text path)
path_ascii [] h = seen [] refl
path_ascii (k ∷ path) h = IsAscii-append (key_text k) (46 ∷ path_text path) h.0 (IsAscii-append (46 ∷ []) (path_text path) (seen (46 ∷ []) refl) (path_ascii path h.1))

-- what stands on a line is plain
abbrev IsPlainDefinition : Definition → Type 0
IsPlainDefinition (key_value d) = IsPlain d
IsPlainDefinition std_table = Unit {0}
IsPlainDefinition array_table = Unit {0}

abbrev ArePlainLines : List Expression → Type 0
ArePlainLines [] = Unit {0}
ArePlainLines (e ∷ es) = ArePathKeys e.0.0 × IsAscii (key_text e.0.1) × IsPlainDefinition e.1 × ArePlainLines es

lines_append : (es fs : List Expression) → ArePlainLines es → ArePlainLines fs → ArePlainLines (es ++ fs)
lines_append [] fs h i = i
lines_append (e ∷ es) fs h i = (h.0, h.1, h.2, lines_append es fs h.3 i)

more_or : (b : Bool) (e : Expression) (es : List Expression) → ArePlainLines (e ∷ es) → ArePlainLines (cond b es (e ∷ es))
more_or true e es h = h.3
more_or false e es h = h

pairs_plain : (ms : Members) → HasPlain ms → ArePlainLines (pairs ms)
pairs_plain no_members h = tt
pairs_plain (member k d ms) h = more_or (is_section d) (([], k), key_value d) (pairs ms) (tt, h.0, h.1, pairs_plain ms h.3)

header_plain : (key : Key) (ms : Members) → ArePathKeys key.0 → IsAscii (key_text key.1) → ArePlainLines (header_of key ms)
header_plain key ms path own = by_need (needs_header ms)
  where
    by_need : (b : Bool) → ArePlainLines (cond b ((key, std_table) ∷ []) [])
    by_need true = (path, own, tt, tt)
    by_need false = tt

none_or : (b : Bool) (es : List Expression) → ArePlainLines es → ArePlainLines (cond b es [])
none_or true es h = h
none_or false es h = tt

mutual
  sections_plain : (path : List (List ℕ)) (ms : Members) → ArePathKeys path → HasPlain ms → ArePlainLines (sections path ms)
  sections_plain path no_members own h = tt
  sections_plain path (member k d ms) own h = lines_append (section (path, k) d) (sections path ms) (section_plain path k d own h.0 h.1) (sections_plain path ms own h.3)

  section_plain : (path : List (List ℕ)) (k : List ℕ) (d : Data) → ArePathKeys path → IsAscii (key_text k) → IsPlain d → ArePlainLines (section (path, k) d)
  section_plain path k (table ms) own key h =
      lines_append (header_of (path, k) ms) (pairs ms ++ sections (path ++ k ∷ []) ms) (header_plain (path, k) ms own key)
      (lines_append (pairs ms) (sections (path ++ k ∷ []) ms) (pairs_plain ms h) (sections_plain (path ++ k ∷ []) ms (path_push path k own key) h))
  section_plain path k (array ds) own key h = none_or (are_tables ds) (elements (path, k) ds) (elements_plain path k ds own key h)
  section_plain path k (string s) own key h = tt
  section_plain path k (integer z) own key h = tt
  section_plain path k (float x) own key h = tt
  section_plain path k (boolean b) own key h = tt
  section_plain path k (datetime dt) own key h = tt

  elements_plain : (path : List (List ℕ)) (k : List ℕ) (ds : Items) → ArePathKeys path → IsAscii (key_text k) → ArePlain ds → ArePlainLines (elements (path, k) ds)
  elements_plain path k no_items own key h = tt
  elements_plain path k (item d ds) own key h = element_plain path k d ds own key h.0 (elements_plain path k ds own key h.1)

  element_plain : (path : List (List ℕ)) (k : List ℕ) (d : Data) (ds : Items) → ArePathKeys path → IsAscii (key_text k) → IsPlain d → ArePlainLines (elements (path, k) ds) → ArePlainLines (elements (path, k) (item d ds))
  element_plain path k (table ms) ds own key h rest =
      lines_append (((path, k), array_table) ∷ (pairs ms ++ sections (path ++ k ∷ []) ms)) (elements (path, k) ds)
      (own, key, tt, lines_append (pairs ms) (sections (path ++ k ∷ []) ms) (pairs_plain ms h) (sections_plain (path ++ k ∷ []) ms (path_push path k own key) h)) rest
  element_plain path k (array es) ds own key h rest = rest
  element_plain path k (string s) ds own key h rest = rest
  element_plain path k (integer z) ds own key h rest = rest
  element_plain path k (float x) ds own key h rest = rest
  element_plain path k (boolean b) ds own key h rest = rest
  element_plain path k (datetime dt) ds own key h rest = rest

gap_ascii : (started : Bool) → IsAscii (gap started)
gap_ascii true = seen (10 ∷ []) refl
gap_ascii false = seen [] refl

dotted_ascii : (key : Key) → ArePathKeys key.0 → IsAscii (key_text key.1) → IsAscii (dotted_text key)
dotted_ascii key path own = IsAscii-append (path_text key.0) (key_text key.1) (path_ascii key.0 path) own

line_text : (started : Bool) (key : Key) (what : Definition) → ArePathKeys key.0 → IsAscii (key_text key.1) → IsPlainDefinition what → HasText (IsLineText false started key what)
line_text started key (key_value d) path own h =
    let a = value_text d h in
    record {
      text = dotted_text key ++ (codes " = " ++ (a.text ++ 10 ∷ []));
      is = (a.text, refl, a.is);
      ascii = IsAscii-append (dotted_text key) (codes " = " ++ (a.text ++ 10 ∷ [])) (dotted_ascii key path own)
          (IsAscii-append (codes " = ") (a.text ++ 10 ∷ []) (seen (codes " = ") refl) (IsAscii-append a.text (10 ∷ []) a.ascii (seen (10 ∷ []) refl)));
    }
line_text started key std_table path own h = record {
  text = gap started ++ (codes "[" ++ (dotted_text key ++ codes "]\n"));
  is = refl;
  ascii = IsAscii-append (gap started) (codes "[" ++ (dotted_text key ++ codes "]\n")) (gap_ascii started)
      (IsAscii-append (codes "[") (dotted_text key ++ codes "]\n") (seen (codes "[") refl) (IsAscii-append (dotted_text key) (codes "]\n") (dotted_ascii key path own) (seen (codes "]\n") refl)));
}
line_text started key array_table path own h = record {
  text = gap started ++ (codes "[[" ++ (dotted_text key ++ codes "]]\n"));
  is = refl;
  ascii = IsAscii-append (gap started) (codes "[[" ++ (dotted_text key ++ codes "]]\n")) (gap_ascii started)
      (IsAscii-append (codes "[[") (dotted_text key ++ codes "]]\n") (seen (codes "[[") refl) (IsAscii-append (dotted_text key) (codes "]]\n") (dotted_ascii key path own) (seen (codes "]]\n") refl)));
}

lines_text : (started : Bool) (es : List Expression) → ArePlainLines es → HasText (IsLinesText false started es)
lines_text started [] h = record { text = []; is = refl; ascii = seen [] refl }
lines_text started (e ∷ es) h =
    let a = line_text started e.0 e.1 h.0 h.1 h.2 in
    let r = lines_text true es h.3 in
    record { text = a.text ++ r.text; is = (a.text, r.text, refl, a.is, r.is); ascii = IsAscii-append a.text r.text a.ascii r.ascii }

-- dates

mutual
  plain_dates : (d : Data) → IsPlain d → has_valid_dates d ≡ true
  plain_dates (string s) h = refl
  plain_dates (integer z) h = refl
  plain_dates (float x) h = absurd h
  plain_dates (boolean b) h = absurd h
  plain_dates (datetime dt) h = absurd h
  plain_dates (array ds) h = items_dates ds h
  plain_dates (table ms) h = members_dates ms h

  items_dates : (ds : Items) → ArePlain ds → items_have_valid_dates ds ≡ true
  items_dates no_items h = refl
  items_dates (item d ds) h = and_from (has_valid_dates d) (items_have_valid_dates ds) (plain_dates d h.0) (items_dates ds h.1)

  members_dates : (ms : Members) → HasPlain ms → members_have_valid_dates ms ≡ true
  members_dates no_members h = refl
  members_dates (member k d ms) h = and_from (has_valid_dates d) (members_have_valid_dates ms) (plain_dates d h.1) (members_dates ms h.3)

-- a plain table that is not too deep is what TOML reads of some bytes
pub table_read : (ms : Members) → HasPlain ms → members_depth ms ≤ 80 → members_are_sorted ms ≡ true → (bytes : List ℕ) × (document_of bytes ≡ Ok ms)
unfolding document_of
table_read ms h deep sorted =
    let t = lines_text false (expressions ms) (lines_append (pairs ms) (sections [] ms) (pairs_plain ms h) (sections_plain [] ms tt h)) in
    let utf8 : is_utf8 t.text ≡ true = is_utf8-from_IsUtf8 t.text (IsUtf8-from_ascii t.text t.ascii) in
    let read : parse_document t.text ≡ Some ms = parse_document-printed false ms t.text t.is deep (members_dates ms h) sorted in
    (t.text, rw (utf8, read) refl)
