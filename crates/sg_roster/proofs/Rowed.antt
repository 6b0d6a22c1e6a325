-- Rows as the writer of `csv` forms them, field by field.
use Rattle.std.proofs.Common.{◌≡◌, ◌≢◌, ℕ, suc, map, slice_index, ◌+◌, ◌-◌, ◌^◌, ◌<◌, ◌≤◌, min, Bool, true, false, not, cond, ◌==◌, List, [], ◌∷◌, ◌++◌, length, sym, ◌∙◌, ap, subst, refl, arith, append_assoc, length-append}
use Rattle.std.proofs.lemmas.Bool.Decides.{nat_tests}
use Rattle.std.specs.Prelude.{Option, Some, None}
use Rattle.std.specs.Io.KnownBytes.{Appends, Keeps}
use Rattle.std.proofs.lemmas.List.{append-nil}
use Rattle.std.proofs.lemmas.Fmt.{decimal_nonempty}
use Rattle.std.specs.Prelude.{codes, decimal}
use Rattle.std.proofs.lemmas.List.{map-append}
use Rattle.csv.specs.declared.writer.QuoteStyle.TheVariants as style
use Rattle.csv.specs.Writing.{default_writer, field_text, fields_text, fields_written, has_written, is_blank, needs_quotes, next_sep, quoted, row_text, tail_text, writer_pending, writer_setup}
use Rattle.sg_model.specs.Games.{Game, is_matrix, resource_count}
use Rattle.sg_model.specs.Sums.{nth, numbers}
use Rattle.sg_game.specs.Counts.{resource_name}
use Rattle.sg_game.proofs.Patrols.{numbers-more}
use Rattle.sg_roster.specs.Rows.{assignments, choice_name, header_names}
use Rattle.sg_roster.specs.Writing.{AddsFields, IsBetweenRows, IsInRow, RowWriter, WritesRow, block_of, text_written_by}

-- known bytes that grow
grown : (bytes more : List ℕ) (after : Option (List ℕ)) → Appends (Some bytes) after more → after ≡ Some (bytes ++ more)
grown bytes more None h = absurd h
grown bytes more (Some all) h = ap Some h

-- known bytes that stay
kept : (bytes : List ℕ) (after : Option (List ℕ)) → Keeps (Some bytes) after → after ≡ Some bytes
kept bytes None h = absurd h
kept bytes (Some all) h = ap Some h

-- with nothing pending, all that was written is in the block
in_block : (w : RowWriter) → writer_pending w ≡ [] → text_written_by w ≡ Some (block_of w)
in_block w e = ap (λ (pending : List ℕ). Some (block_of w ++ pending)) e ∙ ap Some (append-nil (block_of w))

same_bytes : (a b : List ℕ) → Some a ≡ Some b → a ≡ b
same_bytes a b e = cc

some_is_not_none : (n : ℕ) → suc n == 0 ≡ false
some_is_not_none n = grind (arith, nat_tests)

-- a field that shows something has a text that shows something
field_shows : (field : List ℕ) → field ≢ [] → length (field_text default_writer field) == 0 ≡ false
field_shows [] some = absurd (some refl)
field_shows (b ∷ rest) some =
    elim (needs_quotes default_writer (b ∷ rest)) as (λ (q : Bool). length (cond q (quoted default_writer (b ∷ rest)) (b ∷ rest)) == 0 ≡ false) [ true ↦ some_is_not_none _ | false ↦ some_is_not_none _ ]

-- the text of a row whose first field shows something
pub row-text : (first : List ℕ) (rest : List (List ℕ)) → first ≢ [] → row_text default_writer (first ∷ rest) ≡ (field_text default_writer first ++ fields_text default_writer rest) ++ 10 ∷ []
unfolding is_blank
row-text first [] some =
    ap (λ (b : Bool). (field_text default_writer first ++ fields_text default_writer []) ++ (cond b (34 ∷ 34 ∷ []) [] ++ 10 ∷ [])) (field_shows first some)
row-text first (next ∷ rest) some = refl

pub fields_text-append : (xs ys : List (List ℕ)) → fields_text default_writer (xs ++ ys) ≡ fields_text default_writer xs ++ fields_text default_writer ys
unfolding fields_text
fields_text-append [] ys = refl
fields_text-append (x ∷ xs) ys =
    ap (λ (t : List ℕ). 44 ∷ (field_text default_writer x ++ t)) (fields_text-append xs ys)
    ∙ ap (λ (t : List ℕ). 44 ∷ t) (sym (append_assoc (field_text default_writer x) (fields_text default_writer xs) (fields_text default_writer ys)))

fields_text-none : fields_text default_writer [] ≡ []
unfolding fields_text
fields_text-none = refl

fields_text-one : (field : List ℕ) → fields_text default_writer (field ∷ []) ≡ 44 ∷ field_text default_writer field
unfolding fields_text
fields_text-one field = ap (λ (t : List ℕ). 44 ∷ t) (append-nil (field_text default_writer field))

-- no style but the default's
not_numeric : (w : RowWriter) → writer_setup w ≡ default_writer → (writer_setup w).style ≢ style.NonNumeric
not_numeric w e = λ f. let g : (writer_setup w).style ≡ style.Necessary = ap (λ c. c.style) e in cc

-- what writing a field does where it goes well
pub record FieldIsWritten (old new : RowWriter) (field : List ℕ) : Type 0 where
  pub text : (writer_setup old).style ≢ style.NonNumeric → Appends (text_written_by old) (text_written_by new) (next_sep (writer_setup old) (fields_written old) ++ field_text (writer_setup old) field)
  pub same : writer_setup new ≡ writer_setup old
  pub count : fields_written new ≡ min (fields_written old + 1) (2 ^ 64 - 1)
  pub wrote : has_written old ≡ false → (writer_setup old).style ≢ style.NonNumeric → has_written new ≡ not (length (field_text (writer_setup old) field) == 0)
  pub stays : has_written old ≡ true → has_written new ≡ true

-- the first field of a row
pub row_begun : (old new : RowWriter) (field : List ℕ) → field ≢ [] → IsBetweenRows old → FieldIsWritten old new field → IsInRow new (block_of old ++ field_text default_writer field)
row_begun old new field some between wrote =
    let plain = not_numeric old between.setup in
    let here : List ℕ = next_sep (writer_setup old) (fields_written old) ++ field_text (writer_setup old) field in
    let is : here ≡ field_text default_writer field =
    ap (λ c. next_sep c (fields_written old) ++ field_text c field) between.setup ∙ ap (λ (n : ℕ). next_sep default_writer n ++ field_text default_writer field) between.fields in
    let shows : has_written new ≡ not (length (field_text default_writer field) == 0) =
    wrote.wrote between.shown plain ∙ ap (λ c. not (length (field_text c field) == 0)) between.setup in
    record {
      setup = wrote.same ∙ between.setup;
      text = grown (block_of old) (field_text default_writer field) (text_written_by new)
          (subst (Appends (Some (block_of old)) (text_written_by new)) is (subst (λ t. Appends t (text_written_by new) here) (in_block old between.pending) (wrote.text plain)));
      fields = λ e. let n : fields_written new ≡ 1 = wrote.count ∙ ap (λ (n : ℕ). min (n + 1) (2 ^ 64 - 1)) between.fields in absurd (omega (arith, e, n));
      shown = shows ∙ ap not (field_shows field some);
    }

-- a further field
pub field_added : (old new : RowWriter) (field : List ℕ) → FieldIsWritten old new field → AddsFields old new (field ∷ [])
field_added old new field wrote text inside =
    let plain = not_numeric old inside.setup in
    let other : fields_written old == 0 ≡ false = grind (arith, nat_tests, inside.fields) in
    let here : List ℕ = next_sep (writer_setup old) (fields_written old) ++ field_text (writer_setup old) field in
    let is : here ≡ fields_text default_writer (field ∷ []) =
    ap (λ c. next_sep c (fields_written old) ++ field_text c field) inside.setup ∙ ap (λ (b : Bool). cond b [] (44 ∷ []) ++ field_text default_writer field) other ∙ sym (fields_text-one field) in
    record {
      setup = wrote.same ∙ inside.setup;
      text = grown text (fields_text default_writer (field ∷ [])) (text_written_by new)
          (subst (Appends (Some text) (text_written_by new)) is (subst (λ t. Appends t (text_written_by new) here) inside.text (wrote.text plain)));
      fields = λ e. absurd (inside.fields (omega (arith, wrote.count, e)));
      shown = wrote.stays inside.shown;
    }

-- more fields behind others
pub fields_added : (first mid last : RowWriter) (xs ys : List (List ℕ)) → AddsFields first mid xs → AddsFields mid last ys → AddsFields first last (xs ++ ys)
fields_added first mid last xs ys one other text inside =
    let e : (text ++ fields_text default_writer xs) ++ fields_text default_writer ys ≡ text ++ fields_text default_writer (xs ++ ys) =
    append_assoc text (fields_text default_writer xs) (fields_text default_writer ys) ∙ ap (λ (t : List ℕ). text ++ t) (sym (fields_text-append xs ys)) in
    subst (IsInRow last) e (other (text ++ fields_text default_writer xs) (one text inside))

-- no field
pub none_added : (w : RowWriter) → AddsFields w w []
none_added w text inside = subst (IsInRow w) (sym (append-nil text) ∙ ap (λ (t : List ℕ). text ++ t) (sym fields_text-none)) inside

-- what ending a record does where it goes well
pub record RecordIsEnded (old new : RowWriter) : Type 0 where
  pub bytes : Appends (text_written_by old) (text_written_by new) (tail_text (writer_setup old) (has_written old) (fields_written old))
  pub fields : fields_written new ≡ 0
  pub wrote : has_written new ≡ false
  pub same : writer_setup new ≡ writer_setup old

-- and a flush
pub record IsFlushed (old new : RowWriter) : Type 0 where
  pub bytes : Keeps (text_written_by old) (text_written_by new)
  pub pending : writer_pending new ≡ []
  pub fields : fields_written new ≡ fields_written old
  pub wrote : has_written new ≡ has_written old
  pub setup : writer_setup new ≡ writer_setup old

-- a row is ended, and is in the block
pub row_ended : (old ended new : RowWriter) (text : List ℕ) → IsInRow old text → RecordIsEnded old ended → IsFlushed ended new → IsBetweenRows new × (block_of new ≡ text ++ 10 ∷ [])
row_ended old ended new text inside end flushed =
    let tail : tail_text (writer_setup old) (has_written old) (fields_written old) ≡ 10 ∷ [] =
    ap (λ c. tail_text c (has_written old) (fields_written old)) inside.setup ∙ ap (λ (b : Bool). tail_text default_writer b (fields_written old)) inside.shown in
    let written : text_written_by ended ≡ Some (text ++ 10 ∷ []) =
    grown text (10 ∷ []) (text_written_by ended) (subst (Appends (Some text) (text_written_by ended)) tail (subst (λ t. Appends t (text_written_by ended) (tail_text (writer_setup old) (has_written old) (fields_written old))) inside.text end.bytes)) in
    let all : text_written_by new ≡ Some (text ++ 10 ∷ []) = kept (text ++ 10 ∷ []) (text_written_by new) (subst (λ t. Keeps t (text_written_by new)) written flushed.bytes) in (
      record {
        setup = flushed.setup ∙ end.same ∙ inside.setup;
        pending = flushed.pending;
        fields = flushed.fields ∙ end.fields;
        shown = flushed.wrote ∙ end.wrote;
      },
      same_bytes (block_of new) (text ++ 10 ∷ []) (sym (in_block new flushed.pending) ∙ all),
    )

-- a row, from its first field to its end
pub row_written : (old begun filled new : RowWriter) (first : List ℕ) (rest : List (List ℕ)) → first ≢ [] → IsInRow begun (block_of old ++ field_text default_writer first) → AddsFields begun filled rest
    → ((text : List ℕ) → IsInRow filled text → IsBetweenRows new × (block_of new ≡ text ++ 10 ∷ [])) → WritesRow old new (first ∷ rest)
row_written old begun filled new first rest some start added ended =
    let before : List ℕ = block_of old ++ field_text default_writer first in
    let end = ended (before ++ fields_text default_writer rest) (added before start) in
    record {
      between = end.0;
      block = end.1 ∙ append_assoc before (fields_text default_writer rest) (10 ∷ [])
          ∙ append_assoc (block_of old) (field_text default_writer first) (fields_text default_writer rest ++ 10 ∷ [])
          ∙ ap (λ (t : List ℕ). block_of old ++ t) (sym (append_assoc (field_text default_writer first) (fields_text default_writer rest) (10 ∷ [])) ∙ sym (row-text first rest some));
    }

-- one number more
pub number_added : (first mid last : RowWriter) (f : ℕ → List ℕ) (i : ℕ) (name : List ℕ) → name ≡ f (i + 1) → AddsFields first mid (map f (numbers i)) → AddsFields mid last (name ∷ []) → AddsFields first last (map f (numbers (i + 1)))
number_added first mid last f i name here so_far added =
    let e : map f (numbers i) ++ name ∷ [] ≡ map f (numbers (i + 1)) =
    ap (λ (t : List ℕ). map f (numbers i) ++ t ∷ []) here ∙ sym (map-append f (numbers i) ((i + 1) ∷ [])) ∙ ap (map f) (sym (numbers-more i)) in
    subst (AddsFields first last) e (fields_added first mid last (map f (numbers i)) (name ∷ []) so_far added)

-- the columns and the assignments of the two forms of game
pub columns-listed : (g : Game) → is_matrix g ≡ false → header_names g ≡ map (resource_name g) (numbers (resource_count g))
columns-listed g e = ap (λ (b : Bool). cond b (codes "row" ∷ []) (map (resource_name g) (numbers (resource_count g)))) e

pub columns-row : (g : Game) → is_matrix g ≡ true → header_names g ≡ codes "row" ∷ []
columns-row g e = ap (λ (b : Bool). cond b (codes "row" ∷ []) (map (resource_name g) (numbers (resource_count g)))) e

pub assignments-listed : (g : Game) (play : List ℕ) → is_matrix g ≡ false → assignments g play ≡ map (λ r. choice_name g r (nth play r 0)) (numbers (resource_count g))
assignments-listed g play e = ap (λ (b : Bool). cond b (nth g.goals (slice_index play 0) [] ∷ []) (map (λ r. choice_name g r (nth play r 0)) (numbers (resource_count g)))) e

pub assignments-row : (g : Game) (play : List ℕ) → is_matrix g ≡ true → assignments g play ≡ nth g.goals (slice_index play 0) [] ∷ []
assignments-row g play e = ap (λ (b : Bool). cond b (nth g.goals (slice_index play 0) [] ∷ []) (map (λ r. choice_name g r (nth play r 0)) (numbers (resource_count g)))) e

-- a number shows something
pub number_shows : (n : ℕ) (text : List ℕ) → n < 2 ^ 64 → text ≡ decimal n → text ≢ []
number_shows n text fits is e = absurd (omega (arith, decimal_nonempty n fits, ap length (sym is ∙ e)))

-- a block with one row more is no shorter
pub longer : (old new : RowWriter) (fields : List (List ℕ)) → WritesRow old new fields → length (block_of old) ≤ length (block_of new)
longer old new fields wrote = omega (arith, ap length wrote.block, length-append (block_of old) (row_text default_writer fields))
