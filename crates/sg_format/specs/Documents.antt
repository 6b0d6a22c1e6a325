-- The table that the bytes of a file are, the keys of a table, and the kinds and ranges of values.
use Rattle.std.specs.Prelude.{ℕ, Bool, true, ◌&&◌, ℤ, int_le, List, None, Result, Ok, if◌then◌else◌}
use Rattle.std.specs.Str.{is_utf8}
use Rattle.toml.specs.Data.{Data, Items, Members, no_members, member, get_member, as_str, as_integer, as_array, as_table}
use Rattle.toml.specs.Parse.{parse_document}
use Rattle.sg_model.specs.declared.fault.Place.{Place}
use Rattle.sg_model.specs.declared.fault.Place.TheVariants.{Document}
use Rattle.sg_model.specs.declared.fault.GameFault.{GameFault}
use Rattle.sg_model.specs.Names.{is_name}
use Rattle.sg_model.specs.Steps.{◌>>=◌}
use Rattle.sg_format.specs.Steps.{needed, passed}
use Rattle.sg_model.specs.declared.reason.TheConstants.{NOT_TOML, MISSING_KEY, WRONG_KIND, OUT_OF_RANGE}

-- the top table of the TOML document that the bytes are
unfoldable pub document_of : List ℕ → Result Members GameFault
document_of bytes = needed (if is_utf8 bytes then parse_document bytes else None) NOT_TOML Document

-- each key of the table passes the test
abbrev pub has_only : (List ℕ → Bool) → Members → Bool
has_only is_known no_members = true
has_only is_known (member key value rest) = is_known key && has_only is_known rest

-- the value at a key that must be there
abbrev pub needed_at : Place → List ℕ → Members → Result Data GameFault
needed_at place key table = needed (get_member key table) MISSING_KEY place

-- an integer
abbrev pub integer_at : Place → Data → Result ℤ GameFault
integer_at place value = needed (as_integer value) WRONG_KIND place

-- a text
abbrev pub text_at : Place → Data → Result (List ℕ) GameFault
text_at place value = needed (as_str value) WRONG_KIND place

-- an array
abbrev pub items_at : Place → Data → Result Items GameFault
items_at place value = needed (as_array value) WRONG_KIND place

-- a table
abbrev pub table_at : Place → Data → Result Members GameFault
table_at place value = needed (as_table value) WRONG_KIND place

-- an integer from low to high
unfoldable pub number_at : Place → ℤ → ℤ → Data → Result ℤ GameFault
number_at place low high value = do
  number ← integer_at place value
  within ← passed (int_le low number && int_le number high) OUT_OF_RANGE place
  Ok number

-- a text in the spelling of names
unfoldable pub name_at : Place → Data → Result (List ℕ) GameFault
name_at place value = do
  text ← text_at place value
  spelled ← passed (is_name text) OUT_OF_RANGE place
  Ok text
