-- A writer of rows: `csv` with its defaults, over a block of memory.
use Rattle.std.specs.Prelude.{◌≡◌, ◌≢◌, ℕ, List, [], ◌++◌, true, false, Vec, Some, Option}
use Rattle.std.specs.declared.alloc.Global.{Global}
use Rattle.csv.specs.declared.writer.Writer.{Writer}
use Rattle.sg_shelf.specs.Taken.{Takes}
use Rattle.csv.specs.Writing.{default_writer, fields_text, fields_written, has_written, row_text, text_written, writer_pending, writer_setup, writer_under}

abbrev pub RowWriter : Type 0
RowWriter = Writer (Vec ℕ Global)

-- the bytes in the block
abbrev pub block_of : RowWriter → List ℕ
block_of w = (writer_under w).items

-- all that was written, also what isn't in the block yet
abbrev pub text_written_by : RowWriter → Option (List ℕ)
text_written_by w = text_written (λ (v : Vec ℕ Global). Some v.items) w

-- between two rows, with all that was written in the block
pub record IsBetweenRows (w : RowWriter) : Type 0 where
  pub setup : writer_setup w ≡ default_writer
  pub pending : writer_pending w ≡ []
  pub fields : fields_written w ≡ 0
  pub shown : has_written w ≡ false

-- in a row that shows something, with this text so far
pub record IsInRow (w : RowWriter) (so_far : List ℕ) : Type 0 where
  pub setup : writer_setup w ≡ default_writer
  pub text : text_written_by w ≡ Some so_far
  pub fields : fields_written w ≢ 0
  pub shown : has_written w ≡ true

-- these fields were added to a row
abbrev pub AddsFields : RowWriter → RowWriter → List (List ℕ) → Type 0
AddsFields before after fields = (text : List ℕ) → IsInRow before text → IsInRow after (text ++ fields_text default_writer fields)

-- a row of these fields was added to the block
pub record WritesRow (before after : RowWriter) (fields : List (List ℕ)) : Type 0 where
  pub between : IsBetweenRows after
  pub block : block_of after ≡ block_of before ++ row_text default_writer fields

-- a part of the whole text was taken, and the rest is left
pub record HasPut (before now : Option (List ℕ)) (whole rest : List ℕ) : Type 0 where
  pub part : List ℕ
  pub taken : Takes before now part
  pub all : part ++ rest ≡ whole
