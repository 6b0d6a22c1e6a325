-- Lines of a key and heads of tables of the canonical text are as TOML writes them.
use Rattle.std.proofs.Common.{◌≡◌, ℕ, ◌≤◌, true, false, ◌&&◌, List, [], ◌∷◌, ◌++◌, length, refl, sym, ap, arith, append-nil}
use Rattle.std.specs.Prelude.{codes, flat_map, nat_lt}
use Rattle.std.specs.List.{All, list_all}
use Rattle.std.specs.Str.{IsAscii}
use Rattle.std.proofs.lemmas.List.Elements.{All-head, All-tail}
use Rattle.std.proofs.lemmas.Str.{IsAscii-append}
use Rattle.toml_parser.specs.Lexical.{is_bare}
use Rattle.toml_writer.specs.Text.{key_text}
use Rattle.toml.specs.Data.{Data}
use Rattle.toml.specs.Tables.{Expression, array_table, key_value}
use Rattle.toml.specs.Text.{IsLinesText}
use Rattle.toml.proofs.Lines.{IsLinesText-append}
use Rattle.toml.proofs.ReadLines.{AllPrinted}
use Rattle.sg_format.specs.GameText.{head, key_line}
use Rattle.sg_document_laws.proofs.Texts.{seen}
use Rattle.sg_game_text_laws.proofs.Values.{Spells}

-- the text is what TOML writes for these lines, behind others
pub record SpellsLines (es : List Expression) (text : List ℕ) : Type 0 where
  pub lines : IsLinesText false true es text
  pub ascii : IsAscii text
  pub printed : AllPrinted es

-- a key that needs no quotes
pub record IsBare (key : List ℕ) : Type 0 where
  pub own : key_text key ≡ key
  pub ascii : IsAscii key

pub bare : (key : List ℕ) → (nat_lt 0 (length key) && list_all is_bare key) ≡ true → list_all (λ b. nat_lt b 128) key ≡ true → IsBare key
unfolding key_text
bare key e h = record { own = rw e; ascii = seen key h }

-- the line of a key and its value
abbrev pub pair : List ℕ → Data → Expression
pair key d = (([], key), key_value d)

-- the head of a table of that key
abbrev pub table_head : List ℕ → Expression
table_head key = (([], key), array_table)

-- ---- one line

pub pair_writes : (key : List ℕ) (n : ℕ) (d : Data) (text : List ℕ) → IsBare key → n ≤ 80 → Spells n d text → SpellsLines (pair key d ∷ []) (key_line key text)
pair_writes key n d text bare few h = record {
  lines = (key_line key text, [], sym (append-nil (key_line key text)), (text, ap (λ k. k ++ (codes " = " ++ (text ++ codes "\n"))) (sym bare.own), h.is), refl);
  ascii = IsAscii-append key (codes " = " ++ (text ++ codes "\n")) bare.ascii
      (IsAscii-append (codes " = ") (text ++ codes "\n") (seen (codes " = ") refl) (IsAscii-append text (codes "\n") h.ascii (seen (codes "\n") refl)));
  printed = ((refl, omega (arith, few, h.deep), h.dates), tt);
}

pub head_writes : (key : List ℕ) → IsBare key → SpellsLines (table_head key ∷ []) (head key)
head_writes key bare = record {
  lines = (head key, [], sym (append-nil (head key)), ap (λ k. codes "\n[[" ++ (k ++ codes "]]\n")) (sym bare.own), refl);
  ascii = IsAscii-append (codes "\n[[") (key ++ codes "]]\n") (seen (codes "\n[[") refl) (IsAscii-append key (codes "]]\n") bare.ascii (seen (codes "]]\n") refl));
  printed = (omega arith, tt);
}

-- ---- several lines

pub none_write : SpellsLines [] []
none_write = record { lines = refl; ascii = seen [] refl; printed = tt }

all_printed : (es fs : List Expression) → AllPrinted es → AllPrinted fs → AllPrinted (es ++ fs)
all_printed [] fs h i = i
all_printed (e ∷ es) fs h i = (h.0, all_printed es fs h.1 i)

-- some lines behind others
pub both_write : (es fs : List Expression) (text rest : List ℕ) → SpellsLines es text → SpellsLines fs rest → SpellsLines (es ++ fs) (text ++ rest)
both_write es fs text rest h i = record {
  lines = IsLinesText-append false true es fs text rest h.lines i.lines;
  ascii = IsAscii-append text rest h.ascii i.ascii;
  printed = all_printed es fs h.printed i.printed;
}

-- the lines of each of these
pub each_writes : {X : Type 0} (lines : X → List Expression) (write : X → List ℕ) (P : X → Type 0) → ((x : X) → P x → SpellsLines (lines x) (write x))
    → (xs : List X) → All P xs → SpellsLines (flat_map lines xs) (flat_map write xs)
each_writes lines write P each [] h = none_write
each_writes lines write P each (x ∷ xs) h =
    both_write (lines x) (flat_map lines xs) (write x) (flat_map write xs) (each x (All-head P x xs h)) (each_writes lines write P each xs (All-tail P x xs h))
