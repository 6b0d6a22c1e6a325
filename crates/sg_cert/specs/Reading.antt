-- A report as its lines spell it, or the fault of the first line that fails.
use Rattle.std.specs.Prelude.{ℕ, zero, suc, ◌-◌, ◌==◌, if◌then◌else◌, Bool, false, List, [], ◌∷◌, ◌++◌, length, slice_get, Option, Some, None, Result, Ok, Err, codes, bytes_eq}
use Rattle.std.specs.Option.{option_map}
use Rattle.sg_model.specs.declared.ticket.Ticket.{Ticket}
use Rattle.sg_frac.specs.Fractions.{Fraction}
use Rattle.sg_tree.specs.Claims.{Claimed}
use Rattle.sg_tree.specs.declared.fact.Mark.{Mark}
use Rattle.sg_tree.specs.declared.fact.Line.{Line}
use Rattle.sg_tree.specs.declared.fact.Fact.{Fact}
use Rattle.sg_tree.specs.declared.fact.Fact.TheVariants.{Plays, Cover}
use Rattle.sg_tree.specs.declared.tree.Tree.{Tree}
use Rattle.sg_tree.specs.declared.tree.Tree.TheVariants.{Unproved, Closed, Split}
use Rattle.sg_tree.specs.declared.report.Cap.{Cap}
use Rattle.sg_tree.specs.declared.report.Ending.{Ending}
use Rattle.sg_tree.specs.declared.report.Report.{Report}
use Rattle.sg_cert.specs.declared.fault.ReportFault.{ReportFault}
use Rattle.sg_cert.specs.Place.{Place}
use Rattle.sg_cert.specs.Fields.{fields, has_word, shaped_as}
use Rattle.sg_model.specs.Steps.{◌>>=◌}
use Rattle.sg_cert.specs.Lines.{line_at, next_line, at_line, start, ended}
use Rattle.sg_cert.specs.LineReading.{fraction_of, counts_of, ticket_of, mark_of, multiplier_of, header_of, water_of, cap_head_of, split_of, verdict_of}

-- what is read from a place on, and the place after it
abbrev pub Read : Type 0 → Type 0
Read A = Result (A × Place) ReportFault

-- so many items, each read beside those before it
unfoldable pub repeat : {A : Type 0} → (List A → Place → Read A) → List A → ℕ → Place → Read (List A)
repeat item done zero p = Ok (done, p)
repeat item done (suc n) p = do
  x ← item done p
  repeat item (done ++ x.0 ∷ []) n x.1

-- the last item, if any
abbrev pub last : {A : Type 0} → List A → Option A
last xs = if length xs == 0 then None else slice_get xs (length xs - 1)

-- ---- tickets

abbrev pub last_play : List Ticket → Option (List ℕ)
last_play ts = option_map (λ (t : Ticket). t.play.code) (last ts)

unfoldable pub ticket_at : List Ticket → Place → Read Ticket
ticket_at done p = do
  l ← line_at p
  t ← at_line l.1 (ticket_of (last_play done) (fields l.0))
  Ok (t, l.1)

-- the line of the number and total, and the tickets
unfoldable pub claim_at : Place → Read Claimed
claim_at p = do
  l ← line_at p
  n ← at_line l.1 (counts_of (fields l.0))
  tickets ← repeat ticket_at [] n.0 l.1
  Ok (record { tickets = tickets.0; total = n.1 }, tickets.1)

-- ---- facts

unfoldable pub mark_at : List Mark → Place → Read Mark
mark_at done p = do
  l ← line_at p
  m ← at_line l.1 (mark_of (last done) (fields l.0))
  Ok (m, l.1)

unfoldable pub row_at : List Line → Place → Read Line
row_at done p = do
  l ← line_at p
  c ← at_line l.1 (multiplier_of (last done) (fields l.0))
  Ok (c, l.1)

-- a fact of plays, whose first line was read
unfoldable pub plays_from : List (List ℕ) → Place → Read Fact
plays_from fs p = do
  h ← at_line p (header_of (codes "plays") fs)
  marks ← repeat mark_at [] h.2 p
  Ok (Plays h.0 h.1 marks.0, marks.1)

-- a fact of the coverage table, whose first line was read
unfoldable pub cover_from : List (List ℕ) → Place → Read Fact
cover_from fs p = do
  h ← at_line p (header_of (codes "cover") fs)
  lines ← repeat row_at [] h.2 p
  Ok (Cover h.0 h.1 lines.0, lines.1)

-- a water fact, whose line was read
unfoldable pub water_from : List (List ℕ) → Place → Read Fact
water_from fs p = do
  f ← at_line p (water_of fs)
  Ok (f, p)

-- a fact, whose first line was read
abbrev pub fact_from : List (List ℕ) → Place → Read Fact
fact_from fs p =
    if has_word 0 (codes "plays") fs then plays_from fs p
    else if has_word 0 (codes "cover") fs then cover_from fs p
    else if has_word 0 (codes "water") fs then water_from fs p
    else Err (record { line = p.line; reason = 3 })

unfoldable pub fact_at : Place → Read Fact
fact_at p = do
  l ← line_at p
  fact_from (fields l.0) l.1

-- ---- caps

-- a cap, whose line was read, with the facts that follow
unfoldable pub cap_from : List (List ℕ) → Place → Read Cap
cap_from fs p = do
  c ← at_line p (cap_head_of fs)
  proof ← repeat (λ done q. fact_at q) [] c.2 p
  Ok (record { l = c.0; v = c.1; proof = proof.0 }, proof.1)

unfoldable pub cap_at : Place → Read Cap
cap_at p = do
  l ← line_at p
  cap_from (fields l.0) l.1

-- whether a line is there and begins with this word
abbrev pub line_begins : List ℕ → Option (List ℕ) → Bool
line_begins word None = false
line_begins word (Some line) = has_word 0 word (fields line)

-- caps as long as lines begin with that word, and at most so many
unfoldable pub caps_at : List Cap → ℕ → Place → Read (List Cap)
caps_at done zero p = Ok (done, p)
caps_at done (suc n) p = if line_begins (codes "cap") (next_line p)
    then (do
      c ← cap_at p
      caps_at (done ++ c.0 ∷ []) n c.1)
    else Ok (done, p)

-- ---- the tree

-- a line of this word alone
unfoldable pub open_from : List (List ℕ) → Place → Read (Option Fact)
open_from fs p = do
  shape ← at_line p (shaped_as (codes "open") 1 1 fs)
  Ok (None, p)

unfoldable pub closed_from : List (List ℕ) → Place → Read (Option Fact)
closed_from fs p = do
  f ← fact_from fs p
  Ok (Some f.0, f.1)

-- open, or a fact, whose first line was read
abbrev pub base_from : List (List ℕ) → Place → Read (Option Fact)
base_from fs p = if has_word 0 (codes "open") fs then open_from fs p else closed_from fs p

unfoldable pub base_at : Place → Read (Option Fact)
base_at p = do
  l ← line_at p
  base_from (fields l.0) l.1

abbrev pub leaf_of : Option Fact → Tree
leaf_of None = Unproved
leaf_of (Some f) = Closed f

unfoldable pub leaf_from : List (List ℕ) → Place → Read Tree
leaf_from fs p = do
  f ← base_from fs p
  Ok (leaf_of f.0, f.1)

-- a split, whose line was read, with the base and the parts that follow
unfoldable pub split_from : (Place → Read Tree) → List (List ℕ) → Place → Read Tree
split_from part fs p = do
  s ← at_line p (split_of fs)
  base ← base_at p
  parts ← repeat (λ done q. part q) [] s.1 base.1
  Ok (Split s.0 base.0 parts.0, parts.1)

-- a split that may not stand here
unfoldable pub deep_from : List (List ℕ) → Place → Read Tree
deep_from fs p = do
  s ← at_line p (split_of fs)
  Err (record { line = p.line; reason = 8 })

-- a node with at most so many splits below one another
unfoldable pub node_at : ℕ → Place → Read Tree
node_at zero p = do
  l ← line_at p
  if has_word 0 (codes "split") (fields l.0) then deep_from (fields l.0) l.1 else leaf_from (fields l.0) l.1
node_at (suc left) p = do
  l ← line_at p
  if has_word 0 (codes "split") (fields l.0) then split_from (node_at left) (fields l.0) l.1 else leaf_from (fields l.0) l.1

-- ---- the report

unfoldable pub fraction_at : List ℕ → Place → Read Fraction
fraction_at word p = do
  l ← line_at p
  x ← at_line l.1 (fraction_of word (fields l.0))
  Ok (x, l.1)

unfoldable pub verdict_at : Place → Read Ending
verdict_at p = do
  l ← line_at p
  x ← at_line l.1 (verdict_of (fields l.0))
  Ok (x, l.1)

-- a line of this word alone
unfoldable pub word_line_at : List ℕ → Place → Read (Unit {0})
word_line_at word p = do
  l ← line_at p
  shape ← at_line l.1 (shaped_as word 1 1 (fields l.0))
  Ok (tt, l.1)

-- the first line, which is just so
unfoldable pub first_at : List ℕ → Place → Read (Unit {0})
first_at text p = do
  l ← line_at p
  if bytes_eq l.0 text then Ok (tt, l.1) else Err (record { line = l.1.line; reason = 1 })

-- the first line, the tickets and their value
unfoldable pub head_at : Place → Read (Claimed × Fraction)
head_at p = do
  first ← first_at (codes "patrol-report 1") p
  tickets ← claim_at first.1
  value ← fraction_at (codes "value") tickets.1
  Ok ((tickets.0, value.0), value.1)

-- the caps, of which each has a byte at least, and the tree
unfoldable pub proof_at : Place → Read (List Cap × Tree)
proof_at p = do
  caps ← caps_at [] (length p.rest) p
  tree ← node_at 8 caps.1
  Ok ((caps.0, tree.0), tree.1)

-- the last line, behind which there is nothing
unfoldable pub end_of : Place → Result (Unit {0}) ReportFault
end_of p = do
  end ← word_line_at (codes "end") p
  ended end.1

-- the upper bound and the verdict, up to the end of the bytes
unfoldable pub tail_of : Place → Result (Fraction × Ending) ReportFault
tail_of p = do
  upper ← fraction_at (codes "upper") p
  verdict ← verdict_at upper.1
  end ← end_of verdict.1
  Ok (upper.0, verdict.0)

-- the report that the bytes spell, all of the bytes
unfoldable pub report_of : List ℕ → Result Report ReportFault
report_of bytes = do
  head ← head_at (start bytes)
  proof ← proof_at head.1
  tail ← tail_of proof.1
  Ok (record { tickets = head.0.0; value = head.0.1; caps = proof.0.0; tree = proof.0.1; upper = tail.0; ending = tail.1 })
