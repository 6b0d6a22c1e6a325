-- A whole report is read again from its text.
use Rattle.std.proofs.Common.{◌≡◌, ℕ, suc, zero, ◌+◌, ◌-◌, true, false, List, [], ◌∷◌, ◌++◌, length, Option, Some, None, Ok, refl, sym, ap, subst, ◌∙◌, arith, append_assoc, add-zero}
use Rattle.std.specs.Prelude.{codes, decimal}
use Rattle.std.specs.Fmt.{signed_decimal}
use Rattle.std.specs.List.{list_all, AllByRecursion, flat_map, join_with_byte}
use Rattle.std.proofs.lemmas.List.{length-append}
use Rattle.sg_frac.specs.Fractions.{Fraction}
use Rattle.sg_tree.specs.declared.fact.Fact.{Fact}
use Rattle.sg_tree.specs.declared.fix.Fix.{Fix}
use Rattle.sg_tree.specs.declared.tree.Tree.{Tree}
use Rattle.sg_tree.specs.declared.tree.Tree.TheVariants.{Unproved, Closed, Split}
use Rattle.sg_tree.specs.declared.report.Ending.{Ending}
use Rattle.sg_tree.specs.declared.report.Report.{Report}
use Rattle.sg_num.specs.declared.step.Op.{Op}
use Rattle.sg_num.specs.declared.step.Op.TheVariants.{Sum, Less, Times}
use Rattle.sg_tree.specs.declared.report.Cause.{Cause}
use Rattle.sg_tree.specs.declared.report.Cause.TheVariants as causes
use Rattle.sg_tree.specs.declared.report.Ending.TheVariants.{Optimal, Gap}
use Rattle.sg_cert.specs.Place.{Place}
use Rattle.sg_cert.specs.Fields.{fields, has_word, words_of, spelled_of, shaped_if}
use Rattle.sg_model.specs.Steps.{◌>>=◌}
use Rattle.sg_cert.specs.Lines.{at_line, next_line}
use Rattle.sg_cert.specs.LineReading.{fraction_of, verdict_of}
use Rattle.sg_cert.specs.Reading.{Read, fact_from, line_begins, open_from, closed_from, base_from, base_at, leaf_of, leaf_from, split_from, node_at, fraction_at, verdict_at, word_line_at, first_at, head_at, proof_at, end_of, tail_of, report_of}
use Rattle.sg_cert.specs.Text.{FieldRow, spell, text_of, fraction_row, claim_rows, cap_rows, base_rows, split_row, node_rows, fix_fields, op_word, cause_fields, verdict_row, head_rows, tail_rows, report_text}
use Rattle.sg_cert.specs.Ranges.{IsFrom, IsFraction, IsRangedBase, IsLayer, IsRangedNode, IsRangedFix, IsCause, IsEnding, IsReport}
use Rattle.sg_cert.proofs.Rows.{text_then}
use Rattle.sg_cert.proofs.LinesAgain.{acts_from, IsWord, fraction_again, split_line_again, verdict_again}
use Rattle.sg_cert.proofs.Spelled.{is_plain, decimal_plain, signed_plain, decimals_plain, fields_again, place, line_again}
use Rattle.sg_cert.proofs.Nodes.{split_done, node_leaf, node_split}
use Rattle.sg_cert.proofs.Trees.{rows_split, rows_open, rows_closed, tree_cases, out_is, out_closed}
use Rattle.sg_cert.proofs.BlocksAgain.{Back, BackFrom, at_from, one_from, Each, repeat_again, fact_back, claim_back, caps_again, caps_fuel, begins_row, plain_front}

-- ---- bases and leaves

open_back : BackFrom base_from (codes "open" ∷ []) [] None
unfolding open_from shaped_if words_of spelled_of
open_back more line = ap (λ (n : ℕ). Ok (None, place more n)) (sym (add-zero line))

closed_back : (f : Fact) (w : List ℕ) (fs : FieldRow) (rows : List FieldRow) → has_word 0 (codes "open") (w ∷ fs) ≡ false → BackFrom fact_from (w ∷ fs) rows f → BackFrom base_from (w ∷ fs) rows (Some f)
unfolding closed_from
closed_back f w fs rows other back more line = rw (other, back more line) refl

-- a base by cases
record BaseBack (b : Option Fact) : Type 0 where
  word : List ℕ
  fs : FieldRow
  rows : List FieldRow
  all : base_rows b ≡ (word ∷ fs) ∷ rows
  plain : list_all is_plain (word ∷ fs) ≡ true
  not_split : has_word 0 (codes "split") (word ∷ fs) ≡ false
  not_cap : has_word 0 (codes "cap") (word ∷ fs) ≡ false
  back : BackFrom base_from (word ∷ fs) rows b

base_back : (b : Option Fact) → IsRangedBase b → BaseBack b
base_back None h = record { word = codes "open"; fs = []; rows = []; all = refl; plain = refl; not_split = refl; not_cap = refl; back = open_back }
base_back (Some f) h =
    let b = fact_back f h in
    record { word = b.word; fs = b.fs; rows = b.rows; all = b.all; plain = b.plain; not_split = b.not_split; not_cap = b.not_cap; back = closed_back f b.word b.fs b.rows b.not_open b.back }

base_again : (b : Option Fact) → IsRangedBase b → Back base_at (base_rows b) b
unfolding base_at
base_again b h =
    let k = base_back b h in
    subst (λ (rows : List FieldRow). Back base_at rows b) (sym k.all) (at_from base_at base_from k.word k.fs k.rows b (λ p. refl) k.plain k.back)

leaf_back : (b : Option Fact) (w : List ℕ) (fs : FieldRow) (rows : List FieldRow) → BackFrom base_from (w ∷ fs) rows b → BackFrom leaf_from (w ∷ fs) rows (leaf_of b)
unfolding leaf_from
leaf_back b w fs rows back more line = rw (back more line) refl

text_front : (w : List ℕ) (fs : FieldRow) (rows : List FieldRow) (more : List ℕ) → text_of ((w ∷ fs) ∷ rows) ++ more ≡ spell (w ∷ fs) ++ (text_of rows ++ more)
text_front w fs rows more = append_assoc (spell (w ∷ fs)) (text_of rows) more

leaf_rows : (left : ℕ) (b : Option Fact) (w : List ℕ) (fs : FieldRow) (rows : List FieldRow) → list_all is_plain (w ∷ fs) ≡ true → has_word 0 (codes "split") (w ∷ fs) ≡ false → BackFrom base_from (w ∷ fs) rows b
    → Back (node_at left) ((w ∷ fs) ∷ rows) (leaf_of b)
leaf_rows left b w fs rows plain other back more line =
    let rest = text_of rows ++ more in
    let same : fields (join_with_byte 32 (w ∷ fs)) ≡ w ∷ fs = fields_again w fs plain in
    ap (λ (t : List ℕ). node_at left (place t line)) (text_front w fs rows more)
    ∙ node_leaf left (place (spell (w ∷ fs) ++ rest) line) (place rest (line + 1)) (join_with_byte 32 (w ∷ fs)) (line_again w fs rest line plain) (ap (has_word 0 (codes "split")) same ∙ other)
    ∙ ap (λ (row : FieldRow). leaf_from row (place rest (line + 1))) same
    ∙ leaf_back b w fs rows back more (line + 1)
    ∙ ap (λ (n : ℕ). Ok (leaf_of b, place more n)) (omega arith)

leaf_again : (left : ℕ) (b : Option Fact) → IsRangedBase b → Back (node_at left) (base_rows b) (leaf_of b)
leaf_again left b h =
    let k = base_back b h in
    subst (λ (rows : List FieldRow). Back (node_at left) rows (leaf_of b)) (sym k.all) (leaf_rows left b k.word k.fs k.rows k.plain k.not_split k.back)

-- ---- splits

abbrev AllBack : ℕ → List Tree → Type 0
AllBack left parts = AllByRecursion (λ t. Back (node_at left) (node_rows t) t) parts

parts_each : (left : ℕ) (done parts : List Tree) → AllBack left parts → Each (λ before q. node_at left q) node_rows done parts
parts_each left done [] h = tt
parts_each left done (t ∷ ts) h = (h.0, parts_each left (done ++ t ∷ []) ts h.1)

abbrev given : Tree → Place → Read Tree
given t p = Ok (t, p)

split_plain : (l n : ℕ) → IsFrom 1 8 l → IsFrom 1 65535 n → list_all is_plain (split_row l n) ≡ true
split_plain l n h k = rw (decimal_plain l (omega (arith, h)), decimal_plain n (omega (arith, k))) refl

split_again : (left l : ℕ) (base : Option Fact) (parts : List Tree) → IsFrom 1 8 l → IsFrom 1 65535 (length parts) → IsRangedBase base → AllBack left parts → Back (node_at (suc left)) (node_rows (Split l base parts)) (Split l base parts)
split_again left l base parts range count is_base all more line =
    let head : FieldRow = split_row l (length parts) in
    let fs : FieldRow = decimal l ∷ decimal (length parts) ∷ [] in
    let plain = split_plain l (length parts) range count in
    let rest = flat_map node_rows parts in
    let after : List ℕ = text_of (base_rows base) ++ (text_of rest ++ more) in
    let split : text_of (node_rows (Split l base parts)) ++ more ≡ spell head ++ after =
    ap (λ (rows : List FieldRow). text_of rows ++ more) (rows_split l base parts) ∙ ap (λ (t : List ℕ). t ++ more) (text_then (head ∷ base_rows base) rest)
    ∙ append_assoc (text_of (head ∷ base_rows base)) (text_of rest) more ∙ append_assoc (spell head) (text_of (base_rows base)) (text_of rest ++ more) in
    let same : fields (join_with_byte 32 head) ≡ head = fields_again (codes "split") fs plain in
    let k : suc left - 1 ≡ left = omega arith in
    let step : node_at (suc left) (place (spell head ++ after) line) ≡ split_from (node_at left) (fields (join_with_byte 32 head)) (place after (line + 1)) =
    node_split (suc left) (place (spell head ++ after) line) (place after (line + 1)) (join_with_byte 32 head) (omega arith) (line_again (codes "split") fs after line plain) (ap (has_word 0 (codes "split")) same)
    ∙ ap (λ (n : ℕ). split_from (node_at n) (fields (join_with_byte 32 head)) (place after (line + 1))) k in
    let done = split_done (node_at left) (fields (join_with_byte 32 head)) (place after (line + 1)) (place (text_of rest ++ more) (line + 1 + length (base_rows base))) (place more (line + 1 + length (base_rows base) + length rest)) l (length parts) base parts
    (rw (same, split_line_again l (length parts) range count) refl) (base_again base is_base (text_of rest ++ more) (line + 1)) (repeat_again (λ before q. node_at left q) node_rows [] parts (parts_each left [] parts all) more (line + 1 + length (base_rows base))) in
    let rows : length (node_rows (Split l base parts)) ≡ length (head ∷ base_rows base) + length rest = ap length (rows_split l base parts) ∙ length-append (head ∷ base_rows base) rest in
    let lines : line + 1 + length (base_rows base) + length rest ≡ line + length (node_rows (Split l base parts)) = omega (arith, rows) in
    ap (λ (bs : List ℕ). node_at (suc left) (place bs line)) split ∙ step ∙ done ∙ ap (λ (n : ℕ). given (Split l base parts) (place more n)) lines

none_below : (parts : List Tree) → IsFrom 1 65535 (length parts) → AllByRecursion (λ _. ⊥) parts → ⊥
none_below [] n h = omega (arith, n)
none_below (t ∷ ts) n h = h.0

each : (P Q : Tree → Type 0) → ((t : Tree) → P t → Q t) → (ts : List Tree) → AllByRecursion P ts → AllByRecursion Q ts
each P Q f [] h = tt
each P Q f (t ∷ ts) h = (f t h.0, each P Q f ts h.1)

back_rows : (left : ℕ) (rows rows2 : List FieldRow) (t : Tree) → rows ≡ rows2 → Back (node_at left) rows2 t → Back (node_at left) rows t
back_rows left rows rows2 t e h = subst (λ (rs : List FieldRow). Back (node_at left) rs t) (sym e) h

node_again : (left : ℕ) (t : Tree) → IsRangedNode left t → Back (node_at left) (node_rows t) t
node_again zero = tree_cases (λ t. IsRangedNode zero t → Back (node_at zero) (node_rows t) t)
    (λ h. back_rows zero _ _ Unproved rows_open (leaf_again zero None tt))
    (λ f h. back_rows zero _ _ (Closed f) (rows_closed f) (leaf_again zero (Some f) (subst (IsLayer (λ _. ⊥)) (out_closed f) h)))
    (λ l base parts h. absurd (none_below parts (subst (IsLayer (λ _. ⊥)) (out_is l base parts) h).1 (subst (IsLayer (λ _. ⊥)) (out_is l base parts) h).3))
node_again (suc left) = tree_cases (λ t. IsRangedNode (suc left) t → Back (node_at (suc left)) (node_rows t) t)
    (λ h. back_rows (suc left) _ _ Unproved rows_open (leaf_again (suc left) None tt))
    (λ f h. back_rows (suc left) _ _ (Closed f) (rows_closed f) (leaf_again (suc left) (Some f) (subst (IsLayer (IsRangedNode left)) (out_closed f) h)))
    (λ l base parts h.
    let k = subst (IsLayer (IsRangedNode left)) (out_is l base parts) h in
    split_again left l base parts k.0 k.1 k.2 (each (IsRangedNode left) (λ t. Back (node_at left) (node_rows t) t) (node_again left) parts k.3))

-- the first line of a node, which is no cap
record NodeFront (t : Tree) : Type 0 where
  word : List ℕ
  fs : FieldRow
  rows : List FieldRow
  all : node_rows t ≡ (word ∷ fs) ∷ rows
  plain : list_all is_plain (word ∷ fs) ≡ true
  not_cap : has_word 0 (codes "cap") (word ∷ fs) ≡ false

node_front : (left : ℕ) (t : Tree) → IsRangedNode (suc left) t → NodeFront t
node_front left = tree_cases (λ t. IsRangedNode (suc left) t → NodeFront t)
    (λ h. record { word = codes "open"; fs = []; rows = []; all = rows_open; plain = refl; not_cap = refl })
    (λ f h. let b = fact_back f (subst (IsLayer (IsRangedNode left)) (out_closed f) h) in record { word = b.word; fs = b.fs; rows = b.rows; all = rows_closed f ∙ b.all; plain = b.plain; not_cap = b.not_cap })
    (λ l base parts h.
    let k = subst (IsLayer (IsRangedNode left)) (out_is l base parts) h in
    record { word = codes "split"; fs = decimal l ∷ decimal (length parts) ∷ []; rows = base_rows base ++ flat_map node_rows parts; all = rows_split l base parts; plain = split_plain l (length parts) k.0 k.1; not_cap = refl })

-- ---- the head

first_back : Back (first_at (codes "patrol-report 1")) ((codes "patrol-report" ∷ codes "1" ∷ []) ∷ []) tt
unfolding first_at
first_back more line =
    ap (λ (t : List ℕ). first_at (codes "patrol-report 1") (place t line)) (text_front (codes "patrol-report") (codes "1" ∷ []) [] more)
    ∙ rw (line_again (codes "patrol-report") (codes "1" ∷ []) more line refl) refl

word_value : IsWord (codes "value")
word_value = record { one = refl; same = refl; no_place = refl }

word_upper : IsWord (codes "upper")
word_upper = record { one = refl; same = refl; no_place = refl }

fraction_back : (word : List ℕ) (f : Fraction) → IsWord word → is_plain word ≡ true → IsFraction f → Back (fraction_at word) (fraction_row word f ∷ []) f
unfolding fraction_at
fraction_back word f w visible h =
    at_from (fraction_at word) (λ fs p. at_line p (fraction_of word fs) >>= λ y. Ok (y, p)) word (signed_decimal f.num ∷ signed_decimal f.den ∷ []) [] f (λ p. refl)
    (plain_front word (signed_decimal f.num ∷ signed_decimal f.den ∷ []) visible (rw (signed_plain f.num h.num, signed_plain f.den h.den) refl))
    (one_from (λ fs p. at_line p (fraction_of word fs) >>= λ y. Ok (y, p)) (fraction_of word) (fraction_row word f) f (λ p. refl) (fraction_again word f w h))

text_three : (a b c : List FieldRow) (more : List ℕ) → text_of (a ++ (b ++ c)) ++ more ≡ text_of a ++ (text_of b ++ (text_of c ++ more))
text_three a b c more =
    ap (λ (t : List ℕ). t ++ more) (text_then a (b ++ c)) ∙ append_assoc (text_of a) (text_of (b ++ c)) more
    ∙ ap (λ (t : List ℕ). text_of a ++ t) (ap (λ (t : List ℕ). t ++ more) (text_then b c) ∙ append_assoc (text_of b) (text_of c) more)

head_lines : Report → ℕ
head_lines r = 0 + 1 + length (claim_rows r.tickets) + 1

head_again : (r : Report) → IsReport r → (more : List ℕ) → head_at (place (text_of (head_rows r) ++ more) 0) ≡ Ok ((r.tickets, r.value), place more (head_lines r))
unfolding head_at head_lines
head_again r h more =
    rw (
      text_three ((codes "patrol-report" ∷ codes "1" ∷ []) ∷ []) (claim_rows r.tickets) (fraction_row (codes "value") r.value ∷ []) more,
      first_back (text_of (claim_rows r.tickets) ++ (text_of (fraction_row (codes "value") r.value ∷ []) ++ more)) 0,
      claim_back r.tickets h.tickets (text_of (fraction_row (codes "value") r.value ∷ []) ++ more) 1,
      fraction_back (codes "value") r.value word_value refl h.value more (1 + length (claim_rows r.tickets)),
    ) refl

-- ---- the caps and the tree

proof_lines : Report → ℕ → ℕ
proof_lines r line = line + length (flat_map cap_rows r.caps) + length (node_rows r.tree)

no_cap : (t : Tree) (more : List ℕ) (line : ℕ) → NodeFront t → line_begins (codes "cap") (next_line (place (text_of (node_rows t) ++ more) line)) ≡ false
no_cap t more line f =
    subst (λ (rows : List FieldRow). line_begins (codes "cap") (next_line (place (text_of rows ++ more) line)) ≡ false) (sym f.all) (begins_row f.word f.fs f.rows more line (codes "cap") f.plain ∙ f.not_cap)

proof_again : (r : Report) → IsReport r → (more : List ℕ) (line : ℕ)
    → proof_at (place (text_of (flat_map cap_rows r.caps) ++ (text_of (node_rows r.tree) ++ more)) line) ≡ Ok ((r.caps, r.tree), place more (proof_lines r line))
unfolding proof_at proof_lines
proof_again r h more line =
    let rest = text_of (node_rows r.tree) ++ more in
    rw (
      caps_again [] r.caps (length (text_of (flat_map cap_rows r.caps) ++ rest)) rest line (caps_fuel r.caps rest h.caps) h.caps (no_cap r.tree more (line + length (flat_map cap_rows r.caps)) (node_front 7 r.tree h.tree)),
      node_again 8 r.tree h.tree more (line + length (flat_map cap_rows r.caps)),
    ) refl

-- ---- the tail

fix_plain : (f : Fix) → IsRangedFix f → list_all is_plain (fix_fields f) ≡ true
fix_plain f h = rw (decimal_plain f.first (omega (arith, h.first)), decimal_plain (length f.acts) (omega (arith, h.count))) (decimals_plain f.acts (acts_from f.acts h.acts))

op_plain : (op : Op) → is_plain (op_word op) ≡ true
op_plain Sum = refl
op_plain Less = refl
op_plain Times = refl

cause_plain : (c : Cause) → IsCause c → list_all is_plain (cause_fields c) ≡ true
cause_plain (causes.Nodes n) h = rw (decimal_plain n (omega (arith, h))) refl
cause_plain (causes.Pivots n fix) h = rw (decimal_plain n (omega (arith, h.0))) (fix_plain fix h.1)
cause_plain (causes.Looks n step fix) h = rw (decimal_plain n (omega (arith, h.0)), decimal_plain step (omega (arith, h.1))) (fix_plain fix h.2)
cause_plain (causes.Wide name wide step fix) h =
    rw (decimal_plain name (omega (arith, h.0)), op_plain wide.op, signed_plain wide.left h.1, signed_plain wide.right h.2, decimal_plain step (omega (arith, h.3))) (fix_plain fix h.4)

verdict_back : (e : Ending) → IsEnding e → Back verdict_at (verdict_row e ∷ []) e
unfolding verdict_at
verdict_back Optimal h =
    at_from verdict_at (λ fs p. at_line p (verdict_of fs) >>= λ y. Ok (y, p)) (codes "verdict") (codes "optimal" ∷ []) [] Optimal (λ p. refl) refl
    (one_from (λ fs p. at_line p (verdict_of fs) >>= λ y. Ok (y, p)) verdict_of (verdict_row Optimal) Optimal (λ p. refl) (verdict_again Optimal h))
verdict_back (Gap c) h =
    at_from verdict_at (λ fs p. at_line p (verdict_of fs) >>= λ y. Ok (y, p)) (codes "verdict") (codes "gap" ∷ cause_fields c) [] (Gap c) (λ p. refl) (cause_plain c h)
    (one_from (λ fs p. at_line p (verdict_of fs) >>= λ y. Ok (y, p)) verdict_of (verdict_row (Gap c)) (Gap c) (λ p. refl) (verdict_again (Gap c) h))

end_again : (line : ℕ) → end_of (place (text_of ((codes "end" ∷ []) ∷ [])) line) ≡ Ok tt
unfolding end_of word_line_at shaped_if words_of spelled_of
end_again line = rw (line_again (codes "end") [] [] line refl) refl

tail_again : (r : Report) → IsReport r → (line : ℕ) → tail_of (place (text_of (tail_rows r)) line) ≡ Ok (r.upper, r.ending)
unfolding tail_of
tail_again r h line =
    let last : List ℕ = text_of ((codes "end" ∷ []) ∷ []) in
    rw (
      text_then (fraction_row (codes "upper") r.upper ∷ []) (verdict_row r.ending ∷ (codes "end" ∷ []) ∷ []),
      text_then (verdict_row r.ending ∷ []) ((codes "end" ∷ []) ∷ []),
      fraction_back (codes "upper") r.upper word_upper refl h.upper (text_of (verdict_row r.ending ∷ []) ++ last) line,
      verdict_back r.ending h.ending last (line + 1),
      end_again (line + 1 + 1),
    ) refl

-- ---- the whole

pub whole_again : (r : Report) → IsReport r → report_of (report_text r) ≡ Ok r
unfolding report_of
whole_again r h =
    let caps = flat_map cap_rows r.caps in
    let text : report_text r ≡ text_of (head_rows r) ++ (text_of caps ++ (text_of (node_rows r.tree) ++ text_of (tail_rows r))) =
    text_then (head_rows r) (caps ++ (node_rows r.tree ++ tail_rows r)) ∙ ap (λ (t : List ℕ). text_of (head_rows r) ++ t) (text_then caps (node_rows r.tree ++ tail_rows r) ∙ ap (λ (t : List ℕ). text_of caps ++ t) (text_then (node_rows r.tree) (tail_rows r))) in
    let all : report_of (text_of (head_rows r) ++ (text_of caps ++ (text_of (node_rows r.tree) ++ text_of (tail_rows r)))) ≡ Ok r =
    rw (
      head_again r h (text_of caps ++ (text_of (node_rows r.tree) ++ text_of (tail_rows r))),
      proof_again r h (text_of (tail_rows r)) (head_lines r),
      tail_again r h (proof_lines r (head_lines r)),
    ) refl in
    ap report_of text ∙ all
