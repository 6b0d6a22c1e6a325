-- A whole report that was read is what its bytes spell, and in its ranges.
use Rattle.std.proofs.Common.{◌≡◌, ℕ, suc, zero, ◌+◌, Bool, true, false, List, [], ◌∷◌, ◌++◌, length, drop, Option, Some, None, Result, Ok, Err, refl, sym, ap, subst, ◌∙◌, arith, append_assoc}
use Rattle.std.specs.Prelude.{◌==◌, codes, decimal, bytes_eq}
use Rattle.std.specs.Fmt.{signed_decimal}
use Rattle.std.specs.List.{AllByRecursion, flat_map}
use Rattle.std.proofs.lemmas.List.{append-nil}
use Rattle.sg_frac.specs.Fractions.{Fraction}
use Rattle.sg_tree.specs.Claims.{Claimed}
use Rattle.sg_tree.specs.declared.fact.Fact.{Fact}
use Rattle.sg_tree.specs.declared.tree.Tree.{Tree}
use Rattle.sg_tree.specs.declared.tree.Tree.TheVariants.{Split}
use Rattle.sg_tree.specs.declared.tree.Tree.TheViews.{out-Tree}
use Rattle.sg_tree.specs.declared.report.Cap.{Cap}
use Rattle.sg_tree.specs.declared.report.Ending.{Ending}
use Rattle.sg_tree.specs.declared.report.Report.{Report}
use Rattle.sg_cert.specs.Place.{Place}
use Rattle.sg_cert.specs.Fields.{fields, has_word, shaped_as}
use Rattle.sg_model.specs.Steps.{◌>>=◌}
use Rattle.sg_cert.specs.Lines.{line_at, at_line, start, ended}
use Rattle.sg_cert.specs.LineReading.{fraction_of, split_of, verdict_of}
use Rattle.sg_cert.specs.Reading.{Read, repeat, claim_at, fact_from, caps_at, open_from, closed_from, base_from, base_at, leaf_of, leaf_from, split_from, node_at, fraction_at, verdict_at, word_line_at, first_at, head_at, proof_at, end_of, tail_of, report_of}
use Rattle.sg_cert.specs.Text.{FieldRow, text_of, fraction_row, claim_rows, cap_rows, base_rows, split_row, node_rows, cause_fields, verdict_row, report_text}
use Rattle.sg_cert.proofs.Rows.{text_then}
use Rattle.std.specs.Prelude.{if◌then◌else◌}
use Rattle.sg_cert.specs.declared.fault.ReportFault.{ReportFault}
use Rattle.sg_cert.specs.Reading.{deep_from}
use Rattle.sg_cert.proofs.Numbers.{bound}
use Rattle.sg_cert.proofs.LinesAgain.{IsWord}
use Rattle.sg_cert.proofs.LinesBack.{fraction_back_of, split_back, one_word}
use Rattle.sg_cert.proofs.VerdictBack.{verdict_back}
use Rattle.sg_cert.specs.Ranges.{IsReport, IsFrom, IsFraction, IsClaim, IsCap, IsRangedBase, IsLayer, IsRangedNode, IsEnding}
use Rattle.sg_cert.proofs.LinesBack.{exact}
use Rattle.std.proofs.lemmas.Slice.Eq.{bytes_eq-Decides}
use Rattle.std.proofs.lemmas.Bool.Decides.{nat_tests}
use Rattle.sg_tree.specs.declared.report.Ending.TheVariants.{Optimal, Gap}
use Rattle.sg_cert.proofs.Trees.{rows_split, rows_open, rows_closed, out_is, out_open, out_closed}
use Rattle.sg_cert.proofs.BlocksBack.{ok_is, never, line_forth, at_line_back, Took, behind_row, one_forth, Chain, repeat_forth, claim_forth}
use Rattle.sg_cert.proofs.FactsBack.{either, From, from_line, fact_forth, caps_forth}

-- ---- bases and leaves

abbrev BaseFrom : FieldRow → Place → Option Fact × Place → Type 0
BaseFrom fs p x = From (IsRangedBase x.0) (base_rows x.0) fs p.rest x.1.rest

word_open : IsWord (codes "open")
word_open = record { one = refl; same = refl; no_place = refl }

open_forth : (fs : FieldRow) (p : Place) (x : Option Fact × Place) → open_from fs p ≡ Ok x → BaseFrom fs p x
unfolding open_from
open_forth fs p x h =
    let a = bound (at_line p (shaped_as (codes "open") 1 1 fs)) (λ _. Ok (None, p)) x h in
    let s = one_word (codes "open") 1 fs a.0 word_open (at_line_back p (shaped_as (codes "open") 1 1 fs) a.0 a.1.0) in
    subst (λ (y : Option Fact × Place). BaseFrom fs p y) (ok_is (None, p) x a.1.1) (record {
      holds = tt;
      word = codes "open";
      gs = [];
      rows = [];
      whole = refl;
      line = exact (codes "open" ∷ []) (drop 1 fs) fs s.0 s.1;
      text = refl;
    })

closed_forth : (fs : FieldRow) (p : Place) (x : Option Fact × Place) → closed_from fs p ≡ Ok x → BaseFrom fs p x
unfolding closed_from
closed_forth fs p x h =
    let a = bound (fact_from fs p) (λ f. Ok (Some f.0, f.1)) x h in
    let f = fact_forth fs p a.0 a.1.0 in
    subst (λ (y : Option Fact × Place). BaseFrom fs p y) (ok_is (Some a.0.0, a.0.1) x a.1.1) (record { holds = f.holds; word = f.word; gs = f.gs; rows = f.rows; whole = f.whole; line = f.line; text = f.text })

base_from_forth : (fs : FieldRow) (p : Place) (x : Option Fact × Place) → base_from fs p ≡ Ok x → BaseFrom fs p x
base_from_forth fs p x = either (has_word 0 (codes "open") fs) (open_from fs p) (closed_from fs p) x (BaseFrom fs p x) (open_forth fs p x) (closed_forth fs p x)

base_forth : (p : Place) (x : Option Fact × Place) → base_at p ≡ Ok x → Took (IsRangedBase x.0) p.rest (base_rows x.0) x.1.rest
unfolding base_at
base_forth p x h =
    let a = bound (line_at p) (λ l. base_from (fields l.0) l.1) x h in
    from_line (IsRangedBase x.0) (base_rows x.0) p a.0 x.1.rest a.1.0 (base_from_forth (fields a.0.0) a.0.1 x a.1.1)

-- ---- the tree

abbrev NodeFrom : (Tree → Type 0) → FieldRow → Place → Tree × Place → Type 0
NodeFrom P fs p x = From (IsLayer P (out-Tree x.0)) (node_rows x.0) fs p.rest x.1.rest

leaf_is : (P : Tree → Type 0) (b : Option Fact) → IsRangedBase b → IsLayer P (out-Tree (leaf_of b))
leaf_is P None h = subst (IsLayer P) (sym out_open) tt
leaf_is P (Some f) h = subst (IsLayer P) (sym (out_closed f)) h

leaf_rows : (b : Option Fact) → node_rows (leaf_of b) ≡ base_rows b
leaf_rows None = rows_open
leaf_rows (Some f) = rows_closed f

leaf_forth : (P : Tree → Type 0) (fs : FieldRow) (p : Place) (x : Tree × Place) → leaf_from fs p ≡ Ok x → NodeFrom P fs p x
unfolding leaf_from
leaf_forth P fs p x h =
    let a = bound (base_from fs p) (λ f. Ok (leaf_of f.0, f.1)) x h in
    let b = base_from_forth fs p a.0 a.1.0 in
    subst (λ (y : Tree × Place). NodeFrom P fs p y) (ok_is (leaf_of a.0.0, a.0.1) x a.1.1)
    (record { holds = leaf_is P a.0.0 b.holds; word = b.word; gs = b.gs; rows = b.rows; whole = leaf_rows a.0.0 ∙ b.whole; line = b.line; text = b.text })

deep_forth : (P : Tree → Type 0) (fs : FieldRow) (p : Place) (x : Tree × Place) → deep_from fs p ≡ Ok x → NodeFrom P fs p x
unfolding deep_from
deep_forth P fs p x h = absurd (never _ x (bound (at_line p (split_of fs)) (λ s. Err (record { line = p.line; reason = 8 })) x h).1.1)

each_tree : (P : Tree → Type 0) (done ts : List Tree) → Chain (λ done t. P t) done ts → AllByRecursion P ts
each_tree P done [] c = tt
each_tree P done (t ∷ ts) c = (c.0, each_tree P (done ++ t ∷ []) ts c.1)

split_forth : (left : ℕ) → ((p : Place) (x : Tree × Place) → node_at left p ≡ Ok x → Took (IsRangedNode left x.0) p.rest (node_rows x.0) x.1.rest)
    → (fs : FieldRow) (p : Place) (x : Tree × Place) → split_from (node_at left) fs p ≡ Ok x → NodeFrom (IsRangedNode left) fs p x
unfolding split_from
split_forth left forth fs p x h =
    let a = bound (at_line p (split_of fs)) _ x h in
    let n = split_back fs a.0 (at_line_back p (split_of fs) a.0 a.1.0) in
    let b = bound (base_at p) _ x a.1.1 in
    let k = base_forth p b.0 b.1.0 in
    let c = bound (repeat (λ done q. node_at left q) [] a.0.1 b.0.1) _ x b.1.1 in
    let i = repeat_forth (λ done q. node_at left q) (λ done t. IsRangedNode left t) node_rows (λ done q y m. forth q y m) [] a.0.1 b.0.1 c.0 c.1.0 in
    let e : (Split a.0.0 b.0.0 c.0.0, c.0.1) ≡ x = ok_is (Split a.0.0 b.0.0 c.0.0, c.0.1) x c.1.1 in
    let count : a.0.1 ≡ length c.0.0 = sym i.count ∙ ap length i.all in
    let parts : AllByRecursion (IsRangedNode left) c.0.0 = subst (λ (ts : List Tree). AllByRecursion (IsRangedNode left) ts) i.all (each_tree (IsRangedNode left) [] i.more i.chain) in
    let text : p.rest ≡ text_of (base_rows b.0.0 ++ flat_map node_rows c.0.0) ++ c.0.1.rest =
    k.1 ∙ ap (λ (t : List ℕ). text_of (base_rows b.0.0) ++ t) (i.text ∙ ap (λ (ts : List Tree). text_of (flat_map node_rows ts) ++ c.0.1.rest) i.all)
    ∙ sym (append_assoc (text_of (base_rows b.0.0)) (text_of (flat_map node_rows c.0.0)) c.0.1.rest) ∙ ap (λ (t : List ℕ). t ++ c.0.1.rest) (sym (text_then (base_rows b.0.0) (flat_map node_rows c.0.0))) in
    subst (λ (y : Tree × Place). NodeFrom (IsRangedNode left) fs p y) e (record {
      holds = subst (IsLayer (IsRangedNode left)) (sym (out_is a.0.0 b.0.0 c.0.0)) (n.0.0, subst (λ (m : ℕ). IsFrom 1 65535 m) count n.0.1, k.0, parts);
      word = codes "split";
      gs = decimal a.0.0 ∷ decimal (length c.0.0) ∷ [];
      rows = base_rows b.0.0 ++ flat_map node_rows c.0.0;
      whole = rows_split a.0.0 b.0.0 c.0.0;
      line = n.1 ∙ ap (λ (m : ℕ). split_row a.0.0 m) count;
      text = text;
    })

node_forth : (left : ℕ) (p : Place) (x : Tree × Place) → node_at left p ≡ Ok x → Took (IsRangedNode left x.0) p.rest (node_rows x.0) x.1.rest
unfolding node_at
node_forth zero p x h =
    let a = bound (line_at p) (λ l. if has_word 0 (codes "split") (fields l.0) then deep_from (fields l.0) l.1 else leaf_from (fields l.0) l.1) x h in
    from_line (IsLayer (λ _. ⊥) (out-Tree x.0)) (node_rows x.0) p a.0 x.1.rest a.1.0
    (either (has_word 0 (codes "split") (fields a.0.0)) (deep_from (fields a.0.0) a.0.1) (leaf_from (fields a.0.0) a.0.1) x (NodeFrom (λ _. ⊥) (fields a.0.0) a.0.1 x)
    (deep_forth (λ _. ⊥) (fields a.0.0) a.0.1 x) (leaf_forth (λ _. ⊥) (fields a.0.0) a.0.1 x) a.1.1)
node_forth (suc left) p x h =
    let a = bound (line_at p) (λ l. if has_word 0 (codes "split") (fields l.0) then split_from (node_at left) (fields l.0) l.1 else leaf_from (fields l.0) l.1) x h in
    from_line (IsLayer (IsRangedNode left) (out-Tree x.0)) (node_rows x.0) p a.0 x.1.rest a.1.0
    (either (has_word 0 (codes "split") (fields a.0.0)) (split_from (node_at left) (fields a.0.0) a.0.1) (leaf_from (fields a.0.0) a.0.1) x (NodeFrom (IsRangedNode left) (fields a.0.0) a.0.1 x)
    (split_forth left (node_forth left) (fields a.0.0) a.0.1 x) (leaf_forth (IsRangedNode left) (fields a.0.0) a.0.1 x) a.1.1)

-- ---- the head and the tail

word_value : IsWord (codes "value")
word_value = record { one = refl; same = refl; no_place = refl }

word_upper : IsWord (codes "upper")
word_upper = record { one = refl; same = refl; no_place = refl }

word_end : IsWord (codes "end")
word_end = record { one = refl; same = refl; no_place = refl }

fraction_forth : (word : List ℕ) (p : Place) (x : Fraction × Place) → IsWord word → fraction_at word p ≡ Ok x → Took (IsFraction x.0) p.rest (fraction_row word x.0 ∷ []) x.1.rest
unfolding fraction_at
fraction_forth word p x w h = one_forth (fraction_of word) p x (IsFraction x.0) word (signed_decimal x.0.num ∷ signed_decimal x.0.den ∷ []) h (λ gs k. fraction_back_of word gs x.0 w k)

-- the fields of a verdict behind its first word
verdict_front : (e : Ending) → (gs : FieldRow) × (verdict_row e ≡ codes "verdict" ∷ gs)
verdict_front Optimal = (codes "optimal" ∷ [], refl)
verdict_front (Gap c) = (codes "gap" ∷ cause_fields c, refl)

verdict_forth : (p : Place) (x : Ending × Place) → verdict_at p ≡ Ok x → Took (IsEnding x.0) p.rest (verdict_row x.0 ∷ []) x.1.rest
unfolding verdict_at
verdict_forth p x h =
    let f = verdict_front x.0 in
    let t = one_forth verdict_of p x (IsEnding x.0) (codes "verdict") f.0 h (λ gs k. let b = verdict_back gs x.0 k in (b.0, b.1 ∙ f.1)) in
    (t.0, t.1 ∙ ap (λ (row : FieldRow). text_of (row ∷ []) ++ x.1.rest) (sym f.1))

first_test : (t : Bool) (q : Place) (e : ReportFault) (x : Unit {0} × Place) → ◌≡◌ {A = Read (Unit {0})} (if t then Ok (tt, q) else Err e) (Ok x) → (t ≡ true) × (q ≡ x.1)
first_test true q e x h = (refl, ap (λ (y : Unit {0} × Place). y.1) (ok_is (tt, q) x h))
first_test false q e x h = absurd (never e x h)

first_forth : (p : Place) (x : Unit {0} × Place) → first_at (codes "patrol-report 1") p ≡ Ok x → p.rest ≡ text_of ((codes "patrol-report" ∷ codes "1" ∷ []) ∷ []) ++ x.1.rest
unfolding first_at
first_forth p x h =
    let a = bound (line_at p) (λ l. if bytes_eq l.0 (codes "patrol-report 1") then Ok (tt, l.1) else Err (record { line = l.1.line; reason = 1 })) x h in
    let t = first_test (bytes_eq a.0.0 (codes "patrol-report 1")) a.0.1 (record { line = a.0.1.line; reason = 1 }) x a.1.1 in
    let same : a.0.0 ≡ codes "patrol-report 1" = (bytes_eq-Decides a.0.0 (codes "patrol-report 1")).0 t.0 in
    line_forth p a.0 a.1.0 ∙ ap (λ (l : List ℕ). l ++ 10 ∷ a.0.1.rest) same ∙ ap (λ (q : Place). codes "patrol-report 1" ++ 10 ∷ q.rest) t.1

word_line_forth : (p : Place) (x : Unit {0} × Place) → word_line_at (codes "end") p ≡ Ok x → p.rest ≡ text_of ((codes "end" ∷ []) ∷ []) ++ x.1.rest
unfolding word_line_at
word_line_forth p x h =
    let a = bound (line_at p) (λ l. at_line l.1 (shaped_as (codes "end") 1 1 (fields l.0)) >>= λ shape. Ok (tt, l.1)) x h in
    let b = bound (at_line a.0.1 (shaped_as (codes "end") 1 1 (fields a.0.0))) (λ shape. Ok (tt, a.0.1)) x a.1.1 in
    let s = one_word (codes "end") 1 (fields a.0.0) b.0 word_end (at_line_back a.0.1 (shaped_as (codes "end") 1 1 (fields a.0.0)) b.0 b.1.0) in
    let q : a.0.1 ≡ x.1 = ap (λ (y : Unit {0} × Place). y.1) (ok_is (tt, a.0.1) x b.1.1) in
    behind_row p a.0 (codes "end") [] [] a.0.1.rest a.1.0 (exact (codes "end" ∷ []) (drop 1 (fields a.0.0)) (fields a.0.0) s.0 s.1) refl
    ∙ ap (λ (r : Place). text_of ((codes "end" ∷ []) ∷ []) ++ r.rest) q

nothing_left : (bs : List ℕ) (e : ReportFault) (x : Unit {0}) → ◌≡◌ {A = Result (Unit {0}) ReportFault} (if length bs == 0 then Ok tt else Err e) (Ok x) → bs ≡ []
nothing_left [] e x h = refl
nothing_left (b ∷ bs) e x h =
    let t : (suc (length bs) == 0) ≡ false = grind (arith, nat_tests) in
    absurd (never e x (rw t at h))

end_forth : (p : Place) (x : Unit {0}) → end_of p ≡ Ok x → p.rest ≡ text_of ((codes "end" ∷ []) ∷ [])
unfolding end_of
end_forth p x h =
    let a = bound (word_line_at (codes "end") p) (λ end. ended end.1) x h in
    word_line_forth p a.0 a.1.0 ∙ ap (λ (t : List ℕ). text_of ((codes "end" ∷ []) ∷ []) ++ t) (nothing_left a.0.1.rest (record { line = a.0.1.line + 1; reason = 9 }) x a.1.1)

-- ---- the whole

-- two blocks, one behind the other
glue : (a b c : List ℕ) (xs ys : List FieldRow) → a ≡ text_of xs ++ b → b ≡ text_of ys ++ c → a ≡ text_of (xs ++ ys) ++ c
glue a b c xs ys e k = e ∙ ap (λ (t : List ℕ). text_of xs ++ t) k ∙ sym (append_assoc (text_of xs) (text_of ys) c) ∙ ap (λ (t : List ℕ). t ++ c) (sym (text_then xs ys))

abbrev first_row : FieldRow
first_row = codes "patrol-report" ∷ codes "1" ∷ []

abbrev head_of : Claimed → Fraction → List FieldRow
head_of c f = first_row ∷ (claim_rows c ++ fraction_row (codes "value") f ∷ [])

head_forth : (p : Place) (x : (Claimed × Fraction) × Place) → head_at p ≡ Ok x → Took (IsClaim x.0.0 × IsFraction x.0.1) p.rest (head_of x.0.0 x.0.1) x.1.rest
unfolding head_at
head_forth p x h =
    let f = bound (first_at (codes "patrol-report 1") p) _ x h in
    let t = bound (claim_at f.0.1) _ x f.1.1 in
    let v = bound (fraction_at (codes "value") t.0.1) _ x t.1.1 in
    let claim = claim_forth f.0.1 t.0 t.1.0 in
    let value = fraction_forth (codes "value") t.0.1 v.0 word_value v.1.0 in
    let text = glue p.rest f.0.1.rest v.0.1.rest (first_row ∷ []) (claim_rows t.0.0 ++ fraction_row (codes "value") v.0.0 ∷ []) (first_forth p f.0 f.1.0)
    (glue f.0.1.rest t.0.1.rest v.0.1.rest (claim_rows t.0.0) (fraction_row (codes "value") v.0.0 ∷ []) claim.1 value.1) in
    subst (λ (y : (Claimed × Fraction) × Place). Took (IsClaim y.0.0 × IsFraction y.0.1) p.rest (head_of y.0.0 y.0.1) y.1.rest) (ok_is ((t.0.0, v.0.0), v.0.1) x v.1.1) ((claim.0, value.0), text)

proof_forth : (p : Place) (x : (List Cap × Tree) × Place) → proof_at p ≡ Ok x → Took (AllByRecursion IsCap x.0.0 × IsRangedNode 8 x.0.1) p.rest (flat_map cap_rows x.0.0 ++ node_rows x.0.1) x.1.rest
unfolding proof_at
proof_forth p x h =
    let c = bound (caps_at [] (length p.rest) p) _ x h in
    let n = bound (node_at 8 c.0.1) _ x c.1.1 in
    let caps = caps_forth [] (length p.rest) p c.0 c.1.0 in
    let node = node_forth 8 c.0.1 n.0 n.1.0 in
    let each : AllByRecursion IsCap c.0.0 = subst (λ (cs : List Cap). AllByRecursion IsCap cs) caps.all caps.each in
    let front : p.rest ≡ text_of (flat_map cap_rows c.0.0) ++ c.0.1.rest = caps.text ∙ ap (λ (cs : List Cap). text_of (flat_map cap_rows cs) ++ c.0.1.rest) caps.all in
    subst (λ (y : (List Cap × Tree) × Place). Took (AllByRecursion IsCap y.0.0 × IsRangedNode 8 y.0.1) p.rest (flat_map cap_rows y.0.0 ++ node_rows y.0.1) y.1.rest) (ok_is ((c.0.0, n.0.0), n.0.1) x n.1.1)
    ((each, node.0), glue p.rest c.0.1.rest n.0.1.rest (flat_map cap_rows c.0.0) (node_rows n.0.0) front node.1)

abbrev tail_rows_of : Fraction → Ending → List FieldRow
tail_rows_of f e = fraction_row (codes "upper") f ∷ verdict_row e ∷ (codes "end" ∷ []) ∷ []

tail_forth : (p : Place) (x : Fraction × Ending) → tail_of p ≡ Ok x → (IsFraction x.0 × IsEnding x.1) × (p.rest ≡ text_of (tail_rows_of x.0 x.1))
unfolding tail_of
tail_forth p x h =
    let u = bound (fraction_at (codes "upper") p) _ x h in
    let w = bound (verdict_at u.0.1) _ x u.1.1 in
    let z = bound (end_of w.0.1) _ x w.1.1 in
    let upper = fraction_forth (codes "upper") p u.0 word_upper u.1.0 in
    let verdict = verdict_forth u.0.1 w.0 w.1.0 in
    let end : w.0.1.rest ≡ text_of ((codes "end" ∷ []) ∷ []) ++ [] = end_forth w.0.1 z.0 z.1.0 ∙ sym (append-nil (text_of ((codes "end" ∷ []) ∷ []))) in
    let text = glue p.rest u.0.1.rest [] (fraction_row (codes "upper") u.0.0 ∷ []) (verdict_row w.0.0 ∷ (codes "end" ∷ []) ∷ []) upper.1
    (glue u.0.1.rest w.0.1.rest [] (verdict_row w.0.0 ∷ []) ((codes "end" ∷ []) ∷ []) verdict.1 end) in
    subst (λ (y : Fraction × Ending). (IsFraction y.0 × IsEnding y.1) × (p.rest ≡ text_of (tail_rows_of y.0 y.1))) (ok_is (u.0.0, w.0.0) x z.1.1)
    ((upper.0, verdict.0), text ∙ append-nil (text_of (tail_rows_of u.0.0 w.0.0)))

pub whole_forth : (bytes : List ℕ) (r : Report) → report_of bytes ≡ Ok r → IsReport r × (report_text r ≡ bytes)
unfolding report_of
whole_forth bytes r h =
    let a = bound (head_at (start bytes)) _ r h in
    let b = bound (proof_at a.0.1) _ r a.1.1 in
    let d = bound (tail_of b.0.1) _ r b.1.1 in
    let head = head_forth (start bytes) a.0 a.1.0 in
    let proof = proof_forth a.0.1 b.0 b.1.0 in
    let tail = tail_forth b.0.1 d.0 d.1.0 in
    let end : b.0.1.rest ≡ text_of (tail_rows_of d.0.0 d.0.1) ++ [] = tail.1 ∙ sym (append-nil (text_of (tail_rows_of d.0.0 d.0.1))) in
    let caps = flat_map cap_rows b.0.0.0 in
    let nodes = node_rows b.0.0.1 in
    let ends = tail_rows_of d.0.0 d.0.1 in
    let text : bytes ≡ text_of (head_of a.0.0.0 a.0.0.1 ++ ((caps ++ nodes) ++ ends)) ++ [] =
    glue bytes a.0.1.rest [] (head_of a.0.0.0 a.0.0.1) ((caps ++ nodes) ++ ends) head.1 (glue a.0.1.rest b.0.1.rest [] (caps ++ nodes) ends proof.1 end) in
    let same : text_of (head_of a.0.0.0 a.0.0.1 ++ (caps ++ (nodes ++ ends))) ≡ bytes =
    ap (λ (rows : List FieldRow). text_of (head_of a.0.0.0 a.0.0.1 ++ rows)) (sym (append_assoc caps nodes ends)) ∙ sym (append-nil (text_of (head_of a.0.0.0 a.0.0.1 ++ ((caps ++ nodes) ++ ends)))) ∙ sym text in
    subst (λ (y : Report). IsReport y × (report_text y ≡ bytes)) (ok_is _ r d.1.1)
    (record { tickets = head.0.0; value = head.0.1; caps = proof.0.0; tree = proof.0.1; upper = tail.0.0; ending = tail.0.1 }, same)
