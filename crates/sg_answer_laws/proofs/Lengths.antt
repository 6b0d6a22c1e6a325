-- How long the lines of a report's text are at most.
use Rattle.std.proofs.Common.{◌≡◌, ℕ, suc, ◌+◌, ◌-◌, ◌*◌, ◌<◌, ◌≤◌, ◌^◌, List, [], ◌∷◌, ◌++◌, length, map, length-append, ℤ, pos, negsuc, ap, ◌∙◌, refl, arith, Option, Some, None}
use Rattle.std.specs.Prelude.{codes, decimal}
use Rattle.std.specs.Fmt.{signed_decimal}
use Rattle.std.specs.List.{AllByRecursion}
use Rattle.std.proofs.lemmas.Bool.{ltb-true}
use Rattle.std.proofs.lemmas.Fmt.{length-decimal-le_wide}
use Rattle.sg_num.specs.declared.step.Op.{Op}
use Rattle.sg_num.specs.declared.step.Op.TheVariants.{Sum, Less, Times}
use Rattle.sg_num.specs.Exact.{Fits}
use Rattle.sg_frac.specs.Fractions.{Fraction}
use Rattle.sg_model.specs.declared.ticket.Ticket.{Ticket}
use Rattle.sg_tree.specs.Claims.{Claimed}
use Rattle.sg_tree.specs.declared.fact.Mark.{Mark}
use Rattle.sg_tree.specs.declared.fact.Fact.{Fact}
use Rattle.sg_tree.specs.declared.fact.Fact.TheVariants.{Plays}
use Rattle.sg_tree.specs.declared.fix.Fix.{Fix}
use Rattle.sg_tree.specs.declared.report.Cap.{Cap}
use Rattle.sg_tree.specs.declared.report.Cause.{Cause}
use Rattle.sg_tree.specs.declared.report.Cause.TheVariants as cause
use Rattle.sg_tree.specs.declared.report.Ending.{Ending}
use Rattle.sg_tree.specs.declared.report.Ending.TheVariants.{Optimal, Gap}
use Rattle.sg_tree.specs.declared.report.Report.{Report}
use Rattle.sg_cert.specs.Ranges.{IsCap, IsCause, IsClaim, IsEnding, IsFact, IsFraction, IsFrom, IsMark, IsRangedFix, IsReport, IsTicket, Rises}
use Rattle.sg_cert.specs.Text.{FieldRow, cap_row, cause_fields, claim_rows, fact_rows, fix_fields, fraction_row, head_rows, mark_row, op_word, spaced, spell, split_row, tail_rows, text_of, ticket_row, verdict_row}
use Rattle.sg_cert.proofs.Rows.{text_then}
use Rattle.sg_search.proofs.Fitting.{fits-between}

-- ---- numbers

natural_long : (n : ℕ) → n ≤ 65535 → length (decimal n) ≤ 5
natural_long n h = length-decimal-le_wide 5 n (omega arith) (omega (arith, h)) (omega (arith, h))

budget_long : (n : ℕ) → n ≤ 2 ^ 64 - 1 → length (decimal n) ≤ 20
budget_long n h = length-decimal-le_wide 20 n (omega arith) (omega (arith, h)) (omega (arith, h))

whole_long : (z : ℤ) → Fits z → length (signed_decimal z) ≤ 40
whole_long (pos n) h = let small : n < 2 ^ 127 = ltb-true n (2 ^ 127) h in omega (arith, length-decimal-le_wide 39 n (omega arith) (omega (arith, small)) (omega (arith, small)))
whole_long (negsuc n) h = let small : n < 2 ^ 127 = ltb-true n (2 ^ 127) h in omega (arith, length-decimal-le_wide 39 (suc n) (omega arith) (omega (arith, small)) (omega (arith, small)))

-- ---- lines

length-field : (f : List ℕ) (fs : List (List ℕ)) → length (spaced (f ∷ fs)) ≡ 1 + length f + length (spaced fs)
length-field f fs = omega (arith, length-append (32 ∷ f) (spaced fs))

length-line : (word : List ℕ) (fs : List (List ℕ)) → length (spell (word ∷ fs)) ≡ length word + length (spaced fs) + 1
length-line word fs = omega (arith, length-append word (spaced fs ++ 10 ∷ []), length-append (spaced fs) (10 ∷ []))

pub length-rows : (row : FieldRow) (rows : List FieldRow) → length (text_of (row ∷ rows)) ≡ length (spell row) + length (text_of rows)
length-rows row rows = length-append (spell row) (text_of rows)

pub length-both : (above below : List FieldRow) → length (text_of (above ++ below)) ≡ length (text_of above) + length (text_of below)
length-both above below = ap length (text_then above below) ∙ length-append (text_of above) (text_of below)

-- two numbers take at most 82 bytes
two_long : (a b : ℤ) (fs : List (List ℕ)) → Fits a → Fits b → length (spaced (signed_decimal a ∷ signed_decimal b ∷ fs)) ≤ 82 + length (spaced fs)
two_long a b fs p q =
    omega (arith, length-field (signed_decimal a) (signed_decimal b ∷ fs), length-field (signed_decimal b) fs, whole_long a p, whole_long b q)

fraction_long : (word : List ℕ) (f : Fraction) → IsFraction f → length (spell (fraction_row word f)) ≤ length word + 83
fraction_long word f is = omega (arith, length-line word (signed_decimal f.num ∷ signed_decimal f.den ∷ []), two_long f.num f.den [] is.num is.den)

-- ---- tickets

small_long : (cs : List ℕ) → AllByRecursion (λ c. c ≤ 65535) cs → length (spaced (map decimal cs)) ≤ length cs * 6
small_long [] h = omega arith
small_long (c ∷ cs) h = omega (arith, length-field (decimal c) (map decimal cs), natural_long c h.0, small_long cs h.1)

ticket_long : (t : Ticket) → IsTicket t → length (spell (ticket_row t)) ≤ 1243
ticket_long t is =
    let fs : List (List ℕ) = map decimal t.play.code in
    omega (arith, length-line (codes "t") (signed_decimal t.weight ∷ fs), length-field (signed_decimal t.weight) fs, whole_long t.weight is.weight, small_long t.play.code is.choices, is.count)

tickets_long : (ts : List Ticket) → AllByRecursion IsTicket ts → length (text_of (map ticket_row ts)) ≤ length ts * 1243
tickets_long [] h = omega arith
tickets_long (t ∷ ts) h = omega (arith, length-rows (ticket_row t) (map ticket_row ts), ticket_long t h.0, tickets_long ts h.1)

claim_long : (c : Claimed) → IsClaim c → length c.tickets ≤ 65535 → length (text_of (claim_rows c)) ≤ 55 + length c.tickets * 1243
claim_long c is few =
    let fs : List (List ℕ) = decimal (length c.tickets) ∷ signed_decimal c.total ∷ [] in
    omega (
      arith,
      length-rows (codes "tickets" ∷ fs) (map ticket_row c.tickets),
      length-line (codes "tickets") fs,
      length-field (decimal (length c.tickets)) (signed_decimal c.total ∷ []),
      length-field (signed_decimal c.total) [],
      natural_long (length c.tickets) few,
      whole_long c.total is.total,
      tickets_long c.tickets is.each,
    )

-- ---- facts

mark_long : (before : Option Mark) (m : Mark) → IsMark before m → length (spell (mark_row m)) ≤ 55
mark_long before m is =
    let l = is.l.1 in
    let a = is.a.1 in
    omega (
      arith,
      length-line (codes "m") (decimal m.l ∷ decimal m.a ∷ signed_decimal m.v ∷ []),
      length-field (decimal m.l) (decimal m.a ∷ signed_decimal m.v ∷ []),
      length-field (decimal m.a) (signed_decimal m.v ∷ []),
      length-field (signed_decimal m.v) [],
      natural_long m.l (omega (arith, l)),
      natural_long m.a a,
      whole_long m.v is.v.1,
    )

marks_long : (before : Option Mark) (ms : List Mark) → Rises IsMark before ms → length (text_of (map mark_row ms)) ≤ length ms * 55
marks_long before [] h = omega arith
marks_long before (m ∷ ms) h = omega (arith, length-rows (mark_row m) (map mark_row ms), mark_long before m h.0, marks_long (Some m) ms h.1)

-- a fact over plays has at most 95 bytes, and 55 for each mark
pub plays_long : (rho mu : ℤ) (marks : List Mark) → IsFact (Plays rho mu marks) → length marks ≤ 65535 → length (text_of (fact_rows (Plays rho mu marks))) ≤ 95 + length marks * 55
plays_long rho mu marks is few =
    let fs : List (List ℕ) = decimal (length marks) ∷ [] in
    omega (
      arith,
      length-rows (codes "plays" ∷ signed_decimal rho ∷ signed_decimal mu ∷ fs) (map mark_row marks),
      length-line (codes "plays") (signed_decimal rho ∷ signed_decimal mu ∷ fs),
      two_long rho mu fs is.0.first.1 is.0.second.1,
      length-field (decimal (length marks)) [],
      natural_long (length marks) few,
      marks_long None marks is.1,
    )

-- ---- caps and splits

cap_by : (l : ℕ) (z : ℤ) (fs : List Fact) → l ≤ 65535 → Fits z → length fs ≤ 65535 → length (spell (cap_row (record { l = l; v = z; proof = fs }))) ≤ 70
cap_by l z [] h fit few =
    let rest : List (List ℕ) = signed_decimal z ∷ [] in
    omega (
      arith,
      length-line (codes "cap") (decimal l ∷ codes "plain" ∷ rest),
      length-field (decimal l) (codes "plain" ∷ rest),
      length-field (codes "plain") rest,
      length-field (signed_decimal z) [],
      natural_long l h,
      whole_long z fit,
    )
cap_by l z (f ∷ fs) h fit few =
    let last : List (List ℕ) = decimal (length (f ∷ fs)) ∷ [] in
    let rest : List (List ℕ) = signed_decimal z ∷ last in
    omega (
      arith,
      length-line (codes "cap") (decimal l ∷ codes "proved" ∷ rest),
      length-field (decimal l) (codes "proved" ∷ rest),
      length-field (codes "proved") rest,
      length-field (signed_decimal z) last,
      length-field (decimal (length (f ∷ fs))) [],
      natural_long l h,
      whole_long z fit,
      natural_long (length (f ∷ fs)) few,
    )

pub cap_line_long : (c : Cap) → IsCap c → length (spell (cap_row c)) ≤ 70
cap_line_long c is =
    let high = is.l.1 in
    cap_by c.l c.v c.proof (omega (arith, high)) (fits-between (negsuc (2 ^ 63 - 1)) c.v (pos (2 ^ 63 - 1)) refl refl is.v.0 is.v.1) is.count

pub split_line_long : (l k : ℕ) → l ≤ 65535 → k ≤ 65535 → length (spell (split_row l k)) ≤ 18
split_line_long l k h j =
    omega (arith, length-line (codes "split") (decimal l ∷ decimal k ∷ []), length-field (decimal l) (decimal k ∷ []), length-field (decimal k) [], natural_long l h, natural_long k j)

-- ---- the ends

pub head_long : (r : Report) → IsReport r → length r.tickets.tickets ≤ 65535 → length (text_of (head_rows r)) ≤ 159 + length r.tickets.tickets * 1243
head_long r is few =
    let value : FieldRow = fraction_row (codes "value") r.value in
    omega (
      arith,
      length-rows (codes "patrol-report" ∷ codes "1" ∷ []) (claim_rows r.tickets ++ value ∷ []),
      length-both (claim_rows r.tickets) (value ∷ []),
      length-rows value [],
      claim_long r.tickets is.tickets few,
      fraction_long (codes "value") r.value is.value,
    )

acts_small : (acts : List ℕ) → AllByRecursion (λ a. IsFrom 1 65535 a) acts → AllByRecursion (λ a. a ≤ 65535) acts
acts_small [] h = tt
acts_small (a ∷ acts) h = (h.0.1, acts_small acts h.1)

fix_long : (f : Fix) → IsRangedFix f → length (spaced (fix_fields f)) ≤ 60
fix_long f is =
    let acts : List (List ℕ) = map decimal f.acts in
    let first = is.first.1 in
    let count = is.count.1 in
    omega (
      arith,
      length-field (decimal f.first) (decimal (length f.acts) ∷ acts),
      length-field (decimal (length f.acts)) acts,
      natural_long f.first (omega (arith, first)),
      natural_long (length f.acts) (omega (arith, count)),
      small_long f.acts (acts_small f.acts is.acts),
      count,
    )

op_long : (op : Op) → length (op_word op) ≤ 5
op_long Sum = omega arith
op_long Less = omega arith
op_long Times = omega arith

cause_long : (why : Cause) → IsCause why → length (spaced (cause_fields why)) ≤ 200
cause_long (cause.Nodes k) is =
    omega (arith, length-field (codes "nodes") (decimal k ∷ []), length-field (decimal k) [], budget_long k is.1)
cause_long (cause.Pivots k fix) is =
    let fs : List (List ℕ) = fix_fields fix in
    omega (arith, length-field (codes "pivots") (decimal k ∷ fs), length-field (decimal k) fs, budget_long k is.0.1, fix_long fix is.1)
cause_long (cause.Looks k step fix) is =
    let fs : List (List ℕ) = fix_fields fix in
    omega (
      arith,
      length-field (codes "looks") (decimal k ∷ decimal step ∷ fs),
      length-field (decimal k) (decimal step ∷ fs),
      length-field (decimal step) fs,
      budget_long k is.0.1,
      budget_long step is.1.1,
      fix_long fix is.2,
    )
cause_long (cause.Wide name w step fix) is =
    let fs : List (List ℕ) = fix_fields fix in
    let last : List (List ℕ) = decimal step ∷ fs in
    let operands : List (List ℕ) = signed_decimal w.left ∷ signed_decimal w.right ∷ last in
    let high = is.0.1 in
    omega (
      arith,
      length-field (codes "wide") (decimal name ∷ op_word w.op ∷ operands),
      length-field (decimal name) (op_word w.op ∷ operands),
      length-field (op_word w.op) operands,
      two_long w.left w.right last is.1 is.2,
      length-field (decimal step) fs,
      natural_long name (omega (arith, high)),
      op_long w.op,
      budget_long step is.3.1,
      fix_long fix is.4,
    )

verdict_long : (e : Ending) → IsEnding e → length (spell (verdict_row e)) ≤ 220
verdict_long Optimal is = omega arith
verdict_long (Gap why) is =
    let fs : List (List ℕ) = cause_fields why in
    omega (arith, length-line (codes "verdict") (codes "gap" ∷ fs), length-field (codes "gap") fs, cause_long why is)

pub tail_long : (r : Report) → IsReport r → length (text_of (tail_rows r)) ≤ 320
tail_long r is =
    let upper : FieldRow = fraction_row (codes "upper") r.upper in
    omega (
      arith,
      length-rows upper (verdict_row r.ending ∷ (codes "end" ∷ []) ∷ []),
      length-rows (verdict_row r.ending) ((codes "end" ∷ []) ∷ []),
      fraction_long (codes "upper") r.upper is.upper,
      verdict_long r.ending is.ending,
    )
