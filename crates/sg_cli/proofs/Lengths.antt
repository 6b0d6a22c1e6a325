-- How long the text of a right report is at most.
use Rattle.std.proofs.Common.{◌≡◌, ℕ, suc, ◌+◌, ◌*◌, ◌<◌, ◌≤◌, ◌^◌, Bool, true, false, MatchBool, if◌then◌else◌, cond, List, [], ◌∷◌, ◌++◌, length, map, length-append, ℤ, pos, negsuc, ap, subst, ◌∙◌, arith, inl, inr}
use Rattle.std.specs.Prelude.{codes, decimal}
use Rattle.std.specs.Fmt.{signed_decimal}
use Rattle.std.specs.List.{AllByRecursion, flat_map}
use Rattle.std.proofs.lemmas.Bool.{ltb-true}
use Rattle.std.proofs.lemmas.Fmt.{length-decimal-le_wide}
use Rattle.sg_model.specs.declared.level.Level.{Level}
use Rattle.sg_model.specs.declared.level.Level.TheVariants.{Resources, Target}
use Rattle.sg_model.specs.declared.ticket.Ticket.{Ticket}
use Rattle.sg_model.specs.Games.{Game}
use Rattle.sg_model.specs.Limits.{IsGame, is_scaled}
use Rattle.sg_cert.specs.WaterText.{reason_fields}
use Rattle.sg_model.proofs.Promises.{game_cases}
use Rattle.sg_frac.specs.Fractions.{Fraction}
use Rattle.sg_tree.specs.Claims.{Claimed}
use Rattle.sg_tree.specs.declared.fact.Fact.{Fact}
use Rattle.sg_tree.specs.declared.fact.Fact.TheVariants.{Water}
use Rattle.sg_tree.specs.declared.report.Cap.{Cap}
use Rattle.sg_tree.specs.declared.report.Ending.{Ending}
use Rattle.sg_tree.specs.declared.report.Ending.TheVariants.{Optimal}
use Rattle.sg_tree.specs.declared.report.Report.{Report}
use Rattle.sg_tree.specs.declared.tree.Tree.{Tree}
use Rattle.sg_tree.specs.declared.tree.Tree.TheVariants.{Closed}
use Rattle.sg_num.specs.Exact.{Fits}
use Rattle.sg_cert.specs.Ranges.{IsClaim, IsFact, IsFraction, IsLayer, IsLevel, IsRangedNode, IsReport, IsTicket}
use Rattle.sg_cert.specs.Text.{FieldRow, cap_rows, claim_rows, fact_rows, fraction_row, head_rows, node_rows, spaced, spell, tail_rows, text_of, ticket_row, verdict_row}
use Rattle.sg_cert.proofs.Rows.{text_then}
use Rattle.sg_cert.proofs.Trees.{out_closed, rows_closed}
use Rattle.sg_options.specs.declared.budget.Budget.{Budget}
use Rattle.sg_options.specs.declared.order.Order.{Order}
use Rattle.sg_tree.specs.declared.worked.Worked.{Worked}
use Rattle.sg_cert.specs.Text.{report_text}
use Rattle.sg_solve.specs.Answers.{IsLevelAnswer, IsSearchAnswer}
use Rattle.sg_solve.specs.Solutions.{IsOptimalReport}
use Rattle.sg_solve.proofs.Few.{right_few}
use Rattle.sg_cli.specs.Solving.{IsSolved}
use Rattle.sg_cli.specs.Laws.{RightReportsAreShort}

-- ---- numbers

natural_long : (n : ℕ) → n ≤ 65535 → length (decimal n) ≤ 5
natural_long n h = length-decimal-le_wide 5 n (omega arith) (omega (arith, h)) (omega (arith, h))

whole_long : (z : ℤ) → Fits z → length (signed_decimal z) ≤ 40
whole_long (pos n) h = let small : n < 2 ^ 127 = ltb-true n (2 ^ 127) h in omega (arith, length-decimal-le_wide 39 n (omega arith) (omega (arith, small)) (omega (arith, small)))
whole_long (negsuc n) h = let small : n < 2 ^ 127 = ltb-true n (2 ^ 127) h in omega (arith, length-decimal-le_wide 39 (suc n) (omega arith) (omega (arith, small)) (omega (arith, small)))

-- ---- lines

length-field : (f : List ℕ) (fs : List (List ℕ)) → length (spaced (f ∷ fs)) ≡ 1 + length f + length (spaced fs)
length-field f fs = omega (arith, length-append (32 ∷ f) (spaced fs))

length-line : (word : List ℕ) (fs : List (List ℕ)) → length (spell (word ∷ fs)) ≡ length word + length (spaced fs) + 1
length-line word fs = omega (arith, length-append word (spaced fs ++ 10 ∷ []), length-append (spaced fs) (10 ∷ []))

length-rows : (row : FieldRow) (rows : List FieldRow) → length (text_of (row ∷ rows)) ≡ length (spell row) + length (text_of rows)
length-rows row rows = length-append (spell row) (text_of rows)

-- two numbers take at most 82 bytes
two_long : (a b : ℤ) (fs : List (List ℕ)) → Fits a → Fits b → length (spaced (signed_decimal a ∷ signed_decimal b ∷ fs)) ≤ 82 + length (spaced fs)
two_long a b fs p q =
    omega (arith, length-field (signed_decimal a) (signed_decimal b ∷ fs), length-field (signed_decimal b) fs, whole_long a p, whole_long b q)

fraction_long : (word : List ℕ) (f : Fraction) → IsFraction f → length (spell (fraction_row word f)) ≤ length word + 83
fraction_long word f is = omega (arith, length-line word (signed_decimal f.num ∷ signed_decimal f.den ∷ []), two_long f.num f.den [] is.num is.den)

choices_long : (cs : List ℕ) → AllByRecursion (λ c. c ≤ 65535) cs → length (spaced (map decimal cs)) ≤ length cs * 6
choices_long [] h = omega arith
choices_long (c ∷ cs) h = omega (arith, length-field (decimal c) (map decimal cs), natural_long c h.0, choices_long cs h.1)

ticket_long : (t : Ticket) → IsTicket t → length (spell (ticket_row t)) ≤ 1243
ticket_long t is =
    let fs : List (List ℕ) = map decimal t.play.code in
    omega (arith, length-line (codes "t") (signed_decimal t.weight ∷ fs), length-field (signed_decimal t.weight) fs, whole_long t.weight is.weight, choices_long t.play.code is.choices, is.count)

tickets_long : (ts : List Ticket) → AllByRecursion IsTicket ts → length (text_of (map ticket_row ts)) ≤ length ts * 1243
tickets_long [] h = omega arith
tickets_long (t ∷ ts) h = omega (arith, length-rows (ticket_row t) (map ticket_row ts), ticket_long t h.0, tickets_long ts h.1)

reason_long : (why : Level) → IsLevel why → length (spaced (reason_fields why)) ≤ 13
reason_long Resources h = omega arith
reason_long (Target j) h = omega (arith, length-field (codes "target") (decimal j ∷ []), length-field (decimal j) [], natural_long j h.1)

water_long : (level : Fraction) (why : Level) → IsFact (Water level why) → length (text_of (fact_rows (Water level why))) ≤ 101
water_long level why is =
    let fs : List (List ℕ) = signed_decimal level.num ∷ signed_decimal level.den ∷ reason_fields why in
    omega (arith, length-rows (codes "water" ∷ fs) [], length-line (codes "water") fs, two_long level.num level.den (reason_fields why) is.0.num is.0.den, reason_long why is.1)

-- ---- the whole

length-both : (above below : List FieldRow) → length (text_of (above ++ below)) ≡ length (text_of above) + length (text_of below)
length-both above below = ap length (text_then above below) ∙ length-append (text_of above) (text_of below)

claim_long : (c : Claimed) → IsClaim c → length c.tickets ≤ 65535 → length (text_of (claim_rows c)) ≤ 55 + length c.tickets * 1243
claim_long c is few =
    let fs : List (List ℕ) = decimal (length c.tickets) ∷ signed_decimal c.total ∷ [] in
    omega (
      arith,
      length-rows (codes "tickets" ∷ fs) (map ticket_row c.tickets),
      length-line (codes "tickets") fs,
      length-field (decimal (length c.tickets)) (signed_decimal c.total ∷ []),
      length-field (signed_decimal c.total) [],
      natural_long (length c.tickets) few,
      whole_long c.total is.total,
      tickets_long c.tickets is.each,
    )

head_long : (r : Report) → IsReport r → length r.tickets.tickets ≤ 65535 → length (text_of (head_rows r)) ≤ 159 + length r.tickets.tickets * 1243
head_long r is few =
    let value : FieldRow = fraction_row (codes "value") r.value in
    omega (
      arith,
      length-rows (codes "patrol-report" ∷ codes "1" ∷ []) (claim_rows r.tickets ++ value ∷ []),
      length-both (claim_rows r.tickets) (value ∷ []),
      length-rows value [],
      claim_long r.tickets is.tickets few,
      fraction_long (codes "value") r.value is.value,
    )

tail_long : (r : Report) → IsReport r → r.ending ≡ Optimal → length (text_of (tail_rows r)) ≤ 108
tail_long r is ends =
    let upper : FieldRow = fraction_row (codes "upper") r.upper in
    let verdict : length (spell (verdict_row r.ending)) ≡ 16 = ap (λ (e : Ending). length (spell (verdict_row e))) ends in
    omega (
      arith,
      length-rows upper (verdict_row r.ending ∷ (codes "end" ∷ []) ∷ []),
      length-rows (verdict_row r.ending) ((codes "end" ∷ []) ∷ []),
      fraction_long (codes "upper") r.upper is.upper,
      verdict,
    )

closed_fact : (f : Fact) → IsRangedNode 8 (Closed f) → IsFact f
closed_fact f h = subst (IsLayer (IsRangedNode 7)) (out_closed f) h

tree_long : (t : Tree) (level : Fraction) (why : Level) → t ≡ Closed (Water level why) → IsRangedNode 8 t → length (text_of (node_rows t)) ≤ 101
tree_long t level why same is =
    let rows : text_of (node_rows t) ≡ text_of (fact_rows (Water level why)) = ap (λ (u : Tree). text_of (node_rows u)) same ∙ ap text_of (rows_closed (Water level why)) in
    omega (arith, ap length rows, water_long level why (closed_fact (Water level why) (subst (IsRangedNode 8) same is)))

targets_most : (g : Game) → IsGame g → length g.goals ≤ 10000
targets_most g is = elim (game_cases g is) [
  | inl s ↦ at_most (is_scaled g) (length g.goals) s.game.target_count.at_most
  | inr m ↦ omega (arith, m.game.row_count.at_most)
]
  where
    at_most : (scaled : Bool) (n : ℕ) → n ≤ cond scaled 10000 200 → n ≤ 10000
    at_most true n h = h
    at_most false n h = omega (arith, h)

level_short : (g : Game) → IsGame g → (r : Report) → IsOptimalReport g r → IsReport r → length (report_text r) ≤ 2 ^ 24
level_short g is r right ranges =
    let few : length r.tickets.tickets ≤ 10001 = omega (arith, right_few g r right, targets_most g is) in
    let caps : length (text_of (flat_map cap_rows r.caps)) ≡ 0 = ap (λ (cs : List Cap). length (text_of (flat_map cap_rows cs))) right.caps in
    omega (
      arith,
      length-both (head_rows r) (flat_map cap_rows r.caps ++ (node_rows r.tree ++ tail_rows r)),
      length-both (flat_map cap_rows r.caps) (node_rows r.tree ++ tail_rows r),
      length-both (node_rows r.tree) (tail_rows r),
      head_long r ranges (omega (arith, few)),
      caps,
      tree_long r.tree right.level right.why right.tree ranges.tree,
      tail_long r ranges right.ending,
      few,
    )

short_by : (g : Game) → IsGame g → (b : Budget) (o : Order) (r : Report) (worked : List Worked) (scaled : Bool) → MatchBool scaled (IsLevelAnswer g r worked) (IsSearchAnswer g b o r worked) → IsReport r
    → length (report_text r) ≤ (if scaled then 2 ^ 24 else 2 ^ 29)
short_by g is b o r worked true a ranges = level_short g is r a.right ranges
short_by g is b o r worked false a ranges = a.short

pub short : RightReportsAreShort
short g is b o r a = short_by g is b o r a.worked (is_scaled g) a.answer a.in_ranges

-- it is short enough for a report's file
most : (scaled : Bool) (n : ℕ) → n ≤ (if scaled then 2 ^ 24 else 2 ^ 29) → n ≤ 536870912
most true n h = omega (arith, h)
most false n h = omega (arith, h)

pub readable : (g : Game) → IsGame g → (b : Budget) (o : Order) (r : Report) → IsSolved g b o r → length (report_text r) ≤ 536870912
readable g is b o r a = most (is_scaled g) (length (report_text r)) (short g is b o r a)
