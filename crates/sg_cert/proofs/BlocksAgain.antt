-- Blocks of lines are read again: tickets, facts and caps.
use Rattle.std.proofs.Common.{◌≡◌, ℕ, suc, zero, ◌+◌, ◌<◌, ◌≤◌, ◌-◌, ◌^◌, true, false, not, ◌&&◌, List, [], ◌∷◌, ◌++◌, length, map, Option, None, Result, Ok, ℤ, pos, negsuc, refl, sym, ap, subst, ◌∙◌, arith, append_assoc, add-zero}
use Rattle.std.specs.Prelude.{◌==◌, codes, decimal, int_le}
use Rattle.std.specs.Fmt.{signed_decimal}
use Rattle.std.specs.Option.{option_map}
use Rattle.std.specs.List.{list_all, AllByRecursion, flat_map}
use Rattle.std.proofs.lemmas.List.{length-append, append-nil}
use Rattle.std.proofs.lemmas.Bool.{lt-ltb}
use Rattle.std.proofs.lemmas.Int.{ints}
use Rattle.std.specs.Prelude.{◌≤ℤ◌}
use Rattle.sg_model.specs.declared.level.Level.TheVariants.{Resources, Target}
use Rattle.sg_model.specs.declared.ticket.Ticket.{Ticket}
use Rattle.sg_num.specs.Exact.{fits}
use Rattle.sg_frac.specs.Fractions.{Fraction}
use Rattle.sg_tree.specs.Claims.{Claimed, comes_before, is_claim_rising, are_positive, is_claim}
use Rattle.sg_tree.specs.declared.fact.Mark.{Mark}
use Rattle.sg_tree.specs.declared.fact.Line.{Line}
use Rattle.sg_tree.specs.declared.fact.Fact.{Fact}
use Rattle.sg_tree.specs.declared.fact.Fact.TheVariants.{Plays, Cover, Water}
use Rattle.sg_tree.specs.declared.report.Cap.{Cap}
use Rattle.sg_cert.specs.Place.{Place}
use Rattle.sg_cert.specs.Fields.{fields, has_word}
use Rattle.sg_model.specs.Steps.{◌>>=◌}
use Rattle.sg_cert.specs.Lines.{line_at, at_line, next_line}
use Rattle.sg_cert.specs.LineReading.{follows, counts_of, ticket_of, mark_of, multiplier_of, water_of, cap_head_of}
use Rattle.sg_cert.specs.Reading.{Read, repeat, last, last_play, ticket_at, claim_at, mark_at, row_at, plays_from, cover_from, water_from, fact_from, fact_at, cap_from, cap_at, line_begins, caps_at}
use Rattle.sg_cert.specs.Text.{FieldRow, spell, text_of, ticket_row, claim_rows, mark_row, line_row, fact_rows, cap_row, cap_rows}
use Rattle.sg_cert.specs.Ranges.{IsFrom, Rises, IsFraction, IsTicket, IsClaim, IsMark, IsRangedLine, IsHeader, IsFact, IsCap}
use Rattle.sg_cert.proofs.Cut.{both}
use Rattle.sg_cert.proofs.Rows.{text_then}
use Rattle.sg_cert.proofs.Rising.{last_push}
use Rattle.sg_cert.proofs.LinesAgain.{IsWord, counts_again, ticket_again, mark_again, row_again, header_again, spent_again, target_again, plain_again, proved_again}
use Rattle.sg_cert.proofs.Spelled.{is_plain, decimal_plain, signed_plain, decimals_plain, fields_again, place, line_again, next_again}

-- reading from these rows on gives this value and what follows the rows
abbrev pub Back : {A : Type 0} → (Place → Read A) → List FieldRow → A → Type 0
Back read rows x = (more : List ℕ) (line : ℕ) → read (place (text_of rows ++ more) line) ≡ Ok (x, place more (line + length rows))

-- the same behind a line that was read
abbrev pub BackFrom : {A : Type 0} → (FieldRow → Place → Read A) → FieldRow → List FieldRow → A → Type 0
BackFrom from row rows x = (more : List ℕ) (line : ℕ) → from row (place (text_of rows ++ more) line) ≡ Ok (x, place more (line + length rows))

pub plain_front : (f : List ℕ) (fs : FieldRow) → is_plain f ≡ true → list_all is_plain fs ≡ true → list_all is_plain (f ∷ fs) ≡ true
plain_front f fs h k = rw (h, k) refl

count_more : (line n : ℕ) → line + 1 + n ≡ line + suc n
count_more line n = omega arith

-- a line, and what follows it
pub at_from : {A : Type 0} (read : Place → Read A) (from : FieldRow → Place → Read A) (w : List ℕ) (fs : FieldRow) (rows : List FieldRow) (x : A)
    → ((p : Place) → read p ≡ (line_at p >>= λ l. from (fields l.0) l.1)) → list_all is_plain (w ∷ fs) ≡ true → BackFrom from (w ∷ fs) rows x → Back read ((w ∷ fs) ∷ rows) x
at_from read from w fs rows x opens plain back more line =
    let e : text_of ((w ∷ fs) ∷ rows) ++ more ≡ spell (w ∷ fs) ++ (text_of rows ++ more) = append_assoc (spell (w ∷ fs)) (text_of rows) more in
    ap (λ (t : List ℕ). read (place t line)) e
    ∙ opens (place (spell (w ∷ fs) ++ (text_of rows ++ more)) line)
    ∙ ap (λ (l : Result (List ℕ × Place) _). l >>= λ l. from (fields l.0) l.1) (line_again w fs (text_of rows ++ more) line plain)
    ∙ ap (λ (row : FieldRow). from row (place (text_of rows ++ more) (line + 1))) (fields_again w fs plain)
    ∙ back more (line + 1)
    ∙ ap (λ (n : ℕ). Ok (x, place more n)) (count_more line (length rows))

-- a line alone
pub one_from : {A : Type 0} (from : FieldRow → Place → Read A) (parse : FieldRow → Result A ℕ) (row : FieldRow) (x : A)
    → ((p : Place) → from row p ≡ (at_line p (parse row) >>= λ y. Ok (y, p))) → parse row ≡ Ok x → BackFrom from row [] x
one_from from parse row x opens parsed more line =
    opens (place more line) ∙ rw parsed (ap (λ (n : ℕ). Ok (x, place more n)) (sym (add-zero line)))

-- ---- items one after the other

abbrev pub Each : {A : Type 0} → (List A → Place → Read A) → (A → List FieldRow) → List A → List A → Type 0
Each item rows done [] = Unit {0}
Each item rows done (x ∷ xs) = Back (item done) (rows x) x × Each item rows (done ++ x ∷ []) xs

pub repeat_again : {A : Type 0} (item : List A → Place → Read A) (rows : A → List FieldRow) (done xs : List A) → Each item rows done xs → Back (repeat item done (length xs)) (flat_map rows xs) (done ++ xs)
unfolding repeat
repeat_again item rows done [] h more line = rw (append-nil done, add-zero line) refl
repeat_again item rows done (x ∷ xs) h more line =
    let text : text_of (flat_map rows (x ∷ xs)) ++ more ≡ text_of (rows x) ++ (text_of (flat_map rows xs) ++ more) =
    ap (λ (t : List ℕ). t ++ more) (text_then (rows x) (flat_map rows xs)) ∙ append_assoc (text_of (rows x)) (text_of (flat_map rows xs)) more in
    let ih = repeat_again item rows (done ++ x ∷ []) xs h.1 more (line + length (rows x)) in
    let lines : (line + length (rows x)) + length (flat_map rows xs) ≡ line + length (flat_map rows (x ∷ xs)) = omega (arith, length-append (rows x) (flat_map rows xs)) in
    rw (text, h.0 (text_of (flat_map rows xs) ++ more) line) (ih ∙ rw (append_assoc done (x ∷ []) xs, lines) refl)

single_rows : {A : Type 0} (row : A → FieldRow) (xs : List A) → flat_map (λ (x : A). row x ∷ []) xs ≡ map row xs
single_rows row [] = refl
single_rows row (x ∷ xs) = ap (λ (rs : List FieldRow). row x ∷ rs) (single_rows row xs)

pub repeat_lines : {A : Type 0} (item : List A → Place → Read A) (row : A → FieldRow) (xs : List A) → Each item (λ (x : A). row x ∷ []) [] xs → Back (repeat item [] (length xs)) (map row xs) xs
repeat_lines {A = A} item row xs h = subst (λ (rows : List FieldRow). Back (repeat item [] (length xs)) rows xs) (single_rows row xs) (repeat_again item (λ (x : A). row x ∷ []) [] xs h)

-- ---- tickets

ticket_back : (done : List Ticket) (t : Ticket) → IsTicket t → int_le (pos 1) t.weight ≡ true → follows (last_play done) t.play.code ≡ true → Back (ticket_at done) (ticket_row t ∷ []) t
unfolding ticket_at
ticket_back done t h low order =
    at_from (ticket_at done) (λ fs p. at_line p (ticket_of (last_play done) fs) >>= λ y. Ok (y, p)) (codes "t") (signed_decimal t.weight ∷ map decimal t.play.code) [] t (λ p. refl)
    (plain_front (signed_decimal t.weight) (map decimal t.play.code) (signed_plain t.weight h.weight) (decimals_plain t.play.code h.choices))
    (one_from (λ fs p. at_line p (ticket_of (last_play done) fs) >>= λ y. Ok (y, p)) (ticket_of (last_play done)) (ticket_row t) t (λ p. refl) (ticket_again (last_play done) t h low order))

tickets_each : (done : List Ticket) (t : Ticket) (ts : List Ticket) → follows (last_play done) t.play.code ≡ true → is_claim_rising (t ∷ ts) ≡ true → are_positive (t ∷ ts) ≡ true → AllByRecursion IsTicket (t ∷ ts)
    → Each ticket_at (λ (x : Ticket). ticket_row x ∷ []) done (t ∷ ts)
tickets_each done t [] order rising positive h = (ticket_back done t h.0 (both (int_le (pos 1) t.weight) true positive).0 order, tt)
tickets_each done t (u ∷ us) order rising positive h =
    let r = both (comes_before t.play.code u.play.code) (is_claim_rising (u ∷ us)) rising in
    let p = both (int_le (pos 1) t.weight) (are_positive (u ∷ us)) positive in
    let next : follows (last_play (done ++ t ∷ [])) u.play.code ≡ true = ap (λ (l : Option Ticket). follows (option_map (λ (w : Ticket). w.play.code) l) u.play.code) (last_push done t) ∙ r.0 in
    (ticket_back done t h.0 p.0 order, tickets_each (done ++ t ∷ []) u us next r.1 p.1 h.1)

tickets_all : (ts : List Ticket) → is_claim ts ≡ true → AllByRecursion IsTicket ts → Each ticket_at (λ (x : Ticket). ticket_row x ∷ []) [] ts
tickets_all [] h k = tt
tickets_all (t ∷ ts) h k =
    let a = both (not (length (t ∷ ts) == 0)) (are_positive (t ∷ ts) && is_claim_rising (t ∷ ts)) h in
    let b = both (are_positive (t ∷ ts)) (is_claim_rising (t ∷ ts)) a.1 in
    tickets_each [] t ts refl b.1 b.0 k

some_tickets : (ts : List Ticket) → is_claim ts ≡ true → 1 ≤ length ts
some_tickets [] h = absurd (let w : false ≡ true = h in cc)
some_tickets (t ∷ ts) h = omega arith

pub claim_back : (c : Claimed) → IsClaim c → Back claim_at (claim_rows c) c
unfolding claim_at
claim_back c h =
    let some = some_tickets c.tickets h.rules in
    let small : length c.tickets < 2 ^ 128 = omega (arith, h.count) in
    let plain : list_all is_plain (decimal (length c.tickets) ∷ signed_decimal c.total ∷ []) ≡ true = rw (decimal_plain (length c.tickets) small, signed_plain c.total h.total) refl in
    at_from claim_at (λ fs p. at_line p (counts_of fs) >>= λ n. (repeat ticket_at [] n.0 p >>= λ ts. Ok (record { tickets = ts.0; total = n.1 }, ts.1)))
    (codes "tickets") (decimal (length c.tickets) ∷ signed_decimal c.total ∷ []) (map ticket_row c.tickets) c (λ p. refl) plain
    (λ more line. rw (counts_again (length c.tickets) c.total (some, h.count) h.total, repeat_lines ticket_at ticket_row c.tickets (tickets_all c.tickets h.rules h.each) more line) refl)

-- ---- facts

mark_back : (done : List Mark) (m : Mark) → IsMark (last done) m → Back (mark_at done) (mark_row m ∷ []) m
unfolding mark_at
mark_back done m h =
    let plain : list_all is_plain (decimal m.l ∷ decimal m.a ∷ signed_decimal m.v ∷ []) ≡ true =
    rw (decimal_plain m.l (omega (arith, h.l)), decimal_plain m.a (omega (arith, h.a)), signed_plain m.v h.v.1) refl in
    at_from (mark_at done) (λ fs p. at_line p (mark_of (last done) fs) >>= λ y. Ok (y, p)) (codes "m") (decimal m.l ∷ decimal m.a ∷ signed_decimal m.v ∷ []) [] m (λ p. refl) plain
    (one_from (λ fs p. at_line p (mark_of (last done) fs) >>= λ y. Ok (y, p)) (mark_of (last done)) (mark_row m) m (λ p. refl) (mark_again (last done) m h))

marks_each : (done ms : List Mark) → Rises IsMark (last done) ms → Each mark_at (λ (x : Mark). mark_row x ∷ []) done ms
marks_each done [] h = tt
marks_each done (m ∷ ms) h = (mark_back done m h.0, marks_each (done ++ m ∷ []) ms (subst (λ (b : Option Mark). Rises IsMark b ms) (sym (last_push done m)) h.1))

row_back : (done : List Line) (c : Line) → IsRangedLine (last done) c → Back (row_at done) (line_row c ∷ []) c
unfolding row_at
row_back done c h =
    let plain : list_all is_plain (decimal c.row ∷ signed_decimal c.v ∷ []) ≡ true = rw (decimal_plain c.row (omega (arith, h.row)), signed_plain c.v h.v.1) refl in
    at_from (row_at done) (λ fs p. at_line p (multiplier_of (last done) fs) >>= λ y. Ok (y, p)) (codes "c") (decimal c.row ∷ signed_decimal c.v ∷ []) [] c (λ p. refl) plain
    (one_from (λ fs p. at_line p (multiplier_of (last done) fs) >>= λ y. Ok (y, p)) (multiplier_of (last done)) (line_row c) c (λ p. refl) (row_again (last done) c h))

rows_each : (done cs : List Line) → Rises IsRangedLine (last done) cs → Each row_at (λ (x : Line). line_row x ∷ []) done cs
rows_each done [] h = tt
rows_each done (c ∷ cs) h = (row_back done c h.0, rows_each (done ++ c ∷ []) cs (subst (λ (b : Option Line). Rises IsRangedLine b cs) (sym (last_push done c)) h.1))

word_plays : IsWord (codes "plays")
word_plays = record { one = refl; same = refl; no_place = refl }

word_cover : IsWord (codes "cover")
word_cover = record { one = refl; same = refl; no_place = refl }

plays_back : (rho mu : ℤ) (marks : List Mark) → IsHeader rho mu (length marks) → Rises IsMark None marks
    → BackFrom plays_from (codes "plays" ∷ signed_decimal rho ∷ signed_decimal mu ∷ decimal (length marks) ∷ []) (map mark_row marks) (Plays rho mu marks)
unfolding plays_from
plays_back rho mu marks h k more line = rw (header_again (codes "plays") rho mu (length marks) word_plays h, repeat_lines mark_at mark_row marks (marks_each [] marks k) more line) refl

cover_back : (rho mu : ℤ) (lines : List Line) → IsHeader rho mu (length lines) → Rises IsRangedLine None lines
    → BackFrom cover_from (codes "cover" ∷ signed_decimal rho ∷ signed_decimal mu ∷ decimal (length lines) ∷ []) (map line_row lines) (Cover rho mu lines)
unfolding cover_from
cover_back rho mu lines h k more line = rw (header_again (codes "cover") rho mu (length lines) word_cover h, repeat_lines row_at line_row lines (rows_each [] lines k) more line) refl

spent_back : (f : Fraction) → IsFraction f → BackFrom water_from (codes "water" ∷ signed_decimal f.num ∷ signed_decimal f.den ∷ codes "resources" ∷ []) [] (Water f Resources)
unfolding water_from
spent_back f h = one_from water_from water_of (codes "water" ∷ signed_decimal f.num ∷ signed_decimal f.den ∷ codes "resources" ∷ []) (Water f Resources) (λ p. refl) (spent_again f h)

target_back : (f : Fraction) (j : ℕ) → IsFraction f → IsFrom 1 65535 j → BackFrom water_from (codes "water" ∷ signed_decimal f.num ∷ signed_decimal f.den ∷ codes "target" ∷ decimal j ∷ []) [] (Water f (Target j))
unfolding water_from
target_back f j h k = one_from water_from water_of (codes "water" ∷ signed_decimal f.num ∷ signed_decimal f.den ∷ codes "target" ∷ decimal j ∷ []) (Water f (Target j)) (λ p. refl) (target_again f j h k)

header_plain : (rho mu : ℤ) (k : ℕ) → IsHeader rho mu k → list_all is_plain (signed_decimal rho ∷ signed_decimal mu ∷ decimal k ∷ []) ≡ true
header_plain rho mu k h = rw (signed_plain rho h.first.1, signed_plain mu h.second.1, decimal_plain k (omega (arith, h.count))) refl

-- a fact by cases: how it is read behind its first line, which is plain and is neither open nor a split
pub record FactBack (f : Fact) : Type 0 where
  pub word : List ℕ
  pub fs : FieldRow
  pub rows : List FieldRow
  pub all : fact_rows f ≡ (word ∷ fs) ∷ rows
  pub plain : list_all is_plain (word ∷ fs) ≡ true
  pub not_open : has_word 0 (codes "open") (word ∷ fs) ≡ false
  pub not_split : has_word 0 (codes "split") (word ∷ fs) ≡ false
  pub not_cap : has_word 0 (codes "cap") (word ∷ fs) ≡ false
  pub back : BackFrom fact_from (word ∷ fs) rows f

pub fact_back : (f : Fact) → IsFact f → FactBack f
fact_back (Plays rho mu marks) h = record {
  word = codes "plays";
  fs = signed_decimal rho ∷ signed_decimal mu ∷ decimal (length marks) ∷ [];
  rows = map mark_row marks;
  all = refl;
  plain = header_plain rho mu (length marks) h.0;
  not_open = refl;
  not_split = refl;
  not_cap = refl;
  back = plays_back rho mu marks h.0 h.1;
}
fact_back (Cover rho mu lines) h = record {
  word = codes "cover";
  fs = signed_decimal rho ∷ signed_decimal mu ∷ decimal (length lines) ∷ [];
  rows = map line_row lines;
  all = refl;
  plain = header_plain rho mu (length lines) h.0;
  not_open = refl;
  not_split = refl;
  not_cap = refl;
  back = cover_back rho mu lines h.0 h.1;
}
fact_back (Water f Resources) h = record {
  word = codes "water";
  fs = signed_decimal f.num ∷ signed_decimal f.den ∷ codes "resources" ∷ [];
  rows = [];
  all = refl;
  plain = rw (signed_plain f.num h.0.num, signed_plain f.den h.0.den) refl;
  not_open = refl;
  not_split = refl;
  not_cap = refl;
  back = spent_back f h.0;
}
fact_back (Water f (Target j)) h = record {
  word = codes "water";
  fs = signed_decimal f.num ∷ signed_decimal f.den ∷ codes "target" ∷ decimal j ∷ [];
  rows = [];
  all = refl;
  plain = rw (signed_plain f.num h.0.num, signed_plain f.den h.0.den, decimal_plain j (omega (arith, h.1))) refl;
  not_open = refl;
  not_split = refl;
  not_cap = refl;
  back = target_back f j h.0 h.1;
}

pub fact_again : (f : Fact) → IsFact f → Back fact_at (fact_rows f) f
unfolding fact_at
fact_again f h =
    let b = fact_back f h in
    subst (λ (rows : List FieldRow). Back fact_at rows f) (sym b.all) (at_from fact_at fact_from b.word b.fs b.rows f (λ p. refl) b.plain b.back)

facts_each : (done fs : List Fact) → AllByRecursion IsFact fs → Each (λ done q. fact_at q) fact_rows done fs
facts_each done [] h = tt
facts_each done (f ∷ fs) h = (fact_again f h.0, facts_each (done ++ f ∷ []) fs h.1)

-- ---- caps

pub record CapBack (c : Cap) : Type 0 where
  pub fs : FieldRow
  pub all : cap_row c ≡ codes "cap" ∷ fs
  pub plain : list_all is_plain (codes "cap" ∷ fs) ≡ true
  pub back : BackFrom cap_from (codes "cap" ∷ fs) (flat_map fact_rows c.proof) c

cap_line : (l n : ℕ) (v : ℤ) (proof : List Fact) (fs : FieldRow) → cap_head_of (codes "cap" ∷ fs) ≡ Ok (l, v, length proof) → AllByRecursion IsFact proof
    → BackFrom cap_from (codes "cap" ∷ fs) (flat_map fact_rows proof) (record { l = l; v = v; proof = proof })
unfolding cap_from
cap_line l n v proof fs parsed h more line = rw (parsed, repeat_again (λ done q. fact_at q) fact_rows [] proof (facts_each [] proof h) more line) refl

cap_fits : (v : ℤ) → (negsuc (2 ^ 63 - 1) ≤ℤ v) × (v ≤ℤ pos (2 ^ 63 - 1)) → fits v ≡ true
cap_fits (pos n) h = lt-ltb n (2 ^ 127) (omega (arith, ints, h))
cap_fits (negsuc n) h = lt-ltb n (2 ^ 127) (omega (arith, ints, h))

cap_cases : (l : ℕ) (v : ℤ) (proof : List Fact) → IsCap (record { l = l; v = v; proof = proof }) → CapBack (record { l = l; v = v; proof = proof })
cap_cases l v [] h = record {
  fs = decimal l ∷ codes "plain" ∷ signed_decimal v ∷ [];
  all = refl;
  plain = rw (decimal_plain l (omega (arith, h.l)), signed_plain v (cap_fits v h.v)) refl;
  back = cap_line l 0 v [] (decimal l ∷ codes "plain" ∷ signed_decimal v ∷ []) (plain_again l v h.l h.v) tt;
}
cap_cases l v (f ∷ fs) h =
    let some : 1 ≤ length (f ∷ fs) = omega arith in
    record {
      fs = decimal l ∷ codes "proved" ∷ signed_decimal v ∷ decimal (length (f ∷ fs)) ∷ [];
      all = refl;
      plain = rw (decimal_plain l (omega (arith, h.l)), signed_plain v (cap_fits v h.v), decimal_plain (length (f ∷ fs)) (omega (arith, h.count))) refl;
      back = cap_line l 0 v (f ∷ fs) (decimal l ∷ codes "proved" ∷ signed_decimal v ∷ decimal (length (f ∷ fs)) ∷ []) (proved_again l (length (f ∷ fs)) v h.l h.v (some, h.count)) h.proof;
    }

pub cap_back : (c : Cap) → IsCap c → CapBack c
cap_back c h = cap_cases c.l c.v c.proof h

pub cap_again : (c : Cap) → IsCap c → Back cap_at (cap_rows c) c
unfolding cap_at
cap_again c h =
    let b = cap_back c h in
    subst (λ (row : FieldRow). Back cap_at (row ∷ flat_map fact_rows c.proof) c) (sym b.all) (at_from cap_at cap_from (codes "cap") b.fs (flat_map fact_rows c.proof) c (λ p. refl) b.plain b.back)

text_front : (w : List ℕ) (fs : FieldRow) (rows : List FieldRow) (more : List ℕ) → text_of ((w ∷ fs) ∷ rows) ++ more ≡ spell (w ∷ fs) ++ (text_of rows ++ more)
text_front w fs rows more = append_assoc (spell (w ∷ fs)) (text_of rows) more

-- whether what follows begins with a cap
pub begins_row : (w : List ℕ) (fs : FieldRow) (rows : List FieldRow) (more : List ℕ) (line : ℕ) (word : List ℕ) → list_all is_plain (w ∷ fs) ≡ true
    → line_begins word (next_line (place (text_of ((w ∷ fs) ∷ rows) ++ more) line)) ≡ has_word 0 word (w ∷ fs)
begins_row w fs rows more line word plain =
    ap (λ (t : List ℕ). line_begins word (next_line (place t line))) (text_front w fs rows more)
    ∙ ap (line_begins word) (next_again w fs (text_of rows ++ more) line plain)
    ∙ ap (has_word 0 word) (fields_again w fs plain)

pub caps_again : (done cs : List Cap) (n : ℕ) (more : List ℕ) (line : ℕ) → length cs ≤ n → AllByRecursion IsCap cs → line_begins (codes "cap") (next_line (place more (line + length (flat_map cap_rows cs)))) ≡ false
    → caps_at done n (place (text_of (flat_map cap_rows cs) ++ more) line) ≡ Ok (done ++ cs, place more (line + length (flat_map cap_rows cs)))
unfolding caps_at
caps_again done [] zero more line le h stop = rw (append-nil done, add-zero line) refl
caps_again done [] (suc n) more line le h stop =
    let s : line_begins (codes "cap") (next_line (place more line)) ≡ false = stop in
    rw (s, append-nil done, add-zero line) refl
caps_again done (c ∷ cs) zero more line le h stop = absurd (omega (arith, le))
caps_again done (c ∷ cs) (suc n) more line le h stop =
    let rest = text_of (flat_map cap_rows cs) ++ more in
    let text : text_of (flat_map cap_rows (c ∷ cs)) ++ more ≡ text_of (cap_rows c) ++ rest =
    ap (λ (t : List ℕ). t ++ more) (text_then (cap_rows c) (flat_map cap_rows cs)) ∙ append_assoc (text_of (cap_rows c)) (text_of (flat_map cap_rows cs)) more in
    let b = cap_back c h.0 in
    let begins : line_begins (codes "cap") (next_line (place (text_of (cap_rows c) ++ rest) line)) ≡ true =
    subst (λ (row : FieldRow). line_begins (codes "cap") (next_line (place (text_of (row ∷ flat_map fact_rows c.proof) ++ rest) line)) ≡ true) (sym b.all) (begins_row (codes "cap") b.fs (flat_map fact_rows c.proof) rest line (codes "cap") b.plain) in
    let lines : (line + length (cap_rows c)) + length (flat_map cap_rows cs) ≡ line + length (flat_map cap_rows (c ∷ cs)) = omega (arith, length-append (cap_rows c) (flat_map cap_rows cs)) in
    let stop2 : line_begins (codes "cap") (next_line (place more ((line + length (cap_rows c)) + length (flat_map cap_rows cs)))) ≡ false = stop in
    let ih = caps_again (done ++ c ∷ []) cs n more (line + length (cap_rows c)) (omega (arith, le)) h.1 stop2 in
    rw (text, begins, cap_again c h.0 rest line) (ih ∙ rw (append_assoc done (c ∷ []) cs, lines) refl)

-- each cap has a byte at least
pub caps_fuel : (cs : List Cap) (more : List ℕ) → AllByRecursion IsCap cs → length cs ≤ length (text_of (flat_map cap_rows cs) ++ more)
caps_fuel [] more h = omega arith
caps_fuel (c ∷ cs) more h =
    let b = cap_back c h.0 in
    let text : text_of (flat_map cap_rows (c ∷ cs)) ++ more ≡ text_of (cap_rows c) ++ (text_of (flat_map cap_rows cs) ++ more) =
    ap (λ (t : List ℕ). t ++ more) (text_then (cap_rows c) (flat_map cap_rows cs)) ∙ append_assoc (text_of (cap_rows c)) (text_of (flat_map cap_rows cs)) more in
    let ih = caps_fuel cs more h.1 in
    let some : 1 ≤ length (text_of (cap_rows c)) = subst (λ (row : FieldRow). 1 ≤ length (text_of (row ∷ flat_map fact_rows c.proof))) (sym b.all) (omega arith) in
    rw text (omega (arith, length-append (text_of (cap_rows c)) (text_of (flat_map cap_rows cs) ++ more), ih, some))
