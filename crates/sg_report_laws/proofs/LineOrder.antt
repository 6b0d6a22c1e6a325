-- Each kind of line gives the reason of the first of its tests that fails.
use Rattle.std.proofs.Common.{◌≡◌, ℕ, zero, suc, ◌-◌, ◌^◌, ◌≤◌, Bool, true, false, not, cond, List, [], ◌∷◌, ◌++◌, length, drop, Option, Some, None, Result, Ok, Err, refl, sym, ap, ◌∙◌, arith, append_assoc}
use Rattle.std.proofs.lemmas.List.{append-nil, length-map}
use Rattle.std.specs.Prelude.{◌==◌, slice_get, ℤ, pos, negsuc, codes, nat_le, ◌&&◌, bytes_eq, unsigned_abs}
use Rattle.std.proofs.lemmas.Bool.Decides.{nat_tests}
use Rattle.sg_num.specs.declared.step.Op.{Op}
use Rattle.sg_num.specs.declared.step.Op.TheVariants.{Sum, Less, Times}
use Rattle.sg_tree.specs.declared.report.Cause.{Cause}
use Rattle.sg_tree.specs.declared.report.Cause.TheVariants as causes
use Rattle.sg_tree.specs.declared.report.Ending.{Ending}
use Rattle.sg_tree.specs.declared.report.Ending.TheVariants.{Gap}
use Rattle.sg_frac.specs.Fractions.{Fraction}
use Rattle.sg_tree.specs.declared.fact.Mark.{Mark}
use Rattle.sg_tree.specs.declared.fact.Line.{Line}
use Rattle.sg_num.specs.Exact.{fits}
use Rattle.sg_tree.specs.declared.tree.Tree.{Tree}
use Rattle.sg_tree.specs.declared.tree.Tree.TheVariants.{Unproved}
use Rattle.sg_cert.specs.Place.{Place}
use Rattle.sg_cert.specs.Lines.{at_line}
use Rattle.sg_cert.specs.Reading.{deep_from}
use Rattle.sg_cert.specs.declared.fault.ReportFault.{ReportFault}
use Rattle.sg_cert.specs.Fields.{shaped_as, count_follows, count_is, fields, fitting, has_word, is_number_text, natural_next, natural_of, numbers_of, shaped_if, spelled_of, value_of, whole_next, whole_of, words_of}
use Rattle.sg_model.specs.Steps.{◌>>=◌}
use Rattle.sg_cert.specs.LineReading.{fix_of, gap_of, looks_head_of, looks_of, nodes_of, optimal_of, pivots_of, wide_as, wide_head_of, counts_of, fraction_next, fraction_of, header_of, highest, in_order, lowest, mark_of, plain_of, proved_of, reduced_of, multiplier_of, shares, spent_of, split_of, target_of, ticket_of}
use Rattle.sg_report_laws.specs.LineTests.{DeepSplitInOrder, first_of, tests_of, WordInOrder, VerdictInOrder, counted_slot, fix_at, fix_slots, gap_slots, looks_line, looks_slots, nodes_line, optimal_line, optimal_slots, pivots_line, pivots_slots, step_slot, wide_line, wide_slots, field_number, natural_at, CapInOrder, CountsInOrder, FractionInOrder, HeaderInOrder, LinesInOrder, MarkInOrder, RowInOrder, Slot, SplitInOrder, TicketInOrder, WaterInOrder, counts_slots, each_slot, fixed, fraction_slots, header_slots, is_lowest, is_ranged, is_spelled, is_there, mark_slots, naturals, number, number_slots, plain_line, plain_slots, proved_line, proved_slots, row_slots, spent_line, spent_slots, split_slots, target_line_says, target_slots, ticket_slots, within}

-- ---- the words of a line, and what should stand in it

-- the words name what is fixed, and all behind them are numbers
abbrev pub Matches : List (List ℕ) → List Slot → Type 0
Matches [] [] = Unit {0}
Matches [] (number low high ∷ ss) = Matches [] ss
Matches [] (fixed v ∷ ss) = false ≡ true
Matches (w ∷ ws) [] = false ≡ true
Matches (w ∷ ws) (number low high ∷ ss) = (bytes_eq w (codes "#") ≡ true) × Matches ws ss
Matches (w ∷ ws) (fixed v ∷ ss) = (w ≡ v) × (bytes_eq w (codes "#") ≡ false) × Matches ws ss

no_fields : (test : Slot → List ℕ → Bool) (ss : List Slot) → each_slot test ss [] ≡ true
no_fields test [] = refl
no_fields test (s ∷ ss) = refl

numbers_there : (ss : List Slot) (fs : List (List ℕ)) → Matches [] ss → each_slot is_there ss fs ≡ true
numbers_there [] fs m = refl
numbers_there (s ∷ ss) [] m = refl
numbers_there (number low high ∷ ss) (f ∷ fs) m = numbers_there ss fs m
numbers_there (fixed v ∷ ss) (f ∷ fs) m = absurd (let w : false ≡ true = m in cc)

abbrev then_four : Unit {0} → Result (Unit {0}) ℕ
then_four x = Err 4

end_step : (b : Bool) (r : Result (Unit {0}) ℕ) → (r >>= then_four) ≡ Err 4 → ((cond b (Ok tt) (Err 4) >>= (λ (_ : Unit {0}). r)) >>= then_four) ≡ Err 4
end_step true r h = h
end_step false r h = refl

short_step : (b c : Bool) (r : Result (Unit {0}) ℕ) → (r >>= then_four) ≡ cond c (Err 4) (Err 3) → ((cond b (Ok tt) (Err 3) >>= (λ (_ : Unit {0}). r)) >>= then_four) ≡ cond (b && c) (Err 4) (Err 3)
short_step true c r h = h
short_step false c r h = refl

long_step : (b c : Bool) (r : Result (Unit {0}) ℕ) → r ≡ cond c (Ok tt) (Err 3) → (cond b (Ok tt) (Err 3) >>= (λ (_ : Unit {0}). r)) ≡ cond (b && c) (Ok tt) (Err 3)
long_step true c r h = h
long_step false c r h = refl

-- past the end no word is wrong
words_end : (ws : List (List ℕ)) → (words_of ws [] >>= then_four) ≡ Err 4
unfolding words_of
words_end [] = refl
words_end (w ∷ ws) = end_step (bytes_eq w (codes "#")) (words_of ws []) (words_end ws)

-- the fixed words, where the count of fields is wrong
words_short : (ws : List (List ℕ)) (ss : List Slot) (fs : List (List ℕ)) → Matches ws ss → (words_of ws fs >>= then_four) ≡ cond (each_slot is_there ss fs) (Err 4) (Err 3)
unfolding words_of
words_short [] ss fs m = rw (numbers_there ss fs m) refl
words_short (w ∷ ws) [] fs m = absurd (let c : false ≡ true = m in cc)
words_short (w ∷ ws) (s ∷ ss) [] m = words_end (w ∷ ws)
words_short (w ∷ ws) (number low high ∷ ss) (f ∷ fs) m = rw (m.0) (words_short ws ss fs m.1)
words_short (w ∷ ws) (fixed v ∷ ss) (f ∷ fs) m = rw (m.1, sym m.0) (short_step (bytes_eq w f) (each_slot is_there ss fs) (words_of ws fs) (words_short ws ss fs m.2))

-- the fixed words, where there are as many fields as should be
words_long : (ws : List (List ℕ)) (ss : List Slot) (fs : List (List ℕ)) → Matches ws ss → length fs ≡ length ss → words_of ws fs ≡ cond (each_slot is_there ss fs) (Ok tt) (Err 3)
unfolding words_of
words_long [] ss fs m e = rw (numbers_there ss fs m) refl
words_long (w ∷ ws) [] fs m e = absurd (let c : false ≡ true = m in cc)
words_long (w ∷ ws) (s ∷ ss) [] m e = absurd (omega (arith, e))
words_long (w ∷ ws) (number low high ∷ ss) (f ∷ fs) m e = rw (m.0) (words_long ws ss fs m.1 (omega (arith, e)))
words_long (w ∷ ws) (fixed v ∷ ss) (f ∷ fs) m e = rw (m.1, sym m.0) (long_step (bytes_eq w f) (each_slot is_there ss fs) (words_of ws fs) (words_long ws ss fs m.2 (omega (arith, e))))

-- the spelling of the numbers
spelled_long : (ws : List (List ℕ)) (ss : List Slot) (fs : List (List ℕ)) → Matches ws ss → length fs ≡ length ss → spelled_of ws fs ≡ each_slot is_spelled ss fs
unfolding spelled_of
spelled_long ws [] [] m e = refl
spelled_long ws (s ∷ ss) [] m e = refl
spelled_long ws [] (f ∷ fs) m e = absurd (omega (arith, e))
spelled_long [] (number low high ∷ ss) (f ∷ fs) m e = ap (λ (b : Bool). is_number_text f && b) (spelled_long [] ss fs m (omega (arith, e)))
spelled_long [] (fixed v ∷ ss) (f ∷ fs) m e = absurd (let c : false ≡ true = m in cc)
spelled_long (w ∷ ws) (number low high ∷ ss) (f ∷ fs) m e = rw (m.0) (ap (λ (b : Bool). is_number_text f && b) (spelled_long ws ss fs m.1 (omega (arith, e))))
spelled_long (w ∷ ws) (fixed v ∷ ss) (f ∷ fs) m e = rw (m.1) (spelled_long ws ss fs m.2 (omega (arith, e)))

-- ---- the shape of a line, and what is asked besides

-- a wrong count
short_as : (ws : List ℕ) (ss : List Slot) (fs : List (List ℕ)) → Matches (fields ws) ss → shaped_if false ws fs ≡ cond (each_slot is_there ss fs) (Err 4) (Err 3)
unfolding shaped_if
short_as ws ss fs m = words_short (fields ws) ss fs m

words_then : (b : Bool) (r : Result (Unit {0}) ℕ) → (cond b (Ok tt) (Err 3) >>= (λ (_ : Unit {0}). r)) ≡ cond b r (Err 3)
words_then true r = refl
words_then false r = refl

-- the right count
long_as : (ws : List ℕ) (ss : List Slot) (fs : List (List ℕ)) → Matches (fields ws) ss → length fs ≡ length ss
    → shaped_if true ws fs ≡ cond (each_slot is_there ss fs) (cond (each_slot is_spelled ss fs) (Ok tt) (Err 5)) (Err 3)
unfolding shaped_if
long_as ws ss fs m e = rw (words_long (fields ws) ss fs m e, spelled_long (fields ws) ss fs m e) (words_then (each_slot is_there ss fs) (cond (each_slot is_spelled ss fs) (Ok tt) (Err 5)))

-- the first four tests of a line, then the rest
abbrev pub judged : {A : Type 0} → Bool → List Slot → List (List ℕ) → Result A ℕ → Result A ℕ
judged counted ss fs y = cond (each_slot is_there ss fs) (cond counted (cond (each_slot is_spelled ss fs) (cond (each_slot is_ranged ss fs) y (Err 6)) (Err 5)) (Err 4)) (Err 3)

pub short : {A : Type 0} (counted stated : Bool) (ws : List ℕ) (ss : List Slot) (fs : List (List ℕ)) (y : Result A ℕ) (k : Unit {0} → Result A ℕ) → Matches (fields ws) ss
    → counted ≡ false → stated ≡ false → (shaped_if counted ws fs >>= k) ≡ judged stated ss fs y
short true stated ws ss fs y k m c d = absurd cc
short false true ws ss fs y k m c d = absurd cc
short false false ws ss fs y k m c d = rw (short_as ws ss fs m) (by_words (each_slot is_there ss fs))
  where
    by_words : (b : Bool) → (cond b (Err 4) (Err 3) >>= k) ≡ cond b (Err 4) (Err 3)
    by_words true = refl
    by_words false = refl

pub long : {A : Type 0} (counted : Bool) (ws : List ℕ) (ss : List Slot) (fs : List (List ℕ)) (y : Result A ℕ) (k : Unit {0} → Result A ℕ) → Matches (fields ws) ss → counted ≡ true
    → length fs ≡ length ss → k tt ≡ cond (each_slot is_ranged ss fs) y (Err 6) → (shaped_if counted ws fs >>= k) ≡ judged counted ss fs y
long false ws ss fs y k m c e h = absurd cc
long true ws ss fs y k m c e h = rw (long_as ws ss fs m e) (by_tests (each_slot is_there ss fs) (each_slot is_spelled ss fs))
  where
    by_tests : (b t : Bool) → (cond b (cond t (Ok tt) (Err 5)) (Err 3) >>= k) ≡ cond b (cond t (cond (each_slot is_ranged ss fs) y (Err 6)) (Err 5)) (Err 3)
    by_tests true true = h
    by_tests true false = refl
    by_tests false t = refl

-- ---- the numbers of a line

-- a step of which a test decides, and the steps behind it
pub next : {A B : Type 0} (r : Result A ℕ) (b : Bool) (x : A) (k : A → Result B ℕ) (c : Bool) (y : Result B ℕ) → r ≡ cond b (Ok x) (Err 6) → k x ≡ cond c y (Err 6)
    → (r >>= k) ≡ cond (b && c) y (Err 6)
next r true x k c y e h = rw e h
next r false x k c y e h = rw e refl

natural_is : (low high : ℕ) (b : Bool) (v : ℤ) → natural_of low high (cond b (Some v) None) ≡ cond (within (pos low) (pos high) (cond b (Some v) None)) (Ok (unsigned_abs v)) (Err 6)
natural_is low high true (pos n) = refl
natural_is low high true (negsuc n) = refl
natural_is low high false v = refl

whole_is : (low high : ℤ) (b : Bool) (v : ℤ) → whole_of low high (cond b (Some v) None) ≡ cond (within low high (cond b (Some v) None)) (Ok v) (Err 6)
whole_is low high true v = refl
whole_is low high false v = refl

moved : {A B : Type 0} (b : Bool) (x : A) (rest : B) (e : ℕ) → ◌>>=◌ {B = A × B} (cond b (Ok x) (Err e)) (λ (y : A). Ok (y, rest)) ≡ cond b (Ok (x, rest)) (Err e)
moved true x rest e = refl
moved false x rest e = refl

pub natural : (low high : ℕ) (f : List ℕ) (fs : List (List ℕ))
    → natural_next low high (f ∷ fs) ≡ cond (is_ranged (number (pos low) (pos high)) f) (Ok (unsigned_abs (value_of f), fs)) (Err 6)
natural low high f fs =
    rw (natural_is low high (is_number_text f && fits (value_of f)) (value_of f)) (moved (is_ranged (number (pos low) (pos high)) f) (unsigned_abs (value_of f)) fs 6)

pub whole : (low high : ℤ) (f : List ℕ) (fs : List (List ℕ)) → whole_next low high (f ∷ fs) ≡ cond (is_ranged (number low high) f) (Ok (value_of f, fs)) (Err 6)
whole low high f fs = rw (whole_is low high (is_number_text f && fits (value_of f)) (value_of f)) (moved (is_ranged (number low high) f) (value_of f) fs 6)

-- ---- lists of a length

by_none : (P : List (List ℕ) → Type 0) → P [] → (fs : List (List ℕ)) → length fs ≡ 0 → P fs
by_none P h [] e = h
by_none P h (f ∷ fs) e = absurd (omega (arith, e))

by_more : (n : ℕ) (P : List (List ℕ) → Type 0) → ((f : List ℕ) (fs : List (List ℕ)) → length fs ≡ n → P (f ∷ fs)) → (fs : List (List ℕ)) → length fs ≡ suc n → P fs
by_more n P h [] e = absurd (omega (arith, e))
by_more n P h (f ∷ fs) e = h f fs (omega (arith, e))

by_three : (P : List (List ℕ) → Type 0) → ((a b c : List ℕ) → P (a ∷ b ∷ c ∷ [])) → (fs : List (List ℕ)) → length fs ≡ 3 → P fs
by_three P h = by_more 2 P (λ a. by_more 1 (λ fs. P (a ∷ fs)) (λ b. by_more 0 (λ fs. P (a ∷ b ∷ fs)) (λ c. by_none (λ fs. P (a ∷ b ∷ c ∷ fs)) (h a b c))))

by_four : (P : List (List ℕ) → Type 0) → ((a b c d : List ℕ) → P (a ∷ b ∷ c ∷ d ∷ [])) → (fs : List (List ℕ)) → length fs ≡ 4 → P fs
by_four P h = by_more 3 P (λ a. by_three (λ fs. P (a ∷ fs)) (h a))

counted_is : (n m : ℕ) → (nat_le n m && nat_le m n) ≡ true → m ≡ n
counted_is n m e = grind (arith, nat_tests)

counted_not : (n m : ℕ) → (nat_le n m && nat_le m n) ≡ false → (m == n) ≡ false
counted_not n m e = grind (arith, nat_tests)

-- a line of n fields, or of another count
by_count : (n : ℕ) (P : List (List ℕ) → Type 0) (fs : List (List ℕ)) → (count_is n n fs ≡ false → (length fs == n) ≡ false → P fs) → (length fs ≡ n → P fs) → P fs
by_count n P fs other same = by_test (count_is n n fs) refl
  where
    by_test : (b : Bool) → count_is n n fs ≡ b → P fs
    by_test true e = same (counted_is n (length fs) e)
    by_test false e = other e (counted_not n (length fs) e)

three_or : (P : List (List ℕ) → Type 0) (fs : List (List ℕ)) → (count_is 3 3 fs ≡ false → (length fs == 3) ≡ false → P fs) → ((a b c : List ℕ) → P (a ∷ b ∷ c ∷ [])) → P fs
three_or P fs other same = by_count 3 P fs other (by_three P same fs)

four_or : (P : List (List ℕ) → Type 0) (fs : List (List ℕ)) → (count_is 4 4 fs ≡ false → (length fs == 4) ≡ false → P fs) → ((a b c d : List ℕ) → P (a ∷ b ∷ c ∷ d ∷ [])) → P fs
four_or P fs other same = by_count 4 P fs other (by_four P same fs)

five_or : (P : List (List ℕ) → Type 0) (fs : List (List ℕ)) → (count_is 5 5 fs ≡ false → (length fs == 5) ≡ false → P fs) → ((a b c d e : List ℕ) → P (a ∷ b ∷ c ∷ d ∷ e ∷ [])) → P fs
five_or P fs other same = by_count 5 P fs other (by_more 4 P (λ a. by_four (λ fs. P (a ∷ fs)) (same a)) fs)

-- ---- the kinds of lines

ordered : {A : Type 0} (b : Bool) (x : A) → (in_order b >>= (λ (_ : Unit {0}). Ok x)) ≡ cond b (Ok x) (Err 7)
ordered true x = refl
ordered false x = refl

mark : (before : Option Mark) (fs : List (List ℕ)) → MarkInOrder before fs
unfolding mark_of
mark before fs =
    four_or (MarkInOrder before) fs (λ e u. short (count_is 4 4 fs) (length fs == 4) (codes "m") mark_slots fs _ _ (refl, refl, tt) e u)
    (λ a b c d. long true (codes "m") mark_slots (a ∷ b ∷ c ∷ d ∷ []) _ _ (refl, refl, tt) refl refl
    (next _ _ _ _ _ _ (natural 1 8 b (c ∷ d ∷ [])) (next _ _ _ _ _ _ (natural 1 65535 c (d ∷ [])) (next _ _ _ _ _ _ (whole (pos 1) highest d []) (ordered _ _)))))

row : (before : Option Line) (fs : List (List ℕ)) → RowInOrder before fs
unfolding multiplier_of
row before fs =
    three_or (RowInOrder before) fs (λ e u. short (count_is 3 3 fs) (length fs == 3) (codes "c") row_slots fs _ _ (refl, refl, tt) e u)
    (λ a b c. long true (codes "c") row_slots (a ∷ b ∷ c ∷ []) _ _ (refl, refl, tt) refl refl
    (next _ _ _ _ _ _ (natural 1 1535 b (c ∷ [])) (next _ _ _ _ _ _ (whole (pos 1) highest c []) (ordered _ _))))

counts : (fs : List (List ℕ)) → CountsInOrder fs
unfolding counts_of
counts fs =
    three_or CountsInOrder fs (λ e u. short (count_is 3 3 fs) (length fs == 3) (codes "tickets") counts_slots fs _ _ (refl, refl, tt) e u)
    (λ a b c. long true (codes "tickets") counts_slots (a ∷ b ∷ c ∷ []) _ _ (refl, refl, tt) refl refl
    (next _ _ _ _ _ _ (natural 1 (2 ^ 127 - 1) b (c ∷ [])) (next _ _ _ _ _ _ (whole lowest highest c []) refl)))

splits : (fs : List (List ℕ)) → SplitInOrder fs
unfolding split_of
splits fs =
    three_or SplitInOrder fs (λ e u. short (count_is 3 3 fs) (length fs == 3) (codes "split") split_slots fs _ _ (refl, refl, tt) e u)
    (λ a b c. long true (codes "split") split_slots (a ∷ b ∷ c ∷ []) _ _ (refl, refl, tt) refl refl
    (next _ _ _ _ _ _ (natural 1 8 b (c ∷ [])) (next _ _ _ _ _ _ (natural 1 65535 c []) refl)))

-- the fault of a split whose line is right
abbrev too_deep : Place → ℕ × ℕ → Result (Tree × Place) ReportFault
too_deep p s = Err (record { line = p.line; reason = 8 })

-- one more test that fails behind all others
deep_tests : (tests : List (Bool × ℕ)) (v : ℕ × ℕ) (p : Place) (y : Tree × Place) → (at_line p (first_of tests v) >>= too_deep p) ≡ at_line p (first_of (tests ++ (false, 8) ∷ []) y)
deep_tests [] v p y = refl
deep_tests (t ∷ ts) v p y = by_test t.0 (deep_tests ts v p y)
  where
    by_test : (b : Bool) → (at_line p (first_of ts v) >>= too_deep p) ≡ at_line p (first_of (ts ++ (false, 8) ∷ []) y)
        → (at_line p (cond b (first_of ts v) (Err t.1)) >>= too_deep p) ≡ at_line p (cond b (first_of (ts ++ (false, 8) ∷ []) y) (Err t.1))
    by_test true h = h
    by_test false h = refl

deep : (fs : List (List ℕ)) (p : Place) → DeepSplitInOrder fs p
unfolding deep_from
deep fs p = rw (splits fs) (deep_tests (tests_of (length fs == 3) split_slots fs []) (natural_at 1 fs, natural_at 2 fs) p (Unproved, p))

header : (word : List ℕ) → Matches (fields word) (header_slots word) → (fs : List (List ℕ)) → HeaderInOrder word fs
unfolding header_of
header word m fs =
    four_or (HeaderInOrder word) fs (λ e u. short (count_is 4 4 fs) (length fs == 4) word (header_slots word) fs _ _ m e u)
    (λ a b c d. long true word (header_slots word) (a ∷ b ∷ c ∷ d ∷ []) _ _ m refl refl
    (next _ _ _ _ _ _ (whole (pos 1) highest b (c ∷ d ∷ [])) (next _ _ _ _ _ _ (whole (pos 0) highest c (d ∷ [])) (next _ _ _ _ _ _ (natural 0 (2 ^ 127 - 1) d []) refl))))

-- ---- fractions

reduced_is : (num den : ℤ) (fs : List (List ℕ))
    → ◌>>=◌ {B = Fraction × List (List ℕ)} {E = ℕ} (reduced_of num den) (λ f. Ok (f, fs)) ≡ cond (is_lowest (unsigned_abs num) (unsigned_abs den)) (Ok (record { num = num; den = den }, fs)) (Err 6)
reduced_is num den fs = by_test (shares (unsigned_abs num) (unsigned_abs den) (unsigned_abs den))
  where
    by_test : (b : Bool) → ◌>>=◌ {B = Fraction × List (List ℕ)} {E = ℕ} (cond b (Err 6) (Ok (record { num = num; den = den }))) (λ f. Ok (f, fs)) ≡ cond (not b) (Ok (record { num = num; den = den }, fs)) (Err 6)
    by_test true = refl
    by_test false = refl

fractions : (a b : List ℕ) (fs : List (List ℕ))
    → fraction_next (a ∷ b ∷ fs)
    ≡ cond (is_ranged (number lowest highest) a && (is_ranged (number (pos 1) highest) b && is_lowest (unsigned_abs (value_of a)) (unsigned_abs (value_of b))))
    (Ok (record { num = value_of a; den = value_of b }, fs)) (Err 6)
unfolding fraction_next
fractions a b fs = next _ _ _ _ _ _ (whole lowest highest a (b ∷ fs)) (next _ _ _ _ _ _ (whole (pos 1) highest b fs) (reduced_is (value_of a) (value_of b) fs))

-- the range of a number behind may be asked first
later : {A : Type 0} (a b c d : Bool) (y : Result A ℕ) → cond ((a && (b && c)) && d) y (Err 6) ≡ cond (a && (b && d)) (cond c y (Err 6)) (Err 6)
later true true true d y = refl
later true true false true y = refl
later true true false false y = refl
later true false c d y = refl
later false b c d y = refl

fraction : (word : List ℕ) → Matches (fields word) (fraction_slots word) → (fs : List (List ℕ)) → FractionInOrder word fs
unfolding fraction_of
fraction word m fs =
    three_or (FractionInOrder word) fs (λ e u. short (count_is 3 3 fs) (length fs == 3) word (fraction_slots word) fs _ _ m e u)
    (λ a b c. long true word (fraction_slots word) (a ∷ b ∷ c ∷ []) _ _ m refl refl
    (next _ _ _ _ true _ (fractions b c []) refl ∙ later (is_ranged (number lowest highest) b) _ _ true _))

-- ---- water levels and caps

either : {A : Type 0} (b : Bool) (x x' y y' : Result A ℕ) → x ≡ x' → y ≡ y' → cond b x y ≡ cond b x' y'
either true x x' y y' e f = e
either false x x' y y' e f = f

spent : (fs : List (List ℕ)) → spent_of fs ≡ spent_line fs
unfolding spent_of
spent fs =
    four_or (λ fs. spent_of fs ≡ spent_line fs) fs
    (λ e u. short (count_is 4 4 fs) (length fs == 4) (codes "water # # resources") spent_slots fs _ _ (refl, refl, (refl, (refl, (refl, refl, tt)))) e u)
    (λ a b c d. long true (codes "water # # resources") spent_slots (a ∷ b ∷ c ∷ d ∷ []) _ _ (refl, refl, (refl, (refl, (refl, refl, tt)))) refl refl
    (next _ _ _ _ true _ (fractions b c (d ∷ [])) refl ∙ later (is_ranged (number lowest highest) b) _ _ true _))

target : (fs : List (List ℕ)) → target_of fs ≡ target_line_says fs
unfolding target_of
target fs =
    five_or (λ fs. target_of fs ≡ target_line_says fs) fs
    (λ e u. short (count_is 5 5 fs) (length fs == 5) (codes "water # # target #") target_slots fs _ _ (refl, refl, (refl, (refl, (refl, refl, (refl, tt))))) e u)
    (λ a b c d e. long true (codes "water # # target #") target_slots (a ∷ b ∷ c ∷ d ∷ e ∷ []) _ _ (refl, refl, (refl, (refl, (refl, refl, (refl, tt))))) refl refl
    (next _ _ _ _ _ _ (fractions b c (d ∷ e ∷ [])) (next _ _ _ _ true _ (natural 1 65535 e []) refl)
    ∙ later (is_ranged (number lowest highest) b) _ _ (is_ranged (number (pos 1) (pos 65535)) e && true) _))

water : (fs : List (List ℕ)) → WaterInOrder fs
water fs = either (has_word 3 (codes "resources") fs) (spent_of fs) (spent_line fs) (target_of fs) (target_line_says fs) (spent fs) (target fs)

plain : (fs : List (List ℕ)) → plain_of fs ≡ plain_line fs
unfolding plain_of
plain fs =
    four_or (λ fs. plain_of fs ≡ plain_line fs) fs
    (λ e u. short (count_is 4 4 fs) (length fs == 4) (codes "cap # plain #") plain_slots fs _ _ (refl, refl, (refl, (refl, refl, (refl, tt)))) e u)
    (λ a b c d. long true (codes "cap # plain #") plain_slots (a ∷ b ∷ c ∷ d ∷ []) _ _ (refl, refl, (refl, (refl, refl, (refl, tt)))) refl refl
    (next _ _ _ _ _ _ (natural 1 8 b (c ∷ d ∷ [])) (next _ _ _ _ _ _ (whole (negsuc (2 ^ 63 - 1)) (pos (2 ^ 63 - 1)) d []) refl)))

proved : (fs : List (List ℕ)) → proved_of fs ≡ proved_line fs
unfolding proved_of
proved fs =
    five_or (λ fs. proved_of fs ≡ proved_line fs) fs
    (λ e u. short (count_is 5 5 fs) (length fs == 5) (codes "cap # proved # #") proved_slots fs _ _ (refl, refl, (refl, (refl, refl, (refl, (refl, tt))))) e u)
    (λ a b c d e. long true (codes "cap # proved # #") proved_slots (a ∷ b ∷ c ∷ d ∷ e ∷ []) _ _ (refl, refl, (refl, (refl, refl, (refl, (refl, tt))))) refl refl
    (next _ _ _ _ _ _ (natural 1 8 b (c ∷ d ∷ e ∷ []))
    (next _ _ _ _ _ _ (whole (negsuc (2 ^ 63 - 1)) (pos (2 ^ 63 - 1)) d (e ∷ [])) (next _ _ _ _ _ _ (natural 1 65535 e []) refl))))

cap : (fs : List (List ℕ)) → CapInOrder fs
cap fs = either (has_word 2 (codes "plain") fs) (plain_of fs) (plain_line fs) (proved_of fs) (proved_line fs) (plain fs) (proved fs)

-- ---- tickets

together : {A B C : Type 0} (r : Result A ℕ) (f : A → Result B ℕ) (g : B → Result C ℕ) → ((r >>= f) >>= g) ≡ (r >>= (λ x. f x >>= g))
together (Ok x) f g = refl
together (Err e) f g = refl

-- a line that is read in two steps
short_two : {A B : Type 0} (counted stated : Bool) (ws : List ℕ) (ss : List Slot) (fs : List (List ℕ)) (y : Result B ℕ) (h : Unit {0} → Result A ℕ) (g : A → Result B ℕ)
    → Matches (fields ws) ss → counted ≡ false → stated ≡ false → ((shaped_if counted ws fs >>= h) >>= g) ≡ judged stated ss fs y
short_two counted stated ws ss fs y h g m c d = together (shaped_if counted ws fs) h g ∙ short counted stated ws ss fs y (λ x. h x >>= g) m c d

long_two : {A B : Type 0} (counted : Bool) (ws : List ℕ) (ss : List Slot) (fs : List (List ℕ)) (y : Result B ℕ) (h : Unit {0} → Result A ℕ) (g : A → Result B ℕ) → Matches (fields ws) ss → counted ≡ true
    → length fs ≡ length ss → (h tt >>= g) ≡ cond (each_slot is_ranged ss fs) y (Err 6) → ((shaped_if counted ws fs >>= h) >>= g) ≡ judged counted ss fs y
long_two counted ws ss fs y h g m c e ranges = together (shaped_if counted ws fs) h g ∙ long counted ws ss fs y (λ x. h x >>= g) m c e ranges

-- the last step of which a test decides
final : {A B : Type 0} (r : Result A ℕ) (b : Bool) (x : A) (k : A → Result B ℕ) (y : Result B ℕ) → r ≡ cond b (Ok x) (Err 6) → k x ≡ y → (r >>= k) ≡ cond b y (Err 6)
final r true x k y e h = rw e h
final r false x k y e h = rw e refl

natural_one : (low high : ℕ) (f : List ℕ) → natural_of low high (fitting f) ≡ cond (is_ranged (number (pos low) (pos high)) f) (Ok (unsigned_abs (value_of f))) (Err 6)
natural_one low high f = natural_is low high (is_number_text f && fits (value_of f)) (value_of f)

all_numbers : (low high : ℕ) (done : List ℕ) (fs : List (List ℕ))
    → numbers_of low high done fs ≡ cond (each_slot is_ranged (number_slots low high fs) fs) (Ok (done ++ naturals fs)) (Err 6)
unfolding numbers_of
all_numbers low high done [] = ap (λ (xs : List ℕ). Ok xs) (sym (append-nil done))
all_numbers low high done (f ∷ fs) =
    next _ _ _ _ _ _ (natural_one low high f)
    (all_numbers low high (done ++ unsigned_abs (value_of f) ∷ []) fs
    ∙ ap (λ (xs : List ℕ). cond (each_slot is_ranged (number_slots low high fs) fs) (Ok xs) (Err 6)) (append_assoc done (unsigned_abs (value_of f) ∷ []) (naturals fs)))

numbers_match : (low high : ℕ) (fs : List (List ℕ)) → Matches [] (number_slots low high fs)
numbers_match low high [] = tt
numbers_match low high (f ∷ fs) = numbers_match low high fs

two_or_more : (n : ℕ) → nat_le 2 n ≡ true → 2 ≤ n
two_or_more n e = grind (arith, nat_tests)

first_true : (a b : Bool) → (a && b) ≡ true → a ≡ true
first_true true b e = refl
first_true false b e = e

ticket_matches : (fs : List (List ℕ)) → Matches (fields (codes "t")) (ticket_slots fs)
ticket_matches fs = (refl, refl, numbers_match 0 65535 (drop 2 fs))

ticket_long : (before : Option (List ℕ)) (fs : List (List ℕ)) → 2 ≤ length fs → count_is 2 202 fs ≡ true → TicketInOrder before fs
unfolding ticket_of
ticket_long before [] h e = absurd (omega (arith, h))
ticket_long before (a ∷ []) h e = absurd (omega (arith, h))
ticket_long before (a ∷ b ∷ fs) h e =
    long_two (count_is 2 202 (a ∷ b ∷ fs)) (codes "t") (ticket_slots (a ∷ b ∷ fs)) (a ∷ b ∷ fs) _ _ _ (ticket_matches (a ∷ b ∷ fs)) e
    (let same = length-map fs (λ (f : List ℕ). number (pos 0) (pos 65535)) in omega (arith, same))
    (next _ _ _ _ _ _ (whole (pos 1) highest b fs) (final _ _ _ _ _ (all_numbers 0 65535 [] fs) (ordered _ _)))

ticket_short : (before : Option (List ℕ)) (fs : List (List ℕ)) → count_is 2 202 fs ≡ false → TicketInOrder before fs
unfolding ticket_of
ticket_short before fs e = short_two (count_is 2 202 fs) (count_is 2 202 fs) (codes "t") (ticket_slots fs) fs _ _ _ (ticket_matches fs) e e

ticket : (before : Option (List ℕ)) (fs : List (List ℕ)) → TicketInOrder before fs
ticket before fs = by_test (count_is 2 202 fs) refl
  where
    by_test : (b : Bool) → count_is 2 202 fs ≡ b → TicketInOrder before fs
    by_test true e = ticket_long before fs (two_or_more (length fs) (first_true (nat_le 2 (length fs)) (nat_le (length fs) 202) e)) e
    by_test false e = ticket_short before fs e

-- ---- the verdict

two_or : (P : List (List ℕ) → Type 0) (fs : List (List ℕ)) → (count_is 2 2 fs ≡ false → (length fs == 2) ≡ false → P fs) → ((a b : List ℕ) → P (a ∷ b ∷ [])) → P fs
two_or P fs other same = by_count 2 P fs other (by_more 1 P (λ a. by_more 0 (λ fs. P (a ∷ fs)) (λ b. by_none (λ fs. P (a ∷ b ∷ fs)) (same a b))) fs)

optimal : (fs : List (List ℕ)) → optimal_of fs ≡ optimal_line fs
unfolding optimal_of
optimal fs =
    two_or (λ fs. optimal_of fs ≡ optimal_line fs) fs
    (λ e u. short (count_is 2 2 fs) (length fs == 2) (codes "verdict optimal") optimal_slots fs _ _ (refl, refl, (refl, refl, tt)) e u)
    (λ a b. long true (codes "verdict optimal") optimal_slots (a ∷ b ∷ []) _ _ (refl, refl, (refl, refl, tt)) refl refl refl)

nodes : (fs : List (List ℕ)) → (nodes_of fs >>= λ c. Ok (Gap c)) ≡ nodes_line fs
unfolding nodes_of
nodes fs =
    four_or (λ fs. (nodes_of fs >>= λ c. Ok (Gap c)) ≡ nodes_line fs) fs
    (λ e u. short_two (count_is 4 4 fs) (length fs == 4) (codes "verdict gap nodes") (gap_slots (codes "nodes") (counted_slot ∷ [])) fs _ _ _ (refl, refl, (refl, refl, (refl, refl, tt))) e u)
    (λ a b c d. long_two true (codes "verdict gap nodes") (gap_slots (codes "nodes") (counted_slot ∷ [])) (a ∷ b ∷ c ∷ d ∷ []) _ _ _ (refl, refl, (refl, refl, (refl, refl, tt))) refl refl
    (together (natural_next 1 (2 ^ 64 - 1) (d ∷ [])) _ _ ∙ next _ _ _ _ _ _ (natural 1 (2 ^ 64 - 1) d []) refl))

-- a cause with its gap
gap_then : (counted : Bool) (ss : List Slot) (fs : List (List ℕ)) (r : Result Cause ℕ) (c : Cause) → r ≡ judged counted ss fs (Ok c) → (r >>= λ x. Ok (Gap x)) ≡ judged counted ss fs (Ok (Gap c))
gap_then counted ss fs r c e = rw e (by_tests (each_slot is_there ss fs) counted (each_slot is_spelled ss fs) (each_slot is_ranged ss fs))
  where
    by_tests : (w n t b : Bool)
        → ◌>>=◌ {E = ℕ} (cond w (cond n (cond t (cond b (Ok c) (Err 6)) (Err 5)) (Err 4)) (Err 3)) (λ x. Ok (Gap x)) ≡ cond w (cond n (cond t (cond b (Ok (Gap c)) (Err 6)) (Err 5)) (Err 4)) (Err 3)
    by_tests true true true true = refl
    by_tests true true true false = refl
    by_tests true true false b = refl
    by_tests true false t b = refl
    by_tests false n t b = refl

fix_is : (a b : List ℕ) (fs : List (List ℕ))
    → fix_of (a ∷ b ∷ fs) ≡ cond (each_slot is_ranged (fix_slots fs) (a ∷ b ∷ fs)) (Ok (record { first = unsigned_abs (value_of a); acts = naturals fs })) (Err 6)
unfolding fix_of
fix_is a b fs = next _ _ _ _ _ _ (natural 1 8 a (b ∷ fs)) (next _ _ _ _ _ _ (natural 1 8 b fs) (final _ _ _ _ _ (all_numbers 1 65535 [] fs) refl))

-- a line of the right count reaches the number of its actions
reaches : (at n i : ℕ) (fs : List (List ℕ)) → count_follows at n (slice_get fs i) ≡ true → suc i ≤ length fs
reaches at n i [] e = absurd (let c : false ≡ true = e in cc)
reaches at n zero (f ∷ fs) e = omega arith
reaches at n (suc i) (f ∷ fs) e = let h = reaches at n i fs e in omega (arith, h)

by_some : (n : ℕ) (P : List (List ℕ) → Type 0) → ((f : List ℕ) (fs : List (List ℕ)) → n ≤ length fs → P (f ∷ fs)) → (fs : List (List ℕ)) → suc n ≤ length fs → P fs
by_some n P h [] e = absurd (omega (arith, e))
by_some n P h (f ∷ fs) e = h f fs (omega (arith, e))

three_more : (n : ℕ) (P : List (List ℕ) → Type 0) → ((a b c : List ℕ) (fs : List (List ℕ)) → n ≤ length fs → P (a ∷ b ∷ c ∷ fs)) → (fs : List (List ℕ)) → suc (suc (suc n)) ≤ length fs → P fs
three_more n P h = by_some (suc (suc n)) P (λ a. by_some (suc n) (λ fs. P (a ∷ fs)) (λ b. by_some n (λ fs. P (a ∷ b ∷ fs)) (h a b)))

-- ---- pivots

pivots_matches : (fs : List (List ℕ)) → Matches (fields (codes "verdict gap pivots")) (pivots_slots fs)
pivots_matches fs = (refl, refl, (refl, refl, (refl, refl, numbers_match 1 65535 (drop 6 fs))))

abbrev pivots_counted : List (List ℕ) → Bool
pivots_counted fs = count_follows 5 (length fs) (slice_get fs 5)

abbrev PivotsJudged : List (List ℕ) → Type 0
PivotsJudged fs = pivots_of fs ≡ judged (pivots_counted fs) (pivots_slots fs) fs (Ok (causes.Pivots (natural_at 3 fs) (fix_at 4 fs)))

pivots_short : (fs : List (List ℕ)) → pivots_counted fs ≡ false → PivotsJudged fs
unfolding pivots_of
pivots_short fs e = short_two (pivots_counted fs) (pivots_counted fs) (codes "verdict gap pivots") (pivots_slots fs) fs _ _ _ (pivots_matches fs) e e

pivots_fields : (a b c d e f : List ℕ) (fs : List (List ℕ)) → pivots_counted (a ∷ b ∷ c ∷ d ∷ e ∷ f ∷ fs) ≡ true → PivotsJudged (a ∷ b ∷ c ∷ d ∷ e ∷ f ∷ fs)
unfolding pivots_of
pivots_fields a b c d e f fs counted =
    let all = a ∷ b ∷ c ∷ d ∷ e ∷ f ∷ fs in
    long_two (pivots_counted all) (codes "verdict gap pivots") (pivots_slots all) all _ _ _ (pivots_matches all) counted
    (let same = length-map fs (λ (x : List ℕ). number (pos 1) (pos 65535)) in omega (arith, same))
    (next _ _ _ _ _ _ (natural 1 (2 ^ 64 - 1) d (e ∷ f ∷ fs)) (final _ _ _ _ _ (fix_is e f fs) refl))

pivots_long : (fs : List (List ℕ)) → pivots_counted fs ≡ true → PivotsJudged fs
pivots_long fs e =
    three_more 3 (λ gs. pivots_counted gs ≡ true → PivotsJudged gs)
    (λ a b c. three_more 0 (λ gs. pivots_counted (a ∷ b ∷ c ∷ gs) ≡ true → PivotsJudged (a ∷ b ∷ c ∷ gs)) (λ x y z gs h. pivots_fields a b c x y z gs)) fs (reaches 5 (length fs) 5 fs e) e

by_counted : (b : Bool) (P : Type 0) → (b ≡ true → P) → (b ≡ false → P) → P
by_counted true P h k = h refl
by_counted false P h k = k refl

pivots : (fs : List (List ℕ)) → (pivots_of fs >>= λ c. Ok (Gap c)) ≡ pivots_line fs
pivots fs =
    gap_then (pivots_counted fs) (pivots_slots fs) fs (pivots_of fs) (causes.Pivots (natural_at 3 fs) (fix_at 4 fs))
    (by_counted (pivots_counted fs) (PivotsJudged fs) (pivots_long fs) (pivots_short fs))

-- ---- looks

looks_matches : (fs : List (List ℕ)) → Matches (fields (codes "verdict gap looks")) (looks_slots fs)
looks_matches fs = (refl, refl, (refl, refl, (refl, refl, numbers_match 1 65535 (drop 7 fs))))

abbrev looks_counted : List (List ℕ) → Bool
looks_counted fs = count_follows 6 (length fs) (slice_get fs 6)

abbrev LooksJudged : List (List ℕ) → Type 0
LooksJudged fs = looks_of fs ≡ judged (looks_counted fs) (looks_slots fs) fs (Ok (causes.Looks (natural_at 3 fs) (natural_at 4 fs) (fix_at 5 fs)))

looks_short : (fs : List (List ℕ)) → looks_counted fs ≡ false → LooksJudged fs
unfolding looks_of looks_head_of
looks_short fs e = short_two (looks_counted fs) (looks_counted fs) (codes "verdict gap looks") (looks_slots fs) fs _ _ _ (looks_matches fs) e e

-- two tests in front of others, and four
two_and : {A : Type 0} (a b c : Bool) (y z : A) → cond ((a && (b && true)) && c) y z ≡ cond (a && (b && c)) y z
two_and true true c y z = refl
two_and true false c y z = refl
two_and false b c y z = refl

four_and : {A : Type 0} (a b c d e : Bool) (y z : A) → cond ((a && (b && (c && (d && true)))) && e) y z ≡ cond (a && (b && (c && (d && e)))) y z
four_and true true true true e y z = refl
four_and true true true false e y z = refl
four_and true true false d e y z = refl
four_and true false c d e y z = refl
four_and false b c d e y z = refl

looks_fields : (a b c d e f g : List ℕ) (fs : List (List ℕ)) → looks_counted (a ∷ b ∷ c ∷ d ∷ e ∷ f ∷ g ∷ fs) ≡ true → LooksJudged (a ∷ b ∷ c ∷ d ∷ e ∷ f ∷ g ∷ fs)
unfolding looks_of looks_head_of
looks_fields a b c d e f g fs counted =
    let all = a ∷ b ∷ c ∷ d ∷ e ∷ f ∷ g ∷ fs in
    long_two (looks_counted all) (codes "verdict gap looks") (looks_slots all) all _ _ _ (looks_matches all) counted
    (let same = length-map fs (λ (x : List ℕ). number (pos 1) (pos 65535)) in omega (arith, same))
    (next _ _ _ _ _ _ (next _ _ _ _ _ _ (natural 1 (2 ^ 64 - 1) d (e ∷ f ∷ g ∷ fs)) (next _ _ _ _ true _ (natural 0 (2 ^ 64 - 1) e (f ∷ g ∷ fs)) refl))
    (final _ _ _ _ _ (fix_is f g fs) refl)
    ∙ two_and (is_ranged counted_slot d) (is_ranged step_slot e) (each_slot is_ranged (fix_slots fs) (f ∷ g ∷ fs)) _ _)

looks_long : (fs : List (List ℕ)) → looks_counted fs ≡ true → LooksJudged fs
looks_long fs e =
    three_more 4 (λ gs. looks_counted gs ≡ true → LooksJudged gs)
    (λ a b c. three_more 1 (λ gs. looks_counted (a ∷ b ∷ c ∷ gs) ≡ true → LooksJudged (a ∷ b ∷ c ∷ gs))
    (λ x y z. by_some 0 (λ gs. looks_counted (a ∷ b ∷ c ∷ x ∷ y ∷ z ∷ gs) ≡ true → LooksJudged (a ∷ b ∷ c ∷ x ∷ y ∷ z ∷ gs)) (λ w gs h. looks_fields a b c x y z w gs))) fs
    (reaches 6 (length fs) 6 fs e) e

looks : (fs : List (List ℕ)) → (looks_of fs >>= λ c. Ok (Gap c)) ≡ looks_line fs
looks fs =
    gap_then (looks_counted fs) (looks_slots fs) fs (looks_of fs) (causes.Looks (natural_at 3 fs) (natural_at 4 fs) (fix_at 5 fs))
    (by_counted (looks_counted fs) (LooksJudged fs) (looks_long fs) (looks_short fs))

-- ---- sums and products that don't fit

wide_rest : (fs : List (List ℕ)) → Matches [] (fix_slots (drop 10 fs))
wide_rest fs = numbers_match 1 65535 (drop 10 fs)

abbrev wide_counted : List (List ℕ) → Bool
wide_counted fs = count_follows 9 (length fs) (slice_get fs 9)

module _ (op : Op) (words word : List ℕ) (matches : (fs : List (List ℕ)) → Matches (fields words) (wide_slots word fs)) where
  abbrev wide_cause : List (List ℕ) → Cause
  wide_cause fs = causes.Wide (natural_at 3 fs) (record { op = op; left = field_number 5 fs; right = field_number 6 fs }) (natural_at 7 fs) (fix_at 8 fs)

  abbrev WideJudged : List (List ℕ) → Type 0
  WideJudged fs = wide_as op words fs ≡ judged (wide_counted fs) (wide_slots word fs) fs (Ok (wide_cause fs))

  wide_short : (fs : List (List ℕ)) → wide_counted fs ≡ false → WideJudged fs
  unfolding wide_as wide_head_of
  wide_short fs e = short_two (wide_counted fs) (wide_counted fs) words (wide_slots word fs) fs _ _ _ (matches fs) e e

  wide_fields : (a b c d e f g h i j : List ℕ) (fs : List (List ℕ)) → wide_counted (a ∷ b ∷ c ∷ d ∷ e ∷ f ∷ g ∷ h ∷ i ∷ j ∷ fs) ≡ true → WideJudged (a ∷ b ∷ c ∷ d ∷ e ∷ f ∷ g ∷ h ∷ i ∷ j ∷ fs)
  unfolding wide_as wide_head_of
  wide_fields a b c d e f g h i j fs counted =
      let all = a ∷ b ∷ c ∷ d ∷ e ∷ f ∷ g ∷ h ∷ i ∷ j ∷ fs in
      long_two (wide_counted all) words (wide_slots word all) all _ _ _ (matches all) counted
      (let same = length-map fs (λ (x : List ℕ). number (pos 1) (pos 65535)) in omega (arith, same))
      (next _ _ _ _ _ _
      (next _ _ _ _ _ _ (natural 1 7 d (e ∷ f ∷ g ∷ h ∷ i ∷ j ∷ fs))
      (next _ _ _ _ _ _ (whole lowest highest f (g ∷ h ∷ i ∷ j ∷ fs))
      (next _ _ _ _ _ _ (whole lowest highest g (h ∷ i ∷ j ∷ fs)) (next _ _ _ _ true _ (natural 0 (2 ^ 64 - 1) h (i ∷ j ∷ fs)) refl))))
      (final _ _ _ _ _ (fix_is i j fs) refl)
      ∙ four_and (is_ranged (number (pos 1) (pos 7)) d) (is_ranged (number lowest highest) f) (is_ranged (number lowest highest) g) (is_ranged step_slot h)
      (each_slot is_ranged (fix_slots fs) (i ∷ j ∷ fs)) _ _)

  wide_long : (fs : List (List ℕ)) → wide_counted fs ≡ true → WideJudged fs
  wide_long fs e =
      three_more 7 (λ gs. wide_counted gs ≡ true → WideJudged gs)
      (λ a b c. three_more 4 (λ gs. wide_counted (a ∷ b ∷ c ∷ gs) ≡ true → WideJudged (a ∷ b ∷ c ∷ gs))
      (λ x y z. three_more 1 (λ gs. wide_counted (a ∷ b ∷ c ∷ x ∷ y ∷ z ∷ gs) ≡ true → WideJudged (a ∷ b ∷ c ∷ x ∷ y ∷ z ∷ gs))
      (λ u v w. by_some 0 (λ gs. wide_counted (a ∷ b ∷ c ∷ x ∷ y ∷ z ∷ u ∷ v ∷ w ∷ gs) ≡ true → WideJudged (a ∷ b ∷ c ∷ x ∷ y ∷ z ∷ u ∷ v ∷ w ∷ gs))
      (λ t gs h. wide_fields a b c x y z u v w t gs)))) fs
      (reaches 9 (length fs) 9 fs e) e

  wide : (fs : List (List ℕ)) → (wide_as op words fs >>= λ c. Ok (Gap c)) ≡ wide_line op word fs
  wide fs =
      gap_then (wide_counted fs) (wide_slots word fs) fs (wide_as op words fs) (wide_cause fs)
      (by_counted (wide_counted fs) (WideJudged fs) (wide_long fs) (wide_short fs))

-- a test before a step
either_then : (b : Bool) (r s : Result Cause ℕ) (x y : Result Ending ℕ) → (r >>= λ c. Ok (Gap c)) ≡ x → (s >>= λ c. Ok (Gap c)) ≡ y → (cond b r s >>= λ c. Ok (Gap c)) ≡ cond b x y
either_then true r s x y e f = e
either_then false r s x y e f = f

verdict : (fs : List (List ℕ)) → VerdictInOrder fs
unfolding gap_of
verdict fs =
    either (has_word 1 (codes "optimal") fs) (optimal_of fs) (optimal_line fs) (gap_of fs) _ (optimal fs)
    (either_then (has_word 2 (codes "nodes") fs) (nodes_of fs) _ _ _ (nodes fs)
    (either_then (has_word 2 (codes "pivots") fs) (pivots_of fs) _ _ _ (pivots fs)
    (either_then (has_word 2 (codes "looks") fs) (looks_of fs) _ _ _ (looks fs)
    (either_then (has_word 4 (codes "sum") fs) (wide_as Sum (codes "verdict gap wide # sum") fs) _ _ _
    (wide Sum (codes "verdict gap wide # sum") (codes "sum") (λ gs. (refl, refl, (refl, refl, (refl, refl, (refl, (refl, refl, wide_rest gs)))))) fs)
    (either_then (has_word 4 (codes "less") fs) (wide_as Less (codes "verdict gap wide # less") fs) (wide_as Times (codes "verdict gap wide # times") fs) _ _
    (wide Less (codes "verdict gap wide # less") (codes "less") (λ gs. (refl, refl, (refl, refl, (refl, refl, (refl, (refl, refl, wide_rest gs)))))) fs)
    (wide Times (codes "verdict gap wide # times") (codes "times") (λ gs. (refl, refl, (refl, refl, (refl, refl, (refl, (refl, refl, wide_rest gs)))))) fs))))))

-- ---- lines of one word

kept : {A : Type 0} (r : Result A ℕ) → r ≡ (r >>= (λ x. Ok x))
kept (Ok x) = refl
kept (Err e) = refl

word_line : (word : List ℕ) → Matches (fields word) (fixed word ∷ []) → (fs : List (List ℕ)) → WordInOrder word fs
word_line word m fs =
    by_count 1 (WordInOrder word) fs (λ e u. kept (shaped_as word 1 1 fs) ∙ short (count_is 1 1 fs) (length fs == 1) word (fixed word ∷ []) fs (Ok tt) (λ x. Ok x) m e u)
    (by_more 0 (WordInOrder word)
    (λ a. by_none (λ gs. WordInOrder word (a ∷ gs)) (kept (shaped_as word 1 1 (a ∷ [])) ∙ long true word (fixed word ∷ []) (a ∷ []) (Ok tt) (λ x. Ok x) m refl refl refl)) fs)

pub lines : LinesInOrder
lines = record {
  counts = counts;
  ticket = ticket;
  value = fraction (codes "value") (refl, refl, tt);
  cap = cap;
  split = splits;
  deep = deep;
  plays = header (codes "plays") (refl, refl, tt);
  mark = mark;
  cover = header (codes "cover") (refl, refl, tt);
  row = row;
  water = water;
  verdict = verdict;
  upper = fraction (codes "upper") (refl, refl, tt);
  unproved = word_line (codes "open") (refl, refl, tt);
  ending = word_line (codes "end") (refl, refl, tt);
}
