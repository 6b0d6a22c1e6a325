-- What stands in each kind of line of a report, and the order of the tests of a line, whatever reads it.
use Rattle.std.specs.Prelude.{◌==◌, ◌+◌, length, slice_get, ◌≡◌, ℕ, Bool, true, false, not, ◌&&◌, if◌then◌else◌, List, [], ◌∷◌, Option, Some, None, Result, Ok, Err, ℤ, pos, negsuc, ◌-◌, ◌^◌, unsigned_abs, bytes_eq, codes, slice_index_or, map, drop, int_le}
use Rattle.sg_model.specs.declared.level.Level.TheVariants.{Resources, Target}
use Rattle.sg_tree.specs.declared.fact.Fact.{Fact}
use Rattle.sg_tree.specs.declared.fact.Fact.TheVariants.{Water}
use Rattle.sg_tree.specs.declared.fact.Mark.{Mark}
use Rattle.sg_tree.specs.declared.fact.Line.{Line}
use Rattle.sg_num.specs.declared.step.Op.{Op}
use Rattle.sg_num.specs.declared.step.Op.TheVariants.{Sum, Less, Times}
use Rattle.sg_tree.specs.declared.fix.Fix.{Fix}
use Rattle.sg_tree.specs.declared.report.Cause.TheVariants as causes
use Rattle.sg_tree.specs.declared.report.Ending.{Ending}
use Rattle.sg_tree.specs.declared.report.Ending.TheVariants.{Optimal, Gap}
use Rattle.sg_tree.specs.declared.tree.Tree.TheVariants.{Unproved}
use Rattle.sg_cert.specs.Place.{Place}
use Rattle.sg_cert.specs.Lines.{at_line}
use Rattle.sg_cert.specs.Reading.{deep_from}
use Rattle.sg_cert.specs.Fields.{count_follows, count_is, fitting, has_word, is_number_text, shaped_as, value_of}
use Rattle.sg_cert.specs.LineReading.{cap_head_of, counts_of, follows, fraction_of, header_of, highest, lowest, mark_follows, mark_of, row_follows, multiplier_of, shares, split_of, ticket_of, verdict_of, water_of}

-- ---- the tests of a line

-- what stands at one place of a line: a fixed word, or a number from low to high
pub data Slot : Type 0 where
  fixed : List ℕ → Slot
  number : ℤ → ℤ → Slot

-- whether the fields pass a test, each with what should stand in its place
abbrev pub each_slot : (Slot → List ℕ → Bool) → List Slot → List (List ℕ) → Bool
each_slot test [] fs = true
each_slot test (s ∷ ss) [] = true
each_slot test (s ∷ ss) (f ∷ fs) = test s f && each_slot test ss fs

-- a fixed word is there
abbrev pub is_there : Slot → List ℕ → Bool
is_there (fixed w) f = bytes_eq w f
is_there (number low high) f = true

-- a number is in the one spelling
abbrev pub is_spelled : Slot → List ℕ → Bool
is_spelled (fixed w) f = true
is_spelled (number low high) f = is_number_text f

abbrev pub within : ℤ → ℤ → Option ℤ → Bool
within low high None = false
within low high (Some z) = int_le low z && int_le z high

-- a number is in its range
abbrev pub is_ranged : Slot → List ℕ → Bool
is_ranged (fixed w) f = true
is_ranged (number low high) f = within low high (fitting f)

-- the reason of the first test that fails, else the value
abbrev pub first_of : {A : Type 0} → List (Bool × ℕ) → A → Result A ℕ
first_of [] x = Ok x
first_of (test ∷ tests) x = if test.0 then first_of tests x else Err test.1

-- the tests of a line in their order, each with its reason: all fixed words, the count of fields, the spelling of all
-- numbers, the ranges of all, and what else is asked of it
abbrev pub tests_of : Bool → List Slot → List (List ℕ) → List (Bool × ℕ) → List (Bool × ℕ)
tests_of counted slots fs more = (each_slot is_there slots fs, 3) ∷ (counted, 4) ∷ (each_slot is_spelled slots fs, 5) ∷ (each_slot is_ranged slots fs, 6) ∷ more

-- what a line says, by its tests, that should have just these fields
abbrev pub says : {A : Type 0} → List Slot → List (List ℕ) → List (Bool × ℕ) → A → Result A ℕ
says slots fs more x = first_of (tests_of (length fs == length slots) slots fs more) x

-- ---- the kinds of lines

-- the number at this place of a line, from 0
abbrev pub field_number : ℕ → List (List ℕ) → ℤ
field_number i fs = value_of (slice_index_or fs i [])

abbrev pub natural_at : ℕ → List (List ℕ) → ℕ
natural_at i fs = unsigned_abs (field_number i fs)

-- numbers from low to high, one for each of these fields
abbrev pub number_slots : ℕ → ℕ → List (List ℕ) → List Slot
number_slots low high fs = map (λ f. number (pos low) (pos high)) fs

-- the numbers that these fields spell
abbrev pub naturals : List (List ℕ) → List ℕ
naturals fs = map (λ f. unsigned_abs (value_of f)) fs

-- WORD num den, in lowest terms
abbrev pub fraction_slots : List ℕ → List Slot
fraction_slots word = fixed word ∷ number lowest highest ∷ number (pos 1) highest ∷ []

abbrev pub is_lowest : ℕ → ℕ → Bool
is_lowest num den = not (shares num den den)

abbrev pub FractionInOrder : List ℕ → List (List ℕ) → Type 0
FractionInOrder word fs = fraction_of word fs ≡
    says (fraction_slots word) fs ((is_lowest (natural_at 1 fs) (natural_at 2 fs), 6) ∷ [])
    (record { num = field_number 1 fs; den = field_number 2 fs })

-- tickets plays total
abbrev pub counts_slots : List Slot
counts_slots = fixed (codes "tickets") ∷ number (pos 1) highest ∷ number lowest highest ∷ []

abbrev pub CountsInOrder : List (List ℕ) → Type 0
CountsInOrder fs = counts_of fs ≡ says counts_slots fs [] (natural_at 1 fs, field_number 2 fs)

-- t weight and up to 200 choices, behind the choices before
abbrev pub ticket_slots : List (List ℕ) → List Slot
ticket_slots fs = fixed (codes "t") ∷ number (pos 1) highest ∷ number_slots 0 65535 (drop 2 fs)

abbrev pub TicketInOrder : Option (List ℕ) → List (List ℕ) → Type 0
TicketInOrder before fs = ticket_of before fs ≡
    first_of (tests_of (count_is 2 202 fs) (ticket_slots fs) fs ((follows before (naturals (drop 2 fs)), 7) ∷ []))
    (record { play = record { code = naturals (drop 2 fs) }; weight = field_number 1 fs })

-- m l a v, behind the mark before
abbrev pub mark_slots : List Slot
mark_slots = fixed (codes "m") ∷ number (pos 1) (pos 8) ∷ number (pos 1) (pos 65535) ∷ number (pos 1) highest ∷ []

abbrev pub MarkInOrder : Option Mark → List (List ℕ) → Type 0
MarkInOrder before fs = mark_of before fs ≡
    says mark_slots fs ((mark_follows before (natural_at 1 fs) (natural_at 2 fs), 7) ∷ [])
    (record { l = natural_at 1 fs; a = natural_at 2 fs; v = field_number 3 fs })

-- c row v, behind the row before
abbrev pub row_slots : List Slot
row_slots = fixed (codes "c") ∷ number (pos 1) (pos 1535) ∷ number (pos 1) highest ∷ []

abbrev pub RowInOrder : Option Line → List (List ℕ) → Type 0
RowInOrder before fs = multiplier_of before fs ≡
    says row_slots fs ((row_follows before (natural_at 1 fs), 7) ∷ []) (record { row = natural_at 1 fs; v = field_number 2 fs })

-- WORD rho mu k
abbrev pub header_slots : List ℕ → List Slot
header_slots word = fixed word ∷ number (pos 1) highest ∷ number (pos 0) highest ∷ number (pos 0) highest ∷ []

abbrev pub HeaderInOrder : List ℕ → List (List ℕ) → Type 0
HeaderInOrder word fs = header_of word fs ≡ says (header_slots word) fs [] (field_number 1 fs, field_number 2 fs, natural_at 3 fs)

-- water num den resources
abbrev pub spent_slots : List Slot
spent_slots = fixed (codes "water") ∷ number lowest highest ∷ number (pos 1) highest ∷ fixed (codes "resources") ∷ []

abbrev pub spent_line : List (List ℕ) → Result Fact ℕ
spent_line fs = says spent_slots fs ((is_lowest (natural_at 1 fs) (natural_at 2 fs), 6) ∷ [])
    (Water (record { num = field_number 1 fs; den = field_number 2 fs }) Resources)

-- water num den target j
abbrev pub target_slots : List Slot
target_slots = fixed (codes "water") ∷ number lowest highest ∷ number (pos 1) highest ∷ fixed (codes "target") ∷ number (pos 1) (pos 65535) ∷ []

abbrev pub target_line_says : List (List ℕ) → Result Fact ℕ
target_line_says fs = says target_slots fs ((is_lowest (natural_at 1 fs) (natural_at 2 fs), 6) ∷ [])
    (Water (record { num = field_number 1 fs; den = field_number 2 fs }) (Target (natural_at 4 fs)))

abbrev pub WaterInOrder : List (List ℕ) → Type 0
WaterInOrder fs = water_of fs ≡ (if has_word 3 (codes "resources") fs then spent_line fs else target_line_says fs)

-- a bound of a cap
abbrev pub bound_slot : Slot
bound_slot = number (negsuc (2 ^ 63 - 1)) (pos (2 ^ 63 - 1))

-- cap l plain v
abbrev pub plain_slots : List Slot
plain_slots = fixed (codes "cap") ∷ number (pos 1) (pos 8) ∷ fixed (codes "plain") ∷ bound_slot ∷ []

abbrev pub plain_line : List (List ℕ) → Result (ℕ × ℤ × ℕ) ℕ
plain_line fs = says plain_slots fs [] (natural_at 1 fs, field_number 3 fs, 0)

-- cap l proved v n
abbrev pub proved_slots : List Slot
proved_slots = fixed (codes "cap") ∷ number (pos 1) (pos 8) ∷ fixed (codes "proved") ∷ bound_slot ∷ number (pos 1) (pos 65535) ∷ []

abbrev pub proved_line : List (List ℕ) → Result (ℕ × ℤ × ℕ) ℕ
proved_line fs = says proved_slots fs [] (natural_at 1 fs, field_number 3 fs, natural_at 4 fs)

abbrev pub CapInOrder : List (List ℕ) → Type 0
CapInOrder fs = cap_head_of fs ≡ (if has_word 2 (codes "plain") fs then plain_line fs else proved_line fs)

-- split l n
abbrev pub split_slots : List Slot
split_slots = fixed (codes "split") ∷ number (pos 1) (pos 8) ∷ number (pos 1) (pos 65535) ∷ []

abbrev pub SplitInOrder : List (List ℕ) → Type 0
SplitInOrder fs = split_of fs ≡ says split_slots fs [] (natural_at 1 fs, natural_at 2 fs)

-- a split below eight others: the tests of its line, and then its depth
abbrev pub DeepSplitInOrder : List (List ℕ) → Place → Type 0
DeepSplitInOrder fs p = deep_from fs p ≡ at_line p (says split_slots fs ((false, 8) ∷ []) (Unproved, p))

-- ---- the verdict

-- verdict optimal
abbrev pub optimal_slots : List Slot
optimal_slots = fixed (codes "verdict") ∷ fixed (codes "optimal") ∷ []

abbrev pub optimal_line : List (List ℕ) → Result Ending ℕ
optimal_line fs = says optimal_slots fs [] Optimal

-- a verdict of a gap: the word of its cause, and what stands behind it
abbrev pub gap_slots : List ℕ → List Slot → List Slot
gap_slots word slots = fixed (codes "verdict") ∷ fixed (codes "gap") ∷ fixed word ∷ slots

-- a number that fits 64 bits, from 1 on, and from 0 on
abbrev pub counted_slot : Slot
counted_slot = number (pos 1) (pos (2 ^ 64 - 1))

abbrev pub step_slot : Slot
step_slot = number (pos 0) (pos (2 ^ 64 - 1))

-- first k and as many actions as fields are left
abbrev pub fix_slots : List (List ℕ) → List Slot
fix_slots fs = number (pos 1) (pos 8) ∷ number (pos 1) (pos 8) ∷ number_slots 1 65535 fs

abbrev pub fix_at : ℕ → List (List ℕ) → Fix
fix_at i fs = record { first = natural_at i fs; acts = naturals (drop (i + 2) fs) }

-- verdict gap nodes N
abbrev pub nodes_line : List (List ℕ) → Result Ending ℕ
nodes_line fs = says (gap_slots (codes "nodes") (counted_slot ∷ [])) fs [] (Gap (causes.Nodes (natural_at 3 fs)))

-- verdict gap pivots N fix
abbrev pub pivots_slots : List (List ℕ) → List Slot
pivots_slots fs = gap_slots (codes "pivots") (counted_slot ∷ fix_slots (drop 6 fs))

abbrev pub pivots_line : List (List ℕ) → Result Ending ℕ
pivots_line fs = first_of (tests_of (count_follows 5 (length fs) (slice_get fs 5)) (pivots_slots fs) fs []) (Gap (causes.Pivots (natural_at 3 fs) (fix_at 4 fs)))

-- verdict gap looks N step fix
abbrev pub looks_slots : List (List ℕ) → List Slot
looks_slots fs = gap_slots (codes "looks") (counted_slot ∷ step_slot ∷ fix_slots (drop 7 fs))

abbrev pub looks_line : List (List ℕ) → Result Ending ℕ
looks_line fs = first_of (tests_of (count_follows 6 (length fs) (slice_get fs 6)) (looks_slots fs) fs [])
    (Gap (causes.Looks (natural_at 3 fs) (natural_at 4 fs) (fix_at 5 fs)))

-- verdict gap wide name OP left right step fix
abbrev pub wide_slots : List ℕ → List (List ℕ) → List Slot
wide_slots word fs = gap_slots (codes "wide")
    (number (pos 1) (pos 7) ∷ fixed word ∷ number lowest highest ∷ number lowest highest ∷ step_slot ∷ fix_slots (drop 10 fs))

abbrev pub wide_line : Op → List ℕ → List (List ℕ) → Result Ending ℕ
wide_line op word fs = first_of (tests_of (count_follows 9 (length fs) (slice_get fs 9)) (wide_slots word fs) fs [])
    (Gap (causes.Wide (natural_at 3 fs) (record { op = op; left = field_number 5 fs; right = field_number 6 fs }) (natural_at 7 fs) (fix_at 8 fs)))

abbrev pub VerdictInOrder : List (List ℕ) → Type 0
VerdictInOrder fs = verdict_of fs ≡
    (if has_word 1 (codes "optimal") fs then optimal_line fs
    else if has_word 2 (codes "nodes") fs then nodes_line fs
    else if has_word 2 (codes "pivots") fs then pivots_line fs
    else if has_word 2 (codes "looks") fs then looks_line fs
    else if has_word 4 (codes "sum") fs then wide_line Sum (codes "sum") fs
    else if has_word 4 (codes "less") fs then wide_line Less (codes "less") fs
    else wide_line Times (codes "times") fs)

-- ---- lines of one word

abbrev pub WordInOrder : List ℕ → List (List ℕ) → Type 0
WordInOrder word fs = shaped_as word 1 1 fs ≡ says (fixed word ∷ []) fs [] tt

-- each kind of line gives the reason of the first of its tests that fails, and else its numbers
pub record LinesInOrder : Type 0 where
  pub counts : (fs : List (List ℕ)) → CountsInOrder fs
  pub ticket : (before : Option (List ℕ)) (fs : List (List ℕ)) → TicketInOrder before fs
  pub value : (fs : List (List ℕ)) → FractionInOrder (codes "value") fs
  pub cap : (fs : List (List ℕ)) → CapInOrder fs
  pub split : (fs : List (List ℕ)) → SplitInOrder fs
  pub deep : (fs : List (List ℕ)) (p : Place) → DeepSplitInOrder fs p
  pub plays : (fs : List (List ℕ)) → HeaderInOrder (codes "plays") fs
  pub mark : (before : Option Mark) (fs : List (List ℕ)) → MarkInOrder before fs
  pub cover : (fs : List (List ℕ)) → HeaderInOrder (codes "cover") fs
  pub row : (before : Option Line) (fs : List (List ℕ)) → RowInOrder before fs
  pub water : (fs : List (List ℕ)) → WaterInOrder fs
  pub upper : (fs : List (List ℕ)) → FractionInOrder (codes "upper") fs
  pub verdict : (fs : List (List ℕ)) → VerdictInOrder fs
  pub unproved : (fs : List (List ℕ)) → WordInOrder (codes "open") fs
  pub ending : (fs : List (List ℕ)) → WordInOrder (codes "end") fs
