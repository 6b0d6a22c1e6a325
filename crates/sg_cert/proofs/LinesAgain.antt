-- What a line says is read again.
use Rattle.std.proofs.Common.{◌≡◌, ℕ, suc, ◌+◌, ◌<◌, ◌≤◌, ◌-◌, ◌^◌, true, false, List, [], ◌∷◌, length, map, Option, Some, Ok, ℤ, pos, negsuc, refl, ap, arith}
use Rattle.std.specs.Prelude.{◌==◌, nat_le, codes, decimal, bytes_eq, ◌≤ℤ◌, int_le}
use Rattle.std.specs.Fmt.{signed_decimal}
use Rattle.std.specs.List.{list_all, AllByRecursion}
use Rattle.std.proofs.lemmas.Bool.{lt-ltb, ltb-true}
use Rattle.std.proofs.lemmas.Bool.Decides.{nat_tests}
use Rattle.std.proofs.lemmas.Int.{ints}
use Rattle.sg_model.specs.declared.level.Level.TheVariants.{Resources, Target}
use Rattle.sg_model.specs.declared.ticket.Ticket.{Ticket}
use Rattle.sg_num.specs.Exact.{fits, Fits}
use Rattle.sg_frac.specs.Fractions.{Fraction}
use Rattle.sg_num.specs.declared.step.Op.{Op}
use Rattle.sg_num.specs.declared.step.Op.TheVariants.{Sum, Less, Times}
use Rattle.sg_num.specs.declared.step.Wide.{Wide}
use Rattle.sg_tree.specs.declared.fact.Mark.{Mark}
use Rattle.sg_tree.specs.declared.fact.Line.{Line}
use Rattle.sg_tree.specs.declared.fact.Fact.TheVariants.{Water}
use Rattle.sg_tree.specs.declared.fix.Fix.{Fix}
use Rattle.sg_tree.specs.declared.report.Cause.{Cause}
use Rattle.sg_tree.specs.declared.report.Cause.TheVariants as causes
use Rattle.sg_tree.specs.declared.report.Ending.{Ending}
use Rattle.sg_tree.specs.declared.report.Ending.TheVariants.{Optimal, Gap}
use Rattle.sg_cert.specs.Fields.{fields, is_natural, is_number_text, words_of, spelled_of, shaped_if, shaped_as, shaped_to, count_follows}
use Rattle.sg_cert.specs.LineReading.{lowest, highest, fraction_next, fraction_of, counts_of, follows, ticket_of, mark_of, multiplier_of, header_of, spent_of, target_of, water_of, plain_of, proved_of, cap_head_of, split_of, fix_of, nodes_of, pivots_of, looks_head_of, looks_of, wide_head_of, wide_as, wide_of, cause_of, optimal_of, gap_of, verdict_of}
use Rattle.sg_cert.specs.Text.{FieldRow, fraction_row, ticket_row, mark_row, line_row, split_row, fix_fields, op_word, cause_fields, verdict_row}
use Rattle.sg_cert.specs.Ranges.{IsFrom, IsFraction, IsTicket, IsMark, IsRangedLine, IsHeader, IsRangedFix, IsCause, IsEnding}
use Rattle.sg_cert.proofs.Cut.{both}
use Rattle.sg_cert.proofs.Common.{shares_from_reduced}
use Rattle.sg_cert.proofs.Numbers.{natural_spelled, whole_spelled, natural_next_again, whole_next_again, numbers_again, numbers_spelled, decimal_spells, spells_natural}

pub fits_low : (z : ℤ) → fits z ≡ true → lowest ≤ℤ z
fits_low (pos n) h = omega (arith, ints)
fits_low (negsuc n) h = let t : n < 2 ^ 127 = ltb-true n (2 ^ 127) h in omega (arith, ints, t)

pub fits_high : (z : ℤ) → fits z ≡ true → z ≤ℤ highest
fits_high (pos n) h = let t : n < 2 ^ 127 = ltb-true n (2 ^ 127) h in omega (arith, ints, t)
fits_high (negsuc n) h = omega (arith, ints)

decimals_length : (xs : List ℕ) → length (map decimal xs) ≡ length xs
decimals_length [] = refl
decimals_length (x ∷ xs) = ap (λ (n : ℕ). suc n) (decimals_length xs)

-- ---- shapes

pub spelled_all : (fs : FieldRow) → list_all is_number_text fs ≡ true → spelled_of [] fs ≡ true
unfolding spelled_of
spelled_all [] h = refl
spelled_all (f ∷ fs) h = let t = both (is_number_text f) (list_all is_number_text fs) h in rw (t.0) (spelled_all fs t.1)

-- a word that is one field
pub record IsWord (w : List ℕ) : Type 0 where
  pub one : fields w ≡ w ∷ []
  pub same : bytes_eq w w ≡ true
  pub no_place : bytes_eq w (codes "#") ≡ false

-- one fixed word and then numbers
pub shaped_again : (word : List ℕ) (low high : ℕ) (fs : FieldRow) → IsWord word → list_all is_number_text fs ≡ true → low ≤ length fs + 1 → length fs + 1 ≤ high → shaped_as word low high (word ∷ fs) ≡ Ok tt
unfolding shaped_if words_of spelled_of
shaped_again word low high fs w numbers from to =
    let a : nat_le low (suc (length fs)) ≡ true = grind (arith, nat_tests) in
    let b : nat_le (suc (length fs)) high ≡ true = grind (arith, nat_tests) in
    rw (w.one, w.same, w.no_place, a, b, spelled_all fs numbers) refl

-- ---- fractions and numbers

pub fraction_next_again : (f : Fraction) (fs : FieldRow) → IsFraction f → fraction_next (signed_decimal f.num ∷ signed_decimal f.den ∷ fs) ≡ Ok (f, fs)
unfolding fraction_next
fraction_next_again f fs h = rw (
  whole_next_again lowest highest f.num (signed_decimal f.den ∷ fs) h.num (fits_low f.num h.num) (fits_high f.num h.num),
  whole_next_again (pos 1) highest f.den fs h.den h.reduced.positive (fits_high f.den h.den),
  shares_from_reduced f h.reduced,
) refl

pub fraction_again : (word : List ℕ) (f : Fraction) → IsWord word → IsFraction f → fraction_of word (fraction_row word f) ≡ Ok f
unfolding fraction_of
fraction_again word f w h =
    let numbers : list_all is_number_text (signed_decimal f.num ∷ signed_decimal f.den ∷ []) ≡ true = rw (whole_spelled f.num h.num, whole_spelled f.den h.den) refl in
    rw (shaped_again word 3 3 (signed_decimal f.num ∷ signed_decimal f.den ∷ []) w numbers (omega arith) (omega arith), fraction_next_again f [] h) refl

word_tickets : IsWord (codes "tickets")
word_tickets = record { one = refl; same = refl; no_place = refl }

pub counts_again : (n : ℕ) (z : ℤ) → IsFrom 1 (2 ^ 127 - 1) n → Fits z → counts_of (codes "tickets" ∷ decimal n ∷ signed_decimal z ∷ []) ≡ Ok (n, z)
unfolding counts_of
counts_again n z h k =
    let small : n < 2 ^ 127 = omega (arith, h) in
    let numbers : list_all is_number_text (decimal n ∷ signed_decimal z ∷ []) ≡ true = rw (natural_spelled n small, whole_spelled z k) refl in
    rw (
      shaped_again (codes "tickets") 3 3 (decimal n ∷ signed_decimal z ∷ []) word_tickets numbers (omega arith) (omega arith),
      natural_next_again 1 (2 ^ 127 - 1) n (signed_decimal z ∷ []) small h.0 h.1,
      whole_next_again lowest highest z [] k (fits_low z k) (fits_high z k),
    ) refl

word_t : IsWord (codes "t")
word_t = record { one = refl; same = refl; no_place = refl }

int_le_is : (z : ℤ) → int_le (pos 1) z ≡ true → pos 1 ≤ℤ z
int_le_is z h = omega (arith, ints, h)

choices_from : (xs : List ℕ) → AllByRecursion (λ c. c ≤ 65535) xs → AllByRecursion (λ c. (0 ≤ c) × (c ≤ 65535)) xs
choices_from [] h = tt
choices_from (x ∷ xs) h = ((omega arith, h.0), choices_from xs h.1)

pub ticket_again : (before : Option (List ℕ)) (t : Ticket) → IsTicket t → int_le (pos 1) t.weight ≡ true → follows before t.play.code ≡ true → ticket_of before (ticket_row t) ≡ Ok t
unfolding ticket_of
ticket_again before t h low order =
    let numbers : list_all is_number_text (signed_decimal t.weight ∷ map decimal t.play.code) ≡ true = rw (whole_spelled t.weight h.weight) (numbers_spelled t.play.code h.choices) in
    let count : length (signed_decimal t.weight ∷ map decimal t.play.code) + 1 ≤ 202 = omega (arith, decimals_length t.play.code, h.count) in
    rw (
      shaped_again (codes "t") 2 202 (signed_decimal t.weight ∷ map decimal t.play.code) word_t numbers (omega arith) count,
      whole_next_again (pos 1) highest t.weight (map decimal t.play.code) h.weight (int_le_is t.weight low) (fits_high t.weight h.weight),
      numbers_again 0 [] t.play.code (choices_from t.play.code h.choices),
      order,
    ) refl

-- ---- facts

word_m : IsWord (codes "m")
word_m = record { one = refl; same = refl; no_place = refl }

pub mark_again : (before : Option Mark) (m : Mark) → IsMark before m → mark_of before (mark_row m) ≡ Ok m
unfolding mark_of
mark_again before m h =
    let numbers : list_all is_number_text (decimal m.l ∷ decimal m.a ∷ signed_decimal m.v ∷ []) ≡ true =
    rw (natural_spelled m.l (omega (arith, h.l)), natural_spelled m.a (omega (arith, h.a)), whole_spelled m.v h.v.1) refl in
    rw (
      shaped_again (codes "m") 4 4 (decimal m.l ∷ decimal m.a ∷ signed_decimal m.v ∷ []) word_m numbers (omega arith) (omega arith),
      natural_next_again 1 8 m.l (decimal m.a ∷ signed_decimal m.v ∷ []) (omega (arith, h.l)) h.l.0 h.l.1,
      natural_next_again 1 65535 m.a (signed_decimal m.v ∷ []) (omega (arith, h.a)) h.a.0 h.a.1,
      whole_next_again (pos 1) highest m.v [] h.v.1 h.v.0 (fits_high m.v h.v.1),
      h.order,
    ) refl

word_c : IsWord (codes "c")
word_c = record { one = refl; same = refl; no_place = refl }

pub row_again : (before : Option Line) (c : Line) → IsRangedLine before c → multiplier_of before (line_row c) ≡ Ok c
unfolding multiplier_of
row_again before c h =
    let numbers : list_all is_number_text (decimal c.row ∷ signed_decimal c.v ∷ []) ≡ true = rw (natural_spelled c.row (omega (arith, h.row)), whole_spelled c.v h.v.1) refl in
    rw (
      shaped_again (codes "c") 3 3 (decimal c.row ∷ signed_decimal c.v ∷ []) word_c numbers (omega arith) (omega arith),
      natural_next_again 1 1535 c.row (signed_decimal c.v ∷ []) (omega (arith, h.row)) h.row.0 h.row.1,
      whole_next_again (pos 1) highest c.v [] h.v.1 h.v.0 (fits_high c.v h.v.1),
      h.order,
    ) refl

pub header_again : (word : List ℕ) (rho mu : ℤ) (k : ℕ) → IsWord word → IsHeader rho mu k → header_of word (word ∷ signed_decimal rho ∷ signed_decimal mu ∷ decimal k ∷ []) ≡ Ok (rho, mu, k)
unfolding header_of
header_again word rho mu k w h =
    let small : k < 2 ^ 127 = omega (arith, h.count) in
    let numbers : list_all is_number_text (signed_decimal rho ∷ signed_decimal mu ∷ decimal k ∷ []) ≡ true =
    rw (whole_spelled rho h.first.1, whole_spelled mu h.second.1, natural_spelled k small) refl in
    rw (
      shaped_again word 4 4 (signed_decimal rho ∷ signed_decimal mu ∷ decimal k ∷ []) w numbers (omega arith) (omega arith),
      whole_next_again (pos 1) highest rho (signed_decimal mu ∷ decimal k ∷ []) h.first.1 h.first.0 (fits_high rho h.first.1),
      whole_next_again (pos 0) highest mu (decimal k ∷ []) h.second.1 h.second.0 (fits_high mu h.second.1),
      natural_next_again 0 (2 ^ 127 - 1) k [] small (omega arith) h.count,
    ) refl

spent_shape : (x y : List ℕ) → is_number_text x ≡ true → is_number_text y ≡ true → shaped_as (codes "water # # resources") 4 4 (codes "water" ∷ x ∷ y ∷ codes "resources" ∷ []) ≡ Ok tt
unfolding shaped_if words_of spelled_of
spent_shape x y h k = rw (h, k) refl

pub spent_again : (f : Fraction) → IsFraction f → water_of (codes "water" ∷ signed_decimal f.num ∷ signed_decimal f.den ∷ codes "resources" ∷ []) ≡ Ok (Water f Resources)
unfolding spent_of
spent_again f h = rw (spent_shape (signed_decimal f.num) (signed_decimal f.den) (whole_spelled f.num h.num) (whole_spelled f.den h.den), fraction_next_again f (codes "resources" ∷ []) h) refl

target_shape : (x y z : List ℕ) → is_number_text x ≡ true → is_number_text y ≡ true → is_number_text z ≡ true → shaped_as (codes "water # # target #") 5 5 (codes "water" ∷ x ∷ y ∷ codes "target" ∷ z ∷ []) ≡ Ok tt
unfolding shaped_if words_of spelled_of
target_shape x y z h k l = rw (h, k, l) refl

pub target_again : (f : Fraction) (j : ℕ) → IsFraction f → IsFrom 1 65535 j → water_of (codes "water" ∷ signed_decimal f.num ∷ signed_decimal f.den ∷ codes "target" ∷ decimal j ∷ []) ≡ Ok (Water f (Target j))
unfolding target_of
target_again f j h k = rw (
  target_shape (signed_decimal f.num) (signed_decimal f.den) (decimal j) (whole_spelled f.num h.num) (whole_spelled f.den h.den) (natural_spelled j (omega (arith, k))),
  fraction_next_again f (codes "target" ∷ decimal j ∷ []) h,
  natural_next_again 1 65535 j [] (omega (arith, k)) k.0 k.1,
) refl

-- ---- caps and splits

bound_fits : (v : ℤ) → (negsuc (2 ^ 63 - 1) ≤ℤ v) × (v ≤ℤ pos (2 ^ 63 - 1)) → fits v ≡ true
bound_fits (pos n) h = lt-ltb n (2 ^ 127) (omega (arith, ints, h))
bound_fits (negsuc n) h = lt-ltb n (2 ^ 127) (omega (arith, ints, h))

plain_shape : (x y : List ℕ) → is_number_text x ≡ true → is_number_text y ≡ true → shaped_as (codes "cap # plain #") 4 4 (codes "cap" ∷ x ∷ codes "plain" ∷ y ∷ []) ≡ Ok tt
unfolding shaped_if words_of spelled_of
plain_shape x y h k = rw (h, k) refl

pub plain_again : (l : ℕ) (v : ℤ) → IsFrom 1 8 l → (negsuc (2 ^ 63 - 1) ≤ℤ v) × (v ≤ℤ pos (2 ^ 63 - 1)) → cap_head_of (codes "cap" ∷ decimal l ∷ codes "plain" ∷ signed_decimal v ∷ []) ≡ Ok (l, v, 0)
unfolding plain_of
plain_again l v h k =
    let f = bound_fits v k in
    rw (
      plain_shape (decimal l) (signed_decimal v) (natural_spelled l (omega (arith, h))) (whole_spelled v f),
      natural_next_again 1 8 l (codes "plain" ∷ signed_decimal v ∷ []) (omega (arith, h)) h.0 h.1,
      whole_next_again (negsuc (2 ^ 63 - 1)) (pos (2 ^ 63 - 1)) v [] f k.0 k.1,
    ) refl

proved_shape : (x y z : List ℕ) → is_number_text x ≡ true → is_number_text y ≡ true → is_number_text z ≡ true → shaped_as (codes "cap # proved # #") 5 5 (codes "cap" ∷ x ∷ codes "proved" ∷ y ∷ z ∷ []) ≡ Ok tt
unfolding shaped_if words_of spelled_of
proved_shape x y z h k l = rw (h, k, l) refl

pub proved_again : (l n : ℕ) (v : ℤ) → IsFrom 1 8 l → (negsuc (2 ^ 63 - 1) ≤ℤ v) × (v ≤ℤ pos (2 ^ 63 - 1)) → IsFrom 1 65535 n → cap_head_of (codes "cap" ∷ decimal l ∷ codes "proved" ∷ signed_decimal v ∷ decimal n ∷ []) ≡ Ok (l, v, n)
unfolding proved_of
proved_again l n v h k c =
    let f = bound_fits v k in
    rw (
      proved_shape (decimal l) (signed_decimal v) (decimal n) (natural_spelled l (omega (arith, h))) (whole_spelled v f) (natural_spelled n (omega (arith, c))),
      natural_next_again 1 8 l (codes "proved" ∷ signed_decimal v ∷ decimal n ∷ []) (omega (arith, h)) h.0 h.1,
      whole_next_again (negsuc (2 ^ 63 - 1)) (pos (2 ^ 63 - 1)) v (decimal n ∷ []) f k.0 k.1,
      natural_next_again 1 65535 n [] (omega (arith, c)) c.0 c.1,
    ) refl

word_split : IsWord (codes "split")
word_split = record { one = refl; same = refl; no_place = refl }

pub split_line_again : (l n : ℕ) → IsFrom 1 8 l → IsFrom 1 65535 n → split_of (split_row l n) ≡ Ok (l, n)
unfolding split_of
split_line_again l n h k =
    let numbers : list_all is_number_text (decimal l ∷ decimal n ∷ []) ≡ true = rw (natural_spelled l (omega (arith, h)), natural_spelled n (omega (arith, k))) refl in
    rw (
      shaped_again (codes "split") 3 3 (decimal l ∷ decimal n ∷ []) word_split numbers (omega arith) (omega arith),
      natural_next_again 1 8 l (decimal n ∷ []) (omega (arith, h)) h.0 h.1,
      natural_next_again 1 65535 n [] (omega (arith, k)) k.0 k.1,
    ) refl

-- ---- the verdict

pub acts_from : (xs : List ℕ) → AllByRecursion (λ a. IsFrom 1 65535 a) xs → AllByRecursion (λ a. a ≤ 65535) xs
acts_from [] h = tt
acts_from (x ∷ xs) h = (h.0.1, acts_from xs h.1)

pub fix_again : (f : Fix) → IsRangedFix f → fix_of (fix_fields f) ≡ Ok f
unfolding fix_of
fix_again f h = rw (
  natural_next_again 1 8 f.first (decimal (length f.acts) ∷ map decimal f.acts) (omega (arith, h.first)) h.first.0 h.first.1,
  natural_next_again 1 8 (length f.acts) (map decimal f.acts) (omega (arith, h.count)) h.count.0 h.count.1,
  numbers_again 1 [] f.acts h.acts,
) refl

-- a count that its field tells
counted : (at count k : ℕ) → k < 2 ^ 127 → count ≡ at + 1 + k → count_follows at count (Some (decimal k)) ≡ true
counted at count k small e =
    let s = decimal_spells k (omega (arith, small)) in
    let n : is_natural (decimal k) ≡ true = spells_natural k (decimal k) s in
    let v : (count == at + 1 + k) ≡ true = grind (arith, nat_tests) in
    rw (n, s.value) v

nodes_shape : (x : List ℕ) → is_number_text x ≡ true → shaped_as (codes "verdict gap nodes") 4 4 (codes "verdict" ∷ codes "gap" ∷ codes "nodes" ∷ x ∷ []) ≡ Ok tt
unfolding shaped_if words_of spelled_of
nodes_shape x h = rw h refl

tail_numbers : (f : Fix) → IsRangedFix f → list_all is_number_text (fix_fields f) ≡ true
tail_numbers f h = rw (natural_spelled f.first (omega (arith, h.first)), natural_spelled (length f.acts) (omega (arith, h.count))) (numbers_spelled f.acts (acts_from f.acts h.acts))

pivots_shape : (x : List ℕ) (f : Fix) → is_number_text x ≡ true → IsRangedFix f → shaped_to (codes "verdict gap pivots") 5 (codes "verdict" ∷ codes "gap" ∷ codes "pivots" ∷ x ∷ fix_fields f) ≡ Ok tt
unfolding shaped_if words_of spelled_of
pivots_shape x f h k =
    let c : count_follows 5 (length (codes "verdict" ∷ codes "gap" ∷ codes "pivots" ∷ x ∷ fix_fields f)) (Some (decimal (length f.acts))) ≡ true =
    counted 5 _ (length f.acts) (omega (arith, k.count)) (omega (arith, decimals_length f.acts)) in
    rw (c, h, spelled_all (fix_fields f) (tail_numbers f k)) refl

looks_shape : (x y : List ℕ) (f : Fix) → is_number_text x ≡ true → is_number_text y ≡ true → IsRangedFix f → shaped_to (codes "verdict gap looks") 6 (codes "verdict" ∷ codes "gap" ∷ codes "looks" ∷ x ∷ y ∷ fix_fields f) ≡ Ok tt
unfolding shaped_if words_of spelled_of
looks_shape x y f h l k =
    let c : count_follows 6 (length (codes "verdict" ∷ codes "gap" ∷ codes "looks" ∷ x ∷ y ∷ fix_fields f)) (Some (decimal (length f.acts))) ≡ true =
    counted 6 _ (length f.acts) (omega (arith, k.count)) (omega (arith, decimals_length f.acts)) in
    rw (c, h, l, spelled_all (fix_fields f) (tail_numbers f k)) refl

nodes_again : (n : ℕ) → IsFrom 1 (2 ^ 64 - 1) n → nodes_of (codes "verdict" ∷ codes "gap" ∷ codes "nodes" ∷ decimal n ∷ []) ≡ Ok (causes.Nodes n)
unfolding nodes_of
nodes_again n h = rw (nodes_shape (decimal n) (natural_spelled n (omega (arith, h))), natural_next_again 1 (2 ^ 64 - 1) n [] (omega (arith, h)) h.0 h.1) refl

pivots_again : (n : ℕ) (fix : Fix) → IsFrom 1 (2 ^ 64 - 1) n → IsRangedFix fix → pivots_of (codes "verdict" ∷ codes "gap" ∷ codes "pivots" ∷ decimal n ∷ fix_fields fix) ≡ Ok (causes.Pivots n fix)
unfolding pivots_of
pivots_again n fix h k = rw (pivots_shape (decimal n) fix (natural_spelled n (omega (arith, h))) k, natural_next_again 1 (2 ^ 64 - 1) n (fix_fields fix) (omega (arith, h)) h.0 h.1, fix_again fix k) refl

looks_again : (n step : ℕ) (fix : Fix) → IsFrom 1 (2 ^ 64 - 1) n → IsFrom 0 (2 ^ 64 - 1) step → IsRangedFix fix → looks_of (codes "verdict" ∷ codes "gap" ∷ codes "looks" ∷ decimal n ∷ decimal step ∷ fix_fields fix) ≡ Ok (causes.Looks n step fix)
unfolding looks_of looks_head_of
looks_again n step fix h l k = rw (
  looks_shape (decimal n) (decimal step) fix (natural_spelled n (omega (arith, h))) (natural_spelled step (omega (arith, l))) k,
  natural_next_again 1 (2 ^ 64 - 1) n (decimal step ∷ fix_fields fix) (omega (arith, h)) h.0 h.1,
  natural_next_again 0 (2 ^ 64 - 1) step (fix_fields fix) (omega (arith, l)) l.0 l.1,
  fix_again fix k,
) refl

abbrev wide_fields : ℕ → Wide → ℕ → Fix → FieldRow
wide_fields name wide step fix = codes "verdict" ∷ codes "gap" ∷ codes "wide" ∷ decimal name ∷ op_word wide.op ∷ signed_decimal wide.left ∷ signed_decimal wide.right ∷ decimal step ∷ fix_fields fix

sum_shape : (name x y step : List ℕ) (f : Fix) → is_number_text name ≡ true → is_number_text x ≡ true → is_number_text y ≡ true → is_number_text step ≡ true → IsRangedFix f
    → shaped_to (codes "verdict gap wide # sum") 9 (codes "verdict" ∷ codes "gap" ∷ codes "wide" ∷ name ∷ codes "sum" ∷ x ∷ y ∷ step ∷ fix_fields f) ≡ Ok tt
unfolding shaped_if words_of spelled_of
sum_shape name x y step f a b d e k =
    let c : count_follows 9 (length (codes "verdict" ∷ codes "gap" ∷ codes "wide" ∷ name ∷ codes "sum" ∷ x ∷ y ∷ step ∷ fix_fields f)) (Some (decimal (length f.acts))) ≡ true =
    counted 9 _ (length f.acts) (omega (arith, k.count)) (omega (arith, decimals_length f.acts)) in
    rw (c, a, b, d, e, spelled_all (fix_fields f) (tail_numbers f k)) refl

less_shape : (name x y step : List ℕ) (f : Fix) → is_number_text name ≡ true → is_number_text x ≡ true → is_number_text y ≡ true → is_number_text step ≡ true → IsRangedFix f
    → shaped_to (codes "verdict gap wide # less") 9 (codes "verdict" ∷ codes "gap" ∷ codes "wide" ∷ name ∷ codes "less" ∷ x ∷ y ∷ step ∷ fix_fields f) ≡ Ok tt
unfolding shaped_if words_of spelled_of
less_shape name x y step f a b d e k =
    let c : count_follows 9 (length (codes "verdict" ∷ codes "gap" ∷ codes "wide" ∷ name ∷ codes "less" ∷ x ∷ y ∷ step ∷ fix_fields f)) (Some (decimal (length f.acts))) ≡ true =
    counted 9 _ (length f.acts) (omega (arith, k.count)) (omega (arith, decimals_length f.acts)) in
    rw (c, a, b, d, e, spelled_all (fix_fields f) (tail_numbers f k)) refl

times_shape : (name x y step : List ℕ) (f : Fix) → is_number_text name ≡ true → is_number_text x ≡ true → is_number_text y ≡ true → is_number_text step ≡ true → IsRangedFix f
    → shaped_to (codes "verdict gap wide # times") 9 (codes "verdict" ∷ codes "gap" ∷ codes "wide" ∷ name ∷ codes "times" ∷ x ∷ y ∷ step ∷ fix_fields f) ≡ Ok tt
unfolding shaped_if words_of spelled_of
times_shape name x y step f a b d e k =
    let c : count_follows 9 (length (codes "verdict" ∷ codes "gap" ∷ codes "wide" ∷ name ∷ codes "times" ∷ x ∷ y ∷ step ∷ fix_fields f)) (Some (decimal (length f.acts))) ≡ true =
    counted 9 _ (length f.acts) (omega (arith, k.count)) (omega (arith, decimals_length f.acts)) in
    rw (c, a, b, d, e, spelled_all (fix_fields f) (tail_numbers f k)) refl

wide_as_again : (op : Op) (words : List ℕ) (name step : ℕ) (left right : ℤ) (fix : Fix) → IsFrom 1 7 name → Fits left → Fits right → IsFrom 0 (2 ^ 64 - 1) step → IsRangedFix fix
    → shaped_to words 9 (wide_fields name (record { op = op; left = left; right = right }) step fix) ≡ Ok tt
    → wide_as op words (wide_fields name (record { op = op; left = left; right = right }) step fix) ≡ Ok (causes.Wide name (record { op = op; left = left; right = right }) step fix)
unfolding wide_as wide_head_of
wide_as_again op words name step left right fix a b c d k shape = rw (
  shape,
  natural_next_again 1 7 name (op_word op ∷ signed_decimal left ∷ signed_decimal right ∷ decimal step ∷ fix_fields fix) (omega (arith, a)) a.0 a.1,
  whole_next_again lowest highest left (signed_decimal right ∷ decimal step ∷ fix_fields fix) b (fits_low left b) (fits_high left b),
  whole_next_again lowest highest right (decimal step ∷ fix_fields fix) c (fits_low right c) (fits_high right c),
  natural_next_again 0 (2 ^ 64 - 1) step (fix_fields fix) (omega (arith, d)) d.0 d.1,
  fix_again fix k,
) refl

wide_again : (op : Op) (name step : ℕ) (left right : ℤ) (fix : Fix) → IsFrom 1 7 name → Fits left → Fits right → IsFrom 0 (2 ^ 64 - 1) step → IsRangedFix fix
    → wide_of (wide_fields name (record { op = op; left = left; right = right }) step fix) ≡ Ok (causes.Wide name (record { op = op; left = left; right = right }) step fix)
wide_again Sum name step left right fix a b c d k =
    wide_as_again Sum (codes "verdict gap wide # sum") name step left right fix a b c d k
    (sum_shape (decimal name) (signed_decimal left) (signed_decimal right) (decimal step) fix (natural_spelled name (omega (arith, a))) (whole_spelled left b) (whole_spelled right c) (natural_spelled step (omega (arith, d))) k)
wide_again Less name step left right fix a b c d k =
    wide_as_again Less (codes "verdict gap wide # less") name step left right fix a b c d k
    (less_shape (decimal name) (signed_decimal left) (signed_decimal right) (decimal step) fix (natural_spelled name (omega (arith, a))) (whole_spelled left b) (whole_spelled right c) (natural_spelled step (omega (arith, d))) k)
wide_again Times name step left right fix a b c d k =
    wide_as_again Times (codes "verdict gap wide # times") name step left right fix a b c d k
    (times_shape (decimal name) (signed_decimal left) (signed_decimal right) (decimal step) fix (natural_spelled name (omega (arith, a))) (whole_spelled left b) (whole_spelled right c) (natural_spelled step (omega (arith, d))) k)

pub cause_again : (c : Cause) → IsCause c → cause_of (codes "verdict" ∷ codes "gap" ∷ cause_fields c) ≡ Ok c
cause_again (causes.Nodes n) h = nodes_again n h
cause_again (causes.Pivots n fix) h = pivots_again n fix h.0 h.1
cause_again (causes.Looks n step fix) h = looks_again n step fix h.0 h.1 h.2
cause_again (causes.Wide name wide step fix) h = wide_again wide.op name step wide.left wide.right fix h.0 h.1 h.2 h.3 h.4

pub verdict_again : (e : Ending) → IsEnding e → verdict_of (verdict_row e) ≡ Ok e
unfolding optimal_of gap_of shaped_if words_of spelled_of
verdict_again Optimal h = refl
verdict_again (Gap cause) h = rw (cause_again cause h) refl
