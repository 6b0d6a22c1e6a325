-- What a single line of a report says, by its fields. An error is the reason of the first test that fails: the fixed
-- words, then the count of fields, then the spelling of the numbers, then their ranges, then the order of lines.
use Rattle.std.specs.Prelude.{ℕ, zero, suc, ◌-◌, ◌^◌, ◌%◌, Bool, true, false, ◌&&◌, ◌||◌, ◌==◌, nat_lt, nat_le, if◌then◌else◌, List, [], drop, Option, Some, None, Result, Ok, Err, ℤ, pos, negsuc, unsigned_abs, codes, ◌≡◌, int_le}
use Rattle.sg_model.specs.declared.level.Level.TheVariants.{Resources, Target}
use Rattle.sg_model.specs.declared.ticket.Ticket.{Ticket}
use Rattle.sg_frac.specs.Fractions.{Fraction}
use Rattle.sg_num.specs.declared.step.Op.{Op}
use Rattle.sg_num.specs.declared.step.Op.TheVariants.{Sum, Less, Times}
use Rattle.sg_num.specs.declared.step.Wide.{Wide}
use Rattle.sg_tree.specs.Claims.{comes_before}
use Rattle.sg_tree.specs.declared.fact.Mark.{Mark}
use Rattle.sg_tree.specs.declared.fact.Line.{Line}
use Rattle.sg_tree.specs.declared.fact.Fact.{Fact}
use Rattle.sg_tree.specs.declared.fact.Fact.TheVariants.{Water}
use Rattle.sg_tree.specs.declared.fix.Fix.{Fix}
use Rattle.sg_tree.specs.declared.report.Cause.{Cause}
use Rattle.sg_tree.specs.declared.report.Cause.TheVariants as causes
use Rattle.sg_tree.specs.declared.report.Ending.{Ending}
use Rattle.sg_tree.specs.declared.report.Ending.TheVariants.{Optimal, Gap}
use Rattle.sg_cert.specs.Fields.{natural_next, whole_next, numbers_of, has_word, shaped_as, shaped_to}
use Rattle.sg_model.specs.Steps.{◌>>=◌}

-- reason 7 where the order is broken
abbrev pub in_order : Bool → Result (Unit {0}) ℕ
in_order true = Ok tt
in_order false = Err 7

-- ---- fractions

-- the ends of i128
abbrev pub lowest : ℤ
lowest = negsuc (2 ^ 127 - 1)

abbrev pub highest : ℤ
highest = pos (2 ^ 127 - 1)

-- whether a number from 2 to k divides both
abbrev pub shares : ℕ → ℕ → ℕ → Bool
shares a b zero = false
shares a b (suc k) = (nat_le 1 k && (a % suc k == 0 && b % suc k == 0)) || shares a b k

-- the fraction, where no number above 1 divides both of its parts
abbrev pub reduced_of : ℤ → ℤ → Result Fraction ℕ
reduced_of num den = if shares (unsigned_abs num) (unsigned_abs den) (unsigned_abs den) then Err 6 else Ok (record { num = num; den = den })

-- two fields that are a reduced fraction
unfoldable pub fraction_next : List (List ℕ) → Result (Fraction × List (List ℕ)) ℕ
fraction_next fs = do
  num ← whole_next lowest highest fs
  den ← whole_next (pos 1) highest num.1
  f ← reduced_of num.0 den.0
  Ok (f, den.1)

-- WORD num den
unfoldable pub fraction_of : List ℕ → List (List ℕ) → Result Fraction ℕ
fraction_of word fs = do
  shape ← shaped_as word 3 3 fs
  f ← fraction_next (drop 1 fs)
  Ok f.0

-- ---- tickets

-- tickets plays total
unfoldable pub counts_of : List (List ℕ) → Result (ℕ × ℤ) ℕ
counts_of fs = do
  shape ← shaped_as (codes "tickets") 3 3 fs
  plays ← natural_next 1 (2 ^ 127 - 1) (drop 1 fs)
  total ← whole_next lowest highest plays.1
  Ok (plays.0, total.0)

-- whether choices may follow those of the ticket before: as long, and later
abbrev pub follows : Option (List ℕ) → List ℕ → Bool
follows None play = true
follows (Some before) play = comes_before before play

-- a ticket that may stand behind one with these choices: a weight of at least 1, and choices that follow
abbrev pub MayStand : Option (List ℕ) → Ticket → Type 0
MayStand before t = (int_le (pos 1) t.weight ≡ true) × (follows before t.play.code ≡ true)

-- t weight and the choices
abbrev pub ticket_head_of : List (List ℕ) → Result (ℤ × List (List ℕ)) ℕ
ticket_head_of fs = do
  shape ← shaped_as (codes "t") 2 202 fs
  whole_next (pos 1) highest (drop 1 fs)

abbrev pub ticket_end_of : Option (List ℕ) → ℤ → List ℕ → Result Ticket ℕ
ticket_end_of before weight choices = do
  order ← in_order (follows before choices)
  Ok (record { play = record { code = choices }; weight = weight })

unfoldable pub ticket_of : Option (List ℕ) → List (List ℕ) → Result Ticket ℕ
ticket_of before fs = do
  head ← ticket_head_of fs
  choices ← numbers_of 0 65535 [] head.1
  ticket_end_of before head.0 choices

-- ---- facts

-- whether a mark may follow the one before: a later type, or the same and a later action
abbrev pub mark_follows : Option Mark → ℕ → ℕ → Bool
mark_follows None l a = true
mark_follows (Some m) l a = nat_lt m.l l || (m.l == l && nat_lt m.a a)

-- m l a v
unfoldable pub mark_of : Option Mark → List (List ℕ) → Result Mark ℕ
mark_of before fs = do
  shape ← shaped_as (codes "m") 4 4 fs
  l ← natural_next 1 8 (drop 1 fs)
  a ← natural_next 1 65535 l.1
  v ← whole_next (pos 1) highest a.1
  order ← in_order (mark_follows before l.0 a.0)
  Ok (record { l = l.0; a = a.0; v = v.0 })

-- whether a row may follow the one before: a later one
abbrev pub row_follows : Option Line → ℕ → Bool
row_follows None row = true
row_follows (Some c) row = nat_lt c.row row

-- c row v
unfoldable pub multiplier_of : Option Line → List (List ℕ) → Result Line ℕ
multiplier_of before fs = do
  shape ← shaped_as (codes "c") 3 3 fs
  row ← natural_next 1 1535 (drop 1 fs)
  v ← whole_next (pos 1) highest row.1
  order ← in_order (row_follows before row.0)
  Ok (record { row = row.0; v = v.0 })

-- WORD rho mu k
unfoldable pub header_of : List ℕ → List (List ℕ) → Result (ℤ × ℤ × ℕ) ℕ
header_of word fs = do
  shape ← shaped_as word 4 4 fs
  rho ← whole_next (pos 1) highest (drop 1 fs)
  mu ← whole_next (pos 0) highest rho.1
  k ← natural_next 0 (2 ^ 127 - 1) mu.1
  Ok (rho.0, mu.0, k.0)

-- water num den resources
unfoldable pub spent_of : List (List ℕ) → Result Fact ℕ
spent_of fs = do
  shape ← shaped_as (codes "water # # resources") 4 4 fs
  level ← fraction_next (drop 1 fs)
  Ok (Water level.0 Resources)

-- water num den target j
unfoldable pub target_of : List (List ℕ) → Result Fact ℕ
target_of fs = do
  shape ← shaped_as (codes "water # # target #") 5 5 fs
  level ← fraction_next (drop 1 fs)
  j ← natural_next 1 65535 (drop 4 fs)
  Ok (Water level.0 (Target j.0))

abbrev pub water_of : List (List ℕ) → Result Fact ℕ
water_of fs = if has_word 3 (codes "resources") fs then spent_of fs else target_of fs

-- ---- caps and splits

-- a bound, which fits i64
abbrev pub bound_next : List (List ℕ) → Result (ℤ × List (List ℕ)) ℕ
bound_next fs = whole_next (negsuc (2 ^ 63 - 1)) (pos (2 ^ 63 - 1)) fs

-- cap l plain v
unfoldable pub plain_of : List (List ℕ) → Result (ℕ × ℤ × ℕ) ℕ
plain_of fs = do
  shape ← shaped_as (codes "cap # plain #") 4 4 fs
  l ← natural_next 1 8 (drop 1 fs)
  v ← bound_next (drop 3 fs)
  Ok (l.0, v.0, 0)

-- cap l proved v n
unfoldable pub proved_of : List (List ℕ) → Result (ℕ × ℤ × ℕ) ℕ
proved_of fs = do
  shape ← shaped_as (codes "cap # proved # #") 5 5 fs
  l ← natural_next 1 8 (drop 1 fs)
  v ← bound_next (drop 3 fs)
  n ← natural_next 1 65535 v.1
  Ok (l.0, v.0, n.0)

-- the type, the bound and the number of facts
abbrev pub cap_head_of : List (List ℕ) → Result (ℕ × ℤ × ℕ) ℕ
cap_head_of fs = if has_word 2 (codes "plain") fs then plain_of fs else proved_of fs

-- split l n
unfoldable pub split_of : List (List ℕ) → Result (ℕ × ℕ) ℕ
split_of fs = do
  shape ← shaped_as (codes "split") 3 3 fs
  l ← natural_next 1 8 (drop 1 fs)
  n ← natural_next 1 65535 l.1
  Ok (l.0, n.0)

-- ---- the verdict

-- first k and the k actions
unfoldable pub fix_of : List (List ℕ) → Result Fix ℕ
fix_of fs = do
  first ← natural_next 1 8 fs
  k ← natural_next 1 8 first.1
  acts ← numbers_of 1 65535 [] k.1
  Ok (record { first = first.0; acts = acts })

-- verdict gap nodes N
unfoldable pub nodes_of : List (List ℕ) → Result Cause ℕ
nodes_of fs = do
  shape ← shaped_as (codes "verdict gap nodes") 4 4 fs
  n ← natural_next 1 (2 ^ 64 - 1) (drop 3 fs)
  Ok (causes.Nodes n.0)

-- verdict gap pivots N fix
abbrev pub pivots_head_of : List (List ℕ) → Result (ℕ × List (List ℕ)) ℕ
pivots_head_of fs = do
  shape ← shaped_to (codes "verdict gap pivots") 5 fs
  natural_next 1 (2 ^ 64 - 1) (drop 3 fs)

unfoldable pub pivots_of : List (List ℕ) → Result Cause ℕ
pivots_of fs = do
  n ← pivots_head_of fs
  fix ← fix_of n.1
  Ok (causes.Pivots n.0 fix)

-- verdict gap looks N step fix
unfoldable pub looks_head_of : List (List ℕ) → Result ((ℕ × ℕ) × List (List ℕ)) ℕ
looks_head_of fs = do
  shape ← shaped_to (codes "verdict gap looks") 6 fs
  n ← natural_next 1 (2 ^ 64 - 1) (drop 3 fs)
  step ← natural_next 0 (2 ^ 64 - 1) n.1
  Ok ((n.0, step.0), step.1)

unfoldable pub looks_of : List (List ℕ) → Result Cause ℕ
looks_of fs = do
  head ← looks_head_of fs
  fix ← fix_of head.1
  Ok (causes.Looks head.0.0 head.0.1 fix)

-- verdict gap wide name OP left right step fix
unfoldable pub wide_head_of : Op → List ℕ → List (List ℕ) → Result ((ℕ × Wide × ℕ) × List (List ℕ)) ℕ
wide_head_of op words fs = do
  shape ← shaped_to words 9 fs
  name ← natural_next 1 7 (drop 3 fs)
  left ← whole_next lowest highest (drop 5 fs)
  right ← whole_next lowest highest left.1
  step ← natural_next 0 (2 ^ 64 - 1) right.1
  Ok ((name.0, record { op = op; left = left.0; right = right.0 }, step.0), step.1)

unfoldable pub wide_as : Op → List ℕ → List (List ℕ) → Result Cause ℕ
wide_as op words fs = do
  head ← wide_head_of op words fs
  fix ← fix_of head.1
  Ok (causes.Wide head.0.0 head.0.1 head.0.2 fix)

abbrev pub wide_of : List (List ℕ) → Result Cause ℕ
wide_of fs =
    if has_word 4 (codes "sum") fs then wide_as Sum (codes "verdict gap wide # sum") fs
    else if has_word 4 (codes "less") fs then wide_as Less (codes "verdict gap wide # less") fs
    else wide_as Times (codes "verdict gap wide # times") fs

abbrev pub cause_of : List (List ℕ) → Result Cause ℕ
cause_of fs =
    if has_word 2 (codes "nodes") fs then nodes_of fs
    else if has_word 2 (codes "pivots") fs then pivots_of fs
    else if has_word 2 (codes "looks") fs then looks_of fs
    else wide_of fs

unfoldable pub optimal_of : List (List ℕ) → Result Ending ℕ
optimal_of fs = do
  shape ← shaped_as (codes "verdict optimal") 2 2 fs
  Ok Optimal

unfoldable pub gap_of : List (List ℕ) → Result Ending ℕ
gap_of fs = do
  cause ← cause_of fs
  Ok (Gap cause)

abbrev pub verdict_of : List (List ℕ) → Result Ending ℕ
verdict_of fs = if has_word 1 (codes "optimal") fs then optimal_of fs else gap_of fs
