-- The walk over the tickets counts what covers each target.
use Rattle.std.proofs.Common.{◌≡◌, ℕ, ◌+◌, ◌-◌, ◌<◌, ◌≤◌, ◌^◌, Bool, true, false, true≢false, cond, ◌||◌, List, [], ◌∷◌, length, ℤ, pos, ◌+ℤ◌, ◌≤ℤ◌, sym, ◌∙◌, ap, subst, refl, arith, inl, inr, slice_index_or, replicate}
use Rattle.std.specs.List.{list_any}
use Rattle.std.specs.Prelude.{nat_eq}
use Rattle.std.specs.Int.{w128, int_wrapping_add}
use Rattle.std.proofs.lemmas.Int.{ints, int_wrap_fits, wrapping_add_is}
use Rattle.std.proofs.lemmas.Bool.{cases_eq}
use Rattle.std.proofs.lemmas.Bool.Decides.{nat_tests}
use Rattle.std.proofs.lemmas.List.{get_or-set_same, get_or-set_other, get_or-replicate, length-set, length-replicate}
use Rattle.std.proofs.lemmas.List.Elements.{All-head, All-tail}
use Rattle.sg_model.specs.declared.ticket.Ticket.{Ticket}
use Rattle.sg_model.specs.Sums.{nth}
use Rattle.sg_model.specs.Games.{Game, action_count, attacker, is_matrix, resource_schedules, schedule_targets}
use Rattle.sg_model.specs.Plays.{covers, covers_from}
use Rattle.sg_model.specs.Commitments.{cover_count, weight_total}
use Rattle.sg_game.specs.declared.cell.Cell.{Cell}
use Rattle.sg_game.specs.Tallies.{IsTicketCount, IsCounted, IsTally, marked, no_cell, tallied, touched, touched_all, touched_from}
use Rattle.sg_model.proofs.Covers.{ArePositive, cover_count-bounds, weight_total-nonneg}

-- a cell after a test of whether the ticket covers its target
abbrev tested : Bool → ℕ → ℤ → Cell → Cell
tested b n w x = cond b (marked n w x) x

marked-mark : (n : ℕ) (w : ℤ) (x : Cell) → nat_eq (marked n w x).mark n ≡ true
marked-mark n w x = elim (nat_eq x.mark n) as (λ (b : Bool). nat_eq x.mark n ≡ b → nat_eq (cond b x (record { mark = n; count = int_wrapping_add w128 x.count w })).mark n ≡ true) [
  | true ↦ (λ e. e)
  | false ↦ (λ e. grind (arith, nat_tests))
] refl

marked-twice : (n : ℕ) (w : ℤ) (x : Cell) → marked n w (marked n w x) ≡ marked n w x
marked-twice n w x =
    let y : Cell = marked n w x in
    ap (λ (b : Bool). cond b y (record { mark = n; count = int_wrapping_add w128 y.count w })) (marked-mark n w x)

tested-twice : (a b : Bool) (n : ℕ) (w : ℤ) (x : Cell) → tested b n w (tested a n w x) ≡ tested (a || b) n w x
tested-twice true true n w x = marked-twice n w x
tested-twice true false n w x = refl
tested-twice false b n w x = refl

touched-at : (cells : List Cell) (u t n : ℕ) (w : ℤ) → t < length cells → slice_index_or (touched cells u n w) t no_cell ≡ tested (nat_eq u t) n w (slice_index_or cells t no_cell)
touched-at cells u t n w lt = elim (cases_eq u t) [
  | inl same ↦
      let yes_same : nat_eq u t ≡ true = grind (arith, nat_tests) in
      subst (λ (s : ℕ). slice_index_or (touched cells s n w) t no_cell ≡ tested (nat_eq u t) n w (slice_index_or cells t no_cell)) (sym same)
      (get_or-set_same cells t (marked n w (slice_index_or cells t no_cell)) no_cell lt ∙ ap (λ (b : Bool). tested b n w (slice_index_or cells t no_cell)) (sym yes_same))
  | inr other ↦
      let no_same : nat_eq u t ≡ false = grind (arith, nat_tests) in
      get_or-set_other cells u t (marked n w (slice_index_or cells u no_cell)) no_cell (λ e. other (sym e)) ∙ ap (λ (b : Bool). tested b n w (slice_index_or cells t no_cell)) (sym no_same)
]

touched_all-at : (cells : List Cell) (us : List ℕ) (t n : ℕ) (w : ℤ) → t < length cells
    → slice_index_or (touched_all cells us n w) t no_cell ≡ tested (list_any (λ x. nat_eq x t) us) n w (slice_index_or cells t no_cell)
touched_all-at cells [] t n w lt = refl
touched_all-at cells (u ∷ us) t n w lt =
    touched_all-at (touched cells u n w) us t n w (omega (arith, lt, length-set cells u (marked n w (slice_index_or cells u no_cell))))
    ∙ (ap (λ (x : Cell). tested (list_any (λ x. nat_eq x t) us) n w x) (touched-at cells u t n w lt)
    ∙ tested-twice (nat_eq u t) (list_any (λ x. nat_eq x t) us) n w (slice_index_or cells t no_cell))

pub length-touched_all : (cells : List Cell) (us : List ℕ) (n : ℕ) (w : ℤ) → length (touched_all cells us n w) ≡ length cells
length-touched_all cells [] n w = refl
length-touched_all cells (u ∷ us) n w = length-touched_all (touched cells u n w) us n w ∙ length-set cells u (marked n w (slice_index_or cells u no_cell))

touched_from-at : (g : Game) (r : ℕ) (cells : List Cell) (cs : List ℕ) (t n : ℕ) (w : ℤ) → t < length cells
    → slice_index_or (touched_from g r cells cs n w) t no_cell ≡ tested (covers_from g r cs t) n w (slice_index_or cells t no_cell)
touched_from-at g r cells [] t n w lt = refl
touched_from-at g r cells (c ∷ cs) t n w lt =
    let held : List ℕ = schedule_targets g (nth (resource_schedules g r) c 0) in
    touched_from-at g (r + 1) (touched_all cells held n w) cs t n w (omega (arith, lt, length-touched_all cells held n w))
    ∙ (ap (λ (x : Cell). tested (covers_from g (r + 1) cs t) n w x) (touched_all-at cells held t n w lt)
    ∙ tested-twice (list_any (λ x. nat_eq x t) held) (covers_from g (r + 1) cs t) n w (slice_index_or cells t no_cell))

pub length-touched_from : (g : Game) (r : ℕ) (cells : List Cell) (cs : List ℕ) (n : ℕ) (w : ℤ) → length (touched_from g r cells cs n w) ≡ length cells
length-touched_from g r cells [] n w = refl
length-touched_from g r cells (c ∷ cs) n w =
    let held : List ℕ = schedule_targets g (nth (resource_schedules g r) c 0) in
    length-touched_from g (r + 1) (touched_all cells held n w) cs n w ∙ length-touched_all cells held n w

-- a ticket that comes later than the mark counts where it covers the target
record Counts (n : ℕ) (count : ℤ) (x : Cell) : Type 0 where
  mark : x.mark ≤ n
  is : x.count ≡ count

counted : (b : Bool) (n : ℕ) (w : ℤ) (x : Cell) → x.mark < n → pos 0 ≤ℤ x.count → pos 0 ≤ℤ w → (x.count +ℤ w) ≤ℤ pos (2 ^ 127 - 1) → Counts n (x.count +ℤ cond b w (pos 0)) (tested b n w x)
counted false n w x lt low some room = record { mark = omega (arith, lt); is = omega (arith, ints) }
counted true n w x lt low some room =
    let new : nat_eq x.mark n ≡ false = grind (arith, nat_tests) in
    let sum : int_wrapping_add w128 x.count w ≡ x.count +ℤ w =
    wrapping_add_is w128 x.count w (omega (arith, ints, low, some, room)) (omega (arith, ints, low, some, room)) ∙ int_wrap_fits w128 (x.count +ℤ w) (omega (arith, ints, low, some, room)) in
    subst (λ (b : Bool). Counts n (x.count +ℤ w) (cond b x (record { mark = n; count = int_wrapping_add w128 x.count w }))) (sym new)
    (record { mark = omega arith; is = sum })

tallied-at : (g : Game) (cells : List Cell) (n t : ℕ) (k : List Ticket) → t < length cells → ArePositive k → (slice_index_or cells t no_cell).mark < n → pos 0 ≤ℤ (slice_index_or cells t no_cell).count
    → ((slice_index_or cells t no_cell).count +ℤ weight_total k) ≤ℤ pos (2 ^ 127 - 1)
    → (slice_index_or (tallied g cells n k) t no_cell).count ≡ (slice_index_or cells t no_cell).count +ℤ cover_count g k t
tallied-at g cells n t [] lt positive mark low room = omega (arith, ints)
tallied-at g cells n t (x ∷ xs) lt positive mark low room =
    let w : ℤ = x.weight in
    let some : pos 1 ≤ℤ w = All-head (λ (x : Ticket). pos 1 ≤ℤ x.weight) x xs positive in
    let later : ArePositive xs = All-tail (λ (x : Ticket). pos 1 ≤ℤ x.weight) x xs positive in
    let rest : pos 0 ≤ℤ weight_total xs = weight_total-nonneg xs later in
    let next : List Cell = touched_from g 1 cells x.play.code n w in
    let c = counted (covers g x.play.code t) n w (slice_index_or cells t no_cell) mark low (omega (arith, ints, some)) (omega (arith, ints, room, rest)) in
    let there : Counts n ((slice_index_or cells t no_cell).count +ℤ cond (covers g x.play.code t) w (pos 0)) (slice_index_or next t no_cell) =
    subst (Counts n ((slice_index_or cells t no_cell).count +ℤ cond (covers g x.play.code t) w (pos 0))) (sym (touched_from-at g 1 cells x.play.code t n w lt)) c in
    let range = within (covers g x.play.code t) w (omega (arith, ints, some)) in
    let more = tallied-at g next (n + 1) t xs (omega (arith, lt, length-touched_from g 1 cells x.play.code n w)) later
    (omega (arith, there.mark)) (omega (arith, ints, there.is, low, range)) (omega (arith, ints, there.is, room, range)) in
    omega (arith, ints, more, there.is)
  where
    within : (b : Bool) (w : ℤ) → pos 0 ≤ℤ w → (pos 0 ≤ℤ cond b w (pos 0)) × (cond b w (pos 0) ≤ℤ w)
    within true w h = (h, omega (arith, ints))
    within false w h = (omega (arith, ints), h)

pub length-tallied : (g : Game) (cells : List Cell) (n : ℕ) (k : List Ticket) → length (tallied g cells n k) ≡ length cells
length-tallied g cells n [] = refl
length-tallied g cells n (x ∷ xs) = length-tallied g (touched_from g 1 cells x.play.code n x.weight) (n + 1) xs ∙ length-touched_from g 1 cells x.play.code n x.weight

-- from cells in which nothing is counted come the counts
pub tallied-counts : (g : Game) (k : List Ticket) (m : ℕ) (cells new : List Cell) → ArePositive k → weight_total k ≤ℤ pos (2 ^ 127 - 1)
    → cells ≡ replicate m no_cell → new ≡ tallied g cells 1 k → (t : ℕ) → t < m → (slice_index_or new t no_cell).count ≡ cover_count g k t
tallied-counts g k m cells new positive few fresh is t lt =
    let in_range : t < length cells = omega (arith, lt, ap length fresh, length-replicate m no_cell) in
    let first : slice_index_or cells t no_cell ≡ no_cell = ap (λ (xs : List Cell). slice_index_or xs t no_cell) fresh ∙ get_or-replicate m t no_cell no_cell lt in
    let mark : (slice_index_or cells t no_cell).mark ≡ 0 = ap (λ (x : Cell). x.mark) first in
    let count : (slice_index_or cells t no_cell).count ≡ pos 0 = ap (λ (x : Cell). x.count) first in
    let all = tallied-at g cells 1 t k in_range positive (omega (arith, mark)) (omega (arith, ints, count)) (omega (arith, ints, count, few)) in
    ap (λ (xs : List Cell). (slice_index_or xs t no_cell).count) is ∙ omega (arith, ints, all, count)

-- and a table, where the tickets are few
pub tallied-table : (g : Game) (k : List Ticket) (m : ℕ) (cells new : List Cell) → is_matrix g ≡ false → ArePositive k → weight_total k ≤ℤ pos (2 ^ 95) → length g.goals < m
    → cells ≡ replicate m no_cell → new ≡ tallied g cells 1 k → IsTally g k new
tallied-table g k m cells new security positive few size fresh is =
    λ some. record {
      security = security;
      positive = positive;
      few = few;
      size = omega (arith, size, ap length is, length-tallied g cells 1 k, ap length fresh, length-replicate m no_cell);
      counts = λ t low high. tallied-counts g k m cells new positive (omega (arith, ints, few)) fresh is t (omega (arith, high, size));
    }

-- an action of a game in security form is a target, and has a cell
pub action-target : (g : Game) (k : List Ticket) (cells : List Cell) (l a : ℕ) → IsCounted g k cells → a ≤ action_count g l → (a ≤ length g.goals) × (a < length cells)
action-target g k cells l a c high =
    let in_range : a ≤ length g.goals = subst (λ (b : Bool). a ≤ cond b (length (attacker g l).actions) (length g.goals)) c.security high in
    (in_range, omega (arith, in_range, c.size))

-- its count is one out of the total
pub is_count : (g : Game) (k : List Ticket) (cells : List Cell) (a : ℕ) → IsCounted g k cells → 1 ≤ a → a ≤ length g.goals → IsTicketCount (weight_total k) (slice_index_or cells a no_cell).count
is_count g k cells a c low high =
    let b = cover_count-bounds g k a c.positive in
    let is = c.counts a low high in
    record { low = omega (arith, ints, b.0, is); high = omega (arith, ints, b.1, is); few = c.few }

-- a game in security form has at most 10,000 targets where those that are counted are
pub few_targets : (b : Bool) (m : ℕ) → b ≡ false → cond b 0 m ≤ 10000 → m ≤ 10000
few_targets true m e h = absurd (true≢false e)
few_targets false m e h = h
