-- A game has one right report.
use Rattle.std.proofs.Common.{◌≡◌, ℕ, ◌+◌, ◌*◌, ◌<◌, ◌≤◌, Bool, true, false, List, [], ◌∷◌, length, ℤ, pos, negsuc, ◌*ℤ◌, ◌≤ℤ◌, sym, ◌∙◌, ap, subst, refl, arith}
use Rattle.std.specs.List.{All}
use Rattle.std.specs.Int.{◌∣◌}
use Rattle.std.specs.Prelude.{nat_lt, unsigned_abs}
use Rattle.std.proofs.lemmas.Int.{ints, unsigned_abs-mul}
use Rattle.std.proofs.lemmas.Bool.Decides.{nat_tests}
use Rattle.std.proofs.lemmas.List.Elements.{All-cons, All-nil}
use Rattle.std.proofs.Math.Nat.{dvd-mul_right}
use Rattle.sg_model.specs.declared.level.Level.{Level}
use Rattle.sg_model.specs.declared.level.Level.TheVariants.{Resources, Target}
use Rattle.sg_model.specs.declared.ticket.Ticket.{Ticket}
use Rattle.sg_model.specs.Sums.{nth}
use Rattle.sg_model.specs.Games.{Game, prior_total, resource_count}
use Rattle.sg_model.specs.Limits.{IsGame, is_scaled}
use Rattle.sg_model.specs.Commitments.{IsCommitment, IsValue, weight_total, worth}
use Rattle.sg_model.specs.Origami.{count_at}
use Rattle.sg_model.specs.Payoffs.{IsPeopled}
use Rattle.sg_model.proofs.Ints.{v, times, same_by, cancel}
use Rattle.sg_model.proofs.Promises.{peopled}
use Rattle.sg_model.proofs.Tickets.{no_level_above}
use Rattle.sg_model.proofs.Values.{prior_total-positive}
use Rattle.sg_frac.specs.Fractions.{Fraction, IsReduced}
use Rattle.sg_frac.proofs.Apart.{same_by_cross}
use Rattle.sg_origami.specs.Fillings.{IsCoverage, IsReasonOf}
use Rattle.sg_commit.specs.Committed.{IsCommitted}
use Rattle.sg_commit.specs.Parts.{AreMultiple}
use Rattle.sg_commit.proofs.Fixed.{Shares, fixed, part_divides, shares}
use Rattle.sg_model.proofs.Covers.{weight_total-positive}
use Rattle.sg_commit.proofs.Worths.{product-positive}
use Rattle.sg_split.specs.Laying.{moment_tickets}
use Rattle.sg_tree.specs.Claims.{Claimed, is_claim}
use Rattle.sg_tree.specs.declared.fact.Fact.TheVariants.{Water}
use Rattle.sg_tree.specs.declared.tree.Tree.TheVariants.{Closed}
use Rattle.sg_tree.proofs.Committing.{rules_of}
use Rattle.sg_bounds.proofs.Places.{nth-first, nth-next}
use Rattle.sg_solve.specs.Solutions.{AreLaid, AreRightTickets, IsRightLevel}
use Rattle.sg_solve.specs.Unique.{RightReportIsOne}
use Rattle.sg_solve.proofs.Reports.{is_origami}

-- ---- the level and its reason

same_level : (g : Game) → IsGame g → is_scaled g ≡ true → (k l : List Ticket) (a b : Fraction) (why reason : Level) → IsCommitment g k → IsCommitment g l → IsRightLevel g k a why → IsRightLevel g l b reason → a ≡ b
same_level g is sc k l a b why reason ck cl p q =
    let o = is_origami g is sc in
    let low : (b.num *ℤ a.den) ≤ℤ (a.num *ℤ b.den) = no_level_above g o a.num a.den p.water.positive k ck p.coverage b.num b.den reason q.water in
    let high : (a.num *ℤ b.den) ≤ℤ (b.num *ℤ a.den) = no_level_above g o b.num b.den q.water.positive l cl q.coverage a.num a.den why p.water in
    same_by_cross a b p.reduced q.reduced (omega (arith, ints, low, high))

equal_from : (i j : ℕ) → (i < j → ⊥) → (j < i → ⊥) → i ≡ j
equal_from i j a b = by (nat_lt i j) (nat_lt j i) refl refl
  where
    by : (s t : Bool) → nat_lt i j ≡ s → nat_lt j i ≡ t → i ≡ j
    by true t e f = absurd (a (grind (arith, nat_tests, e)))
    by false true e f = absurd (b (grind (arith, nat_tests, f)))
    by false false e f = grind (arith, nat_tests, e, f)

same_reason : (g : Game) (num den : ℤ) (why reason : Level) → IsReasonOf g num den why → IsReasonOf g num den reason → why ≡ reason
same_reason g num den Resources Resources p q = refl
same_reason g num den Resources (Target j) p q = absurd (p j q.floor)
same_reason g num den (Target i) Resources p q = absurd (q i p.floor)
same_reason g num den (Target i) (Target j) p q = ap Target (equal_from i j (λ lt. q.first i lt p.floor) (λ lt. p.first j lt q.floor))

-- ---- the counts

-- pair by pair one number, once multiplied
abbrev Pairs : ℤ → ℤ → List ℤ → List ℤ → Type 0
Pairs n m [] [] = Unit {0}
Pairs n m [] (y ∷ ys) = ⊥
Pairs n m (x ∷ xs) [] = ⊥
Pairs n m (x ∷ xs) (y ∷ ys) = (n *ℤ x ≡ m *ℤ y) × Pairs n m xs ys

pairs : (n m : ℤ) (xs ys : List ℤ) → length xs ≡ length ys → ((t : ℕ) → 1 ≤ t → t ≤ length xs → n *ℤ nth xs t (pos 0) ≡ m *ℤ nth ys t (pos 0)) → Pairs n m xs ys
pairs n m [] [] e h = tt
pairs n m [] (y ∷ ys) e h = absurd (omega (arith, e))
pairs n m (x ∷ xs) [] e h = absurd (omega (arith, e))
pairs n m (x ∷ xs) (y ∷ ys) e h = (
  ap (λ (z : ℤ). n *ℤ z) (sym (nth-first x xs 1 (pos 0) refl)) ∙ (h 1 (omega arith) (omega arith) ∙ ap (λ (z : ℤ). m *ℤ z) (nth-first y ys 1 (pos 0) refl)),
  pairs n m xs ys (omega (arith, e))
      (λ t low high. ap (λ (z : ℤ). n *ℤ z) (sym (nth-next x xs (t + 1) t (pos 0) refl low)) ∙ (h (t + 1) (omega arith) (omega (arith, high)) ∙ ap (λ (z : ℤ). m *ℤ z) (nth-next y ys (t + 1) t (pos 0) refl low))),
)

divides : (a b : ℕ) (s : Shares a b) (xs ys : List ℤ) → Pairs (pos a) (pos b) xs ys → All (λ x. s.high ∣ unsigned_abs x) xs × All (λ y. s.low ∣ unsigned_abs y) ys
divides a b s [] [] h = (All-nil (λ x. s.high ∣ unsigned_abs x), All-nil (λ y. s.low ∣ unsigned_abs y))
divides a b s [] (y ∷ ys) h = absurd h
divides a b s (x ∷ xs) [] h = absurd h
divides a b s (x ∷ xs) (y ∷ ys) h =
    let e : a * unsigned_abs x ≡ b * unsigned_abs y = sym (unsigned_abs-mul (pos a) x) ∙ (ap unsigned_abs h.0 ∙ unsigned_abs-mul (pos b) y) in
    let d = part_divides a b (unsigned_abs x) (unsigned_abs y) s e in
    let rest = divides a b s xs ys h.1 in
    (All-cons (λ x. s.high ∣ unsigned_abs x) x xs d.0 rest.0, All-cons (λ y. s.low ∣ unsigned_abs y) y ys d.1 rest.1)

-- numbers in lowest terms with their total are fixed by their shares of it
same_numbers : (a b : ℕ) → 1 ≤ a → 1 ≤ b → (xs ys : List ℤ) → Pairs (pos b) (pos a) xs ys → ((d : ℕ) → d ∣ a → All (λ x. d ∣ unsigned_abs x) xs → d ≡ 1)
    → ((d : ℕ) → d ∣ b → All (λ y. d ∣ unsigned_abs y) ys → d ≡ 1) → a ≡ b
same_numbers a b some more xs ys h lx ly =
    let s = shares b a some in
    let d = divides b a s xs ys h in
    let turned : s.by * s.high ≡ s.high * s.by = omega arith in
    let turned_low : s.by * s.low ≡ s.low * s.by = omega arith in
    let high : s.high ≡ 1 = lx s.high (subst (λ (z : ℕ). s.high ∣ z) (sym turned ∙ s.k_is) (dvd-mul_right s.high s.by)) d.0 in
    let low : s.low ≡ 1 = ly s.low (subst (λ (z : ℕ). s.low ∣ z) (sym turned_low ∙ s.m_is) (dvd-mul_right s.low s.by)) d.1 in
    sym s.k_is ∙ (ap (λ (z : ℕ). s.by * z) (high ∙ sym low) ∙ s.m_is)

same_list : (m : ℤ) → pos 1 ≤ℤ m → (xs ys : List ℤ) → Pairs m m xs ys → xs ≡ ys
same_list m some [] [] h = refl
same_list m some [] (y ∷ ys) h = absurd h
same_list m some (x ∷ xs) [] h = absurd h
same_list m some (x ∷ xs) (y ∷ ys) h =
    let turn : (z : ℤ) → z *ℤ m ≡ m *ℤ z = λ z. same_by (times (v z) (v m)) (times (v m) (v z)) (omega arith) in
    let here : x ≡ y = cancel x y m (turn x ∙ (h.0 ∙ sym (turn y))) some in
    let rest = same_list m some xs ys h.1 in
    λ i. here i ∷ rest i

shift : (x n d : ℤ) → (n *ℤ x) *ℤ d ≡ (x *ℤ d) *ℤ n
shift x n d = same_by (times (times (v n) (v x)) (v d)) (times (times (v x) (v d)) (v n)) (omega arith)

turn_last : (x m n : ℤ) → (x *ℤ m) *ℤ n ≡ (x *ℤ n) *ℤ m
turn_last x m n = same_by (times (times (v x) (v m)) (v n)) (times (times (v x) (v n)) (v m)) (omega arith)

-- the counts of a level and their total are one
record AreOne (c d : List ℤ) (m n : ℤ) : Type 0 where
  totals : m ≡ n
  counts : c ≡ d

same_coverage : (g : Game) (num den : ℤ) → pos 1 ≤ℤ (den *ℤ g.scale) → (c d : List ℤ) (m n : ℤ) → IsCoverage g num den c m → IsCoverage g num den d n → AreOne c d m n
same_coverage g num den some c d (negsuc a) n p q = absurd (let low = p.ticket_range.at_least in omega (arith, ints, low))
same_coverage g num den some c d (pos a) (negsuc b) p q = absurd (let low = q.ticket_range.at_least in omega (arith, ints, low))
same_coverage g num den some c d (pos a) (pos b) p q =
    let ds : ℤ = den *ℤ g.scale in
    let each : (t : ℕ) → 1 ≤ t → t ≤ length c → pos b *ℤ nth c t (pos 0) ≡ pos a *ℤ nth d t (pos 0) = λ t low high.
    let x : ℤ = nth c t (pos 0) in
    let y : ℤ = nth d t (pos 0) in
    let want : ℤ = count_at g num den t in
    let inside : t ≤ length g.goals = subst (λ (z : ℕ). t ≤ z) p.one_each high in
    let left : (pos b *ℤ x) *ℤ ds ≡ (want *ℤ pos a) *ℤ pos b = shift x (pos b) ds ∙ ap (λ (z : ℤ). z *ℤ pos b) (p.shares t low inside) in
    let right : (pos a *ℤ y) *ℤ ds ≡ (want *ℤ pos b) *ℤ pos a = shift y (pos a) ds ∙ ap (λ (z : ℤ). z *ℤ pos a) (q.shares t low inside) in
    cancel (pos b *ℤ x) (pos a *ℤ y) ds (left ∙ (turn_last want (pos a) (pos b) ∙ sym right)) some in
    let paired = pairs (pos b) (pos a) c d (p.one_each ∙ sym q.one_each) each in
    let low = p.ticket_range.at_least in
    let more = q.ticket_range.at_least in
    let totals : a ≡ b = same_numbers a b (omega (arith, ints, low)) (omega (arith, ints, more)) c d paired p.lowest q.lowest in
    record { totals = ap pos totals; counts = same_list (pos b) more c d (subst (λ (z : ℕ). Pairs (pos b) (pos z) c d) totals paired) }

-- ---- the tickets

committed_of : (g : Game) (c : Claimed) → AreRightTickets g c → IsCommitted (record { tickets = c.tickets; total = c.total })
committed_of g c h =
    let rules = rules_of c.tickets h.rising in
    record { some = rules.some; positive = rules.positive; rising = rules.rising; lowest = h.lowest; sum = h.total }

same_claim : (g : Game) (c d : Claimed) → AreRightTickets g c → AreRightTickets g d → (parts : List Ticket) → AreMultiple parts c.tickets → AreMultiple parts d.tickets → c ≡ d
same_claim g c d p q parts m n =
    let same = fixed (record { tickets = c.tickets; total = c.total }) (record { tickets = d.tickets; total = d.total }) (committed_of g c p) (committed_of g d q) m.0 n.0 m.1 n.1 (λ play. sym (m.2 play) ∙ n.2 play) in
    λ i. record { tickets = (same i).tickets; total = (same i).total }

-- ---- the value

spread : (x y w p : ℤ) → (x *ℤ y) *ℤ (w *ℤ p) ≡ ((x *ℤ w) *ℤ p) *ℤ y
spread x y w p = same_by (times (times (v x) (v y)) (times (v w) (v p))) (times (times (times (v x) (v w)) (v p)) (v y)) (omega arith)

same_value : (g : Game) → IsPeopled g → (k : List Ticket) → is_claim k ≡ true → (a b : Fraction) → IsReduced a → IsReduced b → IsValue g k a.num a.den → IsValue g k b.num b.den → a ≡ b
same_value g is k claim a b ra rb p q =
    let rules = rules_of k claim in
    let w : ℤ = weight_total k in
    let t : ℤ = prior_total g in
    let some : pos 1 ≤ℤ (w *ℤ t) = product-positive w t (weight_total-positive k rules.some rules.positive) (prior_total-positive g is) in
    let left : (a.num *ℤ b.den) *ℤ (w *ℤ t) ≡ (worth g k *ℤ a.den) *ℤ b.den = spread a.num b.den w t ∙ ap (λ (z : ℤ). z *ℤ b.den) (sym p.same) in
    let right : (b.num *ℤ a.den) *ℤ (w *ℤ t) ≡ (worth g k *ℤ b.den) *ℤ a.den = spread b.num a.den w t ∙ ap (λ (z : ℤ). z *ℤ a.den) (sym q.same) in
    same_by_cross a b ra rb (cancel (a.num *ℤ b.den) (b.num *ℤ a.den) (w *ℤ t) (left ∙ (turn_last (worth g k) a.den b.den ∙ sym right)) some)

-- ---- the report

water_tree : (a b : Fraction) (why reason : Level) → a ≡ b → why ≡ reason → Closed (Water a why) ≡ Closed (Water b reason)
water_tree a b why reason e f = λ i. Closed (Water (e i) (f i))

pub right_report_is_one : RightReportIsOne
right_report_is_one g is sc r s p q =
    let level = same_level g is sc r.tickets.tickets s.tickets.tickets p.level q.level p.why q.why p.tickets.commitment q.tickets.commitment p.right_level q.right_level in
    let reason = same_reason g p.level.num p.level.den p.why q.why p.right_level.reason (subst (λ (f : Fraction). IsReasonOf g f.num f.den q.why) (sym level) q.right_level.reason) in
    let low = p.right_level.water.positive in
    let scale = (is_origami g is sc).scaled in
    let laid = subst (AreLaid g s.tickets.tickets) (sym level) q.laid in
    let one = same_coverage g p.level.num p.level.den (product-positive p.level.den g.scale low scale) p.laid.counts laid.counts p.laid.moments laid.moments p.laid.coverage laid.coverage in
    let parts = moment_tickets p.laid.counts (resource_count g) p.laid.moments in
    let same_parts : moment_tickets laid.counts (resource_count g) laid.moments ≡ parts = λ i. moment_tickets (sym one.counts i) (resource_count g) (sym one.totals i) in
    let claim = same_claim g r.tickets s.tickets p.tickets q.tickets parts p.laid.plays (subst (λ (k : List Ticket). AreMultiple k s.tickets.tickets) same_parts laid.plays) in
    let value = same_value g (peopled g is) r.tickets.tickets p.tickets.rising r.value s.value p.reduced q.reduced p.value
    (subst (λ (c : Claimed). IsValue g c.tickets s.value.num s.value.den) (sym claim) q.value) in
    let upper = p.upper ∙ (value ∙ sym q.upper) in
    let caps = p.caps ∙ sym q.caps in
    let ending = p.ending ∙ sym q.ending in
    let tree = p.tree ∙ (water_tree p.level q.level p.why q.why level reason ∙ sym q.tree) in
    λ i. record { tickets = claim i; value = value i; caps = caps i; tree = tree i; upper = upper i; ending = ending i }
