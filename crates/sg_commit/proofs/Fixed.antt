-- What is kept is fixed by the shares of the plays.
use Rattle.std.proofs.Common.{◌≡◌, ℕ, zero, suc, ◌*◌, ◌/◌, ◌%◌, ◌<◌, ◌≤◌, Bool, true, false, cond, List, [], ◌∷◌, ℤ, pos, negsuc, ◌+ℤ◌, ◌*ℤ◌, ◌≤ℤ◌, sym, ◌∙◌, ap, subst, refl, arith, bytes_eq}
use Rattle.std.specs.List.{All}
use Rattle.std.specs.Int.{◌∣◌, IsGcd}
use Rattle.std.specs.Prelude.{unsigned_abs}
use Rattle.std.specs.Cmp.Lexicographic.{slice_cmp, nat_list_cmp_total}
use Rattle.std.specs.declared.cmp.Ordering.{Ordering}
use Rattle.std.specs.declared.cmp.Ordering.TheVariants.{Less, Equal, Greater}
use Rattle.std.specs.Ordering.{is_eq, is_lt, nat_cmp, ordering_reverse}
use Rattle.std.proofs.lemmas.Int.{ints, unsigned_abs-mul}
use Rattle.std.proofs.lemmas.List.Elements.{All-nil, All-cons, All-head, All-tail, All-weaker}
use Rattle.std.proofs.lemmas.Map.Text.{is_eq-slice_cmp}
use Rattle.std.proofs.lemmas.Nat.Gcd.{IsGcd-from_mod, IsGcd-from_zero}
use Rattle.std.proofs.lemmas.Slice.Eq.{bytes_eq-Decides}
use Rattle.std.proofs.Math.Nat.{dvd-mul_right, dvd_of_mul-dvd-mul_left, mul-div_cancel', mul-dvd-mul_left}
use Rattle.sg_model.specs.declared.ticket.Ticket.{Ticket}
use Rattle.sg_model.specs.Commitments.{scaled, weight_on, weight_total, AreLowest}
use Rattle.sg_model.specs.OptimalityLaws.{AreOneMix}
use Rattle.sg_model.proofs.Ints.{cancel, v, plus, times, same_by}
use Rattle.sg_num.proofs.Divisors.{dvd-coprime, some_from_IsGcd}
use Rattle.sg_commit.specs.Committed.{Committed, IsCommitted, is_rising}
use Rattle.sg_model.specs.Orders.{is_before}
use Rattle.sg_commit.proofs.Kept.{before-trans, head_before, not_before_itself, rising-tail, weight_on-scaled}
use Rattle.sg_model.proofs.Covers.{ArePositive}
use Rattle.sg_commit.proofs.Worths.{product-positive}

-- ---- the tickets in pairs

-- pair by pair the same play, with weights that are one number once multiplied
abbrev Paired : ℤ → ℤ → List Ticket → List Ticket → Type 0
Paired m k [] [] = Unit {0}
Paired m k [] (y ∷ ys) = ⊥
Paired m k (x ∷ xs) [] = ⊥
Paired m k (x ∷ xs) (y ∷ ys) = (x.play.code ≡ y.play.code) × (m *ℤ x.weight ≡ k *ℤ y.weight) × Paired m k xs ys

-- a play that comes before all others is none of them
absent : (p : List ℕ) (ys : List Ticket) → All (λ (y : Ticket). is_before p y.play.code ≡ true) ys → weight_on ys p ≡ pos 0
absent p [] h = refl
absent p (y ∷ ys) h =
    let here = All-head (λ (y : Ticket). is_before p y.play.code ≡ true) y ys h in
    let rest = absent p ys (All-tail (λ (y : Ticket). is_before p y.play.code ≡ true) y ys h) in
    by (bytes_eq y.play.code p) refl here rest
  where
    by : (b : Bool) → bytes_eq y.play.code p ≡ b → is_before p y.play.code ≡ true → weight_on ys p ≡ pos 0 → (cond b y.weight (pos 0) +ℤ weight_on ys p) ≡ pos 0
    by true e before rest = absurd (not_before_itself p y.play.code before (sym ((bytes_eq-Decides y.play.code p).0 e)))
    by false e before rest = omega (arith, ints, rest)

-- the weight of the first ticket's play
first_weight : (x : Ticket) (xs : List Ticket) → is_rising (x ∷ xs) ≡ true → weight_on (x ∷ xs) x.play.code ≡ x.weight
first_weight x xs h =
    let itself : bytes_eq x.play.code x.play.code ≡ true = (bytes_eq-Decides x.play.code x.play.code).1 refl in
    let rest = absent x.play.code xs (head_before x xs h) in
    ap (λ (b : Bool). cond b x.weight (pos 0) +ℤ weight_on xs x.play.code) itself ∙ omega (arith, ints, rest)

-- it can't be absent from the other
unpaired : (m k : ℤ) → pos 1 ≤ℤ m → (x : Ticket) (xs ys : List Ticket) → is_rising (x ∷ xs) ≡ true → pos 1 ≤ℤ x.weight
    → weight_on ys x.play.code ≡ pos 0 → m *ℤ weight_on (x ∷ xs) x.play.code ≡ k *ℤ weight_on ys x.play.code → ⊥
unpaired m k some x xs ys h low none same =
    let p : pos 1 ≤ℤ (m *ℤ x.weight) = product-positive m x.weight some low in
    let e : m *ℤ x.weight ≡ k *ℤ pos 0 = ap (λ (z : ℤ). m *ℤ z) (sym (first_weight x xs h)) ∙ (same ∙ ap (λ (z : ℤ). k *ℤ z) none) in
    let zero_is : k *ℤ pos 0 ≡ pos 0 = same_by (times (v k) (v (pos 0))) (v (pos 0)) (omega arith) in
    omega (arith, ints, p, e, zero_is)

before_all : (p : List ℕ) (y : Ticket) (ys : List Ticket) → is_rising (y ∷ ys) ≡ true → is_before p y.play.code ≡ true → All (λ (y : Ticket). is_before p y.play.code ≡ true) (y ∷ ys)
before_all p y ys h before =
    All-cons (λ (y : Ticket). is_before p y.play.code ≡ true) y ys before
    (All-weaker (λ (z : Ticket). is_before y.play.code z.play.code ≡ true) (λ (z : Ticket). is_before p z.play.code ≡ true)
    (λ z later. before-trans p y.play.code z.play.code before later) ys (head_before y ys h))

-- of two plays one comes first, or they are the same
data Order (p q : List ℕ) : Type 0 where
  first : is_before p q ≡ true → Order p q
  same : p ≡ q → Order p q
  later : is_before q p ≡ true → Order p q

order : (p q : List ℕ) → Order p q
order p q = by (slice_cmp nat_cmp p q) refl
  where
    by : (r : Ordering) → slice_cmp nat_cmp p q ≡ r → Order p q
    by Less e = first (ap is_lt e)
    by Equal e = same ((bytes_eq-Decides p q).0 (sym (is_eq-slice_cmp p q) ∙ ap is_eq e))
    by Greater e = later (ap is_lt (nat_list_cmp_total.antisymm q p ∙ ap ordering_reverse e))

pair : (m k : ℤ) → pos 1 ≤ℤ m → pos 1 ≤ℤ k → (xs ys : List Ticket) → is_rising xs ≡ true → is_rising ys ≡ true → ArePositive xs → ArePositive ys
    → ((p : List ℕ) → m *ℤ weight_on xs p ≡ k *ℤ weight_on ys p) → Paired m k xs ys
pair m k some more [] [] rx ry px py same_mix = tt
pair m k some more [] (y ∷ ys) rx ry px py same_mix =
    unpaired k m more y ys [] ry (All-head (λ (x : Ticket). pos 1 ≤ℤ x.weight) y ys py) refl (sym (same_mix y.play.code))
pair m k some more (x ∷ xs) [] rx ry px py same_mix =
    unpaired m k some x xs [] rx (All-head (λ (x : Ticket). pos 1 ≤ℤ x.weight) x xs px) refl (same_mix x.play.code)
pair m k some more (x ∷ xs) (y ∷ ys) rx ry px py same_mix = elim (order x.play.code y.play.code) [
  | first before ↦ absurd (unpaired m k some x xs (y ∷ ys) rx (All-head (λ (x : Ticket). pos 1 ≤ℤ x.weight) x xs px) (absent x.play.code (y ∷ ys) (before_all x.play.code y ys ry before)) (same_mix x.play.code))
  | later before ↦ absurd (unpaired k m more y ys (x ∷ xs) ry (All-head (λ (x : Ticket). pos 1 ≤ℤ x.weight) y ys py) (absent y.play.code (x ∷ xs) (before_all y.play.code x xs rx before)) (sym (same_mix y.play.code)))
  | same e ↦
      let heads : m *ℤ x.weight ≡ k *ℤ y.weight =
      ap (λ (z : ℤ). m *ℤ z) (sym (first_weight x xs rx)) ∙ (same_mix x.play.code ∙ (ap (λ (p : List ℕ). k *ℤ weight_on (y ∷ ys) p) e ∙ ap (λ (z : ℤ). k *ℤ z) (first_weight y ys ry))) in (
        e,
        heads,
        pair m k some more xs ys (rising-tail x xs rx) (rising-tail y ys ry) (All-tail (λ (x : Ticket). pos 1 ≤ℤ x.weight) x xs px) (All-tail (λ (x : Ticket). pos 1 ≤ℤ x.weight) y ys py)
            (λ p. tails m k (bytes_eq x.play.code p) x.weight y.weight (weight_on xs p) (weight_on ys p) heads
            (same_mix p ∙ ap (λ (q : List ℕ). k *ℤ (cond (bytes_eq q p) y.weight (pos 0) +ℤ weight_on ys p)) (sym e))),
      )
]
  where
    tails : (m k : ℤ) (b : Bool) (s t a c : ℤ) → m *ℤ s ≡ k *ℤ t → m *ℤ (cond b s (pos 0) +ℤ a) ≡ k *ℤ (cond b t (pos 0) +ℤ c) → m *ℤ a ≡ k *ℤ c
    tails m k true s t a c heads whole =
        let l : m *ℤ (s +ℤ a) ≡ (m *ℤ s) +ℤ (m *ℤ a) = same_by (times (v m) (plus (v s) (v a))) (plus (times (v m) (v s)) (times (v m) (v a))) (omega arith) in
        let r : k *ℤ (t +ℤ c) ≡ (k *ℤ t) +ℤ (k *ℤ c) = same_by (times (v k) (plus (v t) (v c))) (plus (times (v k) (v t)) (times (v k) (v c))) (omega arith) in
        omega (arith, ints, heads, whole, l, r)
    tails m k false s t a c heads whole =
        let l : m *ℤ (pos 0 +ℤ a) ≡ m *ℤ a = ap (λ (z : ℤ). m *ℤ z) (omega (arith, ints)) in
        let r : k *ℤ (pos 0 +ℤ c) ≡ k *ℤ c = ap (λ (z : ℤ). k *ℤ z) (omega (arith, ints)) in
        sym l ∙ (whole ∙ r)

-- ---- the multiples are the same

gcd-exists : (fuel a b : ℕ) → b < fuel → (d : ℕ) × IsGcd a b d
gcd-exists zero a b lt = absurd (omega (arith, lt))
gcd-exists (suc f) a zero lt = (a, IsGcd-from_zero a 0 refl)
gcd-exists (suc f) a (suc b) lt =
    let small : a % suc b < suc b = omega arith in
    let r = gcd-exists f (suc b) (a % suc b) (omega (arith, small, lt)) in
    (r.0, IsGcd-from_mod a (suc b) r.0 r.1)

-- numbers without a common divisor, by which two are multiples of one
pub record Shares (m k : ℕ) : Type 0 where
  pub by : ℕ
  pub low : ℕ
  pub high : ℕ
  pub some : 0 < by
  pub m_is : by * low ≡ m
  pub k_is : by * high ≡ k
  pub apart : IsGcd low high 1

pub shares : (m k : ℕ) → 1 ≤ k → Shares m k
shares m k more =
    let r = gcd-exists (suc k) m k (omega arith) in
    let d : ℕ = r.0 in
    let some : 0 < d = some_from_IsGcd m k d r.1 (omega (arith, more)) in
    let e : d * (m / d) ≡ m = mul-div_cancel' d r.1.0 in
    let f : d * (k / d) ≡ k = mul-div_cancel' d r.1.1 in
    let one : (x : ℕ) → x ∣ (m / d) → x ∣ (k / d) → x ∣ 1 = λ x p q.
    let whole : d * x ∣ d = r.1.2 (d * x) (subst (λ (z : ℕ). d * x ∣ z) e (mul-dvd-mul_left x d p)) (subst (λ (z : ℕ). d * x ∣ z) f (mul-dvd-mul_left x d q)) in
    let unit : d * 1 ≡ d = omega arith in
    dvd_of_mul-dvd-mul_left {k = d} x {n = 1} some (subst (λ (z : ℕ). d * x ∣ z) (sym unit) whole) in
    record { by = d; low = m / d; high = k / d; some = some; m_is = e; k_is = f; apart = (one_divides (m / d), one_divides (k / d), one) }
  where
    one_divides : (z : ℕ) → 1 ∣ z
    one_divides z = let e : 1 * z ≡ z = omega arith in subst (λ (w : ℕ). 1 ∣ w) e (dvd-mul_right 1 z)

-- the one multiplier's part divides the other's weights
pub part_divides : (a b x y : ℕ) (s : Shares a b) → a * x ≡ b * y → (s.high ∣ x) × (s.low ∣ y)
part_divides a b x y s e =
    let f : (s.by * s.low) * x ≡ (s.by * s.high) * y = subst (λ (z : ℕ). z * x ≡ (s.by * s.high) * y) (sym s.m_is) (subst (λ (z : ℕ). a * x ≡ z * y) (sym s.k_is) e) in
    let g : (s.by * s.high) * y ≡ s.by * (x * s.low) = omega (arith, f) in
    let h : (s.by * s.low) * x ≡ s.by * (y * s.high) = omega (arith, f) in
    let high : s.high ∣ (x * s.low) = dvd_of_mul-dvd-mul_left {k = s.by} s.high {n = x * s.low} s.some (subst (λ (z : ℕ). (s.by * s.high) ∣ z) g (dvd-mul_right (s.by * s.high) y)) in
    let low : s.low ∣ (y * s.high) = dvd_of_mul-dvd-mul_left {k = s.by} s.low {n = y * s.high} s.some (subst (λ (z : ℕ). (s.by * s.low) ∣ z) h (dvd-mul_right (s.by * s.low) x)) in
    (dvd-coprime s.low s.high x s.apart high, dvd-coprime s.high s.low y (s.apart.1, s.apart.0, λ d p q. s.apart.2 d q p) low)

high_divides : (a b : ℕ) (s : Shares a b) (xs ys : List Ticket) → Paired (pos a) (pos b) xs ys → All (λ (x : Ticket). s.high ∣ unsigned_abs x.weight) xs × All (λ (y : Ticket). s.low ∣ unsigned_abs y.weight) ys
high_divides a b s [] [] h = (All-nil (λ (x : Ticket). s.high ∣ unsigned_abs x.weight), All-nil (λ (y : Ticket). s.low ∣ unsigned_abs y.weight))
high_divides a b s [] (y ∷ ys) h = absurd h
high_divides a b s (x ∷ xs) [] h = absurd h
high_divides a b s (x ∷ xs) (y ∷ ys) h =
    let e : a * unsigned_abs x.weight ≡ b * unsigned_abs y.weight = sym (unsigned_abs-mul (pos a) x.weight) ∙ (ap unsigned_abs h.1 ∙ unsigned_abs-mul (pos b) y.weight) in
    let d = part_divides a b (unsigned_abs x.weight) (unsigned_abs y.weight) s e in
    let rest = high_divides a b s xs ys h.2 in (
      All-cons (λ (x : Ticket). s.high ∣ unsigned_abs x.weight) x xs d.0 rest.0,
      All-cons (λ (y : Ticket). s.low ∣ unsigned_abs y.weight) y ys d.1 rest.1,
    )

same_multiple : (a b : ℕ) → 1 ≤ b → (xs ys : List Ticket) → AreLowest xs → AreLowest ys → Paired (pos a) (pos b) xs ys → a ≡ b
same_multiple a b more xs ys lx ly h =
    let s = shares a b more in
    let d = high_divides a b s xs ys h in
    let high : s.high ≡ 1 = lx s.high d.0 in
    let low : s.low ≡ 1 = ly s.low d.1 in
    sym s.m_is ∙ (ap (λ (z : ℕ). s.by * z) (low ∙ sym high) ∙ s.k_is)

same_tickets : (m : ℤ) → pos 1 ≤ℤ m → (xs ys : List Ticket) → Paired m m xs ys → xs ≡ ys
same_tickets m some [] [] h = refl
same_tickets m some [] (y ∷ ys) h = absurd h
same_tickets m some (x ∷ xs) [] h = absurd h
same_tickets m some (x ∷ xs) (y ∷ ys) h =
    let turn : (z : ℤ) → z *ℤ m ≡ m *ℤ z = λ z. same_by (times (v z) (v m)) (times (v m) (v z)) (omega arith) in
    let weight : x.weight ≡ y.weight = cancel x.weight y.weight m (turn x.weight ∙ (h.1 ∙ sym (turn y.weight))) some in
    let rest = same_tickets m some xs ys h.2 in
    λ i. record { play = record { code = h.0 i }; weight = weight i } ∷ rest i

pub fixed : (c other : Committed) → IsCommitted c → IsCommitted other → (m n : ℤ) → pos 1 ≤ℤ m → pos 1 ≤ℤ n → AreOneMix (scaled m c.tickets) (scaled n other.tickets) → c ≡ other
fixed c other ic io (pos a) (pos b) some more mix =
    let paired = pair (pos a) (pos b) some more c.tickets other.tickets ic.rising io.rising ic.positive io.positive
    (λ p. sym (weight_on-scaled (pos a) c.tickets p) ∙ (mix p ∙ weight_on-scaled (pos b) other.tickets p)) in
    let same_number : a ≡ b = same_multiple a b (omega (arith, ints, more)) c.tickets other.tickets ic.lowest io.lowest paired in
    let tickets : c.tickets ≡ other.tickets = same_tickets (pos b) more c.tickets other.tickets (subst (λ (z : ℕ). Paired (pos z) (pos b) c.tickets other.tickets) same_number paired) in
    let total : c.total ≡ other.total = ic.sum ∙ (ap weight_total tickets ∙ sym io.sum) in
    λ i. record { tickets = tickets i; total = total i }
fixed c other ic io (negsuc a) n some more mix = absurd (omega (arith, ints, some))
fixed c other ic io (pos a) (negsuc b) some more mix = absurd (omega (arith, ints, more))
