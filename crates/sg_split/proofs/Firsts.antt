-- The first end past a place.
use Rattle.std.proofs.Common.{◌≡◌, ℕ, zero, suc, ◌+◌, ◌<◌, ◌≤◌, true, false, List, [], ◌∷◌, length, ℤ, pos, ◌≤ℤ◌, ◌<ℤ◌, sym, ◌∙◌, refl, arith, get_or, ◌⊎◌, inl, inr}
use Rattle.std.specs.Prelude.{int_le, int_lt}
use Rattle.std.proofs.lemmas.Int.{ints, by_lt_z}
use Rattle.sg_split.specs.Laying.{first_past, target_at}
use Rattle.sg_split.specs.Lines.{IsBehind}

pub test_past : (a b : ℤ) → a <ℤ b → int_lt a b ≡ true
test_past a b h = grind (arith, ints)

pub test_upto : (a b : ℤ) → b ≤ℤ a → int_lt a b ≡ false
test_upto a b h = grind (arith, ints)

-- the end at place m of a list is the first past a place
pub record IsFirst (ends : List ℤ) (place : ℤ) (m : ℕ) : Type 0 where
  pub in_range : m < length ends
  pub before : (k : ℕ) → k < m → get_or ends k (pos 0) ≤ℤ place
  pub past : place <ℤ get_or ends m (pos 0)

pub first_past-is : (t : ℕ) (ends : List ℤ) (place : ℤ) (m : ℕ) → IsFirst ends place m → first_past t ends place ≡ t + m
first_past-is t [] place m is = absurd (omega (arith, is.in_range))
first_past-is t (e ∷ es) place zero is =
    let h = test_past place e is.past in
    rw h (omega arith)
first_past-is t (e ∷ es) place (suc m) is =
    let h = test_upto place e (is.before 0 (omega arith)) in
    let rest : first_past (t + 1) es place ≡ (t + 1) + m = first_past-is (t + 1) es place m (record {
      in_range = omega (arith, is.in_range);
      before = λ k lt. is.before (suc k) (omega (arith, lt));
      past = is.past;
    }) in
    let e : (t + 1) + m ≡ t + suc m = omega arith in
    rw h (rest ∙ e)

pub first_past-none : (t : ℕ) (ends : List ℤ) (place : ℤ) → ((k : ℕ) → k < length ends → get_or ends k (pos 0) ≤ℤ place) → first_past t ends place ≡ 0
first_past-none t [] place upto = refl
first_past-none t (e ∷ es) place upto =
    let h = test_upto place e (upto 0 (omega arith)) in
    rw h (first_past-none (t + 1) es place (λ k lt. upto (suc k) (omega (arith, lt))))

-- what an answer above 0 tells
pub record IsFound (t : ℕ) (ends : List ℤ) (place : ℤ) : Type 0 where
  pub m : ℕ
  pub is : first_past t ends place ≡ t + m
  pub first : IsFirst ends place m

before_more : (e : ℤ) (es : List ℤ) (place : ℤ) (m : ℕ) → e ≤ℤ place → ((k : ℕ) → k < m → get_or es k (pos 0) ≤ℤ place) → (k : ℕ) → k < suc m → get_or (e ∷ es) k (pos 0) ≤ℤ place
before_more e es place m le before zero lt = le
before_more e es place m le before (suc k) lt = before k (omega (arith, lt))

pub first_past-found : (t : ℕ) (ends : List ℤ) (place : ℤ) → 1 ≤ t → (first_past t ends place ≡ 0) ⊎ IsFound t ends place
first_past-found t [] place low = inl refl
first_past-found t (e ∷ es) place low =
    by_lt_z place e
    (λ lt.
    let h = test_past place e lt in
    inr (record {
      m = 0;
      is = rw h (omega arith);
      first = record { in_range = omega arith; before = λ k k_lt. absurd (omega (arith, k_lt)); past = lt };
    }))
    (λ le.
    let h = test_upto place e le in
    elim (first_past-found (t + 1) es place (omega arith)) [
      | inl none ↦ inl (rw h none)
      | inr found ↦ (
          let e : (t + 1) + found.m ≡ t + suc found.m = omega arith in
          inr (record {
            m = suc found.m;
            is = rw h (found.is ∙ e);
            first = record {
              in_range = omega (arith, found.first.in_range);
              before = before_more _ es place found.m le found.first.before;
              past = found.first.past;
            };
          }))
    ])

-- two places with no end between them
pub first_past-same : (t : ℕ) (ends : List ℤ) (x y : ℤ) → x ≤ℤ y → ((k : ℕ) → k < length ends → (get_or ends k (pos 0) ≤ℤ x) ⊎ (y <ℤ get_or ends k (pos 0))) → first_past t ends x ≡ first_past t ends y
first_past-same t [] x y le apart = refl
first_past-same t (e ∷ es) x y le apart =
    elim (apart 0 (omega arith)) [
      | inl upto ↦ (
          let h = test_upto x e upto in
          let k = test_upto y e (omega (arith, ints, le, upto)) in
          rw h (rw k (first_past-same (t + 1) es x y le (λ k lt. apart (suc k) (omega (arith, lt))))))
      | inr past ↦ (
          let h = test_past x e (omega (arith, ints, le, past)) in
          let k = test_past y e past in
          rw h (rw k refl))
    ]

-- an answer is at most the number of ends
pub first_past-few : (ends : List ℤ) (place : ℤ) → first_past 1 ends place ≤ length ends
first_past-few ends place = elim (first_past-found 1 ends place (omega arith)) [
  | inl none ↦ omega (arith, none)
  | inr found ↦ omega (arith, found.is, found.first.in_range)
]

-- where no end is past a place, each is at most there
pub first_past-upto : (t : ℕ) (ends : List ℤ) (place : ℤ) → 1 ≤ t → first_past t ends place ≡ 0 → (k : ℕ) → k < length ends → get_or ends k (pos 0) ≤ℤ place
first_past-upto t [] place low none k lt = absurd (omega (arith, lt))
first_past-upto t (e ∷ es) place low none k lt =
    by_lt_z place e
    (λ past. absurd (let h = test_past place e past in let q : t ≡ 0 = rw h at none in omega (arith, q, low)))
    (λ le.
    let h = test_upto place e le in
    let rest : first_past (t + 1) es place ≡ 0 = rw h at none in
    elim k as (λ (k : ℕ). k < suc (length es) → get_or (e ∷ es) k (pos 0) ≤ℤ place) [
      | zero ↦ (λ _. le)
      | suc j ↦ (λ k_lt. first_past-upto (t + 1) es place (omega arith) rest j (omega (arith, k_lt)))
    ] lt)

-- from the target at a place none is left out at a later place
pub behind_later : (ends : List ℤ) (from to : ℤ) → from ≤ℤ to → IsBehind ends (target_at ends from) to
behind_later ends from to le = λ k lt out.
    elim (first_past-found 1 ends from (omega arith)) [
      | inl none ↦ omega (arith, ints, first_past-upto 1 ends from (omega arith) none k lt, le)
      | inr found ↦ elim out [
        | inl zero_is ↦ absurd (omega (arith, found.is, zero_is))
        | inr before ↦ omega (arith, ints, found.first.before k (omega (arith, before, found.is)), le)
      ]
    ]

-- from the first target none is left out
pub behind_first : (ends : List ℤ) (place : ℤ) → IsBehind ends 1 place
behind_first ends place = λ k lt out. absurd (elim out [ inl one ↦ omega (arith, one) | inr before ↦ omega (arith, before) ])

pub past_test : (a b : ℤ) → false ≡ int_le a b → b <ℤ a
past_test a b h = by_lt_z b a (λ lt. lt) (λ le. absurd (let t : int_le a b ≡ true = sym (omega (arith, ints, le)) in let q : false ≡ true = h ∙ t in cc))

pub less_test : (a b : ℤ) → true ≡ int_lt a b → a <ℤ b
less_test a b h = by_lt_z a b (λ lt. lt) (λ le. absurd (let q : true ≡ false = h ∙ test_upto a b le in cc))
