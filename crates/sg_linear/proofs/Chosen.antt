-- The members of a basis as a choice of so many of all members.
use Rattle.std.proofs.Common.{◌≡◌, ◌≢◌, ℕ, zero, suc, ◌<◌, ◌⊎◌, List, [], ◌∷◌, Bool, true, false, cond, eqb, length, inl, inr, refl, ap, arith, sym, subst, ◌∙◌}
use Rattle.std.specs.Prelude.{ℤ, pos, ◌<ℤ◌}
use Rattle.sg_linear.specs.Sums.{dot}
use Rattle.sg_linear.specs.Tableau.{IsState}
use Rattle.sg_linear.proofs.Lex.{same_or}
use Rattle.sg_linear.proofs.Choices.{flags, IsChoice}
use Rattle.std.proofs.lemmas.Int.{ints}
use lib.Dec.{T, eqb→eq}

-- i is one of the numbers below n
abbrev pub has : ℕ → (ℕ → ℕ) → ℕ → Bool
has zero num i = false
has (suc n) num i = cond (eqb (num n) i) true (has n num i)

abbrev pub tab : ℕ → (ℕ → Bool) → List Bool
tab zero p = []
tab (suc n) p = p n ∷ tab n p

length-tab : (n : ℕ) (p : ℕ → Bool) → length (tab n p) ≡ n
length-tab zero p = refl
length-tab (suc n) p = ap suc (length-tab n p)

tab-ext : (n : ℕ) (p q : ℕ → Bool) → ((i : ℕ) → i < n → p i ≡ q i) → tab n p ≡ tab n q
tab-ext zero p q e = refl
tab-ext (suc n) p q e = let h = e n (omega arith) in let t = tab-ext n p q (λ i l. e i (omega arith)) in cc

below_last : (n k : ℕ) → k < suc n → (k < n) ⊎ (k ≡ n)
below_last n k h = grind arith

tab-at : (n : ℕ) (p q : ℕ → Bool) → tab n p ≡ tab n q → (i : ℕ) → i < n → p i ≡ q i
tab-at zero p q e i h = absurd (omega arith)
tab-at (suc n) p q e i h = elim (below_last n i h) [ inl lt ↦ tab-at n p q (let t : tab n p ≡ tab n q = cc in t) i lt | inr is ↦ rw is (let t : p n ≡ q n = cc in t) ]

eqb-same : (a b : ℕ) → a ≡ b → eqb a b ≡ true
eqb-same a b e = grind arith

eqb-apart : (a b : ℕ) → a ≢ b → eqb a b ≡ false
eqb-apart a b h = go (eqb a b) refl
  where
    go : (t : Bool) → eqb a b ≡ t → t ≡ false
    go true e = absurd (h (eqb→eq a b (subst T (sym e) tt)))
    go false e = refl

set-one : (n : ℕ) (i0 : ℕ) (p : ℕ → Bool) → i0 < n → p i0 ≡ false → flags (tab n (λ i. cond (eqb i0 i) true (p i))) ≡ suc (flags (tab n p))
set-one zero i0 p h e = absurd (omega arith)
set-one (suc n) i0 p h e = elim (below_last n i0 h) [
  | inl lt ↦ rw (eqb-apart i0 n (omega arith)) (go (p n) (set-one n i0 p lt e))
  | inr is ↦ let t = tab-ext n (λ i. cond (eqb i0 i) true (p i)) p (λ i l. rw (eqb-apart i0 i (omega arith)) refl) in
      let f : p n ≡ false = subst (λ (k : ℕ). p k ≡ false) is e in
      rw (eqb-same i0 n is, f) (ap (λ z. suc (flags z)) t)
]
  where
    go : (t : Bool) → flags (tab n (λ i. cond (eqb i0 i) true (p i))) ≡ suc (flags (tab n p)) → flags (t ∷ tab n (λ i. cond (eqb i0 i) true (p i))) ≡ suc (flags (t ∷ tab n p))
    go true r = ap suc r
    go false r = r

has-none : (n : ℕ) (num : ℕ → ℕ) (i : ℕ) → ((k : ℕ) → k < n → num k ≢ i) → has n num i ≡ false
has-none zero num i h = refl
has-none (suc n) num i h = rw (eqb-apart (num n) i (h n (omega arith))) (has-none n num i (λ k l. h k (omega arith)))

has-at : (n : ℕ) (num : ℕ → ℕ) (k : ℕ) → k < n → has n num (num k) ≡ true
has-at zero num k h = absurd (omega arith)
has-at (suc n) num k h = elim (below_last n k h) [
  | inr is ↦ rw (eqb-same (num n) (num k) (ap num (sym is))) refl
  | inl lt ↦ rw (has-at n num k lt) (both (eqb (num n) (num k)))
]
  where
    both : (t : Bool) → cond t true true ≡ true
    both true = refl
    both false = refl

at-has : (n : ℕ) (num : ℕ → ℕ) (i : ℕ) → has n num i ≡ true → (k : ℕ) × ((k < n) × (num k ≡ i))
at-has zero num i e = absurd (let c : false ≡ true = e in cc)
at-has (suc n) num i e = go (at-has n num i) (eqb (num n) i) refl e
  where
    go : (has n num i ≡ true → (k : ℕ) × ((k < n) × (num k ≡ i))) → (t : Bool) → eqb (num n) i ≡ t → cond t true (has n num i) ≡ true → (k : ℕ) × ((k < suc n) × (num k ≡ i))
    go rec true q e = (n, (omega arith, eqb→eq (num n) i (subst T (sym q) tt)))
    go rec false q e = let f = rec e in (f.0, (let l = f.1.0 in omega arith, f.1.1))

no_flags : (n : ℕ) → flags (tab n (λ _. false)) ≡ 0
no_flags zero = refl
no_flags (suc n) = no_flags n

flags-has : (N n : ℕ) (num : ℕ → ℕ) → ((k : ℕ) → k < n → num k < N) → ((k l : ℕ) → k < n → l < n → num k ≡ num l → k ≡ l) → flags (tab N (has n num)) ≡ n
flags-has N zero num h inj = no_flags N
flags-has N (suc n) num h inj = set-one N (num n) (has n num) (h n (omega arith)) (has-none n num (num n) (λ k l e. let f = inj k n (omega arith) (omega arith) e in omega arith)) ∙ ap suc (flags-has N n num (λ k l. h k (omega arith)) (λ k l hk hl e. inj k l (omega arith) (omega arith) e))

-- number gives each of N members its number
module _ {B : Type 0} (n N : ℕ) (A : B → ℕ → ℤ) (c : B → ℤ) (number : B → ℕ) (Member : B → Type 0) (numbered : (x : B) → Member x → number x < N)
    (one : (x z : B) → Member x → Member z → number x ≡ number z → x ≡ z) where
  -- which of them a basis has
  abbrev pub chosen : (ℕ → B) → List Bool
  chosen b = tab N (has n (λ k. number (b k)))

  -- no member stands twice in a basis
  apart-members : (b : ℕ → B) (M : ℕ → ℕ → ℤ) (y : ℕ → ℤ) (rho : ℤ) → IsState n A c b M y rho → ((k : ℕ) → k < n → Member (b k)) → (k l : ℕ) → k < n → l < n → number (b k) ≡ number (b l) → k ≡ l
  apart-members b M y rho st members k l hk hl e = elim (same_or k l) [
    | inl is ↦ is
    | inr ne ↦ let same = one (b k) (b l) (members k hk) (members l hl) e in
        absurd (clash _ (st.own k hk) (ap (λ z. dot n (M k) (A z)) same ∙ st.apart k l hk hl ne))
  ]
    where
      clash : (x : ℤ) → pos 0 <ℤ x → x ≡ pos 0 → ⊥
      clash x h e = omega (arith, ints)

  pub chosen-choice : (b : ℕ → B) (M : ℕ → ℕ → ℤ) (y : ℕ → ℤ) (rho : ℤ) → IsState n A c b M y rho → ((k : ℕ) → k < n → Member (b k)) → IsChoice N n (chosen b)
  chosen-choice b M y rho st members = record {
    long = length-tab N _;
    has = flags-has N n (λ k. number (b k)) (λ k hk. numbered (b k) (members k hk)) (apart-members b M y rho st members);
  }

  -- bases with the same choice have the same members
  pub same-chosen : (b b' : ℕ → B) → ((k : ℕ) → k < n → Member (b k)) → ((k : ℕ) → k < n → Member (b' k)) → chosen b ≡ chosen b' → (k : ℕ) → k < n → (l : ℕ) × ((l < n) × (b k ≡ b' l))
  same-chosen b b' members members' e k hk =
      let num = numbered (b k) (members k hk) in
      let there = sym (tab-at N _ _ e (number (b k)) num) ∙ has-at n (λ l. number (b l)) k hk in
      let l = at-has n (λ l. number (b' l)) (number (b k)) there in
      (l.0, (l.1.0, one _ _ (members k hk) (members' l.0 l.1.0) (sym l.1.1)))
