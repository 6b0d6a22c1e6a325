-- A text before and behind the first use of a sign.
use Rattle.std.proofs.Common.{◌≡◌, ◌∙◌, ℕ, Bool, true, false, List, [], ◌∷◌, ◌++◌, length, refl, sym, ap, ap₂, inl, inr, arith, eqb-true, eq-eqb}
use Rattle.std.specs.Prelude.{◌⊎◌, ◌||◌, ◌==◌}
use Rattle.std.specs.List.{list_any, before_first, after_first}
use Rattle.std.proofs.lemmas.Bool.{cases_Bool, true≢false}

or_parts : (a b : Bool) → (a || b) ≡ false → (a ≡ false) × (b ≡ false)
or_parts true b h = absurd (true≢false h)
or_parts false b h = (refl, h)

module _ (sign : ℕ) where
  abbrev pub is_sign : ℕ → Bool
  is_sign code = code == sign

  abbrev pub has_sign : List ℕ → Bool
  has_sign text = list_any is_sign text

  before-sign : (code : ℕ) (codes : List ℕ) → is_sign code ≡ true → before_first is_sign (code ∷ codes) ≡ []
  before-sign code codes e = rw e refl

  after-sign : (code : ℕ) (codes : List ℕ) → is_sign code ≡ true → after_first is_sign (code ∷ codes) ≡ codes
  after-sign code codes e = rw e refl

  before-other : (code : ℕ) (codes : List ℕ) → is_sign code ≡ false → before_first is_sign (code ∷ codes) ≡ code ∷ before_first is_sign codes
  before-other code codes e = rw e (grind arith)

  after-other : (code : ℕ) (codes : List ℕ) → is_sign code ≡ false → after_first is_sign (code ∷ codes) ≡ after_first is_sign codes
  after-other code codes e = rw e (grind arith)

  -- ---- a text without it

  pub before_first-none : (text : List ℕ) → has_sign text ≡ false → before_first is_sign text ≡ text
  before_first-none [] none = refl
  before_first-none (code ∷ text) none =
      let parts = or_parts (is_sign code) (has_sign text) none in
      before-other code text parts.0 ∙ ap (λ (t : List ℕ). code ∷ t) (before_first-none text parts.1)

  -- ---- a text with it

  pub before_first-joined : (text rest : List ℕ) → has_sign text ≡ false → before_first is_sign (text ++ sign ∷ rest) ≡ text
  before_first-joined [] rest none = before-sign sign rest (eq-eqb sign sign refl)
  before_first-joined (code ∷ text) rest none =
      let parts = or_parts (is_sign code) (has_sign text) none in
      before-other code (text ++ sign ∷ rest) parts.0 ∙ ap (λ (t : List ℕ). code ∷ t) (before_first-joined text rest parts.1)

  pub after_first-joined : (text rest : List ℕ) → has_sign text ≡ false → after_first is_sign (text ++ sign ∷ rest) ≡ rest
  after_first-joined [] rest none = after-sign sign rest (eq-eqb sign sign refl)
  after_first-joined (code ∷ text) rest none =
      let parts = or_parts (is_sign code) (has_sign text) none in
      after-other code (text ++ sign ∷ rest) parts.0 ∙ after_first-joined text rest parts.1

  pub has_sign-joined : (text rest : List ℕ) → has_sign (text ++ sign ∷ rest) ≡ true
  has_sign-joined [] rest = ap (λ (b : Bool). b || has_sign rest) (eq-eqb sign sign refl)
  has_sign-joined (code ∷ text) rest = go (is_sign code) (has_sign-joined text rest)
    where
      go : (b : Bool) → has_sign (text ++ sign ∷ rest) ≡ true → (b || has_sign (text ++ sign ∷ rest)) ≡ true
      go true later = refl
      go false later = later

  -- the text is what stands before, the sign and what stands behind
  pub split_at_sign : (text : List ℕ) → has_sign text ≡ true → text ≡ before_first is_sign text ++ sign ∷ after_first is_sign text
  split_at_sign [] has = absurd (true≢false (sym has))
  split_at_sign (code ∷ text) has = go (cases_Bool (is_sign code)) (λ later. split_at_sign text later)
    where
      go : (is_sign code ≡ true) ⊎ (is_sign code ≡ false) → (has_sign text ≡ true → text ≡ before_first is_sign text ++ sign ∷ after_first is_sign text)
          → code ∷ text ≡ before_first is_sign (code ∷ text) ++ sign ∷ after_first is_sign (code ∷ text)
      go (inl e) later =
          ap₂ (λ (c : ℕ) (t : List ℕ). c ∷ t) (eqb-true code sign e) (sym (after-sign code text e))
          ∙ ap (λ (t : List ℕ). t ++ sign ∷ after_first is_sign (code ∷ text)) (sym (before-sign code text e))
      go (inr e) later =
          ap (λ (t : List ℕ). code ∷ t) (later (sym (ap (λ (b : Bool). b || has_sign text) e) ∙ has))
          ∙ ap₂ (λ (before after : List ℕ). before ++ sign ∷ after) (sym (before-other code text e)) (sym (after-other code text e))

  -- nothing stands before the sign that is the sign
  pub none_before : (text : List ℕ) → has_sign (before_first is_sign text) ≡ false
  none_before [] = refl
  none_before (code ∷ text) = go (cases_Bool (is_sign code)) (none_before text)
    where
      go : (is_sign code ≡ true) ⊎ (is_sign code ≡ false) → has_sign (before_first is_sign text) ≡ false → has_sign (before_first is_sign (code ∷ text)) ≡ false
      go (inl e) later = ap has_sign (before-sign code text e)
      go (inr e) later = ap has_sign (before-other code text e) ∙ ap (λ (b : Bool). b || has_sign (before_first is_sign text)) e ∙ later
