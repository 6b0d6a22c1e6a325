-- The next line, where more bytes stand behind.
use Rattle.std.proofs.Common.{◌≡◌, ℕ, suc, ◌+◌, ◌≤◌, Bool, true, false, not, cond, List, [], ◌∷◌, ◌++◌, length, take, drop, Option, Some, None, inl, inr, refl, sym, ap, subst, ◌∙◌, arith}
use Rattle.std.specs.Prelude.{◌==◌, nat_lt}
use Rattle.std.specs.List.{position_or_len}
use Rattle.std.specs.Option.{option_map}
use Rattle.std.proofs.lemmas.Bool.{cases_lt, le-ltb, lt-ltb}
use Rattle.sg_cert.specs.Fields.{split_once}
use Rattle.sg_report_laws.specs.Faults.{newlines}

abbrev pub Parts : Type 0
Parts = List ℕ × List ℕ

abbrev push : ℕ → Parts → Parts
push b p = (b ∷ p.0, p.1)

abbrev found : List ℕ → ℕ → Bool → Option Parts
found bs n there = option_map (λ i. (take i bs, drop (i + 1) bs)) (cond there (Some n) None)

found_later : (b : ℕ) (bs : List ℕ) (n : ℕ) (there : Bool) → found (b ∷ bs) (suc n) there ≡ option_map (push b) (found bs n there)
found_later b bs n true = let k : suc n + 1 ≡ suc (n + 1) = omega arith in rw k refl
found_later b bs n false = refl

less_next : (n m : ℕ) → nat_lt (suc n) (suc m) ≡ nat_lt n m
less_next n m =
    elim (cases_lt n m) [
      | inl lt ↦ rw (lt-ltb n m lt) (lt-ltb (suc n) (suc m) (omega (arith, lt)))
      | inr le ↦ rw (le-ltb n m le) (le-ltb (suc n) (suc m) (omega (arith, le)))
    ]

split_step : (b : ℕ) (bs : List ℕ) → split_once 10 (b ∷ bs) ≡ cond (b == 10) (Some ([], bs)) (option_map (push b) (split_once 10 bs))
split_step b bs = by_test (b == 10) (position_or_len (λ x. x == 10) bs)
  where
    by_test : (t : Bool) (n : ℕ)
        → found (b ∷ bs) (cond (not t) (1 + n) 0) (nat_lt (cond (not t) (1 + n) 0) (length (b ∷ bs))) ≡ cond t (Some ([], bs)) (option_map (push b) (found bs n (nat_lt n (length bs))))
    by_test true n = let k : nat_lt 0 (length (b ∷ bs)) ≡ true = lt-ltb 0 (length (b ∷ bs)) (omega arith) in rw k refl
    by_test false n =
        let e : 1 + n ≡ suc n = omega arith in
        rw e (ap (found (b ∷ bs) (suc n)) (less_next n (length bs)) ∙ found_later b bs n (nat_lt n (length bs)))

-- what the cut at the first newline says of the bytes, and of the bytes with more behind
abbrev pub IsCut : List ℕ → List ℕ → Option Parts → Type 0
IsCut bs more None = newlines bs ≡ 0
IsCut bs more (Some parts) = (split_once 10 (bs ++ more) ≡ Some (parts.0, parts.1 ++ more)) × ((newlines bs ≡ newlines parts.1 + 1) × (suc (length parts.1) ≤ length bs))

pub is_cut : (bs more : List ℕ) → IsCut bs more (split_once 10 bs)
is_cut [] more = refl
is_cut (b ∷ bs) more = subst (IsCut (b ∷ bs) more) (sym (split_step b bs)) (by_test (b == 10) refl (is_cut bs more))
  where
    later : (b == 10) ≡ false → (o : Option Parts) → IsCut bs more o → IsCut (b ∷ bs) more (option_map (push b) o)
    later e None h = rw e h
    later e (Some parts) h = (split_step b (bs ++ more) ∙ rw (e, h.0) refl, (rw e h.1.0, omega (arith, h.1.1)))

    by_test : (t : Bool) → (b == 10) ≡ t → IsCut bs more (split_once 10 bs) → IsCut (b ∷ bs) more (cond t (Some ([], bs)) (option_map (push b) (split_once 10 bs)))
    by_test true e h = (split_step b (bs ++ more) ∙ rw e refl, (rw e (omega arith), omega arith))
    by_test false e h = later e (split_once 10 bs) h

-- a line, and what stands behind it
pub line_cut_off : (line more : List ℕ) → newlines line ≡ 0 → split_once 10 (line ++ 10 ∷ more) ≡ Some (line, more)
line_cut_off [] more h = split_step 10 more
line_cut_off (b ∷ bs) more h = by_test (b == 10) refl (λ rest. line_cut_off bs more rest)
  where
    by_test : (t : Bool) → (b == 10) ≡ t → (newlines bs ≡ 0 → split_once 10 (bs ++ 10 ∷ more) ≡ Some (bs, more)) → split_once 10 ((b ∷ bs) ++ 10 ∷ more) ≡ Some (b ∷ bs, more)
    by_test true e again = let some : suc (newlines bs) ≡ 0 = sym (newline_here e) ∙ h in absurd (omega (arith, some))
      where
        newline_here : (b == 10) ≡ true → newlines (b ∷ bs) ≡ suc (newlines bs)
        newline_here e = rw e refl
    by_test false e again = split_step b (bs ++ 10 ∷ more) ∙ rw (e, again (sym (none_here e) ∙ h)) refl
      where
        none_here : (b == 10) ≡ false → newlines (b ∷ bs) ≡ newlines bs
        none_here e = rw e refl
