-- A number for each slack and each column of a program.
use Rattle.std.proofs.Common.{◌≡◌, ℕ, zero, suc, ◌+◌, ◌<◌, List, [], ◌∷◌, Bool, true, false, cond, eqb, length, slice_index_or, refl, ap, arith, sym, ◌∙◌, subst}
use Rattle.std.proofs.lemmas.List.{get_or_default}
use Rattle.sg_lp.specs.Programs.{IsMember, Program}
use Rattle.sg_lp.specs.declared.column.Column.{Column}
use Rattle.sg_lp.specs.declared.column.Enter.{Enter}
use Rattle.sg_lp.specs.declared.column.Enter.TheVariants.{Slack, Col}
use lib.Dec.{T, eqb→eq}

eqb-same : (a : ℕ) → eqb a a ≡ true
eqb-same a = grind arith

eqb-is : (a b : ℕ) → eqb a b ≡ true → a ≡ b
eqb-is a b e = eqb→eq a b (subst T (sym e) tt)

abbrev same_list : List ℕ → List ℕ → Bool
same_list [] [] = true
same_list [] (y ∷ ys) = false
same_list (x ∷ xs) [] = false
same_list (x ∷ xs) (y ∷ ys) = cond (eqb x y) (same_list xs ys) false

same_list-is : (xs ys : List ℕ) → same_list xs ys ≡ true → xs ≡ ys
same_list-is [] [] e = refl
same_list-is [] (y ∷ ys) e = cc
same_list-is (x ∷ xs) [] e = cc
same_list-is (x ∷ xs) (y ∷ ys) e = go (eqb x y) refl (λ q. same_list-is xs ys q) e
  where
    go : (t : Bool) → eqb x y ≡ t → (same_list xs ys ≡ true → xs ≡ ys) → cond t (same_list xs ys) false ≡ true → (x ∷ xs) ≡ (y ∷ ys)
    go true q rec h = let a = eqb-is x y q in let b = rec h in cc
    go false q rec h = cc

same_list-same : (xs : List ℕ) → same_list xs xs ≡ true
same_list-same [] = refl
same_list-same (x ∷ xs) = rw (eqb-same x) (same_list-same xs)

abbrev same_column : Column → Column → Bool
same_column c d = cond (eqb c.len d.len) (same_list c.code d.code) false

two : (f : ℕ → List ℕ → Column) (a b : ℕ) (x y : List ℕ) → a ≡ b → x ≡ y → f a x ≡ f b y
two f a b x y p q = cc

same_column-is : (c d : Column) → same_column c d ≡ true → c ≡ d
same_column-is c d e = go (eqb c.len d.len) refl e
  where
    go : (t : Bool) → eqb c.len d.len ≡ t → cond t (same_list c.code d.code) false ≡ true → c ≡ d
    go true q h = two (λ a x. record { len = a; code = x }) c.len d.len c.code d.code (eqb-is c.len d.len q) (same_list-is c.code d.code h)
    go false q h = cc

same_column-same : (c : Column) → same_column c c ≡ true
same_column-same c = rw (eqb-same c.len) (same_list-same c.code)

-- the place of the first of some columns that is this one
abbrev index_in : List Column → Column → ℕ
index_in [] c = 0
index_in (d ∷ ds) c = cond (same_column d c) 0 (suc (index_in ds c))

abbrev Indexed : List Column → Column → ℕ → Type 0
Indexed ds c i = (i < length ds) × (slice_index_or ds i c ≡ c)

index_in-at : (ds : List Column) (c : Column) (k : ℕ) → k < length ds → slice_index_or ds k c ≡ c → Indexed ds c (index_in ds c)
index_in-at [] c k h e = absurd (omega arith)
index_in-at (d ∷ ds) c zero h e = go (same_column d c) (ap (λ (x : Column). same_column x c) e ∙ same_column-same c)
  where
    go : (t : Bool) → t ≡ true → Indexed (d ∷ ds) c (cond t 0 (suc (index_in ds c)))
    go true q = (omega arith, e)
    go false q = cc
index_in-at (d ∷ ds) c (suc k) h e = go (same_column d c) refl (index_in-at ds c k (omega arith) e)
  where
    go : (t : Bool) → same_column d c ≡ t → Indexed ds c (index_in ds c) → Indexed (d ∷ ds) c (cond t 0 (suc (index_in ds c)))
    go true q rec = (omega arith, same_column-is d c q)
    go false q rec = (let l = rec.0 in omega arith, rec.1)

-- the number of a member: slacks first, by row, then the columns in order
abbrev pub number_of : Program → Enter → ℕ
number_of p (Slack i) = i
number_of p (Col c) = p.height + index_in p.columns c

listed : (p : Program) (c : Column) → IsMember p (Col c) → Indexed p.columns c (index_in p.columns c)
listed p c m = let k = m.column c refl in index_in-at p.columns c k.0 k.1 k.2

pub number-below : (p : Program) (x : Enter) → IsMember p x → number_of p x < p.height + length p.columns
number-below p (Slack i) m = let h = m.slack i refl in omega arith
number-below p (Col c) m = let l = (listed p c m).0 in omega arith

pub number-one : (p : Program) (x z : Enter) → IsMember p x → IsMember p z → number_of p x ≡ number_of p z → x ≡ z
number-one p (Slack i) (Slack k) m w e = ap Slack e
number-one p (Slack i) (Col c) m w e = absurd (let h = m.slack i refl in omega arith)
number-one p (Col c) (Slack i) m w e = absurd (let h = w.slack i refl in omega arith)
number-one p (Col c) (Col d) m w e =
    let a = listed p c m in
    let b = listed p d w in
    let same : index_in p.columns c ≡ index_in p.columns d = omega arith in
    let is : c ≡ d = sym a.1 ∙ ap (λ (i : ℕ). slice_index_or p.columns i c) same ∙ get_or_default p.columns (index_in p.columns d) c d b.0 ∙ b.1 in
    ap Col is
