-- Products of 0 change nothing.
use Rattle.std.proofs.Common.{◌≡◌, ◌∙◌, ℕ, suc, ◌+◌, ◌<◌, Bool, true, false, List, [], ◌∷◌, length, sym, ap, refl, arith, inl, inr, Option, Some}
use Rattle.std.specs.Prelude.{ℤ, pos, ◌+ℤ◌, ◌*ℤ◌, if◌then◌else◌}
use Rattle.std.proofs.lemmas.Int.{ints}
use Rattle.sg_num.specs.declared.step.Wide.{Wide}
use Rattle.sg_num.specs.Exact.{fits}
use Rattle.sg_rows.specs.Rows.{dot_from, dot_steps, place}
use Rattle.sg_num.specs.Operations.{first_wide, is_formed, plus, times}
use Rattle.sg_programs.specs.Sparse.{AreKept, steps_at, sum_at}
use Rattle.sg_programs.specs.Laws.{ZerosChangeNothing}

-- two operations, and then the same from a second one that fits
pub after-two : (w v : Wide) (as1 bs : List Wide) → (is_formed v ≡ true → first_wide as1 ≡ first_wide bs) → first_wide (w ∷ v ∷ as1) ≡ first_wide (w ∷ v ∷ bs)
after-two w v as1 bs h = ap (λ (o : Option Wide). if is_formed w then o else Some w) (go (is_formed v) refl)
  where
    go : (t : Bool) → is_formed v ≡ t → (if t then first_wide as1 else Some v) ≡ (if t then first_wide bs else Some v)
    go true e = h e
    go false e = refl

-- a product of 0 fits, and so does the sum with it
pub after-zero : (a b acc : ℤ) (rest : List Wide) → a *ℤ b ≡ pos 0 → fits acc ≡ true → first_wide (times a b ∷ plus acc (a *ℤ b) ∷ rest) ≡ first_wide rest
after-zero a b acc rest e f =
    let p : fits (a *ℤ b) ≡ true = ap fits e in
    let same : acc +ℤ (a *ℤ b) ≡ acc = omega (arith, ints, e) in
    let q : fits (acc +ℤ (a *ℤ b)) ≡ true = ap fits same ∙ f in
    ap (λ (t : Bool). if t then first_wide (plus acc (a *ℤ b) ∷ rest) else Some (times a b)) p
    ∙ ap (λ (t : Bool). if t then first_wide rest else Some (plus acc (a *ℤ b))) q

-- x gives the places of xs from j on
abbrev pub Gives : (ℕ → ℤ) → ℕ → List ℤ → Type 0
Gives x j xs = (i : ℕ) → i < length xs → x (j + i) ≡ place xs i

pub gives-first : (x : ℕ → ℤ) (j : ℕ) (p : ℤ) (ps : List ℤ) → Gives x j (p ∷ ps) → x j ≡ p
gives-first x j p ps h = let e : j ≡ j + 0 = omega arith in ap x e ∙ h 0 (omega arith)

pub gives-rest : (x : ℕ → ℤ) (j : ℕ) (p : ℤ) (ps : List ℤ) → Gives x j (p ∷ ps) → Gives x (j + 1) ps
gives-rest x j p ps h = λ i lt. let e : j + 1 + i ≡ j + suc i = omega arith in ap x e ∙ h (suc i) (omega (arith, lt))

pub kept-steps : (x y : ℕ → ℤ) (j : ℕ) (acc : ℤ) (xs ys : List ℤ) (js : List ℕ) → Gives x j xs → Gives y j ys → AreKept j xs ys js → fits acc ≡ true
    → first_wide (dot_steps acc xs ys) ≡ first_wide (steps_at x y acc js)
kept-steps x y j acc [] ys js gx gy k f = ap (λ (z : List ℕ). first_wide (steps_at x y acc z)) (sym k)
kept-steps x y j acc (p ∷ ps) [] js gx gy k f = ap (λ (z : List ℕ). first_wide (steps_at x y acc z)) (sym k)
kept-steps x y j acc (p ∷ ps) (q ∷ qs) js gx gy (inl k) f =
    let px = gives-first x j p ps gx in
    let qy = gives-first y j q qs gy in
    let rest = after-two (times p q) (plus acc (p *ℤ q)) (dot_steps (acc +ℤ (p *ℤ q)) ps qs) (steps_at x y (acc +ℤ (p *ℤ q)) k.0)
    (λ e. kept-steps x y (j + 1) (acc +ℤ (p *ℤ q)) ps qs k.0 (gives-rest x j p ps gx) (gives-rest y j q qs gy) k.2 e) in
    rest
    ∙ ap (λ (z : ℤ). first_wide (times z q ∷ plus acc (z *ℤ q) ∷ steps_at x y (acc +ℤ (z *ℤ q)) k.0)) (sym px)
    ∙ ap (λ (z : ℤ). first_wide (times (x j) z ∷ plus acc (x j *ℤ z) ∷ steps_at x y (acc +ℤ (x j *ℤ z)) k.0)) (sym qy)
    ∙ ap (λ (z : List ℕ). first_wide (steps_at x y acc z)) (sym k.1)
kept-steps x y j acc (p ∷ ps) (q ∷ qs) js gx gy (inr k) f =
    let same : acc +ℤ (p *ℤ q) ≡ acc = (let e = k.0 in omega (arith, ints, e)) in
    after-zero p q acc (dot_steps (acc +ℤ (p *ℤ q)) ps qs) k.0 f
    ∙ ap (λ (z : ℤ). first_wide (dot_steps z ps qs)) same
    ∙ kept-steps x y (j + 1) acc ps qs js (gives-rest x j p ps gx) (gives-rest y j q qs gy) k.1 f

pub kept-sum : (x y : ℕ → ℤ) (j : ℕ) (acc : ℤ) (xs ys : List ℤ) (js : List ℕ) → Gives x j xs → Gives y j ys → AreKept j xs ys js
    → dot_from acc xs ys ≡ sum_at x y acc js
kept-sum x y j acc [] ys js gx gy k = ap (λ (z : List ℕ). sum_at x y acc z) (sym k)
kept-sum x y j acc (p ∷ ps) [] js gx gy k = ap (λ (z : List ℕ). sum_at x y acc z) (sym k)
kept-sum x y j acc (p ∷ ps) (q ∷ qs) js gx gy (inl k) =
    let px = gives-first x j p ps gx in
    let qy = gives-first y j q qs gy in
    kept-sum x y (j + 1) (acc +ℤ (p *ℤ q)) ps qs k.0 (gives-rest x j p ps gx) (gives-rest y j q qs gy) k.2
    ∙ ap (λ (z : ℤ). sum_at x y (acc +ℤ (z *ℤ q)) k.0) (sym px)
    ∙ ap (λ (z : ℤ). sum_at x y (acc +ℤ (x j *ℤ z)) k.0) (sym qy)
    ∙ ap (λ (z : List ℕ). sum_at x y acc z) (sym k.1)
kept-sum x y j acc (p ∷ ps) (q ∷ qs) js gx gy (inr k) =
    let same : acc +ℤ (p *ℤ q) ≡ acc = (let e = k.0 in omega (arith, ints, e)) in
    ap (λ (z : ℤ). dot_from z ps qs) same ∙ kept-sum x y (j + 1) acc ps qs js (gives-rest x j p ps gx) (gives-rest y j q qs gy) k.1

pub gives-self : (xs : List ℤ) → Gives (place xs) 0 xs
gives-self xs = λ i lt. let e : 0 + i ≡ i = omega arith in ap (place xs) e

pub zeros_change_nothing : ZerosChangeNothing
zeros_change_nothing xs ys js k = (
  kept-steps (place xs) (place ys) 0 (pos 0) xs ys js (gives-self xs) (gives-self ys) k refl,
  kept-sum (place xs) (place ys) 0 (pos 0) xs ys js (gives-self xs) (gives-self ys) k,
)
