-- Texts that spell no shape of a kind, and those that do.
use Rattle.std.proofs.Common.{◌≡◌, ◌≢◌, ◌∙◌, ℕ, ◌*◌, ◌<◌, ◌≤◌, ◌^◌, List, ◌∷◌, ◌++◌, Option, Some, None, ap, get_or, refl, subst, sym, arith}
use Rattle.std.specs.Prelude.{MatchOption, codes, decimal}
use Rattle.std.proofs.lemmas.Fmt.{decimal_injective}
use Rattle.sg_gen.specs.declared.shape.Shape.{Shape}
use Rattle.sg_gen.specs.declared.shape.Shape.TheVariants.{Blocks, Free, Table}
use Rattle.sg_gen.specs.GeneratedLaws.{TextsAreApart}
use Rattle.sg_gen.specs.Shapes.{IsShape, ReadsShape, shape_text}
use Rattle.sg_gen.proofs.Dashes.{apart}

-- no number of this range is spelled
abbrev pub NoNumber : ℕ → ℕ → List ℕ → Type 0
NoNumber least greatest text = (n : ℕ) → least ≤ n → n ≤ greatest → text ≢ decimal n

-- none stands before a dash
abbrev pub NoneBeforeDash : ℕ → ℕ → List ℕ → Type 0
NoneBeforeDash least greatest text = (n : ℕ) (rest : List ℕ) → least ≤ n → n ≤ greatest → text ≢ decimal n ++ 45 ∷ rest

-- this number stands before a dash, and that text behind it
pub record Begins (n : ℕ) (rest text : List ℕ) : Type 0 where
  pub small : n < 2 ^ 64
  pub is : text ≡ decimal n ++ 45 ∷ rest

-- the two numbers and texts of two readings are the same
again : (m n : ℕ) (a b text : List ℕ) → Begins m a text → n < 2 ^ 64 → text ≡ decimal n ++ 45 ∷ b → (m ≡ n) × (a ≡ b)
again m n a b text h small e = apart m n a b h.small small (sym h.is ∙ e)

-- two different first letters
heads : (a b : ℕ) → a ≡ b → a ≢ b → ⊥
heads a b e ne = ne e

pub no-free : (numbers rest : List ℕ) (t : ℕ) → t < 2 ^ 64 → numbers ≡ decimal t ++ 45 ∷ rest → NoNumber 0 200 rest → ReadsShape (codes "free-" ++ numbers) None
no-free numbers rest t small is none (Free targets patrols) h e =
    let text : numbers ≡ decimal targets ++ 45 ∷ decimal patrols = cc in
    let same = again t targets rest (decimal patrols) numbers (record { small = small; is = is }) (omega (arith, h.0.at_most)) text in
    none patrols h.1.at_least h.1.at_most same.1
no-free numbers rest t small is none (Blocks resources width span) h e = heads 102 98 (let z : 102 ≡ 98 = ap (λ (xs : List ℕ). get_or xs 0 0) e in z) (λ z. omega (arith, z))
no-free numbers rest t small is none (Table rows actions types) h e = heads 102 109 (let z : 102 ≡ 109 = ap (λ (xs : List ℕ). get_or xs 0 0) e in z) (λ z. omega (arith, z))

pub no-width : (numbers others : List ℕ) (a : ℕ) → a < 2 ^ 64 → numbers ≡ decimal a ++ 45 ∷ others → NoneBeforeDash 2 10 others → ReadsShape (codes "blocks-" ++ numbers) None
no-width numbers others a small is none (Blocks resources width span) h e =
    let text : numbers ≡ decimal resources ++ 45 ∷ (decimal width ++ 45 ∷ decimal span) = cc in
    let same = again a resources others (decimal width ++ 45 ∷ decimal span) numbers (record { small = small; is = is }) (omega (arith, h.0.at_most)) text in
    none width (decimal span) h.1.at_least h.1.at_most same.1
no-width numbers others a small is none (Free targets patrols) h e = heads 98 102 (let z : 98 ≡ 102 = ap (λ (xs : List ℕ). get_or xs 0 0) e in z) (λ z. omega (arith, z))
no-width numbers others a small is none (Table rows actions types) h e = heads 98 109 (let z : 98 ≡ 109 = ap (λ (xs : List ℕ). get_or xs 0 0) e in z) (λ z. omega (arith, z))

pub no-span : (numbers others rest : List ℕ) (a b : ℕ) → a < 2 ^ 64 → b < 2 ^ 64 → numbers ≡ decimal a ++ 45 ∷ others → others ≡ decimal b ++ 45 ∷ rest → NoNumber 1 1000 rest → ReadsShape (codes "blocks-" ++ numbers) None
no-span numbers others rest a b small_a small_b first second none (Blocks resources width span) h e =
    let text : numbers ≡ decimal resources ++ 45 ∷ (decimal width ++ 45 ∷ decimal span) = cc in
    let one = again a resources others (decimal width ++ 45 ∷ decimal span) numbers (record { small = small_a; is = first }) (omega (arith, h.0.at_most)) text in
    let two = again b width rest (decimal span) others (record { small = small_b; is = second }) (omega (arith, h.1.at_most)) one.1 in
    none span h.2.at_least h.2.at_most two.1
no-span numbers others rest a b small_a small_b first second none (Free targets patrols) h e = heads 98 102 (let z : 98 ≡ 102 = ap (λ (xs : List ℕ). get_or xs 0 0) e in z) (λ z. omega (arith, z))
no-span numbers others rest a b small_a small_b first second none (Table rows actions types) h e = heads 98 109 (let z : 98 ≡ 109 = ap (λ (xs : List ℕ). get_or xs 0 0) e in z) (λ z. omega (arith, z))

pub no-actions : (numbers others : List ℕ) (a : ℕ) → a < 2 ^ 64 → numbers ≡ decimal a ++ 45 ∷ others → NoneBeforeDash 1 64 others → ReadsShape (codes "matrix-" ++ numbers) None
no-actions numbers others a small is none (Table rows actions types) h e =
    let text : numbers ≡ decimal rows ++ 45 ∷ (decimal actions ++ 45 ∷ decimal types) = cc in
    let same = again a rows others (decimal actions ++ 45 ∷ decimal types) numbers (record { small = small; is = is }) (omega (arith, h.0.at_most)) text in
    none actions (decimal types) h.1.at_least h.1.at_most same.1
no-actions numbers others a small is none (Free targets patrols) h e = heads 109 102 (let z : 109 ≡ 102 = ap (λ (xs : List ℕ). get_or xs 0 0) e in z) (λ z. omega (arith, z))
no-actions numbers others a small is none (Blocks resources width span) h e = heads 109 98 (let z : 109 ≡ 98 = ap (λ (xs : List ℕ). get_or xs 0 0) e in z) (λ z. omega (arith, z))

module _ (numbers others rest : List ℕ) (a b : ℕ) (small_a : a < 2 ^ 64) (small_b : b < 2 ^ 64) (first : numbers ≡ decimal a ++ 45 ∷ others) (second : others ≡ decimal b ++ 45 ∷ rest) where
  -- the numbers of a table that the text spells
  spelled : (rows actions types : ℕ) → IsShape (Table rows actions types) → codes "matrix-" ++ numbers ≡ shape_text (Table rows actions types) → (a ≡ rows) × (b ≡ actions) × (rest ≡ decimal types)
  spelled rows actions types h e =
      let text : numbers ≡ decimal rows ++ 45 ∷ (decimal actions ++ 45 ∷ decimal types) = cc in
      let one = again a rows others (decimal actions ++ 45 ∷ decimal types) numbers (record { small = small_a; is = first }) (omega (arith, h.0.at_most)) text in
      let two = again b actions rest (decimal types) others (record { small = small_b; is = second }) (omega (arith, h.1.at_most)) one.1 in
      (one.0, two.0, two.1)

  pub no-types : NoNumber 1 8 rest → ReadsShape (codes "matrix-" ++ numbers) None
  no-types none (Table rows actions types) h e = none types h.2.at_least h.2.at_most (spelled rows actions types h e).2
  no-types none (Free targets patrols) h e = heads 109 102 (let z : 109 ≡ 102 = ap (λ (xs : List ℕ). get_or xs 0 0) e in z) (λ z. omega (arith, z))
  no-types none (Blocks resources width span) h e = heads 109 98 (let z : 109 ≡ 98 = ap (λ (xs : List ℕ). get_or xs 0 0) e in z) (λ z. omega (arith, z))

  -- whether their product is in its range decides
  pub of-product : (c : ℕ) → 1 ≤ a → a ≤ 4096 → 1 ≤ b → b ≤ 64 → 1 ≤ c → c ≤ 8 → rest ≡ decimal c → (r : Option Shape) → MatchOption r (200000 < a * b * c) (λ shape. (shape ≡ Table a b c) × (a * b * c ≤ 200000)) → ReadsShape (codes "matrix-" ++ numbers) r
  of-product c a1 a2 b1 b2 c1 c2 third None above = above-shapes
    where
      above-shapes : ReadsShape (codes "matrix-" ++ numbers) None
      above-shapes (Table rows actions types) h e =
          let same = spelled rows actions types h e in
          let last : c ≡ types = decimal_injective c types (omega (arith, c2)) (omega (arith, h.2.at_most)) (sym third ∙ same.2) in
          let product : a * b * c ≡ rows * actions * types = rw (same.0, same.1, last) refl in
          omega (arith, above, product, h.3)
      above-shapes (Free targets patrols) h e = heads 109 102 (let z : 109 ≡ 102 = ap (λ (xs : List ℕ). get_or xs 0 0) e in z) (λ z. omega (arith, z))
      above-shapes (Blocks resources width span) h e = heads 109 98 (let z : 109 ≡ 98 = ap (λ (xs : List ℕ). get_or xs 0 0) e in z) (λ z. omega (arith, z))
  of-product c a1 a2 b1 b2 c1 c2 third (Some shape) found =
      let is : IsShape (Table a b c) = (record { at_least = a1; at_most = a2 }, record { at_least = b1; at_most = b2 }, record { at_least = c1; at_most = c2 }, found.1) in
      let text : codes "matrix-" ++ numbers ≡ shape_text (Table a b c) = rw (first, second, third) refl in
      (subst IsShape (sym found.0) is, text ∙ ap shape_text (sym found.0))

free-apart : (a b c d : ℕ) → IsShape (Free a b) → IsShape (Free c d) → shape_text (Free a b) ≡ shape_text (Free c d) → Free a b ≡ Free c d
free-apart a b c d h k e =
    let text : decimal a ++ 45 ∷ decimal b ≡ decimal c ++ 45 ∷ decimal d = cc in
    let one = apart a c (decimal b) (decimal d) (omega (arith, h.0.at_most)) (omega (arith, k.0.at_most)) text in
    let two = decimal_injective b d (omega (arith, h.1.at_most)) (omega (arith, k.1.at_most)) one.1 in
    rw (one.0, two) refl

-- three numbers with a dash between two
three-apart : (a b c d e f : ℕ) → a < 2 ^ 64 → b < 2 ^ 64 → c < 2 ^ 64 → d < 2 ^ 64 → e < 2 ^ 64 → f < 2 ^ 64 → decimal a ++ 45 ∷ (decimal b ++ 45 ∷ decimal c) ≡ decimal d ++ 45 ∷ (decimal e ++ 45 ∷ decimal f) → (a ≡ d) × (b ≡ e) × (c ≡ f)
three-apart a b c d e f sa sb sc sd se sf text =
    let one = apart a d (decimal b ++ 45 ∷ decimal c) (decimal e ++ 45 ∷ decimal f) sa sd text in
    let two = apart b e (decimal c) (decimal f) sb se one.1 in
    (one.0, two.0, decimal_injective c f sc sf two.1)

letter : (xs ys : List ℕ) → xs ≡ ys → get_or xs 0 0 ≡ get_or ys 0 0
letter xs ys e = ap (λ (zs : List ℕ). get_or zs 0 0) e

pub texts-apart : TextsAreApart
texts-apart (Free a b) (Free c d) h k e = free-apart a b c d h k e
texts-apart (Free a b) (Blocks d f g) h k e = (let z : 102 ≡ 98 = letter (shape_text (Free a b)) (shape_text (Blocks d f g)) e in absurd (omega (arith, z)))
texts-apart (Free a b) (Table d f g) h k e = (let z : 102 ≡ 109 = letter (shape_text (Free a b)) (shape_text (Table d f g)) e in absurd (omega (arith, z)))
texts-apart (Blocks a b c) (Free d f) h k e = (let z : 98 ≡ 102 = letter (shape_text (Blocks a b c)) (shape_text (Free d f)) e in absurd (omega (arith, z)))
texts-apart (Blocks a b c) (Blocks d f g) h k e =
    let text : decimal a ++ 45 ∷ (decimal b ++ 45 ∷ decimal c) ≡ decimal d ++ 45 ∷ (decimal f ++ 45 ∷ decimal g) = cc in
    let same = three-apart a b c d f g (omega (arith, h.0.at_most)) (omega (arith, h.1.at_most)) (omega (arith, h.2.at_most)) (omega (arith, k.0.at_most)) (omega (arith, k.1.at_most)) (omega (arith, k.2.at_most)) text in
    rw (same.0, same.1, same.2) refl
texts-apart (Blocks a b c) (Table d f g) h k e = (let z : 98 ≡ 109 = letter (shape_text (Blocks a b c)) (shape_text (Table d f g)) e in absurd (omega (arith, z)))
texts-apart (Table a b c) (Free d f) h k e = (let z : 109 ≡ 102 = letter (shape_text (Table a b c)) (shape_text (Free d f)) e in absurd (omega (arith, z)))
texts-apart (Table a b c) (Blocks d f g) h k e = (let z : 109 ≡ 98 = letter (shape_text (Table a b c)) (shape_text (Blocks d f g)) e in absurd (omega (arith, z)))
texts-apart (Table a b c) (Table d f g) h k e =
    let text : decimal a ++ 45 ∷ (decimal b ++ 45 ∷ decimal c) ≡ decimal d ++ 45 ∷ (decimal f ++ 45 ∷ decimal g) = cc in
    let same = three-apart a b c d f g (omega (arith, h.0.at_most)) (omega (arith, h.1.at_most)) (omega (arith, h.2.at_most)) (omega (arith, k.0.at_most)) (omega (arith, k.1.at_most)) (omega (arith, k.2.at_most)) text in
    rw (same.0, same.1, same.2) refl
