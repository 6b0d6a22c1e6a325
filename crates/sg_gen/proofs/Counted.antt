-- How many schedules blocks have.
use Rattle.std.proofs.Common.{◌≡◌, ◌∙◌, ℕ, zero, suc, ◌+◌, ◌-◌, ◌*◌, ◌/◌, ◌<◌, ◌≤◌, Bool, true, false, inl, inr, List, [], ◌∷◌, flat_map, length, map, sym, ap, refl, arith}
use Rattle.std.specs.Prelude.{◌&&◌, Vec, nat_le}
use Rattle.std.specs.declared.alloc.Global.{Global}
use Rattle.std.specs.List.{list_all}
use Rattle.std.proofs.lemmas.Bool.{cases_eq}
use Rattle.std.proofs.lemmas.Bool.Decides.{nat_tests}
use Rattle.std.proofs.Math.Nat.{mul-le-mul, suc-mul, zero-mul}
use Rattle.std.proofs.lemmas.List.{length-append, length-map}
use Rattle.std.proofs.lemmas.Nat.{div-mul-add}
use Rattle.sg_model.specs.Sums.{numbers, numbers_from}
use Rattle.sg_gen.specs.Generated.{block_lists, blocks_lists}
use Rattle.sg_gen.specs.Making.{member_lists}

same-lengths : (g h : ℕ → ℕ → List ℕ) (parts : ℕ → List ℕ) (xs : List ℕ) → length (flat_map (λ a. map (g a) (parts a)) xs) ≡ length (flat_map (λ a. map (h a) (parts a)) xs)
same-lengths g h parts [] = refl
same-lengths g h parts (x ∷ xs) =
    omega (arith, length-append (map (g x) (parts x)) (flat_map (λ a. map (g a) (parts a)) xs), length-append (map (h x) (parts x)) (flat_map (λ a. map (h a) (parts a)) xs), length-map (parts x) (g x), length-map (parts x) (h x), same-lengths g h parts xs)

-- each block has as many
pub block-count : (width before : ℕ) → length (block_lists width before) ≡ length (block_lists width 0)
block-count width before =
    let parts = λ (a : ℕ). numbers_from (a + 1) (width - a) in
    let one = λ (before a : ℕ). (before + a) ∷ [] in
    let two = λ (before a b : ℕ). (before + a) ∷ (before + b) ∷ [] in
    let pairs = λ (before : ℕ). flat_map (λ a. map (two before a) (parts a)) (numbers width) in
    omega (
      arith,
      length-append (map (one before) (numbers width)) (pairs before),
      length-append (map (one 0) (numbers width)) (pairs 0),
      length-map (numbers width) (one before),
      length-map (numbers width) (one 0),
      same-lengths (two before) (two 0) parts (numbers width),
    )

pub blocks-count : (width a n : ℕ) → length (flat_map (λ k. block_lists width (k * width)) (numbers_from a n)) ≡ n * length (block_lists width 0)
blocks-count width a zero = sym (zero-mul (length (block_lists width 0)))
blocks-count width a (suc n) =
    let f = λ (k : ℕ). block_lists width (k * width) in
    omega (arith, length-append (f a) (flat_map f (numbers_from (a + 1) n)), block-count width (a * width), blocks-count width (a + 1) n, suc-mul n (length (block_lists width 0)))

-- a test of a row of numbers holds of each of them
tested : (p : ℕ → Bool) (a n : ℕ) → list_all p (numbers_from a n) ≡ true → (k : ℕ) → a ≤ k → k < a + n → p k ≡ true
tested p a zero h k low high = absurd (omega (arith, low, high))
tested p a (suc n) h k low high =
    let both = parts (p a) (list_all p (numbers_from (a + 1) n)) h in
    elim (cases_eq k a) [
      | inl e ↦ rw e both.0
      | inr other ↦ tested p (a + 1) n both.1 k (omega (arith, low, other)) (omega (arith, high))
    ]
  where
    parts : (x y : Bool) → (x && y) ≡ true → (x ≡ true) × (y ≡ true)
    parts true y h = (refl, h)
    parts false y h = cc

is_few : ℕ → Bool
is_few width = nat_le 1 (length (block_lists width 0)) && nat_le (length (block_lists width 0)) 55

few : (width : ℕ) → 2 ≤ width → width ≤ 10 → (1 ≤ length (block_lists width 0)) × (length (block_lists width 0) ≤ 55)
unfolding is_few
few width low high = by (length (block_lists width 0)) (tested is_few 2 9 refl width low (omega (arith, high)))
  where
    by : (m : ℕ) → (nat_le 1 m && nat_le m 55) ≡ true → (1 ≤ m) × (m ≤ 55)
    by m h = (grind (arith, nat_tests, h), grind (arith, nat_tests, h))

pub some-lists : (width : ℕ) → 2 ≤ width → width ≤ 10 → 1 ≤ length (block_lists width 0)
some-lists width low high = (few width low high).0

pub few-lists : (width : ℕ) → 2 ≤ width → width ≤ 10 → length (block_lists width 0) ≤ 55
few-lists width low high = (few width low high).1

-- what one block has of all
pub shared : (lists : List (Vec ℕ Global)) (blocks width : ℕ) → 1 ≤ blocks → member_lists lists ≡ blocks_lists blocks width → length lists / blocks ≡ length (block_lists width 0)
shared lists blocks width some e =
    let m : ℕ = length (block_lists width 0) in
    let count : length lists ≡ blocks * m = sym (length-map lists (λ (v : Vec ℕ Global). v.items)) ∙ (ap length e ∙ blocks-count width 0 blocks) in
    let turn : blocks * m ≡ m * blocks + 0 = omega arith in
    ap (λ (n : ℕ). n / blocks) (count ∙ turn) ∙ div-mul-add m blocks 0 (omega (arith, some))

pub small-product : (a b : ℕ) → a ≤ 8 → b ≤ 10 → a * b ≤ 80
small-product a b ha hb = mul-le-mul ha hb
