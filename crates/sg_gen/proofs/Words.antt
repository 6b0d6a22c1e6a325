-- The words of a seed, one after another.
use Rattle.std.proofs.Common.{◌≡◌, ◌∙◌, ℕ, suc, ◌+◌, ◌*◌, ◌<◌, ◌%◌, ◌^◌, List, [], ◌∷◌, ◌++◌, map, sym, ap, refl, arith}
use Rattle.std.specs.Prelude.{ℤ, pos, negsuc, ◌+ℤ◌, ◌-ℤ◌}
use Rattle.std.proofs.Math.Nat.{suc-mul, zero-mul}
use Rattle.sg_model.specs.Sums.{numbers_from}
use Rattle.sg_gen.specs.Generated.{free_row}
use Rattle.sg_gen.specs.Making.{Draws}
use Rattle.sg_gen.proofs.Lists.{mapped-more}
use Rattle.rand_chacha.specs.ChaCha.{ChaCha, key_of, next_word}
use Rattle.sg_seed.specs.Seeds.{key_of_seed}
use Rattle.sg_gen.specs.Draws.{generator_at, by_number, in_turn, word_of_seed}

pub drawn : (seed k r : ℕ) (before after : ChaCha) → k + 1 < 2 ^ 60 → (r, after) ≡ next_word 10 before → before ≡ generator_at seed k → (r ≡ word_of_seed seed k) × (after ≡ generator_at seed (k + 1))
unfolding generator_at word_of_seed
drawn seed k r before after room e b =
    let p : (r, after) ≡ next_word 10 (generator_at seed k) = e ∙ ap (next_word 10) b in
    let m : (k + 1) % 2 ^ 68 ≡ k + 1 = omega arith in
    (ap (λ (x : ℕ × ChaCha). x.0) p, ap (λ (x : ℕ × ChaCha). x.1) p ∙ ap (λ (n : ℕ). (let g : ChaCha = record { key = key_of (key_of_seed seed); stream = 0; word_pos = n } in g)) m)

-- nothing drawn yet
pub in_turn-none : {X : Type 0} (f : ℕ → ℕ → X) (each : ℕ) (before : ChaCha) → Draws before before (0 * each) [] (in_turn f each 0)
in_turn-none f each before = λ seed k room e. let z : k ≡ k + 0 * each = omega (arith, zero-mul each) in (refl, e ∙ ap (generator_at seed) z)

-- one thing more
pub by_number-more : {X : Type 0} (f : ℕ → ℕ → ℕ → X) (each i : ℕ) (before now next : ChaCha) (xs ys : List X) (x : X) → Draws before now (i * each) xs (by_number f each i) → Draws now next each x (f i) → ys ≡ xs ++ x ∷ [] → Draws before next ((i + 1) * each) ys (by_number f each (i + 1))
by_number-more f each i before now next xs ys x h d e = λ seed k room b.
    let more : (i + 1) * each ≡ i * each + each = (let p : i + 1 ≡ suc i = omega arith in ap (λ (n : ℕ). n * each) p ∙ suc-mul i each) in
    let first = h seed k (omega (arith, room, more)) b in
    let last = d seed (k + i * each) (omega (arith, room, more)) first.1 in
    let g = λ (i : ℕ). f i seed (k + i * each) in
    let zero_i : i ≡ 0 + i = omega arith in
    let place : k + i * each + each ≡ k + (i + 1) * each = omega (arith, more) in (
      e ∙ (ap (λ zs. zs ++ x ∷ []) first.0 ∙ (ap (λ z. map g (numbers_from 0 i) ++ z ∷ []) (last.0 ∙ ap g zero_i) ∙ sym (mapped-more g 0 i))),
      last.1 ∙ ap (generator_at seed) place,
    )

pub in_turn-more : {X : Type 0} (f : ℕ → ℕ → X) (each i : ℕ) (before now next : ChaCha) (xs ys : List X) (x : X) → Draws before now (i * each) xs (in_turn f each i) → Draws now next each x f → ys ≡ xs ++ x ∷ [] → Draws before next ((i + 1) * each) ys (in_turn f each (i + 1))
in_turn-more f each i before now next xs ys x h d e = by_number-more (λ i. f) each i before now next xs ys x h d e

-- the four words of a target of identical patrols
pub free-drawn : (before one two three four : ChaCha) (gap loss gain open_loss : ℤ) (items : List ℤ) → Draws before one 1 gap (λ seed k. pos (2 ^ (10 + word_of_seed seed k % 11)))
    → Draws one two 1 loss (λ seed k. pos (word_of_seed seed k % 1000)) → Draws two three 1 gain (λ seed k. pos (word_of_seed seed k % 1000)) → Draws three four 1 open_loss (λ seed k. pos (word_of_seed seed k % 1000))
    → items ≡ gain ∷ (negsuc 0 -ℤ open_loss) ∷ (pos 0 -ℤ loss) ∷ ((pos 0 -ℤ loss) +ℤ gap) ∷ [] → Draws before four 4 items free_row
free-drawn before one two three four gap loss gain open_loss items d1 d2 d3 d4 e = λ seed k room b.
    let two_on : k + 1 + 1 ≡ k + 2 = omega arith in
    let three_on : k + 2 + 1 ≡ k + 3 = omega arith in
    let four_on : k + 3 + 1 ≡ k + 4 = omega arith in
    let a1 = d1 seed k (omega (arith, room)) b in
    let a2 = d2 seed (k + 1) (omega (arith, room)) a1.1 in
    let a3 = d3 seed (k + 2) (omega (arith, room)) (a2.1 ∙ ap (generator_at seed) two_on) in
    let a4 = d4 seed (k + 3) (omega (arith, room)) (a3.1 ∙ ap (generator_at seed) three_on) in
    (e ∙ rw (a1.0, a2.0, a3.0, a4.0) refl, a4.1 ∙ ap (generator_at seed) four_on)
