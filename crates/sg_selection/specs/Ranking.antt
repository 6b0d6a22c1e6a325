-- The first of the greatest ranks.
use Rattle.std.specs.Prelude.{◌≡◌, ℕ, ◌<◌, ◌%◌, pos, ◌≤ℤ◌}
use Rattle.sg_frac.specs.Fractions.{Fraction}
use Rattle.sg_frac.specs.Order.{IsBelow}
use Rattle.rand_chacha.specs.ChaCha.{ChaCha}
use Rattle.sg_options.specs.declared.order.Walk.{Walk}
use Rattle.sg_options.specs.declared.order.Walk.TheVariants.{File, Best, Seeded}
use Rattle.sg_selection.specs.Selections.{word_drawn, words_behind}

-- of so many numbers n has the greatest rank, and all before it have lesser ones
pub record IsLeader (is_rank : ℕ → Fraction → Type 0) (count n : ℕ) (rank : Fraction) : Type 0 where
  pub ranked : is_rank n rank
  pub below : n < count
  pub positive : pos 1 ≤ℤ rank.den
  pub greatest : (m : ℕ) → m < count → (b : Fraction) × is_rank m b × (pos 1 ≤ℤ b.den) × ¬ (IsBelow rank b)
  pub first : (m : ℕ) → m < n → (b : Fraction) × is_rank m b × (pos 1 ≤ℤ b.den) × IsBelow b rank

-- the number that is chosen of so many, and the words that are left then
abbrev pub IsNumberBy : Walk → (ℕ → Fraction → Type 0) → ℕ → ChaCha → ChaCha → ℕ → Type 0
IsNumberBy File is_rank count words left n = (n ≡ 0) × (left ≡ words)
IsNumberBy Best is_rank count words left n = ((rank : Fraction) × IsLeader is_rank count n rank) × (left ≡ words)
IsNumberBy Seeded is_rank count words left n = (n ≡ word_drawn words % count) × (left ≡ words_behind words)
