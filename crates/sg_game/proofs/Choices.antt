-- Choices of resources, counted, and the play in which all are idle.
use Rattle.std.proofs.Common.{◌≡◌, ◌∙◌, ℕ, zero, suc, ◌+◌, ◌*◌, ◌-◌, ◌<◌, ◌≤◌, false, length, refl, ap, sym, subst, arith}
use Rattle.std.proofs.Math.Nat.{mul_assoc, mul-le-mul_left}
use Rattle.sg_model.specs.Games.{Game, is_matrix, resource_schedules, schedule_count, schedule_targets}
use Rattle.sg_model.specs.PlayLists.{choices_from}
use Rattle.sg_game.specs.Counting.{IsSingle}

pub choices-some : (g : Game) (r n : ℕ) → 1 ≤ choices_from g r n
choices-some g r zero = omega arith
choices-some g r (suc n) =
    let rest = choices-some g (r + 1) n in
    let more = mul-le-mul_left (1 + length (resource_schedules g r)) rest in
    omega (arith, more)

pub choices-step : (g : Game) (k n : ℕ) → k < n → choices_from g (k + 1) (n - k) ≡ (1 + length (resource_schedules g (k + 1))) * choices_from g (k + 1 + 1) (n - (k + 1))
choices-step g k n lt = let e : n - k ≡ suc (n - (k + 1)) = omega arith in rw e refl

-- one more resource
pub choices-next : (g : Game) (k n count all : ℕ) → k < n → count * choices_from g (k + 1) (n - k) ≡ all → (count * (length (resource_schedules g (k + 1)) + 1)) * choices_from g (k + 1 + 1) (n - (k + 1)) ≡ all
choices-next g k n count all lt h =
    let m : ℕ = length (resource_schedules g (k + 1)) in
    let rest : ℕ = choices_from g (k + 1 + 1) (n - (k + 1)) in
    let e : m + 1 ≡ 1 + m = omega arith in
    mul_assoc count (m + 1) rest ∙ (ap (λ (x : ℕ). count * (x * rest)) e ∙ (ap (λ (x : ℕ). count * x) (sym (choices-step g k n lt)) ∙ h))

-- too many already
pub choices-over : (g : Game) (k n count all limit : ℕ) → k < n → count * choices_from g (k + 1) (n - k) ≡ all → limit ≤ count * (length (resource_schedules g (k + 1)) + 1) → limit ≤ all
choices-over g k n count all limit lt h over =
    let next = choices-next g k n count all lt h in
    let some = mul-le-mul_left (count * (length (resource_schedules g (k + 1)) + 1)) (choices-some g (k + 1 + 1) (n - (k + 1))) in
    omega (arith, next, some, over)

pub single : (g : Game) (n : ℕ) → is_matrix g ≡ false → n ≡ schedule_count g → ((k : ℕ) → k < n → length (schedule_targets g (k + 1)) ≡ 1) → IsSingle g
single g n form e h = record { security = form; one_each = λ s at. let back : (s - 1) + 1 ≡ s = omega (arith, at.0) in subst (λ (t : ℕ). length (schedule_targets g t) ≡ 1) back (h (s - 1) (omega (arith, e, at.0, at.1))) }
