-- Fields and numbers.
use Rattle.std.proofs.Common.{◌≡◌, ℕ, ◌+◌, ◌≤◌, Bool, true, false, ◌&&◌, List, [], ◌∷◌, refl, arith}
use Rattle.std.specs.Prelude.{nat_lt, nat_le}
use Rattle.std.specs.List.{list_all}
use Rattle.std.specs.Char.{digit_value}
use Rattle.std.proofs.lemmas.Bool.Decides.{nat_tests}
use Rattle.std.proofs.lemmas.Str.{digit_value_digit}
use Rattle.sg_cert.specs.Fields.{is_digit, is_natural}

-- the two parts of a test that passed
pub both : (a b : Bool) → (a && b) ≡ true → (a ≡ true) × (b ≡ true)
both true b e = (refl, e)
both false b e = absurd cc

pub is_digit_byte : (b : ℕ) → is_digit b ≡ true → (48 ≤ b) × (digit_value b + 48 ≡ b)
is_digit_byte b e =
    let t = both (nat_le 48 b) (nat_le b 57) e in
    let low : 48 ≤ b = grind (arith, nat_tests) in
    let high : b ≤ 57 = grind (arith, nat_tests) in
    (low, digit_value_digit b (low, high))

pub natural_digits : (bs : List ℕ) → is_natural bs ≡ true → list_all is_digit bs ≡ true
natural_digits [] e = absurd cc
natural_digits (b ∷ []) e = rw e refl
natural_digits (b ∷ c ∷ bs) e =
    let t = both (nat_lt 48 b && nat_le b 57) (list_all is_digit (c ∷ bs)) e in
    let u = both (nat_lt 48 b) (nat_le b 57) t.0 in
    let low : nat_le 48 b ≡ true = grind (arith, nat_tests) in
    rw (low, u.1) t.1
