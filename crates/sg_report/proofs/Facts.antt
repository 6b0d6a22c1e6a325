-- Laws about tables.
use Rattle.std.proofs.Common.{◌∙◌, ◌≤◌, pos, ◌*ℤ◌, ◌≤ℤ◌, refl, sym, ap, arith}
use Rattle.std.specs.Fmt.{digits}
use Rattle.std.specs.Int.{IsGcd}
use Rattle.std.proofs.lemmas.Int.{ints}
use Rattle.std.proofs.lemmas.Nat.Gcd.{IsGcd-from_mod, IsGcd-from_zero}
use Rattle.sg_model.specs.Games.{prior_total}
use Rattle.sg_model.specs.Commitments.{weight_total, worth}
use Rattle.sg_model.proofs.Promises.{peopled}
use Rattle.sg_model.proofs.Values.{prior_total-positive}
use Rattle.sg_frac.proofs.Reduced.{reduced_form-unique}
use Rattle.sg_model.proofs.Covers.{weight_total-positive}
use Rattle.sg_commit.proofs.Worths.{product-positive}
use Rattle.sg_report.specs.Laws.{fraction_over, TableIsOne, TablesAreWorked}
use Rattle.sg_report.specs.Tables.{table_text}

-- ---- one table

pub table_is_one : TableIsOne
table_is_one g k upper text other is is_k table other_table =
    let below : pos 1 ≤ℤ (weight_total k *ℤ prior_total g) = product-positive (weight_total k) (prior_total g) (weight_total-positive k is_k.some is_k.positive) (prior_total-positive g (peopled g is)) in
    let same = reduced_form-unique (worth g k) (weight_total k *ℤ prior_total g) table.value other_table.value (λ e. omega (arith, ints, below, e)) table.reduced other_table.reduced in
    table.shown ∙ ap (λ v. table_text g k v upper) same ∙ sym other_table.shown

-- ---- tables worked out by hand

two_three : IsGcd 2 3 1
two_three = IsGcd-from_mod 2 3 1 (IsGcd-from_mod 3 2 1 (IsGcd-from_mod 2 1 1 (IsGcd-from_zero 1 0 refl)))

eleven_three : IsGcd 11 3 1
eleven_three = IsGcd-from_mod 11 3 1 (IsGcd-from_mod 3 2 1 (IsGcd-from_mod 2 1 1 (IsGcd-from_zero 1 0 refl)))

pub tables_are_worked : TablesAreWorked
unfolding digits
tables_are_worked = record {
  one_patrol = record { value = fraction_over 2 3; reduced = record { reduced = record { positive = omega (arith, ints); coprime = two_three }; equal = refl }; shown = refl };
  one_player = record { value = fraction_over 11 3; reduced = record { reduced = record { positive = omega (arith, ints); coprime = eleven_three }; equal = refl }; shown = refl };
  two_players = record { value = fraction_over 11 3; reduced = record { reduced = record { positive = omega (arith, ints); coprime = eleven_three }; equal = refl }; shown = refl };
}
