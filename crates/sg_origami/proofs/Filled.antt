-- The level of a filling, in lowest terms, and the filling put together.
use Rattle.std.proofs.Common.{◌≡◌, ℕ, ◌^◌, ℤ, pos, ◌-ℤ◌, ◌≤ℤ◌, subst, arith}
use Rattle.std.proofs.lemmas.Int.{ints}
use Rattle.sg_model.specs.declared.level.Level.{Level}
use Rattle.sg_model.specs.Games.{Game, resource_count}
use Rattle.sg_model.specs.Origami.{IsWater}
use Rattle.sg_model.proofs.Levels.{level_reached}
use Rattle.sg_frac.specs.Fractions.{Fraction, IsReduced, IsReducedForm}
use Rattle.sg_origami.specs.declared.filling.Filling.{Filling}
use Rattle.sg_origami.specs.Heights.{IsHeight}
use Rattle.sg_origami.specs.Fillings.{IsCoverage, IsFilling}
use Rattle.sg_model.specs.Fillable.{IsFillable}
use Rattle.sg_frac.proofs.Lowered.{lowers}
use Rattle.sg_model.proofs.Spans.{spans_factor}
use Rattle.sg_origami.proofs.Reduced.{IsFound, found-lowest}

-- all that is known of a level in lowest terms
pub record IsLowest (g : Game) (level : Fraction) (why : Level) : Type 0 where
  pub found : IsFound g level.num level.den why
  pub reduced : IsReduced level
  pub range : IsHeight level

pub lowest_is : (g : Game) (num den : ℤ) (level : Fraction) (why : Level) → IsFound g num den why → IsHeight (record { num = num; den = den }) → IsReducedForm num den level → IsLowest g level why
lowest_is g num den level why f h form =
    let low = f.reachable.positive in
    let l = lowers num den level low form in
    let w = spans_factor (2 ^ 77) num level.num l.by l.num_is l.positive (record { low = h.num.at_least; high = h.num.at_most }) in
    let x = spans_factor (2 ^ 46) den level.den l.by l.den_is l.positive (record { low = omega (arith, ints, low); high = h.den.at_most }) in
    record {
      found = found-lowest g num den level.num level.den why l form.reduced.positive f;
      reduced = form.reduced;
      range = record { num = record { at_least = w.low; at_most = w.high }; den = record { at_least = form.reduced.positive; at_most = x.high } };
    }

pub filling_is : (g : Game) → IsFillable g → (f : Filling) → IsLowest g f.level f.reason → IsCoverage g f.level.num f.level.den f.counts f.total → IsFilling g f
filling_is g fill f l c = record {
  water = l.found.water;
  least = λ k is_k. let r = level_reached g fill.origami f.level.num f.level.den f.reason l.found.water k is_k in (r.0, r.1.from_one, r.1.in_range, r.1.enough);
  reason = l.found.reason;
  reduced = l.reduced;
  range = l.range;
  coverage = c;
}
