-- The reason of a level: the first target that pays it where it is covered, or the patrols.
use Rattle.std.proofs.Common.{◌≡◌, ℕ, length, ℤ, pos, ◌*ℤ◌, ◌≤ℤ◌, ◌<ℤ◌, sym, ◌∙◌, arith}
use Rattle.std.proofs.lemmas.Int.{ints}
use Rattle.sg_model.specs.Games.{Game, payoff}
use Rattle.sg_model.specs.Origami.{IsFullyCovered}
use Rattle.sg_model.proofs.Ints.{v, n, times, same_by, mul-le}
use Rattle.sg_origami.specs.Fillings.{IsFirstFloor}
use Rattle.sg_origami.specs.Rates.{IsFirstMost}

-- above what each covered target pays, none of them pays the level
pub no_floor : (g : Game) (num den : ℤ) → pos 1 ≤ℤ den → (t : ℕ) (pay : ℤ) → IsFirstMost g (length g.goals) t pay → (pay *ℤ den) <ℤ num → (j : ℕ) → ¬ (IsFullyCovered g num den j)
no_floor g num den positive t pay most below j floor =
    absurd (omega (arith, ints, mul-le (payoff g 1 j).ac pay den (most.most j floor.from_one floor.in_range) (omega (arith, ints, positive)), floor.pays, below))

times_one : (z : ℤ) → z *ℤ pos 1 ≡ z
times_one z = same_by (times (v z) (n 1)) (v z) (omega arith)

-- the first that pays most is the first that pays just that
pub first_floor : (g : Game) (t : ℕ) (pay : ℤ) → IsFirstMost g (length g.goals) t pay → IsFirstFloor g pay (pos 1) t
first_floor g t pay most = record {
  floor = record { from_one = most.from_one; in_range = most.in_range; pays = times_one (payoff g 1 t).ac ∙ sym most.pays };
  first = λ i lt floor. absurd (omega (arith, ints, most.first i floor.from_one lt, times_one (payoff g 1 i).ac, floor.pays));
}
