use Rattle.std.proofs.Common.{arith, ap, length, to_z, of_z, ◌≡◌, ℤ}
use Rattle.std.specs.Int.{w128}
use Rattle.std.specs.Prelude.{FitsSigned}
use Rattle.std.proofs.lemmas.Int.{ints}
use Rattle.std.proofs.lemmas.List.{length-map}
use Rattle.sg_split.specs.Lines.{spot}
use Rattle.sg_split.proofs.Ends.{length-ends_from}
use Rattle.sg_split.proofs.Legal.{targets_few}
use Rattle.sg_split.proofs.wrapping.line_of.Goals as goal
use Rattle.std.proofs.Common.{pos}

pub returns : goal.returns
returns c =
    let total : ℤ = to_z w128 (of_z w128 c.args.total) in
    let fits : FitsSigned w128 c.args.total = c.ranges.total in
    let same : total ≡ c.args.total = omega (arith, ints, fits) in
    record {
      sound = record {
        positive = omega (arith, ints, same, c.requires.positive);
        each = c.in_ok-ends.ensures.each;
        few = omega (arith, ap length c.in_ok-ends.ensures.spots, length-map c.in_ok-ends.ends (spot total), length-ends_from (pos 0) c.args.counts.now, c.requires.one_each, targets_few c.args.game.now c.requires.game);
      };
      patrols = c.resources.ensures.count;
      moments = same;
      ends = c.in_ok-ends.ensures.spots;
    }
