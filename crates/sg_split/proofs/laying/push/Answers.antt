use Rattle.std.proofs.Common.{arith, sym, subst, refl, ◌≡◌, to_z, of_z, ℤ, ◌-ℤ◌}
use Rattle.std.specs.Int.{w128}
use Rattle.std.specs.Prelude.{FitsSigned}
use Rattle.std.proofs.lemmas.Int.{ints}
use Rattle.sg_split.specs.Lines.{AreUpTo}
use Rattle.sg_split.proofs.Mixes.{ticket_of}
use Rattle.sg_split.proofs.Tickets.{up_to_more}
use Rattle.sg_split.proofs.laying.push.Goals as goal

pub returns : goal.returns
returns c =
    let line = c.args.line.now in
    let last = c.args.laid.last in
    let q = c.requires in
    let to : ℤ = c.args.to in
    let fits : FitsSigned w128 to = c.ranges.to in
    let w : ℤ = to_z w128 (of_z w128 (to_z w128 (of_z w128 to) -ℤ to_z w128 (of_z w128 last.moment))) in
    let e : w ≡ to -ℤ last.moment = omega (arith, ints, q.laid.moment.low, q.laid.moment.high, q.later, fits) in
    subst (AreUpTo line to) (sym c.in_ok-push.ensures.items)
    (up_to_more line c.args.laid.tickets.items last to (ticket_of last.code w) q.line q.laid q.later q.within q.apart refl e)
