use Rattle.std.proofs.Common.{◌≡◌, ◌^◌, ◌-◌, ◌∙◌, ◌≤ℤ◌, ap, length, List, pos, arith}
use Rattle.std.proofs.lemmas.Int.{ints}
use Rattle.sg_model.specs.declared.ticket.Ticket.{Ticket}
use Rattle.sg_model.specs.Commitments.{weight_total}
use Rattle.sg_game.specs.Tallies.{tallied}
use Rattle.sg_game.proofs.Tallied.{length-tallied, tallied-counts}
use Rattle.sg_commit.proofs.tally.count_covers.Goals as goal

pub returns : goal.returns
returns c =
    let g = c.args.game.now in
    let rules = c.tickets.ensures.rules in
    let is = c.tally.ensures ∙ ap (λ (k : List Ticket). tallied g c.args.cells.now 1 k) c.tickets.ensures.value in
    let few : weight_total c.args.k.now.tickets ≤ℤ pos (2 ^ 127 - 1) = omega (arith, ints, rules.sum, c.total-total.ensures, c.total-total.type_inv) in
    record {
      size = ap length is ∙ length-tallied g c.args.cells.now 1 c.args.k.now.tickets;
      counts = λ t lt. tallied-counts g c.args.k.now.tickets (length c.args.cells.now) c.args.cells.now c.tally.new.cells rules.positive few c.requires.fresh is t lt;
    }
