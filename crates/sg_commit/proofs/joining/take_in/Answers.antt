use Rattle.std.proofs.Common.{◌≡◌, ◌+◌, sym, subst, pos, ◌≤ℤ◌, arith, List}
use Rattle.std.specs.List.{All}
use Rattle.std.proofs.lemmas.Grind.{common_steps}
use Rattle.std.proofs.lemmas.Int.{ints}
use Rattle.sg_model.specs.declared.ticket.Ticket.{Ticket}
use Rattle.sg_model.specs.Commitments.{weight_total}
use Rattle.sg_commit.specs.Joining.{standing}
use Rattle.sg_model.proofs.Covers.{ArePositive}
use Rattle.sg_commit.proofs.Standing.{positive-set, sum-set}
use Rattle.sg_commit.proofs.joining.take_in.Goals as goal

pub returns-then-is_same_play-clause-positive : goal.returns-then-is_same_play-clause-positive
returns-then-is_same_play-clause-positive c = λ h.
    subst (λ (k : List Ticket). ArePositive (standing k c.args.last (c.args.next + 1))) (sym c.set_weight.ensures)
    (positive-set c.args.tickets.now c.args.last c.args.next c.requires.order c.requires.known h _ (omega (arith, ints, c.weight_at.ensures, c.weight_at-then-is_same_play.ensures, c.requires)))

pub returns-then-is_same_play-clause-sum : goal.returns-then-is_same_play-clause-sum
returns-then-is_same_play-clause-sum c =
    subst (λ (k : List Ticket). weight_total (standing k c.args.last (c.args.next + 1)) ≡ weight_total (standing c.args.tickets.now c.args.last c.args.next)) (sym c.set_weight.ensures)
    (sum-set c.args.tickets.now c.args.last c.args.next c.requires.order c.requires.known _ (omega (arith, ints, c.weight_at.ensures, c.weight_at-then-is_same_play.ensures, c.requires)))

pub returns-else-is_same_play-clause-positive : goal.returns-else-is_same_play-clause-positive
returns-else-is_same_play-clause-positive c = λ h.
    let e : standing c.swap.new.self (c.args.last + 1) (c.args.next + 1) ≡ standing c.args.tickets.now c.args.last c.args.next = grind (arith, common_steps) in
    subst (λ (k : List Ticket). All (λ (x : Ticket). pos 1 ≤ℤ x.weight) k) (sym e) h
