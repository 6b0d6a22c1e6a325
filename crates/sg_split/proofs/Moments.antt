-- The tickets of all moments.
use Rattle.std.proofs.Common.{◌≡◌, ℕ, zero, suc, ◌≤◌, length, List, ℤ, pos, negsuc, arith}
use Rattle.std.proofs.lemmas.Int.{ints}
use Rattle.std.proofs.lemmas.List.Elements.{All-map}
use Rattle.sg_model.specs.declared.ticket.Ticket.{Ticket}
use Rattle.sg_model.specs.Sums.{nth, numbers_from}
use Rattle.sg_model.specs.Games.{Game, resource_count}
use Rattle.sg_model.specs.Limits.{IsGame}
use Rattle.sg_model.specs.Plays.{IsLegal}
use Rattle.sg_model.specs.Commitments.{cover_count, weight_total, AreLegal}
use Rattle.sg_split.specs.Laying.{AreCounts, ends_from, moment_tickets, play_at}
use Rattle.sg_split.proofs.Covered.{cover_count-moments, weight_total-moments}
use Rattle.sg_split.proofs.Legal.{patrols_form, play_at-legal}
use Rattle.sg_split.proofs.Mixes.{ticket_of}

pub moments_weigh : (g : Game) (counts : List ℤ) (tickets : ℤ) → AreCounts g counts tickets → weight_total (moment_tickets counts (resource_count g) tickets) ≡ tickets
unfolding moment_tickets
moments_weigh g counts (pos d) are = weight_total-moments (ends_from (pos 0) counts) (resource_count g) (pos d) 0 d
moments_weigh g counts (negsuc d) are = absurd (omega (arith, ints, are.positive))

pub moments_cover : (g : Game) (counts : List ℤ) (tickets : ℤ) → AreCounts g counts tickets → (t : ℕ) → 1 ≤ t → t ≤ length g.goals
    → cover_count g (moment_tickets counts (resource_count g) tickets) t ≡ nth counts t (pos 0)
unfolding moment_tickets
moments_cover g counts tickets are zero low high = absurd (omega (arith, low))
moments_cover g counts (pos d) are (suc k) low high = cover_count-moments g counts d k are (omega (arith, high))
moments_cover g counts (negsuc d) are (suc k) low high = absurd (omega (arith, ints, are.positive))

pub moment_legal : (g : Game) → IsGame g → (counts : List ℤ) (tickets : ℤ) → AreCounts g counts tickets → (moment : ℤ) → IsLegal g (play_at (ends_from (pos 0) counts) (resource_count g) tickets moment)
moment_legal g is counts tickets are moment =
    play_at-legal g counts tickets moment (patrols_form g (resource_count g) is are.patrolled) are.patrolled are.one_each

pub moments_legal : (g : Game) → IsGame g → (counts : List ℤ) (tickets : ℤ) → AreCounts g counts tickets → AreLegal g (moment_tickets counts (resource_count g) tickets)
unfolding moment_tickets
moments_legal g is counts tickets are =
    All-map (λ (x : Ticket). IsLegal g x.play.code) (λ (i : ℕ). ticket_of (play_at (ends_from (pos 0) counts) (resource_count g) tickets (pos i)) (pos 1)) (numbers_from 0 _)
    (λ i d lt. moment_legal g is counts tickets are (pos _))
