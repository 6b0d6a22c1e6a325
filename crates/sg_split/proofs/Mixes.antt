-- Tickets laid up to a moment, as one mix with those of the moments.
use Rattle.std.proofs.Common.{◌≡◌, ℕ, ◌+◌, ◌<◌, ◌≤◌, cond, List, [], ◌∷◌, ◌++◌, ℤ, pos, ◌+ℤ◌, ap, ◌∙◌, arith, bytes_eq}
use Rattle.std.proofs.lemmas.Int.{ints}
use Rattle.sg_model.specs.declared.ticket.Ticket.{Ticket}
use Rattle.sg_model.specs.Sums.{total, numbers_from}
use Rattle.sg_model.specs.Commitments.{weight_on}
use Rattle.sg_model.specs.OptimalityLaws.{AreOneMix}
use Rattle.sg_model.proofs.Sums.{total-append}
use Rattle.sg_split.specs.Laying.{play_at, tickets_at}
use Rattle.sg_split.proofs.Counted.{numbers_from-append, total-constant, total-map}

abbrev pub ticket_of : List ℕ → ℤ → Ticket
ticket_of code weight = record { play = record { code = code }; weight = weight }

on_moments : (ends : List ℤ) (patrols : ℕ) (d : ℤ) (chosen : List ℕ) (play : List ℕ)
    → weight_on (tickets_at ends patrols d chosen) play ≡ total (λ i. cond (bytes_eq (play_at ends patrols d (pos i)) play) (pos 1) (pos 0)) chosen
on_moments ends patrols d chosen play =
    total-map (λ (x : Ticket). cond (bytes_eq x.play.code play) x.weight (pos 0)) (λ (i : ℕ). ticket_of (play_at ends patrols d (pos i)) (pos 1)) chosen

-- one more ticket, for n moments that have the same play
pub mix-more : (ends : List ℤ) (patrols : ℕ) (d : ℤ) (tickets : List Ticket) (a n : ℕ) (code : List ℕ)
    → AreOneMix tickets (tickets_at ends patrols d (numbers_from 0 a)) → ((i : ℕ) → a ≤ i → i < a + n → play_at ends patrols d (pos i) ≡ code)
    → AreOneMix (tickets ++ ticket_of code (pos n) ∷ []) (tickets_at ends patrols d (numbers_from 0 (a + n)))
mix-more ends patrols d tickets a n code mix same = λ play.
    let on = λ (x : Ticket). cond (bytes_eq x.play.code play) x.weight (pos 0) in
    let f = λ (i : ℕ). cond (bytes_eq (play_at ends patrols d (pos i)) play) (pos 1) (pos 0) in
    let left : weight_on (tickets ++ ticket_of code (pos n) ∷ []) play ≡ weight_on tickets play +ℤ cond (bytes_eq code play) (pos n) (pos 0) =
    total-append on tickets (ticket_of code (pos n) ∷ []) ∙ omega (arith, ints) in
    let all : weight_on (tickets_at ends patrols d (numbers_from 0 (a + n))) play ≡ total f (numbers_from 0 (a + n)) = on_moments ends patrols d (numbers_from 0 (a + n)) play in
    let old : weight_on (tickets_at ends patrols d (numbers_from 0 a)) play ≡ total f (numbers_from 0 a) = on_moments ends patrols d (numbers_from 0 a) play in
    let parts : total f (numbers_from 0 (a + n)) ≡ total f (numbers_from 0 a) +ℤ total f (numbers_from (0 + a) n) =
    ap (λ (xs : List ℕ). total f xs) (numbers_from-append 0 a n) ∙ total-append f (numbers_from 0 a) (numbers_from (0 + a) n) in
    let new : total f (numbers_from (0 + a) n) ≡ cond (bytes_eq code play) (pos n) (pos 0) =
    total-constant f (bytes_eq code play) (0 + a) n (λ i low high. ap (λ (c : List ℕ). cond (bytes_eq c play) (pos 1) (pos 0)) (same i (omega (arith, low)) (omega (arith, high)))) in
    omega (arith, ints, left, all, old, parts, new, mix play)
