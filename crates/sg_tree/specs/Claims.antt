-- What a report may say of its tickets.
use Rattle.std.specs.Prelude.{◌≡◌, ℕ, ℤ, pos, All, Bool, true, not, ◌&&◌, ◌==◌, int_le, List, [], ◌∷◌, length}
use Rattle.std.specs.List.{list_all}
use Rattle.sg_model.specs.declared.ticket.Ticket.{Ticket}
use Rattle.sg_model.specs.Orders.{is_before}

-- tickets and the total that is stated of them
pub record Claimed : Type 0 where
  pub tickets : List Ticket
  pub total : ℤ

-- whether a list of choices is as long as another and comes before it in the order of lists
abbrev pub comes_before : List ℕ → List ℕ → Bool
comes_before before after = length before == length after && is_before before after

-- whether each list of choices comes before the next
abbrev pub is_claim_rising : List Ticket → Bool
is_claim_rising [] = true
is_claim_rising (t ∷ []) = true
is_claim_rising (t ∷ u ∷ ts) = comes_before t.play.code u.play.code && is_claim_rising (u ∷ ts)

-- whether all weights are at least 1
abbrev pub are_positive : List Ticket → Bool
are_positive ts = list_all (λ t. int_le (pos 1) t.weight) ts

-- whether there is a ticket, all weights are at least 1, and the lists of choices rise
abbrev pub is_claim : List Ticket → Bool
is_claim ts = not (length ts == 0) && (are_positive ts && is_claim_rising ts)

-- all lists of choices have one length
abbrev pub HaveOneLength : List Ticket → Type 0
HaveOneLength ts = (n : ℕ) × All (λ (t : Ticket). length t.play.code ≡ n) ts
