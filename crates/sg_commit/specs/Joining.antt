-- How parts become the tickets of a commitment: equal plays joined, weights divided.
use Rattle.std.specs.Prelude.{ℕ, List, [], ◌∷◌, ◌++◌, take, drop, slice_index_or, pos, ◌+ℤ◌, All, bytes_eq, if◌then◌else◌, unsigned_abs}
use Rattle.std.specs.Int.{◌∣◌}
use Rattle.sg_model.specs.declared.ticket.Ticket.{Ticket}

-- what stands where there is no ticket
abbrev pub no_ticket : Ticket
no_ticket = record { play = record { code = [] }; weight = pos 0 }

-- the first ticket takes the weights of those of the same play that follow it, and so does each that is left
abbrev pub join_onto : Ticket → List Ticket → List Ticket
join_onto x [] = x ∷ []
join_onto x (y ∷ ys) =
    if bytes_eq x.play.code y.play.code then join_onto (record x { weight = x.weight +ℤ y.weight }) ys
    else x ∷ join_onto y ys

-- tickets of one play that stand beside each other, joined into one
abbrev pub joined : List Ticket → List Ticket
joined [] = []
joined (x ∷ xs) = join_onto x xs

-- the greatest number that divides all weights
pub record IsCommonDivisor (k : List Ticket) (d : ℕ) : Type 0 where
  pub divides : All (λ (x : Ticket). d ∣ unsigned_abs x.weight) k
  pub greatest : (e : ℕ) → All (λ (x : Ticket). e ∣ unsigned_abs x.weight) k → e ∣ d

-- with the tickets up to place last joined, and those from place next on not looked at: all of them
abbrev pub standing : List Ticket → ℕ → ℕ → List Ticket
standing k last next = take last k ++ slice_index_or k last no_ticket ∷ drop next k

-- and what comes of them
abbrev pub outcome : List Ticket → ℕ → ℕ → List Ticket
outcome k last next = take last k ++ join_onto (slice_index_or k last no_ticket) (drop next k)
