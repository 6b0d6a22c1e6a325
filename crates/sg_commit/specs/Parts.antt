-- What parts give: their first fault, or the commitment that gives each play its share.
use Rattle.std.specs.Prelude.{ℕ, ◌+◌, List, [], ◌∷◌, ℤ, pos, ◌≤ℤ◌, int_le, if◌then◌else◌, Option, Some, None, Result, Ok, Err}
use Rattle.sg_model.specs.declared.ticket.Ticket.{Ticket}
use Rattle.sg_model.specs.Commitments.{scaled}
use Rattle.sg_model.specs.OptimalityLaws.{AreOneMix}
use Rattle.sg_num.specs.declared.step.Wide.{Wide}
use Rattle.sg_num.specs.Exact.{exact_sum, and_then}
use Rattle.sg_commit.specs.declared.parts.PartFault.{PartFault}
use Rattle.sg_commit.specs.declared.parts.PartFault.TheVariants.{Empty, NotPositive, Wide as SumWide}

-- the place of the first weight below 1, where the first place is i
abbrev pub first_below : ℕ → List Ticket → Option ℕ
first_below i [] = None
first_below i (x ∷ xs) = if int_le (pos 1) x.weight then first_below (i + 1) xs else Some i

-- acc and the weights, added one after the other: the sum, or the first sum that doesn't fit
abbrev pub exact_total : ℤ → List Ticket → Result ℤ Wide
exact_total acc [] = Ok acc
exact_total acc (x ∷ xs) = and_then (exact_sum acc x.weight) (λ next. exact_total next xs)

-- the fault of some parts, from the place of the first weight below 1 and the sum: that weight, then a sum that doesn't fit
abbrev pub fault_from : Option ℕ → Result ℤ Wide → Option PartFault
fault_from (Some i) sum = Some (NotPositive i)
fault_from None (Err wide) = Some (SumWide wide)
fault_from None (Ok sum) = None

-- the first fault of parts: that there is none of them, then those of some parts
abbrev pub part_fault : List Ticket → Option PartFault
part_fault [] = Some Empty
part_fault (x ∷ xs) = fault_from (first_below 0 (x ∷ xs)) (exact_total (pos 0) (x ∷ xs))

-- the parts are the tickets with all weights multiplied by one number of at least 1, joined and in another order
abbrev pub AreMultiple : List Ticket → List Ticket → Type 0
AreMultiple parts k = (c : ℤ) × (pos 1 ≤ℤ c) × AreOneMix parts (scaled c k)
