-- What the first fault of a commitment's parts says of them, whatever way it was found.
use Rattle.std.specs.Prelude.{◌≡◌, ◌≢◌, ℕ, false, true, List, [], ◌∷◌, ◌++◌, length, pos, ◌+ℤ◌, ◌≤ℤ◌, All, Option, Some, None}
use Rattle.sg_model.specs.declared.ticket.Ticket.{Ticket}
use Rattle.sg_model.specs.Commitments.{weight_total}
use Rattle.sg_num.specs.declared.step.Op.TheVariants.{Sum}
use Rattle.sg_num.specs.declared.step.Wide.{Wide}
use Rattle.sg_num.specs.Exact.{fits}
use Rattle.sg_commit.specs.declared.parts.PartFault.{PartFault}
use Rattle.sg_commit.specs.declared.parts.PartFault.TheVariants.{Empty, NotPositive, Wide as SumWide}
use Rattle.sg_commit.specs.Parts.{part_fault}

-- each part has a weight of at least 1
abbrev pub AreHeavy : List Ticket → Type 0
AreHeavy parts = All (λ (x : Ticket). pos 1 ≤ℤ x.weight) parts

-- the sum of the weights of each front of the parts lies in 128 bits
abbrev pub FrontsFit : List Ticket → Type 0
FrontsFit parts = (front back : List Ticket) → parts ≡ front ++ back → fits (weight_total front) ≡ true

-- a part has a weight below 1, each one before it a weight of at least 1, and so many stand before it
pub record IsFirstLight (parts : List Ticket) (place : ℕ) : Type 0 where
  pub early : List Ticket
  pub part : Ticket
  pub late : List Ticket
  pub parted : parts ≡ early ++ part ∷ late
  pub place_is : place ≡ length early
  pub light : part.weight ≤ℤ pos 0
  pub before : AreHeavy early

-- the sum of a front and the next weight leave 128 bits when they are added, and no sum of a shorter front does
pub record IsFirstWide (parts : List Ticket) (wide : Wide) : Type 0 where
  pub early : List Ticket
  pub part : Ticket
  pub late : List Ticket
  pub parted : parts ≡ early ++ part ∷ late
  pub operation : wide ≡ record { op = Sum; left = weight_total early; right = part.weight }
  pub leaves : fits (weight_total early +ℤ part.weight) ≡ false
  pub before : FrontsFit early

-- there is no part; else a weight below 1 comes before a sum that doesn't fit; else there is no fault
abbrev pub Says : List Ticket → Option PartFault → Type 0
Says parts (Some Empty) = parts ≡ []
Says parts (Some (NotPositive place)) = IsFirstLight parts place
Says parts (Some (SumWide wide)) = AreHeavy parts × IsFirstWide parts wide
Says parts None = (parts ≢ []) × AreHeavy parts × FrontsFit parts

abbrev pub PartFaultsSay : Type 0
PartFaultsSay = (parts : List Ticket) → Says parts (part_fault parts)
