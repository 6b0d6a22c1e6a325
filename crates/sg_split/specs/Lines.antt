-- The line of patrols as the program holds it, and the tickets laid so far.
use Rattle.std.specs.Prelude.{◌≡◌, ℕ, ◌+◌, ◌-◌, ◌^◌, ◌<◌, ◌≤◌, ◌⊎◌, List, map, length, ℤ, pos, ◌+ℤ◌, ◌*ℤ◌, ◌≤ℤ◌, ◌<ℤ◌, All, IsPermutation, slice_index_or, unsigned_abs}
use Rattle.sg_model.specs.declared.ticket.Ticket.{Ticket}
use Rattle.sg_model.specs.Sums.{numbers_from}
use Rattle.sg_model.specs.OptimalityLaws.{AreOneMix}
use Rattle.sg_split.specs.declared.line.Line.{Line}
use Rattle.sg_split.specs.declared.line.Standing.{Standing}
use Rattle.sg_split.specs.declared.place.Place.{Place}
use Rattle.sg_split.specs.Laying.{play_at, tickets_at}

-- a place as a number: the places of the patrols before, and the moment
abbrev pub spot : ℤ → Place → ℤ
spot moments place = pos place.patrol *ℤ moments +ℤ place.moment

-- one of so many moments, from 0
pub record IsMoment (moments moment : ℤ) : Type 0 where
  pub low : pos 0 ≤ℤ moment
  pub high : moment <ℤ moments

-- a moment, and ends at such, fewer than a choice can name
pub record IsLine (line : Line) : Type 0 where
  pub positive : pos 1 ≤ℤ line.moments
  pub each : All (λ (end : Place). IsMoment line.moments end.moment) line.ends
  pub few : length line.ends < 2 ^ 16 - 1

-- the ends as numbers
abbrev pub spots : Line → List ℤ
spots line = map (spot line.moments) line.ends

-- no end before that of a choice is past the place, and no end at all where the choice is 0
abbrev pub IsBehind : List ℤ → ℕ → ℤ → Type 0
IsBehind ends choice place = (k : ℕ) → k < length ends → (choice ≡ 0) ⊎ (k + 1 < choice) → slice_index_or ends k (pos 0) ≤ℤ place

-- the moments of ends, in rising order
pub record AreCuts (ends : List Place) (cuts : List ℤ) : Type 0 where
  pub same : IsPermutation (map (λ (end : Place). end.moment) ends) cuts
  pub rising : (i j : ℕ) → i ≤ j → j < length cuts → slice_index_or cuts i (pos 0) ≤ℤ slice_index_or cuts j (pos 0)

-- no end lies between two moments
abbrev pub IsApart : List Place → ℤ → ℤ → Type 0
IsApart ends from to = All (λ (end : Place). (end.moment ≤ℤ from) ⊎ (to ≤ℤ end.moment)) ends

-- tickets that are, as one mix, those of the first moments, as many as the number says
pub record AreUpTo (line : Line) (moment : ℤ) (tickets : List Ticket) : Type 0 where
  pub mix : AreOneMix tickets (tickets_at (spots line) line.patrols line.moments (numbers_from 0 (unsigned_abs moment)))
  pub positive : All (λ (x : Ticket). pos 1 ≤ℤ x.weight) tickets

-- tickets up to the moment of the play that stands last
pub record IsLaid (line : Line) (tickets : List Ticket) (last : Standing) : Type 0 where
  pub moment : IsMoment line.moments last.moment
  pub code : last.code ≡ play_at (spots line) line.patrols line.moments last.moment
  pub up_to : AreUpTo line last.moment tickets
