-- Which events may happen, that there is a list of the choices, and that each lane is told.
use Rattle.std.specs.Prelude.{◌≡◌, ◌↔◌, ℕ, List, true, false}
use Rattle.sg_tree.specs.declared.fix.Fix.{Fix}
use Rattle.sg_search.specs.declared.event.Event.TheVariants.{Begin, Turn, Finish}
use Rattle.sg_search.specs.declared.event.Ready.{Ready}
use Rattle.sg_search.specs.Searches.{Task, Search}
use Rattle.sg_search.specs.Changes.{Holds, IsStill, MayBegin}
use Rattle.sg_search.specs.Events.{AreChoices, IsChoice, IsEnabled, IsEnd, MayChoose, Tells}

-- what stands behind each event of a lane: it begins where it may and the number names a choice, and turns and finishes where it holds a node whose program goes on, or has ended
pub record AreCauses (p : Task) (s : Search) (lane : ℕ) : Type 0 where
  pub begin : (n : ℕ) → IsEnabled p s (Begin lane n) ↔ (MayBegin p s lane × ((node : Fix) × IsChoice p s n node))
  pub turn : IsEnabled p s (Turn lane) ↔ ((node : Fix) × Holds s lane node false)
  pub finish : IsEnabled p s (Finish lane) ↔ ((node : Fix) × Holds s lane node true)

abbrev pub EnabledMeans : Type 0
EnabledMeans = (p : Task) (s : Search) (lane : ℕ) → AreCauses p s lane

-- there is a list of exactly the nodes that may be chosen
abbrev pub ChoicesAreThere : Type 0
ChoicesAreThere = (p : Task) (s : Search) → (nodes : List Fix) × AreChoices (MayChoose p s) nodes

-- there is an answer for each lane
abbrev pub LanesAreTold : Type 0
LanesAreTold = (p : Task) (s : Search) (lane : ℕ) → (ready : Ready) × Tells p s lane ready

-- and no other
abbrev pub ToldOnce : Type 0
ToldOnce = (p : Task) (s : Search) (lane : ℕ) (a b : Ready) → Tells p s lane a → Tells p s lane b → a ≡ b

-- where no event is enabled, no change may happen
abbrev pub EndIsStill : Type 0
EndIsStill = (p : Task) (s : Search) → IsEnd p s → IsStill p s
