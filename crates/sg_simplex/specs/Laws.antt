-- What holds of all turns.
use Rattle.std.specs.Prelude.{◌≡◌, ℕ}
use Rattle.sg_lp.specs.Programs.{Program}
use Rattle.sg_lp.specs.States.{IsTableau, Tableau}
use Rattle.sg_simplex.specs.declared.turn.Turn.{Turn}
use Rattle.sg_simplex.specs.Turns.{HasCause, Pricer}

-- the causes of two different answers exclude each other: a turn has one answer, and where nothing changed a later turn has the same
abbrev pub CauseIsOne : Type 0
CauseIsOne = (p : Program) (price : Pricer) (t : Tableau) (steps pivots looks : ℕ) (a b : Turn) → IsTableau p t → HasCause p price t steps pivots looks a → HasCause p price t steps pivots looks b → a ≡ b
