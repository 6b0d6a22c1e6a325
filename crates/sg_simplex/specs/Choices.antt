-- What enters at a state.
use Rattle.std.specs.Prelude.{ℕ}
use Rattle.sg_lp.specs.Programs.{Program}
use Rattle.sg_lp.specs.Pricing.{spent, wide}
use Rattle.sg_lp.specs.States.{Tableau}
use Rattle.sg_simplex.specs.declared.choosing.Choice.{Choice}
use Rattle.sg_simplex.specs.declared.choosing.Choice.TheVariants.{Enters, Ends}
use Rattle.sg_simplex.specs.declared.turn.Turn.{Turn}
use Rattle.sg_simplex.specs.declared.turn.Turn.TheVariants as turn
use Rattle.sg_simplex.specs.Turns.{EntersBy, IsAtEnd, IsPriced, Pricer}

-- what pricing ends a node with
abbrev pub EndsWith : Program → Pricer → Tableau → ℕ → Turn → Type 0
EndsWith p price t looks turn.Moved = ⊥
EndsWith p price t looks turn.PivotsSpent = ⊥
EndsWith p price t looks turn.Done = IsAtEnd p price t looks
EndsWith p price t looks turn.LooksSpent = IsPriced price t looks spent
EndsWith p price t looks (turn.Wide name w) = IsPriced price t looks (wide name w)

-- a member enters, or pricing ends the node
abbrev pub Chooses : Program → Pricer → Tableau → ℕ → Choice → Type 0
Chooses p price t looks (Enters s) = EntersBy p price t looks s
Chooses p price t looks (Ends e) = EndsWith p price t looks e
