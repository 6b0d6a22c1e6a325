-- That the parts of a game and the document that spells them have the same first fault.
use Rattle.std.specs.Prelude.{◌≡◌, Option, Some, None, Result, Ok, Err}
use Rattle.sg_model.specs.declared.fault.GameFault.{GameFault}
use Rattle.sg_game.specs.declared.parts.Parts.{Parts}
use Rattle.sg_game.specs.Building.{HasOwnFields}
use Rattle.sg_game.specs.Faults.{fault_of}
use Rattle.sg_game.specs.Seen.{game_of}
use Rattle.sg_format.specs.GameFiles.{game_of_table}
use Rattle.sg_document_laws.specs.Documents.{parts_table}

-- the fault where there is one, else this value
abbrev pub told : {A : Type 0} → Option GameFault → A → Result A GameFault
told (Some fault) x = Err fault
told None x = Ok x

-- the document that spells the parts is refused for the first rule that they break, and else is that of their game
abbrev pub DocumentOfParts : Type 0
DocumentOfParts = (p : Parts) → HasOwnFields p → game_of_table (parts_table p) ≡ told (fault_of p) (game_of p)
