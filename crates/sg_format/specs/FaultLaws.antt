-- Refusals of bytes that are no document, of another version, and of a list for a fault of its own.
use Rattle.std.specs.Prelude.{◌≡◌, ◌≢◌, ◌⊎◌, ℕ, false, List, ℤ, pos, Some, None, Ok, Err, codes}
use Rattle.std.specs.Str.{is_utf8}
use Rattle.toml.specs.Data.{Data, Members, get_member, integer}
use Rattle.toml.specs.Parse.{parse_document}
use Rattle.sg_model.specs.declared.fault.Place.TheVariants.{Document}
use Rattle.sg_model.specs.declared.fault.GameFault.{GameFault}
use Rattle.sg_model.specs.Games.{Game}
use Rattle.sg_format.specs.Steps.{refused}
use Rattle.sg_model.specs.declared.reason.TheConstants.{NOT_TOML, BAD_VERSION}
use Rattle.sg_format.specs.GameFiles.{game_of_bytes, game_of_table}
use Rattle.sg_format.specs.Changes.{DiffersAt, list_fault}

-- bytes that are no UTF-8, or no TOML document
abbrev pub NotTomlIsRefused : Type 0
NotTomlIsRefused = (bytes : List ℕ) → (is_utf8 bytes ≡ false) ⊎ (parse_document bytes ≡ None) → game_of_bytes bytes ≡ refused NOT_TOML Document

-- a document whose version is another integer than 1
abbrev pub OtherVersionIsRefused : Type 0
OtherVersionIsRefused = (table : Members) (z : ℤ) → get_member (codes "version") table ≡ Some (integer z) → z ≢ pos 1 → game_of_table table ≡ refused BAD_VERSION Document

-- the document of a game with another list of targets, rows, schedules, resources or types, which has a fault of its own
abbrev pub FaultyListIsRefused : Type 0
FaultyListIsRefused = (table other : Members) (g : Game) (key : List ℕ) (value : Data) (fault : GameFault) → game_of_table table ≡ Ok g
    → DiffersAt key (Some value) table other → list_fault g.kind g.patrols g key value ≡ Some fault → game_of_table other ≡ Err fault
