-- The document that spells the parts of a game, and the one that spells a game.
use Rattle.std.specs.Prelude.{ℕ, if◌then◌else◌, List, map, ℤ, pos, Option, Some, None, string_bytes, codes}
use Rattle.toml.specs.Data.{Data, Members}
use Rattle.sg_model.specs.declared.kind.Kind.{Kind}
use Rattle.sg_model.specs.declared.kind.Kind.TheVariants.{Security, Matrix}
use Rattle.sg_model.specs.Games.{Attacker, Game, Named}
use Rattle.sg_model.specs.Limits.{is_scaled}
use Rattle.sg_game.specs.declared.parts.Parts.{Parts}
use Rattle.sg_game.specs.declared.parts.ListParts.{ListParts}
use Rattle.sg_game.specs.declared.parts.TypeParts.{TypeParts}
use Rattle.sg_game.specs.Counts.{four}
use Rattle.sg_game.specs.Seen.{number_lists, texts}
use Rattle.sg_format.specs.FaultExamples.{listed}
use Rattle.sg_document_laws.specs.Tables.{matrix_table, matrix_type, named_data, names_data, patrols_table, resources_table, security_type}

-- the table of a schedule or a resource of parts
abbrev pub named_part : List ℕ → List (List ℕ) → ListParts → Data
named_part key names x = named_data key names (string_bytes x.name) x.members.items

-- the schedules of parts, whose members number targets
abbrev pub schedule_parts : Parts → Data
schedule_parts p = listed (map (named_part (codes "targets") (texts p.goals.items)) p.schedules.items)

-- the resources of parts, whose members number schedules
abbrev pub resource_parts : Parts → Data
resource_parts p = listed (map (named_part (codes "schedules") (map (λ (x : ListParts). string_bytes x.name) p.schedules.items)) p.resources.items)

-- the table of a type of parts, with the keys of its form
abbrev pub type_part : Kind → TypeParts → Data
type_part Security x = security_type (string_bytes x.name) x.prior (number_lists x.payoffs.items)
type_part Matrix x = matrix_type (string_bytes x.name) x.prior (texts x.actions.items) (number_lists x.leader.items) (number_lists x.follower.items)

-- the types of parts
abbrev pub type_parts : Kind → Parts → Data
type_parts kind p = listed (map (type_part kind) p.types.items)

-- the document of parts of this form, with a number of patrols or without
abbrev pub table_by : Kind → Option ℤ → Parts → Members
table_by Security (Some patrols) p = patrols_table p.scale patrols (names_data (texts p.goals.items)) (type_parts Security p)
table_by Security None p = resources_table p.scale (names_data (texts p.goals.items)) (schedule_parts p) (resource_parts p) (type_parts Security p)
table_by Matrix patrols p = matrix_table (names_data (texts p.goals.items)) (type_parts Matrix p)

-- the document that spells the parts
abbrev pub parts_table : Parts → Members
parts_table p = table_by p.kind p.patrols p

-- the table of a schedule or a resource of a game
abbrev pub named_entry : List ℕ → List (List ℕ) → Named → Data
named_entry key names x = named_data key names x.name x.members

-- the schedules of a game, whose members number targets
abbrev pub schedule_entries : Game → Data
schedule_entries g = listed (map (named_entry (codes "targets") g.goals) g.schedules)

-- the resources of a game, whose members number schedules
abbrev pub resource_entries : Game → Data
resource_entries g = listed (map (named_entry (codes "schedules") (map (λ (x : Named). x.name) g.schedules)) g.resources)

-- the table of a type of a game, with the keys of its form
abbrev pub type_entry : Kind → Attacker → Data
type_entry Security x = security_type x.name x.prior (map four x.payoffs)
type_entry Matrix x = matrix_type x.name x.prior x.actions x.leader x.follower

-- the types of a game
abbrev pub type_entries : Kind → Game → Data
type_entries kind g = listed (map (type_entry kind) g.types)

-- the scale that a game declares
abbrev pub declared_scale : Game → Option ℤ
declared_scale g = if is_scaled g then Some g.scale else None

-- the document of a game of this form, with a number of patrols or without
abbrev pub game_table_by : Kind → Option ℕ → Game → Members
game_table_by Security (Some patrols) g = patrols_table (declared_scale g) (pos patrols) (names_data g.goals) (type_entries Security g)
game_table_by Security None g = resources_table (declared_scale g) (names_data g.goals) (schedule_entries g) (resource_entries g) (type_entries Security g)
game_table_by Matrix patrols g = matrix_table (names_data g.goals) (type_entries Matrix g)

-- the document that spells a game
abbrev pub game_table : Game → Members
game_table g = game_table_by g.kind g.patrols g
