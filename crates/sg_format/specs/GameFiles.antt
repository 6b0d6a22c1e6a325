-- Which bytes are a game file, and of which game: the game, or the first reason for which they are none, with its place.
use Rattle.std.specs.Prelude.{ℕ, ◌^◌, ◌==◌, Bool, false, not, ◌&&◌, ◌||◌, nat_le, ℤ, pos, negsuc, int_lt, int_rem, List, [], length, Option, Some, None, is_some, unwrap_or, Result, Ok, codes, bytes_eq, if◌then◌else◌}
use Rattle.std.specs.List.{list_all}
use Rattle.toml.specs.Data.{Data, Members, get_member}
use Rattle.sg_model.specs.declared.limit.TheConstants.{PATROL_LIMIT, PROGRAM_ROW_LIMIT, ROW_LIMIT, SCALED_PATROL_LIMIT, SCALED_TARGET_LIMIT, SCALE_LIMIT, TARGET_LIMIT}
use Rattle.sg_model.specs.declared.fault.Place.TheVariants as place_of
use Rattle.sg_model.specs.declared.fault.GameFault.{GameFault}
use Rattle.sg_model.specs.declared.kind.Kind.{Kind}
use Rattle.sg_model.specs.declared.kind.Kind.TheVariants.{Security, Matrix}
use Rattle.sg_model.specs.Games.{Payoff, Attacker, Game}
use Rattle.sg_model.specs.Limits.{program_rows}
use Rattle.sg_model.specs.Origami.{gap}
use Rattle.sg_model.specs.Steps.{◌>>=◌}
use Rattle.sg_model.specs.Sums.{positive_part}
use Rattle.sg_format.specs.Steps.{needed, passed}
use Rattle.sg_model.specs.declared.reason.TheConstants.{BAD_VERSION, MISSING_KEY, UNKNOWN_KEY, OUT_OF_RANGE, TOO_LARGE, BAD_SCALE}
use Rattle.sg_format.specs.Documents.{document_of, has_only, needed_at, integer_at, text_at, number_at}
use Rattle.sg_format.specs.Lists.{names_at, schedules_at, resources_at}
use Rattle.sg_format.specs.Types.{security_types_at, matrix_types_at}

-- the number is 1
abbrev pub is_one : ℤ → Bool
is_one (pos n) = n == 1
is_one (negsuc n) = false

-- the version is 1
unfoldable pub version_of : Members → Result (Unit {0}) GameFault
version_of table = do
  value ← needed_at place_of.Document (codes "version") table
  version ← integer_at place_of.Document value
  passed (is_one version) BAD_VERSION place_of.Document

-- the form that a text names
abbrev pub kind_of : List ℕ → Option Kind
kind_of text = if bytes_eq text (codes "security") then Some Security else if bytes_eq text (codes "matrix") then Some Matrix else None

-- the form of the game
unfoldable pub form_of : Members → Result Kind GameFault
form_of table = do
  value ← needed_at place_of.Document (codes "form") table
  text ← text_at place_of.Document value
  needed (kind_of text) OUT_OF_RANGE place_of.Document

-- the top keys of a game of identical patrols
abbrev pub is_patrols_key : List ℕ → Bool
is_patrols_key key = bytes_eq key (codes "version") || bytes_eq key (codes "form") || bytes_eq key (codes "targets")
    || bytes_eq key (codes "scale") || bytes_eq key (codes "patrols") || bytes_eq key (codes "type")

-- the top keys of a game of listed resources; a scale is a known key, though it asks for patrols
abbrev pub is_resources_key : List ℕ → Bool
is_resources_key key = bytes_eq key (codes "version") || bytes_eq key (codes "form") || bytes_eq key (codes "targets")
    || bytes_eq key (codes "scale") || bytes_eq key (codes "schedule") || bytes_eq key (codes "resource") || bytes_eq key (codes "type")

-- the top keys of a game in matrix form
abbrev pub is_matrix_key : List ℕ → Bool
is_matrix_key key = bytes_eq key (codes "version") || bytes_eq key (codes "form") || bytes_eq key (codes "rows") || bytes_eq key (codes "type")

-- the declared scale, from 1 to 2^32, where there is one
unfoldable pub scale_at : Option Data → Result (Option ℤ) GameFault
scale_at None = Ok None
scale_at (Some value) = do
  scale ← number_at place_of.Document (pos 1) SCALE_LIMIT value
  Ok (Some scale)

-- the number is 0
abbrev pub is_zero : ℤ → Bool
is_zero (pos n) = n == 0
is_zero (negsuc n) = false

-- covering the target helps the defender and hurts the attacker, and the attacker's gap divides the scale
abbrev pub fits_scale : ℤ → Payoff → Bool
fits_scale scale p = int_lt p.du p.dc && int_lt p.ac p.au && is_zero (int_rem scale (gap p))

-- with a scale, the payoffs fit it; without one, the game's linear program isn't too large
unfoldable pub limits_of : Game → Bool → Result (Unit {0}) GameFault
limits_of g scaled =
    if scaled then passed (list_all (λ (x : Attacker). list_all (fits_scale g.scale) x.payoffs) g.types) BAD_SCALE (place_of.Attacker 1)
    else passed (nat_le (program_rows g) PROGRAM_ROW_LIMIT) TOO_LARGE place_of.Document

-- a game of identical patrols, whose number is given
unfoldable pub patrols_game : Data → Members → Result Game GameFault
patrols_game given table = do
  keys ← passed (has_only is_patrols_key table) UNKNOWN_KEY place_of.Document
  listed ← needed_at place_of.Document (codes "targets") table
  attackers ← needed_at place_of.Document (codes "type") table
  let declared = get_member (codes "scale") table
  let scaled = is_some declared
  targets ← names_at place_of.Document place_of.Target (if scaled then SCALED_TARGET_LIMIT else TARGET_LIMIT) listed
  scale ← scale_at declared
  patrols ← number_at place_of.Document (pos 0) (pos (if scaled then SCALED_PATROL_LIMIT else PATROL_LIMIT)) given
  types ← security_types_at scaled (length targets) attackers
  let g : Game = record {
    kind = Security;
    scale = unwrap_or scale (pos 0);
    patrols = Some (positive_part patrols);
    goals = targets;
    schedules = [];
    resources = [];
    types = types;
  }
  within ← limits_of g scaled
  Ok g

-- a game of listed schedules and resources, from the values of its targets, schedules, resources and types
unfoldable pub listed_game : Data → Data → Data → Data → Result Game GameFault
listed_game listed given manned attackers = do
  targets ← names_at place_of.Document place_of.Target TARGET_LIMIT listed
  schedules ← schedules_at targets given
  resources ← resources_at schedules manned
  types ← security_types_at false (length targets) attackers
  let g : Game = record {
    kind = Security;
    scale = pos 0;
    patrols = None;
    goals = targets;
    schedules = schedules;
    resources = resources;
    types = types;
  }
  within ← limits_of g false
  Ok g

-- a game of listed schedules and resources
unfoldable pub resources_game : Members → Result Game GameFault
resources_game table = do
  keys ← passed (has_only is_resources_key table) UNKNOWN_KEY place_of.Document
  listed ← needed_at place_of.Document (codes "targets") table
  unscaled ← passed (not (is_some (get_member (codes "scale") table))) MISSING_KEY place_of.Document
  given ← needed_at place_of.Document (codes "schedule") table
  manned ← needed_at place_of.Document (codes "resource") table
  attackers ← needed_at place_of.Document (codes "type") table
  listed_game listed given manned attackers

-- a game in security form: of identical patrols where their number is given
abbrev pub security_game : Option Data → Members → Result Game GameFault
security_game (Some given) table = patrols_game given table
security_game None table = resources_game table

-- a game in matrix form
unfoldable pub matrix_game : Members → Result Game GameFault
matrix_game table = do
  keys ← passed (has_only is_matrix_key table) UNKNOWN_KEY place_of.Document
  listed ← needed_at place_of.Document (codes "rows") table
  attackers ← needed_at place_of.Document (codes "type") table
  rows ← names_at place_of.Document place_of.Row ROW_LIMIT listed
  types ← matrix_types_at (length rows) attackers
  let g : Game = record {
    kind = Matrix;
    scale = pos 0;
    patrols = None;
    goals = rows;
    schedules = [];
    resources = [];
    types = types;
  }
  within ← limits_of g false
  Ok g

-- a game of this form
abbrev pub game_of_form : Kind → Members → Result Game GameFault
game_of_form Security table = security_game (get_member (codes "patrols") table) table
game_of_form Matrix table = matrix_game table

-- the game of a document's top table
unfoldable pub game_of_table : Members → Result Game GameFault
game_of_table table = do
  version ← version_of table
  kind ← form_of table
  game_of_form kind table

-- the game of a file's bytes, or the first reason for which they are none
unfoldable pub game_of_bytes : List ℕ → Result Game GameFault
game_of_bytes bytes = document_of bytes >>= game_of_table
