-- The canonical text of a game: the bytes that are written for it.
use Rattle.std.specs.Prelude.{ℕ, Bool, not, ◌&&◌, if◌then◌else◌, List, [], ◌∷◌, ◌++◌, map, flat_map, ℤ, Option, Some, None, is_none, codes, decimal}
use Rattle.std.specs.Fmt.{signed_decimal}
use Rattle.sg_model.specs.declared.kind.Kind.{Kind}
use Rattle.sg_model.specs.declared.kind.Kind.TheVariants.{Security, Matrix}
use Rattle.sg_model.specs.Sums.{nth}
use Rattle.sg_model.specs.Games.{Payoff, Attacker, Named, Game, is_matrix}
use Rattle.sg_model.specs.Limits.{is_scaled}

-- a line that gives a key its value
abbrev pub key_line : List ℕ → List ℕ → List ℕ
key_line key value = key ++ (codes " = " ++ (value ++ codes "\n"))

-- the head of a table in an array of tables, after an empty line
abbrev pub head : List ℕ → List ℕ
head key = codes "\n[[" ++ (key ++ codes "]]\n")

-- a name, in double quotes
abbrev pub quoted : List ℕ → List ℕ
quoted name = codes "\"" ++ (name ++ codes "\"")

-- texts with a comma and a space between each two
abbrev pub comma_joined : List (List ℕ) → List ℕ
comma_joined [] = []
comma_joined (first ∷ rest) = first ++ flat_map (λ item. codes ", " ++ item) rest

-- an array of items
abbrev pub array : List (List ℕ) → List ℕ
array items = codes "[" ++ (comma_joined items ++ codes "]")

-- an array of names
abbrev pub names_array : List (List ℕ) → List ℕ
names_array names = array (map quoted names)

-- an array of payoffs
abbrev pub pays_array : List ℤ → List ℕ
pays_array pays = array (map signed_decimal pays)

-- an array of arrays of payoffs
abbrev pub table_array : List (List ℤ) → List ℕ
table_array rows = array (map pays_array rows)

-- the four payoffs at a target: defender covered and uncovered, attacker covered and uncovered
abbrev pub four_pays : Payoff → List ℤ
four_pays p = p.dc ∷ p.du ∷ p.ac ∷ p.au ∷ []

-- the name of a form
abbrev pub form_name : Kind → List ℕ
form_name Security = codes "security"
form_name Matrix = codes "matrix"

-- the key of the targets or the rows
abbrev pub goals_key : Kind → List ℕ
goals_key Security = codes "targets"
goals_key Matrix = codes "rows"

-- the line of the scale, where one is declared
abbrev pub scale_line : Game → List ℕ
scale_line g = if is_scaled g then key_line (codes "scale") (signed_decimal g.scale) else []

-- the line of the patrols, where their number is given
abbrev pub patrols_line : Option ℕ → List ℕ
patrols_line (Some n) = key_line (codes "patrols") (decimal n)
patrols_line None = []

-- the lines of the top keys whose values are no tables
abbrev pub top_lines : Game → List ℕ
top_lines g =
    key_line (codes "version") (codes "1")
    ++ (key_line (codes "form") (quoted (form_name g.kind))
    ++ (scale_line g
    ++ (patrols_line g.patrols
    ++ key_line (goals_key g.kind) (names_array g.goals))))

-- whether the game lists its schedules and its resources
abbrev pub is_listed : Game → Bool
is_listed g = not (is_matrix g) && is_none g.patrols

-- the line of a list of tables that has none
abbrev pub empty_line : List ℕ → List Named → List ℕ
empty_line key [] = key_line key (codes "[]")
empty_line key (first ∷ rest) = []

-- the lines of the lists of tables that have none
abbrev pub empty_lines : Game → List ℕ
empty_lines g = if is_listed g then empty_line (codes "schedule") g.schedules ++ empty_line (codes "resource") g.resources else []

-- the table of a schedule or a resource, whose members are named by what they number
abbrev pub named_table : List ℕ → List ℕ → List (List ℕ) → Named → List ℕ
named_table key members_key names x =
    head key
    ++ (key_line (codes "name") (quoted x.name)
    ++ key_line members_key (names_array (map (λ m. nth names m []) x.members)))

-- the tables of the schedules
abbrev pub schedule_tables : Game → List ℕ
schedule_tables g = flat_map (named_table (codes "schedule") (codes "targets") g.goals) g.schedules

-- the tables of the resources
abbrev pub resource_tables : Game → List ℕ
resource_tables g = flat_map (named_table (codes "resource") (codes "schedules") (map (λ (x : Named). x.name) g.schedules)) g.resources

-- the lines of what a type gets: four payoffs for each target, or its actions with its two tables
abbrev pub pay_lines : Kind → Attacker → List ℕ
pay_lines Security x = key_line (codes "payoffs") (table_array (map four_pays x.payoffs))
pay_lines Matrix x =
    key_line (codes "actions") (names_array x.actions)
    ++ (key_line (codes "leader") (table_array x.leader)
    ++ key_line (codes "follower") (table_array x.follower))

-- the table of a type of attacker
abbrev pub type_table : Kind → Attacker → List ℕ
type_table kind x =
    head (codes "type")
    ++ (key_line (codes "name") (quoted x.name)
    ++ (key_line (codes "prior") (signed_decimal x.prior)
    ++ pay_lines kind x))

-- the canonical text of a game
unfoldable pub game_text : Game → List ℕ
game_text g =
    top_lines g
    ++ (empty_lines g
    ++ (schedule_tables g
    ++ (resource_tables g
    ++ flat_map (type_table g.kind) g.types)))
