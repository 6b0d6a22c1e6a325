-- The lines of a game's canonical text, and that TOML writes them so.
use Rattle.std.proofs.Common.{◌≡◌, ℕ, ◌^◌, Bool, true, false, cond, List, [], ◌∷◌, ◌++◌, length, map, ℤ, pos, Option, Some, None, refl, subst, arith}
use Rattle.std.specs.Prelude.{codes, flat_map}
use Rattle.std.specs.Fmt.{signed_decimal}
use Rattle.std.specs.List.{All}
use Rattle.std.proofs.lemmas.Fmt.{decimal_digit}
use Rattle.std.proofs.lemmas.Int.{ints}
use Rattle.std.proofs.lemmas.List.{length-map}
use Rattle.std.proofs.lemmas.List.Elements.{All-map, All-nil}
use Rattle.toml.specs.Data.{array, integer, no_items, string}
use Rattle.toml.specs.Tables.{Expression}
use Rattle.sg_model.specs.declared.kind.Kind.{Kind}
use Rattle.sg_model.specs.declared.kind.Kind.TheVariants.{Security, Matrix}
use Rattle.sg_model.specs.Games.{Attacker, Game, Named}
use Rattle.sg_model.specs.Limits.{AreLists, IsCount, IsGame, IsMatrixType, IsSecurityType, IsWithin, is_scaled}
use Rattle.sg_model.specs.Names.{AreNames, is_name}
use Rattle.sg_model.specs.Sums.{nth}
use Rattle.sg_model.proofs.Promises.{nth-all}
use Rattle.sg_game.specs.Counts.{four}
use Rattle.sg_format.specs.GameText.{empty_line, form_name, four_pays, game_text, goals_key, is_listed, key_line, named_table, names_array, pay_lines, patrols_line, quoted, resource_tables, schedule_tables, table_array, top_lines, type_table}
use Rattle.sg_document_laws.specs.Tables.{member_names, names_data, table_data}
use Rattle.sg_document_laws.proofs.Texts.{IsPlain}
use Rattle.sg_document_laws.proofs.Written.{IsListed, IsNamed, IsPlainScale, all_listed, all_named, one_plain, patrols_few, prior_plain, scale_plain}
use Rattle.sg_game_text_laws.proofs.Values.{fours_spell, name_spells, names_spell, number_spells, rows_spell}
use Rattle.sg_game_text_laws.proofs.Lines.{IsBare, SpellsLines, bare, both_write, each_writes, head_writes, none_write, pair, pair_writes}
use Rattle.sg_game_text_laws.proofs.Filled.{Pairs, table_lines}

-- ---- the lines

-- what is written of a game before its tables
abbrev pub scale_lines : Bool → ℤ → List Expression
scale_lines scaled scale = cond scaled (pair (codes "scale") (integer scale) ∷ []) []

abbrev pub patrols_lines : Option ℕ → List Expression
patrols_lines (Some n) = pair (codes "patrols") (integer (pos n)) ∷ []
patrols_lines None = []

abbrev pub first_lines : Kind → Bool → ℤ → Option ℕ → List (List ℕ) → List Expression
first_lines kind scaled scale patrols goals =
    (pair (codes "version") (integer (pos 1)) ∷ [])
    ++ ((pair (codes "form") (string (form_name kind)) ∷ [])
    ++ (scale_lines scaled scale
    ++ (patrols_lines patrols
    ++ (pair (goals_key kind) (names_data goals) ∷ []))))

-- a list of tables that has none
abbrev pub no_tables_lines : List ℕ → List Named → List Expression
no_tables_lines key [] = pair key (array no_items) ∷ []
no_tables_lines key (x ∷ xs) = []

abbrev pub no_lists_lines : Bool → List Named → List Named → List Expression
no_lists_lines are_listed schedules resources = cond are_listed (no_tables_lines (codes "schedule") schedules ++ no_tables_lines (codes "resource") resources) []

-- the table of a schedule or a resource
abbrev pub named_pairs : List ℕ → List (List ℕ) → Named → Pairs
named_pairs members_key names x = (codes "name", string x.name) ∷ (members_key, names_data (member_names names x.members)) ∷ []

-- the table of a type
abbrev pub pay_pairs : Kind → Attacker → Pairs
pay_pairs Security x = (codes "payoffs", table_data (map four x.payoffs)) ∷ []
pay_pairs Matrix x = (codes "actions", names_data x.actions) ∷ (codes "leader", table_data x.leader) ∷ (codes "follower", table_data x.follower) ∷ []

abbrev pub type_pairs : Kind → Attacker → Pairs
type_pairs kind x = (codes "name", string x.name) ∷ (codes "prior", integer x.prior) ∷ pay_pairs kind x

-- the tables
abbrev pub schedule_lines : List (List ℕ) → List Named → List Expression
schedule_lines targets schedules = flat_map (λ x. table_lines (codes "schedule") (named_pairs (codes "targets") targets x)) schedules

abbrev pub resource_lines : List (List ℕ) → List Named → List Expression
resource_lines schedules resources = flat_map (λ x. table_lines (codes "resource") (named_pairs (codes "schedules") schedules x)) resources

abbrev pub type_lines : Kind → List Attacker → List Expression
type_lines kind types = flat_map (λ x. table_lines (codes "type") (type_pairs kind x)) types

-- all lines
abbrev pub game_lines : Game → List Expression
game_lines g =
    first_lines g.kind (is_scaled g) g.scale g.patrols g.goals
    ++ (no_lists_lines (is_listed g) g.schedules g.resources
    ++ (schedule_lines g.goals g.schedules
    ++ (resource_lines (map (λ (x : Named). x.name) g.schedules) g.resources
    ++ type_lines g.kind g.types)))

-- ---- lines of a key

number_line : (key : List ℕ) (z : ℤ) → IsBare key → IsPlain (integer z) → SpellsLines (pair key (integer z) ∷ []) (key_line key (signed_decimal z))
number_line key z own h = pair_writes key 0 (integer z) (signed_decimal z) own (omega arith) (number_spells z h)

name_line : (key name : List ℕ) → IsBare key → is_name name ≡ true → SpellsLines (pair key (string name) ∷ []) (key_line key (quoted name))
name_line key name own h = pair_writes key 0 (string name) (quoted name) own (omega arith) (name_spells name h)

names_line : (key : List ℕ) (names : List (List ℕ)) → IsBare key → All (λ name. is_name name ≡ true) names → SpellsLines (pair key (names_data names) ∷ []) (key_line key (names_array names))
names_line key names own h = pair_writes key 1 (names_data names) (names_array names) own (omega arith) (names_spell names h)

version_line : SpellsLines (pair (codes "version") (integer (pos 1)) ∷ []) (key_line (codes "version") (codes "1"))
version_line =
    let one : signed_decimal (pos 1) ≡ codes "1" = decimal_digit 1 (omega arith) in
    subst (λ text. SpellsLines (pair (codes "version") (integer (pos 1)) ∷ []) (key_line (codes "version") text)) one (number_line (codes "version") (pos 1) (bare (codes "version") refl refl) one_plain)

form_line : (kind : Kind) → SpellsLines (pair (codes "form") (string (form_name kind)) ∷ []) (key_line (codes "form") (quoted (form_name kind)))
unfolding is_name
form_line Security = name_line (codes "form") (codes "security") (bare (codes "form") refl refl) refl
form_line Matrix = name_line (codes "form") (codes "matrix") (bare (codes "form") refl refl) refl

scale_writes : (scaled : Bool) (z : ℤ) → IsPlainScale (cond scaled (Some z) None) → SpellsLines (scale_lines scaled z) (cond scaled (key_line (codes "scale") (signed_decimal z)) [])
scale_writes true z h = number_line (codes "scale") z (bare (codes "scale") refl refl) h
scale_writes false z h = none_write

-- a number of patrols, where it is given, is plain
abbrev pub ArePlainPatrols : Option ℕ → Type 0
ArePlainPatrols (Some n) = IsPlain (integer (pos n))
ArePlainPatrols None = Unit {0}

patrols_write : (patrols : Option ℕ) → ArePlainPatrols patrols → SpellsLines (patrols_lines patrols) (patrols_line patrols)
patrols_write (Some n) h = number_line (codes "patrols") (pos n) (bare (codes "patrols") refl refl) h
patrols_write None h = none_write

goals_line : (kind : Kind) (goals : List (List ℕ)) → AreNames goals → SpellsLines (pair (goals_key kind) (names_data goals) ∷ []) (key_line (goals_key kind) (names_array goals))
goals_line Security goals h = names_line (codes "targets") goals (bare (codes "targets") refl refl) h.spelled
goals_line Matrix goals h = names_line (codes "rows") goals (bare (codes "rows") refl refl) h.spelled

-- the lines before the tables
pub first_write : (g : Game) → IsPlainScale (cond (is_scaled g) (Some g.scale) None) → ArePlainPatrols g.patrols → AreNames g.goals
    → SpellsLines (first_lines g.kind (is_scaled g) g.scale g.patrols g.goals) (top_lines g)
first_write g scale patrols goals =
    both_write _ _ _ _ version_line
    (both_write _ _ _ _ (form_line g.kind)
    (both_write _ _ _ _ (scale_writes (is_scaled g) g.scale scale)
    (both_write _ _ _ _ (patrols_write g.patrols patrols) (goals_line g.kind g.goals goals))))

no_tables_write : (key : List ℕ) (xs : List Named) → IsBare key → SpellsLines (no_tables_lines key xs) (empty_line key xs)
no_tables_write key [] own = names_line key [] own (All-nil (λ name. is_name name ≡ true))
no_tables_write key (x ∷ xs) own = none_write

pub no_lists_write : (are_listed : Bool) (schedules resources : List Named)
    → SpellsLines (no_lists_lines are_listed schedules resources) (cond are_listed (empty_line (codes "schedule") schedules ++ empty_line (codes "resource") resources) [])
no_lists_write true schedules resources =
    both_write _ _ _ _ (no_tables_write (codes "schedule") schedules (bare (codes "schedule") refl refl)) (no_tables_write (codes "resource") resources (bare (codes "resource") refl refl))
no_lists_write false schedules resources = none_write

-- ---- tables

member_name : (names : List (List ℕ)) → AreNames names → (count : ℕ) → length names ≡ count → (m : ℕ) → IsCount 1 count m → is_name (nth names m []) ≡ true
member_name names are count many m h = nth-all (λ name. is_name name ≡ true) names [] are.spelled m h.at_least (omega (arith, many, h.at_most))

named_write : (key members_key : List ℕ) (names : List (List ℕ)) → IsBare key → IsBare members_key → AreNames names → (count limit : ℕ) → length names ≡ count → (x : Named) → IsListed count limit x
    → SpellsLines (table_lines key (named_pairs members_key names x)) (named_table key members_key names x)
named_write key members_key names own members_own are count limit many x h =
    let P : List ℕ → Type 0 = (λ name. is_name name ≡ true) in
    let members : All P (member_names names x.members) = All-map P (λ m. nth names m []) x.members (λ k d lt. member_name names are count many _ (h.members.known k d lt)) in
    both_write _ _ _ _ (head_writes key own)
    (both_write _ _ _ _ (name_line (codes "name") x.name (bare (codes "name") refl refl) h.name) (names_line members_key (member_names names x.members) members_own members))

pub schedules_write : (g : Game) (count few limit : ℕ) → AreNames g.goals → length g.goals ≡ count → AreLists count few limit g.schedules → SpellsLines (schedule_lines g.goals g.schedules) (schedule_tables g)
schedules_write g count few limit names many h =
    each_writes (λ x. table_lines (codes "schedule") (named_pairs (codes "targets") g.goals x)) (named_table (codes "schedule") (codes "targets") g.goals) (IsListed count limit)
    (named_write (codes "schedule") (codes "targets") g.goals (bare (codes "schedule") refl refl) (bare (codes "targets") refl refl) names count limit many)
    g.schedules (all_listed count few limit g.schedules h)

pub resources_write : (g : Game) (count few limit : ℕ) → AreNames (map (λ (x : Named). x.name) g.schedules) → length (map (λ (x : Named). x.name) g.schedules) ≡ count → AreLists count few limit g.resources
    → SpellsLines (resource_lines (map (λ (x : Named). x.name) g.schedules) g.resources) (resource_tables g)
resources_write g count few limit names many h =
    let known = map (λ (x : Named). x.name) g.schedules in
    each_writes (λ x. table_lines (codes "resource") (named_pairs (codes "schedules") known x)) (named_table (codes "resource") (codes "schedules") known) (IsListed count limit)
    (named_write (codes "resource") (codes "schedules") known (bare (codes "resource") refl refl) (bare (codes "schedules") refl refl) names count limit many)
    g.resources (all_listed count few limit g.resources h)

-- a table of a type, whose payoffs are as they should be
type_write : (kind : Kind) (x : Attacker) → is_name x.name ≡ true → IsPlain (integer x.prior) → (pays : List Expression) → SpellsLines pays (pay_lines kind x)
    → SpellsLines ((pair (codes "name") (string x.name) ∷ []) ++ ((pair (codes "prior") (integer x.prior) ∷ []) ++ pays)) (key_line (codes "name") (quoted x.name) ++ (key_line (codes "prior") (signed_decimal x.prior) ++ pay_lines kind x))
type_write kind x name prior pays own =
    both_write _ _ _ _ (name_line (codes "name") x.name (bare (codes "name") refl refl) name) (both_write _ _ _ _ (number_line (codes "prior") x.prior (bare (codes "prior") refl refl) prior) own)

security_write : (targets : ℕ) (x : Attacker) → IsNamed (IsSecurityType targets) x → SpellsLines (table_lines (codes "type") (type_pairs Security x)) (type_table Security x)
security_write targets x h =
    both_write _ _ _ _ (head_writes (codes "type") (bare (codes "type") refl refl))
    (type_write Security x h.name (prior_plain x.prior h.own.prior) _
    (pair_writes (codes "payoffs") 2 (table_data (map four x.payoffs)) (table_array (map four_pays x.payoffs)) (bare (codes "payoffs") refl refl) (omega arith) (fours_spell x.payoffs h.own.pays)))

matrix_write : (rows : ℕ) (x : Attacker) → IsNamed (IsMatrixType rows) x → SpellsLines (table_lines (codes "type") (type_pairs Matrix x)) (type_table Matrix x)
matrix_write rows x h =
    both_write _ _ _ _ (head_writes (codes "type") (bare (codes "type") refl refl))
    (type_write Matrix x h.name (prior_plain x.prior h.own.prior) _
    (both_write _ _ _ _ (names_line (codes "actions") x.actions (bare (codes "actions") refl refl) h.own.action_names.spelled)
    (both_write _ _ _ _ (pair_writes (codes "leader") 2 (table_data x.leader) (table_array x.leader) (bare (codes "leader") refl refl) (omega arith) (rows_spell x.leader h.own.leader.pays))
    (pair_writes (codes "follower") 2 (table_data x.follower) (table_array x.follower) (bare (codes "follower") refl refl) (omega arith) (rows_spell x.follower h.own.follower.pays)))))

pub security_types_write : (targets : ℕ) (types : List Attacker) → AreNames (map (λ (x : Attacker). x.name) types) → All (IsSecurityType targets) types
    → SpellsLines (type_lines Security types) (flat_map (type_table Security) types)
security_types_write targets types h each =
    each_writes (λ x. table_lines (codes "type") (type_pairs Security x)) (type_table Security) (IsNamed (IsSecurityType targets)) (security_write targets) types (all_named (IsSecurityType targets) types h each)

pub matrix_types_write : (rows : ℕ) (types : List Attacker) → AreNames (map (λ (x : Attacker). x.name) types) → All (IsMatrixType rows) types
    → SpellsLines (type_lines Matrix types) (flat_map (type_table Matrix) types)
matrix_types_write rows types h each =
    each_writes (λ x. table_lines (codes "type") (type_pairs Matrix x)) (type_table Matrix) (IsNamed (IsMatrixType rows)) (matrix_write rows) types (all_named (IsMatrixType rows) types h each)

-- ---- the whole text

each_none : {X : Type 0} (lines : X → List Expression) (write : X → List ℕ) (xs : List X) → xs ≡ [] → SpellsLines (flat_map lines xs) (flat_map write xs)
each_none lines write xs e = rw e none_write

no_schedules_write : (g : Game) → g.schedules ≡ [] → SpellsLines (schedule_lines g.goals g.schedules) (schedule_tables g)
no_schedules_write g e = each_none (λ x. table_lines (codes "schedule") (named_pairs (codes "targets") g.goals x)) (named_table (codes "schedule") (codes "targets") g.goals) g.schedules e

no_resources_write : (g : Game) → g.resources ≡ [] → SpellsLines (resource_lines (map (λ (x : Named). x.name) g.schedules) g.resources) (resource_tables g)
no_resources_write g e =
    let known = map (λ (x : Named). x.name) g.schedules in
    each_none (λ x. table_lines (codes "resource") (named_pairs (codes "schedules") known x)) (named_table (codes "resource") (codes "schedules") known) g.resources e

none_within : (z : ℤ) → z ≡ pos 0 → IsWithin (pos 0) (pos (2 ^ 32)) z
none_within z e = record { at_least = omega (arith, ints, e); at_most = omega (arith, ints, e) }

-- the lines of a game of this form, with a number of patrols or without
pub game_writes : (g : Game) (kind : Kind) (patrols : Option ℕ) → IsGame (record g { kind = kind; patrols = patrols })
    → SpellsLines (game_lines (record g { kind = kind; patrols = patrols })) (game_text (record g { kind = kind; patrols = patrols }))
unfolding game_text
game_writes g Security (Some n) h =
    let G : Game = record g { kind = Security; patrols = Some n } in
    both_write _ _ _ _ (first_write G (scale_plain (is_scaled g) g.scale h.scale_range) (patrols_few (is_scaled g) n h.defended.few) h.targets)
    (both_write _ _ _ _ none_write
    (both_write _ _ _ _ (no_schedules_write G h.defended.no_schedules)
    (both_write _ _ _ _ (no_resources_write G h.defended.no_resources) (security_types_write (length g.goals) g.types h.types.names h.each_type))))
game_writes g Security None h =
    let G : Game = record g { kind = Security; patrols = None } in
    both_write _ _ _ _ (first_write G (scale_plain (is_scaled g) g.scale h.scale_range) tt h.targets)
    (both_write _ _ _ _ (no_lists_write true g.schedules g.resources)
    (both_write _ _ _ _ (schedules_write G (length g.goals) 500 200 h.targets refl h.defended.schedules)
    (both_write _ _ _ _ (resources_write G (length g.schedules) 32 500 h.defended.schedules.names (length-map g.schedules (λ (x : Named). x.name)) h.defended.resources) (security_types_write (length g.goals) g.types h.types.names h.each_type))))
game_writes g Matrix patrols h =
    let G : Game = record g { kind = Matrix; patrols = patrols } in
    both_write _ _ _ _ (first_write G (scale_plain (is_scaled g) g.scale (none_within g.scale h.no_scale)) (rw h.no_patrols tt) h.rows)
    (both_write _ _ _ _ none_write
    (both_write _ _ _ _ (no_schedules_write G h.no_schedules)
    (both_write _ _ _ _ (no_resources_write G h.no_resources) (matrix_types_write (length g.goals) g.types h.types.names h.each_type))))
