-- The first fault of parts is what their document is refused for.
use Rattle.std.proofs.Common.{◌≡◌, ◌≢◌, ◌∙◌, ℕ, Bool, true, false, ◌||◌, List, [], length, map, ℤ, pos, Option, Some, None, String, Global, string_bytes, refl, sym, ap}
use Rattle.std.specs.Prelude.{codes, is_none, is_some, nat_le, unwrap_or, Vec}
use Rattle.std.specs.List.{All}
use Rattle.std.proofs.lemmas.List.{length-map}
use Rattle.sg_model.specs.declared.kind.Kind.{Kind}
use Rattle.sg_model.specs.declared.kind.Kind.TheVariants.{Security, Matrix}
use Rattle.sg_model.specs.declared.fault.Place.{Place}
use Rattle.sg_model.specs.declared.fault.Place.TheVariants as place_of
use Rattle.sg_model.specs.declared.fault.GameFault.{GameFault}
use Rattle.sg_model.specs.Games.{Attacker, Game, Named, Payoff, payoff_of}
use Rattle.sg_model.specs.Names.{AreNames}
use Rattle.sg_game.specs.declared.parts.Parts.{Parts}
use Rattle.sg_game.specs.declared.parts.ListParts.{ListParts}
use Rattle.sg_game.specs.declared.parts.TypeParts.{TypeParts}
use Rattle.sg_game.specs.Building.{HasOwnFields, IsSecurityParts}
use Rattle.sg_game.specs.Seen.{attacker_of, game_of, named_of, number_lists, texts}
use Rattle.sg_model.specs.Sums.{positive_part}
use Rattle.sg_game.specs.Faults.{◌orelse◌, fault_unless, fault_of, fields_fault, goal_limit, goals_fault, lists_fault, names_fault, numbers_fault, prior_limit, tables_fault, type_fault, type_limit, types_fault, whole_fault}
use Rattle.sg_game.proofs.Steps.{neither}
use Rattle.sg_game.proofs.Listed.{listed, named}
use Rattle.sg_format.specs.Lists.{resources_at, schedules_at}
use Rattle.sg_format.specs.Types.{matrix_types_at, security_types_at}
use Rattle.sg_format.specs.GameFiles.{game_of_table}
use Rattle.sg_document_laws.specs.Documents.{resource_parts, schedule_parts, parts_table, type_parts}
use Rattle.sg_document_laws.specs.Tables.{names_data}
use Rattle.sg_document_laws.specs.Orders.{DocumentOfParts, told}
use Rattle.sg_document_laws.proofs.Listed.{count_fault, map_map, names_at-array}
use Rattle.sg_document_laws.proofs.Members.{lists_told, schedules_key, targets_key}
use Rattle.sg_document_laws.proofs.Typed.{all_types_fault, matrix_form, matrix_types_told, security_form, security_types_told}
use Rattle.sg_document_laws.proofs.Games.{matrix_told, patrols_fault, patrols_told, resources_told, scale_alone, scale_fault}

-- types

-- the name of a type
abbrev type_name : TypeParts → List ℕ
type_name x = string_bytes x.name

-- the name of a schedule or a resource
abbrev list_name : ListParts → List ℕ
list_name x = string_bytes x.name

-- the numbers of a row
abbrev numbers : Vec ℤ Global → List ℤ
numbers row = row.items

same_security : (name : List ℕ) (prior : ℤ) (payoffs : List Payoff) (actions : List (String Global)) (leader follower : List (Vec ℤ Global)) → actions ≡ [] → leader ≡ [] → follower ≡ []
    → (let x : Attacker = record { name = name; prior = prior; payoffs = payoffs; actions = []; leader = []; follower = [] } in x)
    ≡ record { name = name; prior = prior; payoffs = payoffs; actions = texts actions; leader = number_lists leader; follower = number_lists follower }
same_security name prior payoffs actions leader follower a l f = rw (a, l, f) refl

formed_security : (x : TypeParts) → IsSecurityParts x → security_form (type_name x) x.prior (number_lists x.payoffs.items) ≡ attacker_of x
formed_security x own = same_security (type_name x) x.prior (map payoff_of (number_lists x.payoffs.items)) x.actions.items x.leader.items x.follower.items own.actions own.leader own.follower

same_matrix : (name : List ℕ) (prior : ℤ) (payoffs : List (Vec ℤ Global)) (actions : List (List ℕ)) (leader follower : List (List ℤ)) → payoffs ≡ []
    → matrix_form name prior actions leader follower ≡ record { name = name; prior = prior; payoffs = map payoff_of (number_lists payoffs); actions = actions; leader = leader; follower = follower }
same_matrix name prior payoffs actions leader follower e = rw e refl

-- a type with no payoffs of the security form
abbrev HasNoPayoffs : TypeParts → Type 0
HasNoPayoffs x = x.payoffs.items ≡ []

formed_matrix : (x : TypeParts) → HasNoPayoffs x → matrix_form (type_name x) x.prior (texts x.actions.items) (number_lists x.leader.items) (number_lists x.follower.items) ≡ attacker_of x
formed_matrix x own = same_matrix (type_name x) x.prior x.payoffs.items (texts x.actions.items) (number_lists x.leader.items) (number_lists x.follower.items) own

-- lists that are not there

no_lists : (count limit members_limit : ℕ) (place : ℕ → Place) (lists : List ListParts) → lists ≡ [] → nat_le 0 limit ≡ true → lists_fault count limit members_limit place lists ≡ None
unfolding lists_fault
no_lists count limit members_limit place lists e few = rw (e, few) refl

same_game : (kind : Kind) (scale : ℤ) (patrols : Option ℕ) (goals : List (List ℕ)) (types : List Attacker) (schedules resources : List ListParts) → schedules ≡ [] → resources ≡ []
    → (let g : Game = record { kind = kind; scale = scale; patrols = patrols; goals = goals; schedules = []; resources = []; types = types } in g)
    ≡ record { kind = kind; scale = scale; patrols = patrols; goals = goals; schedules = map named_of schedules; resources = map named_of resources; types = types }
same_game kind scale patrols goals types schedules resources a b = rw (a, b) refl

-- orders of faults

patrols_order : (first goals scale patrols schedules resources types whole : Option GameFault) → first ≡ None → schedules ≡ None → resources ≡ None
    → ((((((first orelse goals) orelse (scale orelse patrols)) orelse schedules) orelse resources) orelse types) orelse whole) ≡ (goals orelse (scale orelse (patrols orelse (types orelse whole))))
patrols_order (Some e) goals scale patrols schedules resources types whole a b c = absurd (cc)
patrols_order None (Some f) scale patrols schedules resources types whole a b c = refl
patrols_order None None (Some f) patrols schedules resources types whole a b c = refl
patrols_order None None None (Some f) schedules resources types whole a b c = refl
patrols_order None None None None schedules resources types whole a b c = rw (b, c) refl

listed_order : (goals schedules resources types whole : Option GameFault)
    → (((((goals orelse None) orelse schedules) orelse resources) orelse types) orelse whole) ≡ (goals orelse (schedules orelse (resources orelse (types orelse whole))))
listed_order (Some f) schedules resources types whole = refl
listed_order None (Some f) resources types whole = refl
listed_order None None (Some f) types whole = refl
listed_order None None None types whole = refl

matrix_order : (goals schedules resources types whole : Option GameFault) → schedules ≡ None → resources ≡ None
    → (((((goals orelse None) orelse schedules) orelse resources) orelse types) orelse whole) ≡ (goals orelse (types orelse whole))
matrix_order goals schedules resources types whole a b = listed_order goals schedules resources types whole ∙ rw (a, b) refl

-- with patrols, no scale lacks them
with_patrols_none : (scale : Option ℤ) → fault_unless (is_none scale || true) 3 place_of.Document ≡ None
with_patrols_none None = refl
with_patrols_none (Some z) = refl

module _ (p : Parts) where
  -- the names of the goals
  abbrev goals : List (List ℕ)
  goals = texts p.goals.items

  -- how many they are
  abbrev goal_count : ℕ
  goal_count = length p.goals.items

  -- the faults of the lists
  abbrev schedules_fault : Option GameFault
  schedules_fault = lists_fault goal_count 500 200 place_of.Schedule p.schedules.items

  abbrev resources_fault : Option GameFault
  resources_fault = lists_fault (length p.schedules.items) 32 500 place_of.Resource p.resources.items

  -- the first fault of the types
  abbrev parts_fault : Kind → Bool → Option GameFault
  parts_fault kind scaled = all_types_fault type_name (type_fault kind (prior_limit scaled) goal_count) (type_limit scaled) p.types.items

  security_types : (scaled : Bool) → All IsSecurityParts p.types.items → security_types_at scaled (length goals) (type_parts Security p) ≡ told (parts_fault Security scaled) (map attacker_of p.types.items)
  security_types scaled own =
      rw (length-map p.goals.items string_bytes)
      (security_types_told type_name (λ (x : TypeParts). x.prior) (λ (x : TypeParts). x.payoffs.items) numbers attacker_of IsSecurityParts (λ x. refl) formed_security scaled goal_count p.types.items own)

  matrix_types : All HasNoPayoffs p.types.items → matrix_types_at (length goals) (type_parts Matrix p) ≡ told (parts_fault Matrix false) (map attacker_of p.types.items)
  unfolding tables_fault
  matrix_types own =
      rw (length-map p.goals.items string_bytes)
      (matrix_types_told type_name (λ (x : TypeParts). x.prior) (λ (x : TypeParts). x.actions.items) string_bytes (λ (x : TypeParts). x.leader.items) (λ (x : TypeParts). x.follower.items) numbers attacker_of HasNoPayoffs
      (λ x. refl) formed_matrix goal_count p.types.items own)

  -- games of identical patrols

  -- the parts with this scale and these patrols
  abbrev with_patrols : Option ℤ → ℤ → Parts
  with_patrols scale z = record p { kind = Security; scale = scale; patrols = Some z }

  of_patrols : (scale : Option ℤ) (z : ℤ) → HasOwnFields (with_patrols scale z) → game_of_table (parts_table (with_patrols scale z)) ≡ told (fault_of (with_patrols scale z)) (game_of (with_patrols scale z))
  unfolding fault_of fields_fault goals_fault numbers_fault types_fault
  of_patrols scale z own =
      let g : Game = game_of (with_patrols scale z) in
      let scaled : Bool = is_some scale in
      let limit : ℕ = goal_limit Security scaled in
      let given : Some z ≢ None = (λ e. cc) in
      let no_schedules = own.schedules given in
      let no_resources = own.resources given in
      let f1 = count_fault limit place_of.Document goal_count orelse names_fault place_of.Target p.goals.items in
      let f4 = parts_fault Security scaled in
      let order = patrols_order (fault_unless (is_none scale || true) 3 place_of.Document) f1 (scale_fault scale) (patrols_fault scaled z) schedules_fault resources_fault f4 (whole_fault scaled g) (with_patrols_none scale)
      (no_lists goal_count 500 200 place_of.Schedule p.schedules.items no_schedules refl)
      (no_lists (length p.schedules.items) 32 500 place_of.Resource p.resources.items no_resources refl) in
      let same = same_game Security (unwrap_or scale (pos 0)) (Some (positive_part z)) goals (map attacker_of p.types.items) p.schedules.items p.resources.items no_schedules no_resources in
      patrols_told scale z (names_data goals) (type_parts Security p) f1 f4 goals (map attacker_of p.types.items) g
      (names_at-array string_bytes place_of.Document place_of.Target limit p.goals.items) (security_types scaled (own.security refl)) same
      ∙ ap (λ f. told f g) (sym order)

  -- games of listed schedules and resources

  -- the parts without patrols
  abbrev without_patrols : Option ℤ → Parts
  without_patrols scale = record p { kind = Security; scale = scale; patrols = None }

  of_resources : (scale : Option ℤ) → HasOwnFields (without_patrols scale) → game_of_table (parts_table (without_patrols scale)) ≡ told (fault_of (without_patrols scale)) (game_of (without_patrols scale))
  unfolding fault_of fields_fault goals_fault numbers_fault types_fault lists_fault
  of_resources (Some scale) own = scale_alone scale (names_data goals) (schedule_parts p) (resource_parts p) (type_parts Security p) (game_of (without_patrols (Some scale)))
  of_resources None own =
      let g : Game = game_of (without_patrols None) in
      let counted = count_fault 200 place_of.Document goal_count in
      let spelled = names_fault place_of.Target p.goals.items in
      let f1 = counted orelse spelled in
      let f4 = parts_fault Security false in
      let held : List Named = map named_of p.schedules.items in
      let hands : List Named = map named_of p.resources.items in
      let titles : List (List ℕ) = map list_name p.schedules.items in
      let known : map (λ (x : Named). x.name) held ≡ titles = map_map (λ (x : Named). x.name) named_of p.schedules.items in
      let schedules : f1 ≡ None → schedules_at goals (schedule_parts p) ≡ told schedules_fault held = λ e.
      let names : AreNames goals = named place_of.Target p.goals.items (neither counted spelled e).1 in
      lists_told list_name (λ (x : ListParts). x.members.items) (codes "targets") targets_key goals names goal_count (length-map p.goals.items string_bytes) place_of.Schedule 500 200 p.schedules.items in
      let resources : schedules_fault ≡ None → resources_at held (resource_parts p) ≡ told resources_fault hands = λ e.
      let own_names : AreNames (map (λ (x : Named). x.name) held) = (listed goal_count 500 200 place_of.Schedule p.schedules.items e).names in
      let names : AreNames titles = rw (← known) own_names in
      let count = length-map p.schedules.items list_name in
      let read = lists_told list_name (λ (x : ListParts). x.members.items) (codes "schedules") schedules_key titles names (length p.schedules.items) count place_of.Resource 32 500 p.resources.items in
      rw known read in
      resources_told (names_data goals) (schedule_parts p) (resource_parts p) (type_parts Security p) f1 schedules_fault resources_fault f4 goals held hands (map attacker_of p.types.items)
      (names_at-array string_bytes place_of.Document place_of.Target 200 p.goals.items) schedules resources (security_types false (own.security refl))
      ∙ ap (λ f. told f g) (sym (listed_order f1 schedules_fault resources_fault f4 (whole_fault false g)))

  -- games in matrix form

  -- the parts in matrix form
  abbrev in_matrix : Option ℤ → Option ℤ → Parts
  in_matrix scale patrols = record p { kind = Matrix; scale = scale; patrols = patrols }

  of_matrix : (scale patrols : Option ℤ) → HasOwnFields (in_matrix scale patrols) → game_of_table (parts_table (in_matrix scale patrols)) ≡ told (fault_of (in_matrix scale patrols)) (game_of (in_matrix scale patrols))
  unfolding fault_of fields_fault goals_fault numbers_fault types_fault
  of_matrix (Some z) patrols own = let none = (own.matrix refl).scale in absurd (cc)
  of_matrix None (Some z) own = let none = (own.matrix refl).patrols in absurd (cc)
  of_matrix None None own =
      let g : Game = game_of (in_matrix None None) in
      let bare = own.matrix refl in
      let f1 = count_fault 4096 place_of.Document goal_count orelse names_fault place_of.Row p.goals.items in
      let f2 = parts_fault Matrix false in
      let order = matrix_order f1 schedules_fault resources_fault f2 (whole_fault false g)
      (no_lists goal_count 500 200 place_of.Schedule p.schedules.items bare.schedules refl)
      (no_lists (length p.schedules.items) 32 500 place_of.Resource p.resources.items bare.resources refl) in
      let same = same_game Matrix (pos 0) None goals (map attacker_of p.types.items) p.schedules.items p.resources.items bare.schedules bare.resources in
      matrix_told (names_data goals) (type_parts Matrix p) f1 f2 goals (map attacker_of p.types.items) g
      (names_at-array string_bytes place_of.Document place_of.Row 4096 p.goals.items) (matrix_types bare.payoffs) same
      ∙ ap (λ f. told f g) (sym order)

-- parts of both forms

by_form : (p : Parts) (kind : Kind) (scale patrols : Option ℤ) → HasOwnFields (record p { kind = kind; scale = scale; patrols = patrols })
    → game_of_table (parts_table (record p { kind = kind; scale = scale; patrols = patrols }))
    ≡ told (fault_of (record p { kind = kind; scale = scale; patrols = patrols })) (game_of (record p { kind = kind; scale = scale; patrols = patrols }))
by_form p Security scale (Some z) own = of_patrols p scale z own
by_form p Security scale None own = of_resources p scale own
by_form p Matrix scale patrols own = of_matrix p scale patrols own

pub document_of_parts : DocumentOfParts
document_of_parts p own = by_form p p.kind p.scale p.patrols own
