-- The canonical text of a game is read as the document that spells the game, and so is a file of that game.
use Rattle.std.proofs.Common.{◌≡◌, ◌∙◌, ℕ, suc, ◌≤◌, Bool, true, false, ◌==◌, cond, List, [], ◌∷◌, ◌++◌, length, map, ℤ, pos, Option, Some, None, Result, Ok, refl, sym, ap, arith, inl, inr}
use Rattle.std.specs.Prelude.{codes, int_lt}
use Rattle.std.specs.Str.{is_utf8}
use Rattle.std.proofs.lemmas.Bool.{cases_Bool, false≢true}
use Rattle.std.proofs.lemmas.Int.{ints}
use Rattle.std.proofs.lemmas.Option.{none-some}
use Rattle.std.proofs.lemmas.Str.{IsUtf8-from_ascii, is_utf8-from_IsUtf8}
use Rattle.toml_parser.specs.Lexical.{first}
use Rattle.toml.specs.Data.{Data, Members, array, integer, no_items, string}
use Rattle.toml.specs.Tables.{Document, Expression, Node, Nodes, along_dots, along_header, at_key, close, close_node, define, get_node, insert, no_nodes, node, open_array, replace, value}
use Rattle.toml.specs.Parse.{parse_document, skip_bom}
use Rattle.toml.proofs.ReadLines.{read_lines, run}
use Rattle.toml.proofs.Turns.{document_some}
use Rattle.sg_model.specs.declared.kind.Kind.{Kind}
use Rattle.sg_model.specs.declared.kind.Kind.TheVariants.{Security, Matrix}
use Rattle.sg_model.specs.declared.fault.GameFault.{GameFault}
use Rattle.sg_model.specs.Games.{Attacker, Game, Named}
use Rattle.sg_model.specs.Limits.{IsGame, IsMatrixGame, IsSecurityGame, is_scaled}
use Rattle.sg_format.specs.Documents.{document_of}
use Rattle.sg_format.specs.GameFiles.{game_of_bytes}
use Rattle.sg_format.specs.FaultExamples.{listed}
use Rattle.sg_format.specs.GameText.{game_text}
use Rattle.sg_document_laws.specs.Tables.{matrix_table, names_data, patrols_table, resources_table}
use Rattle.sg_document_laws.specs.Documents.{game_table, game_table_by, named_entry, resource_entries, schedule_entries, type_entries, type_entry}
use Rattle.sg_document_laws.proofs.Spelled.{document_of_game}
use Rattle.sg_game_text_laws.specs.GameTextFiles.{GameTextIsDocument, GameTextIsFile, GameTextTellsGame}
use Rattle.sg_game_text_laws.proofs.Lines.{SpellsLines}
use Rattle.sg_game_text_laws.proofs.Filled.{then_run}
use Rattle.sg_game_text_laws.proofs.GameLines.{first_lines, game_lines, game_writes, no_lists_lines, resource_lines, schedule_lines, type_lines}
use Rattle.sg_game_text_laws.proofs.Keys.{Leaves, resources_leave, schedules_leave, types_leave}

-- these lines make this table
record Makes (es : List Expression) (table : Members) : Type 0 where
  doc : Document
  ran : run (no_nodes, []) es ≡ Some doc
  closed : close doc.0 ≡ table

-- ---- identical patrols

-- the nodes, behind that of the scale where one is declared
abbrev scale_node : Bool → ℤ → Nodes → Nodes
scale_node true z rest = node (codes "scale") (value (integer z)) rest
scale_node false z rest = rest

-- the nodes before those of the types, and with a node of the types
abbrev patrols_base : Bool → ℤ → ℕ → Data → Nodes
patrols_base scaled z n goals =
    node (codes "form") (value (string (codes "security"))) (node (codes "patrols") (value (integer (pos n))) (scale_node scaled z (
    node (codes "targets") (value goals) (node (codes "version") (value (integer (pos 1))) no_nodes))))

abbrev patrols_spine : Bool → ℤ → ℕ → Data → Node → Nodes
patrols_spine scaled z n goals types =
    node (codes "form") (value (string (codes "security"))) (node (codes "patrols") (value (integer (pos n))) (scale_node scaled z (
    node (codes "targets") (value goals) (node (codes "type") types (node (codes "version") (value (integer (pos 1))) no_nodes)))))

module _ (z : ℤ) (n : ℕ) (goals : List (List ℕ)) where
  patrols_first : (scaled : Bool) → run (no_nodes, []) (first_lines Security scaled z (Some n) goals) ≡ Some (patrols_base scaled z n (names_data goals), [])
  unfolding define along_header along_dots at_key
  patrols_first true = refl
  patrols_first false = refl

  patrols_found : (scaled : Bool) (x : Node) → get_node (codes "type") (patrols_spine scaled z n (names_data goals) x) ≡ Some x
  patrols_found true x = refl
  patrols_found false x = refl

  patrols_replaced : (scaled : Bool) (x y : Node) → replace (codes "type") y (patrols_spine scaled z n (names_data goals) x) ≡ patrols_spine scaled z n (names_data goals) y
  patrols_replaced true x y = refl
  patrols_replaced false x y = refl

  patrols_missing : (scaled : Bool) → get_node (codes "type") (patrols_base scaled z n (names_data goals)) ≡ None
  patrols_missing true = refl
  patrols_missing false = refl

  patrols_made : (scaled : Bool) → insert (codes "type") (open_array no_items no_nodes) (patrols_base scaled z n (names_data goals)) ≡ patrols_spine scaled z n (names_data goals) (open_array no_items no_nodes)
  patrols_made true = refl
  patrols_made false = refl

  patrols_closed : (scaled : Bool) (x : Node) (types : Data) → close_node x ≡ types → close (patrols_spine scaled z n (names_data goals) x) ≡ patrols_table (cond scaled (Some z) None) (pos n) (names_data goals) types
  patrols_closed true x types e = rw e
  patrols_closed false x types e = rw e

  patrols_make : (scaled : Bool) (types : List Attacker) → 1 ≤ length types
      → Makes (first_lines Security scaled z (Some n) goals ++ type_lines Security types) (patrols_table (cond scaled (Some z) None) (pos n) (names_data goals) (listed (map (type_entry Security) types)))
  patrols_make scaled types some =
      let base : Nodes = patrols_base scaled z n (names_data goals) in
      let t = types_leave (codes "type") (patrols_spine scaled z n (names_data goals)) (patrols_found scaled) (patrols_replaced scaled) base [] (patrols_missing scaled) (patrols_made scaled) Security types some in
      let doc : Document = (patrols_spine scaled z n (names_data goals) t.node, t.section) in
      record {
        doc = doc;
        ran = then_run (no_nodes, []) (base, []) doc (first_lines Security scaled z (Some n) goals) (type_lines Security types) (patrols_first scaled) t.ran;
        closed = patrols_closed scaled t.node (listed (map (type_entry Security) types)) t.stands;
      }

-- ---- listed resources

-- the nodes, behind one at the key where there is one
abbrev optional_node : List ℕ → Option Node → Nodes → Nodes
optional_node key (Some x) rest = node key x rest
optional_node key None rest = rest

-- the nodes of a game of listed resources, with those of its resources, schedules and types as far as they are there
abbrev listed_nodes : Data → Option Node → Option Node → Option Node → Nodes
listed_nodes goals resources schedules types =
    node (codes "form") (value (string (codes "security"))) (optional_node (codes "resource") resources (optional_node (codes "schedule") schedules (
    node (codes "targets") (value goals) (optional_node (codes "type") types (node (codes "version") (value (integer (pos 1))) no_nodes)))))

-- what the line of a list of tables that has none leaves
abbrev empty_node : List Named → Option Node
empty_node [] = Some (value (array no_items))
empty_node (x ∷ xs) = None

module _ (goals : List (List ℕ)) where
  abbrev schedule_spine : Option Node → Node → Nodes
  schedule_spine resources x = listed_nodes (names_data goals) resources (Some x) None

  abbrev resource_spine : Node → Node → Nodes
  resource_spine schedules x = listed_nodes (names_data goals) (Some x) (Some schedules) None

  abbrev type_spine : Node → Node → Node → Nodes
  type_spine resources schedules x = listed_nodes (names_data goals) (Some resources) (Some schedules) (Some x)

  listed_first : (z : ℤ) → run (no_nodes, []) (first_lines Security false z None goals) ≡ Some (listed_nodes (names_data goals) None None None, [])
  unfolding define along_header along_dots at_key
  listed_first z = refl

  listed_none : (schedules resources : List Named) → run (listed_nodes (names_data goals) None None None, []) (no_lists_lines true schedules resources) ≡ Some (listed_nodes (names_data goals) (empty_node resources) (empty_node schedules) None, [])
  unfolding define along_header along_dots at_key
  listed_none [] [] = refl
  listed_none [] (r ∷ rs) = refl
  listed_none (s ∷ ss) [] = refl
  listed_none (s ∷ ss) (r ∷ rs) = refl

  schedule_found : (resources : Option Node) (x : Node) → get_node (codes "schedule") (schedule_spine resources x) ≡ Some x
  schedule_found None x = refl
  schedule_found (Some r) x = refl

  schedule_replaced : (resources : Option Node) (x y : Node) → replace (codes "schedule") y (schedule_spine resources x) ≡ schedule_spine resources y
  schedule_replaced None x y = refl
  schedule_replaced (Some r) x y = refl

  schedule_missing : (resources : Option Node) → get_node (codes "schedule") (listed_nodes (names_data goals) resources None None) ≡ None
  schedule_missing None = refl
  schedule_missing (Some r) = refl

  schedule_made : (resources : Option Node) → insert (codes "schedule") (open_array no_items no_nodes) (listed_nodes (names_data goals) resources None None) ≡ schedule_spine resources (open_array no_items no_nodes)
  schedule_made None = refl
  schedule_made (Some r) = refl

  -- the tables of the schedules, if any
  schedules_made : (resources : Option Node) (schedules : List Named)
      → Leaves (listed_nodes (names_data goals) resources (empty_node schedules) None, []) (schedule_lines goals schedules) (schedule_spine resources) (listed (map (named_entry (codes "targets") goals) schedules))
  schedules_made resources [] = record { node = value (array no_items); section = []; ran = refl; stands = refl }
  schedules_made resources (x ∷ xs) =
      schedules_leave (codes "schedule") (schedule_spine resources) (schedule_found resources) (schedule_replaced resources) (listed_nodes (names_data goals) resources None None) []
      (schedule_missing resources) (schedule_made resources) goals x xs

  -- the tables of the resources, if any
  resources_made : (schedules : Node) (section names : List (List ℕ)) (resources : List Named)
      → Leaves (listed_nodes (names_data goals) (empty_node resources) (Some schedules) None, section) (resource_lines names resources) (resource_spine schedules) (listed (map (named_entry (codes "schedules") names) resources))
  resources_made schedules section names [] = record { node = value (array no_items); section = section; ran = refl; stands = refl }
  resources_made schedules section names (x ∷ xs) =
      resources_leave (codes "resource") (resource_spine schedules) (λ x. refl) (λ x y. refl) (listed_nodes (names_data goals) None (Some schedules) None) section
      refl refl names x xs

  types_made : (resources schedules : Node) (section : List (List ℕ)) (types : List Attacker) → 1 ≤ length types
      → Leaves (listed_nodes (names_data goals) (Some resources) (Some schedules) None, section) (type_lines Security types) (type_spine resources schedules) (listed (map (type_entry Security) types))
  types_made resources schedules section types some =
      types_leave (codes "type") (type_spine resources schedules) (λ x. refl) (λ x y. refl) (listed_nodes (names_data goals) (Some resources) (Some schedules) None) section
      refl refl Security types some

  listed_closed : (r s t : Node) (resources schedules types : Data) → close_node r ≡ resources → close_node s ≡ schedules → close_node t ≡ types
      → close (type_spine r s t) ≡ resources_table None (names_data goals) schedules resources types
  listed_closed r s t resources schedules types a b c = rw (a, b, c)

  listed_make : (z : ℤ) (schedules resources : List Named) (names : List (List ℕ)) (types : List Attacker) → 1 ≤ length types
      → Makes (first_lines Security false z None goals ++ (no_lists_lines true schedules resources ++ (schedule_lines goals schedules ++ (resource_lines names resources ++ type_lines Security types))))
      (resources_table None (names_data goals) (listed (map (named_entry (codes "targets") goals) schedules)) (listed (map (named_entry (codes "schedules") names) resources)) (listed (map (type_entry Security) types)))
  listed_make z schedules resources names types some =
      let start : Document = (listed_nodes (names_data goals) None None None, []) in
      let empty : Document = (listed_nodes (names_data goals) (empty_node resources) (empty_node schedules) None, []) in
      let s = schedules_made (empty_node resources) schedules in
      let with_schedules : Document = (schedule_spine (empty_node resources) s.node, s.section) in
      let r = resources_made s.node s.section names resources in
      let with_resources : Document = (resource_spine s.node r.node, r.section) in
      let t = types_made r.node s.node r.section types some in
      let doc : Document = (type_spine r.node s.node t.node, t.section) in
      record {
        doc = doc;
        ran = then_run (no_nodes, []) start doc (first_lines Security false z None goals) _ (listed_first z)
            (then_run start empty doc (no_lists_lines true schedules resources) _ (listed_none schedules resources)
            (then_run empty with_schedules doc (schedule_lines goals schedules) _ s.ran
            (then_run with_schedules with_resources doc (resource_lines names resources) (type_lines Security types) r.ran t.ran)));
        closed = listed_closed r.node s.node t.node _ _ _ r.stands s.stands t.stands;
      }

-- ---- matrix form

abbrev matrix_base : Data → Nodes
matrix_base rows = node (codes "form") (value (string (codes "matrix"))) (node (codes "rows") (value rows) (node (codes "version") (value (integer (pos 1))) no_nodes))

abbrev matrix_spine : Data → Node → Nodes
matrix_spine rows types = node (codes "form") (value (string (codes "matrix"))) (node (codes "rows") (value rows) (node (codes "type") types (node (codes "version") (value (integer (pos 1))) no_nodes)))

matrix_first : (z : ℤ) (rows : List (List ℕ)) → run (no_nodes, []) (first_lines Matrix false z None rows) ≡ Some (matrix_base (names_data rows), [])
unfolding define along_header along_dots at_key
matrix_first z rows = refl

matrix_closed : (rows : Data) (t : Node) (types : Data) → close_node t ≡ types → close (matrix_spine rows t) ≡ matrix_table rows types
matrix_closed rows t types e = rw e

matrix_make : (z : ℤ) (rows : List (List ℕ)) (types : List Attacker) → 1 ≤ length types
    → Makes (first_lines Matrix false z None rows ++ type_lines Matrix types) (matrix_table (names_data rows) (listed (map (type_entry Matrix) types)))
matrix_make z rows types some =
    let t = types_leave (codes "type") (matrix_spine (names_data rows)) (λ x. refl) (λ x y. refl) (matrix_base (names_data rows)) [] refl refl Matrix types some in
    let doc : Document = (matrix_spine (names_data rows) t.node, t.section) in
    record {
      doc = doc;
      ran = then_run (no_nodes, []) (matrix_base (names_data rows), []) doc (first_lines Matrix false z None rows) (type_lines Matrix types) (matrix_first z rows) t.ran;
      closed = matrix_closed (names_data rows) t.node _ t.stands;
    }

-- ---- every game

-- no tables but those of the types
types_alone : (targets names : List (List ℕ)) (schedules resources : List Named) (first types : List Expression) (table : Members) → schedules ≡ [] → resources ≡ []
    → Makes (first ++ types) table → Makes (first ++ (schedule_lines targets schedules ++ (resource_lines names resources ++ types))) table
types_alone targets names schedules resources first types table no_schedules no_resources h = rw (no_schedules, no_resources) h

patrols_makes : (g : Game) (n : ℕ) → IsSecurityGame (record g { kind = Security; patrols = Some n }) → Makes (game_lines (record g { kind = Security; patrols = Some n })) (game_table_by Security (Some n) g)
patrols_makes g n h =
    types_alone g.goals _ g.schedules g.resources (first_lines Security (is_scaled g) g.scale (Some n) g.goals) (type_lines Security g.types) _ h.defended.no_schedules h.defended.no_resources
    (patrols_make g.scale n g.goals (is_scaled g) g.types h.types.count.at_least)

unscaled : (g : Game) → IsSecurityGame (record g { kind = Security; patrols = None }) → is_scaled g ≡ false
unscaled g h =
    elim (cases_Bool (is_scaled g)) [
      | inl scaled ↦ absurd ((h.scaled (omega (arith, ints, scaled))).identical refl)
      | inr none ↦ none
    ]

resources_make : (g : Game) (scaled : Bool) → scaled ≡ false → 1 ≤ length g.types
    → Makes (first_lines Security scaled g.scale None g.goals ++ (no_lists_lines true g.schedules g.resources ++ (schedule_lines g.goals g.schedules
    ++ (resource_lines (map (λ (x : Named). x.name) g.schedules) g.resources ++ type_lines Security g.types))))
    (resources_table (cond scaled (Some g.scale) None) (names_data g.goals) (schedule_entries g) (resource_entries g) (type_entries Security g))
resources_make g true e some = absurd (false≢true (sym e))
resources_make g false e some = listed_make g.goals g.scale g.schedules g.resources (map (λ (x : Named). x.name) g.schedules) g.types some

tables_make : (g : Game) (scaled : Bool) (patrols : Option ℕ) → scaled ≡ false → patrols ≡ None → 1 ≤ length g.types
    → Makes (first_lines Matrix scaled g.scale patrols g.goals ++ type_lines Matrix g.types) (matrix_table (names_data g.goals) (type_entries Matrix g))
tables_make g true patrols e f some = absurd (false≢true (sym e))
tables_make g false (Some n) e f some = absurd (none-some n (sym f))
tables_make g false None e f some = matrix_make g.scale g.goals g.types some

matrix_makes : (g : Game) (patrols : Option ℕ) → IsMatrixGame (record g { kind = Matrix; patrols = patrols }) → Makes (game_lines (record g { kind = Matrix; patrols = patrols })) (game_table_by Matrix patrols g)
matrix_makes g patrols h =
    types_alone g.goals _ g.schedules g.resources (first_lines Matrix (is_scaled g) g.scale patrols g.goals) (type_lines Matrix g.types) _ h.no_schedules h.no_resources
    (tables_make g (is_scaled g) patrols (ap (λ z. int_lt (pos 0) z) h.no_scale) h.no_patrols h.types.count.at_least)

game_makes : (g : Game) (kind : Kind) (patrols : Option ℕ) → IsGame (record g { kind = kind; patrols = patrols }) → Makes (game_lines (record g { kind = kind; patrols = patrols })) (game_table_by kind patrols g)
game_makes g Security (Some n) h = patrols_makes g n h
game_makes g Security None h = resources_make g (is_scaled g) (unscaled g h) h.types.count.at_least
game_makes g Matrix patrols h = matrix_makes g patrols h

-- ---- reading

-- a text that writes lines that make a table is read as that table
text_read : (es : List Expression) (text : List ℕ) (table : Members) → SpellsLines es text → (first text == 239) ≡ false → Makes es table → document_of text ≡ Ok table
unfolding document_of skip_bom
text_read es text table h no_mark made =
    let skipped : skip_bom text ≡ text = rw no_mark in
    let read = read_lines false true es text text (no_nodes, []) (suc (length text)) h.lines h.printed refl (omega arith) in
    let parsed : parse_document text ≡ Some table = document_some text made.doc (rw skipped (read ∙ made.ran)) ∙ ap (λ ms. Some ms) made.closed in
    let utf8 : is_utf8 text ≡ true = is_utf8-from_IsUtf8 text (IsUtf8-from_ascii text h.ascii) in
    rw (utf8, parsed) refl

no_mark : (g : Game) → (first (game_text g) == 239) ≡ false
unfolding game_text
no_mark g = refl

pub game_text_is_document : GameTextIsDocument
game_text_is_document g h = text_read (game_lines g) (game_text g) (game_table g) (game_writes g g.kind g.patrols h) (no_mark g) (game_makes g g.kind g.patrols h)

pub game_text_is_file : GameTextIsFile
unfolding game_of_bytes
game_text_is_file g h = rw (game_text_is_document g h) (document_of_game g h)

same_game : (r : Result Game GameFault) (g h : Game) → r ≡ Ok g → r ≡ Ok h → g ≡ h
same_game r g h e f = cc

pub game_text_tells_game : GameTextTellsGame
game_text_tells_game g h own other same = same_game (game_of_bytes (game_text g)) g h (game_text_is_file g own) (ap game_of_bytes same ∙ game_text_is_file h other)
