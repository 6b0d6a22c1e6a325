-- What the lines of a game's canonical text leave at each key of the document that is read.
use Rattle.std.proofs.Common.{◌≡◌, ℕ, ◌≤◌, List, [], ◌∷◌, length, map, Some, None, refl, ap, arith}
use Rattle.std.specs.Prelude.{codes, flat_map}
use Rattle.toml.specs.Data.{Data, Items, array, integer, no_items, string}
use Rattle.toml.specs.Tables.{Document, Expression, Node, Nodes, along_dots, at_key, close_node, get_node, insert, no_nodes, node, open_array, replace, value}
use Rattle.toml.proofs.ReadLines.{run}
use Rattle.sg_model.specs.declared.kind.Kind.{Kind}
use Rattle.sg_model.specs.declared.kind.Kind.TheVariants.{Security, Matrix}
use Rattle.sg_model.specs.Games.{Attacker, Named}
use Rattle.sg_game.specs.Counts.{four}
use Rattle.sg_format.specs.FaultExamples.{listed}
use Rattle.sg_document_laws.specs.Tables.{member_names, names_data, table_data}
use Rattle.sg_document_laws.specs.Documents.{named_entry, type_entry}
use Rattle.sg_game_text_laws.proofs.Filled.{Fills, all_tables, puts, table_lines}
use Rattle.sg_game_text_laws.proofs.GameLines.{named_pairs, type_pairs}

-- ---- tables

-- a schedule or a resource, its keys in order
abbrev named_nodes : List ℕ → List (List ℕ) → Named → Nodes
named_nodes members_key names x = node (codes "name") (value (string x.name)) (node members_key (value (names_data (member_names names x.members))) no_nodes)

put_schedule : (names : List (List ℕ)) (x : Named) → puts (named_pairs (codes "targets") names x) no_nodes ≡ Some (named_nodes (codes "targets") names x)
unfolding along_dots at_key
put_schedule names x = refl

put_resource : (names : List (List ℕ)) (x : Named) → puts (named_pairs (codes "schedules") names x) no_nodes ≡ Some (named_nodes (codes "schedules") names x)
unfolding along_dots at_key
put_resource names x = refl

-- a type
abbrev type_nodes : Kind → Attacker → Nodes
type_nodes Security x = node (codes "name") (value (string x.name)) (node (codes "payoffs") (value (table_data (map four x.payoffs))) (node (codes "prior") (value (integer x.prior)) no_nodes))
type_nodes Matrix x =
    node (codes "actions") (value (names_data x.actions)) (
    node (codes "follower") (value (table_data x.follower)) (
    node (codes "leader") (value (table_data x.leader)) (
    node (codes "name") (value (string x.name)) (
    node (codes "prior") (value (integer x.prior))
    no_nodes))))

put_type : (kind : Kind) (x : Attacker) → puts (type_pairs kind x) no_nodes ≡ Some (type_nodes kind x)
unfolding along_dots at_key
put_type Security x = refl
put_type Matrix x = refl

-- ---- lists of tables

-- after these lines the document has a node there that stands for the value
pub record Leaves (doc : Document) (es : List Expression) (spine : Node → Nodes) (d : Data) : Type 0 where
  pub node : Node
  pub section : List (List ℕ)
  pub ran : run doc es ≡ Some (spine node, section)
  pub stands : close_node node ≡ d

module _ (key : List ℕ) (spine : Node → Nodes) (found : (x : Node) → get_node key (spine x) ≡ Some x) (replaced : (x y : Node) → replace key y (spine x) ≡ spine y) where
  filled : (doc : Document) (es : List Expression) (its : Items) → Fills key spine found replaced doc es its → Leaves doc es spine (array its)
  filled doc es its f = record { node = open_array f.done f.last; section = f.section; ran = f.ran; stands = ap array f.whole }

  module _ (base : Nodes) (section : List (List ℕ)) (missing : get_node key base ≡ None) (made : insert key (open_array no_items no_nodes) base ≡ spine (open_array no_items no_nodes)) where
    some_types : (kind : Kind) (x : Attacker) (xs : List Attacker) → Leaves (base, section) (flat_map (λ x. table_lines key (type_pairs kind x)) (x ∷ xs)) spine (listed (map (type_entry kind) (x ∷ xs)))
    some_types Security x xs =
        filled _ _ _ (all_tables key spine found replaced (type_pairs Security) (type_nodes Security) (put_type Security) base section missing made x xs)
    some_types Matrix x xs =
        filled _ _ _ (all_tables key spine found replaced (type_pairs Matrix) (type_nodes Matrix) (put_type Matrix) base section missing made x xs)

    -- one type or more
    pub types_leave : (kind : Kind) (types : List Attacker) → 1 ≤ length types → Leaves (base, section) (flat_map (λ x. table_lines key (type_pairs kind x)) types) spine (listed (map (type_entry kind) types))
    types_leave kind [] some = absurd (omega arith)
    types_leave kind (x ∷ xs) some = some_types kind x xs

    pub schedules_leave : (names : List (List ℕ)) (x : Named) (xs : List Named)
        → Leaves (base, section) (flat_map (λ x. table_lines key (named_pairs (codes "targets") names x)) (x ∷ xs)) spine (listed (map (named_entry (codes "targets") names) (x ∷ xs)))
    schedules_leave names x xs =
        filled _ _ _ (all_tables key spine found replaced (named_pairs (codes "targets") names) (named_nodes (codes "targets") names) (put_schedule names) base section missing made x xs)

    pub resources_leave : (names : List (List ℕ)) (x : Named) (xs : List Named)
        → Leaves (base, section) (flat_map (λ x. table_lines key (named_pairs (codes "schedules") names x)) (x ∷ xs)) spine (listed (map (named_entry (codes "schedules") names) (x ∷ xs)))
    resources_leave names x xs =
        filled _ _ _ (all_tables key spine found replaced (named_pairs (codes "schedules") names) (named_nodes (codes "schedules") names) (put_resource names) base section missing made x xs)
