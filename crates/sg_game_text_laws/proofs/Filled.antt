-- What the lines of tables, one after another, do to the document that is read.
use Rattle.std.proofs.Common.{◌≡◌, ◌∙◌, ℕ, List, [], ◌∷◌, ◌++◌, map, Option, Some, None, option_and_then, refl, sym, ap}
use Rattle.std.specs.Prelude.{flat_map}
use Rattle.toml.specs.Data.{Data, Items, no_items, push_item, table}
use Rattle.toml.specs.Tables.{Document, Expression, Node, Nodes, along_header, at_key, close, define, get_node, insert, no_nodes, open_array, put, replace}
use Rattle.toml.proofs.Fill.{run-append}
use Rattle.toml.proofs.ReadLines.{run}
use Rattle.toml.proofs.ReadValues.{item_join, item_join-none, item_join-push}
use Rattle.sg_format.specs.FaultExamples.{items_of}
use Rattle.sg_game_text_laws.proofs.Lines.{pair, table_head}

-- keys and their values, in the order in which they are written
abbrev pub Pairs : Type 0
Pairs = List (List ℕ × Data)

-- the lines of a table: its head, and a line for each key
abbrev pub pair_lines : Pairs → List Expression
pair_lines ps = map (λ (p : List ℕ × Data). pair p.0 p.1) ps

abbrev pub table_lines : List ℕ → Pairs → List Expression
table_lines key ps = table_head key ∷ pair_lines ps

-- the values at the keys, put one after another
abbrev pub puts : Pairs → Nodes → Option Nodes
puts [] ns = Some ns
puts (p ∷ ps) ns = option_and_then (puts ps) (put ([], p.0) p.1 ns)

-- one after another
pub then_run : (doc mid end : Document) (es fs : List Expression) → run doc es ≡ Some mid → run mid fs ≡ Some end → run doc (es ++ fs) ≡ Some end
then_run doc mid end es fs first second = run-append doc es fs ∙ rw first second

-- A document with a node at a key, and another one there.
module _ (key : List ℕ) (spine : Node → Nodes) (found : (x : Node) → get_node key (spine x) ≡ Some x) (replaced : (x y : Node) → replace key y (spine x) ≡ spine y) where
  pair_step : (done : Items) (ns new : Nodes) (p : List ℕ × Data) → put ([], p.0) p.1 ns ≡ Some new
      → define (spine (open_array done ns), key ∷ []) (pair p.0 p.1) ≡ Some (spine (open_array done new), key ∷ [])
  unfolding define along_header
  pair_step done ns new p h = rw (found (open_array done ns), h, replaced (open_array done ns) (open_array done new))

  pairs_step : (done : Items) (ps : Pairs) (ns new : Nodes) → puts ps ns ≡ Some new → run (spine (open_array done ns), key ∷ []) (pair_lines ps) ≡ Some (spine (open_array done new), key ∷ [])
  pairs_step done [] ns new h = ap (λ (o : Option Nodes). option_and_then (λ n. Some (spine (open_array done n), key ∷ [])) o) h
  pairs_step done (p ∷ ps) ns new h = by_put (put ([], p.0) p.1 ns) refl (λ next rest. pairs_step done ps next new rest)
    where
      by_put : (o : Option Nodes) → put ([], p.0) p.1 ns ≡ o → ((next : Nodes) → puts ps next ≡ Some new → run (spine (open_array done next), key ∷ []) (pair_lines ps) ≡ Some (spine (open_array done new), key ∷ []))
          → run (spine (open_array done ns), key ∷ []) (pair_lines (p ∷ ps)) ≡ Some (spine (open_array done new), key ∷ [])
      by_put None e more = absurd (cc)
      by_put (Some next) e more = rw (pair_step done ns next p e) (more next (rw e at h))

  head_step : (done : Items) (ns : Nodes) (section : List (List ℕ)) → define (spine (open_array done ns), section) (table_head key) ≡ Some (spine (open_array (push_item done (table (close ns))) no_nodes), key ∷ [])
  unfolding define along_header at_key
  head_step done ns section = rw (found (open_array done ns), replaced (open_array done ns) (open_array (push_item done (table (close ns))) no_nodes))

  -- the document after some tables
  pub record Fills (doc : Document) (es : List Expression) (items : Items) : Type 0 where
    pub done : Items
    pub last : Nodes
    pub section : List (List ℕ)
    pub ran : run doc es ≡ Some (spine (open_array done last), section)
    pub whole : push_item done (table (close last)) ≡ items

  module _ {X : Type 0} (pairs_of : X → Pairs) (nodes_of : X → Nodes) (put_all : (x : X) → puts (pairs_of x) no_nodes ≡ Some (nodes_of x)) where
    -- the table of each
    abbrev pub table_of : X → Data
    table_of x = table (close (nodes_of x))

    abbrev pub tables_lines : List X → List Expression
    tables_lines xs = flat_map (λ x. table_lines key (pairs_of x)) xs

    -- tables behind one
    more_tables : (xs : List X) (done : Items) (ns : Nodes) (section : List (List ℕ))
        → Fills (spine (open_array done ns), section) (tables_lines xs) (item_join (push_item done (table (close ns))) (items_of (map table_of xs)))
    more_tables [] done ns section = record { done = done; last = ns; section = section; ran = refl; whole = sym (item_join-none (push_item done (table (close ns)))) }
    more_tables (x ∷ xs) done ns section =
        let made : Items = push_item done (table (close ns)) in
        let rest = more_tables xs made (nodes_of x) (key ∷ []) in
        let own : run (spine (open_array done ns), section) (table_lines key (pairs_of x)) ≡ Some (spine (open_array made (nodes_of x)), key ∷ []) =
        rw (head_step done ns section) (pairs_step made (pairs_of x) no_nodes (nodes_of x) (put_all x)) in
        record {
          done = rest.done;
          last = rest.last;
          section = rest.section;
          ran = then_run (spine (open_array done ns), section) (spine (open_array made (nodes_of x)), key ∷ []) (spine (open_array rest.done rest.last), rest.section) (table_lines key (pairs_of x)) (tables_lines xs) own rest.ran;
          whole = rest.whole ∙ item_join-push made (table_of x) (items_of (map table_of xs));
        }

    -- the first table makes the node
    pub all_tables : (base : Nodes) (section : List (List ℕ)) → get_node key base ≡ None → insert key (open_array no_items no_nodes) base ≡ spine (open_array no_items no_nodes)
        → (x : X) (xs : List X) → Fills (base, section) (tables_lines (x ∷ xs)) (items_of (map table_of (x ∷ xs)))
    unfolding define along_header at_key
    all_tables base section missing made x xs =
        let rest = more_tables xs no_items (nodes_of x) (key ∷ []) in
        let opened : define (base, section) (table_head key) ≡ Some (spine (open_array no_items no_nodes), key ∷ []) = rw (missing, made) in
        let own : run (base, section) (table_lines key (pairs_of x)) ≡ Some (spine (open_array no_items (nodes_of x)), key ∷ []) =
        rw opened (pairs_step no_items (pairs_of x) no_nodes (nodes_of x) (put_all x)) in
        record {
          done = rest.done;
          last = rest.last;
          section = rest.section;
          ran = then_run (base, section) (spine (open_array no_items (nodes_of x)), key ∷ []) (spine (open_array rest.done rest.last), rest.section) (table_lines key (pairs_of x)) (tables_lines xs) own rest.ran;
          whole = rest.whole;
        }
