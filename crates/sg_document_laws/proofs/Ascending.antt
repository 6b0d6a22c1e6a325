-- The keys of the documents ascend.
use Rattle.std.proofs.Common.{◌≡◌, ℕ, true, List, [], ◌∷◌, map, ℤ, pos, Option, Some, None, string_bytes, refl}
use Rattle.std.specs.Prelude.{codes}
use Rattle.toml.specs.Data.{Data, integer, is_sorted, items_are_sorted, members_are_sorted, string}
use Rattle.sg_model.specs.declared.kind.Kind.{Kind}
use Rattle.sg_model.specs.declared.kind.Kind.TheVariants.{Security, Matrix}
use Rattle.sg_model.specs.Games.{Attacker, Game, Named}
use Rattle.sg_model.specs.Sums.{nth}
use Rattle.sg_game.specs.declared.parts.Parts.{Parts}
use Rattle.sg_game.specs.declared.parts.ListParts.{ListParts}
use Rattle.sg_game.specs.declared.parts.TypeParts.{TypeParts}
use Rattle.sg_game.specs.Counts.{four}
use Rattle.sg_game.specs.Seen.{number_lists, texts}
use Rattle.sg_format.specs.FaultExamples.{items_of}
use Rattle.sg_document_laws.specs.Documents.{declared_scale, game_table_by, named_entry, named_part, resource_entries, resource_parts, schedule_entries, schedule_parts, table_by, type_entries, type_entry, type_part, type_parts}
use Rattle.sg_document_laws.specs.Keys.{AscendingKeys}
use Rattle.sg_document_laws.specs.Tables.{matrix_table, matrix_type, named_data, names_data, patrols_table, pays_data, resources_table, security_type, table_data}

items_sorted : {X : Type 0} (spell : X → Data) → ((x : X) → is_sorted (spell x) ≡ true) → (xs : List X) → items_are_sorted (items_of (map spell xs)) ≡ true
items_sorted spell each [] = refl
items_sorted spell each (x ∷ xs) = rw (each x, items_sorted spell each xs) refl

names_sorted : (names : List (List ℕ)) → is_sorted (names_data names) ≡ true
names_sorted names = items_sorted string (λ name. refl) names

table_sorted : (lists : List (List ℤ)) → is_sorted (table_data lists) ≡ true
table_sorted lists = items_sorted pays_data (λ row. items_sorted integer (λ z. refl) row) lists

-- entries

targets_sorted : (names : List (List ℕ)) (name : List ℕ) (members : List ℕ) → is_sorted (named_data (codes "targets") names name members) ≡ true
targets_sorted names name members = rw (names_sorted (map (λ m. nth names m []) members)) refl

schedules_sorted : (names : List (List ℕ)) (name : List ℕ) (members : List ℕ) → is_sorted (named_data (codes "schedules") names name members) ≡ true
schedules_sorted names name members = rw (names_sorted (map (λ m. nth names m []) members)) refl

security_sorted : (name : List ℕ) (prior : ℤ) (payoffs : List (List ℤ)) → is_sorted (security_type name prior payoffs) ≡ true
security_sorted name prior payoffs = rw (table_sorted payoffs) refl

matrix_sorted : (name : List ℕ) (prior : ℤ) (actions : List (List ℕ)) (leader follower : List (List ℤ)) → is_sorted (matrix_type name prior actions leader follower) ≡ true
matrix_sorted name prior actions leader follower = rw (names_sorted actions, table_sorted follower, table_sorted leader) refl

part_sorted : (kind : Kind) (x : TypeParts) → is_sorted (type_part kind x) ≡ true
part_sorted Security x = security_sorted (string_bytes x.name) x.prior (number_lists x.payoffs.items)
part_sorted Matrix x = matrix_sorted (string_bytes x.name) x.prior (texts x.actions.items) (number_lists x.leader.items) (number_lists x.follower.items)

entry_sorted : (kind : Kind) (x : Attacker) → is_sorted (type_entry kind x) ≡ true
entry_sorted Security x = security_sorted x.name x.prior (map four x.payoffs)
entry_sorted Matrix x = matrix_sorted x.name x.prior x.actions x.leader x.follower

-- whole documents

patrols_sorted : (scale : Option ℤ) (patrols : ℤ) (targets types : Data) → is_sorted targets ≡ true → is_sorted types ≡ true → members_are_sorted (patrols_table scale patrols targets types) ≡ true
patrols_sorted (Some scale) patrols targets types a b = rw (a, b) refl
patrols_sorted None patrols targets types a b = rw (a, b) refl

resources_sorted : (scale : Option ℤ) (targets schedules resources types : Data) → is_sorted targets ≡ true → is_sorted schedules ≡ true → is_sorted resources ≡ true → is_sorted types ≡ true
    → members_are_sorted (resources_table scale targets schedules resources types) ≡ true
resources_sorted (Some scale) targets schedules resources types a b c d = rw (a, b, c, d) refl
resources_sorted None targets schedules resources types a b c d = rw (a, b, c, d) refl

rows_sorted : (goals types : Data) → is_sorted goals ≡ true → is_sorted types ≡ true → members_are_sorted (matrix_table goals types) ≡ true
rows_sorted goals types a b = rw (a, b) refl

parts_sorted : (p : Parts) (kind : Kind) (patrols : Option ℤ) → members_are_sorted (table_by kind patrols p) ≡ true
parts_sorted p Security (Some patrols) =
    patrols_sorted p.scale patrols (names_data (texts p.goals.items)) (type_parts Security p) (names_sorted (texts p.goals.items)) (items_sorted (type_part Security) (part_sorted Security) p.types.items)
parts_sorted p Security None =
    let titles : List (List ℕ) = map (λ (x : ListParts). string_bytes x.name) p.schedules.items in
    resources_sorted p.scale (names_data (texts p.goals.items)) (schedule_parts p) (resource_parts p) (type_parts Security p) (names_sorted (texts p.goals.items))
    (items_sorted (named_part (codes "targets") (texts p.goals.items)) (λ x. targets_sorted (texts p.goals.items) (string_bytes x.name) x.members.items) p.schedules.items)
    (items_sorted (named_part (codes "schedules") titles) (λ x. schedules_sorted titles (string_bytes x.name) x.members.items) p.resources.items)
    (items_sorted (type_part Security) (part_sorted Security) p.types.items)
parts_sorted p Matrix patrols =
    rows_sorted (names_data (texts p.goals.items)) (type_parts Matrix p) (names_sorted (texts p.goals.items)) (items_sorted (type_part Matrix) (part_sorted Matrix) p.types.items)

game_sorted : (g : Game) (kind : Kind) (patrols : Option ℕ) → members_are_sorted (game_table_by kind patrols g) ≡ true
game_sorted g Security (Some patrols) =
    patrols_sorted (declared_scale g) (pos patrols) (names_data g.goals) (type_entries Security g) (names_sorted g.goals) (items_sorted (type_entry Security) (entry_sorted Security) g.types)
game_sorted g Security None =
    let titles : List (List ℕ) = map (λ (x : Named). x.name) g.schedules in
    resources_sorted (declared_scale g) (names_data g.goals) (schedule_entries g) (resource_entries g) (type_entries Security g) (names_sorted g.goals)
    (items_sorted (named_entry (codes "targets") g.goals) (λ x. targets_sorted g.goals x.name x.members) g.schedules)
    (items_sorted (named_entry (codes "schedules") titles) (λ x. schedules_sorted titles x.name x.members) g.resources)
    (items_sorted (type_entry Security) (entry_sorted Security) g.types)
game_sorted g Matrix patrols =
    rows_sorted (names_data g.goals) (type_entries Matrix g) (names_sorted g.goals) (items_sorted (type_entry Matrix) (entry_sorted Matrix) g.types)

pub ascending : AscendingKeys
ascending = record { parts = λ p. parts_sorted p p.kind p.patrols; games = λ g. game_sorted g g.kind g.patrols }
