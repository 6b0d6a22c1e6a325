-- The tables of a game file, as TOML reads them, from the values that stand in them.
use Rattle.std.specs.Prelude.{ℕ, List, [], map, ℤ, pos, Option, Some, None, codes}
use Rattle.toml.specs.Data.{Data, Members, no_members, member, integer, string, table}
use Rattle.sg_model.specs.Sums.{nth}
use Rattle.sg_format.specs.FaultExamples.{listed}

-- an array of texts
abbrev pub names_data : List (List ℕ) → Data
names_data names = listed (map string names)

-- an array of numbers
abbrev pub pays_data : List ℤ → Data
pays_data pays = listed (map integer pays)

-- an array of arrays of numbers
abbrev pub table_data : List (List ℤ) → Data
table_data lists = listed (map pays_data lists)

-- the names of what the members number, counted from 1; where a number stands for nothing, the empty text, which is no name
abbrev pub member_names : List (List ℕ) → List ℕ → List (List ℕ)
member_names names members = map (λ m. nth names m []) members

-- the table of a schedule or a resource: its name, and at the key the names of its members
abbrev pub named_data : List ℕ → List (List ℕ) → List ℕ → List ℕ → Data
named_data key names name members = table (
    member (codes "name") (string name) (
    member key (names_data (member_names names members))
    no_members))

-- the table of a type in security form, from its name, its prior and its payoffs
abbrev pub security_type : List ℕ → ℤ → List (List ℤ) → Data
security_type name prior payoffs = table (
    member (codes "name") (string name) (
    member (codes "payoffs") (table_data payoffs) (
    member (codes "prior") (integer prior)
    no_members)))

-- the table of a type in matrix form, from its name, its prior, its actions and the payoffs of the leader and the follower
abbrev pub matrix_type : List ℕ → ℤ → List (List ℕ) → List (List ℤ) → List (List ℤ) → Data
matrix_type name prior actions leader follower = table (
    member (codes "actions") (names_data actions) (
    member (codes "follower") (table_data follower) (
    member (codes "leader") (table_data leader) (
    member (codes "name") (string name) (
    member (codes "prior") (integer prior)
    no_members)))))

-- the members, behind the scale where one is given
abbrev pub with_scale : Option ℤ → Members → Members
with_scale (Some scale) rest = member (codes "scale") (integer scale) rest
with_scale None rest = rest

-- the document of a game of identical patrols, from its scale, its patrols, its targets and its types
abbrev pub patrols_table : Option ℤ → ℤ → Data → Data → Members
patrols_table scale patrols targets types =
    member (codes "form") (string (codes "security")) (
    member (codes "patrols") (integer patrols) (
    with_scale scale (
    member (codes "targets") targets (
    member (codes "type") types (
    member (codes "version") (integer (pos 1))
    no_members)))))

-- the document of a game of listed resources, from its scale, which it must not have, its targets, its schedules, its resources and its types
abbrev pub resources_table : Option ℤ → Data → Data → Data → Data → Members
resources_table scale targets schedules resources types =
    member (codes "form") (string (codes "security")) (
    member (codes "resource") resources (
    with_scale scale (
    member (codes "schedule") schedules (
    member (codes "targets") targets (
    member (codes "type") types (
    member (codes "version") (integer (pos 1))
    no_members))))))

-- the document of a game in matrix form, from its rows and its types
abbrev pub matrix_table : Data → Data → Members
matrix_table rows types =
    member (codes "form") (string (codes "matrix")) (
    member (codes "rows") rows (
    member (codes "type") types (
    member (codes "version") (integer (pos 1))
    no_members)))
