-- A linear program that is too large is refused.
use Rattle.std.proofs.Common.{◌≡◌, ℕ, ◌<◌, ◌≤◌, ◌+◌, Bool, false, nat_le, List, [], length, map, pos, Some, None, Result, Ok, Err, is_some, refl, sym, ap, ◌∙◌, arith}
use Rattle.std.specs.Prelude.{codes, if◌then◌else◌}
use Rattle.std.proofs.lemmas.Bool.{true≢false}
use Rattle.std.proofs.lemmas.Bool.Decides.{nat_tests}
use Rattle.toml.specs.Data.{Data, Items, Members, array, get_member, integer}
use Rattle.sg_model.specs.declared.fault.Place.TheVariants as place_of
use Rattle.sg_model.specs.declared.fault.GameFault.{GameFault}
use Rattle.sg_model.specs.declared.kind.Kind.TheVariants.{Security, Matrix}
use Rattle.sg_model.specs.Games.{Attacker, Game, Named, is_kind_matrix, resource_count}
use Rattle.sg_model.specs.Limits.{is_scaled, program_rows}
use Rattle.sg_format.specs.Steps.{refused}
use Rattle.sg_model.specs.declared.reason.TheConstants.{TOO_LARGE}
use Rattle.sg_format.specs.Lists.{each, few_at, item_count, named_at, named_lists_at, names_at, resources_at, schedules_at, some_at}
use Rattle.sg_format.specs.Types.{security_type_at, security_types_at}
use Rattle.sg_model.specs.Sums.{positive_part}
use Rattle.sg_format.specs.GameFiles.{game_of_table, is_patrols_key, is_resources_key, limits_of, listed_game}
use Rattle.sg_format.specs.Changes.{DiffersAt, fault_in}
use Rattle.sg_format.specs.PartLaws.{LongProgramIsRefused, rows_for}
use Rattle.sg_format.proofs.Inversion.{after}
use Rattle.sg_format.proofs.Keys.{apart, changed_only}
use Rattle.sg_format.proofs.Files.{IsHeaded, IsListedFile, IsPatrolsFile, by_file}
use Rattle.sg_format.proofs.Faults.{headed}
use Rattle.sg_format.proofs.FaultyLists.{IsListedTable, kept, listed_steps, listed_to, unscaled}
use Rattle.sg_format.proofs.Listed.{length-each}
use Rattle.sg_format.proofs.Entries.{few_is, some_is}
use Rattle.sg_format.proofs.Accepted.{game_of_table-game}
use Rattle.sg_format.proofs.Shapes.{matrix_form}
use Rattle.std.proofs.lemmas.Int.{ints}
use Rattle.sg_format.specs.Documents.{number_at}
use Rattle.sg_format.proofs.Scales.{IsRead, limits_fail, read_game}
use Rattle.sg_format.proofs.OtherPayoffs.{number_right}

reads_by : {A : Type 0} (r : Result A GameFault) → fault_in r ≡ None → (x : A) × (r ≡ Ok x)
reads_by (Ok x) e = (x, refl)
reads_by (Err fault) e = absurd (cc)

-- as many types as entries
types_count : (targets : ℕ) (items : Items) (types : List Attacker) → security_types_at false targets (array items) ≡ Ok types → length types ≡ item_count items
unfolding security_types_at
types_count targets items types h =
    after (some_at place_of.Document 8 (array items)) h (λ found e rest.
    let read : List Attacker → Data → Result Attacker GameFault = λ others. security_type_at (place_of.Attacker (length others + 1)) false targets others in
    let whole : each read [] items ≡ Ok types = rw (some_is place_of.Document 8 items found e) at rest in
    omega (arith, length-each read [] items types whole))

rows_fail : (g : Game) → 1536 < program_rows g → limits_of g false ≡ refused TOO_LARGE place_of.Document
unfolding limits_of
rows_fail g many = let long : nat_le (program_rows g) 1536 ≡ false = grind (arith, nat_tests) in rw long refl

patrols_count : (g : Game) (n : ℕ) → g.patrols ≡ Some n → resource_count g ≡ n
patrols_count g n e = rw e refl

listed_count : (g : Game) → g.patrols ≡ None → resource_count g ≡ length g.resources
listed_count g e = rw e refl

limits_off : (g : Game) (scaled : Bool) → scaled ≡ false → limits_of g false ≡ refused TOO_LARGE place_of.Document → limits_of g scaled ≡ refused TOO_LARGE place_of.Document
limits_off g scaled e h = rw e h

patrols_program : (first second : Members) (g : Game) (given : Data) (items : Items) → IsHeaded first Security → get_member (codes "patrols") first ≡ Some given → IsPatrolsFile given first g
    → is_scaled g ≡ false → DiffersAt (codes "type") (Some (array items)) first second → fault_in (security_types_at (is_scaled g) (length g.goals) (array items)) ≡ None
    → 1536 < rows_for (resource_count g) (length g.goals) (item_count items) → game_of_table second ≡ refused TOO_LARGE place_of.Document
patrols_program first second g given items head there p off d fine many =
    let key = codes "type" in
    let declared = get_member (codes "scale") first in
    let none : is_some declared ≡ false = sym p.scaled ∙ off in
    let read_types = reads_by (security_types_at false (length g.goals) (array items)) (rw off at fine) in
    let types = read_types.0 in
    let game = read_game g.goals p.scale p.count types in
    let still = d.elsewhere (codes "patrols") (apart (codes "patrols") key refl) ∙ there in
    let read : IsRead given second declared p.listed (array items) g.goals p.scale p.count types = record {
      keys = changed_only is_patrols_key key (Some (array items)) first second d refl p.known;
      targets_there = d.elsewhere (codes "targets") (apart (codes "targets") key refl) ∙ p.targets_there;
      types_there = d.here;
      scale_there = d.elsewhere (codes "scale") (apart (codes "scale") key refl);
      targets_read = p.targets;
      scale_read = p.scale_read;
      count_read = p.count_read;
      types_read = types_off (is_some declared) (length g.goals) (array items) types none read_types.1;
    } in
    let size = types_count (length g.goals) items types read_types.1 in
    let hands : resource_count g ≡ positive_part p.count = patrols_count g p.patrols p.identical ∙ p.counted in
    let long : 1536 < program_rows game = rw (hands, sym size) at many in
    headed key (Some (array items)) first second Security d head (apart (codes "version") key refl) (apart (codes "form") key refl)
    ∙ (rw still (limits_fail given second declared p.listed (array items) g.goals p.scale p.count types (record { reason = TOO_LARGE; place = place_of.Document }) read
    (limits_off game (is_some declared) none (rows_fail game long))))
  where
    types_off : (scaled : Bool) (targets : ℕ) (value : Data) (types : List Attacker) → scaled ≡ false → security_types_at false targets value ≡ Ok types → security_types_at scaled targets value ≡ Ok types
    types_off scaled targets value types e h = rw e h

-- the game of listed schedules and resources with these values
abbrev listed_of : List (List ℕ) → List Named → List Named → List Attacker → Game
listed_of targets schedules resources types = record { kind = Security; scale = pos 0; patrols = None; goals = targets; schedules = schedules; resources = resources; types = types }

listed_limits_fail : (listed given manned attackers : Data) (targets : List (List ℕ)) (schedules resources : List Named) (types : List Attacker) (fault : GameFault)
    → names_at place_of.Document place_of.Target 200 listed ≡ Ok targets → schedules_at targets given ≡ Ok schedules → resources_at schedules manned ≡ Ok resources
    → security_types_at false (length targets) attackers ≡ Ok types → limits_of (listed_of targets schedules resources types) false ≡ Err fault → listed_game listed given manned attackers ≡ Err fault
unfolding listed_game
listed_limits_fail listed given manned attackers targets schedules resources types fault n s r t f = rw (n, s, r, t, f) refl

listed_program : (first second : Members) (g : Game) (items : Items) → IsHeaded first Security → get_member (codes "patrols") first ≡ None → IsListedFile first g
    → DiffersAt (codes "type") (Some (array items)) first second → fault_in (security_types_at false (length g.goals) (array items)) ≡ None
    → 1536 < rows_for (resource_count g) (length g.goals) (item_count items) → game_of_table second ≡ refused TOO_LARGE place_of.Document
listed_program first second g items head there l d fine many =
    let key = codes "type" in
    let read_types = reads_by (security_types_at false (length g.goals) (array items)) fine in
    let types = read_types.0 in
    let keys : IsListedTable second l.listed l.given l.manned (array items) = record {
      known = changed_only is_resources_key key (Some (array items)) first second d refl l.known;
      no_scale = unscaled key (Some (array items)) first second d refl l.no_scale;
      targets = kept (codes "targets") key (Some (array items)) l.listed first second d refl l.targets_there;
      schedules = kept (codes "schedule") key (Some (array items)) l.given first second d refl l.schedules_there;
      resources = kept (codes "resource") key (Some (array items)) l.manned first second d refl l.resources_there;
      types = d.here;
    } in
    let size = types_count (length g.goals) items types read_types.1 in
    let long : 1536 < program_rows (listed_of g.goals g.schedules g.resources types) = rw (listed_count g l.no_patrols, sym size) at many in
    listed_to key (array items) first second head there d (apart (codes "version") key refl) (apart (codes "form") key refl) (apart (codes "patrols") key refl)
    ∙ (listed_steps second l.listed l.given l.manned (array items) keys
    ∙ listed_limits_fail l.listed l.given l.manned (array items) g.goals g.schedules g.resources types (record { reason = TOO_LARGE; place = place_of.Document }) l.targets l.schedules l.resources read_types.1
    (rows_fail (listed_of g.goals g.schedules g.resources types) long))

-- more patrols
more_patrols : (first second : Members) (g : Game) (given : Data) (n : ℕ) → IsHeaded first Security → get_member (codes "patrols") first ≡ Some given → IsPatrolsFile given first g
    → is_scaled g ≡ false → DiffersAt (codes "patrols") (Some (integer (pos n))) first second → n ≤ 32 → 1536 < rows_for n (length g.goals) (length g.types)
    → game_of_table second ≡ refused TOO_LARGE place_of.Document
more_patrols first second g given n head there p off d few many =
    let key = codes "patrols" in
    let declared = get_member (codes "scale") first in
    let none : is_some declared ≡ false = sym p.scaled ∙ off in
    let game = read_game g.goals p.scale (pos n) g.types in
    let here = d.here in
    let read : IsRead (integer (pos n)) second declared p.listed p.attackers g.goals p.scale (pos n) g.types = record {
      keys = changed_only is_patrols_key key (Some (integer (pos n))) first second d refl p.known;
      targets_there = d.elsewhere (codes "targets") (apart (codes "targets") key refl) ∙ p.targets_there;
      types_there = d.elsewhere (codes "type") (apart (codes "type") key refl) ∙ p.types_there;
      scale_there = d.elsewhere (codes "scale") (apart (codes "scale") key refl);
      targets_read = p.targets;
      scale_read = p.scale_read;
      count_read = count_off (is_some declared) none;
      types_read = p.types;
    } in
    headed key (Some (integer (pos n))) first second Security d head (apart (codes "version") key refl) (apart (codes "form") key refl)
    ∙ (rw here (limits_fail (integer (pos n)) second declared p.listed p.attackers g.goals p.scale (pos n) g.types (record { reason = TOO_LARGE; place = place_of.Document }) read
    (limits_off game (is_some declared) none (rows_fail game many))))
  where
    count_off : (scaled : Bool) → scaled ≡ false → number_at place_of.Document (pos 0) (pos (if scaled then 200 else 32)) (integer (pos n)) ≡ Ok (pos n)
    count_off scaled e = rw e (number_right place_of.Document (pos 0) (pos 32) (pos n) (record { at_least = omega (arith, ints); at_most = omega (arith, ints, few) }))

-- as many resources as entries
resources_count : (schedules : List Named) (items : Items) (resources : List Named) → resources_at schedules (array items) ≡ Ok resources → length resources ≡ item_count items
unfolding named_lists_at
resources_count schedules items resources h =
    after (few_at place_of.Document 32 (array items)) h (λ found e rest.
    let read : List Named → Data → Result Named GameFault = λ others. named_at (place_of.Resource (length others + 1)) (codes "schedules") (map (λ (x : Named). x.name) schedules) 500 others in
    let whole : each read [] items ≡ Ok resources = rw (few_is place_of.Document 32 items found e) at rest in
    omega (arith, length-each read [] items resources whole))

-- other resources
more_resources : (first second : Members) (g : Game) (items : Items) → IsHeaded first Security → get_member (codes "patrols") first ≡ None → IsListedFile first g
    → DiffersAt (codes "resource") (Some (array items)) first second → fault_in (resources_at g.schedules (array items)) ≡ None
    → 1536 < rows_for (item_count items) (length g.goals) (length g.types) → game_of_table second ≡ refused TOO_LARGE place_of.Document
more_resources first second g items head there l d fine many =
    let key = codes "resource" in
    let read = reads_by (resources_at g.schedules (array items)) fine in
    let keys : IsListedTable second l.listed l.given (array items) l.attackers = record {
      known = changed_only is_resources_key key (Some (array items)) first second d refl l.known;
      no_scale = unscaled key (Some (array items)) first second d refl l.no_scale;
      targets = kept (codes "targets") key (Some (array items)) l.listed first second d refl l.targets_there;
      schedules = kept (codes "schedule") key (Some (array items)) l.given first second d refl l.schedules_there;
      resources = d.here;
      types = kept (codes "type") key (Some (array items)) l.attackers first second d refl l.types_there;
    } in
    let size = resources_count g.schedules items read.0 read.1 in
    let long : 1536 < program_rows (listed_of g.goals g.schedules read.0 g.types) = rw (sym size) at many in
    listed_to key (array items) first second head there d (apart (codes "version") key refl) (apart (codes "form") key refl) (apart (codes "patrols") key refl)
    ∙ (listed_steps second l.listed l.given (array items) l.attackers keys
    ∙ listed_limits_fail l.listed l.given (array items) l.attackers g.goals g.schedules read.0 g.types (record { reason = TOO_LARGE; place = place_of.Document }) l.targets l.schedules read.1 l.types
    (rows_fail (listed_of g.goals g.schedules read.0 g.types) long))

other_form : {Goal : Type 0} (g : Game) → g.kind ≡ Matrix → g.kind ≡ Security → Goal
other_form g a b = absurd (let other : Matrix ≡ Security = sym a ∙ b in true≢false (ap is_kind_matrix other))

pub programs : LongProgramIsRefused
programs = record {
  types = λ first second g items h kind off d fine many. by_file first g (game_of_table second ≡ refused TOO_LARGE place_of.Document) h
      (λ head m. other_form g m.kind kind)
      (λ head given there p. patrols_program first second g given items head there p off d (rw (p.kind, p.identical) at fine) many)
      (λ head there l. listed_program first second g items head there l d (rw (l.kind, l.no_patrols) at fine) many);
  patrols = λ first second g n h some off d few many. by_file first g (game_of_table second ≡ refused TOO_LARGE place_of.Document) h
      (λ head m. absurd (some (matrix_form g (game_of_table-game first g h) m.kind).no_patrols))
      (λ head given there p. more_patrols first second g given n head there p off d few many)
      (λ head there l. absurd (some l.no_patrols));
  resources = λ first second g items h kind none d fine many. by_file first g (game_of_table second ≡ refused TOO_LARGE place_of.Document) h
      (λ head m. other_form g m.kind kind)
      (λ head given there p. absurd (let e : None ≡ Some p.patrols = sym none ∙ p.identical in cc))
      (λ head there l. more_resources first second g items head there l d (rw (l.kind, l.no_patrols) at fine) many);
}
