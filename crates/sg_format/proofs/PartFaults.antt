-- The document of a game in which one part breaks its rule is refused for it, at the place of the part.
use Rattle.std.proofs.Common.{◌≡◌, ◌≢◌, ℕ, ◌^◌, Bool, true, false, nat_le, nat_lt, List, [], ◌∷◌, length, ℤ, pos, Option, Some, None, Ok, Err, is_some, refl, sym, ap, subst, ◌∙◌, arith}
use Rattle.std.specs.Prelude.{bytes_eq, codes, if◌then◌else◌}
use Rattle.std.proofs.lemmas.Bool.Decides.{nat_tests}
use Rattle.toml.specs.Data.{Data, Items, Members, get_member, table}
use Rattle.sg_model.specs.declared.fault.Place.{Place}
use Rattle.sg_model.specs.declared.fault.Place.TheVariants as place_of
use Rattle.sg_model.specs.declared.fault.GameFault.{GameFault}
use Rattle.sg_model.specs.declared.kind.Kind.{Kind}
use Rattle.sg_model.specs.declared.kind.Kind.TheVariants.{Security, Matrix}
use Rattle.sg_model.specs.Games.{Game}
use Rattle.sg_model.specs.Limits.{is_scaled}
use Rattle.sg_format.specs.Steps.{refused}
use Rattle.sg_format.specs.Documents.{has_only, items_at, number_at}
use Rattle.sg_format.specs.Lists.{item_count, resources_at, schedules_at, names_at, some_at}
use Rattle.sg_format.specs.Types.{matrix_types_at, security_types_at}
use Rattle.sg_format.specs.GameFiles.{form_of, game_of_form, game_of_table, is_matrix_key, is_resources_key, resources_game, version_of, is_patrols_key, patrols_game, scale_at}
use Rattle.sg_format.specs.Parts.{Agrees, AgreesUpTo, is_read_before, at_key, at_number, NamesPart, Part, goals, grouped, groups, listed_rule, matrix_rule, name, named_path, names, names_of, part_path, part_place, part_rule, patrols, patrols_rule, resources, scale, schedules, number_within, type_path, typed, types, Step, names_path}
use Rattle.sg_format.specs.PartLaws.{IsRefusedAt}
use Rattle.sg_format.proofs.Inversion.{after, after_test}
use Rattle.sg_format.proofs.Keys.{apart}
use Rattle.sg_format.proofs.Listed.{named_lists_at-lists, names_at-names}
use Rattle.sg_format.proofs.Files.{IsHeaded, IsListedFile, IsMatrixFile, IsPatrolsFile, by_file}
use Rattle.sg_format.proofs.Faults.{form_same, version_same}
use Rattle.sg_format.proofs.FaultyLists.{IsListedTable, listed_steps, listed_targets_fail, listed_types_fail, matrix_begin, matrix_types_fail, named_begin, patrols_types_fail, resources_fail, rows_fail, schedules_fail, security_begin, targets_fail}
use Rattle.sg_format.proofs.Broken.{few_fails, no_reason, number_fails, reason_of, some_fails}
use Rattle.sg_format.proofs.Parted.{names_part_fails, names_place}
use Rattle.sg_format.proofs.Tables.{agreed_only, later_there}
use Rattle.sg_format.proofs.EntryFaults.{matrix_entry_fails, named_entry_fails, security_entry_fails}
use Rattle.sg_format.proofs.SingleChanges.{table_is}

-- what is said at a top key of a document that agrees with another one up to a part
record IsTopAgreement (key : List ℕ) (path : List Step) (value : Data) (first second : Members) : Type 0 where
  new : Data
  here : get_member key second ≡ Some new
  earlier : (other : List ℕ) → is_read_before other key ≡ true → get_member other second ≡ get_member other first
  keys : (other : List ℕ) → other ≢ key → is_some (get_member other second) ≡ is_some (get_member other first)
  agree : Agrees path value (get_member key first) new

top_agreement : (key : List ℕ) (path : List Step) (value : Data) (first second : Members) → Agrees (at_key key ∷ path) value (Some (table first)) (table second) → IsTopAgreement key path value first second
top_agreement key path value first second c =
    let a : first ≡ c.old = table_is first c.old c.was in
    let b : second ≡ c.new = table_is second c.new (ap (λ (d : Data). Some d) c.is) in
    record {
      new = c.value;
      here = subst (λ (t : Members). get_member key t ≡ Some c.value) (sym b) c.here;
      earlier = λ other before_key. ap (get_member other) b ∙ (c.earlier other before_key ∙ ap (get_member other) (sym a));
      keys = λ other apart_from. ap (λ (t : Members). is_some (get_member other t)) b ∙ (c.keys other apart_from ∙ ap (λ (t : Members). is_some (get_member other t)) (sym a));
      agree = subst (λ (t : Members). Agrees path value (get_member key t) c.value) (sym a) c.agree;
    }

-- where version and form stay, the form's own steps decide
headed_by : (first second : Members) (kind : Kind) → IsHeaded first kind → get_member (codes "version") second ≡ get_member (codes "version") first
    → get_member (codes "form") second ≡ get_member (codes "form") first → game_of_table second ≡ game_of_form kind second
unfolding game_of_table
headed_by first second kind head v f =
    let a : version_of second ≡ Ok tt = version_same first second v ∙ head.version in
    let b : form_of second ≡ Ok kind = form_same first second f ∙ head.form in
    rw (a, b) refl

-- the place of a fault among the targets or the rows
rows_place : (part : NamesPart) → names_place place_of.Document place_of.Row part ≡ part_place Matrix (goals part)
rows_place names = refl
rows_place (name n) = refl

targets_place : (part : NamesPart) → names_place place_of.Document place_of.Target part ≡ part_place Security (goals part)
targets_place names = refl
targets_place (name n) = refl

-- what stays of two documents that agree up to a top key
abbrev EarlierStays : List ℕ → Members → Members → Type 0
EarlierStays key first second = (other : List ℕ) → is_read_before other key ≡ true → get_member other second ≡ get_member other first

abbrev KeysStay : List ℕ → Members → Members → Type 0
KeysStay key first second = (other : List ℕ) → other ≢ key → is_some (get_member other second) ≡ is_some (get_member other first)

none_by : (o : Option Data) → is_some o ≡ false → o ≡ None
none_by None e = refl
none_by (Some x) e = absurd (cc)

-- no value stands where none stood
stays_none : (other_name key : List ℕ) (first second : Members) → KeysStay key first second → bytes_eq other_name key ≡ false → get_member other_name first ≡ None → get_member other_name second ≡ None
stays_none other_name key first second keys e none = none_by (get_member other_name second) (keys other_name (apart other_name key e) ∙ ap is_some none)

matrix_people : (first second : Members) (g : Game) (new : Data) (r : ℕ) (place : Place) → IsHeaded first Matrix → IsMatrixFile first g → get_member (codes "type") second ≡ Some new
    → EarlierStays (codes "type") first second → KeysStay (codes "type") first second → matrix_types_at (length g.goals) new ≡ refused r place → game_of_table second ≡ refused r place
matrix_people first second g new r place head m here earlier keys f =
    headed_by first second Matrix head (earlier (codes "version") refl) (earlier (codes "form") refl)
    ∙ matrix_types_fail second m.listed new g.goals (record { reason = r; place = place }) (agreed_only is_matrix_key (codes "type") first second keys refl m.known)
    (earlier (codes "rows") refl ∙ m.rows_there) here m.rows f

listed_by : (first second : Members) → IsHeaded first Security → get_member (codes "version") second ≡ get_member (codes "version") first
    → get_member (codes "form") second ≡ get_member (codes "form") first → get_member (codes "patrols") second ≡ None → game_of_table second ≡ resources_game second
listed_by first second head v f none = headed_by first second Security head v f ∙ (rw none refl)

listed_schedules : (first second : Members) (g : Game) (new : Data) (r : ℕ) (place : Place) → IsHeaded first Security → get_member (codes "patrols") first ≡ None → IsListedFile first g
    → get_member (codes "schedule") second ≡ Some new → EarlierStays (codes "schedule") first second → KeysStay (codes "schedule") first second → schedules_at g.goals new ≡ refused r place
    → game_of_table second ≡ refused r place
listed_schedules first second g new r place head there l here earlier keys f =
    let key = codes "schedule" in
    let manned = later_there (codes "resource") key first second l.manned keys refl l.resources_there in
    let people = later_there (codes "type") key first second l.attackers keys refl l.types_there in
    let keyed : IsListedTable second l.listed new manned.0 people.0 = record {
      known = agreed_only is_resources_key key first second keys refl l.known;
      no_scale = keys (codes "scale") (apart (codes "scale") key refl) ∙ l.no_scale;
      targets = earlier (codes "targets") refl ∙ l.targets_there;
      schedules = here;
      resources = manned.1;
      types = people.1;
    } in
    listed_by first second head (earlier (codes "version") refl) (earlier (codes "form") refl) (stays_none (codes "patrols") key first second keys refl there)
    ∙ (listed_steps second l.listed new manned.0 people.0 keyed ∙ schedules_fail l.listed new manned.0 people.0 g.goals (record { reason = r; place = place }) l.targets f)

listed_resources : (first second : Members) (g : Game) (new : Data) (r : ℕ) (place : Place) → IsHeaded first Security → get_member (codes "patrols") first ≡ None → IsListedFile first g
    → get_member (codes "resource") second ≡ Some new → EarlierStays (codes "resource") first second → KeysStay (codes "resource") first second → resources_at g.schedules new ≡ refused r place
    → game_of_table second ≡ refused r place
listed_resources first second g new r place head there l here earlier keys f =
    let key = codes "resource" in
    let people = later_there (codes "type") key first second l.attackers keys refl l.types_there in
    let keyed : IsListedTable second l.listed l.given new people.0 = record {
      known = agreed_only is_resources_key key first second keys refl l.known;
      no_scale = keys (codes "scale") (apart (codes "scale") key refl) ∙ l.no_scale;
      targets = earlier (codes "targets") refl ∙ l.targets_there;
      schedules = earlier (codes "schedule") refl ∙ l.schedules_there;
      resources = here;
      types = people.1;
    } in
    listed_by first second head (earlier (codes "version") refl) (earlier (codes "form") refl) (stays_none (codes "patrols") key first second keys refl there)
    ∙ (listed_steps second l.listed l.given new people.0 keyed ∙ resources_fail l.listed l.given new people.0 g.goals g.schedules (record { reason = r; place = place }) l.targets l.schedules f)

listed_people : (first second : Members) (g : Game) (new : Data) (r : ℕ) (place : Place) → IsHeaded first Security → get_member (codes "patrols") first ≡ None → IsListedFile first g
    → get_member (codes "type") second ≡ Some new → EarlierStays (codes "type") first second → KeysStay (codes "type") first second → security_types_at false (length g.goals) new ≡ refused r place
    → game_of_table second ≡ refused r place
listed_people first second g new r place head there l here earlier keys f =
    let key = codes "type" in
    let keyed : IsListedTable second l.listed l.given l.manned new = record {
      known = agreed_only is_resources_key key first second keys refl l.known;
      no_scale = keys (codes "scale") (apart (codes "scale") key refl) ∙ l.no_scale;
      targets = earlier (codes "targets") refl ∙ l.targets_there;
      schedules = earlier (codes "schedule") refl ∙ l.schedules_there;
      resources = earlier (codes "resource") refl ∙ l.resources_there;
      types = here;
    } in
    listed_by first second head (earlier (codes "version") refl) (earlier (codes "form") refl) (stays_none (codes "patrols") key first second keys refl there)
    ∙ (listed_steps second l.listed l.given l.manned new keyed
    ∙ listed_types_fail l.listed l.given l.manned new g.goals g.schedules g.resources (record { reason = r; place = place }) l.targets l.schedules l.resources f)

-- the limit on targets, by whether a scale stands in the document
names_limit : (one two : Bool) (value : Data) (told : GameFault) → one ≡ two → names_at place_of.Document place_of.Target (if one then 10000 else 200) value ≡ Err told
    → names_at place_of.Document place_of.Target (if two then 10000 else 200) value ≡ Err told
names_limit one two value told same f = rw same at f

patrols_people : (first second : Members) (g : Game) (given new : Data) (r : ℕ) (place : Place) → IsHeaded first Security → get_member (codes "patrols") first ≡ Some given → IsPatrolsFile given first g
    → get_member (codes "type") second ≡ Some new → EarlierStays (codes "type") first second → KeysStay (codes "type") first second
    → security_types_at (is_scaled g) (length g.goals) new ≡ refused r place → game_of_table second ≡ refused r place
patrols_people first second g given new r place head there p here earlier keys f =
    let still = earlier (codes "patrols") refl ∙ there in
    headed_by first second Security head (earlier (codes "version") refl) (earlier (codes "form") refl)
    ∙ (rw still (patrols_types_fail given second p.listed new (get_member (codes "scale") first) g.goals p.scale p.count (record { reason = r; place = place })
    (agreed_only is_patrols_key (codes "type") first second keys refl p.known) (earlier (codes "targets") refl ∙ p.targets_there) here (earlier (codes "scale") refl)
    p.targets p.scale_read p.count_read (rw p.scaled at f)))

matrix_part : (first second : Members) (g : Game) (part : Part) (value : Data) (r : ℕ) → IsHeaded first Matrix → IsMatrixFile first g
    → Agrees (part_path Matrix part) value (Some (table first)) (table second) → reason_of (matrix_rule g part) value ≡ Some r → game_of_table second ≡ refused r (part_place Matrix part)
matrix_part first second g (goals part) value r head m c e =
    let key = codes "rows" in
    let t = top_agreement key (names_path part) value first second c in
    let f = names_part_fails place_of.Document place_of.Row 4096 m.listed t.new g.goals part value r m.rows (rw m.rows_there at t.agree) e in
    let known = agreed_only is_matrix_key key first second t.keys refl m.known in
    let people = later_there (codes "type") key first second m.attackers t.keys refl m.types_there in
    headed_by first second Matrix head (t.earlier (codes "version") refl) (t.earlier (codes "form") refl)
    ∙ rows_fail second t.new people.0 (record { reason = r; place = part_place Matrix (goals part) }) known t.here people.1 (rw (rows_place part) at f)
matrix_part first second g scale value r head m c e = no_reason r e
matrix_part first second g patrols value r head m c e = no_reason r e
matrix_part first second g (groups group) value r head m c e = no_reason r e
matrix_part first second g (grouped group n part) value r head m c e = no_reason r e
matrix_part first second g types value r head m c e =
    let t = top_agreement (codes "type") [] value first second c in
    matrix_people first second g t.new r place_of.Document head m t.here t.earlier t.keys
    (matrix_begin (length g.goals) t.new (record { reason = r; place = place_of.Document }) (some_fails place_of.Document 8 t.new r (rw (sym t.agree) at e)))
matrix_part first second g (typed n part) value r head m c e =
    let t = top_agreement (codes "type") (at_number n ∷ type_path part) value first second c in
    matrix_people first second g t.new r (place_of.Attacker n) head m t.here t.earlier t.keys
    (matrix_entry_fails (length g.goals) m.attackers t.new g.types n part value r m.types (rw m.types_there at t.agree) e)

listed_part : (first second : Members) (g : Game) (part : Part) (value : Data) (r : ℕ) → IsHeaded first Security → get_member (codes "patrols") first ≡ None → IsListedFile first g
    → Agrees (part_path Security part) value (Some (table first)) (table second) → reason_of (listed_rule g part) value ≡ Some r → game_of_table second ≡ refused r (part_place Security part)
listed_part first second g (goals part) value r head there l c e =
    let key = codes "targets" in
    let t = top_agreement key (names_path part) value first second c in
    let f = names_part_fails place_of.Document place_of.Target 200 l.listed t.new g.goals part value r l.targets (rw l.targets_there at t.agree) e in
    let given = later_there (codes "schedule") key first second l.given t.keys refl l.schedules_there in
    let manned = later_there (codes "resource") key first second l.manned t.keys refl l.resources_there in
    let people = later_there (codes "type") key first second l.attackers t.keys refl l.types_there in
    let table_is : IsListedTable second t.new given.0 manned.0 people.0 = record {
      known = agreed_only is_resources_key key first second t.keys refl l.known;
      no_scale = t.keys (codes "scale") (apart (codes "scale") key refl) ∙ l.no_scale;
      targets = t.here;
      schedules = given.1;
      resources = manned.1;
      types = people.1;
    } in
    listed_by first second head (t.earlier (codes "version") refl) (t.earlier (codes "form") refl) (stays_none (codes "patrols") key first second t.keys refl there)
    ∙ (listed_steps second t.new given.0 manned.0 people.0 table_is
    ∙ listed_targets_fail t.new given.0 manned.0 people.0 (record { reason = r; place = part_place Security (goals part) }) (rw (targets_place part) at f))
listed_part first second g scale value r head there l c e = no_reason r e
listed_part first second g patrols value r head there l c e = no_reason r e
listed_part first second g (groups schedules) value r head there l c e =
    let t = top_agreement (codes "schedule") [] value first second c in
    listed_schedules first second g t.new r place_of.Document head there l t.here t.earlier t.keys
    (named_begin place_of.Schedule (codes "targets") g.goals 500 200 t.new (record { reason = r; place = place_of.Document }) (few_fails place_of.Document 500 t.new r (rw (sym t.agree) at e)))
listed_part first second g (groups resources) value r head there l c e =
    let t = top_agreement (codes "resource") [] value first second c in
    listed_resources first second g t.new r place_of.Document head there l t.here t.earlier t.keys
    (named_begin place_of.Resource (codes "schedules") (names_of g.schedules) 32 500 t.new (record { reason = r; place = place_of.Document }) (few_fails place_of.Document 32 t.new r (rw (sym t.agree) at e)))
listed_part first second g (grouped schedules n part) value r head there l c e =
    let t = top_agreement (codes "schedule") (at_number n ∷ named_path schedules part) value first second c in
    let distinct = (names_at-names place_of.Document place_of.Target 200 l.listed g.goals l.targets).apart.distinct in
    listed_schedules first second g t.new r (place_of.Schedule n) head there l t.here t.earlier t.keys
    (named_entry_fails place_of.Schedule schedules g.goals 500 200 l.given t.new g.schedules n part value r distinct l.schedules (rw l.schedules_there at t.agree) e)
listed_part first second g (grouped resources n part) value r head there l c e =
    let t = top_agreement (codes "resource") (at_number n ∷ named_path resources part) value first second c in
    let distinct = (named_lists_at-lists place_of.Schedule (codes "targets") g.goals 500 200 l.given g.schedules l.schedules).names.distinct in
    listed_resources first second g t.new r (place_of.Resource n) head there l t.here t.earlier t.keys
    (named_entry_fails place_of.Resource resources (names_of g.schedules) 32 500 l.manned t.new g.resources n part value r distinct l.resources (rw l.resources_there at t.agree) e)
listed_part first second g types value r head there l c e =
    let t = top_agreement (codes "type") [] value first second c in
    listed_people first second g t.new r place_of.Document head there l t.here t.earlier t.keys
    (security_begin false (length g.goals) t.new (record { reason = r; place = place_of.Document }) (some_fails place_of.Document 8 t.new r (rw (sym t.agree) at e)))
listed_part first second g (typed n part) value r head there l c e =
    let t = top_agreement (codes "type") (at_number n ∷ type_path part) value first second c in
    listed_people first second g t.new r (place_of.Attacker n) head there l t.here t.earlier t.keys
    (security_entry_fails false (length g.goals) l.attackers t.new g.types n part value r l.types (rw l.types_there at t.agree) e)

-- names that are few enough without a scale are so with one
some_more : (place : Place) (value : Data) (items : Items) → some_at place 200 value ≡ Ok items → some_at place 10000 value ≡ Ok items
unfolding some_at
some_more place value items h =
    after (items_at place value) h (λ found e rest.
    after_test (nat_lt 0 (item_count found)) _ _ rest (λ some more.
    after_test (nat_le (item_count found) 200) _ _ more (λ few last.
    let still : nat_le (item_count found) 10000 ≡ true = grind (arith, nat_tests) in
    rw (e, some, still) last)))

names_more : (whole : Place) (place : ℕ → Place) (value : Data) (xs : List (List ℕ)) → names_at whole place 200 value ≡ Ok xs → names_at whole place 10000 value ≡ Ok xs
unfolding names_at
names_more whole place value xs h =
    after (some_at whole 200 value) h (λ items e rest. let more = some_more whole value items e in rw more rest)

pub names_scaled : (scaled : Bool) (whole : Place) (place : ℕ → Place) (value : Data) (xs : List (List ℕ)) → names_at whole place (if scaled then 10000 else 200) value ≡ Ok xs → names_at whole place 10000 value ≡ Ok xs
names_scaled true whole place value xs h = h
names_scaled false whole place value xs h = names_more whole place value xs h

-- the declared scale breaks its rule
scale_fails : (given : Data) (t : Members) (listed attackers value : Data) (targets : List (List ℕ)) (r : ℕ) → has_only is_patrols_key t ≡ true → get_member (codes "targets") t ≡ Some listed
    → get_member (codes "type") t ≡ Some attackers → get_member (codes "scale") t ≡ Some value → names_at place_of.Document place_of.Target 10000 listed ≡ Ok targets
    → scale_at (Some value) ≡ refused r place_of.Document → patrols_game given t ≡ refused r place_of.Document
unfolding patrols_game
scale_fails given t listed attackers value targets r a b c s n f = rw (a, b, c, s, n, f) refl

bad_scale_value : (value : Data) (r : ℕ) → reason_of (number_within (pos 1) (pos (2 ^ 32))) value ≡ Some r → scale_at (Some value) ≡ refused r place_of.Document
unfolding scale_at
bad_scale_value value r e = let f = number_fails place_of.Document (pos 1) (pos (2 ^ 32)) value r e in rw f refl

-- the number of patrols breaks its rule
count_fails : (given : Data) (t : Members) (listed attackers : Data) (o : Option Data) (targets : List (List ℕ)) (z : Option ℤ) (r : ℕ) → has_only is_patrols_key t ≡ true
    → get_member (codes "targets") t ≡ Some listed → get_member (codes "type") t ≡ Some attackers → get_member (codes "scale") t ≡ o
    → names_at place_of.Document place_of.Target (if is_some o then 10000 else 200) listed ≡ Ok targets → scale_at o ≡ Ok z
    → number_at place_of.Document (pos 0) (pos (if is_some o then 200 else 32)) given ≡ refused r place_of.Document → patrols_game given t ≡ refused r place_of.Document
unfolding patrols_game
count_fails given t listed attackers o targets z r a b c s n q f = rw (a, b, c, s, n, q, f) refl

-- the number of patrols, whatever it is
patrols_by : (first second : Members) (given : Data) → IsHeaded first Security → get_member (codes "version") second ≡ get_member (codes "version") first
    → get_member (codes "form") second ≡ get_member (codes "form") first → get_member (codes "patrols") second ≡ Some given → game_of_table second ≡ patrols_game given second
patrols_by first second given head v f there = headed_by first second Security head v f ∙ (rw there refl)

patrols_part : (first second : Members) (g : Game) (part : Part) (value given : Data) (r count : ℕ) → IsHeaded first Security → get_member (codes "patrols") first ≡ Some given → IsPatrolsFile given first g
    → Agrees (part_path Security part) value (Some (table first)) (table second) → reason_of (patrols_rule (is_scaled g) g part) value ≡ Some r → game_of_table second ≡ refused r (part_place Security part)
patrols_part first second g (goals part) value given r count head there p c e =
    let key = codes "targets" in
    let t = top_agreement key (names_path part) value first second c in
    let limit : ℕ = if is_scaled g then 10000 else 200 in
    let declared = get_member (codes "scale") second in
    let scaled : is_scaled g ≡ is_some declared = p.scaled ∙ sym (t.keys (codes "scale") (apart (codes "scale") key refl)) in
    let f = names_part_fails place_of.Document place_of.Target limit p.listed t.new g.goals part value r (rw p.scaled p.targets) (rw p.targets_there at t.agree) e in
    let number = later_there (codes "patrols") key first second given t.keys refl there in
    let people = later_there (codes "type") key first second p.attackers t.keys refl p.types_there in
    let known = agreed_only is_patrols_key key first second t.keys refl p.known in
    let placed = rw (targets_place part) at f in
    patrols_by first second number.0 head (t.earlier (codes "version") refl) (t.earlier (codes "form") refl) number.1
    ∙ targets_fail number.0 second t.new people.0 declared (record { reason = r; place = part_place Security (goals part) }) known t.here people.1 refl
    (names_limit (is_scaled g) (is_some declared) t.new (record { reason = r; place = part_place Security (goals part) }) scaled placed)
patrols_part first second g scale value given r count head there p c e =
    let key = codes "scale" in
    let t = top_agreement key [] value first second c in
    let targets = names_scaled (is_some (get_member key first)) place_of.Document place_of.Target p.listed g.goals p.targets in
    let number = later_there (codes "patrols") key first second given t.keys refl there in
    let people = later_there (codes "type") key first second p.attackers t.keys refl p.types_there in
    patrols_by first second number.0 head (t.earlier (codes "version") refl) (t.earlier (codes "form") refl) number.1
    ∙ scale_fails number.0 second p.listed people.0 t.new g.goals r (agreed_only is_patrols_key key first second t.keys refl p.known)
    (t.earlier (codes "targets") refl ∙ p.targets_there) people.1 t.here targets (bad_scale_value t.new r (rw (sym t.agree) at e))
patrols_part first second g patrols value given r count head there p c e =
    let key = codes "patrols" in
    let t = top_agreement key [] value first second c in
    let limit : ℕ = if is_scaled g then 200 else 32 in
    let bad = number_fails place_of.Document (pos 0) (pos limit) t.new r (rw (sym t.agree) at e) in
    let people = later_there (codes "type") key first second p.attackers t.keys refl p.types_there in
    patrols_by first second t.new head (t.earlier (codes "version") refl) (t.earlier (codes "form") refl) t.here
    ∙ count_fails t.new second p.listed people.0 (get_member (codes "scale") first) g.goals p.scale r (agreed_only is_patrols_key key first second t.keys refl p.known)
    (t.earlier (codes "targets") refl ∙ p.targets_there) people.1 (t.earlier (codes "scale") refl) p.targets p.scale_read (rw p.scaled at bad)
patrols_part first second g (groups group) value given r count head there p c e = no_reason r e
patrols_part first second g (grouped group n part) value given r count head there p c e = no_reason r e
patrols_part first second g types value given r count head there p c e =
    let t = top_agreement (codes "type") [] value first second c in
    let limit : ℕ = if is_scaled g then 1 else 8 in
    patrols_people first second g given t.new r place_of.Document head there p t.here t.earlier t.keys
    (security_begin (is_scaled g) (length g.goals) t.new (record { reason = r; place = place_of.Document }) (some_fails place_of.Document limit t.new r (rw (sym t.agree) at e)))
patrols_part first second g (typed n part) value given r count head there p c e =
    let t = top_agreement (codes "type") (at_number n ∷ type_path part) value first second c in
    patrols_people first second g given t.new r (place_of.Attacker n) head there p t.here t.earlier t.keys
    (security_entry_fails (is_scaled g) (length g.goals) p.attackers t.new g.types n part value r (rw p.scaled p.types) (rw p.types_there at t.agree) e)

pub faulty_part : (first second : Members) (g : Game) (part : Part) (value : Data) (r : ℕ) → game_of_table first ≡ Ok g → AgreesUpTo g part value first second
    → reason_of (part_rule g part) value ≡ Some r → IsRefusedAt g part r second
faulty_part first second g part value r h d e =
    by_file first g (IsRefusedAt g part r second) h
    (λ head m. rw m.kind (matrix_part first second g part value r head m (rw m.kind at d) (rw m.kind at e)))
    (λ head given there p. rw p.kind (patrols_part first second g part value given r p.patrols head there p (rw p.kind at d) (rw (p.kind, p.identical) at e)))
    (λ head there l. rw l.kind (listed_part first second g part value r head there l (rw l.kind at d) (rw (l.kind, l.no_patrols) at e)))
