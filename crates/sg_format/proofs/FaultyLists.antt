-- A list with a fault of its own, in the document of a game.
use Rattle.std.proofs.Common.{◌≡◌, ◌≢◌, ◌∙◌, ℕ, Bool, true, false, List, length, ℤ, pos, Option, Some, None, is_some, Result, Ok, Err, refl, ap, subst, inl, inr}
use Rattle.std.specs.Prelude.{bytes_eq, codes, if◌then◌else◌}
use Rattle.std.proofs.lemmas.Bool.{cases_Bool}
use Rattle.toml.specs.Data.{Data, Members, get_member}
use Rattle.sg_model.specs.declared.fault.Place.{Place}
use Rattle.sg_model.specs.declared.fault.Place.TheVariants as place_of
use Rattle.sg_model.specs.declared.fault.GameFault.{GameFault}
use Rattle.sg_model.specs.declared.kind.Kind.TheVariants.{Security, Matrix}
use Rattle.sg_model.specs.Games.{Game, Named}
use Rattle.sg_format.specs.Documents.{has_only, number_at}
use Rattle.sg_format.specs.Lists.{few_at, named_lists_at, names_at, resources_at, schedules_at, some_at}
use Rattle.sg_format.specs.Types.{matrix_types_at, security_types_at}
use Rattle.sg_format.specs.GameFiles.{game_of_table, is_matrix_key, is_patrols_key, is_resources_key, listed_game, matrix_game, patrols_game, resources_game, scale_at}
use Rattle.sg_format.specs.Changes.{DiffersAt, fault_in, list_fault}
use Rattle.sg_format.specs.FaultLaws.{FaultyListIsRefused}
use Rattle.sg_format.proofs.Keys.{apart, changed_only, same}
use Rattle.sg_format.proofs.Files.{IsHeaded, IsListedFile, IsMatrixFile, IsPatrolsFile, by_file}
use Rattle.sg_format.proofs.Faults.{headed}

-- a fault of the first step is the list's fault
pub matrix_begin : (rows : ℕ) (value : Data) (fault : GameFault) → some_at place_of.Document 8 value ≡ Err fault → matrix_types_at rows value ≡ Err fault
unfolding matrix_types_at
matrix_begin rows value fault e = rw e refl

pub security_begin : (scaled : Bool) (targets : ℕ) (value : Data) (fault : GameFault) → some_at place_of.Document (if scaled then 1 else 8) value ≡ Err fault
    → security_types_at scaled targets value ≡ Err fault
unfolding security_types_at
security_begin scaled targets value fault e = rw e refl

pub named_begin : (place : ℕ → Place) (key : List ℕ) (known : List (List ℕ)) (limit members : ℕ) (value : Data) (fault : GameFault) → few_at place_of.Document limit value ≡ Err fault
    → named_lists_at place key known limit members value ≡ Err fault
unfolding named_lists_at
named_begin place key known limit members value fault e = rw e refl

fails_by : {A : Type 0} (r : Result A GameFault) (fault : GameFault) → fault_in r ≡ Some fault → r ≡ Err fault
fails_by (Ok x) fault e = absurd (cc)
fails_by (Err other) fault e = cc

at_name : (key name : List ℕ) (value : Option Data) (first second : Members) → bytes_eq key name ≡ true → DiffersAt key value first second → DiffersAt name value first second
at_name key name value first second e d = subst (λ (k : List ℕ). DiffersAt k value first second) (same key name e) d

pub rows_fail : (t : Members) (value x : Data) (fault : GameFault) → has_only is_matrix_key t ≡ true → get_member (codes "rows") t ≡ Some value → get_member (codes "type") t ≡ Some x
    → names_at place_of.Document place_of.Row 4096 value ≡ Err fault → matrix_game t ≡ Err fault
unfolding matrix_game
rows_fail t value x fault a b e f = rw (a, b, e, f) refl

pub matrix_types_fail : (t : Members) (l value : Data) (rows : List (List ℕ)) (fault : GameFault) → has_only is_matrix_key t ≡ true → get_member (codes "rows") t ≡ Some l
    → get_member (codes "type") t ≡ Some value → names_at place_of.Document place_of.Row 4096 l ≡ Ok rows → matrix_types_at (length rows) value ≡ Err fault → matrix_game t ≡ Err fault
unfolding matrix_game
matrix_types_fail t l value rows fault a b e r f = rw (a, b, e, r, f) refl

pub matrix_faulty : (table other : Members) (g : Game) (key : List ℕ) (value : Data) (fault : GameFault) → IsHeaded table Matrix → IsMatrixFile table g → DiffersAt key (Some value) table other
    → list_fault Matrix g.patrols g key value ≡ Some fault → game_of_table other ≡ Err fault
matrix_faulty table other g key value fault head m d e =
    elim (cases_Bool (bytes_eq key (codes "rows"))) [
      | inl is ↦ (
          let c = at_name key (codes "rows") (Some value) table other is d in
          headed (codes "rows") (Some value) table other Matrix c head (apart (codes "version") (codes "rows") refl) (apart (codes "form") (codes "rows") refl)
          ∙ rows_fail other value m.attackers fault (changed_only is_matrix_key (codes "rows") (Some value) table other c refl m.known) c.here
          (c.elsewhere (codes "type") (apart (codes "type") (codes "rows") refl) ∙ m.types_there) (fails_by _ fault (rw is at e)))
      | inr isnt ↦ elim (cases_Bool (bytes_eq key (codes "type"))) [
        | inl is ↦ (
            let c = at_name key (codes "type") (Some value) table other is d in
            headed (codes "type") (Some value) table other Matrix c head (apart (codes "version") (codes "type") refl) (apart (codes "form") (codes "type") refl)
            ∙ matrix_types_fail other m.listed value g.goals fault (changed_only is_matrix_key (codes "type") (Some value) table other c refl m.known)
            (c.elsewhere (codes "rows") (apart (codes "rows") (codes "type") refl) ∙ m.rows_there) c.here m.rows (fails_by _ fault (rw (isnt, is) at e)))
        | inr neither ↦ absurd (let none : None ≡ Some fault = rw (isnt, neither) at e in cc)
      ]
    ]

pub targets_fail : (given : Data) (t : Members) (value x : Data) (o : Option Data) (fault : GameFault) → has_only is_patrols_key t ≡ true → get_member (codes "targets") t ≡ Some value
    → get_member (codes "type") t ≡ Some x → get_member (codes "scale") t ≡ o
    → names_at place_of.Document place_of.Target (if is_some o then 10000 else 200) value ≡ Err fault → patrols_game given t ≡ Err fault
unfolding patrols_game
targets_fail given t value x o fault a b e s f = rw (a, b, e, s, f) refl

pub patrols_types_fail : (given : Data) (t : Members) (l value : Data) (o : Option Data) (targets : List (List ℕ)) (scale : Option ℤ) (count : ℤ) (fault : GameFault)
    → has_only is_patrols_key t ≡ true → get_member (codes "targets") t ≡ Some l → get_member (codes "type") t ≡ Some value → get_member (codes "scale") t ≡ o
    → names_at place_of.Document place_of.Target (if is_some o then 10000 else 200) l ≡ Ok targets → scale_at o ≡ Ok scale
    → number_at place_of.Document (pos 0) (pos (if is_some o then 200 else 32)) given ≡ Ok count
    → security_types_at (is_some o) (length targets) value ≡ Err fault → patrols_game given t ≡ Err fault
unfolding patrols_game
patrols_types_fail given t l value o targets scale count fault a b e s n q c f = rw (a, b, e, s, n, q, c, f) refl

pub patrols_faulty : (table other : Members) (g : Game) (key : List ℕ) (value given : Data) (fault : GameFault) (n : ℕ) → IsHeaded table Security
    → get_member (codes "patrols") table ≡ Some given → IsPatrolsFile given table g → DiffersAt key (Some value) table other
    → list_fault Security (Some n) g key value ≡ Some fault → game_of_table other ≡ Err fault
patrols_faulty table other g key value given fault n head there p d e =
    elim (cases_Bool (bytes_eq key (codes "targets"))) [
      | inl is ↦ (
          let c = at_name key (codes "targets") (Some value) table other is d in
          let still = c.elsewhere (codes "patrols") (apart (codes "patrols") (codes "targets") refl) ∙ there in
          headed (codes "targets") (Some value) table other Security c head (apart (codes "version") (codes "targets") refl) (apart (codes "form") (codes "targets") refl)
          ∙ (rw still (targets_fail given other value p.attackers (get_member (codes "scale") table) fault (changed_only is_patrols_key (codes "targets") (Some value) table other c refl p.known) c.here
          (c.elsewhere (codes "type") (apart (codes "type") (codes "targets") refl) ∙ p.types_there)
          (c.elsewhere (codes "scale") (apart (codes "scale") (codes "targets") refl)) (fails_by _ fault (rw (is, p.scaled) at e)))))
      | inr isnt ↦ elim (cases_Bool (bytes_eq key (codes "type"))) [
        | inl is ↦ (
            let c = at_name key (codes "type") (Some value) table other is d in
            let still = c.elsewhere (codes "patrols") (apart (codes "patrols") (codes "type") refl) ∙ there in
            headed (codes "type") (Some value) table other Security c head (apart (codes "version") (codes "type") refl) (apart (codes "form") (codes "type") refl)
            ∙ (rw still (patrols_types_fail given other p.listed value (get_member (codes "scale") table) g.goals p.scale p.count fault
            (changed_only is_patrols_key (codes "type") (Some value) table other c refl p.known)
            (c.elsewhere (codes "targets") (apart (codes "targets") (codes "type") refl) ∙ p.targets_there) c.here
            (c.elsewhere (codes "scale") (apart (codes "scale") (codes "type") refl)) p.targets p.scale_read p.count_read (fails_by _ fault (rw (isnt, is, p.scaled) at e)))))
        | inr neither ↦ absurd (let none : None ≡ Some fault = rw (isnt, neither) at e in cc)
      ]
    ]

-- what the document of a game with listed resources has at its keys
pub record IsListedTable (t : Members) (listed given manned attackers : Data) : Type 0 where
  pub known : has_only is_resources_key t ≡ true
  pub no_scale : is_some (get_member (codes "scale") t) ≡ false
  pub targets : get_member (codes "targets") t ≡ Some listed
  pub schedules : get_member (codes "schedule") t ≡ Some given
  pub resources : get_member (codes "resource") t ≡ Some manned
  pub types : get_member (codes "type") t ≡ Some attackers

pub listed_steps : (t : Members) (listed given manned attackers : Data) → IsListedTable t listed given manned attackers → resources_game t ≡ listed_game listed given manned attackers
unfolding resources_game
listed_steps t listed given manned attackers h =
    let a = h.known in
    let b = h.targets in
    let s = h.no_scale in
    let e = h.schedules in
    let f = h.resources in
    let u = h.types in
    rw (a, b, s, e, f, u) refl

pub listed_targets_fail : (listed given manned attackers : Data) (fault : GameFault) → names_at place_of.Document place_of.Target 200 listed ≡ Err fault
    → listed_game listed given manned attackers ≡ Err fault
unfolding listed_game
listed_targets_fail listed given manned attackers fault f = rw f refl

pub schedules_fail : (listed given manned attackers : Data) (targets : List (List ℕ)) (fault : GameFault) → names_at place_of.Document place_of.Target 200 listed ≡ Ok targets
    → schedules_at targets given ≡ Err fault → listed_game listed given manned attackers ≡ Err fault
unfolding listed_game
schedules_fail listed given manned attackers targets fault n f = rw (n, f) refl

pub resources_fail : (listed given manned attackers : Data) (targets : List (List ℕ)) (schedules : List Named) (fault : GameFault) → names_at place_of.Document place_of.Target 200 listed ≡ Ok targets
    → schedules_at targets given ≡ Ok schedules → resources_at schedules manned ≡ Err fault → listed_game listed given manned attackers ≡ Err fault
unfolding listed_game
resources_fail listed given manned attackers targets schedules fault n s f = rw (n, s, f) refl

pub listed_types_fail : (listed given manned attackers : Data) (targets : List (List ℕ)) (schedules resources : List Named) (fault : GameFault)
    → names_at place_of.Document place_of.Target 200 listed ≡ Ok targets → schedules_at targets given ≡ Ok schedules → resources_at schedules manned ≡ Ok resources
    → security_types_at false (length targets) attackers ≡ Err fault → listed_game listed given manned attackers ≡ Err fault
unfolding listed_game
listed_types_fail listed given manned attackers targets schedules resources fault n s r f = rw (n, s, r, f) refl

pub listed_to : (key : List ℕ) (value : Data) (table other : Members) → IsHeaded table Security → get_member (codes "patrols") table ≡ None → DiffersAt key (Some value) table other
    → codes "version" ≢ key → codes "form" ≢ key → codes "patrols" ≢ key → game_of_table other ≡ resources_game other
listed_to key value table other head there c v f p =
    let still = c.elsewhere (codes "patrols") p ∙ there in
    headed key (Some value) table other Security c head v f ∙ (rw still refl)

-- the value at a key that stays
pub kept : (name key : List ℕ) (value : Option Data) (x : Data) (table other : Members) → DiffersAt key value table other → bytes_eq name key ≡ false → get_member name table ≡ Some x → get_member name other ≡ Some x
kept name key value x table other c e there = c.elsewhere name (apart name key e) ∙ there

pub unscaled : (key : List ℕ) (value : Option Data) (table other : Members) → DiffersAt key value table other → bytes_eq (codes "scale") key ≡ false → is_some (get_member (codes "scale") table) ≡ false
    → is_some (get_member (codes "scale") other) ≡ false
unscaled key value table other c e there = ap is_some (c.elsewhere (codes "scale") (apart (codes "scale") key e)) ∙ there

pub listed_faulty : (table other : Members) (g : Game) (key : List ℕ) (value : Data) (fault : GameFault) → IsHeaded table Security → get_member (codes "patrols") table ≡ None
    → IsListedFile table g → DiffersAt key (Some value) table other → list_fault Security None g key value ≡ Some fault → game_of_table other ≡ Err fault
listed_faulty table other g key value fault head there l d e =
    elim (cases_Bool (bytes_eq key (codes "targets"))) [
      | inl is ↦ (
          let name = codes "targets" in
          let c = at_name key name (Some value) table other is d in
          let keys : IsListedTable other value l.given l.manned l.attackers = record {
            known = changed_only is_resources_key name (Some value) table other c refl l.known;
            no_scale = unscaled name (Some value) table other c refl l.no_scale;
            targets = c.here;
            schedules = kept (codes "schedule") name (Some value) l.given table other c refl l.schedules_there;
            resources = kept (codes "resource") name (Some value) l.manned table other c refl l.resources_there;
            types = kept (codes "type") name (Some value) l.attackers table other c refl l.types_there;
          } in
          listed_to name value table other head there c (apart (codes "version") name refl) (apart (codes "form") name refl) (apart (codes "patrols") name refl)
          ∙ (listed_steps other value l.given l.manned l.attackers keys ∙ listed_targets_fail value l.given l.manned l.attackers fault (fails_by _ fault (rw is at e))))
      | inr not1 ↦ elim (cases_Bool (bytes_eq key (codes "schedule"))) [
        | inl is ↦ (
            let name = codes "schedule" in
            let c = at_name key name (Some value) table other is d in
            let keys : IsListedTable other l.listed value l.manned l.attackers = record {
              known = changed_only is_resources_key name (Some value) table other c refl l.known;
              no_scale = unscaled name (Some value) table other c refl l.no_scale;
              targets = kept (codes "targets") name (Some value) l.listed table other c refl l.targets_there;
              schedules = c.here;
              resources = kept (codes "resource") name (Some value) l.manned table other c refl l.resources_there;
              types = kept (codes "type") name (Some value) l.attackers table other c refl l.types_there;
            } in
            listed_to name value table other head there c (apart (codes "version") name refl) (apart (codes "form") name refl) (apart (codes "patrols") name refl)
            ∙ (listed_steps other l.listed value l.manned l.attackers keys ∙ schedules_fail l.listed value l.manned l.attackers g.goals fault l.targets (fails_by _ fault (rw (not1, is) at e))))
        | inr not2 ↦ elim (cases_Bool (bytes_eq key (codes "resource"))) [
          | inl is ↦ (
              let name = codes "resource" in
              let c = at_name key name (Some value) table other is d in
              let keys : IsListedTable other l.listed l.given value l.attackers = record {
                known = changed_only is_resources_key name (Some value) table other c refl l.known;
                no_scale = unscaled name (Some value) table other c refl l.no_scale;
                targets = kept (codes "targets") name (Some value) l.listed table other c refl l.targets_there;
                schedules = kept (codes "schedule") name (Some value) l.given table other c refl l.schedules_there;
                resources = c.here;
                types = kept (codes "type") name (Some value) l.attackers table other c refl l.types_there;
              } in
              listed_to name value table other head there c (apart (codes "version") name refl) (apart (codes "form") name refl) (apart (codes "patrols") name refl)
              ∙ (listed_steps other l.listed l.given value l.attackers keys ∙ resources_fail l.listed l.given value l.attackers g.goals g.schedules fault l.targets l.schedules (fails_by _ fault (rw (not1, not2, is) at e))))
          | inr not3 ↦ elim (cases_Bool (bytes_eq key (codes "type"))) [
            | inl is ↦ (
                let name = codes "type" in
                let c = at_name key name (Some value) table other is d in
                let keys : IsListedTable other l.listed l.given l.manned value = record {
                  known = changed_only is_resources_key name (Some value) table other c refl l.known;
                  no_scale = unscaled name (Some value) table other c refl l.no_scale;
                  targets = kept (codes "targets") name (Some value) l.listed table other c refl l.targets_there;
                  schedules = kept (codes "schedule") name (Some value) l.given table other c refl l.schedules_there;
                  resources = kept (codes "resource") name (Some value) l.manned table other c refl l.resources_there;
                  types = c.here;
                } in
                listed_to name value table other head there c (apart (codes "version") name refl) (apart (codes "form") name refl) (apart (codes "patrols") name refl)
                ∙ (listed_steps other l.listed l.given l.manned value keys ∙ listed_types_fail l.listed l.given l.manned value g.goals g.schedules g.resources fault l.targets l.schedules l.resources (fails_by _ fault (rw (not1, not2, not3, is) at e))))
            | inr neither ↦ absurd (let none : None ≡ Some fault = rw (not1, not2, not3, neither) at e in cc)
          ]
        ]
      ]
    ]

pub faulty_list : FaultyListIsRefused
faulty_list table other g key value fault h d e =
    by_file table g (game_of_table other ≡ Err fault) h
    (λ head m. matrix_faulty table other g key value fault head m d (rw m.kind at e))
    (λ head given there p. patrols_faulty table other g key value given fault p.patrols head there p d (rw (p.kind, p.identical) at e))
    (λ head there l. listed_faulty table other g key value fault head there l d (rw (l.kind, l.no_patrols) at e))
