-- The tests of the version, the form and the top keys.
use Rattle.std.proofs.Common.{◌≡◌, ◌≢◌, ◌∙◌, ℕ, Bool, true, false, ◌||◌, List, Option, Some, None, is_none, is_some, pos, refl, sym, ap, inl, inr}
use Rattle.std.specs.Prelude.{bytes_eq, codes, if◌then◌else◌}
use Rattle.std.proofs.lemmas.Bool.{or_cases, true≢false}
use Rattle.toml.specs.Data.{Data, Members, as_integer, as_str, get_member, integer, string}
use Rattle.sg_model.specs.declared.fault.Place.TheVariants.{Document}
use Rattle.sg_model.specs.declared.kind.Kind.{Kind}
use Rattle.sg_model.specs.declared.kind.Kind.TheVariants.{Security, Matrix}
use Rattle.sg_format.specs.Steps.{refused}
use Rattle.sg_model.specs.declared.reason.TheConstants.{MISSING_KEY, WRONG_KIND, UNKNOWN_KEY, OUT_OF_RANGE}
use Rattle.sg_format.specs.Documents.{has_only}
use Rattle.sg_format.specs.GameFiles.{form_of, game_of_form, game_of_table, is_matrix_key, is_patrols_key, is_resources_key, matrix_game, patrols_game, resources_game, version_of}
use Rattle.sg_format.specs.Changes.{is_top_key}
use Rattle.sg_format.specs.HeadLaws.{HeadIsRefused, IsFirstVersion, IsOfForm, is_own_key}
use Rattle.sg_format.proofs.Keys.{same, unknown_found}
use Rattle.sg_format.proofs.Faults.{differs, listed_unknown, matrix_unknown, no_matrix_types, no_patrols_targets, no_patrols_types, no_resources, no_rows, no_schedules, no_targets, no_types, patrols_unknown}

no_version : (document : Members) → get_member (codes "version") document ≡ None → game_of_table document ≡ refused MISSING_KEY Document
unfolding game_of_table version_of
no_version document e = rw e refl

version_kind : (document : Members) (value : Data) → get_member (codes "version") document ≡ Some value → as_integer value ≡ None → game_of_table document ≡ refused WRONG_KIND Document
unfolding game_of_table version_of
version_kind document value there none = rw (there, none) refl

no_form : (document : Members) → IsFirstVersion document → get_member (codes "form") document ≡ None → game_of_table document ≡ refused MISSING_KEY Document
unfolding game_of_table version_of form_of
no_form document v e = rw (v, e) refl

form_kind : (document : Members) (value : Data) → IsFirstVersion document → get_member (codes "form") document ≡ Some value → as_str value ≡ None → game_of_table document ≡ refused WRONG_KIND Document
unfolding game_of_table version_of form_of
form_kind document value v there none = rw (v, there, none) refl

other_form : (document : Members) (text : List ℕ) → IsFirstVersion document → get_member (codes "form") document ≡ Some (string text) → text ≢ codes "security" → text ≢ codes "matrix"
    → game_of_table document ≡ refused OUT_OF_RANGE Document
unfolding game_of_table version_of form_of
other_form document text v there s m =
    let one = differs text (codes "security") s in
    let two = differs text (codes "matrix") m in
    rw (v, there, one, two) refl

-- the steps of the form
of_form : (kind : Kind) (document : Members) → IsOfForm kind document → game_of_table document ≡ game_of_form kind document
unfolding game_of_table version_of form_of
of_form Security document h = let v = h.version in let f = h.form in rw (v, f) refl
of_form Matrix document h = let v = h.version in let f = h.form in rw (v, f) refl

security_unknown : (document : Members) (key : List ℕ) (value : Data) (o : Option Data) → get_member (codes "patrols") document ≡ o → IsOfForm Security document → get_member key document ≡ Some value
    → is_own_key Security document key ≡ false → game_of_table document ≡ refused UNKNOWN_KEY Document
security_unknown document key value (Some given) e h there none =
    let unknown : is_patrols_key key ≡ false = rw e at none in
    of_form Security document h ∙ (rw e (patrols_unknown given document (unknown_found is_patrols_key key document value there unknown)))
security_unknown document key value None e h there none =
    let unknown : is_resources_key key ≡ false = rw e at none in
    of_form Security document h ∙ (rw e (listed_unknown document (unknown_found is_resources_key key document value there unknown)))

unknown : (kind : Kind) (document : Members) (key : List ℕ) (value : Data) → IsOfForm kind document → get_member key document ≡ Some value → is_own_key kind document key ≡ false
    → game_of_table document ≡ refused UNKNOWN_KEY Document
unknown Security document key value h there none = security_unknown document key value (get_member (codes "patrols") document) refl h there none
unknown Matrix document key value h there none = of_form Matrix document h ∙ matrix_unknown document (unknown_found is_matrix_key key document value there none)

-- a key that is there isn't the missing one
there_not : {Goal : Type 0} (key known : List ℕ) (document : Members) (value : Data) → bytes_eq key known ≡ true → get_member known document ≡ Some value → get_member key document ≡ None → Goal
there_not key known document value e there none =
    absurd (let found : Some value ≡ None = sym there ∙ (ap (λ (k : List ℕ). get_member k document) (sym (same key known e)) ∙ none) in cc)

named_none : (key known : List ℕ) (document : Members) → bytes_eq key known ≡ true → get_member key document ≡ None → get_member known document ≡ None
named_none key known document e none = ap (λ (k : List ℕ). get_member k document) (sym (same key known e)) ∙ none

rows_or_types : (document : Members) (o : Option Data) → get_member (codes "rows") document ≡ o → has_only is_matrix_key document ≡ true → get_member (codes "type") document ≡ None
    → matrix_game document ≡ refused MISSING_KEY Document
rows_or_types document None e known none = no_rows document known e
rows_or_types document (Some x) e known none = no_matrix_types document x known e none

matrix_missing : (document : Members) (key : List ℕ) → IsOfForm Matrix document → has_only is_matrix_key document ≡ true → is_matrix_key key ≡ true → get_member key document ≡ None
    → matrix_game document ≡ refused MISSING_KEY Document
matrix_missing document key h known own none =
    elim (or_cases _ (bytes_eq key (codes "type")) own) [
      | inr is ↦ rows_or_types document (get_member (codes "rows") document) refl known (named_none key (codes "type") document is none)
      | inl more ↦ elim (or_cases _ (bytes_eq key (codes "rows")) more) [
        | inr is ↦ no_rows document known (named_none key (codes "rows") document is none)
        | inl first ↦ elim (or_cases (bytes_eq key (codes "version")) (bytes_eq key (codes "form")) first) [
          | inl is ↦ there_not key (codes "version") document (integer (pos 1)) is h.version none
          | inr is ↦ there_not key (codes "form") document (string (codes "matrix")) is h.form none
        ]
      ]
    ]

targets_or_types : (given : Data) (document : Members) (o : Option Data) → get_member (codes "targets") document ≡ o → has_only is_patrols_key document ≡ true → get_member (codes "type") document ≡ None
    → patrols_game given document ≡ refused MISSING_KEY Document
targets_or_types given document None e known none = no_patrols_targets given document known e
targets_or_types given document (Some x) e known none = no_patrols_types given document x known e none

patrols_missing : (given : Data) (document : Members) (key : List ℕ) → get_member (codes "patrols") document ≡ Some given → IsOfForm Security document → has_only is_patrols_key document ≡ true
    → is_patrols_key key ≡ true → bytes_eq key (codes "scale") ≡ false → get_member key document ≡ None → patrols_game given document ≡ refused MISSING_KEY Document
patrols_missing given document key there h known own unscaled none =
    elim (or_cases _ (bytes_eq key (codes "type")) own) [
      | inr is ↦ targets_or_types given document (get_member (codes "targets") document) refl known (named_none key (codes "type") document is none)
      | inl more ↦ elim (or_cases _ (bytes_eq key (codes "patrols")) more) [
        | inr is ↦ there_not key (codes "patrols") document given is there none
        | inl less ↦ elim (or_cases _ (bytes_eq key (codes "scale")) less) [
          | inr is ↦ absurd (true≢false (sym is ∙ unscaled))
          | inl few ↦ elim (or_cases _ (bytes_eq key (codes "targets")) few) [
            | inr is ↦ no_patrols_targets given document known (named_none key (codes "targets") document is none)
            | inl first ↦ elim (or_cases (bytes_eq key (codes "version")) (bytes_eq key (codes "form")) first) [
              | inl is ↦ there_not key (codes "version") document (integer (pos 1)) is h.version none
              | inr is ↦ there_not key (codes "form") document (string (codes "security")) is h.form none
            ]
          ]
        ]
      ]
    ]

or_early : (a b : Bool) → a ≡ true → (a || b) ≡ true
or_early a b e = rw e refl

or_late : (a b : Bool) → b ≡ true → (a || b) ≡ true
or_late true b e = refl
or_late false b e = e

-- one of the needed keys isn't there, or a scale is
abbrev is_missing : Option Data → Bool → Option Data → Option Data → Option Data → Bool
is_missing targets scaled given manned attackers = (((is_none targets || scaled) || is_none given) || is_none manned) || is_none attackers

lone : (document : Members) (x : Data) → has_only is_resources_key document ≡ true → get_member (codes "targets") document ≡ Some x → is_some (get_member (codes "scale") document) ≡ true
    → resources_game document ≡ refused MISSING_KEY Document
unfolding resources_game
lone document x a b s = rw (a, b, s) refl

some_missing : (document : Members) (targets : Option Data) (scaled : Bool) (given manned attackers : Option Data) → get_member (codes "targets") document ≡ targets
    → is_some (get_member (codes "scale") document) ≡ scaled → get_member (codes "schedule") document ≡ given → get_member (codes "resource") document ≡ manned → get_member (codes "type") document ≡ attackers
    → has_only is_resources_key document ≡ true → is_missing targets scaled given manned attackers ≡ true → resources_game document ≡ refused MISSING_KEY Document
some_missing document None scaled given manned attackers a s b c d known m = no_targets document known a
some_missing document (Some x) true given manned attackers a s b c d known m = lone document x known a s
some_missing document (Some x) false None manned attackers a s b c d known m = no_schedules document x known a b
some_missing document (Some x) false (Some y) None attackers a s b c d known m = no_resources document x y known a s b c
some_missing document (Some x) false (Some y) (Some z) None a s b c d known m = no_types document x y z known a s b c d
some_missing document (Some x) false (Some y) (Some z) (Some w) a s b c d known m = absurd (cc)

listed_missing : (document : Members) (key : List ℕ) → IsOfForm Security document → has_only is_resources_key document ≡ true → is_resources_key key ≡ true → bytes_eq key (codes "scale") ≡ false
    → get_member key document ≡ None → resources_game document ≡ refused MISSING_KEY Document
listed_missing document key h known own unscaled none =
    let targets = get_member (codes "targets") document in
    let scaled = is_some (get_member (codes "scale") document) in
    let given = get_member (codes "schedule") document in
    let manned = get_member (codes "resource") document in
    let attackers = get_member (codes "type") document in
    some_missing document targets scaled given manned attackers refl refl refl refl refl known
    (elim (or_cases _ (bytes_eq key (codes "type")) own) [
      | inr is ↦ or_late (((is_none targets || scaled) || is_none given) || is_none manned) (is_none attackers) (ap is_none (named_none key (codes "type") document is none))
      | inl k1 ↦ or_early (((is_none targets || scaled) || is_none given) || is_none manned) (is_none attackers) (elim (or_cases _ (bytes_eq key (codes "resource")) k1) [
        | inr is ↦ or_late ((is_none targets || scaled) || is_none given) (is_none manned) (ap is_none (named_none key (codes "resource") document is none))
        | inl k2 ↦ or_early ((is_none targets || scaled) || is_none given) (is_none manned) (elim (or_cases _ (bytes_eq key (codes "schedule")) k2) [
          | inr is ↦ or_late (is_none targets || scaled) (is_none given) (ap is_none (named_none key (codes "schedule") document is none))
          | inl k3 ↦ or_early (is_none targets || scaled) (is_none given) (elim (or_cases _ (bytes_eq key (codes "scale")) k3) [
            | inr is ↦ absurd (true≢false (sym is ∙ unscaled))
            | inl k4 ↦ elim (or_cases _ (bytes_eq key (codes "targets")) k4) [
              | inr is ↦ or_early (is_none targets) scaled (ap is_none (named_none key (codes "targets") document is none))
              | inl first ↦ elim (or_cases (bytes_eq key (codes "version")) (bytes_eq key (codes "form")) first) [
                | inl is ↦ there_not key (codes "version") document (integer (pos 1)) is h.version none
                | inr is ↦ there_not key (codes "form") document (string (codes "security")) is h.form none
              ]
            ]
          ])
        ])
      ])
    ])

own_keys : (given with_patrols : Bool) → given ≡ with_patrols → (document : Members) → has_only (is_top_key Security (if given then Some 0 else None)) document ≡ true
    → has_only (is_top_key Security (if with_patrols then Some 0 else None)) document ≡ true
own_keys given with_patrols e document h = rw e at h

own_one : (given with_patrols : Bool) → given ≡ with_patrols → (key : List ℕ) → is_top_key Security (if given then Some 0 else None) key ≡ true
    → is_top_key Security (if with_patrols then Some 0 else None) key ≡ true
own_one given with_patrols e key h = rw e at h

security_missing : (document : Members) (key : List ℕ) (o : Option Data) → get_member (codes "patrols") document ≡ o → IsOfForm Security document → has_only (is_own_key Security document) document ≡ true
    → is_own_key Security document key ≡ true → bytes_eq key (codes "scale") ≡ false → get_member key document ≡ None → game_of_table document ≡ refused MISSING_KEY Document
security_missing document key (Some given) e h known own unscaled none =
    let all : has_only is_patrols_key document ≡ true = own_keys (is_some (get_member (codes "patrols") document)) true (ap is_some e) document known in
    let one : is_patrols_key key ≡ true = own_one (is_some (get_member (codes "patrols") document)) true (ap is_some e) key own in
    of_form Security document h ∙ (rw e (patrols_missing given document key e h all one unscaled none))
security_missing document key None e h known own unscaled none =
    let all : has_only is_resources_key document ≡ true = own_keys (is_some (get_member (codes "patrols") document)) false (ap is_some e) document known in
    let one : is_resources_key key ≡ true = own_one (is_some (get_member (codes "patrols") document)) false (ap is_some e) key own in
    of_form Security document h ∙ (rw e (listed_missing document key h all one unscaled none))

missing : (kind : Kind) (document : Members) (key : List ℕ) → IsOfForm kind document → has_only (is_own_key kind document) document ≡ true → is_own_key kind document key ≡ true
    → key ≢ codes "scale" → get_member key document ≡ None → game_of_table document ≡ refused MISSING_KEY Document
missing Security document key h known own ne none = security_missing document key (get_member (codes "patrols") document) refl h known own (differs key (codes "scale") ne) none
missing Matrix document key h known own ne none = of_form Matrix document h ∙ matrix_missing document key h known own none

scale_alone : (document : Members) (o : Option Data) → get_member (codes "targets") document ≡ o → has_only is_resources_key document ≡ true → is_some (get_member (codes "scale") document) ≡ true
    → resources_game document ≡ refused MISSING_KEY Document
scale_alone document None e known s = no_targets document known e
scale_alone document (Some x) e known s = lone document x known e s

lone_scale : (document : Members) (value : Data) → IsOfForm Security document → has_only (is_own_key Security document) document ≡ true → get_member (codes "scale") document ≡ Some value
    → get_member (codes "patrols") document ≡ None → game_of_table document ≡ refused MISSING_KEY Document
lone_scale document value h known there none =
    let all : has_only is_resources_key document ≡ true = own_keys (is_some (get_member (codes "patrols") document)) false (ap is_some none) document known in
    of_form Security document h ∙ (rw none (scale_alone document (get_member (codes "targets") document) refl all (ap is_some there)))

pub heads : HeadIsRefused
heads = record {
  no_version = no_version;
  version_kind = version_kind;
  no_form = no_form;
  form_kind = form_kind;
  other_form = other_form;
  unknown = unknown;
  missing = missing;
  lone_scale = lone_scale;
}
