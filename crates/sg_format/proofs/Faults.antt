-- Documents refused for their version, or for their top keys by the steps of a form.
use Rattle.std.proofs.Common.{◌≡◌, ◌≢◌, ◌∙◌, ℕ, true, false, ◌==◌, List, Option, Some, None, is_some, ℤ, pos, negsuc, Ok, refl, ap, inl, inr}
use Rattle.std.specs.Prelude.{bytes_eq, codes}
use Rattle.std.specs.Str.{is_utf8}
use Rattle.std.proofs.lemmas.Bool.{cases_Bool, eqb-true}
use Rattle.toml.specs.Data.{Data, Members, get_member}
use Rattle.sg_model.specs.declared.fault.Place.TheVariants.{Document}
use Rattle.sg_model.specs.declared.kind.Kind.{Kind}
use Rattle.sg_format.specs.Steps.{refused}
use Rattle.sg_model.specs.declared.reason.TheConstants.{MISSING_KEY, UNKNOWN_KEY}
use Rattle.sg_format.specs.Documents.{document_of, has_only}
use Rattle.sg_format.specs.GameFiles.{form_of, game_of_bytes, game_of_form, game_of_table, is_matrix_key, is_one, is_patrols_key, is_resources_key, matrix_game, patrols_game, resources_game, version_of}
use Rattle.sg_format.specs.Changes.{DiffersAt}
use Rattle.sg_format.specs.FaultLaws.{NotTomlIsRefused, OtherVersionIsRefused}
use Rattle.sg_format.proofs.Keys.{same}
use Rattle.sg_format.proofs.Files.{IsHeaded}

pub not_toml : NotTomlIsRefused
unfolding game_of_bytes document_of
not_toml bytes (inl e) = rw e refl
not_toml bytes (inr e) = elim (cases_Bool (is_utf8 bytes)) [
  | inl holds ↦ rw (holds, e) refl
  | inr other ↦ rw other refl
]

not_one : (z : ℤ) → z ≢ pos 1 → is_one z ≡ false
not_one (pos n) ne = elim (cases_Bool (n == 1)) [
  | inl holds ↦ absurd (ne (ap (λ (k : ℕ). pos k) (eqb-true n 1 holds)))
  | inr other ↦ other
]
not_one (negsuc n) ne = refl

pub other_version : OtherVersionIsRefused
unfolding game_of_table version_of
other_version table z e ne = let q = not_one z ne in rw (e, q) refl

pub version_same : (first second : Members) → get_member (codes "version") second ≡ get_member (codes "version") first → version_of second ≡ version_of first
unfolding version_of
version_same first second e = rw e refl

pub form_same : (first second : Members) → get_member (codes "form") second ≡ get_member (codes "form") first → form_of second ≡ form_of first
unfolding form_of
form_same first second e = rw e refl

-- where version and form stay, the form's own steps decide
pub headed : (key : List ℕ) (value : Option Data) (first second : Members) (kind : Kind) → DiffersAt key value first second → IsHeaded first kind
    → codes "version" ≢ key → codes "form" ≢ key → game_of_table second ≡ game_of_form kind second
unfolding game_of_table
headed key value first second kind d head v f =
    let a : version_of second ≡ Ok tt = version_same first second (d.elsewhere (codes "version") v) ∙ head.version in
    let b : form_of second ≡ Ok kind = form_same first second (d.elsewhere (codes "form") f) ∙ head.form in
    rw (a, b) refl

pub matrix_unknown : (t : Members) → has_only is_matrix_key t ≡ false → matrix_game t ≡ refused UNKNOWN_KEY Document
unfolding matrix_game
matrix_unknown t e = rw e refl

pub patrols_unknown : (given : Data) (t : Members) → has_only is_patrols_key t ≡ false → patrols_game given t ≡ refused UNKNOWN_KEY Document
unfolding patrols_game
patrols_unknown given t e = rw e refl

pub listed_unknown : (t : Members) → has_only is_resources_key t ≡ false → resources_game t ≡ refused UNKNOWN_KEY Document
unfolding resources_game
listed_unknown t e = rw e refl

pub no_rows : (t : Members) → has_only is_matrix_key t ≡ true → get_member (codes "rows") t ≡ None → matrix_game t ≡ refused MISSING_KEY Document
unfolding matrix_game
no_rows t a b = rw (a, b) refl

pub no_matrix_types : (t : Members) (x : Data) → has_only is_matrix_key t ≡ true → get_member (codes "rows") t ≡ Some x → get_member (codes "type") t ≡ None
    → matrix_game t ≡ refused MISSING_KEY Document
unfolding matrix_game
no_matrix_types t x a b e = rw (a, b, e) refl

pub no_patrols_targets : (given : Data) (t : Members) → has_only is_patrols_key t ≡ true → get_member (codes "targets") t ≡ None → patrols_game given t ≡ refused MISSING_KEY Document
unfolding patrols_game
no_patrols_targets given t a b = rw (a, b) refl

pub no_patrols_types : (given : Data) (t : Members) (x : Data) → has_only is_patrols_key t ≡ true → get_member (codes "targets") t ≡ Some x → get_member (codes "type") t ≡ None
    → patrols_game given t ≡ refused MISSING_KEY Document
unfolding patrols_game
no_patrols_types given t x a b e = rw (a, b, e) refl

pub no_targets : (t : Members) → has_only is_resources_key t ≡ true → get_member (codes "targets") t ≡ None → resources_game t ≡ refused MISSING_KEY Document
unfolding resources_game
no_targets t a b = rw (a, b) refl

pub no_schedules : (t : Members) (x : Data) → has_only is_resources_key t ≡ true → get_member (codes "targets") t ≡ Some x → get_member (codes "schedule") t ≡ None
    → resources_game t ≡ refused MISSING_KEY Document
unfolding resources_game
no_schedules t x a b e = elim (cases_Bool (is_some (get_member (codes "scale") t))) [
  | inl holds ↦ rw (a, b, holds) refl
  | inr other ↦ rw (a, b, other, e) refl
]

pub no_resources : (t : Members) (x y : Data) → has_only is_resources_key t ≡ true → get_member (codes "targets") t ≡ Some x → is_some (get_member (codes "scale") t) ≡ false
    → get_member (codes "schedule") t ≡ Some y → get_member (codes "resource") t ≡ None → resources_game t ≡ refused MISSING_KEY Document
unfolding resources_game
no_resources t x y a b n e f = rw (a, b, n, e, f) refl

pub no_types : (t : Members) (x y z : Data) → has_only is_resources_key t ≡ true → get_member (codes "targets") t ≡ Some x → is_some (get_member (codes "scale") t) ≡ false
    → get_member (codes "schedule") t ≡ Some y → get_member (codes "resource") t ≡ Some z → get_member (codes "type") t ≡ None → resources_game t ≡ refused MISSING_KEY Document
unfolding resources_game
no_types t x y z a b n e f u = rw (a, b, n, e, f, u) refl

pub differs : (a b : List ℕ) → a ≢ b → bytes_eq a b ≡ false
differs a b ne = elim (cases_Bool (bytes_eq a b)) [
  | inl is ↦ absurd (ne (same a b is))
  | inr isnt ↦ isnt
]
