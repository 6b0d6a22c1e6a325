-- What each reason means for the version, the form and the top keys, whatever else stands in the document.
use Rattle.std.specs.Prelude.{◌≡◌, ◌≢◌, ℕ, Bool, true, false, if◌then◌else◌, List, pos, Some, None, is_some, codes}
use Rattle.toml.specs.Data.{Data, Members, as_integer, as_str, get_member, integer, string}
use Rattle.sg_model.specs.declared.fault.Place.TheVariants.{Document}
use Rattle.sg_model.specs.declared.kind.Kind.{Kind}
use Rattle.sg_model.specs.declared.kind.Kind.TheVariants.{Security}
use Rattle.sg_format.specs.Steps.{refused}
use Rattle.sg_model.specs.declared.reason.TheConstants.{MISSING_KEY, WRONG_KIND, UNKNOWN_KEY, OUT_OF_RANGE}
use Rattle.sg_format.specs.Documents.{has_only}
use Rattle.sg_format.specs.GameText.{form_name}
use Rattle.sg_format.specs.GameFiles.{game_of_table}
use Rattle.sg_format.specs.Changes.{is_top_key}

-- the version is 1
abbrev pub IsFirstVersion : Members → Type 0
IsFirstVersion document = get_member (codes "version") document ≡ Some (integer (pos 1))

-- the version is 1 and the form is this one
pub record IsOfForm (kind : Kind) (document : Members) : Type 0 where
  pub version : IsFirstVersion document
  pub form : get_member (codes "form") document ≡ Some (string (form_name kind))

-- whether a key is one of the top keys of the document's form, which are others where the number of patrols is given
abbrev pub is_own_key : Kind → Members → List ℕ → Bool
is_own_key kind document key = is_top_key kind (if is_some (get_member (codes "patrols") document) then Some 0 else None) key

-- the tests before those of the values, in their order: each asks that those before it pass
pub record HeadIsRefused : Type 0 where
  pub no_version : (document : Members) → get_member (codes "version") document ≡ None → game_of_table document ≡ refused MISSING_KEY Document
  pub version_kind : (document : Members) (value : Data) → get_member (codes "version") document ≡ Some value → as_integer value ≡ None → game_of_table document ≡ refused WRONG_KIND Document
  pub no_form : (document : Members) → IsFirstVersion document → get_member (codes "form") document ≡ None → game_of_table document ≡ refused MISSING_KEY Document
  pub form_kind : (document : Members) (value : Data) → IsFirstVersion document → get_member (codes "form") document ≡ Some value → as_str value ≡ None → game_of_table document ≡ refused WRONG_KIND Document
  pub other_form : (document : Members) (text : List ℕ) → IsFirstVersion document → get_member (codes "form") document ≡ Some (string text) → text ≢ codes "security" → text ≢ codes "matrix"
      → game_of_table document ≡ refused OUT_OF_RANGE Document
  pub unknown : (kind : Kind) (document : Members) (key : List ℕ) (value : Data) → IsOfForm kind document → get_member key document ≡ Some value → is_own_key kind document key ≡ false
      → game_of_table document ≡ refused UNKNOWN_KEY Document
  pub missing : (kind : Kind) (document : Members) (key : List ℕ) → IsOfForm kind document → has_only (is_own_key kind document) document ≡ true → is_own_key kind document key ≡ true
      → key ≢ codes "scale" → get_member key document ≡ None → game_of_table document ≡ refused MISSING_KEY Document
  -- a scale asks for patrols
  pub lone_scale : (document : Members) (value : Data) → IsOfForm Security document → has_only (is_own_key Security document) document ≡ true → get_member (codes "scale") document ≡ Some value
      → get_member (codes "patrols") document ≡ None → game_of_table document ≡ refused MISSING_KEY Document
