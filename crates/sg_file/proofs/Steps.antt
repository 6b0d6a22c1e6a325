-- What the library's words say in the words of the format.
use Rattle.std.proofs.Common.{◌≡◌, ℕ, Bool, ◌&&◌, List, [], ◌∷◌, None, Global, String, string_bytes, refl, ap, inl, inr}
use Rattle.std.specs.Prelude.{IsUtf8}
use Rattle.std.specs.Map.{keys_of}
use Rattle.std.specs.List.{list_all}
use Rattle.std.proofs.lemmas.Bool.{cases_Bool}
use Rattle.std.proofs.lemmas.Str.{IsUtf8-from_is_utf8}
use Rattle.std.specs.Str.{is_utf8}
use Rattle.toml.specs.Parse.{parse_document}
use Rattle.toml.specs.View.{members_view}
use Rattle.toml.specs.declared.value.Value.{Value}
use Rattle.sg_model.specs.declared.fault.Place.TheVariants.{Document}
use Rattle.sg_format.specs.Steps.{refused}
use Rattle.sg_model.specs.declared.reason.TheConstants.{NOT_TOML}
use Rattle.sg_format.specs.Documents.{document_of, has_only}

pub document_of-refused : (bytes : List ℕ) → (IsUtf8 bytes → parse_document bytes ≡ None) → document_of bytes ≡ refused NOT_TOML Document
unfolding document_of
document_of-refused bytes h =
    elim (cases_Bool (is_utf8 bytes)) [
      | inl text ↦ rw (text, h (IsUtf8-from_is_utf8 bytes text)) refl
      | inr other ↦ rw other refl
    ]

pub has_only-view : (known : List ℕ → Bool) (es : List (String Global × Value)) → list_all (λ k. known (string_bytes k)) (keys_of es) ≡ has_only known (members_view es)
has_only-view known [] = refl
has_only-view known (e ∷ es) = ap (λ b. known (string_bytes e.0) && b) (has_only-view known es)
