use Rattle.std.proofs.Common.{◌≡◌, ◌∙◌, refl, rules, FitsSigned, w64}
use Rattle.std.specs.List.{list_all}
use Rattle.std.proofs.lemmas.List.Folds.{list_all-map}
use Rattle.std.proofs.lemmas.Int.{to_z-of_z}
use Rattle.sg_model.specs.Games.{Attacker}
use Rattle.sg_game.specs.Seen.{attacker_of, game_of}
use Rattle.sg_game.specs.declared.parts.TypeParts.{TypeParts}
use Rattle.sg_format.specs.GameFiles.{fits_scale}
use Rattle.sg_file.proofs.limits.fits_scale.Goals as goal

pub returns : goal.returns
returns c =
    let parts = c.args.parts.now in
    let fit : FitsSigned w64 c.scale_of.result = search rules in
    let told : c.types_fit.result ≡ list_all (λ (x : TypeParts). list_all (fits_scale c.scale_of.result) (attacker_of x).payoffs) parts.types.items =
    (simp to_z-of_z at c.types_fit.ensures) ∙ rw c.deref.ensures.value refl in
    rw (list_all-map (λ (x : Attacker). list_all (fits_scale (game_of parts).scale) x.payoffs) attacker_of parts.types.items, ← c.scale_of.ensures) told
