use Rattle.std.proofs.Common.{◌≡◌, ◌∙◌, ℤ, Vec, Global, refl, rules, FitsSigned, w64}
use Rattle.std.specs.List.{list_all}
use Rattle.std.proofs.lemmas.Int.{to_z-of_z}
use Rattle.std.proofs.lemmas.List.Folds.{list_all-map}
use Rattle.sg_game.specs.Seen.{number_lists}
use Rattle.sg_model.specs.Games.{payoff_of}
use Rattle.sg_format.specs.GameFiles.{fits_scale}
use Rattle.sg_file.proofs.limits.type_fits.Goals as goal

pub returns : goal.returns
returns c =
    let lists = c.args.attacker.now.payoffs.items in
    let fit : FitsSigned w64 c.args.scale = search rules in
    let told : c.targets_fit.result ≡ list_all (λ (v : Vec ℤ Global). fits_scale c.args.scale (payoff_of v.items)) lists =
    (simp to_z-of_z at c.targets_fit.ensures) ∙ rw c.deref.ensures.value refl in
    rw (list_all-map (fits_scale c.args.scale) payoff_of (number_lists lists), list_all-map (λ xs. fits_scale c.args.scale (payoff_of xs)) (λ (v : Vec ℤ Global). v.items) lists) told
