-- Parts whose game keeps its promises can lie in a draft.
use Rattle.std.proofs.Common.{◌≡◌, ℕ, ◌≤◌, [], length, Option, Some, None, refl, sym, subst, arith}
use Rattle.sg_model.specs.Games.{Game}
use Rattle.sg_model.specs.Limits.{AreListed, AreLists, IsDefended, IsGame}
use Rattle.sg_game.specs.declared.parts.Parts.{Parts}
use Rattle.sg_game.specs.Drafts.{FitsDraft, IsFewPatrols}
use Rattle.sg_game.specs.Seen.{game_of}
use Rattle.sg_game.proofs.Promises.{by_form, defended, goals_few, listed, patrols_few}
use Rattle.sg_game.proofs.Told.{no_lists}
use Rattle.sg_game.proofs.Drawn.{fit_all}

few_of : (o : Option ℕ) → ((n : ℕ) → o ≡ Some n → n ≤ 200) → IsFewPatrols o
few_of None h = tt
few_of (Some n) h = h n refl

-- nothing listed
none_listed : (g : Game) → g.schedules ≡ [] → g.resources ≡ [] → AreListed g
none_listed g e f = record {
  schedules = subst (AreLists (length g.goals) 500 200) (sym e) (no_lists (length g.goals) 500 200);
  resources = subst (AreLists (length g.schedules) 32 500) (sym f) (no_lists (length g.schedules) 32 500);
}

security_listed : (g : Game) → IsDefended g g.patrols → AreListed g
security_listed g h = by_patrols g.patrols refl
  where
    by_patrols : (o : Option ℕ) → g.patrols ≡ o → AreListed g
    by_patrols None e = listed g h e
    by_patrols (Some n) e = let d = defended g h n e in none_listed g d.no_schedules d.no_resources

-- what a game lists is within the limits, in either form and with patrols as well
all_listed : (g : Game) → IsGame g → AreListed g
all_listed g h = by_form g (AreListed g) h (λ e s. security_listed g s.defended) (λ e m. none_listed g m.no_schedules m.no_resources)

pub fits_made : (p : Parts) → IsGame (game_of p) → FitsDraft p
fits_made p h =
    let g : Game = game_of p in
    let all = all_listed g h in
    record {
      patrols = few_of g.patrols (patrols_few g h);
      schedules = fit_all (length g.goals) 500 200 (goals_few g h) p.schedules.items all.schedules;
      resources = fit_all (length g.schedules) 32 500 (let few = all.schedules.few in omega (arith, few)) p.resources.items all.resources;
    }
