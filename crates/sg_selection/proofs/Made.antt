-- Lists of named events are runs of a search.
use Rattle.std.proofs.Common.{[], ◌∷◌, sym, ◌∙◌, ap, subst, refl}
use Rattle.sg_search.specs.Searches.{Search}
use Rattle.sg_selection.specs.Selections.{SelectionState}
use Rattle.sg_selection.specs.SelectedRuns.{SelectedRuns, after_events}
use Rattle.sg_selection.specs.SelectionLaws.{SelectedAreRuns, SelectedGoOn, SelectionIsOfEvents}

pub selected-runs : SelectedAreRuns
selected-runs p c s [] d t r = r.1
selected-runs p c s (m ∷ ms) d t r = (r.1, r.4, selected-runs p r.0 r.1 ms d t r.5)

pub selected-more : SelectedGoOn
selected-more p c s [] b t r m d u names of goes =
    subst (λ (x : SelectionState). SelectedRuns p x s (m ∷ []) d u) (sym r.0)
    (subst (λ (x : Search). SelectedRuns p b x (m ∷ []) d u) (sym r.1) (d, u, names, of, goes, (refl, refl)))
selected-more p c s (n ∷ ms) b t r m d u names of goes = (r.0, r.1, r.2, r.3, r.4, selected-more p r.0 r.1 ms b t r.5 m d u names of goes)

pub selection-events : SelectionIsOfEvents
selection-events p c s [] d t r = sym r.0
selection-events p c s (m ∷ ms) d t r = selection-events p r.0 r.1 ms d t r.5 ∙ ap (λ (x : SelectionState). after_events x ms) r.2.after
