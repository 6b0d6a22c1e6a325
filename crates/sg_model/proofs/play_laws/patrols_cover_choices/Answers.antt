use Rattle.std.proofs.Common.{sym, ◌∙◌}
use Rattle.sg_model.proofs.Held.{any-contains, contains-any, covers_from-any}
use Rattle.sg_model.proofs.play_laws.patrols_cover_choices.Goals as goal

pub returns : goal.returns
returns c = λ g patrols e play t low high. let same = covers_from-any g patrols e 1 play t low high in (λ yes. contains-any play t (sym same ∙ yes), λ h. same ∙ any-contains play t h)
