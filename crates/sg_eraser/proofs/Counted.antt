-- Counts of a game in security form.
use Rattle.std.proofs.Common.{◌≡◌, ◌∙◌, ℕ, length, refl}
use Rattle.sg_model.specs.declared.kind.Kind.TheVariants.{Security}
use Rattle.sg_model.specs.Games.{Game}
use Rattle.sg_model.proofs.Forms.{no_matrix}
use Rattle.sg_game.specs.Counts.{target_count}

pub targets-are : (g : Game) → g.kind ≡ Security → (n : ℕ) → n ≡ target_count g → n ≡ length g.goals
targets-are g security n e = e ∙ rw (no_matrix g security) refl
