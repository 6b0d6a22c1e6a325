-- The first test that fails.
use Rattle.std.proofs.Common.{◌≡◌, ℕ, List, [], ◌∷◌, sym, ◌∙◌, inl, inr}
use Rattle.sg_model.specs.Games.{Game}
use Rattle.sg_tree.specs.declared.report.Report.{Report}
use Rattle.sg_bounds.specs.Checking.{Stop, AllPass, FirstFails}
use Rattle.sg_bounds.specs.CheckLaws.{FirstIsOne}

fails-none : (g : Game) (r : Report) (ss : List Stop) (line reason : ℕ) → FirstFails g r ss line reason → AllPass g r ss → ⊥
fails-none g r [] line reason f h = absurd f
fails-none g r (s ∷ ss) line reason (inl f) h = f.0 h.0
fails-none g r (s ∷ ss) line reason (inr f) h = fails-none g r ss line reason f.1 h.1

fails-one : (g : Game) (r : Report) (ss : List Stop) (line reason other why : ℕ) → FirstFails g r ss line reason → FirstFails g r ss other why → (line ≡ other) × (reason ≡ why)
fails-one g r [] line reason other why f h = absurd f
fails-one g r (s ∷ ss) line reason other why (inl f) (inl h) = (sym f.1 ∙ h.1, sym f.2 ∙ h.2)
fails-one g r (s ∷ ss) line reason other why (inl f) (inr h) = absurd (f.0 h.0)
fails-one g r (s ∷ ss) line reason other why (inr f) (inl h) = absurd (h.0 f.0)
fails-one g r (s ∷ ss) line reason other why (inr f) (inr h) = fails-one g r ss line reason other why f.1 h.1

pub first_is_one : FirstIsOne
first_is_one g r ss line reason f = (λ h. fails-none g r ss line reason f h, λ other why h. fails-one g r ss line reason other why f h)
