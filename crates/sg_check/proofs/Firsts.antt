-- The first test that fails, of tests one after another.
use Rattle.std.proofs.Common.{ℕ, List, [], ◌∷◌, ◌++◌, inl, inr}
use Rattle.sg_model.specs.Games.{Game}
use Rattle.sg_tree.specs.declared.report.Report.{Report}
use Rattle.sg_bounds.specs.Checking.{Stop, AllPass, FirstFails}

pub AllPass-append : (g : Game) (r : Report) (xs ys : List Stop) → AllPass g r xs → AllPass g r ys → AllPass g r (xs ++ ys)
AllPass-append g r [] ys h k = k
AllPass-append g r (x ∷ xs) ys h k = (h.0, AllPass-append g r xs ys h.1 k)

pub FirstFails-left : (g : Game) (r : Report) (xs ys : List Stop) (line reason : ℕ) → FirstFails g r xs line reason → FirstFails g r (xs ++ ys) line reason
FirstFails-left g r [] ys line reason h = absurd h
FirstFails-left g r (x ∷ xs) ys line reason (inl h) = inl h
FirstFails-left g r (x ∷ xs) ys line reason (inr h) = inr (h.0, FirstFails-left g r xs ys line reason h.1)

pub FirstFails-right : (g : Game) (r : Report) (xs ys : List Stop) (line reason : ℕ) → AllPass g r xs → FirstFails g r ys line reason → FirstFails g r (xs ++ ys) line reason
FirstFails-right g r [] ys line reason h k = k
FirstFails-right g r (x ∷ xs) ys line reason h k = inr (h.0, FirstFails-right g r xs ys line reason h.1 k)

-- what holds of the tests from here on holds of all
pub record IsRest (g : Game) (r : Report) (all rest : List Stop) : Type 0 where
  pub pass : AllPass g r rest → AllPass g r all
  pub fails : (line reason : ℕ) → FirstFails g r rest line reason → FirstFails g r all line reason

pub rest-itself : (g : Game) (r : Report) (xs : List Stop) → IsRest g r xs xs
rest-itself g r xs = record { pass = λ h. h; fails = λ line reason h. h }

pub rest-next : (g : Game) (r : Report) (all xs ys : List Stop) → IsRest g r all (xs ++ ys) → AllPass g r xs → IsRest g r all ys
rest-next g r all xs ys h k =
    record { pass = λ p. h.pass (AllPass-append g r xs ys k p); fails = λ line reason f. h.fails line reason (FirstFails-right g r xs ys line reason k f) }

pub rest-fails : (g : Game) (r : Report) (all xs ys : List Stop) → IsRest g r all (xs ++ ys) → (line reason : ℕ) → FirstFails g r xs line reason → FirstFails g r all line reason
rest-fails g r all xs ys h line reason f = h.fails line reason (FirstFails-left g r xs ys line reason f)
