-- The first value shown, of appended lists of named operations.
use Rattle.std.proofs.Common.{◌≡◌, ℕ, Bool, true, false, cond, List, [], ◌∷◌, ◌++◌, refl, ap, sym, ◌∙◌, append-nil, Option, Some, None}
use Rattle.sg_num.specs.declared.step.Wide.{Wide}
use Rattle.sg_num.specs.Operations.{first_wide, is_formed}
use Rattle.sg_lp.specs.Moves.{NamedStep, first_shown, under_name}

pub named-fits : (n : ℕ) (steps : List Wide) (rest : List NamedStep) → first_wide steps ≡ None → first_shown (under_name n steps ++ rest) ≡ first_shown rest
named-fits n [] rest e = refl
named-fits n (s ∷ ss) rest e = go (is_formed s) (λ q. named-fits n ss rest q) e
  where
    go : (t : Bool) → (first_wide ss ≡ None → first_shown (under_name n ss ++ rest) ≡ first_shown rest) → ◌≡◌ {A = Option Wide} (cond t (first_wide ss) (Some s)) None
        → cond t (first_shown (under_name n ss ++ rest)) (Some (record { name = n; step = s })) ≡ first_shown rest
    go true rec q = rec q
    go false rec q = cc

pub named-stops : (n : ℕ) (steps : List Wide) (rest : List NamedStep) (w : Wide) → first_wide steps ≡ Some w → first_shown (under_name n steps ++ rest) ≡ Some (record { name = n; step = w })
named-stops n [] rest w e = cc
named-stops n (s ∷ ss) rest w e = go (is_formed s) (λ q. named-stops n ss rest w q) e
  where
    go : (t : Bool) → (first_wide ss ≡ Some w → first_shown (under_name n ss ++ rest) ≡ Some (record { name = n; step = w })) → ◌≡◌ {A = Option Wide} (cond t (first_wide ss) (Some s)) (Some w)
        → cond t (first_shown (under_name n ss ++ rest)) (Some (record { name = n; step = s })) ≡ Some (record { name = n; step = w })
    go true rec q = rec q
    go false rec q = let same : s ≡ w = cc in ap (λ (x : Wide). Some (record { name = n; step = x })) same

pub alone-fits : (n : ℕ) (steps : List Wide) → first_wide steps ≡ None → first_shown (under_name n steps) ≡ None
alone-fits n steps e = ap first_shown (sym (append-nil (under_name n steps))) ∙ named-fits n steps [] e

pub alone-stops : (n : ℕ) (steps : List Wide) (w : Wide) → first_wide steps ≡ Some w → first_shown (under_name n steps) ≡ Some (record { name = n; step = w })
alone-stops n steps w e = ap first_shown (sym (append-nil (under_name n steps))) ∙ named-stops n steps [] w e
