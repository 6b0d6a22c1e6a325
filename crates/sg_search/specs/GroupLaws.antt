-- Which waiting parts may be taken.
use Rattle.std.specs.Prelude.{◌≡◌, ℕ, true, false, List, [], ◌∷◌, ◌++◌, All, Contains, IfSome}
use Rattle.sg_model.specs.Payoffs.{IsPeopled}
use Rattle.sg_model.specs.Commitments.{IsCommitment}
use Rattle.sg_tree.specs.declared.fix.Fix.{Fix}
use Rattle.sg_tree.specs.declared.worked.Worked.{Worked}
use Rattle.sg_bounds.specs.Accepted.{IsNotAbove}
use Rattle.sg_search.specs.Searches.{Task, Search, first_search, IsPartOf, Waits}
use Rattle.sg_search.specs.Bounding.{incumbent, inherited, is_open, is_over, value_fraction}
use Rattle.sg_search.specs.Changes.{Change, MaySplit, MayTake, Runs}
use Rattle.sg_search.specs.Events.{AreChoices, MayChoose}
use Rattle.sg_search.specs.TreeLaws.{AreFacts}

-- the first commitment and the points of the worked nodes are commitments
pub record ArePoints (p : Task) (s : Search) : Type 0 where
  pub first : IsCommitment p.game p.first
  pub points : All (λ (w : Worked). IfSome w.point (λ k. IsCommitment p.game k.tickets)) s.worked

-- the waiting parts that may be taken are parts of the last split: so they have one bound, and no other part has to be looked at
abbrev pub TakenFromLastSplit : Type 0
TakenFromLastSplit = (p : Task) → IsPeopled p.game → (cs : List Change) (t : Search) → Runs p (first_search p) cs t → AreFacts p.game t → ArePoints p t
    → (front : List (List ℕ)) (last : List ℕ) → t.splits ≡ front ++ (last ∷ [])
    → (acts : List ℕ) (node : Fix) → Contains front acts → IsPartOf p.game acts node → Waits p.game t node → is_over p t (inherited p.game t acts) ≡ false

-- the incumbent is no worse than any of them
abbrev pub IncumbentIsBest : Type 0
IncumbentIsBest = (p : Task) → IsPeopled p.game → (s : Search) → ArePoints p s
    → IsNotAbove (value_fraction p.game p.first) (value_fraction p.game (incumbent p s))
    × All (λ (w : Worked). IfSome w.point (λ k. IsNotAbove (value_fraction p.game k.tickets) (value_fraction p.game (incumbent p s)))) s.worked

-- a list of choices is the only one, so a number names one choice
abbrev pub ChoicesAreOne : Type 0
ChoicesAreOne = (p : Task) (s : Search) (a b : List Fix) → AreChoices (MayChoose p s) a → AreChoices (MayChoose p s) b → a ≡ b

-- where a waiting part is above the incumbent, and where a prefix may be split, the upper bound is above the incumbent: its test matters for cap nodes alone
abbrev pub OpenWherePrefixWaits : Type 0
OpenWherePrefixWaits = (p : Task) → IsPeopled p.game → (cs : List Change) (t : Search) → Runs p (first_search p) cs t
    → ((acts : List ℕ) (node : Fix) → IsPartOf p.game acts node → MayTake p t node → is_open p t ≡ true)
    × ((acts : List ℕ) → MaySplit p t acts → is_open p t ≡ true)
