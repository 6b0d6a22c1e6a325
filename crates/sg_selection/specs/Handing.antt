-- What a selection is handed: what each lane is told, and the ranks of the choices.
use Rattle.std.specs.Prelude.{◌≡◌, ℕ, ◌+◌, ◌<◌, ◌≤◌, List, length, slice_get, Some}
use Rattle.sg_model.specs.Payoffs.{IsPeopled}
use Rattle.sg_frac.specs.Fractions.{Fraction, IsReducedForm}
use Rattle.sg_tree.specs.declared.fix.Fix.{Fix}
use Rattle.sg_search.specs.declared.event.Ready.{Ready}
use Rattle.sg_search.specs.Searches.{Task, Search}
use Rattle.sg_search.specs.Events.{IsChoice, IsRank, Tells}
use Rattle.sg_search.specs.TreeLaws.{AreFacts}

-- the bound by which choice n is ranked, in lowest terms
pub record IsRankOf (p : Task) (s : Search) (n : ℕ) (b : Fraction) : Type 0 where
  pub node : Fix
  pub bound : Fraction
  pub choice : IsChoice p s n node
  pub rank : IsRank p s node bound
  pub equal : IsReducedForm bound.num bound.den b

-- at most 8 lanes are told what they may do; who may begin a node has a choice, and each choice may be asked for its rank
pub record IsAskable (is_choice : ℕ → Type 0) (ready : List Ready) : Type 0 where
  pub few : length ready ≤ 8
  pub some : (place count : ℕ) → slice_get ready place ≡ Some (Ready.Begin count) → 1 ≤ count
  pub ranked : (place count n : ℕ) → slice_get ready place ≡ Some (Ready.Begin count) → n < count → is_choice n

-- a state of a search: each lane is told what may happen in it, lane 1 first, and the ranks are those of the choices
pub record IsHanded (is_rank : ℕ → Fraction → Type 0) (ready : List Ready) (p : Task) (s : Search) : Type 0 where
  pub peopled : IsPeopled p.game
  pub facts : AreFacts p.game s
  pub lanes : length ready ≡ length s.lanes
  pub told : (place : ℕ) (r : Ready) → slice_get ready place ≡ Some r → Tells p s (place + 1) r
  pub ranks : (n : ℕ) (b : Fraction) → is_rank n b → IsRankOf p s n b
