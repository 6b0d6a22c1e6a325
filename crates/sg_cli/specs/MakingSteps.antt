-- What `make` answers: what it wrote, or why not.
use Rattle.std.specs.Prelude.{◌≡◌, ℕ, List}
use Rattle.sg_shelf.specs.Faults.{HasRisen}
use Rattle.sg_shelf.specs.States.{SinkState}
use Rattle.sg_shelf.specs.Taken.{Takes, TakesFront}
use Rattle.sg_cli.specs.Making.{IsMadeText, SpellsShape}
use Rattle.sg_cli.specs.declared.refusal.CommandRefusal.TheVariants.{NoShape}
use Rattle.sg_cli.specs.declared.refusal.Refusal.{Refusal}
use Rattle.sg_cli.specs.declared.refusal.Refusal.TheVariants.{Own, NotWritten, Memory}

-- the output took the text of the game, with success
pub record WritesMade (text : List ℕ) (seed : ℕ) (before after : SinkState) (status : ℕ) : Type 0 where
  pub success : status ≡ 0
  pub written : List ℕ
  pub made : IsMadeText text seed written
  pub taken : Takes before.bytes after.bytes written

-- its count of faults rose, and it took a front of the text
pub record CutsMade (text : List ℕ) (seed : ℕ) (before after : SinkState) : Type 0 where
  pub risen : HasRisen before.faults after.faults
  pub written : List ℕ
  pub made : IsMadeText text seed written
  pub taken : TakesFront before.bytes after.bytes written

-- no shape has the text; the output failed; or memory is wanted before anything is written
abbrev pub MakingFails : List ℕ → ℕ → SinkState → SinkState → Refusal → Type 0
MakingFails text seed before after (Own NoShape) = (¬ (SpellsShape text)) × (after ≡ before)
MakingFails text seed before after NotWritten = CutsMade text seed before after
MakingFails text seed before after Memory = after ≡ before
MakingFails text seed before after _ = ⊥
