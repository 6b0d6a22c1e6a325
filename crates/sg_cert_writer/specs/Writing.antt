-- What a text adds to a sink, when it is formed in a block that is put when it is full.
use Rattle.std.specs.Prelude.{◌≡◌, ℕ, ◌-◌, ◌^◌, ◌≤◌, List, ◌++◌, take, Result, Ok, Err}
use Rattle.sg_shelf.specs.declared.sink.SinkError.{SinkError}
use Rattle.sg_shelf.specs.Faults.{HasRisen}
use Rattle.sg_shelf.specs.States.{SinkState}
use Rattle.sg_shelf.specs.Taken.{Takes}

-- The text went in behind what was pending: some of it all was put, and the rest is pending.
pub record Adds (before : SinkState) (pending : List ℕ) (after : SinkState) (left : List ℕ) (text : List ℕ) : Type 0 where
  pub put : List ℕ
  pub taken : Takes before.bytes after.bytes put
  pub all : put ++ left ≡ pending ++ text
  pub count : before.faults ≤ after.faults

-- The sink failed: a front of it all was put.
pub record StopsInside (before : SinkState) (pending : List ℕ) (after : SinkState) (text : List ℕ) : Type 0 where
  pub size : ℕ
  pub taken : Takes before.bytes after.bytes (take size (pending ++ text))
  pub count : before.faults ≤ after.faults
  pub last_count : after.faults ≤ 2 ^ 64 - 1
  pub risen : HasRisen before.faults after.faults

-- one of the two, by the answer
abbrev pub Writes : Result (Unit {0}) SinkError → SinkState → List ℕ → SinkState → List ℕ → List ℕ → Type 0
Writes (Ok u) before pending after left text = Adds before pending after left text
Writes (Err e) before pending after left text = StopsInside before pending after text
