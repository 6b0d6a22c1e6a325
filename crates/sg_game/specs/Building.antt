-- Which parts may be given, what a maker of games answers, and what no fault means.
use Rattle.std.specs.Prelude.{◌≡◌, ◌≢◌, ◌↔◌, [], length, ℤ, pos, ◌≤ℤ◌, All, Option, Some, None, Result, Ok, Err, Vec}
use Rattle.std.specs.declared.alloc.Global.{Global}
use Rattle.sg_model.specs.declared.kind.Kind.TheVariants.{Security, Matrix}
use Rattle.sg_model.specs.declared.fault.GameFault.{GameFault}
use Rattle.sg_model.specs.Limits.{IsGame}
use Rattle.sg_game.specs.declared.parts.Parts.{Parts}
use Rattle.sg_game.specs.declared.parts.TypeParts.{TypeParts}
use Rattle.sg_game.specs.declared.fault.BuildFault.{BuildFault}
use Rattle.sg_game.specs.declared.fault.BuildFault.TheVariants.{Refused, Memory}
use Rattle.sg_game.specs.Seen.{game_of}
use Rattle.sg_game.specs.Faults.{fault_of}

-- a type with no fields of the matrix form
pub record IsSecurityParts (x : TypeParts) : Type 0 where
  pub actions : x.actions.items ≡ []
  pub leader : x.leader.items ≡ []
  pub follower : x.follower.items ≡ []

-- parts with no fields of the security form
pub record AreMatrixParts (p : Parts) : Type 0 where
  pub scale : p.scale ≡ None
  pub patrols : p.patrols ≡ None
  pub schedules : p.schedules.items ≡ []
  pub resources : p.resources.items ≡ []
  pub payoffs : All (λ (x : TypeParts). x.payoffs.items ≡ []) p.types.items

-- only fields for which a game file of this form has keys
pub record HasOwnFields (p : Parts) : Type 0 where
  pub security : p.kind ≡ Security → All IsSecurityParts p.types.items
  pub matrix : p.kind ≡ Matrix → AreMatrixParts p
  pub schedules : p.patrols ≢ None → p.schedules.items ≡ []
  pub resources : p.patrols ≢ None → p.resources.items ≡ []

-- what a test answers, where this is the first fault: all is well where there is none, that fault, or want of memory
abbrev pub Finds : {X : Type 0} → Result X BuildFault → Option GameFault → Type 0
Finds (Ok x) fault = fault ≡ None
Finds (Err (Refused f)) fault = fault ≡ Some f
Finds (Err Memory) fault = Unit {0}

-- the same for a test that needs no memory
abbrev pub FindsAlways : {X : Type 0} → Result X GameFault → Option GameFault → Type 0
FindsAlways (Ok x) fault = fault ≡ None
FindsAlways (Err f) fault = fault ≡ Some f

-- there is no number, or it is at least low
abbrev pub IsAtLeast : ℤ → Option ℤ → Type 0
IsAtLeast low None = Unit {0}
IsAtLeast low (Some z) = low ≤ℤ z

-- the game of the parts says all that they say: a scale of at least 1, no negative patrols, and payoffs of four numbers
pub record IsTold (p : Parts) : Type 0 where
  pub scale : IsAtLeast (pos 1) p.scale
  pub patrols : IsAtLeast (pos 0) p.patrols
  pub payoffs : All (λ (x : TypeParts). All (λ (row : Vec ℤ Global). length row.items ≡ 4) x.payoffs.items) p.types.items

-- parts have no fault exactly where their game says all that they say, and keeps every promise of a game file
abbrev pub NoFaultIsAGame : Type 0
NoFaultIsAGame = (p : Parts) → HasOwnFields p → (fault_of p ≡ None) ↔ (IsTold p × IsGame (game_of p))
