-- What plays cover, and what covering pays.
use Rattle.std.specs.Prelude.{◌≡◌, ◌↔◌, ℕ, ◌≤◌, true, List, length, pos, ◌*ℤ◌, ◌≤ℤ◌, Contains, Some}
use Rattle.sg_model.specs.declared.kind.Kind.TheVariants.{Security}
use Rattle.sg_model.specs.declared.ticket.Ticket.{Ticket}
use Rattle.sg_model.specs.Sums.{total, numbers}
use Rattle.sg_model.specs.Games.{Game, payoff}
use Rattle.sg_model.specs.Plays.{chosen_targets, covers, pay_d, pay_a}
use Rattle.sg_model.specs.Commitments.{IsCommitment, weight_total, cover_count}

-- the schedule that some resource takes holds target t
abbrev pub IsHeld : Game → List ℕ → ℕ → Type 0
IsHeld g play t = (r : ℕ) × (1 ≤ r) × (r ≤ length play) × Contains (chosen_targets g play r) t

-- a play covers a target just where a schedule that is taken holds it
abbrev pub CoversWhereHeld : Type 0
CoversWhereHeld = (g : Game) (play : List ℕ) (t : ℕ) → (covers g play t ≡ true) ↔ IsHeld g play t

-- with patrols, a play covers a target just where one of the choices is that target
abbrev pub PatrolsCoverChoices : Type 0
PatrolsCoverChoices = (g : Game) (patrols : ℕ) → g.patrols ≡ Some patrols → (play : List ℕ) (t : ℕ) → 1 ≤ t → t ≤ length g.goals
    → (covers g play t ≡ true) ↔ Contains play t

-- a target that is held, by one schedule or by several, pays as covered, and any other as uncovered
abbrev pub HeldPaysCovered : Type 0
HeldPaysCovered = (g : Game) → g.kind ≡ Security → (l : ℕ) (play : List ℕ) (t : ℕ)
    → (IsHeld g play t → (pay_d g l play t ≡ (payoff g l t).dc) × (pay_a g l play t ≡ (payoff g l t).ac))
    × ((IsHeld g play t → ⊥) → (pay_d g l play t ≡ (payoff g l t).du) × (pay_a g l play t ≡ (payoff g l t).au))

-- two plays that both cover a target, or both don't, pay the same there
abbrev pub SameCoverPaysSame : Type 0
SameCoverPaysSame = (g : Game) → g.kind ≡ Security → (l : ℕ) (play other : List ℕ) (t : ℕ) → covers g play t ≡ covers g other t
    → (pay_d g l play t ≡ pay_d g l other t) × (pay_a g l play t ≡ pay_a g l other t)

-- over all targets, the plays of a commitment cover no more than the patrols can
abbrev pub CoversAreFew : Type 0
CoversAreFew = (g : Game) (patrols : ℕ) → g.kind ≡ Security → g.patrols ≡ Some patrols → (k : List Ticket) → IsCommitment g k
    → total (cover_count g k) (numbers (length g.goals)) ≤ℤ (pos patrols *ℤ weight_total k)
