-- Which fields of a game are empty, by its form.
use Rattle.std.proofs.Common.{◌≡◌, ◌≢◌, ℕ, [], length, pos, Option, Some, None, sym, ◌∙◌, ap, refl, inl, inr}
use Rattle.std.specs.List.{All}
use Rattle.std.proofs.lemmas.Bool.{true≢false}
use Rattle.std.proofs.lemmas.List.Elements.{All-weaker}
use Rattle.sg_model.specs.declared.kind.Kind.TheVariants.{Security, Matrix}
use Rattle.sg_model.specs.Games.{Attacker, Game, is_kind_matrix}
use Rattle.sg_model.specs.Limits.{IsDefended, IsGame, IsMatrixGame, IsMatrixType, IsSecurityGame, IsSecurityType}
use Rattle.sg_model.proofs.Promises.{game_cases}

pub security_form : (g : Game) → IsGame g → g.kind ≡ Security → IsSecurityGame g
security_form g h e = elim (game_cases g h) [
  | inl s ↦ s.game
  | inr m ↦ absurd (true≢false (ap is_kind_matrix (sym m.kind ∙ e)))
]

pub matrix_form : (g : Game) → IsGame g → g.kind ≡ Matrix → IsMatrixGame g
matrix_form g h e = elim (game_cases g h) [
  | inl s ↦ absurd (true≢false (ap is_kind_matrix (sym e ∙ s.kind)))
  | inr m ↦ m.game
]

-- a type with none of the fields of the matrix form
pub record HasNoTables (x : Attacker) : Type 0 where
  pub actions : x.actions ≡ []
  pub leader : x.leader ≡ []
  pub follower : x.follower ≡ []

pub no_tables : (g : Game) → IsGame g → g.kind ≡ Security → All HasNoTables g.types
no_tables g h e =
    All-weaker (IsSecurityType (length g.goals)) HasNoTables (λ x is. record { actions = is.no_actions; leader = is.no_leader; follower = is.no_follower }) g.types (security_form g h e).each_type

-- a game with none of the fields of the security form
pub record HasNoTargets (g : Game) : Type 0 where
  pub scale : g.scale ≡ pos 0
  pub patrols : g.patrols ≡ None
  pub schedules : g.schedules ≡ []
  pub resources : g.resources ≡ []
  pub payoffs : All (λ (x : Attacker). x.payoffs ≡ []) g.types

pub no_targets : (g : Game) → IsGame g → g.kind ≡ Matrix → HasNoTargets g
no_targets g h e =
    let is = matrix_form g h e in
    record {
      scale = is.no_scale;
      patrols = is.no_patrols;
      schedules = is.no_schedules;
      resources = is.no_resources;
      payoffs = All-weaker (IsMatrixType (length g.goals)) (λ (x : Attacker). x.payoffs ≡ []) (λ x has. has.no_payoffs) g.types is.each_type;
    }

-- a game with no schedules and resources
pub record HasNoLists (g : Game) : Type 0 where
  pub schedules : g.schedules ≡ []
  pub resources : g.resources ≡ []

defended-no_lists : (g : Game) (patrols : Option ℕ) → IsDefended g patrols → patrols ≢ None → HasNoLists g
defended-no_lists g (Some n) h some = record { schedules = h.no_schedules; resources = h.no_resources }
defended-no_lists g None h some = absurd (some refl)

-- nothing is listed beside patrols
pub no_lists : (g : Game) → IsGame g → g.patrols ≢ None → HasNoLists g
no_lists g h some = elim (game_cases g h) [
  | inl s ↦ defended-no_lists g g.patrols s.game.defended some
  | inr m ↦ record { schedules = m.game.no_schedules; resources = m.game.no_resources }
]
