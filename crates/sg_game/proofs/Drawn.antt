-- What fields with no fault give to a draft.
use Rattle.std.proofs.Common.{◌≡◌, ℕ, ◌≤◌, Bool, true, false, List, length, map, get_or, ℤ, pos, Option, Some, None, string_bytes, refl, ap, subst, arith}
use Rattle.std.specs.Prelude.{is_some, option_map}
use Rattle.std.specs.List.{All}
use Rattle.std.proofs.lemmas.List.{length-map}
use Rattle.std.proofs.lemmas.List.Elements.{All-map}
use Rattle.sg_model.specs.declared.kind.Kind.{Kind}
use Rattle.sg_model.specs.declared.kind.Kind.TheVariants.{Security, Matrix}
use Rattle.sg_model.specs.Games.{Game, Named}
use Rattle.sg_model.specs.Games as model
use Rattle.sg_model.specs.Limits.{AreLists, IsCount, IsPayoff}
use Rattle.sg_game.specs.declared.parts.Parts.{Parts}
use Rattle.sg_game.specs.declared.parts.ListParts.{ListParts}
use Rattle.sg_game.specs.declared.parts.TypeParts.{TypeParts}
use Rattle.sg_game.specs.Building.{HasOwnFields}
use Rattle.sg_game.specs.Converting.{FitAll}
use Rattle.sg_game.specs.Drafts.{FitsDraft, IsFewPatrols, IsCountable}
use Rattle.sg_game.specs.Faults.{goal_limit, patrol_limit, prior_limit}
use Rattle.sg_game.specs.Seen.{attacker_of, game_of, named_of}
use Rattle.sg_model.specs.Sums.{positive_part}
use Rattle.sg_game.proofs.Listed.{All-unmap}
use Rattle.sg_game.proofs.Fielded.{AreFielded, IsOptionWithin, IsTyped}
use Rattle.sg_game.proofs.Told.{count_of-within, matrix_from, prior_limit-le, security_from}
use Rattle.sg_game.proofs.Sound.{types_from}

few : (b : Bool) (o : Option ℤ) → IsOptionWithin (pos 0) (patrol_limit b) o → IsFewPatrols (option_map positive_part o)
few b None h = tt
few true (Some z) h = count_of-within z (pos 200) 200 refl h
few false (Some z) h = let le = count_of-within z (pos 32) 32 refl h in omega (arith, le)

pub fit_all : (count limit members_limit : ℕ) → count ≤ 10000 → (lists : List ListParts) → AreLists count limit members_limit (map named_of lists) → All (λ (x : ListParts). FitAll x.members.items) lists
fit_all count limit members_limit le lists h =
    let each = All-unmap (λ (x : Named). All (IsCount 1 count) x.members) named_of lists (λ i d lt. (h.members i d lt).known) in
    λ i d lt j m within. let at = (each i d lt j m within).at_most in omega (arith, at)

goal_limit-le : (k : Kind) (b : Bool) → goal_limit k b ≤ 10000
goal_limit-le Security true = omega arith
goal_limit-le Security false = omega arith
goal_limit-le Matrix b = omega arith

module _ (p : Parts) (own : HasOwnFields p) (h : AreFielded p) where
  goals_le : length p.goals.items ≤ 10000
  goals_le = let at = h.goal_count.at_most in let limit = goal_limit-le p.kind (is_some p.scale) in omega (arith, at, limit)

  pub fits_draft : FitsDraft p
  fits_draft =
      let m = length-map p.schedules.items named_of in
      record {
        patrols = few (is_some p.scale) p.patrols h.patrols;
        schedules = fit_all (length p.goals.items) 500 200 goals_le p.schedules.items h.schedules;
        resources = fit_all (length p.schedules.items) 32 500 (omega (arith, m, h.schedules.few)) p.resources.items h.resources;
      }

  -- a few actions, and payoffs in range
  record IsSmallType (x : TypeParts) : Type 0 where
    actions : length (attacker_of x).actions ≤ 64
    payoffs : All IsPayoff (attacker_of x).payoffs

  small_types : All IsSmallType p.types.items
  small_types = by_kind p.kind refl
    where
      by_kind : (k : Kind) → p.kind ≡ k → All IsSmallType p.types.items
      by_kind Security e = λ i d lt.
          let x : TypeParts = get_or p.types.items i d in
          let t = security_from (length p.goals.items) (prior_limit (is_some p.scale)) x (prior_limit-le (is_some p.scale))
          (subst (λ (k : Kind). IsTyped k (prior_limit (is_some p.scale)) (length p.goals.items) x) e (h.types i d lt)) (own.security e i d lt) in
          record { actions = omega (arith, ap length t.no_actions); payoffs = t.pays }
      by_kind Matrix e = λ i d lt.
          let x : TypeParts = get_or p.types.items i d in
          let t = matrix_from (length p.goals.items) (prior_limit (is_some p.scale)) x (prior_limit-le (is_some p.scale))
          (subst (λ (k : Kind). IsTyped k (prior_limit (is_some p.scale)) (length p.goals.items) x) e (h.types i d lt)) ((own.matrix e).payoffs i d lt) in
          record { actions = t.action_count.at_most; payoffs = rw t.no_payoffs (λ j q within. absurd (omega arith)) }

  pub small : IsCountable (game_of p)
  small =
      let n = length-map p.goals.items string_bytes in
      record {
        goals = omega (arith, n, goals_le);
        resources = h.resources.few;
        patrols = few (is_some p.scale) p.patrols h.patrols;
        types = (types_from p h).count.at_most;
        actions = All-map (λ (x : model.Attacker). length x.actions ≤ 64) attacker_of p.types.items (λ i d lt. (small_types i d lt).actions);
        payoffs = All-map (λ (x : model.Attacker). All IsPayoff x.payoffs) attacker_of p.types.items (λ i d lt. (small_types i d lt).payoffs);
      }
