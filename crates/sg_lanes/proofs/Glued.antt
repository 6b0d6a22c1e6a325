-- The facts of the machine's own steps joined: what is kept after each, for the machine as its callers see it.
use Rattle.std.proofs.Common.{◌≡◌, ℕ, ◌+◌, ◌-◌, true, false, List, [], ◌∷◌, ◌++◌, set, sym, ◌∙◌, ap, subst, refl, Option, Some, None}
use Rattle.std.specs.Prelude.{filter, not}
use Rattle.sg_model.specs.Sums.{nth}
use Rattle.sg_tree.specs.declared.fix.Fix.{Fix}
use Rattle.sg_tree.specs.declared.report.Cause.{Cause}
use Rattle.sg_search.specs.declared.held.Held.{Held}
use Rattle.sg_search.specs.declared.held.Stuck.{Stuck}
use Rattle.sg_search.specs.Searches.{Task, Search, same}
use Rattle.sg_search.specs.Changes.{Change, takes, ends, sticks, Goes, Holds, MayBegin, MayTake, begun, with_lane}
use Rattle.sg_lanes.specs.Machines.{Machine}
use Rattle.sg_lanes.specs.Frontiers.{Frontier, IsFrontier}
use Rattle.sg_lanes.proofs.Kept.{kept-ended, kept-stuck, kept-taken}

-- a machine seen from its parts
abbrev pub seen : Task → Search → Machine
seen p s = record { task = p; search = s }

some-same : {v w : Held} → Some v ≡ Some w → v ≡ w
some-same e = cc

pub take-kept : (p : Task) (s : Search) (f : Frontier) (m : Machine) (lane : ℕ) (node : Fix) (lanes : List (Option Held)) (parts lone : List Fix) → seen p s ≡ m → IsFrontier p s f
    → MayBegin m.task m.search lane → MayTake m.task m.search node → lanes ≡ set s.lanes (lane - 1) (begun node)
    → parts ≡ filter (λ y. not (same node y)) f.parts → lone ≡ filter (λ y. not (same node y)) f.lone
    → IsFrontier p (record s { lanes = lanes }) (record f { parts = parts; lone = lone })
take-kept p s f m lane node lanes parts lone e h begin may at_lanes at_parts at_lone =
    let k = kept-taken p s f lane node h (subst (λ (x : Machine). MayBegin x.task x.search lane) (sym e) begin) (subst (λ (x : Machine). MayTake x.task x.search node) (sym e) may) in
    subst (λ (ls : List (Option Held)). IsFrontier p (record s { lanes = ls }) (record f { parts = parts; lone = lone })) (sym at_lanes)
    (subst (λ (xs : List Fix). IsFrontier p (with_lane s lane (begun node)) (record f { parts = xs; lone = lone })) (sym at_parts)
    (subst (λ (xs : List Fix). IsFrontier p (with_lane s lane (begun node)) (record f { parts = filter (λ y. not (same node y)) f.parts; lone = xs })) (sym at_lone) k))

pub end-kept : (p : Task) (s : Search) (f : Frontier) (m : Machine) (lane : ℕ) (lanes : List (Option Held)) → seen p s ≡ m → IsFrontier p s f
    → (node : Fix) → Holds m.search lane node false
    → ((x : Fix) → nth s.lanes lane None ≡ Some (record { node = x; ended = false }) → lanes ≡ set s.lanes (lane - 1) (Some (record { node = x; ended = true })))
    → IsFrontier p (record s { lanes = lanes }) f
end-kept p s f m lane lanes e h node holds says =
    let held : Holds s lane node false = subst (λ (x : Machine). Holds x.search lane node false) (sym e) holds in
    let k = kept-ended p s f lane node h held in
    subst (λ (ls : List (Option Held)). IsFrontier p (record s { lanes = ls }) f) (sym (says node held.held)) k

pub stick-kept : (p : Task) (s : Search) (f : Frontier) (m : Machine) (lane : ℕ) (cause : Cause) (o : Option Held) (was : Held) (lanes : List (Option Held)) (stuck : List Stuck) (undone : List Fix) → seen p s ≡ m → IsFrontier p s f
    → (node : Fix) → Holds m.search lane node true → o ≡ nth s.lanes lane None → o ≡ Some was → lanes ≡ set s.lanes (lane - 1) None
    → stuck ≡ s.stuck ++ (record { node = was.node; cause = cause } ∷ []) → undone ≡ filter (λ y. not (same was.node y)) f.undone
    → IsFrontier p (record s { lanes = lanes; stuck = stuck }) (record f { undone = undone })
stick-kept p s f m lane cause o was lanes stuck undone e h node holds is some at_lanes at_stuck at_undone =
    let held : Holds s lane node true = subst (λ (x : Machine). Holds x.search lane node true) (sym e) holds in
    let w : was ≡ record { node = node; ended = true } = some-same (sym some ∙ is ∙ held.held) in
    let n : was.node ≡ node = ap (λ (v : Held). v.node) w in
    let k = kept-stuck p s f lane node cause h held in
    subst (λ (ls : List (Option Held)). IsFrontier p (record s { lanes = ls; stuck = stuck }) (record f { undone = undone })) (sym at_lanes)
    (subst (λ (ss : List Stuck). IsFrontier p (record s { lanes = set s.lanes (lane - 1) None; stuck = ss }) (record f { undone = undone })) (sym (at_stuck ∙ ap (λ (x : Fix). s.stuck ++ (record { node = x; cause = cause } ∷ [])) n))
    (subst (λ (xs : List Fix). IsFrontier p (record s { lanes = set s.lanes (lane - 1) None; stuck = s.stuck ++ (record { node = node; cause = cause } ∷ []) }) (record f { undone = xs })) (sym (at_undone ∙ ap (λ (x : Fix). filter (λ y. not (same x y)) f.undone) n)) k))
