-- A cap node was worked: all that the machine keeps, joined.
use Rattle.std.proofs.Common.{◌≡◌, ◌≢◌, ◌⊎◌, ℕ, zero, suc, ◌+◌, ◌-◌, ◌≤◌, ◌<◌, Bool, true, false, true≢false, List, [], ◌∷◌, ◌++◌, map, length, set, sym, ◌∙◌, ap, subst, refl, arith, Option, Some, None, inl, inr, ⊎_elim, Contains, All, ℤ, pos, ◌≤ℤ◌}
use Rattle.std.specs.Prelude.{filter, not, IsSome}
use Rattle.std.specs.Option.{option_to_list}
use Rattle.std.proofs.lemmas.List.{same_from_push}
use Rattle.sg_model.specs.Games.{Game, action_count}
use Rattle.sg_commit.specs.Committed.{Committed, IsCommitted}
use Rattle.sg_frac.specs.Fractions.{Fraction}
use Rattle.sg_tree.specs.declared.fact.Fact.{Fact}
use Rattle.sg_tree.specs.declared.fix.Fix.{Fix}
use Rattle.sg_tree.specs.declared.worked.Worked.{Worked}
use Rattle.sg_tree.specs.declared.report.Cap.{Cap}
use Rattle.sg_bounds.specs.Regions.{prefix}
use Rattle.sg_search.specs.declared.held.Held.{Held}
use Rattle.sg_search.specs.Searches.{Task, Search, same}
use Rattle.sg_search.specs.Bounding.{cap_at, cap_facts, caps_of, exceeds, lower, own_bound}
use Rattle.sg_search.specs.Changes.{Holds, works}
use Rattle.sg_search.specs.Events.{AreChoices}
use Rattle.sg_search.specs.Results.{IsResult}
use Rattle.sg_search.proofs.Placed.{known_in_one_place}
use Rattle.sg_lanes.specs.declared.best.Best.{Best}
use Rattle.sg_lanes.specs.declared.ripe.Ripe.{Ripe}
use Rattle.sg_lanes.specs.Bounds.{Stands}
use Rattle.sg_lanes.specs.Rises.{IsRise, best_after, value_after}
use Rattle.sg_lanes.specs.ProvedCaps.{only_worked}
use Rattle.sg_lanes.specs.Ripenings.{AreTopEntries}
use Rattle.sg_lanes.specs.Frontiers.{Frontier, IsFrontier, IsRipe}
use Rattle.sg_lanes.specs.Machines.{Machine}
use Rattle.sg_lanes.proofs.Glued.{seen}
use Rattle.sg_lanes.proofs.Entered.{caps-long}
use Rattle.sg_lanes.proofs.Raising.{Raised, lower-positive, raised, stands-after}
use Rattle.sg_lanes.proofs.Recorded.{results-after, runs-after, worked_search}
use Rattle.sg_lanes.proofs.Renewed.{kept-cap, other-missing, plain-caps, proved-caps, root-only, type-within}
use Rattle.sg_lanes.proofs.Ripened.{none-ripe, sifted-bounds}
use Rattle.sg_lanes.proofs.TopsRipe.{tops-are, tops-bounds}

-- the caps stay and the prefixes that may be split are sifted, or these are the prefixes of one action
abbrev pub IsRenewed : Game → List Worked → Fraction → List Cap → List Ripe → List Cap → List Ripe → Type 0
IsRenewed g ws value caps ripe new_caps new_ripe = ((new_caps ≡ caps) × (new_ripe ≡ filter (λ (r : Ripe). exceeds r.bound value) ripe)) ⊎ AreTopEntries g (only_worked ws) value (action_count g 1) new_ripe

module _ (p : Task) (s : Search) (f : Frontier) (h : IsFrontier p s f) (lane : ℕ) (node : Fix) (fact : Fact) (point : Option Committed) (holds : Holds s lane node true)
    (result : IsResult p.game (record { fix = node; fact = fact; point = point })) (two : 2 ≤ node.first) where
  abbrev t : Search
  t = worked_search s lane node fact point

  kept-renewed : (best : Committed) (value : Fraction) (caps : List Cap) (ripe : List Ripe) → Raised p s f h lane node fact point holds result best value → caps ≡ caps_of p.game t → IsRenewed p.game t.worked value f.caps f.ripe caps ripe
      → IsFrontier p t (record f { best = best; value = value; caps = caps; undone = filter (λ y. not (same node y)) f.undone; ripe = ripe })
  kept-renewed best value caps ripe up is_caps (inl (same_caps, sifted)) =
      let stays : caps_of p.game t ≡ caps_of p.game s = sym is_caps ∙ same_caps ∙ h.caps in
      let stands = stands-after p s f h lane node fact point holds result best value up in
      let positive = lower-positive p s f h lane node fact point holds result in
      kept-cap p s f h lane node fact point holds result two best value caps ripe up.committed up.tickets up.stands is_caps
      (subst (λ (rs : List Ripe). AreChoices (IsRipe p t) (map (λ (r : Ripe). r.node) rs)) (sym sifted)
      (none-ripe p s f h lane node fact point holds result stays value stands positive (λ r. let e : node.first ≡ 1 = ap (λ (x : Fix). x.first) r.1 in omega (arith, e, two))))
      (subst (λ (rs : List Ripe). All (λ (r : Ripe). Rattle.sg_lanes.specs.Bounds.StandsFor (Some r.bound) (own_bound p.game t r.node.acts)) rs) (sym sifted)
      (sifted-bounds p s f h lane node fact point holds result stays value stands positive))
  kept-renewed best value caps ripe up is_caps (inr tops) =
      let stands = stands-after p s f h lane node fact point holds result best value up in
      let positive = lower-positive p s f h lane node fact point holds result in
      let results = results-after p s f h lane node fact point holds result in
      let placed = known_in_one_place p h.peopled (h.changes ++ (works lane fact point ∷ [])) t (runs-after p s f h lane node fact point holds result) in
      let root = root-only p s f h lane node fact point holds result two in
      let high = type-within p s f h lane node fact point holds result two in
      let more : 1 < length p.game.types = omega (arith, high, two) in
      kept-cap p s f h lane node fact point holds result two best value caps ripe up.committed up.tickets up.stands is_caps
      (tops-are p t h.peopled results placed root more value stands positive ripe tops)
      (tops-bounds p t h.peopled results placed root more value stands positive ripe tops)

-- ---- what the caps are formed by

pub record Asked (g : Game) (caps : List Cap) (ws : List Worked) (l : ℕ) (more : Bool) : Type 0 where
  pub within : l ≤ length caps + 1
  pub results : All (IsResult g) ws
  pub missing : more ≡ true → length (cap_facts g (only_worked ws) l) ≢ action_count g l
  pub plain : length (cap_facts g (only_worked ws) l) ≢ action_count g l → caps ≡ caps_of g (only_worked ws)
  pub proved : set caps (l - 2) (cap_at g (only_worked ws) l) ≡ caps_of g (only_worked ws)

pub asked : (p : Task) (s : Search) (f : Frontier) (m : Machine) (lane : ℕ) (node : Fix) (fact : Fact) (point : Option Committed) (undone : List Fix) (worked : List Worked) (more : Bool)
    → seen p s ≡ m → IsFrontier p s f → Holds m.search lane node true → 2 ≤ node.first → IsResult m.task.game (record { fix = node; fact = fact; point = point })
    → undone ≡ f.undone → (more ≡ true → (other : Fix) × Contains undone other × (other.first ≡ node.first) × (other ≢ node))
    → worked ≡ s.worked ++ (record { fix = node; fact = fact; point = point } ∷ []) → Asked p.game f.caps worked node.first more
asked p s f m lane node fact point undone worked more e h held two result is_undone others is_worked =
    let held2 = subst (λ (x : Machine). Holds x.search lane node true) (sym e) held in
    let result2 = subst (λ (x : Machine). IsResult x.task.game (record { fix = node; fact = fact; point = point })) (sym e) result in
    let t : Search = worked_search s lane node fact point in
    let high = type-within p s f h lane node fact point held2 result2 two in
    let long = caps-long p s f h f.caps refl in
    let k : Asked p.game f.caps t.worked node.first more = record {
      within = omega (arith, high, long);
      results = results-after p s f h lane node fact point held2 result2;
      missing = λ yes. let o = others yes in other-missing p s f h lane node fact point held2 result2 two o.0 (subst (λ (xs : List Fix). Contains xs o.0) is_undone o.1) o.2 o.3;
      plain = λ out. h.caps ∙ sym (plain-caps p s f h lane node fact point held2 result2 two out);
      proved = ap (λ (cs : List Cap). set cs (node.first - 2) (cap_at p.game t node.first)) h.caps ∙ proved-caps p s f h lane node fact point held2 result2 two;
    } in
    subst (λ (ws : List Worked). Asked p.game f.caps ws node.first more) (sym is_worked) k

-- ---- after want of memory

-- what was put last is taken again
taken-back : (old xs ys : List Worked) (w : Worked) (o : Option Worked) → IsSome o → old ≡ ys ++ option_to_list o → old ≡ xs ++ (w ∷ []) → ys ≡ xs
taken-back old xs ys w None some e f = absurd (true≢false (sym some))
taken-back old xs ys w (Some v) some e f = (same_from_push ys xs v w (sym e ∙ f)).0

pub kept-back : (p : Task) (s : Search) (f : Frontier) (w : Worked) (old worked : List Worked) (o : Option Worked) (caps : List Cap) (ripe : List Ripe) → IsFrontier p s f
    → IsSome o → old ≡ worked ++ option_to_list o → old ≡ s.worked ++ (w ∷ []) → caps ≡ f.caps → ripe ≡ f.ripe → IsFrontier p (record s { worked = worked }) (record f { caps = caps; ripe = ripe })
kept-back p s f w old worked o caps ripe h some e was is_caps is_ripe =
    subst (λ (ws : List Worked). IsFrontier p (record s { worked = ws }) (record f { caps = caps; ripe = ripe })) (sym (taken-back old s.worked worked w o some e was))
    (subst (λ (cs : List Cap). IsFrontier p s (record f { caps = cs; ripe = ripe })) (sym is_caps) (subst (λ (rs : List Ripe). IsFrontier p s (record f { ripe = rs })) (sym is_ripe) h))

-- ---- for the machine as its callers see it

pub cap-kept : (p : Task) (s : Search) (f : Frontier) (m : Machine) (lane : ℕ) (node out : Fix) (fact : Fact) (point : Option Committed) (best : Option Best) (v : Fraction)
    (lanes : List (Option Held)) (worked ws : List Worked) (undone : List Fix) (caps : List Cap) (ripe : List Ripe) (best2 : Committed) (value2 : Fraction)
    → seen p s ≡ m → IsFrontier p s f → Holds m.search lane node true → 2 ≤ node.first → IsResult m.task.game (record { fix = node; fact = fact; point = point }) → IsRise m.task m.search point best
    → out ≡ node → v ≡ value_after best f.value → ws ≡ worked → caps ≡ caps_of p.game (only_worked ws) → IsRenewed p.game ws v f.caps f.ripe caps ripe → undone ≡ filter (λ y. not (same out y)) f.undone
    → lanes ≡ set s.lanes (lane - 1) None → worked ≡ s.worked ++ (record { fix = node; fact = fact; point = point } ∷ []) → best2 ≡ best_after best f.best → value2 ≡ value_after best f.value
    → IsFrontier p (record s { lanes = lanes; worked = worked }) (record f { best = best2; value = value2; caps = caps; undone = undone; ripe = ripe })
cap-kept p s f m lane node out fact point best v lanes worked ws undone caps ripe best2 value2 e h held two result rise is_out is_v is_ws is_caps renewed is_undone is_lanes is_worked is_best is_value =
    let back : m ≡ seen p s = sym e in
    let held2 = subst (λ (x : Machine). Holds x.search lane node true) back held in
    let result2 = subst (λ (x : Machine). IsResult x.task.game (record { fix = node; fact = fact; point = point })) back result in
    let rise2 = subst (λ (x : Machine). IsRise x.task x.search point best) back rise in
    let t : Search = worked_search s lane node fact point in
    let va : Fraction = value_after best f.value in
    let renewed2 : IsRenewed p.game t.worked va f.caps f.ripe caps ripe =
    subst (λ (x : Fraction). IsRenewed p.game t.worked x f.caps f.ripe caps ripe) is_v (subst (λ (xs : List Worked). IsRenewed p.game xs v f.caps f.ripe caps ripe) (is_ws ∙ is_worked) renewed) in
    let caps2 : caps ≡ caps_of p.game t = is_caps ∙ ap (λ (xs : List Worked). caps_of p.game (only_worked xs)) (is_ws ∙ is_worked) in
    let k = kept-renewed p s f h lane node fact point held2 result2 two (best_after best f.best) va caps ripe (raised p s f h lane node fact point held2 result2 best rise2) caps2 renewed2 in
    subst (λ (ls : List (Option Held)). IsFrontier p (record s { lanes = ls; worked = worked }) (record f { best = best2; value = value2; caps = caps; undone = undone; ripe = ripe })) (sym is_lanes)
    (subst (λ (xs : List Worked). IsFrontier p (record s { lanes = set s.lanes (lane - 1) None; worked = xs }) (record f { best = best2; value = value2; caps = caps; undone = undone; ripe = ripe })) (sym is_worked)
    (subst (λ (b : Committed). IsFrontier p t (record f { best = b; value = value2; caps = caps; undone = undone; ripe = ripe })) (sym is_best)
    (subst (λ (y : Fraction). IsFrontier p t (record f { best = best_after best f.best; value = y; caps = caps; undone = undone; ripe = ripe })) (sym is_value)
    (subst (λ (zs : List Fix). IsFrontier p t (record f { best = best_after best f.best; value = va; caps = caps; undone = zs; ripe = ripe })) (sym (is_undone ∙ ap (λ (x : Fix). filter (λ y. not (same x y)) f.undone) is_out)) k))))
