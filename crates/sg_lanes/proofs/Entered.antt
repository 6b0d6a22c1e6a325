-- The prefixes that may be split after a prefix was worked, as they are put together.
use Rattle.std.proofs.Common.{◌≡◌, ◌≢◌, ◌⊎◌, ℕ, zero, suc, ◌+◌, ◌-◌, ◌≤◌, ◌<◌, Bool, true, false, true≢false, List, [], ◌∷◌, ◌++◌, map, length, take, drop, get_or, set, sym, ◌∙◌, ap, subst, refl, arith, Option, Some, None, inl, inr, ⊎_elim, Contains, All, ℤ, pos, ◌≤ℤ◌}
use Rattle.std.specs.Prelude.{filter, insert, not}
use Rattle.std.proofs.lemmas.Bool.{cases_Bool}
use Rattle.std.proofs.lemmas.List.Elements.{All-contains, All-cons, All-head, All-nil, All-tail}
use Rattle.std.proofs.lemmas.List.{length-map}
use Rattle.sg_model.specs.Sums.{nth, numbers_from}
use Rattle.sg_model.proofs.Numbers.{length-numbers_from}
use Rattle.sg_num.specs.Exact.{Fits}
use Rattle.sg_bounds.specs.Sizes.{bound_sums}
use Rattle.sg_bounds.proofs.Caps.{holds-rho}
use Rattle.sg_search.specs.Results.{least_caps, most_caps}
use Rattle.sg_search.proofs.Fitting.{bound-fits, caps-within}
use Rattle.sg_lanes.specs.Frontiers.{Frontier, IsFrontier}
use Rattle.sg_lanes.specs.Machines.{Machine}
use Rattle.sg_lanes.proofs.Glued.{seen}
use Rattle.sg_commit.specs.Committed.{Committed, IsCommitted}
use Rattle.sg_frac.specs.Fractions.{Fraction}
use Rattle.sg_tree.specs.declared.fact.Fact.{Fact}
use Rattle.sg_tree.specs.declared.fix.Fix.{Fix}
use Rattle.sg_tree.specs.declared.worked.Worked.{Worked}
use Rattle.sg_tree.specs.declared.report.Cap.{Cap}
use Rattle.sg_bounds.specs.Regions.{prefix}
use Rattle.sg_bounds.specs.Leaves.{fact_bound}
use Rattle.sg_search.specs.declared.held.Held.{Held}
use Rattle.sg_search.specs.Searches.{Task, Search, same}
use Rattle.sg_search.specs.Bounding.{better, cap_at, caps_of, exceeds, incumbent, is_over, lower, own_bound, value_fraction}
use Rattle.sg_search.specs.Changes.{Holds}
use Rattle.sg_search.specs.Events.{AreChoices, comes_first}
use Rattle.sg_search.specs.Results.{IsResult}
use Rattle.sg_search.proofs.Chosen.{InOrder, head-first, rest-order}
use Rattle.sg_search.proofs.Listing.{either-in, here-in, later-in, none-in}
use Rattle.sg_search.proofs.Sorted.{Order, sooner, equal, later, first-chain, order}
use Rattle.sg_lanes.specs.declared.ripe.Ripe.{Ripe}
use Rattle.sg_lanes.specs.Bounds.{Stands, StandsFor}
use Rattle.sg_lanes.specs.Choices.{ripe_nodes}
use Rattle.sg_lanes.specs.Ripenings.{IsEntry, IsPutAt, IsPutIn}

-- where the items before a place come before a node, so do the nodes there
pub put-before : (rs : List Ripe) (n : ℕ) (x : Fix) → n ≤ length rs → ((k : ℕ) (d : Ripe) → k < n → comes_first (get_or rs k d).node x ≡ true) → (y : Fix) → Contains (take n (ripe_nodes rs)) y → comes_first y x ≡ true
put-before rs zero x le before y at = absurd (none-in at)
put-before [] (suc n) x le before y at = absurd (none-in at)
put-before (r ∷ rs) (suc n) x le before y at = ⊎_elim
    (λ e. subst (λ (z : Fix). comes_first z x ≡ true) e (before 0 r (omega arith)))
    (λ rest. put-before rs n x (omega (arith, le)) (λ k d lt. before (suc k) d (omega (arith, lt))) y rest)
    (either-in r.node (take n (ripe_nodes rs)) y at)

-- and where the one at the place doesn't, the node comes before all from there on
pub put-after : (rs : List Ripe) (n : ℕ) (x : Fix) → InOrder (ripe_nodes rs) → ((y : Fix) → Contains (ripe_nodes rs) y → y ≢ x) → ((d : Ripe) → n < length rs → comes_first (get_or rs n d).node x ≡ false)
    → (y : Fix) → Contains (drop n (ripe_nodes rs)) y → comes_first x y ≡ true
put-after [] zero x in_order differ after y at = absurd (none-in at)
put-after [] (suc n) x in_order differ after y at = absurd (none-in at)
put-after (r ∷ rs) zero x in_order differ after y at =
    let first : comes_first x r.node ≡ true = by (order r.node x) in
    ⊎_elim
    (λ e. subst (λ (z : Fix). comes_first x z ≡ true) e first)
    (λ rest. first-chain x r.node y first (head-first r.node (ripe_nodes rs) in_order y rest))
    (either-in r.node (ripe_nodes rs) y at)
  where
    by : Order r.node x → comes_first x r.node ≡ true
    by (sooner e) = absurd (true≢false (sym e ∙ after r (omega arith)))
    by (equal e) = absurd (differ r.node (here-in r.node (ripe_nodes rs)) e)
    by (later e) = e
put-after (r ∷ rs) (suc n) x in_order differ after y at =
    put-after rs n x (rest-order r.node (ripe_nodes rs) in_order) (λ z k. differ z (later-in r.node (ripe_nodes rs) z k)) (λ d lt. after d (omega (arith, lt))) y at

-- ---- the entry of a prefix

module _ (p : Task) (s : Search) (f : Frontier) (h : IsFrontier p s f) where
  pub caps-long : (xs : List Cap) → xs ≡ f.caps → length xs + 1 ≡ length p.game.types
  caps-long xs e =
      let a : length xs ≡ length (caps_of p.game s) = ap (λ (cs : List Cap). length cs) (e ∙ h.caps) in
      let b = length-map (numbers_from 2 (length p.game.types - 1)) (cap_at p.game s) in
      let c = length-numbers_from 2 (length p.game.types - 1) in
      let d = h.peopled.types in
      omega (arith, a, b, c, d)

  pub entry-fits : (m : Machine) (xs : List Cap) (node : Fix) (fact : Fact) (n : ℕ) → seen p s ≡ m → xs ≡ f.caps → node.first ≡ 1 → (point : Option Committed) × IsResult m.task.game (record { fix = node; fact = fact; point = point }) → n ≡ length node.acts → n < length p.game.types
      → All Fits (bound_sums p.game xs n fact)
  entry-fits m xs node fact n e is first r long short =
      let q = subst (λ (x : Machine). (point : Option Committed) × IsResult x.task.game (record { fix = node; fact = fact; point = point })) (sym e) r in
      let narrow = q.1.narrow in
      let some = long-some node.acts q.1.node.is_fix.some in
      subst (λ (cs : List Cap). All Fits (bound_sums p.game cs n fact)) (sym (is ∙ h.caps))
      (subst (λ (k : ℕ). All Fits (bound_sums p.game (caps_of p.game s) k fact)) (sym long)
      (bound-fits p.game h.peopled (least_caps p.game) (caps_of p.game s) (most_caps p.game) (caps-within p.game h.peopled s h.results p.first h.first.commitment) (length node.acts) some (omega (arith, long, short)) fact
      (holds-rho p.game node fact q.1.fact) (narrow.least first) (narrow.most first)))
    where
      long-some : (ys : List ℕ) → ys ≢ [] → 1 ≤ length ys
      long-some [] ne = absurd (ne refl)
      long-some (y ∷ ys) ne = omega arith

  pub bound-for : (m : Machine) (xs : List Cap) (node : Fix) (fact : Fact) (n : ℕ) (o : Option Fraction) → seen p s ≡ m → xs ≡ f.caps → n ≡ length node.acts → StandsFor o (fact_bound p.game xs n fact)
      → StandsFor o (fact_bound m.task.game (caps_of m.task.game m.search) (length node.acts) fact)
  bound-for m xs node fact n o e is long stands =
      subst (λ (x : Machine). StandsFor o (fact_bound x.task.game (caps_of x.task.game x.search) (length node.acts) fact)) e
      (subst (λ (cs : List Cap). StandsFor o (fact_bound p.game cs (length node.acts) fact)) (is ∙ h.caps) (subst (λ (k : ℕ). StandsFor o (fact_bound p.game xs k fact)) long stands))
