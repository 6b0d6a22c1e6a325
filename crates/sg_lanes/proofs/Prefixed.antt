-- A prefix was worked: all that the machine keeps, joined.
use Rattle.std.proofs.Common.{◌≡◌, ◌≢◌, ◌⊎◌, ℕ, zero, suc, ◌+◌, ◌-◌, ◌≤◌, ◌<◌, Bool, true, false, true≢false, cond, List, [], ◌∷◌, ◌++◌, map, length, get_or, set, sym, ◌∙◌, ap, subst, refl, arith, Option, Some, None, inl, inr, ⊎_elim, Contains, All, ℤ, pos, ◌≤ℤ◌}
use Rattle.std.specs.Prelude.{filter, insert, not}
use Rattle.std.proofs.lemmas.Bool.{cases_Bool}
use Rattle.std.proofs.lemmas.List.Elements.{All-append, All-contains, All-cons, All-head, All-nil, All-tail}
use Rattle.sg_commit.specs.Committed.{Committed, IsCommitted}
use Rattle.sg_frac.specs.Fractions.{Fraction}
use Rattle.sg_tree.specs.declared.fact.Fact.{Fact}
use Rattle.sg_tree.specs.declared.fix.Fix.{Fix}
use Rattle.sg_tree.specs.declared.worked.Worked.{Worked}
use Rattle.sg_tree.specs.declared.report.Cap.{Cap}
use Rattle.sg_model.specs.declared.ticket.Ticket.{Ticket}
use Rattle.sg_bounds.specs.Regions.{prefix}
use Rattle.sg_bounds.specs.Leaves.{fact_bound}
use Rattle.sg_bounds.proofs.Caps.{holds-rho}
use Rattle.sg_search.specs.Searches.{Task, Search, same, worked_count}
use Rattle.sg_search.specs.Bounding.{better, caps_of, exceeds, incumbent, is_over, is_split, lower, own_bound, value_fraction}
use Rattle.sg_search.specs.Changes.{Holds, MaySplit}
use Rattle.sg_search.specs.Events.{AreChoices}
use Rattle.sg_search.specs.Results.{IsResult}
use Rattle.sg_search.proofs.Placed.{one_if, same-self, worked-more}
use Rattle.sg_search.proofs.Grown.{are_splits}
use Rattle.sg_search.proofs.Opened.{split-out}
use Rattle.sg_search.proofs.Poorer.{bound-positive, positive-value}
use Rattle.sg_search.proofs.Reported.{incumbent-first}
use Rattle.sg_search.proofs.Listing.{here-in, in-keyed, later-in}
use Rattle.sg_lanes.specs.declared.best.Best.{Best}
use Rattle.sg_lanes.specs.declared.ripe.Ripe.{Ripe}
use Rattle.sg_lanes.specs.Bounds.{Stands, StandsFor}
use Rattle.sg_lanes.specs.Choices.{is_over_by, ripe_nodes}
use Rattle.sg_lanes.specs.Rises.{IsRise, best_after, value_after}
use Rattle.sg_lanes.specs.Ripenings.{IsEntry, IsPutAt, IsPutIn}
use Rattle.sg_lanes.specs.Frontiers.{Frontier, IsFrontier, IsRipe}
use Rattle.sg_search.specs.declared.held.Held.{Held}
use Rattle.sg_lanes.specs.Machines.{Machine}
use Rattle.sg_lanes.proofs.Glued.{seen}
use Rattle.sg_lanes.proofs.Fractions.{over-alike}
use Rattle.sg_lanes.proofs.Sifted.{all-kept}
use Rattle.sg_lanes.proofs.Recorded.{kept-prefix, same-caps, unworked, worked_search}
use Rattle.sg_lanes.proofs.Raising.{Raised, lower-positive, raised, stands-after}
use Rattle.sg_lanes.proofs.Ripened.{none-ripe, one-ripe, own-is, sift-are, sifted-bounds}
use Rattle.sg_lanes.proofs.Entered.{put-after, put-before}

all-insert : (P : Ripe → Type 0) (rs : List Ripe) (n : ℕ) (e : Ripe) → All P rs → P e → All P (insert rs n e)
all-insert P rs zero e h k = All-cons P e rs k h
all-insert P [] (suc n) e h k = All-cons P e [] k (All-nil P)
all-insert P (r ∷ rs) (suc n) e h k = All-cons P r (insert rs n e) (All-head P r rs h) (all-insert P rs n e (All-tail P r rs h) k)

module _ (p : Task) (s : Search) (f : Frontier) (h : IsFrontier p s f) (lane : ℕ) (node : Fix) (fact : Fact) (point : Option Committed) (holds : Holds s lane node true)
    (result : IsResult p.game (record { fix = node; fact = fact; point = point })) (first : node.first ≡ 1) where
  abbrev t : Search
  t = worked_search s lane node fact point

  abbrev w : Worked
  w = record { fix = node; fact = fact; point = point }

  node-is : node ≡ prefix node.acts
  node-is = ap (λ (n : ℕ). record { first = n; acts = node.acts }) first

  unchanged : caps_of p.game t ≡ caps_of p.game s
  unchanged = same-caps p s f h lane node fact point holds result first

  positive : pos 1 ≤ℤ (lower p t).den
  positive = lower-positive p s f h lane node fact point holds result

  module _ (best : Committed) (value : Fraction) (up : Raised p s f h lane node fact point holds result best value) where
    stands : Stands value (lower p t)
    stands = stands-after p s f h lane node fact point holds result best value up

    own : own_bound p.game t node.acts ≡ fact_bound p.game (caps_of p.game s) (length node.acts) fact
    own = own-is p s f h lane node fact point holds result unchanged value stands positive first
        ∙ ap (λ (cs : List Cap). fact_bound p.game cs (length node.acts) fact) unchanged

    test-is : (o : Option Fraction) → StandsFor o (fact_bound p.game (caps_of p.game s) (length node.acts) fact) → is_over_by o value ≡ is_over p t (own_bound p.game t node.acts)
    test-is o k = over-alike p t o (fact_bound p.game (caps_of p.game s) (length node.acts) fact) value k stands
        (λ x e. bound-positive p.game h.peopled (caps_of p.game s) (length node.acts) fact (holds-rho p.game node fact result.fact) x e) positive
        ∙ ap (is_over p t) (sym own)

    fresh : worked_count s node ≡ 0
    fresh = unworked p s f h lane node fact point holds result

    abbrev sifted : List Ripe
    sifted = filter (λ (r : Ripe). exceeds r.bound value) f.ripe

    bounds : All (λ (r : Ripe). StandsFor (Some r.bound) (own_bound p.game t r.node.acts)) sifted
    bounds = sifted-bounds p s f h lane node fact point holds result unchanged value stands positive

    none-entry : IsEntry p s node fact value None → IsRipe p t node → ⊥
    none-entry e (acts, is, may) =
        let same_acts : node.acts ≡ acts = ap (λ (x : Fix). x.acts) is in
        let b = e (subst (λ (xs : List ℕ). length xs < length p.game.types) (sym same_acts) may.short) in
        true≢false (sym (subst (λ (xs : List ℕ). is_over p t (own_bound p.game t xs) ≡ true) (sym same_acts) may.over) ∙ sym (test-is b.0 b.1) ∙ b.2)

    some-entry : (e : Ripe) → IsEntry p s node fact value (Some e) → IsRipe p t node
    some-entry e k =
        let m = worked-more s w node in
        let y : one_if (same node node) ≡ 1 = ap one_if (same-self node) in (
          node.acts,
          node-is,
          record {
            some = result.node.is_fix.some;
            worked = subst (λ (x : Fix). 1 ≤ worked_count t x) node-is (omega (arith, m, y));
            unsplit = ⊎_elim (λ yes. absurd (split-no yes)) (λ n. n) (cases_Bool (is_split s.splits node.acts));
            short = k.0;
            over = sym (test-is (Some e.bound) k.2) ∙ k.3;
          },
        )
      where
        split-no : is_split s.splits node.acts ≡ true → ⊥
        split-no shown = ⊎_elim
            (λ empty. result.node.is_fix.some empty)
            (λ more. let u = fresh in let c : worked_count s (prefix node.acts) ≡ worked_count s node = ap (worked_count s) (sym node-is) in omega (arith, u, c, more))
            ((are_splits p h.peopled h.changes s h.runs).worked node.acts (split-out s.splits node.acts shown))

    pub kept-put : (o : Option Ripe) (ys : List Ripe) → IsEntry p s node fact value o → IsPutIn sifted o ys
        → IsFrontier p t (record f { best = best; value = value; tops = filter (λ y. not (same node y)) f.tops; ripe = ys })
    kept-put None ys e put =
        kept-prefix p s f h lane node fact point holds result first best value ys up.committed up.tickets up.stands
        (subst (λ (rs : List Ripe). AreChoices (IsRipe p t) (ripe_nodes rs)) (sym put) (none-ripe p s f h lane node fact point holds result unchanged value stands positive (none-entry e)))
        (subst (λ (rs : List Ripe). All (λ (r : Ripe). StandsFor (Some r.bound) (own_bound p.game t r.node.acts)) rs) (sym put) bounds)
    kept-put (Some e) ys k put =
        let all = sift-are p s f h lane node fact point holds result unchanged value stands positive in
        let before = put-before sifted put.place node put.within (λ i d lt. subst (λ (x : Fix). Rattle.sg_search.specs.Events.comes_first (get_or sifted i d).node x ≡ true) k.1 (put.before i d lt)) in
        let after = put-after sifted put.place node all.in_order (λ y at. ((all.each y).0 at).1) (λ d lt. subst (λ (x : Fix). Rattle.sg_search.specs.Events.comes_first (get_or sifted put.place d).node x ≡ false) k.1 (put.after d lt)) in
        kept-prefix p s f h lane node fact point holds result first best value ys up.committed up.tickets up.stands
        (subst (λ (rs : List Ripe). AreChoices (IsRipe p t) (ripe_nodes rs)) (sym put.put)
        (one-ripe p s f h lane node fact point holds result unchanged value stands positive e put.place k.1 (some-entry e k) put.within before after))
        (subst (λ (rs : List Ripe). All (λ (r : Ripe). StandsFor (Some r.bound) (own_bound p.game t r.node.acts)) rs) (sym put.put)
        (all-insert (λ (r : Ripe). StandsFor (Some r.bound) (own_bound p.game t r.node.acts)) sifted put.place e bounds
        (subst (λ (xs : List ℕ). StandsFor (Some e.bound) (own_bound p.game t xs)) (sym (ap (λ (x : Fix). x.acts) k.1)) (subst (StandsFor (Some e.bound)) (sym own) k.2))))

pub prefix-kept : (p : Task) (s : Search) (f : Frontier) (m : Machine) (lane : ℕ) (node : Fix) (fact : Fact) (point : Option Committed) (best : Option Best) (o : Option Ripe) (v : Fraction)
    (lanes : List (Option Held)) (worked : List Worked) (tops : List Fix) (xs ys : List Ripe) (best2 : Committed) (value2 : Fraction)
    → seen p s ≡ m → IsFrontier p s f → Holds m.search lane node true → node.first ≡ 1 → IsResult m.task.game (record { fix = node; fact = fact; point = point }) → IsRise m.task m.search point best
    → v ≡ value_after best f.value → IsEntry m.task m.search node fact v o → xs ≡ filter (λ (r : Ripe). exceeds r.bound v) f.ripe → IsPutIn xs o ys → tops ≡ filter (λ y. not (same node y)) f.tops
    → lanes ≡ set s.lanes (lane - 1) None → worked ≡ s.worked ++ (record { fix = node; fact = fact; point = point } ∷ []) → best2 ≡ best_after best f.best → value2 ≡ value_after best f.value
    → IsFrontier p (record s { lanes = lanes; worked = worked }) (record f { best = best2; value = value2; tops = tops; ripe = ys })
prefix-kept p s f m lane node fact point best o v lanes worked tops xs ys best2 value2 e h held first result rise is_v entry is_xs put is_tops is_lanes is_worked is_best is_value =
    let back : m ≡ seen p s = sym e in
    let held2 = subst (λ (x : Machine). Holds x.search lane node true) back held in
    let result2 = subst (λ (x : Machine). IsResult x.task.game (record { fix = node; fact = fact; point = point })) back result in
    let rise2 = subst (λ (x : Machine). IsRise x.task x.search point best) back rise in
    let entry2 = subst (λ (x : Machine). IsEntry x.task x.search node fact v o) back entry in
    let va : Fraction = value_after best f.value in
    let entry3 = subst (λ (y : Fraction). IsEntry p s node fact y o) is_v entry2 in
    let put2 = subst (λ (zs : List Ripe). IsPutIn zs o ys) (is_xs ∙ ap (λ (y : Fraction). filter (λ (r : Ripe). exceeds r.bound y) f.ripe) is_v) put in
    let k = kept-put p s f h lane node fact point held2 result2 first (best_after best f.best) va (raised p s f h lane node fact point held2 result2 best rise2) o ys entry3 put2 in
    subst (λ (ls : List (Option Held)). IsFrontier p (record s { lanes = ls; worked = worked }) (record f { best = best2; value = value2; tops = tops; ripe = ys })) (sym is_lanes)
    (subst (λ (ws : List Worked). IsFrontier p (record s { lanes = set s.lanes (lane - 1) None; worked = ws }) (record f { best = best2; value = value2; tops = tops; ripe = ys })) (sym is_worked)
    (subst (λ (b : Committed). IsFrontier p (worked_search s lane node fact point) (record f { best = b; value = value2; tops = tops; ripe = ys })) (sym is_best)
    (subst (λ (y : Fraction). IsFrontier p (worked_search s lane node fact point) (record f { best = best_after best f.best; value = y; tops = tops; ripe = ys })) (sym is_value)
    (subst (λ (zs : List Fix). IsFrontier p (worked_search s lane node fact point) (record f { best = best_after best f.best; value = va; tops = zs; ripe = ys })) (sym is_tops) k))))
