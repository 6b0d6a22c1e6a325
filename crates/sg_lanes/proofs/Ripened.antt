-- The prefixes that may be split after a prefix was worked: those of before whose bounds are still above the incumbent, and maybe that prefix.
use Rattle.std.proofs.Common.{◌≡◌, ◌≢◌, ◌⊎◌, ◌↔◌, ℕ, zero, suc, ◌+◌, ◌-◌, ◌≤◌, ◌<◌, Bool, true, false, true≢false, cond, List, [], ◌∷◌, ◌++◌, map, length, count_by, take, drop, get_or, sym, ◌∙◌, ap, subst, refl, arith, Option, Some, None, inl, inr, ⊎_elim, Contains, All, ℤ, pos, ◌≤ℤ◌}
use Rattle.std.specs.Prelude.{filter, insert, option_and_then, find, option_map}
use Rattle.std.proofs.lemmas.Bool.{cases_Bool}
use Rattle.std.proofs.lemmas.List.Sums.{sum_by-cons}
use Rattle.std.proofs.lemmas.List.Elements.{All-contains, All-cons, All-head, All-nil, All-tail}
use Rattle.sg_model.specs.Games.{Game}
use Rattle.sg_model.specs.declared.ticket.Ticket.{Ticket}
use Rattle.sg_model.specs.Commitments.{IsCommitment}
use Rattle.sg_model.specs.Payoffs.{IsPeopled}
use Rattle.sg_commit.specs.Committed.{Committed, IsCommitted}
use Rattle.sg_frac.specs.Fractions.{Fraction}
use Rattle.sg_tree.specs.declared.fact.Fact.{Fact}
use Rattle.sg_tree.specs.declared.fix.Fix.{Fix}
use Rattle.sg_tree.specs.declared.worked.Worked.{Worked}
use Rattle.sg_bounds.specs.Regions.{prefix}
use Rattle.sg_bounds.specs.Leaves.{fact_bound}
use Rattle.sg_search.specs.Searches.{Task, Search, lane_at, same, holds_node, held_count, taken_count, worked_count, ArePlaced}
use Rattle.sg_search.specs.Bounding.{better, caps_of, exceeds, fact_of, incumbent, is_over, is_split, lower, own_bound, value_fraction}
use Rattle.sg_search.specs.Changes.{Holds, MaySplit}
use Rattle.sg_search.specs.Events.{AreChoices, comes_first}
use Rattle.sg_search.specs.Results.{IsResult, IsPointOf}
use Rattle.sg_search.proofs.Placed.{held-let_go, known_in_one_place, one_if, same-is, same-self, worked-more}
use Rattle.sg_search.proofs.Poorer.{above-falls, inherited-positive, positive-value}
use Rattle.sg_search.proofs.Reported.{are_facts, incumbent-first}
use Rattle.sg_search.proofs.Listing.{Passes, choices-kept, choices-more, choices-same, here-in, in-keyed, keyed-in, later-in}
use Rattle.sg_lanes.specs.declared.ripe.Ripe.{Ripe}
use Rattle.sg_lanes.specs.Bounds.{Stands, StandsFor}
use Rattle.sg_lanes.specs.Choices.{ripe_nodes}
use Rattle.sg_lanes.specs.Frontiers.{Frontier, IsFrontier, IsRipe}
use Rattle.sg_lanes.proofs.Fractions.{exceeds-alike}
use Rattle.sg_lanes.proofs.Sifted.{all-kept}
use Rattle.sg_lanes.proofs.Branched.{not-one}
use Rattle.sg_lanes.proofs.Picked.{stands-some}
use Rattle.sg_lanes.proofs.Chosen.{value-positive}
use Rattle.sg_lanes.proofs.Recorded.{incumbent-after, same-bound, unworked, worked_search}

-- the fact of a node that was worked last
fact-last : (ws : List Worked) (w : Worked) → count_by (λ (v : Worked). same w.fix v.fix) ws ≡ 0 → fact_of (ws ++ (w ∷ [])) w.fix ≡ Some w.fact
fact-last [] w e = ap (λ (b : Bool). option_map (λ (u : Worked). u.fact) (cond b (Some w) None)) (same-self w.fix)
fact-last (u ∷ ws) w e =
    let c = sum_by-cons (λ (y : Worked). cond (same w.fix y.fix) 1 0) u ws in
    ⊎_elim
    (λ yes. absurd (let z : one_if (same w.fix u.fix) ≡ 1 = ap one_if yes in omega (arith, z, c, e)))
    (λ out. let z : one_if (same w.fix u.fix) ≡ 0 = ap one_if out in
    ap (λ (b : Bool). option_map (λ (y : Worked). y.fact) (cond b (Some u) (find (λ (y : Worked). same w.fix y.fix) (ws ++ (w ∷ []))))) out ∙ fact-last ws w (omega (arith, e, c, z)))
    (cases_Bool (same w.fix u.fix))

-- what is above the better of two is above the first
above-better : (g : Game) → IsPeopled g → (best : List Ticket) (o : Option Committed) → IsCommitment g best → ((k : Committed) → o ≡ Some k → IsCommitment g k.tickets) → (x : Fraction) → pos 1 ≤ℤ x.den
    → exceeds x (value_fraction g (better g best o)) ≡ true → exceeds x (value_fraction g best) ≡ true
above-better g peopled best None is point x px e = e
above-better g peopled best (Some k) is point x px e = by (exceeds (value_fraction g k.tickets) (value_fraction g best)) refl e
  where
    by : (b : Bool) → exceeds (value_fraction g k.tickets) (value_fraction g best) ≡ b → exceeds x (value_fraction g (cond b k.tickets best)) ≡ true → exceeds x (value_fraction g best) ≡ true
    by false q e = e
    by true q e = ⊎_elim (λ yes. yes)
        (λ low. absurd (true≢false (sym e ∙ above-falls x (value_fraction g best) (value_fraction g k.tickets) px (positive-value g peopled best is) (positive-value g peopled k.tickets (point k refl)) q low)))
        (cases_Bool (exceeds x (value_fraction g best)))

nodes-insert : (rs : List Ripe) (n : ℕ) (e : Ripe) → n ≤ length rs → ripe_nodes (insert rs n e) ≡ insert (ripe_nodes rs) n e.node
nodes-insert rs zero e le = refl
nodes-insert [] (suc n) e le = absurd (omega (arith, le))
nodes-insert (r ∷ rs) (suc n) e le = ap (λ (xs : List Fix). r.node ∷ xs) (nodes-insert rs n e (omega (arith, le)))

pub all-from : (P : Ripe → Type 0) (rs : List Ripe) → ((r : Ripe) → Contains rs r → P r) → All P rs
all-from P [] h = All-nil P
all-from P (r ∷ rs) h = All-cons P r rs (h r (here-in r rs)) (all-from P rs (λ x at. h x (later-in r rs x at)))

module _ (p : Task) (s : Search) (f : Frontier) (h : IsFrontier p s f) (lane : ℕ) (node : Fix) (fact : Fact) (point : Option Committed) (holds : Holds s lane node true)
    (result : IsResult p.game (record { fix = node; fact = fact; point = point })) (same_caps : caps_of p.game (worked_search s lane node fact point) ≡ caps_of p.game s) (value : Fraction) where
  abbrev t : Search
  t = worked_search s lane node fact point

  abbrev w : Worked
  w = record { fix = node; fact = fact; point = point }

  module _ (stands : Stands value (lower p t)) (lower_positive : pos 1 ≤ℤ (lower p t).den) where
    abbrev above : Ripe → Bool
    above r = exceeds r.bound value

    worked-before : (y : Fix) → y ≢ node → 1 ≤ worked_count t y → 1 ≤ worked_count s y
    worked-before y ne k =
        let m = worked-more s w y in
        let z : one_if (same y node) ≡ 0 = ap one_if (not-one node y ne) in
        omega (arith, k, m, z)

    bound-den : (acts : List ℕ) (x : Fraction) → acts ≢ [] → own_bound p.game s acts ≡ Some x → pos 1 ≤ℤ x.den
    bound-den [] x ne e = absurd (ne refl)
    bound-den (a ∷ acts) x ne e = inherited-positive p.game h.peopled s (are_facts p.game s h.results) (a ∷ acts) x e

    -- an entry's test is the test of its prefix in the state after
    test-is : (r : Ripe) (acts : List ℕ) → r.node ≡ prefix acts → Contains f.ripe r → acts ≢ [] → 1 ≤ worked_count s (prefix acts) → exceeds r.bound value ≡ is_over p t (own_bound p.game t acts)
    test-is r acts is at ne before =
        let b = All-contains (λ (x : Ripe). StandsFor (Some x.bound) (own_bound p.game s x.node.acts)) f.ripe r h.bounds at in
        let same_acts : r.node.acts ≡ acts = ap (λ (x : Fix). x.acts) is in
        let k = stands-some r.bound (own_bound p.game s acts) (subst (λ (xs : List ℕ). StandsFor (Some r.bound) (own_bound p.game s xs)) same_acts b) in
        exceeds-alike r.bound k.0 value (lower p t) k.2 stands (bound-den acts k.0 ne k.1) lower_positive
        ∙ sym (ap (is_over p t) (same-bound p s f h lane node fact point holds result same_caps acts before ∙ k.1))

    sift-to : (y : Fix) → Passes (λ (r : Ripe). r.node) above f.ripe y → IsRipe p t y × (y ≢ node)
    sift-to y pass =
        let k = (h.ripe.each y).0 (subst (Contains (ripe_nodes f.ripe)) pass.key_is (in-keyed (λ (r : Ripe). r.node) f.ripe pass.item pass.at)) in
        let before = k.2.worked in
        let m = worked-more s w (prefix k.0) in
        let differ : y ≢ node = λ e. let u = unworked p s f h lane node fact point holds result in let c : worked_count s (prefix k.0) ≡ worked_count s node = ap (worked_count s) (sym k.1 ∙ e) in omega (arith, u, c, before) in (
          (
            k.0,
            k.1,
            record {
              some = k.2.some;
              worked = omega (arith, m, before);
              unsplit = k.2.unsplit;
              short = k.2.short;
              over = sym (test-is pass.item k.0 (pass.key_is ∙ k.1) pass.at k.2.some before) ∙ pass.passes;
            },
          ),
          differ,
        )

    risen : (x : Fraction) → pos 1 ≤ℤ x.den → exceeds x (lower p t) ≡ true → exceeds x (lower p s) ≡ true
    risen x px e = above-better p.game h.peopled (incumbent p s) point (incumbent-first p s h.first h.results).commitment at-point x px
        (subst (λ (k : List Ticket). exceeds x (value_fraction p.game k) ≡ true) (incumbent-after p s f h lane node fact point holds result) e)
      where
        at-point : (k : Committed) → point ≡ Some k → IsCommitment p.game k.tickets
        at-point k e = (subst (IsPointOf p.game node fact) e result.point).2.commitment

    sift-from : (y : Fix) → IsRipe p t y × (y ≢ node) → Passes (λ (r : Ripe). r.node) above f.ripe y
    sift-from y ((acts, is, may), ne) =
        let before : 1 ≤ worked_count s (prefix acts) = worked-before (prefix acts) (λ e. ne (is ∙ e)) may.worked in
        let own = same-bound p s f h lane node fact point holds result same_caps acts before in
        let at = (h.ripe.each y).1 (acts, is, record { some = may.some; worked = before; unsplit = may.unsplit; short = may.short; over = over-before acts may.some own may.over }) in
        let r = keyed-in (λ (x : Ripe). x.node) f.ripe y at in
        record { item = r.0; at = r.1; key_is = r.2; passes = test-is r.0 acts (r.2 ∙ is) r.1 may.some before ∙ may.over }
      where
        over-before : (xs : List ℕ) → xs ≢ [] → own_bound p.game t xs ≡ own_bound p.game s xs → is_over p t (own_bound p.game t xs) ≡ true → is_over p s (own_bound p.game s xs) ≡ true
        over-before xs some own over = by (own_bound p.game s xs) refl (sym (ap (is_over p t) own) ∙ over)
          where
            by : (o : Option Fraction) → own_bound p.game s xs ≡ o → is_over p t o ≡ true → is_over p s o ≡ true
            by None e k = absurd (true≢false (sym k))
            by (Some x) e k = risen x (bound-den xs x some e) k

    abbrev sifted : List Ripe
    sifted = filter above f.ripe

    pub sifted-bounds : All (λ (r : Ripe). StandsFor (Some r.bound) (own_bound p.game t r.node.acts)) sifted
    sifted-bounds = all-kept (λ (r : Ripe). StandsFor (Some r.bound) (own_bound p.game t r.node.acts)) above f.ripe
        (all-from (λ (r : Ripe). StandsFor (Some r.bound) (own_bound p.game t r.node.acts)) f.ripe (λ r at.
        let k = (h.ripe.each r.node).0 (in-keyed (λ (x : Ripe). x.node) f.ripe r at) in
        let is : r.node.acts ≡ k.0 = ap (λ (x : Fix). x.acts) k.1 in
        let b = All-contains (λ (x : Ripe). StandsFor (Some x.bound) (own_bound p.game s x.node.acts)) f.ripe r h.bounds at in
        subst (StandsFor (Some r.bound)) (sym (same-bound p s f h lane node fact point holds result same_caps r.node.acts (subst (λ (xs : List ℕ). 1 ≤ worked_count s (prefix xs)) (sym is) k.2.worked))) b))

    pub sift-are : AreChoices (λ y. IsRipe p t y × (y ≢ node)) (ripe_nodes sifted)
    sift-are = choices-same (Passes (λ (r : Ripe). r.node) above f.ripe) (λ y. IsRipe p t y × (y ≢ node)) (ripe_nodes sifted) (λ y. (sift-to y, sift-from y)) (choices-kept (λ (r : Ripe). r.node) above (IsRipe p s) f.ripe h.ripe)

    -- where the node itself may not be split
    pub none-ripe : (IsRipe p t node → ⊥) → AreChoices (IsRipe p t) (ripe_nodes sifted)
    none-ripe no_ripe = choices-same (λ y. IsRipe p t y × (y ≢ node)) (IsRipe p t) (ripe_nodes sifted) (λ y. (λ k. k.0, λ k. (k, λ e. no_ripe (subst (IsRipe p t) e k)))) sift-are

    -- and where it may
    pub one-ripe : (e : Ripe) (n : ℕ) → e.node ≡ node → IsRipe p t node → n ≤ length sifted → ((y : Fix) → Contains (take n (ripe_nodes sifted)) y → comes_first y node ≡ true)
        → ((y : Fix) → Contains (drop n (ripe_nodes sifted)) y → comes_first node y ≡ true) → AreChoices (IsRipe p t) (ripe_nodes (insert sifted n e))
    one-ripe e n is ripe le before after =
        subst (AreChoices (IsRipe p t)) (sym (nodes-insert sifted n e le ∙ ap (λ (x : Fix). insert (ripe_nodes sifted) n x) is))
        (choices-same (λ y. (y ≡ node) ⊎ (IsRipe p t y × (y ≢ node))) (IsRipe p t) (insert (ripe_nodes sifted) n node) (λ y. (
          λ k. ⊎_elim (λ q. subst (IsRipe p t) (sym q) ripe) (λ q. q.0) k,
          λ k. ⊎_elim (λ yes. inl (same-is y node yes)) (λ out. inr (k, λ q. true≢false (sym (subst (λ (z : Fix). same y z ≡ true) q (same-self y)) ∙ out))) (cases_Bool (same y node)),
        )) (choices-more (λ y. IsRipe p t y × (y ≢ node)) (ripe_nodes sifted) n node sift-are before after))

    -- the bound of the node
    pub own-is : node.first ≡ 1 → own_bound p.game t node.acts ≡ fact_bound p.game (caps_of p.game t) (length node.acts) fact
    own-is first = ap (λ (o : Option Fact). option_and_then (fact_bound p.game (caps_of p.game t) (length node.acts)) o)
        (subst (λ (x : Fix). fact_of t.worked x ≡ Some fact) (ap (λ (n : ℕ). record { first = n; acts = node.acts }) first) (fact-last s.worked w (unworked p s f h lane node fact point holds result)))
