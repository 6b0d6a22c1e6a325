-- What the machine keeps stays right where a cap node is worked.
use Rattle.std.proofs.Common.{◌≡◌, ◌≢◌, ◌⊎◌, ◌↔◌, ℕ, zero, suc, ◌+◌, ◌-◌, ◌≤◌, ◌<◌, nat_eq, Bool, true, false, true≢false, cond, List, [], ◌∷◌, ◌++◌, map, length, set, filter_map, sym, ◌∙◌, ap, subst, refl, arith, Option, Some, None, inl, inr, ⊎_elim, Contains, All, ℤ, pos, ◌≤ℤ◌}
use Rattle.std.specs.Prelude.{filter, not}
use Rattle.std.specs.List.{zip}
use Rattle.std.proofs.lemmas.Bool.{cases_Bool, eq-eqb, eqb-true, ne_eqb}
use Rattle.std.proofs.lemmas.List.{same_from_push}
use Rattle.std.proofs.lemmas.List.Elements.{All-head}
use Rattle.sg_model.specs.Sums.{greatest, numbers, numbers_from}
use Rattle.sg_model.specs.Games.{Game, action_count}
use Rattle.sg_model.specs.Payoffs.{greatest_of}
use Rattle.sg_commit.specs.Committed.{Committed, IsCommitted}
use Rattle.sg_frac.specs.Fractions.{Fraction}
use Rattle.sg_tree.specs.declared.fact.Fact.{Fact}
use Rattle.sg_tree.specs.declared.fix.Fix.{Fix}
use Rattle.sg_tree.specs.declared.worked.Worked.{Worked}
use Rattle.sg_tree.specs.declared.report.Cap.{Cap}
use Rattle.sg_bounds.specs.Regions.{alone, prefix}
use Rattle.sg_bounds.specs.Leaves.{root_bound}
use Rattle.sg_search.specs.Searches.{Task, Search, first_search, same, stuck_count, taken_count, worked_count, IsPartOf, IsCapNode}
use Rattle.sg_search.specs.Bounding.{better, cap_at, cap_facts, caps_of, exceeds, fact_of, incumbent, inherited, least_cap, lower, own_bound, value_fraction}
use Rattle.sg_search.specs.Changes.{CapsAreDone, Holds, works}
use Rattle.sg_search.specs.Events.{AreChoices}
use Rattle.sg_search.specs.Results.{IsResult}
use Rattle.sg_search.proofs.Placed.{held-let_go, known_in_one_place, one_if, same-self, worked-more}
use Rattle.sg_search.proofs.Grown.{fact-none}
use Rattle.sg_search.proofs.Levelled.{split_when_caps_are_done}
use Rattle.sg_search.proofs.Poorer.{fact-more, kept-same, map-from}
use Rattle.sg_search.proofs.Listing.{choices-same}
use Rattle.sg_lanes.specs.declared.ripe.Ripe.{Ripe}
use Rattle.sg_lanes.specs.Bounds.{Stands, StandsFor}
use Rattle.sg_lanes.specs.Choices.{ripe_nodes}
use Rattle.sg_lanes.specs.Frontiers.{Frontier, IsFrontier, IsRipe}
use Rattle.sg_lanes.proofs.Kept.{fresh-alike, fresh-less}
use Rattle.sg_lanes.proofs.Branched.{not-one}
use Rattle.sg_lanes.proofs.Capping.{facts-missing}
use Rattle.sg_lanes.proofs.Recorded.{incumbent-after, results-after, runs-after, same-taken, unworked, worked_search}

-- one place of a list of numbers' values changed
map-set : (f h : ℕ → Cap) (b k i : ℕ) → i < k → ((l : ℕ) → l ≢ b + i → f l ≡ h l) → set (map h (numbers_from b k)) i (f (b + i)) ≡ map f (numbers_from b k)
map-set f h b zero i lt other = absurd (omega (arith, lt))
map-set f h b (suc k) zero lt other =
    let z : b + 0 ≡ b = omega arith in
    ap (λ (n : ℕ). f n ∷ map h (numbers_from (b + 1) k)) z
    ∙ ap (λ (cs : List Cap). f b ∷ cs) (sym (map-from f h (b + 1) k (λ l low. other l (λ e. omega (arith, e, low)))))
map-set f h b (suc k) (suc i) lt other =
    let z : b + suc i ≡ b + 1 + i = omega arith in
    ap (λ (n : ℕ). h b ∷ set (map h (numbers_from (b + 1) k)) i (f n)) z
    ∙ ap (λ (cs : List Cap). h b ∷ cs) (map-set f h (b + 1) k i (omega (arith, lt)) (λ l ne. other l (λ e. ne (e ∙ z))))
    ∙ ap (λ (c : Cap). c ∷ map f (numbers_from (b + 1) k)) (sym (other b (λ e. omega (arith, e))))

-- while a node of its type is missing, a cap is plain
plain-at : (g : Game) (s : Search) (l : ℕ) → length (cap_facts g s l) ≢ action_count g l → cap_at g s l ≡ record { l = l; v = greatest_of g l; proof = [] }
plain-at g s l missing =
    ap (λ (b : Bool). cond {A = Cap} b (record { l = l; v = greatest (filter_map (least_cap g l) (cap_facts g s l)); proof = cap_facts g s l }) (record { l = l; v = greatest_of g l; proof = [] }))
    (ne_eqb (length (cap_facts g s l)) (action_count g l) missing)

module _ (p : Task) (s : Search) (f : Frontier) (h : IsFrontier p s f) (lane : ℕ) (node : Fix) (fact : Fact) (point : Option Committed) (holds : Holds s lane node true)
    (result : IsResult p.game (record { fix = node; fact = fact; point = point })) (two : 2 ≤ node.first) where
  abbrev t : Search
  t = worked_search s lane node fact point

  abbrev w : Worked
  w = record { fix = node; fact = fact; point = point }

  -- ---- the node

  pub is-cap : IsCapNode p.game node
  is-cap = ⊎_elim (λ one. absurd (omega (arith, one, two))) (λ k. by node.acts refl k.1) result.node.form
    where
      by : (acts : List ℕ) → node.acts ≡ acts → length acts ≡ 1 → IsCapNode p.game node
      by [] is long = absurd (omega (arith, long))
      by (a ∷ b ∷ acts) is long = absurd (omega (arith, long))
      by (a ∷ []) is long =
          let in_range = result.node.is_fix.in_range in
          let one : length node.acts ≡ 1 = ap (λ (xs : List ℕ). length xs) is in
          let acts = subst (λ (xs : List ℕ). All (λ (p2 : ℕ × ℕ). (1 ≤ p2.1) × (p2.1 ≤ action_count p.game p2.0)) (zip (numbers_from node.first (length xs)) xs)) is result.node.is_fix.acts in
          let k = All-head (λ (p2 : ℕ × ℕ). (1 ≤ p2.1) × (p2.1 ≤ action_count p.game p2.0)) (node.first, a) [] acts in
          record {
            l = node.first;
            act = a;
            from_two = two;
            type_in_range = omega (arith, in_range, one);
            from_one = k.0;
            in_range = k.1;
            node_is = ap (λ (xs : List ℕ). record { first = node.first; acts = xs }) is;
          }

  pub type-within : node.first ≤ length p.game.types
  type-within = let lone = is-cap in let e : lone.l ≡ node.first = ap (λ (x : Fix). x.first) (sym lone.node_is) in let high = lone.type_in_range in omega (arith, e, high)

  -- other nodes' first type
  first-other : (x : Fix) → x.first ≢ node.first → same x node ≡ false
  first-other x ne = not-one node x (λ e. ne (ap (λ (y : Fix). y.first) e))

  -- the root alone is split
  pub root-only : s.splits ≡ [] ∷ []
  root-only = ⊎_elim (λ e. e) (λ done. absurd (held-done done)) (split_when_caps_are_done p h.peopled h.changes s h.runs)
    where
      held-done : CapsAreDone p.game s → ⊥
      held-done done =
          let d = done node is-cap in
          let o = (known_in_one_place p h.peopled h.changes s h.runs).once node in
          let l = held-let_go s lane node node true holds in
          let y : one_if (same node node) ≡ 1 = ap one_if (same-self node) in
          omega (arith, d, o, l, y)

  last-root : h.last ≡ []
  last-root = sym (same_from_push [] h.front [] h.last (sym root-only ∙ h.splits)).1

  -- ---- the caps

  facts-other : (l : ℕ) → l ≢ node.first → cap_at p.game t l ≡ cap_at p.game s l
  facts-other l ne =
      let facts : cap_facts p.game t l ≡ cap_facts p.game s l =
      kept-same (λ a. fact_of t.worked (alone l a)) (λ a. fact_of s.worked (alone l a)) 1 (action_count p.game l) (λ a. fact-more s.worked w (alone l a) (inr (first-other (alone l a) ne))) in
      ap (λ (fs : List Fact).
      cond {A = Cap} (nat_eq (length fs) (action_count p.game l)) (record { l = l; v = greatest (filter_map (least_cap p.game l) fs); proof = fs }) (record { l = l; v = greatest_of p.game l; proof = [] })) facts

  missing-before : length (cap_facts p.game s node.first) ≢ action_count p.game node.first
  missing-before =
      let lone = is-cap in
      let e : lone.l ≡ node.first = ap (λ (x : Fix). x.first) (sym lone.node_is) in
      subst (λ (l : ℕ). length (cap_facts p.game s l) ≢ action_count p.game l) e
      (facts-missing p.game s lone.l lone.act lone.from_one lone.in_range (fact-none s.worked (alone lone.l lone.act) (subst (λ (x : Fix). worked_count s x ≡ 0) lone.node_is (unworked p s f h lane node fact point holds result))))

  -- while a node of the type is missing, the caps stay
  pub plain-caps : length (cap_facts p.game t node.first) ≢ action_count p.game node.first → caps_of p.game t ≡ caps_of p.game s
  plain-caps missing = map-from (cap_at p.game t) (cap_at p.game s) 2 (length p.game.types - 1)
      (λ l low. ⊎_elim
      (λ yes. let e : l ≡ node.first = eqb-true l node.first yes in
      subst (λ (k : ℕ). cap_at p.game t k ≡ cap_at p.game s k) (sym e) (plain-at p.game t node.first missing ∙ sym (plain-at p.game s node.first missing-before)))
      (λ out. facts-other l (λ e. true≢false (sym (subst (λ (k : ℕ). nat_eq l k ≡ true) e (eq-eqb l l refl)) ∙ out)))
      (cases_Bool (nat_eq l node.first)))

  -- else the cap of the type changes
  pub proved-caps : set (caps_of p.game s) (node.first - 2) (cap_at p.game t node.first) ≡ caps_of p.game t
  proved-caps =
      let high = type-within in
      let z : 2 + (node.first - 2) ≡ node.first = omega (arith, two) in
      ap (λ (l : ℕ). set (map (cap_at p.game s) (numbers_from 2 (length p.game.types - 1))) (node.first - 2) (cap_at p.game t l)) (sym z)
      ∙ map-set (cap_at p.game t) (cap_at p.game s) 2 (length p.game.types - 1) (node.first - 2) (omega (arith, two, high)) (λ l ne. facts-other l (λ e. ne (e ∙ sym z)))

  -- where another node of the type is not done, it is missing
  pub other-missing : (x : Fix) → Contains f.undone x → x.first ≡ node.first → x ≢ node → length (cap_facts p.game t node.first) ≢ action_count p.game node.first
  other-missing x at first ne =
      let k = (h.undone.each x).0 at in
      let lone = k.0 in
      let none = k.1 in
      let e : lone.l ≡ node.first = ap (λ (y : Fix). y.first) (sym lone.node_is) ∙ first in
      let m = worked-more s w x in
      let o : one_if (same x node) ≡ 0 = ap one_if (not-one node x ne) in
      let out : worked_count t x ≡ 0 = omega (arith, none, m, o) in
      subst (λ (l : ℕ). length (cap_facts p.game t l) ≢ action_count p.game l) e
      (facts-missing p.game t lone.l lone.act lone.from_one lone.in_range (fact-none t.worked (alone lone.l lone.act) (subst (λ (y : Fix). worked_count t y ≡ 0) lone.node_is out)))

  -- ---- what is kept

  kept-tops : AreChoices (λ x. IsPartOf p.game [] x × (worked_count t x ≡ 0)) f.tops
  kept-tops = choices-same (λ x. IsPartOf p.game [] x × (worked_count s x ≡ 0)) (λ x. IsPartOf p.game [] x × (worked_count t x ≡ 0)) f.tops (λ y. (
    λ k. let o = other y k.0 in let m = worked-more s w y in let z = k.1 in (k.0, omega (arith, o, m, z)),
    λ k. let o = other y k.0 in let m = worked-more s w y in let z = k.1 in (k.0, omega (arith, o, m, z)),
  )) h.tops
    where
      other : (y : Fix) → IsPartOf p.game [] y → one_if (same y node) ≡ 0
      other y part = ap one_if (first-other y (λ e. let q : y.first ≡ 1 = ap (λ (x : Fix). x.first) part.node_is in omega (arith, e, q, two)))

  pub kept-cap : (best : Committed) (value : Fraction) (caps : List Cap) (ripe : List Ripe) → IsCommitted best → best.tickets ≡ better p.game (incumbent p s) point → Stands value (value_fraction p.game best.tickets)
      → caps ≡ caps_of p.game t → AreChoices (IsRipe p t) (ripe_nodes ripe) → All (λ (r : Ripe). StandsFor (Some r.bound) (own_bound p.game t r.node.acts)) ripe
      → IsFrontier p t (record f { best = best; value = value; caps = caps; undone = filter (λ y. not (same node y)) f.undone; ripe = ripe })
  kept-cap best value caps ripe committed is stands is_caps are bounds = record {
    changes = h.changes ++ (works lane fact point ∷ []);
    runs = runs-after p s f h lane node fact point holds result;
    peopled = h.peopled;
    few = h.few;
    first = h.first;
    root = h.root;
    shift = h.shift;
    results = results-after p s f h lane node fact point holds result;
    committed = committed;
    best = is ∙ sym (incumbent-after p s f h lane node fact point holds result);
    value = subst (λ (k : _). Stands value (value_fraction p.game k)) (is ∙ sym (incumbent-after p s f h lane node fact point holds result)) stands;
    caps = is_caps;
    front = h.front;
    last = h.last;
    splits = h.splits;
    group = subst (StandsFor f.group) (subst (λ (l : List ℕ). inherited p.game s l ≡ inherited p.game t l) (sym last-root) refl) h.group;
    parts = fresh-alike (IsPartOf p.game h.last) s t f.parts (same-taken p s f h lane node fact point holds result) h.parts;
    lone = fresh-alike (IsCapNode p.game) s t f.lone (same-taken p s f h lane node fact point holds result) h.lone;
    tops = kept-tops;
    undone = fresh-less (IsCapNode p.game) (λ x. worked_count s x + stuck_count s x) (λ x. worked_count t x + stuck_count t x) node f.undone (λ x. let r = worked-more s w x in omega (arith, r)) h.undone;
    ripe = are;
    bounds = bounds;
  }
