-- What the machine keeps stays right where a prefix is split for a lane.
use Rattle.std.proofs.Common.{◌≡◌, ◌≢◌, ◌⊎◌, ◌↔◌, ℕ, zero, suc, ◌+◌, ◌-◌, ◌≤◌, ◌<◌, Bool, true, false, true≢false, cond, ◌||◌, List, [], ◌∷◌, ◌++◌, map, length, set, sym, ◌∙◌, ap, subst, refl, arith, Option, Some, None, inl, inr, ⊎_elim, Contains, All, append_assoc, append-nil}
use Rattle.std.specs.Prelude.{filter, not}
use Rattle.std.specs.List.{list_any}
use Rattle.std.specs.Cmp.Lexicographic.{slice_cmp}
use Rattle.std.proofs.lemmas.Bool.{cases_Bool, or_parts}
use Rattle.std.proofs.lemmas.List.{same_from_push}
use Rattle.std.proofs.lemmas.List.Elements.{All-contains}
use Rattle.std.proofs.lemmas.List.Folds.{list_any-append}
use Rattle.std.proofs.lemmas.Slice.Eq.{bytes_eq-Decides}
use Rattle.std.specs.Prelude.{bytes_eq}
use Rattle.sg_model.specs.Sums.{numbers_from}
use Rattle.sg_model.specs.Games.{Game, action_count}
use Rattle.sg_model.proofs.Numbers.{All-numbers_from}
use Rattle.sg_model.proofs.Payoffs.{Contains-map, Contains-numbers_from}
use Rattle.sg_frac.specs.Fractions.{Fraction}
use Rattle.sg_tree.specs.declared.fix.Fix.{Fix}
use Rattle.sg_bounds.specs.Regions.{alone, prefix}
use Rattle.sg_search.specs.declared.held.Held.{Held}
use Rattle.sg_search.specs.Searches.{Task, Search, first_search, same, taken_count, IsPartOf, IsCapNode, ArePlaced}
use Rattle.sg_search.specs.Bounding.{inherited, is_split, own_bound}
use Rattle.sg_search.specs.Changes.{branches, MayBegin, MaySplit, begun, first_part, with_lane}
use Rattle.sg_search.specs.Events.{AreChoices, MayBranch, comes_first}
use Rattle.sg_search.proofs.Placed.{known_in_one_place, one_if, part-no_cap, same-is, same-self, split-in, taken-begun, unsplit-fresh}
use Rattle.sg_search.proofs.Grown.{split-yes}
use Rattle.sg_search.proofs.Chosen.{InOrder}
use Rattle.sg_search.proofs.Listing.{Passes, choices-kept, choices-same, in-keyed, keyed-in, order-cons, order-nil}
use Rattle.sg_lanes.specs.declared.ripe.Ripe.{Ripe}
use Rattle.sg_lanes.specs.Bounds.{StandsFor}
use Rattle.sg_lanes.specs.Choices.{ripe_nodes}
use Rattle.sg_lanes.specs.Frontiers.{Frontier, IsFrontier, IsRipe}
use Rattle.sg_lanes.specs.Machines.{Machine}
use Rattle.sg_lanes.proofs.Kept.{runs-more}
use Rattle.sg_lanes.proofs.Sifted.{all-kept, part-first}
use Rattle.sg_lanes.proofs.Glued.{seen}

pub number-in : (a m t : ℕ) → Contains (numbers_from a m) t → (a ≤ t) × (t < a + m)
number-in a m t at = All-contains (λ k. (a ≤ k) × (k < a + m)) (numbers_from a m) t (All-numbers_from (λ k. (a ≤ k) × (k < a + m)) a m (λ k low high. (low, high))) at

abbrev pub part_by : List ℕ → ℕ → Fix
part_by acts a = prefix (acts ++ (a ∷ []))

-- the parts of a prefix stand in order
pub parts-order : (acts : List ℕ) (b k : ℕ) → InOrder (map (part_by acts) (numbers_from b k))
parts-order acts b zero = order-nil
parts-order acts b (suc k) = order-cons (part_by acts b) (map (part_by acts) (numbers_from (b + 1) k))
    (λ y at.
    let q = keyed-in (part_by acts) (numbers_from (b + 1) k) y at in
    let r = number-in (b + 1) k q.0 q.1 in
    let low = r.0 in
    subst (λ (z : Fix). comes_first (part_by acts b) z ≡ true) q.2 (part-first acts b q.0 (omega (arith, low))))
    (parts-order acts (b + 1) k)

pub not-one : (node x : Fix) → (x ≢ node) → same x node ≡ false
not-one node x ne = ⊎_elim (λ yes. absurd (ne (same-is x node yes))) (λ n. n) (cases_Bool (same x node))

part-acts : (acts : List ℕ) (a b : ℕ) → part_by acts a ≡ part_by acts b → a ≡ b
part-acts acts a b e = (same_from_push acts acts a b (ap (λ (x : Fix). x.acts) e)).1

-- a prefix is one list of actions
pub prefix-acts : (a b : List ℕ) → prefix a ≡ prefix b → a ≡ b
prefix-acts a b e = ap (λ (x : Fix). x.acts) e

pub branch-split : (p : Task) (s : Search) (acts : List ℕ) → MayBranch p s (prefix acts) → MaySplit p s acts
branch-split p s acts b = subst (MaySplit p s) (sym (prefix-acts acts b.acts b.node_is)) b.split

or-none : (b : Bool) → (b || false) ≡ b
or-none true = refl
or-none false = refl

module _ (p : Task) (s : Search) (f : Frontier) (h : IsFrontier p s f) (lane : ℕ) (acts : List ℕ) (bound : Fraction) (begin : MayBegin p s lane) (b : MayBranch p s (prefix acts)) (stands : StandsFor (Some bound) (own_bound p.game s acts)) where
  t : Search
  t = record (with_lane s lane (begun (first_part acts))) { splits = s.splits ++ (acts ∷ []) }

  split : MaySplit p s acts
  split = branch-split p s acts b

  placed : ArePlaced p.game s
  placed = known_in_one_place p h.peopled h.changes s h.runs

  more : (x : Fix) → taken_count t x ≡ taken_count s x + one_if (same x (first_part acts))
  unfolding t
  more x = taken-begun s lane (first_part acts) x begin.free

  fresh : (x : Fix) → IsPartOf p.game acts x → taken_count s x ≡ 0
  fresh x of = unsplit-fresh p s acts placed x of (split-in s.splits acts split.unsplit)

  abbrev count : ℕ
  count = action_count p.game (length acts + 1)

  parts-are : AreChoices (λ x. IsPartOf p.game acts x × (taken_count t x ≡ 0)) (map (part_by acts) (numbers_from 2 (count - 1)))
  parts-are = record {
    in_order = parts-order acts 2 (count - 1);
    each = λ y. (
      λ at.
          let q = keyed-in (part_by acts) (numbers_from 2 (count - 1)) y at in
          let r = number-in 2 (count - 1) q.0 q.1 in
          let low = r.0 in
          let high = r.1 in
          let some = h.peopled.actions (length acts + 1) (omega arith) (let l = split.short in omega (arith, l)) in
          let of : IsPartOf p.game acts y = record { act = q.0; from_one = omega (arith, low); in_range = omega (arith, high, some); node_is = sym q.2 } in
          let other : same y (first_part acts) ≡ false = not-one (first_part acts) y (λ e. let z = part-acts acts q.0 1 (q.2 ∙ e) in omega (arith, z, low)) in
          let m = more y in
          let z = fresh y of in
          let o : one_if (same y (first_part acts)) ≡ 0 = ap one_if other in
          (of, omega (arith, m, z, o)),
      λ k. by y k.0 k.0.act refl k.1,
    );
  }
    where
      by : (y : Fix) (of : IsPartOf p.game acts y) (a : ℕ) → of.act ≡ a → taken_count t y ≡ 0 → Contains (map (part_by acts) (numbers_from 2 (count - 1))) y
      by y of zero e z = absurd (let low = of.from_one in omega (arith, low, e))
      by y of (suc zero) e z = absurd (
          let is : y ≡ first_part acts = of.node_is ∙ ap (part_by acts) e in
          let one : one_if (same y (first_part acts)) ≡ 1 = ap one_if (subst (λ (x : Fix). same y x ≡ true) is (same-self y)) in
          let m = more y in
          omega (arith, m, one, z))
      by y of (suc (suc a)) e z =
          let high = of.in_range in
          subst (Contains (map (part_by acts) (numbers_from 2 (count - 1)))) (sym of.node_is)
          (Contains-map (part_by acts) (numbers_from 2 (count - 1)) of.act (Contains-numbers_from 2 (count - 1) of.act (omega (arith, e)) (omega (arith, high, e))))

  lone-are : AreChoices (λ x. IsCapNode p.game x × (taken_count t x ≡ 0)) f.lone
  lone-are = choices-same (λ x. IsCapNode p.game x × (taken_count s x ≡ 0)) (λ x. IsCapNode p.game x × (taken_count t x ≡ 0)) f.lone (λ y. (
    λ k. let o = other y k.0 in let m = more y in let z = k.1 in (k.0, omega (arith, o, m, z)),
    λ k. let o = other y k.0 in let m = more y in let z = k.1 in (k.0, omega (arith, o, m, z)),
  )) h.lone
    where
      other : (y : Fix) → IsCapNode p.game y → one_if (same y (first_part acts)) ≡ 0
      other y lone = ap one_if (not-one (first_part acts) y (λ e.
          let two = lone.from_two in
          let q : lone.l ≡ 1 = ap (λ (x : Fix). x.first) (sym lone.node_is ∙ e) in
          omega (arith, two, q)))

  abbrev kept : Ripe → Bool
  kept r = not (same (prefix acts) r.node)

  split-more : (xs : List ℕ) → is_split t.splits xs ≡ (is_split s.splits xs || bytes_eq xs acts)
  unfolding t
  split-more xs = list_any-append (bytes_eq xs) s.splits (acts ∷ []) ∙ ap (λ (c : Bool). is_split s.splits xs || c) (or-none (bytes_eq xs acts))

  ripe-to : (y : Fix) → Passes (λ (r : Ripe). r.node) kept f.ripe y → IsRipe p t y
  unfolding t
  ripe-to y pass =
      let k = (h.ripe.each y).0 (subst (Contains (ripe_nodes f.ripe)) pass.key_is (in-keyed (λ (r : Ripe). r.node) f.ripe pass.item pass.at)) in
      let differ : bytes_eq k.0 acts ≡ false = ⊎_elim
      (λ yes. absurd (true≢false (sym (subst (λ (z : Fix). same (prefix acts) z ≡ true) (ap prefix (sym ((bytes_eq-Decides k.0 acts).0 yes)) ∙ sym k.1 ∙ sym pass.key_is) (same-self (prefix acts))) ∙ not-is (same (prefix acts) pass.item.node) pass.passes)))
      (λ n. n)
      (cases_Bool (bytes_eq k.0 acts)) in (
        k.0,
        k.1,
        record {
          some = k.2.some;
          worked = k.2.worked;
          unsplit = split-more k.0 ∙ ap (λ (c : Bool). c || bytes_eq k.0 acts) k.2.unsplit ∙ differ;
          short = k.2.short;
          over = k.2.over;
        },
      )
    where
      not-is : (c : Bool) → not c ≡ true → c ≡ false
      not-is true e = absurd (true≢false (sym e))
      not-is false e = refl

  ripe-from : (y : Fix) → IsRipe p t y → Passes (λ (r : Ripe). r.node) kept f.ripe y
  unfolding t
  ripe-from y (xs, is, may) =
      let parts = or_parts (is_split s.splits xs) (bytes_eq xs acts) (sym (split-more xs) ∙ may.unsplit) in
      let at = (h.ripe.each y).1 (xs, is, record { some = may.some; worked = may.worked; unsplit = parts.0; short = may.short; over = may.over }) in
      let r = keyed-in (λ (x : Ripe). x.node) f.ripe y at in
      record {
        item = r.0;
        at = r.1;
        key_is = r.2;
        passes = is-not (same (prefix acts) r.0.node) (⊎_elim
            (λ yes. absurd (true≢false (sym ((bytes_eq-Decides xs acts).1 (prefix-acts xs acts (sym is ∙ sym r.2 ∙ sym (same-is (prefix acts) r.0.node yes)))) ∙ parts.1)))
            (λ n. n)
            (cases_Bool (same (prefix acts) r.0.node)));
      }
    where
      is-not : (c : Bool) → c ≡ false → not c ≡ true
      is-not true e = absurd (true≢false e)
      is-not false e = refl

  group-is : (xs : List ℕ) → xs ≢ [] → StandsFor (Some bound) (own_bound p.game s xs) → StandsFor (Some bound) (inherited p.game t xs)
  unfolding t
  group-is [] ne k = absurd (ne refl)
  group-is (x ∷ xs) ne k = k

  pub kept-branched : IsFrontier p (record (with_lane s lane (begun (first_part acts))) { splits = s.splits ++ (acts ∷ []) })
      (record f { parts = map (part_by acts) (numbers_from 2 (count - 1)); group = Some bound; ripe = filter kept f.ripe })
  unfolding t
  kept-branched = record {
    changes = h.changes ++ (branches lane acts ∷ []);
    runs = runs-more p h.changes (first_search p) s (branches lane acts) t h.runs (begin, b.nothing, b.caps, split, refl);
    peopled = h.peopled;
    few = h.few;
    first = h.first;
    root = h.root;
    shift = h.shift;
    results = h.results;
    committed = h.committed;
    best = h.best;
    value = h.value;
    caps = h.caps;
    front = s.splits;
    last = acts;
    splits = refl;
    group = group-is acts split.some stands;
    parts = parts-are;
    lone = lone-are;
    tops = h.tops;
    undone = h.undone;
    ripe = choices-same (Passes (λ (r : Ripe). r.node) kept f.ripe) (IsRipe p t) (ripe_nodes (filter kept f.ripe)) (λ y. (ripe-to y, ripe-from y)) (choices-kept (λ (r : Ripe). r.node) kept (IsRipe p s) f.ripe h.ripe);
    bounds = all-kept (λ (r : Ripe). StandsFor (Some r.bound) (own_bound p.game s r.node.acts)) kept f.ripe h.bounds;
  }

-- ---- the parts formed one after another

numbers-next : {X : Type 0} (f : ℕ → X) (b k : ℕ) → 1 ≤ k → map f (numbers_from b k) ≡ f b ∷ map f (numbers_from (b + 1) (k - 1))
numbers-next f b zero some = absurd (omega (arith, some))
numbers-next f b (suc k) some = ap (λ (n : ℕ). f b ∷ map f (numbers_from (b + 1) n)) (let e : k ≡ suc k - 1 = omega arith in e)

pub later-step : {X : Type 0} (f : ℕ → X) (xs all : List X) (a count : ℕ) → a < count → xs ++ map f (numbers_from (a + 1) (count - a)) ≡ all → (xs ++ (f (a + 1) ∷ [])) ++ map f (numbers_from (a + 1 + 1) (count - (a + 1))) ≡ all
later-step {X} f xs all a count lt e =
    append_assoc xs (f (a + 1) ∷ []) (map f (numbers_from (a + 1 + 1) (count - (a + 1))))
    ∙ ap (λ (n : ℕ). xs ++ (f (a + 1) ∷ map f (numbers_from (a + 1 + 1) n))) (let q : count - (a + 1) ≡ count - a - 1 = omega arith in q)
    ∙ ap (λ (ys : List X). xs ++ ys) (sym (numbers-next f (a + 1) (count - a) (omega (arith, lt))))
    ∙ e

pub later-end : {X : Type 0} (f : ℕ → X) (xs all : List X) (a count : ℕ) → count ≤ a → xs ++ map f (numbers_from (a + 1) (count - a)) ≡ all → xs ≡ all
later-end f xs all a count le e =
    sym (append-nil xs) ∙ ap (λ (n : ℕ). xs ++ map f (numbers_from (a + 1) n)) (let q : 0 ≡ count - a = omega (arith, le) in q) ∙ e

pub branch-kept : (p : Task) (s : Search) (f : Frontier) (m : Machine) (lane : ℕ) (acts : List ℕ) (bound : Fraction) (lanes : List (Option Held)) (splits : List (List ℕ)) (parts : List Fix) (ripe : List Ripe) (held : Fix) → seen p s ≡ m → IsFrontier p s f
    → MayBegin m.task m.search lane → MayBranch m.task m.search (prefix acts) → StandsFor (Some bound) (own_bound m.task.game m.search acts)
    → lanes ≡ set s.lanes (lane - 1) (begun held) → held ≡ first_part acts → splits ≡ s.splits ++ (acts ∷ [])
    → parts ≡ map (part_by acts) (numbers_from 2 (action_count p.game (length acts + 1) - 1)) → ripe ≡ filter (λ (r : Ripe). not (same (prefix acts) r.node)) f.ripe
    → IsFrontier p (record s { lanes = lanes; splits = splits }) (record f { parts = parts; group = Some bound; ripe = ripe })
branch-kept p s f m lane acts bound lanes splits parts ripe held e h begin b stands at_lanes is at_splits at_parts at_ripe =
    let k = kept-branched p s f h lane acts bound (subst (λ (w : Machine). MayBegin w.task w.search lane) (sym e) begin) (subst (λ (w : Machine). MayBranch w.task w.search (prefix acts)) (sym e) b)
    (subst (λ (w : Machine). StandsFor (Some bound) (own_bound w.task.game w.search acts)) (sym e) stands) in
    subst (λ (ls : List (Option Held)). IsFrontier p (record s { lanes = ls; splits = splits }) (record f { parts = parts; group = Some bound; ripe = ripe })) (sym (at_lanes ∙ ap (λ (x : Fix). set s.lanes (lane - 1) (begun x)) is))
    (subst (λ (zs : List (List ℕ)). IsFrontier p (record s { lanes = set s.lanes (lane - 1) (begun (first_part acts)); splits = zs }) (record f { parts = parts; group = Some bound; ripe = ripe })) (sym at_splits)
    (subst (λ (xs : List Fix). IsFrontier p (record s { lanes = set s.lanes (lane - 1) (begun (first_part acts)); splits = s.splits ++ (acts ∷ []) }) (record f { parts = xs; group = Some bound; ripe = ripe })) (sym at_parts)
    (subst (λ (rs : List Ripe). IsFrontier p (record s { lanes = set s.lanes (lane - 1) (begun (first_part acts)); splits = s.splits ++ (acts ∷ []) }) (record f { parts = map (part_by acts) (numbers_from 2 (action_count p.game (length acts + 1) - 1)); group = Some bound; ripe = rs })) (sym at_ripe) k)))
