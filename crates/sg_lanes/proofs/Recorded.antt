-- What the machine keeps stays right where a prefix is worked.
use Rattle.std.proofs.Common.{◌≡◌, ◌≢◌, ◌⊎◌, ◌↔◌, ℕ, zero, suc, ◌+◌, ◌-◌, ◌≤◌, ◌<◌, Bool, true, false, true≢false, cond, List, [], ◌∷◌, ◌++◌, map, length, count_by, set, fold, sym, ◌∙◌, ap, subst, refl, arith, Option, Some, None, inl, inr, ⊎_elim, Contains, All, ℤ, pos, ◌≤ℤ◌}
use Rattle.std.specs.Prelude.{filter, not, option_and_then, IfSome}
use Rattle.std.proofs.lemmas.Bool.{cases_Bool}
use Rattle.std.proofs.lemmas.List.Sums.{fold_push}
use Rattle.std.proofs.lemmas.List.Elements.{All-append, All-cons, All-nil, Contains-push}
use Rattle.sg_model.specs.Games.{Game}
use Rattle.sg_model.specs.declared.ticket.Ticket.{Ticket}
use Rattle.sg_commit.specs.Committed.{Committed, IsCommitted}
use Rattle.sg_frac.specs.Fractions.{Fraction}
use Rattle.sg_tree.specs.declared.fact.Fact.{Fact}
use Rattle.sg_tree.specs.declared.fix.Fix.{Fix}
use Rattle.sg_tree.specs.declared.worked.Worked.{Worked}
use Rattle.sg_tree.specs.declared.report.Cap.{Cap}
use Rattle.sg_bounds.specs.Regions.{alone, prefix}
use Rattle.sg_bounds.specs.Leaves.{fact_bound}
use Rattle.sg_search.specs.declared.held.Held.{Held}
use Rattle.sg_search.specs.Searches.{Task, Search, first_search, same, stuck_count, taken_count, worked_count, IsPartOf, IsCapNode}
use Rattle.sg_search.specs.Bounding.{better, caps_of, exceeds, fact_of, incumbent, inherited, is_over, is_split, lower, own_bound, value_fraction}
use Rattle.sg_search.specs.Changes.{works, Holds, MaySplit, Runs, with_lane}
use Rattle.sg_search.specs.Events.{AreChoices}
use Rattle.sg_search.specs.Results.{IsResult}
use Rattle.sg_search.proofs.Placed.{held-let_go, known_in_one_place, one_if, same-self, worked-more}
use Rattle.sg_search.proofs.Grown.{AreSplits, are_splits}
use Rattle.sg_search.proofs.Poorer.{caps-same, fact-more, inherited-same}
use Rattle.sg_search.proofs.Listing.{choices-same}
use Rattle.sg_lanes.specs.declared.ripe.Ripe.{Ripe}
use Rattle.sg_lanes.specs.Bounds.{Stands, StandsFor}
use Rattle.sg_lanes.specs.Choices.{ripe_nodes}
use Rattle.sg_lanes.specs.Frontiers.{Frontier, IsFrontier, IsRipe}
use Rattle.sg_lanes.proofs.Kept.{fresh-alike, fresh-less, runs-more}
use Rattle.sg_lanes.proofs.Branched.{not-one}
use Rattle.sg_lanes.proofs.Chosen.{last-in}

-- the state after a lane's node was worked
abbrev pub worked_search : Search → ℕ → Fix → Fact → Option Committed → Search
worked_search s lane node fact point = record (with_lane s lane None) { worked = s.worked ++ (record { fix = node; fact = fact; point = point } ∷ []) }

module _ (p : Task) (s : Search) (f : Frontier) (h : IsFrontier p s f) (lane : ℕ) (node : Fix) (fact : Fact) (point : Option Committed) (holds : Holds s lane node true)
    (result : IsResult p.game (record { fix = node; fact = fact; point = point })) where
  abbrev t : Search
  t = worked_search s lane node fact point

  abbrev w : Worked
  w = record { fix = node; fact = fact; point = point }

  -- the incumbent is the better of that of before and the point
  pub incumbent-after : incumbent p t ≡ better p.game (incumbent p s) point
  incumbent-after = fold_push (λ best (u : Worked). better p.game best u.point) p.first s.worked w

  pub same-taken : (x : Fix) → taken_count t x ≡ taken_count s x
  same-taken x = let a = held-let_go s lane node x true holds in let b = worked-more s w x in omega (arith, a, b)

  -- the node was not worked before
  pub unworked : worked_count s node ≡ 0
  unworked =
      let o = (known_in_one_place p h.peopled h.changes s h.runs).once node in
      let l = held-let_go s lane node node true holds in
      let y : one_if (same node node) ≡ 1 = ap one_if (same-self node) in
      omega (arith, o, l, y)

  pub runs-after : Runs p (first_search p) (h.changes ++ (works lane fact point ∷ [])) t
  runs-after = runs-more p h.changes (first_search p) s (works lane fact point) t h.runs (node, holds, refl)

  pub results-after : All (IsResult p.game) t.worked
  results-after = All-append (IsResult p.game) s.worked (w ∷ []) h.results (All-cons (IsResult p.game) w [] result (All-nil (IsResult p.game)))

  -- the bound of a prefix that was worked before, where the caps stay
  pub same-bound : caps_of p.game t ≡ caps_of p.game s → (acts : List ℕ) → 1 ≤ worked_count s (prefix acts) → own_bound p.game t acts ≡ own_bound p.game s acts
  same-bound same acts before =
      ap (λ (cs : List Cap). option_and_then (fact_bound p.game cs (length acts)) (fact_of t.worked (prefix acts))) same
      ∙ ap (λ (o : Option Fact). option_and_then (fact_bound p.game (caps_of p.game s) (length acts)) o) (fact-more s.worked w (prefix acts) (inl before))

  -- ---- a prefix

  module _ (first : node.first ≡ 1) where
    no-cap : (l a : ℕ) → 2 ≤ l → same (alone l a) node ≡ false
    no-cap l a two = not-one node (alone l a) (λ e. let q : l ≡ node.first = ap (λ (x : Fix). x.first) e in omega (arith, q, first, two))

    pub same-caps : caps_of p.game t ≡ caps_of p.game s
    same-caps = caps-same p.game s t (λ l a two. fact-more s.worked w (alone l a) (inr (no-cap l a two)))

    kept-undone : AreChoices (λ x. IsCapNode p.game x × (worked_count t x + stuck_count t x ≡ 0)) f.undone
    kept-undone = choices-same (λ x. IsCapNode p.game x × (worked_count s x + stuck_count s x ≡ 0)) (λ x. IsCapNode p.game x × (worked_count t x + stuck_count t x ≡ 0)) f.undone (λ y. (
      λ k. let o = other y k.0 in let m = worked-more s w y in let z = k.1 in (k.0, omega (arith, o, m, z)),
      λ k. let o = other y k.0 in let m = worked-more s w y in let z = k.1 in (k.0, omega (arith, o, m, z)),
    )) h.undone
      where
        other : (y : Fix) → IsCapNode p.game y → one_if (same y node) ≡ 0
        other y lone = ap one_if (subst (λ (x : Fix). same x node ≡ false) (sym lone.node_is) (no-cap lone.l lone.act lone.from_two))

    -- what is kept after a prefix was worked, where the prefixes that may be split are kept
    pub kept-prefix : (best : Committed) (value : Fraction) (ripe : List Ripe) → IsCommitted best → best.tickets ≡ better p.game (incumbent p s) point → Stands value (value_fraction p.game best.tickets)
        → AreChoices (IsRipe p t) (ripe_nodes ripe) → All (λ (r : Ripe). StandsFor (Some r.bound) (own_bound p.game t r.node.acts)) ripe
        → IsFrontier p t (record f { best = best; value = value; tops = filter (λ y. not (same node y)) f.tops; ripe = ripe })
    kept-prefix best value ripe committed is stands are bounds = record {
      changes = h.changes ++ (works lane fact point ∷ []);
      runs = runs-after;
      peopled = h.peopled;
      few = h.few;
      first = h.first;
      root = h.root;
      shift = h.shift;
      results = results-after;
      committed = committed;
      best = is ∙ sym incumbent-after;
      value = subst (λ (k : List Ticket). Stands value (value_fraction p.game k)) (is ∙ sym incumbent-after) stands;
      caps = h.caps ∙ sym same-caps;
      front = h.front;
      last = h.last;
      splits = h.splits;
      group = subst (StandsFor f.group) (sym (inherited-same p s t w refl (are_splits p h.peopled h.changes s h.runs) no-cap h.last (last-in p s f h))) h.group;
      parts = fresh-alike (IsPartOf p.game h.last) s t f.parts same-taken h.parts;
      lone = fresh-alike (IsCapNode p.game) s t f.lone same-taken h.lone;
      tops = fresh-less (IsPartOf p.game []) (worked_count s) (worked_count t) node f.tops (worked-more s w) h.tops;
      undone = kept-undone;
      ripe = are;
      bounds = bounds;
    }
