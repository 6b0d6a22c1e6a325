-- While the root alone is split, the worked prefixes of one action that are above the incumbent are those that may be split.
use Rattle.std.proofs.Common.{◌≡◌, ◌≢◌, ◌⊎◌, ◌↔◌, ℕ, zero, suc, ◌+◌, ◌≤◌, ◌<◌, Bool, true, false, true≢false, List, [], ◌∷◌, ◌++◌, map, length, sym, ◌∙◌, ap, subst, refl, arith, Option, Some, None, inl, inr, ⊎_elim, Contains, All, ℤ, pos, ◌≤ℤ◌}
use Rattle.std.specs.Prelude.{option_and_then}
use Rattle.sg_model.specs.Games.{Game, action_count}
use Rattle.sg_model.specs.Payoffs.{IsPeopled}
use Rattle.sg_frac.specs.Fractions.{Fraction}
use Rattle.sg_tree.specs.declared.fact.Fact.{Fact}
use Rattle.sg_tree.specs.declared.fix.Fix.{Fix}
use Rattle.sg_bounds.specs.Regions.{prefix}
use Rattle.sg_bounds.specs.Leaves.{fact_bound}
use Rattle.sg_search.specs.Searches.{Task, Search, taken_count, worked_count, ArePlaced, IsPartOf, IsCapNode, IsKnown}
use Rattle.sg_search.specs.Bounding.{caps_of, exceeds, fact_of, is_over, is_split, lower, own_bound}
use Rattle.sg_search.specs.Changes.{MaySplit}
use Rattle.sg_search.specs.Events.{AreChoices}
use Rattle.sg_search.specs.Results.{IsResult}
use Rattle.sg_search.proofs.Opened.{fact-worked}
use Rattle.sg_search.proofs.Poorer.{inherited-positive}
use Rattle.sg_search.proofs.Reported.{are_facts}
use Rattle.sg_search.proofs.Listing.{either-in, in-keyed, keyed-in, none-in}
use Rattle.sg_lanes.specs.declared.ripe.Ripe.{Ripe}
use Rattle.sg_lanes.specs.Bounds.{Stands, StandsFor}
use Rattle.sg_lanes.specs.Choices.{is_over_by, ripe_nodes}
use Rattle.sg_lanes.specs.Frontiers.{IsRipe}
use Rattle.sg_lanes.specs.ProvedCaps.{only_worked}
use Rattle.sg_lanes.specs.Ripenings.{AreTopEntries, IsTopEntry}
use Rattle.sg_lanes.proofs.Fractions.{over-alike}
use Rattle.sg_lanes.proofs.Picked.{stands-some}
use Rattle.sg_lanes.proofs.Ripened.{all-from}

none-some : {X : Type 0} {a : X} → None ≡ Some a → ⊥
none-some h = cc

-- where a prefix has a bound, it was worked
own-worked : (g : Game) (s : Search) (acts : List ℕ) (x : Fraction) → own_bound g s acts ≡ Some x → 1 ≤ worked_count s (prefix acts)
own-worked g s acts x = by (fact_of s.worked (prefix acts)) refl
  where
    by : (o : Option Fact) → fact_of s.worked (prefix acts) ≡ o → option_and_then (fact_bound g (caps_of g s) (length acts)) o ≡ Some x → 1 ≤ worked_count s (prefix acts)
    by None e bound = absurd (none-some bound)
    by (Some f) e bound = fact-worked s.worked (prefix acts) f e

module _ (p : Task) (t : Search) (peopled : IsPeopled p.game) (results : All (IsResult p.game) t.worked) (placed : ArePlaced p.game t) (root : t.splits ≡ [] ∷ []) (more : 1 < length p.game.types)
    (value : Fraction) (stands : Stands value (lower p t)) (positive : pos 1 ≤ℤ (lower p t).den) (rs : List Ripe) (tops : AreTopEntries p.game (only_worked t.worked) value (action_count p.game 1) rs) where
  test-is : (a : ℕ) (o : Option Fraction) → StandsFor o (own_bound p.game t (a ∷ [])) → is_over_by o value ≡ is_over p t (own_bound p.game t (a ∷ []))
  test-is a o k = over-alike p t o (own_bound p.game t (a ∷ [])) value k stands (λ x e. inherited-positive p.game peopled t (are_facts p.game t results) (a ∷ []) x e) positive

  top-ripe : (r : Ripe) (a : ℕ) → IsTopEntry p.game (only_worked t.worked) value a (Some r) → IsRipe p t r.node
  top-ripe r a top =
      let bound = stands-some r.bound (own_bound p.game t (a ∷ [])) top.1 in (
        a ∷ [],
        top.0,
        record {
          some = λ e. cc;
          worked = own-worked p.game t (a ∷ []) bound.0 bound.1;
          unsplit = subst (λ (splits : List (List ℕ)). is_split splits (a ∷ []) ≡ false) (sym root) refl;
          short = more;
          over = sym (test-is a (Some r.bound) top.1) ∙ top.2;
        },
      )

  -- a prefix that was worked fixes one type
  one-action : (acts : List ℕ) → 1 ≤ worked_count t (prefix acts) → (a : ℕ) × (1 ≤ a) × (a ≤ action_count p.game 1) × (acts ≡ a ∷ [])
  one-action acts worked = by (placed.known (prefix acts) (omega (arith, worked)))
    where
      root-part : (b : List ℕ) → b ≡ [] → IsPartOf p.game b (prefix acts) → (a : ℕ) × (1 ≤ a) × (a ≤ action_count p.game 1) × (acts ≡ a ∷ [])
      root-part b e part =
          let k : IsPartOf p.game [] (prefix acts) = subst (λ (xs : List ℕ). IsPartOf p.game xs (prefix acts)) e part in
          (k.act, k.from_one, k.in_range, ap (λ (x : Fix). x.acts) k.node_is)

      by : IsKnown p.game t (prefix acts) → (a : ℕ) × (1 ≤ a) × (a ≤ action_count p.game 1) × (acts ≡ a ∷ [])
      by (inl part) =
          let at = subst (λ (splits : List (List ℕ)). Contains splits part.0) root part.1 in
          root-part part.0 (sym (⊎_elim (λ e. e) (λ later. absurd (none-in later)) (either-in [] [] part.0 at))) part.2
      by (inr lone) =
          let e : 1 ≡ lone.l = ap (λ (x : Fix). x.first) lone.node_is in
          let two = lone.from_two in
          absurd (omega (arith, e, two))

  ripe-top : (x : Fix) → IsRipe p t x → Contains (ripe_nodes rs) x
  ripe-top x (acts, is, may) =
      let k = one-action acts may.worked in
      by k.0 k.3 (tops.all k.0 k.1 k.2)
    where
      by : (a : ℕ) → acts ≡ a ∷ [] → IsTopEntry p.game (only_worked t.worked) value a None ⊎ ((r : Ripe) × Contains rs r × IsTopEntry p.game (only_worked t.worked) value a (Some r)) → Contains (ripe_nodes rs) x
      by a e (inl out) =
          let over = subst (λ (xs : List ℕ). is_over p t (own_bound p.game t xs) ≡ true) e may.over in
          absurd (true≢false (sym over ∙ sym (test-is a out.0 out.1) ∙ out.2))
      by a e (inr (r, at, top)) = subst (Contains (ripe_nodes rs)) (top.0 ∙ ap prefix (sym e) ∙ sym is) (in-keyed (λ (y : Ripe). y.node) rs r at)

  pub tops-are : AreChoices (IsRipe p t) (ripe_nodes rs)
  tops-are = record {
    in_order = tops.in_order;
    each = λ x. (
      λ at. let r = keyed-in (λ (y : Ripe). y.node) rs x at in let k = tops.each r.0 r.1 in subst (IsRipe p t) r.2 (top-ripe r.0 k.0 k.3),
      λ ripe. ripe-top x ripe,
    );
  }

  pub tops-bounds : All (λ (r : Ripe). StandsFor (Some r.bound) (own_bound p.game t r.node.acts)) rs
  tops-bounds = all-from (λ (r : Ripe). StandsFor (Some r.bound) (own_bound p.game t r.node.acts)) rs
      (λ r at. let k = tops.each r at in subst (λ (xs : List ℕ). StandsFor (Some r.bound) (own_bound p.game t xs)) (sym (ap (λ (x : Fix). x.acts) k.3.0)) k.3.1)
