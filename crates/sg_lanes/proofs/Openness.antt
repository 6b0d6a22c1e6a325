-- Whether the upper bound is above the incumbent, where something may be chosen, is read off what the machine keeps.
use Rattle.std.proofs.Common.{◌≡◌, ◌≢◌, ◌⊎◌, ◌↔◌, ℕ, zero, suc, ◌+◌, ◌-◌, ◌≤◌, ◌<◌, Bool, true, false, true≢false, cond, ◌&&◌, ◌||◌, List, [], ◌∷◌, ◌++◌, map, length, sym, ◌∙◌, ap, subst, refl, arith, Option, Some, None, inl, inr, ⊎_elim, Contains, All, ℤ, pos, ◌≤ℤ◌}
use Rattle.std.specs.List.{list_any}
use Rattle.std.proofs.lemmas.Bool.{cases_Bool, and_parts, and_from}
use Rattle.sg_model.specs.Sums.{numbers, numbers_from}
use Rattle.sg_model.specs.Games.{Game, action_count}
use Rattle.sg_frac.specs.Fractions.{Fraction}
use Rattle.sg_tree.specs.declared.fix.Fix.{Fix}
use Rattle.sg_tree.specs.declared.fact.Fact.{Fact}
use Rattle.sg_bounds.specs.Regions.{prefix}
use Rattle.sg_bounds.specs.Leaves.{base_bound, root_bound}
use Rattle.sg_search.specs.Searches.{Task, Search, worked_count, stuck_count, taken_count, IsPartOf, IsCapNode}
use Rattle.sg_search.specs.Bounding.{caps_of, exceeds, fact_of, inherited, is_open, is_over, is_split, lower, own_bound}
use Rattle.sg_search.specs.Changes.{CapsAreDone, MaySplit, MayTake}
use Rattle.sg_search.specs.Events.{AreChoices, MayBranch, MayChoose}
use Rattle.sg_search.proofs.Grown.{AreSplits, are_splits}
use Rattle.sg_search.proofs.Levelled.{split_when_caps_are_done}
use Rattle.sg_search.proofs.Poorer.{inherited-positive}
use Rattle.sg_search.proofs.Reported.{are_facts}
use Rattle.sg_search.proofs.Listing.{here-in, in-keyed, keyed-in, later-in, none-in}
use Rattle.sg_search.proofs.Opened.{fact-some, fact-worked, open-one, open-part, open_where_prefix_waits, part_bound}
use Rattle.sg_model.proofs.Numbers.{All-numbers_from}
use Rattle.std.proofs.lemmas.List.Elements.{All-contains}
use Rattle.sg_lanes.specs.declared.ripe.Ripe.{Ripe}
use Rattle.sg_lanes.specs.Bounds.{Stands}
use Rattle.sg_lanes.specs.Choices.{is_open_by, is_some_list, open_parts, ripe_nodes}
use Rattle.sg_lanes.specs.Frontiers.{Frontier, IsFrontier, IsRipe}
use Rattle.sg_lanes.proofs.Fractions.{exceeds-alike}
use Rattle.sg_lanes.proofs.Chosen.{from-may, open-parts, placed, value-positive}

number-in : (a m t : ℕ) → Contains (numbers_from a m) t → (a ≤ t) × (t < a + m)
number-in a m t at = All-contains (λ k. (a ≤ k) × (k < a + m)) (numbers_from a m) t (All-numbers_from (λ k. (a ≤ k) × (k < a + m)) a m (λ k low high. (low, high))) at

some-in : {X : Type 0} (xs : List X) → is_some_list xs ≡ true → (x : X) × Contains xs x
some-in [] e = absurd (true≢false (sym e))
some-in (x ∷ xs) e = (x, here-in x xs)

in-some : {X : Type 0} (xs : List X) (x : X) → Contains xs x → is_some_list xs ≡ true
in-some [] x at = absurd (none-in at)
in-some (y ∷ ys) x at = refl

or-left : (a b : Bool) → a ≡ true → (a || b) ≡ true
or-left true b e = refl
or-left false b e = absurd (true≢false (sym e))

or-right : (a b : Bool) → b ≡ true → (a || b) ≡ true
or-right true b e = refl
or-right false b e = e

or-cases : (a b : Bool) → (a || b) ≡ true → (a ≡ true) ⊎ (b ≡ true)
or-cases true b e = inl refl
or-cases false b e = inr e

any-some : {X : Type 0} (q : X → Bool) (xs : List X) → list_any q xs ≡ true → (x : X) × Contains xs x × (q x ≡ true)
any-some q [] e = absurd (true≢false (sym e))
any-some q (x ∷ xs) e = ⊎_elim
    (λ yes. (x, here-in x xs, yes))
    (λ more. let r = any-some q xs more in (r.0, later-in x xs r.0 r.1, r.2))
    (or-cases (q x) (list_any q xs) e)

both : (a b : Bool) → (a ≡ true → b ≡ true) → (b ≡ true → a ≡ true) → a ≡ b
both true b f h = sym (f refl)
both false true f h = h refl
both false false f h = refl

zero-or-more : (n : ℕ) → (n ≡ 0) ⊎ (1 ≤ n)
zero-or-more zero = inl refl
zero-or-more (suc n) = inr (omega arith)

module _ (p : Task) (s : Search) (f : Frontier) (h : IsFrontier p s f) (root : Fraction) (is_root : Stands root (root_bound p.game)) where
  splits : AreSplits p s
  splits = are_splits p h.peopled h.changes s h.runs

  root-over : exceeds root f.value ≡ is_over p s (inherited p.game s [])
  root-over = exceeds-alike root (root_bound p.game) f.value (lower p s) is_root h.value (inherited-positive p.game h.peopled s (are_facts p.game s h.results) [] (root_bound p.game) refl) (value-positive p s f h)

  -- a prefix that may be split is kept
  ripe-some : (acts : List ℕ) → MaySplit p s acts → is_some_list f.ripe ≡ true
  ripe-some acts may =
      let at = (h.ripe.each (prefix acts)).1 (acts, refl, may) in
      let r = keyed-in (λ (x : Ripe). x.node) f.ripe (prefix acts) at in
      in-some f.ripe r.0 r.1

  pub open-from : is_open_by root f.group f.value f.parts f.tops f.ripe ≡ true → is_open p s ≡ true
  open-from e = ⊎_elim
      (λ parts.
      let x = some-in (open_parts f.group f.value f.parts) parts in
      let k = ((open-parts p s f h).each x.0).0 x.1 in
      (open_where_prefix_waits p h.peopled h.changes s h.runs).0 h.last x.0 k.0.0 (may-part x.0 k))
      (λ rest. ⊎_elim
      (λ ripe.
      let r = some-in f.ripe ripe in
      let k = (h.ripe.each r.0.node).0 (in-keyed (λ (x : Ripe). x.node) f.ripe r.0 r.1) in
      (open_where_prefix_waits p h.peopled h.changes s h.runs).1 k.0 k.2)
      (λ tops.
      let t = and_parts (is_some_list f.tops) (exceeds root f.value) tops in
      let x = some-in f.tops t.0 in
      let k = (h.tops.each x.0).0 x.1 in
      open-part p s (placed p s f h) splits h.peopled.types [] x.0 splits.root k.0 k.1 (sym root-over ∙ t.1))
      (or-cases (is_some_list f.ripe) (is_some_list f.tops && exceeds root f.value) rest))
      (or-cases (is_some_list (open_parts f.group f.value f.parts)) (is_some_list f.ripe || (is_some_list f.tops && exceeds root f.value)) e)
    where
      may-part : (x : Fix) → (IsPartOf p.game h.last x × (taken_count s x ≡ 0)) × (is_over p s (inherited p.game s h.last) ≡ true) → MayTake p s x
      may-part x k = Rattle.sg_lanes.proofs.Chosen.may-from p s f h x (inl k)

  -- one of the parts of the root is open, while the root alone is split
  from-parts : 2 ≤ length p.game.types → s.splits ≡ [] ∷ [] → is_open p s ≡ true → (is_some_list f.ripe || (is_some_list f.tops && exceeds root f.value)) ≡ true
  from-parts several one shown =
      let any = sym (open-one p s (placed p s f h) splits h.peopled.types one) ∙ shown in
      let r = any-some (λ a. is_over p s (part_bound p.game s a)) (numbers (action_count p.game 1)) any in
      by r.0 (number-in 1 (action_count p.game 1) r.0 r.1) (fact_of s.worked (prefix (r.0 ∷ []))) refl r.2
    where
      by : (a : ℕ) → (1 ≤ a) × (a < 1 + action_count p.game 1) → (o : Option Fact) → fact_of s.worked (prefix (a ∷ [])) ≡ o → is_over p s (base_bound p.game (caps_of p.game s) 1 (Some (root_bound p.game)) (fact_of s.worked (prefix (a ∷ [])))) ≡ true
          → (is_some_list f.ripe || (is_some_list f.tops && exceeds root f.value)) ≡ true
      by a range None e over =
          let low = range.0 in
          let high = range.1 in
          let unworked : worked_count s (prefix (a ∷ [])) ≡ 0 = ⊎_elim (λ z. z) (λ more. absurd (none-some (sym e ∙ (fact-some s.worked (prefix (a ∷ [])) more).1))) (zero-or-more (worked_count s (prefix (a ∷ [])))) in
          let at = (h.tops.each (prefix (a ∷ []))).1 (record { act = a; from_one = low; in_range = omega (arith, high); node_is = refl }, unworked) in
          let over_root : is_over p s (Some (root_bound p.game)) ≡ true = subst (λ (o : Option Fact). is_over p s (base_bound p.game (caps_of p.game s) 1 (Some (root_bound p.game)) o) ≡ true) e over in
          or-right (is_some_list f.ripe) (is_some_list f.tops && exceeds root f.value) (and_from (is_some_list f.tops) (exceeds root f.value) (in-some f.tops (prefix (a ∷ [])) at) (root-over ∙ over_root))
        where
          none-some : {x : Fact} → None ≡ Some x → ⊥
          none-some e = cc
      by a range (Some fact) e over =
          let own : is_over p s (own_bound p.game s (a ∷ [])) ≡ true =
          subst (λ (o : Option Fact). is_over p s (Rattle.std.specs.Prelude.option_and_then (Rattle.sg_bounds.specs.Leaves.fact_bound p.game (caps_of p.game s) 1) o) ≡ true) (sym e)
          (subst (λ (o : Option Fact). is_over p s (base_bound p.game (caps_of p.game s) 1 (Some (root_bound p.game)) o) ≡ true) e over) in
          or-left (is_some_list f.ripe) (is_some_list f.tops && exceeds root f.value) (ripe-some (a ∷ []) (record {
            some = λ q. cc;
            worked = fact-worked s.worked (prefix (a ∷ [])) fact e;
            unsplit = ap (λ (l : List (List ℕ)). is_split l (a ∷ [])) one;
            short = omega (arith, several);
            over = own;
          }))

  to-open : (node : Fix) → MayChoose p s node → is_open p s ≡ true → is_open_by root f.group f.value f.parts f.tops f.ripe ≡ true
  to-open node (inr b) shown = or-right (is_some_list (open_parts f.group f.value f.parts)) (is_some_list f.ripe || (is_some_list f.tops && exceeds root f.value)) (or-left (is_some_list f.ripe) (is_some_list f.tops && exceeds root f.value) (ripe-some b.acts b.split))
  to-open node (inl take) shown = ⊎_elim
      (λ part. or-left (is_some_list (open_parts f.group f.value f.parts)) (is_some_list f.ripe || (is_some_list f.tops && exceeds root f.value)) (in-some (open_parts f.group f.value f.parts) node (((open-parts p s f h).each node).1 part)))
      (λ lone. or-right (is_some_list (open_parts f.group f.value f.parts)) (is_some_list f.ripe || (is_some_list f.tops && exceeds root f.value)) (⊎_elim
      (λ one. let two = lone.0.from_two in let high = lone.0.type_in_range in from-parts (omega (arith, two, high)) one shown)
      (λ done. absurd (let q = done node lone.0 in let z = lone.1 in omega (arith, q, z)))
      (split_when_caps_are_done p h.peopled h.changes s h.runs)))
      (from-may p s f h node take)

  pub open-is : (node : Fix) → MayChoose p s node → is_open_by root f.group f.value f.parts f.tops f.ripe ≡ is_open p s
  open-is node may = both (is_open_by root f.group f.value f.parts f.tops f.ripe) (is_open p s) open-from (to-open node may)
