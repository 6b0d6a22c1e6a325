-- The nodes that may be chosen are those that are read off what the machine keeps.
use Rattle.std.proofs.Common.{◌≡◌, ◌≢◌, ◌⊎◌, ◌↔◌, ℕ, zero, suc, ◌+◌, ◌-◌, ◌*◌, ◌≤◌, ◌<◌, Bool, true, false, true≢false, cond, ◌&&◌, ◌||◌, List, [], ◌∷◌, ◌++◌, map, length, get_or, flat_map, sum_by, sym, ◌∙◌, ap, subst, refl, arith, Option, Some, None, inl, inr, ⊎_elim, Contains, All, length-append, append_assoc, append-nil}
use Rattle.std.specs.Prelude.{slice_get}
use Rattle.std.specs.List.{list_any}
use Rattle.std.specs.Ordering.{is_lt, nat_cmp}
use Rattle.std.specs.Cmp.Lexicographic.{slice_cmp}
use Rattle.std.proofs.Common.{ℤ, pos, ◌≤ℤ◌}
use Rattle.sg_lanes.proofs.Sifted.{cmp-less}
use Rattle.std.proofs.lemmas.Bool.{cases_Bool}
use Rattle.std.proofs.lemmas.List.{length-map}
use Rattle.std.proofs.lemmas.List.Elements.{Contains-append_left, Contains-append_right, Contains-push, Contains-push_cases, All-contains}
use Rattle.sg_model.specs.Sums.{numbers}
use Rattle.sg_model.specs.Games.{Game, action_count}
use Rattle.sg_frac.specs.Fractions.{Fraction}
use Rattle.sg_tree.specs.declared.fix.Fix.{Fix}
use Rattle.sg_bounds.specs.Regions.{alone, prefix}
use Rattle.sg_bounds.specs.Leaves.{root_bound}
use Rattle.sg_search.specs.Searches.{Task, Search, first_search, worked_count, stuck_count, taken_count, IsPartOf, IsCapNode, ArePlaced}
use Rattle.sg_search.specs.Bounding.{exceeds, incumbent, inherited, is_open, is_over, lower, own_bound}
use Rattle.sg_search.specs.Changes.{CapsAreDone, MaySplit, MayTake}
use Rattle.sg_search.specs.Events.{AreChoices, IsChoice, IsRank, MayBranch, MayChoose, comes_first}
use Rattle.sg_search.specs.TreeLaws.{AreFacts}
use Rattle.sg_search.proofs.Placed.{known_in_one_place, part-no_cap, part-one}
use Rattle.sg_search.proofs.Grown.{AreSplits, are_splits}
use Rattle.sg_search.proofs.Poorer.{inherited-positive, positive-value, taken_from_last_split}
use Rattle.sg_search.proofs.Reported.{are_facts, are_points, incumbent-first}
use Rattle.sg_search.proofs.Chosen.{choose-branch, choose-take}
use Rattle.sg_search.proofs.Listing.{choices-append, choices-none, choices-same, here-in, none-in}
use Rattle.sg_search.proofs.Opened.{open_where_prefix_waits}
use Rattle.sg_lanes.specs.declared.ripe.Ripe.{Ripe}
use Rattle.sg_lanes.specs.Bounds.{Stands, StandsFor}
use Rattle.sg_lanes.specs.Choices.{choice_list, is_open_by, is_over_by, is_some_list, open_parts, or_else, ripe_nodes, split_choices}
use Rattle.sg_lanes.specs.Frontiers.{Frontier, IsFrontier, IsRipe}
use Rattle.sg_lanes.proofs.Fractions.{over-alike}

-- a part comes before a cap node
part-before : (g : Game) (acts : List ℕ) (a b : Fix) → IsPartOf g acts a → IsCapNode g b → comes_first a b ≡ true
part-before g acts a b x y =
    let two = y.from_two in
    subst (λ (z : Fix). comes_first z b ≡ true) (sym x.node_is)
    (subst (λ (z : Fix). comes_first (prefix (acts ++ (x.act ∷ []))) z ≡ true) (sym y.node_is) (cmp-less 1 y.l (omega (arith, two)) (slice_cmp nat_cmp (acts ++ (x.act ∷ [])) (y.act ∷ []))))

module _ (p : Task) (s : Search) (f : Frontier) (h : IsFrontier p s f) where
  pub placed : ArePlaced p.game s
  placed = known_in_one_place p h.peopled h.changes s h.runs

  pub value-positive : pos 1 ≤ℤ (lower p s).den
  value-positive = positive-value p.game h.peopled (incumbent p s) (incumbent-first p s h.first h.results).commitment

  -- whether the waiting parts may be taken, as it is kept
  pub group-over : is_over_by f.group f.value ≡ is_over p s (inherited p.game s h.last)
  group-over = over-alike p s f.group (inherited p.game s h.last) f.value h.group h.value (inherited-positive p.game h.peopled s (are_facts p.game s h.results) h.last) value-positive

  pub last-in : Contains s.splits h.last
  last-in = subst (λ (l : List (List ℕ)). Contains l h.last) (sym h.splits) (Contains-push h.front h.last)

  -- exactly the parts that may be taken
  abbrev pub IsOpenPart : Fix → Type 0
  IsOpenPart x = (IsPartOf p.game h.last x × (taken_count s x ≡ 0)) × (is_over p s (inherited p.game s h.last) ≡ true)

  pub open-parts : AreChoices IsOpenPart (open_parts f.group f.value f.parts)
  open-parts = by (is_over_by f.group f.value) refl
    where
      by : (b : Bool) → is_over_by f.group f.value ≡ b → AreChoices IsOpenPart (cond b f.parts [])
      by true e = choices-same (λ x. IsPartOf p.game h.last x × (taken_count s x ≡ 0)) IsOpenPart f.parts (λ y. (λ k. (k, sym group-over ∙ e), λ k. k.0)) h.parts
      by false e = choices-none IsOpenPart (λ y k. true≢false (sym k.1 ∙ sym group-over ∙ e))

  abbrev pub IsLone : Fix → Type 0
  IsLone x = IsCapNode p.game x × (taken_count s x ≡ 0)

  pub takes : AreChoices (λ x. IsOpenPart x ⊎ IsLone x) (open_parts f.group f.value f.parts ++ f.lone)
  takes = choices-append IsOpenPart IsLone (open_parts f.group f.value f.parts) f.lone open-parts h.lone (λ a b x y. part-before p.game h.last a b x.0.0 y.0)

  -- these are the nodes that may be taken
  pub may-from : (x : Fix) → IsOpenPart x ⊎ IsLone x → MayTake p s x
  may-from x (inl k) = record { waits = (inl (h.last, last-in, k.0.0), k.0.1); worth = inl (h.last, k.0.0, k.1) }
  may-from x (inr k) = record { waits = (inr k.0, k.1); worth = inr k.0 }

  pub from-may : (x : Fix) → MayTake p s x → IsOpenPart x ⊎ IsLone x
  from-may x may = ⊎_elim
      (λ below. ⊎_elim
      (λ worth. inl (at-last below.0 below.1 below.2 (subst (λ (z : List ℕ). is_over p s (inherited p.game s z) ≡ true) (part-one p.game worth.0 below.0 x worth.1 below.2) worth.2)))
      (λ lone. absurd (part-no_cap p.game below.0 x below.2 lone))
      may.worth)
      (λ lone. inr (lone, may.waits.1))
      may.waits.0
    where
      at-last : (acts : List ℕ) → Contains s.splits acts → IsPartOf p.game acts x → is_over p s (inherited p.game s acts) ≡ true → IsOpenPart x
      at-last acts at of over = ⊎_elim
          (λ front. absurd (true≢false (sym over ∙ taken_from_last_split p h.peopled h.changes s h.runs (are_facts p.game s h.results) (are_points p s h.first.commitment h.results) h.front h.last h.splits acts x front of may.waits)))
          (λ e. ((subst (λ (z : List ℕ). IsPartOf p.game z x) (sym e) of, may.waits.1), subst (λ (z : List ℕ). is_over p s (inherited p.game s z) ≡ true) (sym e) over))
          (Contains-push_cases h.front h.last acts (subst (λ (l : List (List ℕ)). Contains l acts) h.splits at))

  pub takes-are : AreChoices (MayTake p s) (open_parts f.group f.value f.parts ++ f.lone)
  takes-are = choices-same (λ x. IsOpenPart x ⊎ IsLone x) (MayTake p s) (open_parts f.group f.value f.parts ++ f.lone) (λ y. (may-from y, from-may y)) takes

  -- no cap node waits or is held where none is undone
  done-from : f.undone ≡ [] → CapsAreDone p.game s
  done-from e node lone = more (worked_count s node + stuck_count s node) (λ z. none-in (subst (λ (xs : List Fix). Contains xs node) e ((h.undone.each node).1 (lone, z))))
    where
      more : (n : ℕ) → (n ≡ 0 → ⊥) → 1 ≤ n
      more zero q = absurd (q refl)
      more (suc n) q = omega arith

  not-done : (x : Fix) (xs : List Fix) → f.undone ≡ x ∷ xs → CapsAreDone p.game s → ⊥
  not-done x xs e done =
      let k = (h.undone.each x).0 (subst (λ (l : List Fix). Contains l x) (sym e) (here-in x xs)) in
      let q = done x k.0 in
      let z = k.1 in
      omega (arith, q, z)

  -- the choices
  pub choices-are : AreChoices (MayChoose p s) (choice_list f.group f.value f.parts f.lone f.undone f.ripe)
  choices-are = by (open_parts f.group f.value f.parts ++ f.lone) refl
    where
      none-from : open_parts f.group f.value f.parts ++ f.lone ≡ [] → (node : Fix) → ¬ (MayTake p s node)
      none-from e node may = none-in (subst (λ (xs : List Fix). Contains xs node) e ((takes-are.each node).1 may))

      split-by : (none : (node : Fix) → ¬ (MayTake p s node)) (us : List Fix) → f.undone ≡ us → AreChoices (MayChoose p s) (split_choices us f.ripe)
      split-by none [] e = choose-branch p s (ripe_nodes f.ripe) none (choices-same (IsRipe p s) (MayBranch p s) (ripe_nodes f.ripe) (λ y. (
        λ r. record { acts = r.0; node_is = r.1; nothing = none; caps = done-from e; split = r.2 },
        λ b. (b.acts, b.node_is, b.split),
      )) h.ripe)
      split-by none (x ∷ xs) e = choices-none (MayChoose p s) (λ y may. ⊎_elim (λ take. none y take) (λ b. not-done x xs e b.caps) may)

      by : (xs : List Fix) → open_parts f.group f.value f.parts ++ f.lone ≡ xs → AreChoices (MayChoose p s) (or_else xs (split_choices f.undone f.ripe))
      by [] e = split-by (none-from e) f.undone refl
      by (x ∷ xs) e = choose-take p s (x ∷ xs) (subst (AreChoices (MayTake p s)) e takes-are) x ((takes-are.each x).0 (subst (λ (l : List Fix). Contains l x) (sym e) (here-in x xs)))
