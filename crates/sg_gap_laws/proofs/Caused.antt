-- The cause of a gap is so, and which causes never come.
use Rattle.std.proofs.Common.{◌≡◌, ◌⊎◌, ℕ, ◌+◌, ◌-◌, ◌≤◌, ◌<◌, true, false, true≢false, List, [], ◌∷◌, ◌++◌, length, get_or, flat_map, sum_by, count_by, Option, Some, None, sym, ◌∙◌, ap, subst, refl, arith, inl, inr, ⊎_elim, Contains}
use Rattle.std.specs.List.{All}
use Rattle.std.proofs.lemmas.List.Elements.{All-contains, All-map, Contains-get_or}
use Rattle.sg_frac.specs.Fractions.{Fraction}
use Rattle.sg_model.specs.Sums.{numbers_from}
use Rattle.sg_model.specs.Games.{Game, action_count}
use Rattle.sg_model.proofs.Numbers.{All-numbers_from}
use Rattle.sg_tree.specs.declared.fact.Fact.{Fact}
use Rattle.sg_tree.specs.declared.fix.Fix.{Fix}
use Rattle.sg_tree.specs.declared.report.Cap.{Cap}
use Rattle.sg_tree.specs.declared.report.Cause.{Cause}
use Rattle.sg_tree.specs.declared.report.Cause.TheVariants as cause
use Rattle.sg_tree.specs.declared.report.Ending.TheVariants.{Optimal, Gap}
use Rattle.sg_tree.specs.declared.report.Report.{Report}
use Rattle.sg_tree.specs.declared.worked.Worked.{Worked}
use Rattle.sg_bounds.specs.Accepted.{is_optimal}
use Rattle.sg_bounds.specs.Caps.{cap_of}
use Rattle.sg_bounds.specs.Leaves.{root_bound}
use Rattle.sg_bounds.specs.Regions.{IsNode, alone, prefix}
use Rattle.sg_bounds.specs.Trees.{Node, node_of}
use Rattle.sg_search.specs.declared.held.Stuck.{Stuck}
use Rattle.sg_search.specs.Searches.{Task, Search, same, stuck_count, worked_count, IsKnown}
use Rattle.sg_search.specs.Bounding.{cap_at, cap_facts, caps_of, fact_of, is_over, lower}
use Rattle.sg_search.specs.EndLaws.{IsBarred, IsClosed}
use Rattle.sg_search.specs.ReportLaws.{IsReportOf}
use Rattle.sg_search.specs.Results.{IsPointOf}
use Rattle.sg_search.proofs.Capped.{cap-is}
use Rattle.sg_search.proofs.Grown.{worked-parent, zero-or-more}
use Rattle.sg_search.proofs.Listing.{here-in}
use Rattle.sg_search.proofs.Opened.{fact-some}
use Rattle.sg_search.proofs.Ranges.{fact-source}
use Rattle.sg_programs.specs.CauseRows.{AreLeavesBarred, AreNodesSpent, HasParent, IsCapBarred, IsFinalFact, IsGapCause, IsOpenAt, IsOverValue, IsReportBarred, IsStuckUnder, NodeCause, SpendsNodes, StaysUnproved, spare_of, stated_facts, tree_facts}
use Rattle.sg_programs.specs.Enough.{node_budget}
use Rattle.sg_programs.specs.NodeTests.{ClosesNode, Method, StopsNode}
use Rattle.sg_programs.proofs.NodeEnds.{stop_is_cause}
use Rattle.sg_gap_laws.specs.Ends.{HasEnded, IsEndReport, cause_due, stuck_or_spent}
use Rattle.sg_gap_laws.specs.GapLaws.{GapIsCaused}
use Rattle.sg_gap_laws.proofs.Barred.{tree-barred, tree-closed}
use Rattle.sg_gap_laws.proofs.Compared.{above-same}
use Rattle.sg_gap_laws.proofs.Facts.{Stated, node_in}
use Rattle.sg_gap_laws.proofs.Known.{found-in, stuck-is, stuck-nodes, worked-is}
use Rattle.sg_gap_laws.proofs.Open.{IsPlainCap, IsProvedCap, cap-cases, plain-unworked, tree-open, unworked-plain}
use Rattle.sg_gap_laws.proofs.Reached.{closed-optimal, ended, facts, is_peopled, lower-positive, placed, results, sound, splits, value-positive, value-same}
use Rattle.sg_gap_laws.proofs.Short.{full-low, short}
use Rattle.sg_gap_laws.proofs.Tallied.{cap_part, facts_of, few, near, stated-worked}

-- ---- the cause that is due

-- that nodes are spent, where nothing is stuck, or that of a stuck node
abbrev pub Due : Task → Search → Cause → Type 0
Due p t why = ((t.stuck ≡ []) × (why ≡ cause.Nodes p.nodes)) ⊎ ((x : Stuck) × Contains t.stuck x × (why ≡ x.cause))

pub due : (p : Task) (t : Search) → Due p t (cause_due p t)
due p t = by t.stuck refl
  where
    by : (xs : List Stuck) → t.stuck ≡ xs → Due p t (stuck_or_spent p.nodes xs)
    by [] e = inl (e, refl)
    by (x ∷ xs) e = inr (x, subst (λ (l : List Stuck). Contains l x) (sym e) (here-in x xs), refl)

one_cause : (a b : Cause) → Gap a ≡ Gap b → a ≡ b
one_cause a b e = cc

not_optimal : (a : Cause) → Gap a ≡ Optimal → ⊥
not_optimal a e = cc

-- a report that states a cause states the one that is due
pub stated_due : (p : Task) (t : Search) (r : Report) → IsEndReport p t r → (why : Cause) → r.ending ≡ Gap why → why ≡ cause_due p t
stated_due p t r end why e = ⊎_elim
    (λ optimal. absurd (not_optimal why (sym e ∙ optimal)))
    (λ gap. one_cause why (cause_due p t) (sym e ∙ gap))
    end.verdict

pub is_gap : (r : Report) (why : Cause) → r.ending ≡ Gap why → is_optimal r.ending ≡ false
is_gap r why e = ap is_optimal e

module _ (m : Method) (p : Task) (t : Search) (h : HasEnded p.game m p t) where
  abbrev g : Game
  g = p.game

  -- ---- stuck nodes

  pub stuck-node : (x : Stuck) → Contains t.stuck x → IsNode g x.node
  stuck-node x at = All-contains (λ (y : Stuck). IsNode g y.node) t.stuck x (stuck-nodes p t (placed m p t h) (splits m p t h)) at

  pub stops-node : (x : Stuck) → Contains t.stuck x → StopsNode g m x.node x.cause
  stops-node x at = All-contains (λ (y : Stuck). StopsNode g m y.node y.cause) t.stuck x h.stops at

  -- each says why
  pub says : (x : Stuck) → Contains t.stuck x → NodeCause g m x.node x.cause
  says x at = let node = stuck-node x at in stop_is_cause g h.game h.unscaled x.node node.is_fix m (h.methods x.node node) x.cause (stops-node x at)

  is_stuck : (node : Fix) → 1 ≤ stuck_count t node → IsStuckUnder g m node
  is_stuck node h1 = let x = found-in (λ (y : Stuck). y.node) node t.stuck h1 in (x.0.cause, subst (λ (y : Fix). NodeCause g m y x.0.cause) x.2 (says x.0 x.1))

  stuck-counted : (x : Stuck) → Contains t.stuck x → 1 ≤ stuck_count t x.node
  stuck-counted x at = let lt = at.1 in subst (λ (y : Stuck). 1 ≤ stuck_count t y.node) at.2 (stuck-is p t (placed m p t h) (splits m p t h) at.0 x lt)

  stuck-known : (x : Stuck) → Contains t.stuck x → IsKnown g t x.node
  stuck-known x at = let c = stuck-counted x at in (placed m p t h).known x.node (omega (arith, c))

  stuck-unworked : (x : Stuck) → Contains t.stuck x → worked_count t x.node ≡ 0
  stuck-unworked x at = let c = stuck-counted x at in let o = (placed m p t h).once x.node in omega (arith, c, o)

  -- where nothing is stuck, an end at which all that is open is stuck has bounds that meet
  pub nothing-open : t.stuck ≡ [] → IsBarred p t → IsClosed p t
  nothing-open e barred = tree-closed p t (placed m p t h) (splits m p t h)
      (λ acts node at of over fresh.
      let c = barred.parts acts node at of over fresh in
      let z : stuck_count t node ≡ 0 = ap (λ (xs : List Stuck). count_by (λ (v : Stuck). same node v.node) xs) e in
      omega (arith, c, z))
      barred.splits (full-low m p t h) (is_peopled m p t h).types

  module _ (r : Report) (of : IsReportOf p t r) where
    -- ---- what stays unproved

    stays : (x : Stuck) → Contains t.stuck x → StaysUnproved g r x.node
    stays x at = (stuck-node x at, by (stuck-known x at))
      where
        fresh : worked_count t x.node ≡ 0
        fresh = stuck-unworked x at

        by : IsKnown g t x.node
            → ((acts : List ℕ) × ((x.node ≡ prefix acts) × IsOpenAt (node_of r.tree) acts)) ⊎ ((l : ℕ) × ((a : ℕ) × ((2 ≤ l) × (x.node ≡ alone l a) × ((cap_of r.caps l).proof ≡ []))))
        by (inl below) =
            let part = below.2 in
            let acts : List ℕ = below.0 ++ (part.act ∷ []) in
            inl (
              acts,
              (
                part.node_is,
                subst (λ (n : Node). IsOpenAt n acts) (sym of.tree)
                    (tree-open p t (placed m p t h) (splits m p t h) below.0 below.1 part.act part.from_one part.in_range (ap (worked_count t) (sym part.node_is) ∙ fresh)),
              ),
            )
        by (inr lone) = inr (
          lone.l,
          (
            lone.act,
            (
              lone.from_two,
              lone.node_is,
              ap (λ (cs : List Cap). (cap_of cs lone.l).proof) of.caps ∙ ap (λ (c : Cap). c.proof) (cap-is g t lone.l lone.from_two lone.type_in_range)
                  ∙ unworked-plain g t lone.l lone.act lone.from_one lone.in_range (ap (worked_count t) (sym lone.node_is) ∙ fresh),
            ),
          ),
        )

    -- ---- what is open is stuck

    over-is : (o : Option Fraction) → IsOverValue r.value o → is_over p t o ≡ true
    over-is None over = absurd over
    over-is (Some b) over = above-same b r.value (lower p t) (value-positive m p t h r of) (lower-positive m p t h) (sym (value-same m p t h r of)) over

    cap-barred : (barred : IsBarred p t) (l : ℕ) → 2 ≤ l → l < 2 + (length g.types - 1) → IsCapBarred g m (cap_at g t l)
    cap-barred barred l low high = by (cap-cases g t l)
      where
        in_types : l ≤ length g.types
        in_types = let some = (is_peopled m p t h).types in omega (arith, some, high)

        by : IsProvedCap g t l ⊎ IsPlainCap g t l → IsCapBarred g m (cap_at g t l)
        by (inl c) = λ none.
            let some = (is_peopled m p t h).actions l (omega (arith, low)) in_types in
            let e : length (cap_facts g t l) ≡ 0 = ap length (sym (ap (λ (d : Cap). d.proof) c.is) ∙ none) in
            let long = c.long in
            absurd (omega (arith, some, e, long))
        by (inr c) = λ none. subst (λ (j : ℕ). (a : ℕ) × ((1 ≤ a) × (a ≤ action_count g j) × IsStuckUnder g m (alone j a))) (sym (ap (λ (d : Cap). d.l) c.is)) (at-type (plain-unworked g t l c))
          where
            at-type : (a : ℕ) × ((1 ≤ a) × (a ≤ action_count g l) × (fact_of t.worked (alone l a) ≡ None)) → (a : ℕ) × ((1 ≤ a) × (a ≤ action_count g l) × IsStuckUnder g m (alone l a))
            at-type q =
                let a : ℕ = q.0 in
                let fresh : worked_count t (alone l a) ≡ 0 = ⊎_elim (λ none2. none2) (λ more. let f = fact-some t.worked (alone l a) more in absurd (apart f.0 (sym q.1.2 ∙ f.1))) (zero-or-more (worked_count t (alone l a))) in
                let c2 = barred.caps (alone l a) (record { l = l; act = a; from_two = low; type_in_range = in_types; from_one = q.1.0; in_range = q.1.1; node_is = refl }) in
                (a, (q.1.0, q.1.1, is_stuck (alone l a) (omega (arith, c2, fresh))))
              where
                apart : (f : Fact) → None ≡ Some f → ⊥
                apart f e = cc

    report-barred : IsBarred p t → IsReportBarred g m r
    report-barred barred = record {
      leaves = subst (λ (cs : List Cap). AreLeavesBarred g m cs r.value (Some (root_bound g)) [] (node_of r.tree)) (sym of.caps)
          (subst (λ (n : Node). AreLeavesBarred g m (caps_of g t) r.value (Some (root_bound g)) [] n) (sym of.tree)
          (tree-barred p t (placed m p t h) (splits m p t h) m r.value over-is (λ acts node at part over fresh. is_stuck node (barred.parts acts node at part over fresh)) barred.splits
          (length g.types) [] (Some (root_bound g)) (omega arith) (inl (refl, refl))));
      caps = subst (All (IsCapBarred g m)) (sym of.caps) (All-map (IsCapBarred g m) (cap_at g t) (numbers_from 2 (length g.types - 1))
          (All-numbers_from (λ l. IsCapBarred g m (cap_at g t l)) 2 (length g.types - 1) (cap-barred barred)));
    }

    -- ---- nodes are spent

    stated-same : stated_facts r ≡ facts_of g t
    stated-same = ap (λ (cs : List Cap). flat_map cap_part cs ++ tree_facts [] (node_of r.tree)) of.caps ∙ ap (λ (n : Node). flat_map cap_part (caps_of g t) ++ tree_facts [] n) of.tree

    module _ (nodes : ℕ) (budget : p.nodes ≡ node_budget g nodes) where
      spends : length t.worked ≡ p.nodes → SpendsNodes g nodes r t.worked
      spends full =
          let is : length (stated_facts r) ≡ length (facts_of g t) = ap length stated-same in
          let a = few p t (placed m p t h) (splits m p t h) (sound m p t h).proved in
          let b = near p t (placed m p t h) (splits m p t h) (sound m p t h).proved in
          let c : sum_by (spare_of g) r.caps ≡ sum_by (spare_of g) (caps_of g t) = ap (sum_by (spare_of g)) of.caps in
          record {
            few = omega (arith, is, a, full, budget);
            near = omega (arith, is, b, c, full, budget);
            all = full ∙ budget;
            differ = (sound m p t h).differ;
            hold = facts m p t h;
          }

      parents : All (HasParent t.worked) t.worked
      parents i d lt = λ acts a some e.
          let w : Worked = get_or t.worked i d in
          let c = worked-is p t (placed m p t h) (splits m p t h) i d lt in
          let up = worked-parent p t (placed m p t h) acts a (subst (λ (y : Fix). 1 ≤ worked_count t y) e c) in
          ⊎_elim
          (λ none. absurd (some none))
          (λ more. let v = found-in (λ (u : Worked). u.fix) (prefix acts) t.worked more in (v.0, (v.1, v.2)))
          ((splits m p t h).worked acts up.0)

      final-fact : (x : Stated) → Contains (facts_of g t) x → IsFinalFact g x
      final-fact x at =
          let e = stated-worked p t (placed m p t h) (splits m p t h) (sound m p t h).proved x at in
          let src = fact-source (λ (w : Worked). ClosesNode g m w.fix w.fact w.point) t.worked h.closes (node_in x) x.1 e in
          let c = src.holds in
          subst (λ (f : Fact). IsFinalFact g (node_in x, f)) src.fact (subst (λ (y : Fix). IsFinalFact g (y, src.of.fact)) src.fix (c.moves, (c.state, (c.end.answers.run, c.end.answers.cause.final, c.fact_is))))

      final : All (IsFinalFact g) (stated_facts r)
      final = subst (All (IsFinalFact g)) (sym stated-same) (λ i d lt. final-fact (get_or (facts_of g t) i d) (Contains-get_or (facts_of g t) i d lt))

      points : All (λ (w : Worked). IsPointOf g w.fix w.fact w.point) t.worked
      points i d lt = (results m p t h i d lt).point

      -- ---- the cause

      module _ (gap : is_optimal r.ending ≡ false) where
        unmet : IsClosed p t → ⊥
        unmet closed = true≢false (sym (closed-optimal m p t h r of closed) ∙ gap)

        nodes-spent : t.stuck ≡ [] → AreNodesSpent g nodes r t.worked
        nodes-spent none =
            let full : length t.worked ≡ p.nodes = ⊎_elim
            (λ closed. absurd (unmet closed))
            (λ rest. ⊎_elim (λ all. all) (λ barred. absurd (unmet (nothing-open none barred))) rest)
            (ended m p t h).1 in
            let less = short m p t h unmet in
            record { spent = spends full; parents = parents; final = final; points = points; short = omega (arith, less, full, budget) }

        way : SpendsNodes g nodes r t.worked ⊎ IsReportBarred g m r
        way = ⊎_elim
            (λ closed. absurd (unmet closed))
            (λ rest. ⊎_elim (λ all. inl (spends all)) (λ barred. inr (report-barred barred)) rest)
            (ended m p t h).1

        of-node : (fix : Fix) (why : Cause) → NodeCause g m fix why → StaysUnproved g r fix → IsGapCause g m nodes r t.worked why
        of-node fix (cause.Nodes n) c s = absurd c
        of-node fix (cause.Pivots budget node) c s = (fix, (c, s, way))
        of-node fix (cause.Looks budget step node) c s = (fix, (c, s, way))
        of-node fix (cause.Wide name w step node) c s = (fix, (c, s, way))

        pub caused : (why : Cause) → Due p t why → IsGapCause g m nodes r t.worked why
        caused why (inl none) = subst (IsGapCause g m nodes r t.worked) (sym none.1) (budget, nodes-spent none.0)
        caused why (inr x) = subst (IsGapCause g m nodes r t.worked) (sym x.2) (of-node x.0.node x.0.cause (says x.0 x.1) (stays x.0 x.1))

pub gap_is_caused : GapIsCaused
gap_is_caused g m p t h =
    subst (λ (x : Game). HasEnded x m p t → (nodes : ℕ) → p.nodes ≡ node_budget x nodes → (r : Report) → IsEndReport p t r → (why : Cause) → r.ending ≡ Gap why → IsGapCause x m nodes r t.worked why) h.about
    (λ e nodes budget r end why is. caused m p t e r end.reads nodes budget (is_gap r why is) why (subst (Due p t) (sym (stated_due p t r end why is)) (due p t))) h
