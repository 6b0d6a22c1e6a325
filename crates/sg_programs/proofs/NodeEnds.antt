-- The end of a node's run: there is one, it closes or stops the node, and what that says.
use Rattle.std.proofs.Common.{◌≡◌, ℕ, zero, suc, ◌<◌, ◌≤◌, Bool, true, false, cond, List, [], ◌∷◌, ◌++◌, map, length, ◌⊎◌, inl, inr, sym, ◌∙◌, ap, subst, refl, arith, Option, Some, None, Result}
use Rattle.std.specs.List.{All}
use Rattle.std.specs.Prelude.{ℤ, pos, ◌<ℤ◌, ◌*ℤ◌, int_lt, nat_eq, IfSome, IsOk}
use Rattle.std.proofs.lemmas.Int.{ints}
use Rattle.std.proofs.lemmas.List.Elements.{All-cons, All-contains, All-nil}
use Rattle.std.proofs.lemmas.Bool.Decides.{nat_tests}
use Rattle.sg_num.specs.declared.step.Wide.{Wide}
use Rattle.sg_num.specs.Exact.{Fits}
use Rattle.sg_num.specs.Operations.{first_wide, is_formed, times, value_of_step}
use Rattle.sg_num.proofs.Firsts.{results-fit}
use Rattle.sg_rows.specs.Rows.{place}
use Rattle.sg_rows.proofs.Fitting.{back-fits, first_wide-append_fits, fits-formed, front-fits}
use Rattle.sg_model.specs.Games.{Game, prior_total}
use Rattle.sg_model.specs.Limits.{IsGame}
use Rattle.sg_model.specs.Sums.{numbers}
use Rattle.sg_model.specs.Commitments.{weight_total}
use Rattle.sg_commit.specs.Committed.{Committed}
use Rattle.sg_commit.specs.SumSteps.{worth_steps}
use Rattle.sg_commit.proofs.Fixed.{fixed}
use Rattle.sg_tree.specs.declared.fact.Fact.{Fact}
use Rattle.sg_tree.specs.declared.fix.Fix.{Fix}
use Rattle.sg_tree.specs.declared.report.Cause.{Cause}
use Rattle.sg_tree.specs.declared.report.Cause.TheVariants as cause
use Rattle.sg_bounds.specs.Facts.{HoldsFor}
use Rattle.sg_bounds.specs.Regions.{IsFix}
use Rattle.sg_bounds.specs.Sizes.{bound_sums, size_sums, value_sums}
use Rattle.sg_bounds.specs.SizeSteps.{bound_steps, size_steps}
use Rattle.sg_bounds.proofs.StepResults.{are_results}
use Rattle.sg_search.specs.Results.{IsNarrow, least_caps, most_caps}
use Rattle.sg_lp.specs.declared.column.Column.{Column}
use Rattle.sg_lp.specs.declared.column.Enter.{Enter}
use Rattle.sg_lp.specs.declared.column.Enter.TheVariants.{Slack, Col}
use Rattle.sg_lp.specs.Programs.{IsBounded, IsWithinLimits, Program}
use Rattle.sg_lp.specs.Pricing.{Answer, AnswerMeans, AreNone, Enters, IsFirst, clean, found, spent, wide}
use Rattle.sg_linear.specs.Sums.{dot}
use Rattle.sg_lp.specs.Moves.{IsEntering, IsFinal, IsLeaving, IsNext, NamedStep, Runs, first_shown, move_steps, under_name}
use Rattle.sg_lp.specs.States.{IsTableau, Tableau}
use Rattle.sg_lp.proofs.Leaving.{first-listed, leaving-one}
use Rattle.sg_lp.proofs.Runs.{run-one, run-state, short-run}
use Rattle.sg_simplex.specs.Turns.{EntersBy, HasCause, IsPriced, Pricer}
use Rattle.sg_simplex.specs.declared.turn.Turn.{Turn}
use Rattle.sg_simplex.specs.declared.turn.Turn.TheVariants as turn
use Rattle.sg_simplex.proofs.Causes.{cause_one, entering_of}
use Rattle.sg_programs.specs.CauseRows.{IsUnfinished, NodeCause, StateShows}
use Rattle.sg_programs.specs.NodeTests.{CauseSays, EndsNode, IsNodeEnd, Method, StopsNode, TurnAnswers}
use Rattle.sg_programs.specs.NodeLaws.{ClosedIsNotStopped, ClosedIsResult, IsMethodAt, NodeEndIsOne, NodeStopIsOne, PivotsAreFew, StopIsCause}
use Rattle.sg_programs.specs.Plays.{plays_program}
use Rattle.sg_programs.specs.Points.{point_steps}
use Rattle.sg_programs.specs.Shown.{CommitmentShows, EndShows, IsCommitmentAt, IsPointAt, PointShows, ShowsOr, both_bounds, commitment_values, fact_at, fact_values}
use Rattle.sg_programs.proofs.Multipliers.{final_is_fact}
use Rattle.sg_programs.proofs.Sized.{bounded, program_is_sized}
use Rattle.sg_programs.specs.Laws.{bounding}

three : (a b : ℕ) → (a < b) ⊎ ((a ≡ b) ⊎ (b < a))
three a b = grind arith

-- ---- named operations

shown-none : (n : ℕ) (steps : List Wide) (rest : List NamedStep) → first_shown (under_name n steps ++ rest) ≡ None → (first_wide steps ≡ None) × (first_shown rest ≡ None)
shown-none n [] rest e = (refl, e)
shown-none n (s ∷ ss) rest e = go (is_formed s) (shown-none n ss rest) e
  where
    go : (t : Bool) → (first_shown (under_name n ss ++ rest) ≡ None → (first_wide ss ≡ None) × (first_shown rest ≡ None)) → ◌≡◌ {A = Option NamedStep} (cond t (first_shown (under_name n ss ++ rest)) (Some (record { name = n; step = s }))) None
        → (cond t (first_wide ss) (Some s) ≡ None) × (first_shown rest ≡ None)
    go true rec q = rec q
    go false rec q = absurd (cc)

shown-alone : (n : ℕ) (steps : List Wide) → first_shown (under_name n steps) ≡ None → first_wide steps ≡ None
shown-alone n [] e = refl
shown-alone n (s ∷ ss) e = go (is_formed s) (shown-alone n ss) e
  where
    go : (t : Bool) → (first_shown (under_name n ss) ≡ None → first_wide ss ≡ None) → ◌≡◌ {A = Option NamedStep} (cond t (first_shown (under_name n ss)) (Some (record { name = n; step = s }))) None → cond t (first_wide ss) (Some s) ≡ None
    go true rec q = rec q
    go false rec q = absurd (cc)

append-stops : (xs ys : List NamedStep) (s : NamedStep) → first_shown xs ≡ Some s → first_shown (xs ++ ys) ≡ Some s
append-stops [] ys s e = absurd (cc)
append-stops (x ∷ xs) ys s e = go (is_formed x.step) (append-stops xs ys s) e
  where
    go : (t : Bool) → (first_shown xs ≡ Some s → first_shown (xs ++ ys) ≡ Some s) → ◌≡◌ {A = Option NamedStep} (cond t (first_shown xs) (Some x)) (Some s) → cond t (first_shown (xs ++ ys)) (Some x) ≡ Some s
    go true rec q = rec q
    go false rec q = q

append-goes : (xs ys : List NamedStep) → first_shown xs ≡ None → first_shown (xs ++ ys) ≡ first_shown ys
append-goes [] ys e = refl
append-goes (x ∷ xs) ys e = go (is_formed x.step) (append-goes xs ys) e
  where
    go : (t : Bool) → (first_shown xs ≡ None → first_shown (xs ++ ys) ≡ first_shown ys) → ◌≡◌ {A = Option NamedStep} (cond t (first_shown xs) (Some x)) None → cond t (first_shown (xs ++ ys)) (Some x) ≡ first_shown ys
    go true rec q = rec q
    go false rec q = absurd (cc)

results-of : (steps : List Wide) (sums : List ℤ) → sums ≡ map value_of_step steps → first_wide steps ≡ None → All Fits sums
results-of steps sums is e = subst (All Fits) (sym is) ((results-fit steps (pos 0)).1 (subst (λ (r : Result ℤ Wide). IsOk r) (sym (fits-formed steps (pos 0) e)) refl))

-- ---- what the end shows

-- where nothing is shown nothing is shown at first, nor later
or-none : (o : Option NamedStep) (Later : Type 0) → ShowsOr o Later None → (o ≡ None) × Later
or-none (Some s) Later h = absurd (cc)
or-none None Later h = (refl, h)

or-here : (o : Option NamedStep) (s : NamedStep) (Later : Type 0) → o ≡ Some s → ShowsOr o Later (Some s)
or-here o s Later e = subst (λ (x : Option NamedStep). ShowsOr x Later (Some s)) (sym e) refl

or-later : (o : Option NamedStep) (Later : Type 0) (shown : Option NamedStep) → o ≡ None → Later → ShowsOr o Later shown
or-later o Later shown e h = subst (λ (x : Option NamedStep). ShowsOr x Later shown) (sym e) h

-- a state has one commitment
one-commitment : (g : Game) (fix : Fix) (t : Tableau) (k other : Committed) → IsCommitmentAt g fix t k → IsCommitmentAt g fix t other → k ≡ other
one-commitment g fix t k other a b = fixed k other a.0 b.0 a.1.0 b.1.0 a.1.1 b.1.1 (λ play. sym (a.1.2 play) ∙ b.1.2 play)

commitment-one : (g : Game) (fix : Fix) (t : Tableau) (x y : Option NamedStep) → CommitmentShows g fix t x → CommitmentShows g fix t y → x ≡ y
commitment-one g fix t x y a b = sym a.1.1 ∙ ap (λ (k : Committed). first_shown (commitment_values g k.tickets)) (one-commitment g fix t a.0 b.0 a.1.0 b.1.0) ∙ b.1.1

or-one : (o : Option NamedStep) (First Second : Type 0) (x y : Option NamedStep) → (First → Second → x ≡ y) → ShowsOr o First x → ShowsOr o Second y → x ≡ y
or-one (Some s) First Second x y later a b = a ∙ sym b
or-one None First Second x y later a b = later a b

point-one : (g : Game) (fix : Fix) (t : Tableau) (x y : Option NamedStep) → PointShows g fix t x → PointShows g fix t y → x ≡ y
point-one g fix t x y (inl a) (inl b) = a.1 ∙ sym b.1
point-one g fix t x y (inl a) (inr b) = absurd (omega (arith, ints, a.0, b.0))
point-one g fix t x y (inr a) (inl b) = absurd (omega (arith, ints, a.0, b.0))
point-one g fix t x y (inr a) (inr b) = or-one (first_shown (under_name 5 (point_steps (plays_program g fix) t))) (CommitmentShows g fix t x) (CommitmentShows g fix t y) x y (commitment-one g fix t x y) a.1 b.1

-- the end shows one value
pub end-one : (g : Game) (fix : Fix) (t : Tableau) (x y : Option NamedStep) → EndShows g fix t x → EndShows g fix t y → x ≡ y
end-one g fix t x y a b = or-one (first_shown (fact_values g fix (fact_at g fix t))) (PointShows g fix t x) (PointShows g fix t y) x y (point-one g fix t x y) a b

-- ---- the numbers of a closed node

module _ (g : Game) (fix : Fix) (t : Tableau) (shows : EndShows g fix t None) where
  abbrev f : Fact
  f = fact_at g fix t

  parts : (first_shown (fact_values g fix f) ≡ None) × PointShows g fix t None
  parts = or-none (first_shown (fact_values g fix f)) (PointShows g fix t None) shows

  fact-fits : first_wide (size_steps g fix f ++ both_bounds g fix f) ≡ None
  fact-fits = shown-alone 4 (size_steps g fix f ++ both_bounds g fix f) parts.0

  bounds-fit : fix.first ≡ 1 → first_wide (bound_steps g (most_caps g) (length fix.acts) f ++ bound_steps g (least_caps g) (length fix.acts) f) ≡ None
  bounds-fit e =
      let both = back-fits (size_steps g fix f) (both_bounds g fix f) fact-fits in
      let same : nat_eq fix.first 1 ≡ true = grind (arith, nat_tests, e) in
      let is : both_bounds g fix f ≡ bound_steps g (most_caps g) (length fix.acts) f ++ bound_steps g (least_caps g) (length fix.acts) f = rw same refl in
      ap first_wide (sym is) ∙ both

  value-fits : (k : Committed) → pos 0 <ℤ place t.y 0 → IsCommitmentAt g fix t k → All Fits (value_sums g k.tickets)
  value-fits k above is = go parts.1
    where
      go : PointShows g fix t None → All Fits (value_sums g k.tickets)
      go (inl a) = absurd (omega (arith, ints, above, a.0))
      go (inr a) =
          let later = or-none (first_shown (under_name 5 (point_steps (plays_program g fix) t))) (CommitmentShows g fix t None) a.1 in
          let c = later.1 in
          let same : c.0 ≡ k = one-commitment g fix t c.0 k c.1.0 is in
          let none : first_shown (commitment_values g k.tickets) ≡ None = subst (λ (x : Committed). first_shown (commitment_values g x.tickets) ≡ None) same c.1.1 in
          let worth = worth_steps g k.tickets (pos 0) (numbers (length g.types)) in
          let last = times (weight_total k.tickets) (prior_total g) ∷ [] in
          let two = shown-none 6 worth (under_name 7 last) none in
          let all : first_wide (worth ++ last) ≡ None = first_wide-append_fits worth last two.0 ∙ shown-alone 7 last two.1 in
          results-of (worth ++ last) (value_sums g k.tickets) (are_results.values g k.tickets) all

  point-narrow : (point : Option Committed) → IsPointAt g fix t point → IfSome point (λ (k : Committed). All Fits (value_sums g k.tickets))
  point-narrow None is = tt
  point-narrow (Some k) is = value-fits k is.0 is.1

  pub narrow : (point : Option Committed) → IsPointAt g fix t point → IsNarrow g fix f point
  narrow point is = record {
    size = results-of (size_steps g fix f) (size_sums g fix f) (are_results.sizes g fix f) (front-fits (size_steps g fix f) (both_bounds g fix f) fact-fits);
    most = λ e. results-of (bound_steps g (most_caps g) (length fix.acts) f) (bound_sums g (most_caps g) (length fix.acts) f) (are_results.bounds g (most_caps g) (length fix.acts) f) (front-fits (bound_steps g (most_caps g) (length fix.acts) f) (bound_steps g (least_caps g) (length fix.acts) f) (bounds-fit e));
    least = λ e. results-of (bound_steps g (least_caps g) (length fix.acts) f) (bound_sums g (least_caps g) (length fix.acts) f) (are_results.bounds g (least_caps g) (length fix.acts) f) (back-fits (bound_steps g (most_caps g) (length fix.acts) f) (bound_steps g (least_caps g) (length fix.acts) f) (bounds-fit e));
    value = point-narrow point is;
  }

-- ---- runs and their ends

module _ (g : Game) (h : IsGame g) (unscaled : g.scale ≡ pos 0) (fix : Fix) (is_fix : IsFix g fix) (m : Method) where
  abbrev p : Program
  p = plays_program g fix

  abbrev price : Pricer
  price = m.answer fix

  sized : IsWithinLimits p
  sized = program_is_sized g h unscaled fix is_fix

  limited : IsBounded p
  limited = (bounding g fix, bounded g h fix is_fix)

  state-of : (k : ℕ) (t : Tableau) → Runs p k t → IsTableau p t
  state-of k t run = run-state p sized k t run

  pub one_end : (j k : ℕ) (t u : Tableau) (a b : Turn) → IsNodeEnd g m fix j t a → IsNodeEnd g m fix k u b → (j ≡ k) × (t ≡ u) × (a ≡ b)
  one_end j k t u a b x y = go (three j k)
    where
      go : (j < k) ⊎ ((j ≡ k) ⊎ (k < j)) → (j ≡ k) × (t ≡ u) × (a ≡ b)
      go (inl lt) = absurd (y.first j lt (t, (a, (x.other, x.answers))))
      go (inr (inr lt)) = absurd (x.first k lt (u, (b, (y.other, y.answers))))
      go (inr (inl e)) =
          let z : TurnAnswers g m fix j u b = subst (λ (n : ℕ). TurnAnswers g m fix n u b) (sym e) y.answers in
          let same : t ≡ u = run-one p sized j t u x.answers.run z.run in
          let other : HasCause p price t j m.pivots m.looks b = subst (λ (s : Tableau). HasCause p price s j m.pivots m.looks b) (sym same) z.cause in
          (e, same, cause_one p price t j m.pivots m.looks a b (state-of j t x.answers.run) x.answers.cause other)

  -- ---- causes

  pub not_final : (t : Tableau) → IsTableau p t → (s : Enter) → IsEntering p t s → IsFinal p t → ⊥
  not_final t st (Slack i) e f = let up = f.above i (let l = st.shaped.y_long in let w = e.0 in omega (arith, l, w)) in omega (arith, ints, up, e.1)
  not_final t st (Col c) e f = let at = first-listed p t.y t.rho p.columns c e.1 in All-contains (λ (d : Column). ¬ (Enters p t.y t.rho d)) p.columns c f.none at.0 at.1

  -- the state before, and that it moves
  pub earlier : (k j : ℕ) (t : Tableau) → Runs p k t → j < k → (s : Tableau) × (Runs p j s × ((u : Tableau) × IsNext p s u))
  earlier zero j t run lt = absurd (omega arith)
  earlier (suc k) j t run lt = go (λ less. earlier k j run.0 run.1 less) (three j k)
    where
      go : (j < k → (s : Tableau) × (Runs p j s × ((u : Tableau) × IsNext p s u))) → (j < k) ⊎ ((j ≡ k) ⊎ (k < j)) → (s : Tableau) × (Runs p j s × ((u : Tableau) × IsNext p s u))
      go before (inl less) = before less
      go before (inr (inl e)) = (run.0, (subst (λ (n : ℕ). Runs p n run.0) (sym e) run.1, (t, run.2)))
      go before (inr (inr more)) = absurd (omega (arith, lt, more))

  module _ (is : IsMethodAt g m fix) where
    -- a run that goes on where the moves are spent has ended there
    pub ends_spent : (j : ℕ) (s u : Tableau) → Runs p j s → IsNext p s u → m.pivots ≤ j → EndsNode g m fix j
    ends_spent j s u run next spent_all = by next.entering next.enters
      where
        st : IsTableau p s
        st = state-of j s run

        spend : (member : Enter) → EntersBy p price s m.looks member → EndsNode g m fix j
        spend member enters = (s, (turn.PivotsSpent, ((λ e. cc), record { run = run; cause = record { member = member; enters = enters; spent_all = spent_all } })))

        by : (member : Enter) → IsEntering p s member → EndsNode g m fix j
        by (Slack i) e = spend (Slack i) e
        by (Col c) e = priced (price s.y s.rho m.looks) refl (is.means s.y s.rho m.looks st.shaped.y_long)
          where
            priced : (a : Answer) → price s.y s.rho m.looks ≡ a → AnswerMeans p s.y s.rho (m.needed fix s.y s.rho) m.looks (price s.y s.rho m.looks) → EndsNode g m fix j
            priced (found d) q means = spend (Col d) ((e.0, subst (AnswerMeans p s.y s.rho (m.needed fix s.y s.rho) m.looks) q means), q)
            priced (clean n) q means =
                let none = (subst (AnswerMeans p s.y s.rho (m.needed fix s.y s.rho) m.looks) q means).0 in
                absurd (not_final s st (Col c) e (record { above = e.0; none = none }))
            priced spent q means = (s, (turn.LooksSpent, ((λ x. cc), record { run = run; cause = record { above = e.0; answers = q } })))
            priced (wide name w) q means = (s, (turn.Wide name w, ((λ x. cc), record { run = run; cause = inl (record { above = e.0; answers = q }) })))

    pivots-row : (k : ℕ) (t : Tableau) → IsNodeEnd g m fix k t turn.PivotsSpent → IsUnfinished g fix m.pivots
    pivots-row k t e = go (three k m.pivots)
      where
        go : (k < m.pivots) ⊎ ((k ≡ m.pivots) ⊎ (m.pivots < k)) → IsUnfinished g fix m.pivots
        go (inl less) = absurd (let s = e.answers.cause.spent_all in omega (arith, less, s))
        go (inr (inl same)) = (t, (subst (λ (n : ℕ). Runs p n t) same e.answers.run, not_final t (state-of k t e.answers.run) e.answers.cause.member (entering_of p price t m.looks e.answers.cause.member e.answers.cause.enters)))
        go (inr (inr more)) = let s = earlier k m.pivots t e.answers.run more in absurd (e.first m.pivots more (ends_spent m.pivots s.0 s.1.1.0 s.1.0 s.1.1.1 (omega arith)))

    -- the first column that enters, or none does
    first_or_none : (t : Tableau) (cs : List Column) → ((c : Column) × IsFirst p t.y t.rho cs c) ⊎ AreNone p t.y t.rho cs
    first_or_none t [] = inr (All-nil (λ (c : Column). ¬ (Enters p t.y t.rho c)))
    first_or_none t (c ∷ cs) = go (less_or (dot p.height (place t.y) (p.entry c)) (t.rho *ℤ p.cost c)) (first_or_none t cs)
      where
        less_or : (x z : ℤ) → (x <ℤ z) ⊎ (x <ℤ z → ⊥)
        less_or x z = decide (int_lt x z) refl
          where
            decide : (b : Bool) → int_lt x z ≡ b → (x <ℤ z) ⊎ (x <ℤ z → ⊥)
            decide true e = inl (grind (arith, ints, e))
            decide false e = inr (λ q. grind (arith, ints, e, q))

        go : Enters p t.y t.rho c ⊎ (Enters p t.y t.rho c → ⊥) → ((d : Column) × IsFirst p t.y t.rho cs d) ⊎ AreNone p t.y t.rho cs → ((d : Column) × IsFirst p t.y t.rho (c ∷ cs) d) ⊎ AreNone p t.y t.rho (c ∷ cs)
        go (inl enters) rest = inl (c, inl (refl, enters))
        go (inr stays) (inl d) = inl (d.0, inr (stays, d.1))
        go (inr stays) (inr none) = inr (All-cons (λ (d : Column). ¬ (Enters p t.y t.rho d)) c cs stays none)

    -- a value that pricing forms
    priced-row : (k : ℕ) (t : Tableau) (name : ℕ) (w : Wide) → Runs p k t → IsPriced price t m.looks (wide name w) → StateShows g m fix t (Some (record { name = name; step = w }))
    priced-row k t name w run q = go (first_or_none t p.columns)
      where
        st : IsTableau p t
        st = state-of k t run

        shown : first_shown (m.prices fix t) ≡ Some (record { name = name; step = w })
        shown = is.wide t m.looks name w q.answers

        go : ((c : Column) × IsFirst p t.y t.rho p.columns c) ⊎ AreNone p t.y t.rho p.columns → StateShows g m fix t (Some (record { name = name; step = w }))
        go (inl c) =
            let enters : IsEntering p t (Col c.0) = (q.above, c.1) in
            let r = leaving-one p t (Col c.0) limited st enters in
            inl (record { member = Col c.0; row = r.0; enters = enters; leaves = r.1; shows = append-stops (m.prices fix t) (move_steps p t (Col c.0) r.0) (record { name = name; step = w }) shown })
        go (inr none) = inr (record { above = q.above; none = none }, or-here (first_shown (m.prices fix t)) (record { name = name; step = w }) (EndShows g fix t (Some (record { name = name; step = w }))) shown)

    wide-row : (k : ℕ) (t : Tableau) (name : ℕ) (w : Wide) → IsNodeEnd g m fix k t (turn.Wide name w) → StateShows g m fix t (Some (record { name = name; step = w }))
    wide-row k t name w e = go e.answers.cause
      where
        go : HasCause p price t k m.pivots m.looks (turn.Wide name w) → StateShows g m fix t (Some (record { name = name; step = w }))
        go (inl q) = priced-row k t name w e.answers.run q
        go (inr q) = by q.member q.enters q.row q.leaves q.shown
          where
            by : (s : Enter) → EntersBy p price t m.looks s → (r : ℕ) → IsLeaving p t s r → first_shown (move_steps p t s r) ≡ Some (record { name = name; step = w }) → StateShows g m fix t (Some (record { name = name; step = w }))
            by (Slack i) enters r leaves shown = inl (record { member = Slack i; row = r; enters = enters; leaves = leaves; shows = shown })
            by (Col c) enters r leaves shown = inl (record { member = Col c; row = r; enters = enters.0; leaves = leaves; shows = append-goes (m.prices fix t) (move_steps p t (Col c) r) (is.found t m.looks c enters.1) ∙ shown })

    end-row : (k : ℕ) (t : Tableau) (s : NamedStep) → IsNodeEnd g m fix k t turn.Done → EndShows g fix t (Some s) → StateShows g m fix t (Some s)
    end-row k t s e shows =
        let done = e.answers.cause in
        inr (done.final, or-later (first_shown (m.prices fix t)) (EndShows g fix t (Some s)) (Some s) (is.clean t m.looks done.count done.priced.answers) shows)

    pub stop_means : (why : Cause) → StopsNode g m fix why → NodeCause g m fix why
    stop_means (cause.Nodes n) s = s.says
    stop_means (cause.Pivots budget node) s =
        let e = subst (IsNodeEnd g m fix s.moves s.state) s.says.0 s.end in
        (s.says.2, s.says.1, subst (IsUnfinished g fix) (sym s.says.1) (pivots-row s.moves s.state e))
    stop_means (cause.Looks budget step node) s =
        let e = subst (IsNodeEnd g m fix s.moves s.state) s.says.0 s.end in
        let c = e.answers.cause in
        let st = state-of s.moves s.state e.answers.run in
        let more = subst (AnswerMeans p s.state.y s.state.rho (m.needed fix s.state.y s.state.rho) m.looks) c.answers (is.means s.state.y s.state.rho m.looks st.shaped.y_long) in
        let few = is.few s.state.y s.state.rho in
        (s.says.3, s.says.1, (s.state, (subst (λ (n : ℕ). Runs p n s.state) (sym s.says.2) e.answers.run, c.above, (let b = s.says.1 in omega (arith, more, b)), (let b = s.says.1 in omega (arith, more, few, b)))))
    stop_means (cause.Wide name w step node) s = (s.says.2, (s.state, (subst (λ (n : ℕ). Runs p n s.state) (sym s.says.1) s.end.answers.run, go s.says.0)))
      where
        go : (s.answer ≡ turn.Wide name w) ⊎ ((s.answer ≡ turn.Done) × EndShows g fix s.state (Some (record { name = name; step = w }))) → StateShows g m fix s.state (Some (record { name = name; step = w }))
        go (inl e) = wide-row s.moves s.state name w (subst (IsNodeEnd g m fix s.moves s.state) e s.end)
        go (inr e) = end-row s.moves s.state (record { name = name; step = w }) (subst (IsNodeEnd g m fix s.moves s.state) e.0 s.end) e.1

pub node_end_is_one : NodeEndIsOne
node_end_is_one g h unscaled fix is_fix m j k t u a b x y = one_end g h unscaled fix is_fix m j k t u a b x y

pub stop_is_cause : StopIsCause
stop_is_cause g h unscaled fix is_fix m is why s = stop_means g h unscaled fix is_fix m is why s

pub closed_is_result : ClosedIsResult
closed_is_result g h unscaled fix node m fact point c =
    let st = run-state (plays_program g fix) (program_is_sized g h unscaled fix node.is_fix) c.moves c.state c.end.answers.run in
    let holds = final_is_fact g h unscaled fix node.is_fix c.state st c.end.answers.cause.final in
    record {
      node = node;
      fact = subst (HoldsFor g fix) (sym c.fact_is) holds;
      point = c.reaches;
      narrow = subst (λ (f : Fact). IsNarrow g fix f point) (sym c.fact_is) (narrow g fix c.state c.shows point c.point_is);
    }

pub pivots_are_few : PivotsAreFew
pivots_are_few g h unscaled fix is_fix m budget node s =
    let e = subst (IsNodeEnd g m fix s.moves s.state) s.says.0 s.end in
    let short = short-run (plays_program g fix) (program_is_sized g h unscaled fix is_fix) s.moves s.state e.answers.run in
    let all = e.answers.cause.spent_all in
    let b = s.says.1 in
    omega (arith, short, all, b)

-- ---- one cause

same_pivots : (a b : ℕ) (x y : Fix) → a ≡ b → x ≡ y → cause.Pivots a x ≡ cause.Pivots b y
same_pivots a b x y p q = cc

same_looks : (a b k l : ℕ) (x y : Fix) → a ≡ b → k ≡ l → x ≡ y → cause.Looks a k x ≡ cause.Looks b l y
same_looks a b k l x y p q r = cc

same_wide : (a b : ℕ) (v w : Wide) (k l : ℕ) (x y : Fix) → a ≡ b → v ≡ w → k ≡ l → x ≡ y → cause.Wide a v k x ≡ cause.Wide b w l y
same_wide a b v w k l x y p q r s = cc

abbrev WideOf : Game → Fix → Tableau → Turn → ℕ → Wide → Type 0
WideOf g fix t x name w = (x ≡ turn.Wide name w) ⊎ ((x ≡ turn.Done) × EndShows g fix t (Some (record { name = name; step = w })))

spent_apart : turn.PivotsSpent ≡ turn.LooksSpent → ⊥
spent_apart e = cc

not_pivots : (g : Game) (fix : Fix) (t : Tableau) (x : Turn) (name : ℕ) (w : Wide) → WideOf g fix t x name w → x ≡ turn.PivotsSpent → ⊥
not_pivots g fix t x name w (inl p) q = cc
not_pivots g fix t x name w (inr p) q = let d = p.0 in cc

not_looks : (g : Game) (fix : Fix) (t : Tableau) (x : Turn) (name : ℕ) (w : Wide) → WideOf g fix t x name w → x ≡ turn.LooksSpent → ⊥
not_looks g fix t x name w (inl p) q = cc
not_looks g fix t x name w (inr p) q = let d = p.0 in cc

wide_parts : (name name2 : ℕ) (w w2 : Wide) → turn.Wide name w ≡ turn.Wide name2 w2 → (name ≡ name2) × (w ≡ w2)
wide_parts name name2 w w2 e = ((cc), (cc))

wide_done : (name : ℕ) (w : Wide) → turn.Wide name w ≡ turn.Done → ⊥
wide_done name w e = cc

some_parts : (x y : NamedStep) → ◌≡◌ {A = Option NamedStep} (Some x) (Some y) → (x.name ≡ y.name) × (x.step ≡ y.step)
some_parts x y e = let q : x ≡ y = cc in (ap (λ (z : NamedStep). z.name) q, ap (λ (z : NamedStep). z.step) q)

two_wide : (g : Game) (fix : Fix) (t u : Tableau) (x y : Turn) (name name2 : ℕ) (w w2 : Wide) → x ≡ y → t ≡ u → WideOf g fix t x name w → WideOf g fix u y name2 w2 → (name ≡ name2) × (w ≡ w2)
two_wide g fix t u x y name name2 w w2 e f (inl p) (inl q) = wide_parts name name2 w w2 (sym p ∙ e ∙ q)
two_wide g fix t u x y name name2 w w2 e f (inl p) (inr q) = absurd (wide_done name w (sym p ∙ e ∙ q.0))
two_wide g fix t u x y name name2 w w2 e f (inr p) (inl q) = absurd (wide_done name2 w2 (sym q ∙ sym e ∙ p.0))
two_wide g fix t u x y name name2 w w2 e f (inr p) (inr q) =
    some_parts (record { name = name; step = w }) (record { name = name2; step = w2 })
    (end-one g fix t (Some (record { name = name; step = w })) (Some (record { name = name2; step = w2 })) p.1 (subst (λ (s : Tableau). EndShows g fix s (Some (record { name = name2; step = w2 }))) (sym f) q.1))

pub node_stop_is_one : NodeStopIsOne
node_stop_is_one g h unscaled fix is_fix m why other s u = by why other s.says u.says
  where
    ends : (s.moves ≡ u.moves) × (s.state ≡ u.state) × (s.answer ≡ u.answer)
    ends = one_end g h unscaled fix is_fix m s.moves u.moves s.state u.state s.answer u.answer s.end u.end

    same : s.answer ≡ u.answer
    same = ends.2

    by : (x y : Cause) → CauseSays g m fix s.moves s.state s.answer x → CauseSays g m fix u.moves u.state u.answer y → x ≡ y
    by (cause.Nodes n) y a b = absurd a
    by (cause.Pivots budget node) (cause.Nodes n) a b = absurd b
    by (cause.Pivots budget node) (cause.Pivots budget2 node2) a b = same_pivots budget budget2 node node2 (a.1 ∙ sym b.1) (a.2 ∙ sym b.2)
    by (cause.Pivots budget node) (cause.Looks budget2 step2 node2) a b = absurd (spent_apart (sym a.0 ∙ same ∙ b.0))
    by (cause.Pivots budget node) (cause.Wide name w step2 node2) a b = absurd (not_pivots g fix u.state u.answer name w b.0 (sym same ∙ a.0))
    by (cause.Looks budget step node) (cause.Nodes n) a b = absurd b
    by (cause.Looks budget step node) (cause.Pivots budget2 node2) a b = absurd (spent_apart (sym b.0 ∙ sym same ∙ a.0))
    by (cause.Looks budget step node) (cause.Looks budget2 step2 node2) a b = same_looks budget budget2 step step2 node node2 (a.1 ∙ sym b.1) (a.2 ∙ ends.0 ∙ sym b.2) (a.3 ∙ sym b.3)
    by (cause.Looks budget step node) (cause.Wide name w step2 node2) a b = absurd (not_looks g fix u.state u.answer name w b.0 (sym same ∙ a.0))
    by (cause.Wide name w step node) (cause.Nodes n) a b = absurd b
    by (cause.Wide name w step node) (cause.Pivots budget2 node2) a b = absurd (not_pivots g fix s.state s.answer name w a.0 (same ∙ b.0))
    by (cause.Wide name w step node) (cause.Looks budget2 step2 node2) a b = absurd (not_looks g fix s.state s.answer name w a.0 (same ∙ b.0))
    by (cause.Wide name w step node) (cause.Wide name2 w2 step2 node2) a b =
        let e = two_wide g fix s.state u.state s.answer u.answer name name2 w w2 same ends.1 a.0 b.0 in
        same_wide name name2 w w2 step step2 node node2 e.0 e.1 (a.1 ∙ ends.0 ∙ sym b.1) (a.2 ∙ sym b.2)

pivots_done : turn.PivotsSpent ≡ turn.Done → ⊥
pivots_done e = cc

looks_done : turn.LooksSpent ≡ turn.Done → ⊥
looks_done e = cc

not_shown : (g : Game) (fix : Fix) (t u : Tableau) (x : Turn) (name : ℕ) (w : Wide) → x ≡ turn.Done → t ≡ u → EndShows g fix t None → WideOf g fix u x name w → ⊥
not_shown g fix t u x name w e f none (inl p) = wide_done name w (sym p ∙ e)
not_shown g fix t u x name w e f none (inr p) = nothing (end-one g fix u None (Some (record { name = name; step = w })) (subst (λ (s : Tableau). EndShows g fix s None) f none) p.1)
  where
    nothing : ◌≡◌ {A = Option NamedStep} None (Some (record { name = name; step = w })) → ⊥
    nothing q = cc

pub closed_is_not_stopped : ClosedIsNotStopped
closed_is_not_stopped g h unscaled fix is_fix m fact point why c u = by why u.says
  where
    ends : (c.moves ≡ u.moves) × (c.state ≡ u.state) × (turn.Done ≡ u.answer)
    ends = one_end g h unscaled fix is_fix m c.moves u.moves c.state u.state turn.Done u.answer c.end u.end

    done : turn.Done ≡ u.answer
    done = ends.2

    by : (x : Cause) → CauseSays g m fix u.moves u.state u.answer x → ⊥
    by (cause.Nodes n) a = a
    by (cause.Pivots budget node) a = pivots_done (sym a.0 ∙ sym done)
    by (cause.Looks budget step node) a = looks_done (sym a.0 ∙ sym done)
    by (cause.Wide name w step node) a = not_shown g fix c.state u.state u.answer name w (sym done) ends.1 c.shows a.0
