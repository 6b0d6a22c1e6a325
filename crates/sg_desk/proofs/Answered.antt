-- What is told of a run that is done: its commitment, and what its end shows.
use Rattle.std.proofs.Common.{◌≡◌, ◌∙◌, ℕ, List, [], ◌∷◌, ◌++◌, drop, length, map, ℤ, pos, Option, Some, None, Result, Ok, Err, ap, sym, subst, refl, arith, inr}
use Rattle.std.specs.Prelude.{◌<ℤ◌, ◌≤ℤ◌, IfOk}
use Rattle.std.proofs.lemmas.Int.{ints}
use Rattle.sg_num.specs.declared.step.Wide.{Wide}
use Rattle.sg_num.specs.declared.step.Op.TheVariants.{Times}
use Rattle.sg_num.specs.Exact.{exact_times}
use Rattle.sg_num.specs.Operations.{first_wide, formed, times}
use Rattle.sg_model.specs.declared.ticket.Ticket.{Ticket}
use Rattle.sg_model.specs.Commitments.{weight_total, worth}
use Rattle.sg_model.specs.Games.{Game, prior_total}
use Rattle.sg_model.specs.Sums.{numbers}
use Rattle.sg_commit.specs.Committed.{Committed, IsCommitted}
use Rattle.sg_commit.specs.ExactSums.{exact_worth}
use Rattle.sg_commit.specs.Parts.{AreMultiple}
use Rattle.sg_commit.specs.SumSteps.{worth_steps}
use Rattle.sg_commit.proofs.SumSteps.{sums_are_formed}
use Rattle.sg_tree.specs.declared.fact.Fact.{Fact}
use Rattle.sg_tree.specs.declared.fact.Fact.TheVariants.{Plays}
use Rattle.sg_tree.specs.declared.fact.Mark.{Mark}
use Rattle.sg_tree.specs.declared.fix.Fix.{Fix}
use Rattle.sg_tree.specs.declared.report.Cause.{Cause}
use Rattle.sg_tree.specs.declared.report.Cause.TheVariants as cause
use Rattle.sg_tree.specs.declared.report.Cause.TheVariants.{Wide as TooWide}
use Rattle.sg_bounds.specs.Facts.{mu_of}
use Rattle.sg_bounds.specs.PlayRows.{comparisons}
use Rattle.sg_bounds.specs.SizeSteps.{size_steps}
use Rattle.sg_rows.specs.Rows.{place}
use Rattle.sg_rows.proofs.Fitting.{Err-stops, Ok-fits}
use Rattle.sg_simplex.proofs.Shown.{alone-fits, alone-stops, named-fits, named-stops}
use Rattle.sg_upper.proofs.Quotients.{step-Err, step-Ok}
use Rattle.sg_search.specs.Results.{Reaches}
use Rattle.sg_lp.specs.Moves.{NamedStep, first_shown, under_name}
use Rattle.sg_lp.specs.States.{Tableau}
use Rattle.sg_simplex.specs.declared.turn.Turn.{Turn}
use Rattle.sg_simplex.specs.declared.turn.Turn.TheVariants as turn
use Rattle.sg_programs.specs.Marks.{marks_of}
use Rattle.sg_programs.specs.NodeTests.{IsNodeEnd, Method, StopsNode, listed_plays}
use Rattle.sg_programs.specs.Plays.{plays_program}
use Rattle.sg_programs.specs.Points.{point_rows, point_steps, point_ticket, point_tickets}
use Rattle.sg_programs.specs.Shown.{CommitmentShows, EndShows, IsCommitmentAt, PointShows, ShowsOr, both_bounds, commitment_values, fact_at, fact_values}
use Rattle.sg_work.specs.declared.work.Ended.{Ended}
use Rattle.sg_work.specs.declared.work.Ended.TheVariants.{Stuck, Worked}
use Rattle.sg_desk.specs.Runs.{EndedBy, IsOutcome, IsRunOf}
use Rattle.sg_desk.specs.declared.run.Run.{Run}
use Rattle.sg_desk.specs.Ending.{DoneTells, IsStuckAt, TellsAt}
use Rattle.sg_dual.specs.declared.part.Part.{Part}
use Rattle.sg_dual.specs.Parts.{part_of_row, point_parts, tickets_of}

tickets-are : (g : Game) (fix : Fix) (t : Tableau) (is : List ℕ) → tickets_of (map (part_of_row (plays_program g fix) t) is) ≡ map (point_ticket (plays_program g fix) t) is
tickets-are g fix t [] = refl
tickets-are g fix t (i ∷ is) = ap (λ (xs : List Ticket). point_ticket (plays_program g fix) t i ∷ xs) (tickets-are g fix t is)

-- the commitment of tickets that are the parts of a state's point
pub commitment-is : (g h : Game) (fix : Fix) (t : Tableau) (parts : List Part) (tickets : List Ticket) (k : Committed) → h ≡ g → first_wide (point_steps (plays_program h fix) t) ≡ None → parts ≡ point_parts (plays_program h fix) t
    → tickets ≡ tickets_of parts → IsCommitted k → AreMultiple tickets k.tickets → (first_wide (point_steps (plays_program g fix) t) ≡ None) × IsCommitmentAt g fix t k
commitment-is g h fix t parts tickets k e fit is of rules shares =
    let same : tickets ≡ point_tickets (plays_program g fix) t = of ∙ (ap tickets_of is ∙ (ap (λ x. tickets_of (point_parts (plays_program x fix) t)) e ∙ tickets-are g fix t (point_rows (plays_program g fix) t))) in (
      subst (λ x. first_wide (point_steps (plays_program x fix) t) ≡ None) e fit,
      (rules, subst (λ xs. AreMultiple xs k.tickets) same shares),
    )

-- ---- the values of a commitment

module _ (g : Game) (k : List Ticket) where
  abbrev steps : List Wide
  steps = worth_steps g k (pos 0) (numbers (length g.types))

  abbrev last : Wide
  last = times (weight_total k) (prior_total g)

  worth-is : exact_worth g k ≡ formed steps (worth g k)
  worth-is = (sums_are_formed g k).worth

  pub worth-stops : (w : Wide) → Err w ≡ exact_worth g k → ◌≡◌ {A = Option NamedStep} (Some (record { name = 6; step = w })) (first_shown (commitment_values g k))
  worth-stops w e = sym (named-stops 6 steps (under_name 7 (last ∷ [])) w (Err-stops steps (worth g k) w (e ∙ worth-is)))

  module _ (v : ℤ) (e : Ok v ≡ exact_worth g k) where
    worth-fits : first_shown (commitment_values g k) ≡ first_shown (under_name 7 (last ∷ []))
    worth-fits = named-fits 6 steps (under_name 7 (last ∷ [])) (Ok-fits steps (worth g k) v (e ∙ worth-is))

    pub base-fits : (u : ℤ) → Ok u ≡ exact_times (weight_total k) (prior_total g) → ◌≡◌ {A = Option NamedStep} None (first_shown (commitment_values g k))
    base-fits u h = sym (worth-fits ∙ alone-fits 7 (last ∷ []) (step-Ok Times (weight_total k) (prior_total g) u [] h).0)

    pub base-stops : (w : Wide) → Err w ≡ exact_times (weight_total k) (prior_total g) → ◌≡◌ {A = Option NamedStep} (Some (record { name = 7; step = w })) (first_shown (commitment_values g k))
    base-stops w h = sym (worth-fits ∙ alone-stops 7 (last ∷ []) w (step-Err Times (weight_total k) (prior_total g) w [] h))

-- ---- what the end shows

here : (o : Option NamedStep) (s : NamedStep) (Later : Type 0) → o ≡ Some s → ShowsOr o Later (Some s)
here o s Later e = subst (λ (x : Option NamedStep). ShowsOr x Later (Some s)) (sym e) refl

later : (o : Option NamedStep) (Later : Type 0) (shown : Option NamedStep) → o ≡ None → Later → ShowsOr o Later shown
later o Later shown e h = subst (λ (x : Option NamedStep). ShowsOr x Later shown) (sym e) h

-- what holds of a value that is told holds of what it implies
pub IfOk-map : {A E : Type 0} (P Q : A → Type 0) (r : Result A E) → IfOk r P → ((x : A) → P x → Q x) → IfOk r Q
IfOk-map P Q (Ok x) h f = f x h
IfOk-map P Q (Err e) h f = tt

pub stuck-tells : (g : Game) (r : Run) (s : NamedStep) → EndShows g r.fix r.node.tableau (Some s) → (e : Ended) → IsStuckAt r s e → DoneTells g r e
stuck-tells g r s shows e is = subst (DoneTells g r) (sym is) (s, (shows, refl))

module _ (g : Game) (r : Run) (rho mu : ℤ) (marks : List Mark) (fact : fact_at g r.fix r.node.tableau ≡ Plays rho mu marks) where
  abbrev t : Tableau
  t = r.node.tableau

  abbrev f : Fact
  f = Plays rho mu marks

  pub fact-shows : (w : Wide) → Some w ≡ first_wide (size_steps g r.fix f ++ both_bounds g r.fix f) → EndShows g r.fix t (Some (record { name = 4; step = w }))
  fact-shows w e =
      here (first_shown (fact_values g r.fix (fact_at g r.fix t))) (record { name = 4; step = w }) (PointShows g r.fix t (Some (record { name = 4; step = w })))
      (ap (λ x. first_shown (fact_values g r.fix x)) fact ∙ alone-stops 4 (size_steps g r.fix f ++ both_bounds g r.fix f) w (sym e))

  module _ (fits : first_shown (fact_values g r.fix f) ≡ None) where
    after-fact : (o : Option NamedStep) → PointShows g r.fix t o → EndShows g r.fix t o
    after-fact o h = later (first_shown (fact_values g r.fix (fact_at g r.fix t))) (PointShows g r.fix t o) o (ap (λ x. first_shown (fact_values g r.fix x)) fact ∙ fits) h

    module _ (some : pos 1 ≤ℤ mu) where
      above : pos 0 <ℤ place t.y 0
      above = let e = ap mu_of fact in omega (arith, ints, some, e)

      pub point-shows : (w : Wide) → first_wide (point_steps (plays_program g r.fix) t) ≡ Some w → EndShows g r.fix t (Some (record { name = 5; step = w }))
      point-shows w e =
          after-fact (Some (record { name = 5; step = w })) (inr (
            above,
            here (first_shown (under_name 5 (point_steps (plays_program g r.fix) t))) (record { name = 5; step = w }) (CommitmentShows g r.fix t (Some (record { name = 5; step = w })))
                (alone-stops 5 (point_steps (plays_program g r.fix) t) w e),
          ))

      module _ (k : Committed) (at : (first_wide (point_steps (plays_program g r.fix) t) ≡ None) × IsCommitmentAt g r.fix t k) (reach : Reaches g r.fix (fact_at g r.fix t) k.tickets) where
        commitment-shows : (o : Option NamedStep) → first_shown (commitment_values g k.tickets) ≡ o → EndShows g r.fix t o
        commitment-shows o e =
            after-fact o (inr (
              above,
              later (first_shown (under_name 5 (point_steps (plays_program g r.fix) t))) (CommitmentShows g r.fix t o) o (alone-fits 5 (point_steps (plays_program g r.fix) t) at.0) (k, (at.1, e)),
            ))

        pub tells-done : (o : Option NamedStep) → first_shown (commitment_values g k.tickets) ≡ o → (e : Ended) → TellsAt r f k o e → DoneTells g r e
        tells-done (Some s) shown e is = stuck-tells g r s (commitment-shows (Some s) shown) e is
        tells-done None shown e is =
            subst (DoneTells g r) (sym is)
            (commitment-shows None shown, sym fact, (above, at.1), (omega (arith, ints, some), at.1.0, subst (λ x. Reaches g r.fix x k.tickets) fact reach))

-- ---- the fact of a run that is done

pub fact-is : (g : Game) (fix : Fix) (t : Tableau) (rho mu : ℤ) (marks : List Mark) (y : List ℤ) → rho ≡ t.rho → y ≡ t.y → mu ≡ place y 0 → marks ≡ marks_of (comparisons g fix) (drop 1 y) → fact_at g fix t ≡ Plays rho mu marks
fact-is g fix t rho mu marks y er ey em es =
    let a : place t.y 0 ≡ mu = ap (λ z. place z 0) (sym ey) ∙ sym em in
    let b : marks_of (comparisons g fix) (drop 1 t.y) ≡ marks = ap (λ z. marks_of (comparisons g fix) (drop 1 z)) (sym ey) ∙ sym es in
    ap (λ z. Plays z (place t.y 0) (marks_of (comparisons g fix) (drop 1 t.y))) (sym er) ∙ (ap (λ z. Plays rho z (marks_of (comparisons g fix) (drop 1 t.y))) a ∙ ap (Plays rho mu) b)

pub fact-fits : (g : Game) (fix : Fix) (f h : Fact) → f ≡ h → ◌≡◌ {A = Option Wide} None (first_wide (size_steps g fix f ++ both_bounds g fix f)) → first_shown (fact_values g fix h) ≡ None
fact-fits g fix f h e none = ap (λ x. first_shown (fact_values g fix x)) (sym e) ∙ alone-fits 4 (size_steps g fix f ++ both_bounds g fix f) (sym none)

-- ---- what a run that has ended came to

module _ (g : Game) (pivots looks width : ℕ) (r : Run) (is : IsRunOf g pivots looks width r) where
  abbrev m : Method
  m = listed_plays g pivots looks

  pub end-of : (answer : Turn) → r.answer ≡ Some answer → IsNodeEnd g (listed_plays g pivots looks) r.fix r.node.steps r.node.tableau answer
  end-of answer e =
      let by : EndedBy g m r.fix r.node.steps r.node.tableau (Some answer) = subst (EndedBy g m r.fix r.node.steps r.node.tableau) e is.ended in
      record { other = by.0; answers = by.1; first = is.first }

  pub looks-stop : (step : ℕ) (fix : Fix) → r.answer ≡ Some turn.LooksSpent → step ≡ r.node.steps → fix ≡ r.fix → StopsNode g (listed_plays g pivots looks) r.fix (cause.Looks looks step fix)
  looks-stop step fix e s f = record { moves = r.node.steps; state = r.node.tableau; answer = turn.LooksSpent; end = end-of turn.LooksSpent e; says = (refl, refl, s, f) }

  pub outcome-done : r.answer ≡ Some turn.Done → (e : Ended) → DoneTells g r e → IsOutcome g (listed_plays g pivots looks) r.fix e
  outcome-done e (Worked fact point) h = record { moves = r.node.steps; state = r.node.tableau; end = end-of turn.Done e; shows = h.0; fact_is = h.1; point_is = h.2; reaches = h.3 }
  outcome-done e (Stuck why) h =
      let s = h.0 in
      subst (StopsNode g (listed_plays g pivots looks) r.fix) (sym (stuck-is why (TooWide s.name s.step r.node.steps r.fix) h.1.1))
      (record { moves = r.node.steps; state = r.node.tableau; answer = turn.Done; end = end-of turn.Done e; says = (inr (refl, h.1.0), refl, refl) })
    where
      stuck-is : (a b : Cause) → Stuck a ≡ Stuck b → a ≡ b
      stuck-is a b q = cc
