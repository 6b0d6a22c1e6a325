-- The causes that stop nodes lie in the ranges of a report's text.
use Rattle.std.proofs.Common.{◌≡◌, ◌≢◌, ◌⊎◌, ℕ, ◌+◌, ◌≤◌, ◌<◌, ◌^◌, Bool, true, false, cond, List, [], ◌∷◌, ◌++◌, length, sym, subst, refl, arith, inl, inr, Option, Some, None}
use Rattle.std.specs.List.{All, AllByRecursion, zip}
use Rattle.std.specs.Prelude.{pos}
use Rattle.std.proofs.lemmas.List.Elements.{All-append, All-head, All-map, All-tail}
use Rattle.sg_num.specs.declared.step.Wide.{Wide}
use Rattle.sg_num.specs.Operations.{is_formed, times}
use Rattle.sg_model.specs.Sums.{numbers, numbers_from}
use Rattle.sg_model.specs.Commitments.{weight_total}
use Rattle.sg_model.specs.Games.{Game, action_count, prior_total}
use Rattle.sg_model.specs.Limits.{IsGame}
use Rattle.sg_tree.specs.declared.fix.Fix.{Fix}
use Rattle.sg_tree.specs.declared.report.Cause.{Cause}
use Rattle.sg_tree.specs.declared.report.Cause.TheVariants as cause
use Rattle.sg_cert.specs.Ranges.{IsCause, IsFrom, IsRangedFix}
use Rattle.sg_bounds.specs.Regions.{IsNode}
use Rattle.sg_bounds.specs.SizeSteps.{size_steps}
use Rattle.sg_commit.specs.SumSteps.{worth_steps}
use Rattle.sg_lp.specs.declared.column.Enter.{Enter}
use Rattle.sg_lp.specs.Moves.{NamedStep, first_shown, gap_of, gap_steps, move_steps, multiplier_steps, products_of, row_product_steps, row_steps, under_name}
use Rattle.sg_lp.specs.Pricing.{AnswerMeans}
use Rattle.sg_lp.specs.States.{Tableau}
use Rattle.sg_lp.proofs.Runs.{run-state}
use Rattle.sg_simplex.specs.Turns.{HasCause}
use Rattle.sg_simplex.specs.declared.turn.Turn.{Turn}
use Rattle.sg_simplex.specs.declared.turn.Turn.TheVariants as turn
use Rattle.sg_programs.specs.NodeLaws.{IsMethodAt}
use Rattle.sg_programs.specs.NodeTests.{IsNodeEnd, Method, StopsNode}
use Rattle.sg_programs.specs.Plays.{plays_program}
use Rattle.sg_programs.specs.Points.{point_steps}
use Rattle.sg_programs.specs.Shown.{CommitmentShows, EndShows, PointShows, ShowsOr, both_bounds, commitment_values, fact_at, fact_values}
use Rattle.sg_programs.proofs.NodeEnds.{earlier, ends_spent}
use Rattle.sg_programs.proofs.Sized.{program_is_sized}
use Rattle.sg_answer_laws.specs.Answers.{HasOperands}

-- ---- the numbers of values

abbrev IsNamed : NamedStep → Type 0
IsNamed s = IsFrom 1 7 s.name

under-named : (k : ℕ) → IsFrom 1 7 k → (ws : List Wide) → All IsNamed (under_name k ws)
under-named k in_range ws = All-map IsNamed (λ (w : Wide). record { name = k; step = w }) ws (λ i d lt. in_range)

-- what is shown is one of the list
shown-named : (xs : List NamedStep) (s : NamedStep) → All IsNamed xs → first_shown xs ≡ Some s → IsNamed s
shown-named [] s all e = absurd (none-some e)
  where
    none-some : {X : Type 0} {a : X} → None ≡ Some a → ⊥
    none-some h = cc
shown-named (x ∷ xs) s all e = by (is_formed x.step) e (shown-named xs s (All-tail IsNamed x xs all))
  where
    some-one : {X : Type 0} {a b : X} → Some a ≡ Some b → a ≡ b
    some-one h = cc

    by : (b : Bool) → ◌≡◌ {A = Option NamedStep} (cond b (first_shown xs) (Some x)) (Some s) → (first_shown xs ≡ Some s → IsNamed s) → IsNamed s
    by true e rest = rest e
    by false e rest = subst IsNamed (some-one e) (All-head IsNamed x xs all)

move-named : (g : Game) (fix : Fix) (t : Tableau) (s : Enter) (r : ℕ) → All IsNamed (move_steps (plays_program g fix) t s r)
move-named g fix t s r =
    let p = plays_program g fix in
    let a : List Wide = row_product_steps p t s in
    let b : List Wide = row_steps t.rows (products_of p t s) r in
    let c : List Wide = gap_steps p t s in
    let d : List Wide = multiplier_steps t (products_of p t s) (gap_of p t s) r in
    let two : IsFrom 1 7 2 = (omega arith, omega arith) in
    let three : IsFrom 1 7 3 = (omega arith, omega arith) in
    All-append IsNamed (under_name 2 a) (under_name 3 b ++ (under_name 2 c ++ under_name 3 d)) (under-named 2 two a)
    (All-append IsNamed (under_name 3 b) (under_name 2 c ++ under_name 3 d) (under-named 3 three b)
    (All-append IsNamed (under_name 2 c) (under_name 3 d) (under-named 2 two c) (under-named 3 three d)))

-- ---- the values that the end of a run shows

or-named : (o : Option NamedStep) (Later : Type 0) (s : NamedStep) → ((x : NamedStep) → o ≡ Some x → IsNamed x) → (Later → IsNamed s) → ShowsOr o Later (Some s) → IsNamed s
or-named (Some x) Later s here later e = subst IsNamed (same x s e) (here x refl)
  where
    same : (x s : NamedStep) → ◌≡◌ {A = Option NamedStep} (Some s) (Some x) → x ≡ s
    same x s e = cc
or-named None Later s here later e = later e

commitment-named : (g : Game) (fix : Fix) (t : Tableau) (s : NamedStep) → CommitmentShows g fix t (Some s) → IsNamed s
commitment-named g fix t s shows =
    let k = shows.0.tickets in
    let a : List Wide = worth_steps g k (pos 0) (numbers (length g.types)) in
    let b : List Wide = times (weight_total k) (prior_total g) ∷ [] in
    shown-named (commitment_values g k) s (All-append IsNamed (under_name 6 a) (under_name 7 b) (under-named 6 (omega arith, omega arith) a) (under-named 7 (omega arith, omega arith) b)) shows.1.1

point-named : (g : Game) (fix : Fix) (t : Tableau) (s : NamedStep) → PointShows g fix t (Some s) → IsNamed s
point-named g fix t s (inl none) = absurd (some-none none.1)
  where
    some-none : {X : Type 0} {a : X} → Some a ≡ None → ⊥
    some-none h = cc
point-named g fix t s (inr some) =
    let ws : List Wide = point_steps (plays_program g fix) t in
    or-named (first_shown (under_name 5 ws)) (CommitmentShows g fix t (Some s)) s (λ x e. shown-named (under_name 5 ws) x (under-named 5 (omega arith, omega arith) ws) e) (commitment-named g fix t s) some.1

end-named : (g : Game) (fix : Fix) (t : Tableau) (s : NamedStep) → EndShows g fix t (Some s) → IsNamed s
end-named g fix t s shows =
    let f = fact_at g fix t in
    let ws : List Wide = size_steps g fix f ++ both_bounds g fix f in
    or-named (first_shown (fact_values g fix f)) (PointShows g fix t (Some s)) s (λ x e. shown-named (fact_values g fix f) x (under-named 4 (omega arith, omega arith) ws) e) (point-named g fix t s) shows

-- ---- one stopped node

fixed-ranged : (g : Game) → length g.types ≤ 8 → ((l : ℕ) → action_count g l < 2 ^ 16) → (fix : Fix) → IsNode g fix → IsRangedFix fix
fixed-ranged g types small fix node =
    let is = node.is_fix in
    let from = is.from_one in
    let to = is.in_range in
    let some = some-acts fix.acts is.some in
    record {
      first = (from, omega (arith, to, some, types));
      count = (some, omega (arith, to, from, types));
      acts = acts-ranged fix.first fix.acts is.acts;
    }
  where
    some-acts : (acts : List ℕ) → acts ≢ [] → 1 ≤ length acts
    some-acts [] h = absurd (h refl)
    some-acts (a ∷ acts) h = omega arith

    acts-ranged : (r : ℕ) (acts : List ℕ) → All (λ (p : ℕ × ℕ). (1 ≤ p.1) × (p.1 ≤ action_count g p.0)) (zip (numbers_from r (length acts)) acts) → AllByRecursion (λ a. IsFrom 1 65535 a) acts
    acts-ranged r [] all = tt
    acts-ranged r (a ∷ acts) all =
        let P : ℕ × ℕ → Type 0 = λ (p : ℕ × ℕ). (1 ≤ p.1) × (p.1 ≤ action_count g p.0) in
        let rest : List (ℕ × ℕ) = zip (numbers_from (r + 1) (length acts)) acts in
        let here = All-head P (r, a) rest all in
        let least = small r in
        let high = here.1 in
        ((here.0, omega (arith, high, least)), acts-ranged (r + 1) acts (All-tail P (r, a) rest all))

module _ (g : Game) (game : IsGame g) (unscaled : g.scale ≡ pos 0) (m : Method) (fix : Fix) (node : IsNode g fix) (is : IsMethodAt g m fix) where
  -- a run has no more moves than it may make
  moves-few : (k : ℕ) (t : Tableau) (answer : Turn) → IsNodeEnd g m fix k t answer → k ≤ m.pivots
  moves-few k t answer end = go (three k m.pivots)
    where
      three : (a b : ℕ) → (a ≤ b) ⊎ (b < a)
      three a b = grind arith

      go : (k ≤ m.pivots) ⊎ (m.pivots < k) → k ≤ m.pivots
      go (inl le) = le
      go (inr more) =
          let s = earlier g game unscaled fix node.is_fix m k m.pivots t end.answers.run more in
          absurd (end.first m.pivots more (ends_spent g game unscaled fix node.is_fix m is m.pivots s.0 s.1.1.0 s.1.0 s.1.1.1 (omega arith)))

  -- a value that a turn shows
  turn-named : (k : ℕ) (t : Tableau) (name : ℕ) (w : Wide) → IsNodeEnd g m fix k t (turn.Wide name w) → IsFrom 1 7 name
  turn-named k t name w end = by end.answers.cause
    where
      by : HasCause (plays_program g fix) (m.answer fix) t k m.pivots m.looks (turn.Wide name w) → IsFrom 1 7 name
      by (inl priced) =
          let st = run-state (plays_program g fix) (program_is_sized g game unscaled fix node.is_fix) k t end.answers.run in
          let means = subst (AnswerMeans (plays_program g fix) t.y t.rho (m.needed fix t.y t.rho) m.looks) priced.answers (is.means t.y t.rho m.looks st.shaped.y_long) in
          let low = means.0 in
          let high = means.1 in
          (low, omega (arith, high))
      by (inr move) = shown-named (move_steps (plays_program g fix) t move.member move.row) (record { name = name; step = w }) (move-named g fix t move.member move.row) move.shown

  pub stop-ranged : length g.types ≤ 8 → ((l : ℕ) → action_count g l < 2 ^ 16) → IsFrom 1 (2 ^ 62) m.pivots → IsFrom 1 (2 ^ 62) m.looks → (why : Cause) → StopsNode g m fix why → HasOperands why → IsCause why
  stop-ranged types small pivots looks (cause.Nodes n) s fits = absurd s.says
  stop-ranged types small pivots looks (cause.Pivots budget x) s fits =
      let e = s.says.1 in
      let low = pivots.0 in
      let high = pivots.1 in
      ((omega (arith, e, low), omega (arith, e, high)), subst IsRangedFix (sym s.says.2) (fixed-ranged g types small fix node))
  stop-ranged types small pivots looks (cause.Looks budget step x) s fits =
      let e = s.says.1 in
      let low = looks.0 in
      let high = looks.1 in
      let at = s.says.2 in
      let few = moves-few s.moves s.state s.answer s.end in
      let most = pivots.1 in
      ((omega (arith, e, low), omega (arith, e, high)), (omega arith, omega (arith, at, few, most)), subst IsRangedFix (sym s.says.3) (fixed-ranged g types small fix node))
  stop-ranged types small pivots looks (cause.Wide name w step x) s fits =
      let at = s.says.1 in
      let few = moves-few s.moves s.state s.answer s.end in
      let most = pivots.1 in
      (named s.says.0, fits.0, fits.1, (omega arith, omega (arith, at, few, most)), subst IsRangedFix (sym s.says.2) (fixed-ranged g types small fix node))
    where
      named : (s.answer ≡ turn.Wide name w) ⊎ ((s.answer ≡ turn.Done) × EndShows g fix s.state (Some (record { name = name; step = w }))) → IsFrom 1 7 name
      named (inl e) = turn-named s.moves s.state name w (subst (IsNodeEnd g m fix s.moves s.state) e s.end)
      named (inr done) = end-named g fix s.state (record { name = name; step = w }) done.1
