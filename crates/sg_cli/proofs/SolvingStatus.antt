-- Told files decide one status for `solve`, or the two of success, and what is done with a solution.
use Rattle.std.proofs.Common.{◌≡◌, ◌⊎◌, ℕ, zero, suc, ◌≤◌, ◌<◌, Bool, true, false, MatchBool, if◌then◌else◌, nat_lt, List, [], ◌∷◌, length, Option, Some, None, Result, Ok, Err, refl, sym, ◌∙◌, ap, subst, arith, inl, inr}
use Rattle.sg_options.specs.declared.budget.Budget.{Budget}
use Rattle.sg_options.specs.declared.order.Order.{Order}
use Rattle.sg_model.specs.declared.fault.GameFault.{GameFault}
use Rattle.sg_model.specs.Games.{Game}
use Rattle.sg_model.specs.Limits.{is_scaled}
use Rattle.sg_model.specs.PlayLists.{play_count}
use Rattle.sg_format.specs.GameFiles.{game_of_bytes}
use Rattle.sg_tree.specs.declared.report.Report.{Report}
use Rattle.sg_bounds.specs.Accepted.{is_optimal}
use Rattle.sg_cert.specs.Text.{report_text}
use Rattle.sg_shelf.specs.Files.{Files, HandsOver, bytes_under}
use Rattle.sg_shelf.specs.States.{ShelfState, SinkState}
use Rattle.sg_shelf.specs.Taken.{Takes}
use Rattle.sg_words.specs.Commands.{solve}
use Rattle.sg_solve.specs.Answers.{IsAnswer, IsLevelAnswer, IsSearchAnswer, IsServed}
use Rattle.sg_cli.specs.Checking.{yes_status}
use Rattle.sg_cli.specs.Commands.{IsSuccess}
use Rattle.sg_cli.specs.Effects.{IsDone, Writes, surroundings}
use Rattle.sg_cli.specs.Inputs.{Content, content_of, game, held_as, report}
use Rattle.sg_cli.specs.ExpectedStatus.{ByContent, ByFile, ByPlan, ByRest, ExpectedStatus}
use Rattle.sg_cli.specs.Laws.{AsksToSearch, IsDecided}
use Rattle.sg_cli.specs.Refusals.{own_status}
use Rattle.sg_cli.specs.Solving.{IsSolved, ends_solved, solving}
use Rattle.sg_cli.specs.Steps.{HasSolution}
use Rattle.sg_cli.proofs.OneStatus.{IsOne, just, one_refusal, one_taken}
use Rattle.sg_cli.specs.declared.input.InputFault.TheVariants as faults
use Rattle.sg_cli.specs.declared.input.InputKind.TheVariants as kinds
use Rattle.sg_cli.specs.declared.refusal.CommandRefusal.{CommandRefusal}
use Rattle.sg_cli.specs.declared.refusal.CommandRefusal.TheVariants.{NotYet, ReportWrong, RosterTooLong, NoShape}

few_or_more : (a b : ℕ) → (a ≤ b) ⊎ (b < a)
few_or_more zero b = inl (omega arith)
few_or_more (suc a) zero = inr (omega arith)
few_or_more (suc a) (suc b) = elim (few_or_more a b) [ inl h ↦ inl (omega (arith, h)) | inr h ↦ inr (omega (arith, h)) ]

-- ---- one status, or those of success

module _ (files : Files) (name : List ℕ) (budget : Budget) (order : Order) where
  -- it holds of one status, or of those of success alone where a search is asked for
  abbrev pub IsOneOr : (ℕ → Type 0) → Type 0
  IsOneOr P = (status : ℕ) × P status × ((other : ℕ) → P other → (other ≡ status) ⊎ (AsksToSearch files (solve name budget order) × IsSuccess status × IsSuccess other))

  one : (P : ℕ → Type 0) → IsOne P → IsOneOr P
  one P h = (h.0, h.1, λ other is. inl (h.2 other is))

  no_refusal : (g : Game) → IsServed g → (own : CommandRefusal) → ¬ ((solving name budget order).plan.refuses (game g ∷ []) own)
  no_refusal g e NotYet h = h e
  no_refusal g e (ReportWrong line reason) h = h
  no_refusal g e (RosterTooLong total) h = h
  no_refusal g e NoShape h = h

  same : (g : Game) (own : CommandRefusal) → (solving name budget order).plan.refuses (game g ∷ []) own → own_status own ≡ 3
  same g NotYet h = refl
  same g (ReportWrong line reason) h = absurd h
  same g (RosterTooLong total) h = absurd h
  same g NoShape h = absurd h

  -- what holds of a game that was read
  abbrev ByGame : Game → ℕ → Type 0
  ByGame g = ByRest (solving name budget order) files (game g ∷ []) []

  searched : (g : Game) → is_scaled g ≡ false → AsksToSearch files (solve name budget order) → play_count g ≤ 4096 → IsOneOr (ByGame g)
  searched g e asks few = (0, inr ((λ unscaled. few), subst (λ s. MatchBool s (◌≡◌ {A = ℕ} 0 0) (IsSuccess 0)) (sym e) (inl refl)), other)
    where
      other : (status : ℕ) → ByGame g status → (status ≡ 0) ⊎ (AsksToSearch files (solve name budget order) × IsSuccess 0 × IsSuccess status)
      other status (inl h) = absurd (no_refusal g (λ unscaled. few) h.0 h.1)
      other status (inr h) = inr (asks, inl refl, subst (λ s. MatchBool s (status ≡ 0) (IsSuccess status)) e h.1)

  by_game : (g : Game) (b : Bool) → is_scaled g ≡ b → (is_scaled g ≡ false → AsksToSearch files (solve name budget order)) → IsOneOr (ByGame g)
  by_game g true e asks =
      let served : IsServed g = λ unscaled. (let both : ◌≡◌ {A = Bool} true false = sym e ∙ unscaled in cc) in
      one (ByGame g)
      (one_taken (solving name budget order).plan (game g ∷ []) (ends_solved (game g ∷ [])) served (no_refusal g served)
      (subst (λ s. IsOne (λ status. MatchBool s (status ≡ 0) (IsSuccess status))) (sym e) (just 0)))
  by_game g false e asks = elim (few_or_more (play_count g) 4096) [
    | inl few ↦ searched g e (asks e) few
    | inr more ↦ (let unserved : ¬ (IsServed g) = λ is. (let few = is e in omega (arith, few, more)) in
        one (ByGame g) (one_refusal (solving name budget order).plan (game g ∷ []) (ends_solved (game g ∷ [])) NotYet unserved (same g) unserved))
  ]

  -- by a game's bytes
  abbrev by_bytes : List ℕ → ℕ → Type 0
  by_bytes bytes = ByContent (λ content. ByRest (solving name budget order) files (content ∷ []) []) (content_of kinds.Game bytes)

  by_says : (bytes : List ℕ) → bytes_under files name ≡ Some bytes → (says : Result Game GameFault) → game_of_bytes bytes ≡ says
      → IsOneOr (ByContent (λ content. ByRest (solving name budget order) files (content ∷ []) []) (held_as game faults.Game says))
  by_says bytes stands (Ok g) e =
      by_game g (is_scaled g) refl
      (λ unscaled. record { name = name; budget = budget; order = order; asks = refl; bytes = bytes; stands = stands; searched = g; says = e; unscaled = unscaled })
  by_says bytes stands (Err fault) e = one (λ status. status ≡ 6) (just 6)

  by_length : (bytes : List ℕ) → bytes_under files name ≡ Some bytes → (long : Bool) → IsOneOr (λ status. MatchBool long (status ≡ 5) (by_bytes bytes status))
  by_length bytes stands true = one (λ status. status ≡ 5) (just 5)
  by_length bytes stands false = by_says bytes stands (game_of_bytes bytes) refl

  by_file : (file : Option (List ℕ)) → bytes_under files name ≡ file → IsOneOr (ByFile 4194304 by_bytes file)
  by_file None e = one (λ status. status ≡ 4) (just 4)
  by_file (Some bytes) e = by_length bytes e (nat_lt 4194304 (length bytes))

  first : IsOneOr (ByFile 4194304 by_bytes (bytes_under files name)) → IsOneOr (ExpectedStatus (solving name budget order) files)
  first n = (n.0, inr (tt, n.1), other)
    where
      other : (status : ℕ) → ExpectedStatus (solving name budget order) files status
          → (status ≡ n.0) ⊎ (AsksToSearch files (solve name budget order) × IsSuccess n.0 × IsSuccess status)
      other status (inl h) = absurd h.1
      other status (inr h) = n.2 status h.1

  pub one_solving : IsDecided files (solve name budget order)
  one_solving = first (by_file (bytes_under files name) refl)

-- it ends with success alone
success_by : (scaled : Bool) (status : ℕ) → MatchBool scaled (status ≡ 0) (IsSuccess status) → IsSuccess status
success_by true status h = inl h
success_by false status h = h

pub success_solving : (contents : List Content) (status : ℕ) → ends_solved contents status → IsSuccess status
success_solving [] status h = absurd h
success_solving (game g ∷ []) status h = success_by (is_scaled g) status h
success_solving (game g ∷ content ∷ contents) status h = absurd h
success_solving (report r ∷ contents) status h = absurd h

-- ---- a solution

-- the status that accepts an answer's report is one with which the command may end
either : (b : Bool) → IsSuccess (if b then 0 else 10)
either true = inl refl
either false = inr refl

ends_by : (g : Game) (b : Budget) (o : Order) (r : Report) (worked : List _) (scaled : Bool) → MatchBool scaled (IsLevelAnswer g r worked) (IsSearchAnswer g b o r worked)
    → MatchBool scaled (yes_status r ≡ 0) (IsSuccess (yes_status r))
ends_by g b o r worked true a = ap (λ e. if is_optimal e then 0 else 10) a.right.ending
ends_by g b o r worked false a = either (is_optimal r.ending)

module _ (hands : HandsOver) (name : List ℕ) (budget : Budget) (order : Order) (before after : ShelfState) (r : Report) (s : HasSolution hands name budget order before after r) where
  pub written_solution : (text : List ℕ) → text ≡ report_text r → Writes hands (solving name budget order) before after (yes_status r) text
  written_solution text written = record {
    contents = game s.solved ∷ [];
    read = s.read;
    took = (tt, tt);
    takes = s.solution.is_served;
    ends = ends_by s.solved budget order r s.solution.answer.worked (is_scaled s.solved) s.solution.answer.answer;
    writes = record { report = r; answer = s.solution.answer; status_is = refl; written = written };
  }

  pub put_solution : (out put : SinkState) (status : ℕ) → status ≡ yes_status r → Takes out.bytes put.bytes (report_text r)
      → IsDone hands (solving name budget order) (surroundings before out) (surroundings after put) status
  put_solution out put status is taken =
      subst (IsDone hands (solving name budget order) (surroundings before out) (surroundings after put)) (sym is)
      (record { text = report_text r; writes = written_solution (report_text r) refl; taken = taken })
