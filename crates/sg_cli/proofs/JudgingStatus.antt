-- Told files decide one status for the commands that judge a report on a game.
use Rattle.std.proofs.Common.{◌≡◌, ◌≢◌, ◌⊎◌, ℕ, Bool, true, false, ◌==◌, List, [], ◌∷◌, length, Ok, refl, sym, ap, ◌∙◌, inl, inr, if◌then◌else◌}
use Rattle.sg_model.specs.Games.{Game}
use Rattle.sg_model.specs.Limits.{IsGame}
use Rattle.sg_format.specs.GameFiles.{game_of_bytes}
use Rattle.sg_format.proofs.Accepted.{accepted}
use Rattle.sg_tree.specs.declared.report.Report.{Report}
use Rattle.sg_cert.specs.Reading.{report_of}
use Rattle.sg_bounds.specs.Accepted.{IsAccepted, is_optimal}
use Rattle.sg_bounds.specs.Checking.{IsRefused}
use Rattle.sg_bounds.proofs.Answering.{each_is_answered}
use Rattle.sg_bounds.proofs.Reports.{accepted_means}
use Rattle.sg_bounds.proofs.Verdicts.{refusal_is_one}
use Rattle.sg_shelf.specs.Files.{Files, bytes_under}
use Rattle.sg_cli.specs.Inputs.{Content, content_of, game, report, report_file}
use Rattle.sg_cli.specs.Commands.{Command, IsSuccess}
use Rattle.sg_cli.specs.Checking.{ends_yes}
use Rattle.sg_cli.specs.Showing.{ends_shown}
use Rattle.sg_cli.specs.ExpectedStatus.{ByContent, ByFile, ByPlan, ByRest, ExpectedStatus}
use Rattle.sg_cli.specs.Judging.{IsJudged, judging, refuses_wrong}
use Rattle.sg_cli.specs.Refusals.{own_status}
use Rattle.sg_cli.proofs.OneStatus.{IsOne, formed, just, one_file, one_game, one_refusal, one_report, one_taken}
use Rattle.sg_cli.specs.declared.input.InputKind.TheVariants as kinds
use Rattle.sg_cli.specs.declared.refusal.CommandRefusal.{CommandRefusal}
use Rattle.sg_cli.specs.declared.refusal.CommandRefusal.TheVariants.{NotYet, ReportWrong, RosterTooLong, NoShape}

-- ---- what is refused

no_game : (g : Game) (own : CommandRefusal) → ¬ (refuses_wrong (game g ∷ []) own)
no_game g NotYet h = h
no_game g (ReportWrong line reason) h = h
no_game g (RosterTooLong total) h = h
no_game g NoShape h = h

wrong_report : (g : Game) (r : Report) (own : CommandRefusal) → refuses_wrong (game g ∷ report r ∷ []) own → own_status own ≡ 7
wrong_report g r NotYet h = absurd h
wrong_report g r (ReportWrong line reason) h = refl
wrong_report g r (RosterTooLong total) h = absurd h
wrong_report g r NoShape h = absurd h

right_report : (g : Game) (r : Report) → IsAccepted g r → (own : CommandRefusal) → ¬ (refuses_wrong (game g ∷ report r ∷ []) own)
right_report g r is NotYet h = h
right_report g r is (ReportWrong line reason) h = (refusal_is_one g r).0 is line reason h
right_report g r is (RosterTooLong total) h = h
right_report g r is NoShape h = h

-- ---- by the files

module _ (files : Files) (name named : List ℕ) (ends : List Content → ℕ → Type 0) (writes : List Content → ℕ → List ℕ → Type 0) where
  abbrev command : Command
  command = record { plan = judging name named; ends = ends; writes = writes; is_formed_late = false }

  abbrev by_both : Game → Report → ℕ → Type 0
  by_both g r = ByRest command files (game g ∷ report r ∷ []) []

  module _ (one : (g : Game) (r : Report) → IsOne (ends (game g ∷ report r ∷ []))) where
    -- by a report that was read
    by_report : (g : Game) → IsGame g → (r : Report) → IsAccepted g r ⊎ ((line : ℕ) × (reason : ℕ) × IsRefused g r line reason) → IsOne (by_both g r)
    by_report g is r (inl holds) =
        one_taken (judging name named) (game g ∷ report r ∷ []) (ends (game g ∷ report r ∷ [])) (record { accepted = holds; means = accepted_means g is r holds })
        (right_report g r holds) (one g r)
    by_report g is r (inr h) =
        one_refusal (judging name named) (game g ∷ report r ∷ []) (ends (game g ∷ report r ∷ [])) (ReportWrong h.0 h.1) h.2 (wrong_report g r)
        (λ taken. (refusal_is_one g r).0 taken.accepted h.0 h.1 h.2)

    -- by a report's file, behind a game that was read
    abbrev by_text : Game → List ℕ → ℕ → Type 0
    by_text g bytes = ByContent (λ content. ByRest command files (game g ∷ content ∷ []) []) (content_of kinds.Report bytes)

    by_file : (g : Game) → IsGame g → IsOne (ByFile 536870912 (by_text g) (bytes_under files named))
    by_file g is =
        one_file 536870912 (by_text g)
        (λ bytes. one_report (λ content. ByRest command files (game g ∷ content ∷ []) []) (report_of bytes) (λ r e. by_report g is r (each_is_answered g r (formed bytes r e)))) (bytes_under files named)

    -- by a game that was read
    by_game : (g : Game) → IsGame g → IsOne (ByRest command files (game g ∷ []) (report_file named ∷ []))
    by_game g is = one_taken (judging name named) (game g ∷ []) (ByFile 536870912 (by_text g) (bytes_under files named)) tt (no_game g) (by_file g is)

    -- by a game's file
    abbrev by_bytes : List ℕ → ℕ → Type 0
    by_bytes bytes = ByContent (λ content. ByRest command files (content ∷ []) (report_file named ∷ [])) (content_of kinds.Game bytes)

    pub one_judging : IsOne (ExpectedStatus command files)
    one_judging =
        one_taken (judging name named) [] (ByFile 4194304 by_bytes (bytes_under files name)) tt (λ own h. h)
        (one_file 4194304 by_bytes
        (λ bytes. one_game (λ content. ByRest command files (content ∷ []) (report_file named ∷ [])) (game_of_bytes bytes) (λ g e. by_game g (accepted bytes g e))) (bytes_under files name))

-- ---- success

yes : (b : Bool) (status : ℕ) → status ≡ (if b then 0 else 10) → IsSuccess status
yes true status h = inl h
yes false status h = inr h

pub success_checking : (contents : List Content) (status : ℕ) → ends_yes contents status → IsSuccess status
success_checking [] status h = absurd h
success_checking (game g ∷ []) status h = absurd h
success_checking (game g ∷ game other ∷ contents) status h = absurd h
success_checking (game g ∷ report r ∷ []) status h = yes (is_optimal r.ending) status h
success_checking (game g ∷ report r ∷ content ∷ contents) status h = absurd h
success_checking (report r ∷ contents) status h = absurd h

pub success_showing : (contents : List Content) (status : ℕ) → ends_shown contents status → IsSuccess status
success_showing [] status h = absurd h
success_showing (game g ∷ []) status h = absurd h
success_showing (game g ∷ game other ∷ contents) status h = absurd h
success_showing (game g ∷ report r ∷ []) status h = inl h
success_showing (game g ∷ report r ∷ content ∷ contents) status h = absurd h
success_showing (report r ∷ contents) status h = absurd h
