-- Runs worked out by hand, by computing.
use Rattle.std.proofs.Common.{◌≡◌, ℕ, ◌+◌, ◌/◌, ◌%◌, ◌<◌, ◌≤◌, ◌^◌, List, [], ◌∷◌, ◌++◌, length, decimal, codes, Option, Some, None, IsSomeAnd, false, Ok, Err, refl, sym, ◌∙◌, ap, subst, arith, inl, inr}
use Rattle.std.proofs.lemmas.Fmt.{decimal_digit, decimal_step}
use Rattle.sg_model.specs.declared.fault.GameFault.{GameFault}
use Rattle.sg_model.specs.Games.{Game}
use Rattle.sg_model.specs.Examples.{one_player}
use Rattle.sg_format.specs.GameFiles.{game_of_bytes}
use Rattle.sg_format.proofs.Accepted.{accepted}
use Rattle.sg_tree.specs.declared.report.Report.{Report}
use Rattle.sg_cert.specs.Reading.{report_of}
use Rattle.sg_bounds.specs.Accepted.{IsAccepted}
use Rattle.sg_bounds.specs.Examples.{first_fact, one_type_report, second_fact, spent_report}
use Rattle.sg_bounds.proofs.Reports.{accepted_means}
use Rattle.sg_bounds.proofs.Worked.{open_is, two_parts, worked_reports}
use Rattle.sg_shelf.specs.Files.{Files, any_bytes, bytes_under}
use Rattle.sg_words.specs.Commands.{check, show, solve}
use Rattle.sg_cli.specs.Inputs as inputs
use Rattle.sg_cli.specs.Inputs.{Content, IsHandedAs, game_file, held_as, report_file}
use Rattle.sg_cli.specs.Commands.{Command}
use Rattle.sg_cli.specs.Checking.{checking, ends_yes, writes_yes}
use Rattle.sg_cli.specs.ExpectedStatus.{ByRest, ExpectedStatus}
use Rattle.sg_cli.specs.Judging.{IsJudged, judging}
use Rattle.sg_cli.specs.Showing.{ends_shown, writes_table}
use Rattle.sg_cli.specs.Solving.{solving}
use Rattle.sg_words.specs.WorkedCommands.{usual_budget, usual_order}
use Rattle.sg_cli.specs.WorkedRuns.{HoldsBytes, HoldsPair, WorkedChecks, WorkedLimits, WorkedRefusals, wrong_report}
use Rattle.sg_cli.specs.declared.input.InputFault.TheVariants as faults
use Rattle.sg_cli.specs.declared.refusal.CommandRefusal.TheVariants.{ReportWrong}
use Rattle.sg_cli.proofs.Completes.{by_faulty, by_longer, by_said}

-- ---- lines

two_digits : (n : ℕ) → 10 ≤ n → n < 100 → decimal n ≡ (48 + n / 10) ∷ (48 + n % 10) ∷ []
two_digits n low high =
    decimal_step n low (omega (arith, high)) ∙ ap (λ (front : List ℕ). front ++ (48 + n % 10) ∷ []) (decimal_digit (n / 10) (omega (arith, high)))

-- the last digit comes behind the others
last_digit : (n : ℕ) (front : List ℕ) → 10 ≤ n → n < 2 ^ 64 → decimal (n / 10) ≡ front → decimal n ≡ front ++ (48 + n % 10) ∷ []
last_digit n front low high is = decimal_step n low high ∙ ap (λ (f : List ℕ). f ++ (48 + n % 10) ∷ []) is

million_and_one : decimal 1000001 ≡ codes "1000001"
million_and_one =
    let ten : decimal 10 ≡ codes "10" = last_digit 10 (codes "1") (omega arith) (omega arith) (decimal_digit 1 (omega arith)) in
    let hundred : decimal 100 ≡ codes "100" = last_digit 100 (codes "10") (omega arith) (omega arith) ten in
    let thousand : decimal 1000 ≡ codes "1000" = last_digit 1000 (codes "100") (omega arith) (omega arith) hundred in
    let ten_thousand : decimal 10000 ≡ codes "10000" = last_digit 10000 (codes "1000") (omega arith) (omega arith) thousand in
    let hundred_thousand : decimal 100000 ≡ codes "100000" = last_digit 100000 (codes "10000") (omega arith) (omega arith) ten_thousand in
    last_digit 1000001 (codes "100000") (omega arith) (omega arith) hundred_thousand

pub worked_refusals : WorkedRefusals
worked_refusals =
    let one : decimal 1 ≡ 49 ∷ [] = decimal_digit 1 (omega arith) in
    let two : decimal 2 ≡ 50 ∷ [] = decimal_digit 2 (omega arith) in
    let three : decimal 3 ≡ 51 ∷ [] = decimal_digit 3 (omega arith) in
    let four : decimal 4 ≡ 52 ∷ [] = decimal_digit 4 (omega arith) in
    let five : decimal 5 ≡ 53 ∷ [] = decimal_digit 5 (omega arith) in
    let six : decimal 6 ≡ 54 ∷ [] = decimal_digit 6 (omega arith) in
    let nine : decimal 9 ≡ 57 ∷ [] = decimal_digit 9 (omega arith) in
    let ten : decimal 10 ≡ 49 ∷ 48 ∷ [] = two_digits 10 (omega arith) (omega arith) in
    let line_18 : decimal 18 ≡ 49 ∷ 56 ∷ [] = two_digits 18 (omega arith) (omega arith) in
    let line_23 : decimal 23 ≡ 50 ∷ 51 ∷ [] = two_digits 23 (omega arith) (omega arith) in
    record {
      words = (refl, refl);
      game_not_read = (refl, refl);
      game_too_long = (refl, refl);
      document = (refl, rw ten refl);
      target = (refl, rw (ten, one) refl);
      row = (refl, rw (ten, two) refl);
      schedule = (refl, rw (ten, three) refl);
      resource = (refl, rw (ten, four) refl);
      attacker = (refl, rw (ten, five) refl);
      not_yet = (refl, refl);
      report_not_read = (refl, refl);
      report_too_long = (refl, refl);
      report_refused = (refl, rw (nine, line_23) refl);
      report_wrong = (refl, rw (six, line_18) refl);
      roster_too_long = (refl, rw million_and_one refl);
      no_shape = (refl, refl);
      not_written = (refl, refl);
      memory = (refl, refl);
    }

-- ---- limits

holds_more : (files : Files) (name bytes : List ℕ) (limit count : ℕ) → HoldsBytes files name bytes count → limit < count → IsSomeAnd (bytes_under files name) (λ bytes. limit < length bytes)
holds_more files name bytes limit count h more =
    let long : IsSomeAnd (Some bytes) (λ bytes. limit < length bytes) = omega (arith, h.count, more) in
    subst (λ (file : Option (List ℕ)). IsSomeAnd file (λ bytes. limit < length bytes)) (sym h.stands) long

says : (files : Files) (name bytes : List ℕ) (r : _) → bytes_under files name ≡ Some bytes → length bytes ≤ 4194304 → game_of_bytes bytes ≡ r
    → IsHandedAs any_bytes (Some files) (game_file name) (held_as inputs.game faults.Game r)
says files name bytes r holds short e = record { bytes = bytes; handed = tt; reads = record { may_hold = holds; within = short }; holds = ap (held_as inputs.game faults.Game) e }

spells : (files : Files) (name text : List ℕ) (r : _) → bytes_under files name ≡ Some text → length text ≤ 536870912 → report_of text ≡ r
    → IsHandedAs any_bytes (Some files) (report_file name) (held_as inputs.report faults.Report r)
spells files name text r holds short e = record { bytes = text; handed = tt; reads = record { may_hold = holds; within = short }; holds = ap (held_as inputs.report faults.Report) e }

pub worked_limits : WorkedLimits
worked_limits = record {
  longest_game = λ files name bytes fault h e.
      by_faulty any_bytes (solving name usual_budget usual_order) files 6 [] (game_file name) [] (faults.Game fault) tt (says files name bytes (Err fault) h.stands (omega (arith, h.count)) e) refl;
  longer_game = λ files name bytes h. by_longer any_bytes (solving name usual_budget usual_order) files 5 [] (game_file name) [] tt (holds_more files name bytes 4194304 4194305 h (omega arith)) refl;
  longest_report = λ files name named bytes text fault h e k f.
      by_said any_bytes (checking name named) files 7 [] (game_file name) (report_file named ∷ []) (inputs.game one_player) tt (says files name bytes (Ok one_player) h.stands (omega (arith, h.count)) e)
      (by_faulty any_bytes (checking name named) files 7 (inputs.game one_player ∷ []) (report_file named) [] (faults.Report fault) tt
      (spells files named text (Err fault) k.stands (omega (arith, k.count)) f) refl);
  longer_report = λ files name named bytes text h e k.
      by_said any_bytes (checking name named) files 5 [] (game_file name) (report_file named ∷ []) (inputs.game one_player) tt (says files name bytes (Ok one_player) h.stands (omega (arith, h.count)) e)
      (by_longer any_bytes (checking name named) files 5 (inputs.game one_player ∷ []) (report_file named) [] tt (holds_more files named text 536870912 536870913 k (omega arith)) refl);
}

-- ---- reports

module _ (ends : List Content → ℕ → Type 0) (writes : List Content → ℕ → List ℕ → Type 0) (files : Files) (name named : List ℕ) (r : Report) (h : HoldsPair files name named r) (status : ℕ) where
  abbrev command : Command
  command = record { plan = judging name named; ends = ends; writes = writes; is_formed_late = false }

  -- what is due once both files are read
  both : ByRest command files (inputs.game one_player ∷ inputs.report r ∷ []) [] status → ExpectedStatus command files status
  both due =
      by_said any_bytes command files status [] (game_file name) (report_file named ∷ []) (inputs.game one_player) tt (says files name h.bytes (Ok one_player) h.holds_game (omega (arith, h.few)) h.says_game)
      (by_said any_bytes command files status (inputs.game one_player ∷ []) (report_file named) [] (inputs.report r) tt
      (spells files named h.text (Ok r) h.holds_report (omega (arith, h.short)) h.says_report) due)

  -- a report that is accepted
  due_yes : IsAccepted one_player r → ends (inputs.game one_player ∷ inputs.report r ∷ []) status → ExpectedStatus command files status
  due_yes is e =
      both (inr (record { accepted = is; means = accepted_means one_player (accepted h.bytes one_player h.says_game) r is }, e))

eleven : decimal 11 ≡ 49 ∷ 49 ∷ []
eleven = two_digits 11 (omega arith) (omega arith)

pub worked_checks : WorkedChecks
worked_checks =
    let one : decimal 1 ≡ 49 ∷ [] = decimal_digit 1 (omega arith) in
    let two : decimal 2 ≡ 50 ∷ [] = decimal_digit 2 (omega arith) in
    let three : decimal 3 ≡ 51 ∷ [] = decimal_digit 3 (omega arith) in
    let four : decimal 4 ≡ 52 ∷ [] = decimal_digit 4 (omega arith) in
    record {
      optimal = λ files name named h. (
        (refl, rw (eleven, three) refl),
        due_yes ends_yes writes_yes files name named one_type_report h 0 worked_reports.one_type refl,
        due_yes ends_shown writes_table files name named one_type_report h 0 worked_reports.one_type refl,
      );
      gap = λ files name named h. (
        (refl, rw (one, two, four) refl),
        due_yes ends_yes writes_yes files name named spent_report h 10 worked_reports.spent refl,
        due_yes ends_shown writes_table files name named spent_report h 0 worked_reports.spent refl,
      );
      wrong = λ files name named h. (
        both ends_yes writes_yes files name named wrong_report h 7 (inl (ReportWrong 5 3, worked_reports.other_value, refl)),
        both ends_shown writes_table files name named wrong_report h 7 (inl (ReportWrong 5 3, worked_reports.other_value, refl)),
      );
    }
