-- Told files decide one status for `roster`: as for a command that judges a report, with 8 for a total above a million.
use Rattle.std.proofs.Common.{◌≡◌, ◌⊎◌, ℕ, ℤ, pos, Bool, true, false, MatchBool, nat_lt, List, [], ◌∷◌, length, Option, Some, None, Result, Ok, Err, refl, sym, subst, arith, inl, inr}
use Rattle.std.proofs.lemmas.Int.{by_lt_z, ints}
use Rattle.sg_model.specs.declared.fault.GameFault.{GameFault}
use Rattle.sg_model.specs.Games.{Game}
use Rattle.sg_format.specs.GameFiles.{game_of_bytes}
use Rattle.sg_tickets.specs.Expansion.{IsLongTotal}
use Rattle.sg_tree.specs.declared.report.Report.{Report}
use Rattle.sg_cert.specs.declared.fault.ReportFault.{ReportFault}
use Rattle.sg_cert.specs.Reading.{report_of}
use Rattle.sg_shelf.specs.Files.{Files, bytes_under}
use Rattle.sg_cli.specs.Inputs.{Content, content_of, game, held_as, report, report_file}
use Rattle.sg_cli.specs.Commands.{Command, IsSuccess, Plan}
use Rattle.sg_cli.specs.ExpectedStatus.{ByContent, ByFile, ByPlan, ByRest, ExpectedStatus}
use Rattle.sg_cli.specs.Judging.{judging, refuses_wrong}
use Rattle.sg_cli.specs.Rostering.{ends_rostered, refuses_unrostered, rostering, rostering_plan}
use Rattle.sg_cli.specs.declared.input.InputFault.TheVariants as faults
use Rattle.sg_cli.specs.declared.input.InputKind.TheVariants as kinds
use Rattle.sg_cli.specs.declared.refusal.CommandRefusal.{CommandRefusal}
use Rattle.sg_cli.specs.declared.refusal.CommandRefusal.TheVariants.{NotYet, ReportWrong, RosterTooLong, NoShape}
use Rattle.sg_cli.proofs.JudgingStatus.{one_judging}
use Rattle.sg_cli.proofs.OneStatus.{IsOne}
use Rattle.sg_cli.proofs.RosterStops.{refuses_so, starts, takes_one}

-- ---- one condition for another

by_content : (P Q : Content → ℕ → Type 0) (status : ℕ) → ((g : Game) → P (game g) status → Q (game g) status) → (says : Result Game GameFault)
    → ByContent P (held_as game faults.Game says) status → ByContent Q (held_as game faults.Game says) status
by_content P Q status each (Ok g) h = each g h
by_content P Q status each (Err fault) h = h

by_report : (P Q : Content → ℕ → Type 0) (status : ℕ) → ((r : Report) → P (report r) status → Q (report r) status) → (says : Result Report ReportFault)
    → ByContent P (held_as report faults.Report says) status → ByContent Q (held_as report faults.Report says) status
by_report P Q status each (Ok r) h = each r h
by_report P Q status each (Err fault) h = h

by_length : (b : Bool) (X P Q : Type 0) → (P → Q) → MatchBool b X P → MatchBool b X Q
by_length true X P Q each h = h
by_length false X P Q each h = each h

by_file : (limit : ℕ) (P Q : List ℕ → ℕ → Type 0) (status : ℕ) → ((bytes : List ℕ) → P bytes status → Q bytes status) → (file : Option (List ℕ)) → ByFile limit P file status → ByFile limit Q file status
by_file limit P Q status each None h = h
by_file limit P Q status each (Some bytes) h = by_length (nat_lt limit (length bytes)) (status ≡ 5) (P bytes status) (Q bytes status) (each bytes) h

by_plan : (p q : Plan) (done : List Content) (P Q : ℕ → Type 0) (status : ℕ) → ((own : CommandRefusal) → p.refuses done own → q.refuses done own) → (p.takes done → q.takes done)
    → (P status → Q status) → ByPlan p done P status → ByPlan q done Q status
by_plan p q done P Q status refuses takes next (inl h) = inl (h.0, refuses h.0 h.1, h.2)
by_plan p q done P Q status refuses takes next (inr h) = inr (takes h.0, next h.1)

-- ---- the status of an accepted report

-- 8 where the total is above a million, and else 0
abbrev by_total : ℤ → ℕ → Type 0
by_total total status = (IsLongTotal total × (status ≡ 8)) ⊎ ((¬ (IsLongTotal total)) × (status ≡ 0))

abbrev ends_by_total : List Content → ℕ → Type 0
ends_by_total (game g ∷ report r ∷ []) status = by_total r.tickets.total status
ends_by_total _ status = ⊥

one_long : (total : ℤ) → IsLongTotal total → IsOne (by_total total)
one_long total long = (8, inl (long, refl), λ other h. elim h [ inl is ↦ is.1 | inr is ↦ absurd (is.0 long) ])

one_few : (total : ℤ) → ¬ (IsLongTotal total) → IsOne (by_total total)
one_few total few = (0, inr (few, refl), λ other h. elim h [ inl is ↦ absurd (few is.0) | inr is ↦ is.1 ])

one_total : (total : ℤ) → IsOne (by_total total)
one_total total = by_lt_z (pos 1000000) total (one_long total) (λ least. one_few total (λ long. omega (arith, ints, least, long)))

-- ---- two commands that are due the same

module _ (files : Files) (name named : List ℕ) (seed : ℕ) where
  abbrev judged : Command
  judged = record { plan = judging name named; ends = ends_by_total; writes = λ contents status text. ⊥; is_formed_late = false }

  -- what is refused before the report was read is refused by both
  back_one : (content : Content) (own : CommandRefusal) → refuses_unrostered (content ∷ []) own → refuses_wrong (content ∷ []) own
  back_one content NotYet h = h
  back_one content (ReportWrong line reason) h = h
  back_one content NoShape h = h
  back_one (game g) (RosterTooLong total) h = absurd h.long
  back_one (report r) (RosterTooLong total) h = absurd h.long

  back_none : (own : CommandRefusal) → refuses_unrostered [] own → refuses_wrong [] own
  back_none NotYet h = h
  back_none (ReportWrong line reason) h = h
  back_none NoShape h = h
  back_none (RosterTooLong total) h = absurd h.long

  module _ (status : ℕ) where
    -- both were read
    forth_both : (g : Game) (r : Report) → ByRest judged files (game g ∷ report r ∷ []) [] status → ByRest (rostering name named seed) files (game g ∷ report r ∷ []) [] status
    forth_both g r (inl h) = inl (h.0, refuses_so (game g ∷ report r ∷ []) h.0 h.1, h.2)
    forth_both g r (inr (takes, inl long)) = inl (RosterTooLong r.tickets.total, record { accepted = takes; long = (refl, long.0) }, long.1)
    forth_both g r (inr (takes, inr few)) = inr (record { accepted = takes; few = λ total h. few.0 (subst IsLongTotal (sym h.0) h.1) }, few.1)

    back_both : (g : Game) (r : Report) → ByRest (rostering name named seed) files (game g ∷ report r ∷ []) [] status → ByRest judged files (game g ∷ report r ∷ []) [] status
    back_both g r (inl (NotYet, h, e)) = inl (NotYet, h, e)
    back_both g r (inl (ReportWrong line reason, h, e)) = inl (ReportWrong line reason, h, e)
    back_both g r (inl (NoShape, h, e)) = inl (NoShape, h, e)
    back_both g r (inl (RosterTooLong total, h, e)) = inr (h.accepted, inl (subst IsLongTotal (sym h.long.0) h.long.1, e))
    back_both g r (inr (takes, e)) = inr (takes.accepted, inr (λ long. takes.few r.tickets.total (refl, long), e))

    -- by the report's file
    abbrev texts : Command → Game → List ℕ → ℕ → Type 0
    texts command g bytes = ByContent (λ content. ByRest command files (game g ∷ content ∷ []) []) (content_of kinds.Report bytes)

    forth_game : (g : Game) → ByRest judged files (game g ∷ []) (report_file named ∷ []) status → ByRest (rostering name named seed) files (game g ∷ []) (report_file named ∷ []) status
    forth_game g h =
        by_plan (judging name named) (rostering_plan name named) (game g ∷ []) (ByFile 536870912 (texts judged g) (bytes_under files named)) (ByFile 536870912 (texts (rostering name named seed) g) (bytes_under files named)) status
        (refuses_so (game g ∷ [])) (takes_one (game g))
        (by_file 536870912 (texts judged g) (texts (rostering name named seed) g) status
        (λ bytes. by_report (λ content. ByRest judged files (game g ∷ content ∷ []) []) (λ content. ByRest (rostering name named seed) files (game g ∷ content ∷ []) []) status (forth_both g) (report_of bytes))
        (bytes_under files named)) h

    back_game : (g : Game) → ByRest (rostering name named seed) files (game g ∷ []) (report_file named ∷ []) status → ByRest judged files (game g ∷ []) (report_file named ∷ []) status
    back_game g h =
        by_plan (rostering_plan name named) (judging name named) (game g ∷ []) (ByFile 536870912 (texts (rostering name named seed) g) (bytes_under files named)) (ByFile 536870912 (texts judged g) (bytes_under files named)) status
        (back_one (game g)) (λ takes. takes.accepted)
        (by_file 536870912 (texts (rostering name named seed) g) (texts judged g) status
        (λ bytes. by_report (λ content. ByRest (rostering name named seed) files (game g ∷ content ∷ []) []) (λ content. ByRest judged files (game g ∷ content ∷ []) []) status (back_both g) (report_of bytes))
        (bytes_under files named)) h

    -- and by the game's
    abbrev games : Command → List ℕ → ℕ → Type 0
    games command bytes = ByContent (λ content. ByRest command files (content ∷ []) (report_file named ∷ [])) (content_of kinds.Game bytes)

    forth : ExpectedStatus judged files status → ExpectedStatus (rostering name named seed) files status
    forth h =
        by_plan (judging name named) (rostering_plan name named) [] (ByFile 4194304 (games judged) (bytes_under files name)) (ByFile 4194304 (games (rostering name named seed)) (bytes_under files name)) status
        (refuses_so []) (λ takes. starts)
        (by_file 4194304 (games judged) (games (rostering name named seed)) status
        (λ bytes. by_content (λ content. ByRest judged files (content ∷ []) (report_file named ∷ [])) (λ content. ByRest (rostering name named seed) files (content ∷ []) (report_file named ∷ [])) status forth_game (game_of_bytes bytes))
        (bytes_under files name)) h

    back : ExpectedStatus (rostering name named seed) files status → ExpectedStatus judged files status
    back h =
        by_plan (rostering_plan name named) (judging name named) [] (ByFile 4194304 (games (rostering name named seed)) (bytes_under files name)) (ByFile 4194304 (games judged) (bytes_under files name)) status
        back_none (λ takes. takes.accepted)
        (by_file 4194304 (games (rostering name named seed)) (games judged) status
        (λ bytes. by_content (λ content. ByRest (rostering name named seed) files (content ∷ []) (report_file named ∷ [])) (λ content. ByRest judged files (content ∷ []) (report_file named ∷ [])) status back_game (game_of_bytes bytes))
        (bytes_under files name)) h

  pub one_rostering : IsOne (ExpectedStatus (rostering name named seed) files)
  one_rostering =
      let one = one_judging files name named ends_by_total (λ contents status text. ⊥) (λ g r. one_total r.tickets.total) in
      (one.0, forth one.0 one.1, λ other h. one.2 other (back other h))

-- ---- success

pub success_rostering : (contents : List Content) (status : ℕ) → ends_rostered contents status → IsSuccess status
success_rostering [] status h = absurd h
success_rostering (game g ∷ []) status h = absurd h
success_rostering (game g ∷ game other ∷ contents) status h = absurd h
success_rostering (game g ∷ report r ∷ []) status h = inl h
success_rostering (game g ∷ report r ∷ content ∷ contents) status h = absurd h
success_rostering (report r ∷ contents) status h = absurd h
