-- What the refusals of the commands' steps come of in the whole run.
use Rattle.std.proofs.Common.{◌≡◌, ℕ, List, [], ◌∷◌, length, Ok, Err, refl, ap}
use Rattle.sg_model.specs.Games.{Game}
use Rattle.sg_format.specs.GameFiles.{game_of_bytes}
use Rattle.sg_tree.specs.declared.report.Report.{Report}
use Rattle.sg_cert.specs.Reading.{report_of}
use Rattle.sg_shelf.specs.Files.{HandsOver}
use Rattle.sg_shelf.specs.States.{ShelfState}
use Rattle.sg_options.specs.declared.budget.Budget.{Budget}
use Rattle.sg_options.specs.declared.order.Order.{Order}
use Rattle.sg_cli.specs.Inputs.{Content, Input, game, game_file, held_as, report, report_file}
use Rattle.sg_cli.specs.Commands.{Plan}
use Rattle.sg_cli.specs.Progress.{HasRead, ReachesInput, reads_of}
use Rattle.sg_cli.specs.Effects.{Stops}
use Rattle.sg_cli.specs.Judging.{judging, refuses_wrong}
use Rattle.sg_cli.specs.Solving.{solving}
use Rattle.sg_cli.specs.Steps.{GivesContent, GivesNoGame, GivesNone, GivesNoReport, SolvingFails}
use Rattle.sg_cli.specs.declared.input.InputFault.TheVariants as faults
use Rattle.sg_cli.specs.declared.refusal.CommandRefusal.{CommandRefusal}
use Rattle.sg_cli.specs.declared.refusal.Refusal.{Refusal}
use Rattle.sg_cli.specs.declared.refusal.Refusal.TheVariants.{Words, NotRead, TooLong, Refused, Own, NotWritten, Memory}
use Rattle.sg_cli.proofs.Progress.{all_read, none_read, stops_behind, stops_faulty, stops_reading}

module _ (hands : HandsOver) where
  -- the first file is asked for
  pub at_first : (plan : Plan) (a : ShelfState) (file : Input) (rest : List Input) → plan.inputs ≡ file ∷ rest → plan.takes [] → ReachesInput hands plan a a file
  at_first plan a file rest e takes = record { front = []; rest = rest; in_order = e; contents = []; read = none_read hands a; took = tt; takes = takes }

  -- and the second
  pub at_second : (plan : Plan) (a b : ShelfState) (one two : Input) (rest : List Input) (content : Content) → plan.inputs ≡ one ∷ two ∷ rest → plan.takes [] → plan.takes (content ∷ [])
      → HasRead hands a b (one ∷ []) (content ∷ []) → ReachesInput hands plan a b two
  at_second plan a b one two rest content e starts takes h = record { front = one ∷ []; rest = rest; in_order = e; contents = content ∷ []; read = h; took = (starts, tt); takes = takes }

  -- bytes that give no game, or no report
  pub no_game : (plan : Plan) (a b c : ShelfState) (name bytes : List ℕ) (e : Refusal) → ReachesInput hands plan a b (game_file name) → GivesContent hands b c (game_file name) bytes
      → GivesNoGame (game_of_bytes bytes) e → Stops hands plan a c e
  no_game plan a b c name bytes Words r g h = absurd h
  no_game plan a b c name bytes (NotRead kind) r g h = absurd h
  no_game plan a b c name bytes (TooLong kind) r g h = absurd h
  no_game plan a b c name bytes (Refused (faults.Game fault)) r g h = stops_faulty hands plan a b (game_file name) r c bytes (faults.Game fault) g (ap (held_as game faults.Game) h)
  no_game plan a b c name bytes (Refused (faults.Report fault)) r g h = absurd h
  no_game plan a b c name bytes (Own own) r g h = absurd h
  no_game plan a b c name bytes NotWritten r g h = absurd h
  no_game plan a b c name bytes Memory r g h = stops_behind hands plan a b (game_file name) r c bytes g

  pub no_report : (plan : Plan) (a b c : ShelfState) (name bytes : List ℕ) (e : Refusal) → ReachesInput hands plan a b (report_file name) → GivesContent hands b c (report_file name) bytes
      → GivesNoReport (report_of bytes) e → Stops hands plan a c e
  no_report plan a b c name bytes Words r g h = absurd h
  no_report plan a b c name bytes (NotRead kind) r g h = absurd h
  no_report plan a b c name bytes (TooLong kind) r g h = absurd h
  no_report plan a b c name bytes (Refused (faults.Game fault)) r g h = absurd h
  no_report plan a b c name bytes (Refused (faults.Report fault)) r g h = stops_faulty hands plan a b (report_file name) r c bytes (faults.Report fault) g (ap (held_as report faults.Report) h)
  no_report plan a b c name bytes (Own own) r g h = absurd h
  no_report plan a b c name bytes NotWritten r g h = absurd h
  no_report plan a b c name bytes Memory r g h = stops_behind hands plan a b (report_file name) r c bytes g

  -- ---- `solve`

  module _ (name : List ℕ) (budget : Budget) (order : Order) (a b : ShelfState) where
    pub solve_unread : (e : Refusal) → GivesNone a b (game_file name) e → Stops hands (solving name budget order).plan a b e
    solve_unread e h = stops_reading hands (solving name budget order).plan a a (game_file name) (at_first (solving name budget order).plan a (game_file name) [] refl tt) b e h

    pub solve_no_game : (bytes : List ℕ) (e : Refusal) → GivesContent hands a b (game_file name) bytes → GivesNoGame (game_of_bytes bytes) e → Stops hands (solving name budget order).plan a b e
    solve_no_game bytes e g h = no_game (solving name budget order).plan a a b name bytes e (at_first (solving name budget order).plan a (game_file name) [] refl tt) g h

    -- a game that gives no report
    pub unsolved : (g : Game) (e : Refusal) → HasRead hands a b (game_file name ∷ []) (game g ∷ []) → SolvingFails g e → Stops hands (solving name budget order).plan a b e
    unsolved g Words r h = absurd h
    unsolved g (NotRead kind) r h = absurd h
    unsolved g (TooLong kind) r h = absurd h
    unsolved g (Refused fault) r h = absurd h
    unsolved g (Own own) r h = record { front = game_file name ∷ []; rest = []; in_order = refl; contents = game g ∷ []; read = r; took = (tt, tt); refuses = h }
    unsolved g NotWritten r h = absurd h
    unsolved g Memory r h = all_read hands a b (game_file name ∷ []) (game g ∷ []) r

  -- ---- a report on a game

  module _ (name named : List ℕ) (a b : ShelfState) where
    pub judge_unread : (e : Refusal) → GivesNone a b (game_file name) e → Stops hands (judging name named) a b e
    judge_unread e h = stops_reading hands (judging name named) a a (game_file name) (at_first (judging name named) a (game_file name) (report_file named ∷ []) refl tt) b e h

    pub judge_no_game : (bytes : List ℕ) (e : Refusal) → GivesContent hands a b (game_file name) bytes → GivesNoGame (game_of_bytes bytes) e → Stops hands (judging name named) a b e
    judge_no_game bytes e g h = no_game (judging name named) a a b name bytes e (at_first (judging name named) a (game_file name) (report_file named ∷ []) refl tt) g h

    module _ (c : ShelfState) (g : Game) (r : HasRead hands a b (game_file name ∷ []) (game g ∷ [])) where
      second : ReachesInput hands (judging name named) a b (report_file named)
      second = at_second (judging name named) a b (game_file name) (report_file named) [] (game g) refl tt tt r

      pub judge_no_file : (e : Refusal) → GivesNone b c (report_file named) e → Stops hands (judging name named) a c e
      judge_no_file e h = stops_reading hands (judging name named) a b (report_file named) second c e h

      pub judge_no_report : (bytes : List ℕ) (e : Refusal) → GivesContent hands b c (report_file named) bytes → GivesNoReport (report_of bytes) e → Stops hands (judging name named) a c e
      judge_no_report bytes e k h = no_report (judging name named) a b c named bytes e second k h

    -- a report that is refused
    pub wrong : (g : Game) (r : Report) (own : CommandRefusal) → HasRead hands a b (game_file name ∷ report_file named ∷ []) (game g ∷ report r ∷ [])
        → refuses_wrong (game g ∷ report r ∷ []) own → Stops hands (judging name named) a b (Own own)
    wrong g r own h refuses =
        record { front = game_file name ∷ report_file named ∷ []; rest = []; in_order = refl; contents = game g ∷ report r ∷ []; read = h; took = (tt, (tt, tt)); refuses = refuses }
