-- What the steps of `roster` come of in the whole run.
use Rattle.std.proofs.Common.{◌≡◌, ℕ, suc, ℤ, ◌+◌, ◌<◌, ◌≤◌, List, [], ◌∷◌, ◌++◌, length, length-append, Option, Result, Ok, Err, refl, sym, ◌∙◌, ap, subst, arith}
use Rattle.std.specs.Prelude.{All, IsPermutation, Vec}
use Rattle.std.specs.declared.alloc.Global.{Global}
use Rattle.sg_model.specs.Commitments.{AreLegal}
use Rattle.sg_model.specs.declared.ticket.Ticket.{Ticket}
use Rattle.sg_model.specs.Games.{Game}
use Rattle.sg_bounds.specs.Accepted.{IsAccepted}
use Rattle.sg_commit.specs.Committed.{Committed}
use Rattle.sg_roster.specs.Days.{days_of}
use Rattle.sg_roster.specs.Rows.{roster_text}
use Rattle.sg_shelf.specs.Files.{Files, HandsOver}
use Rattle.sg_shelf.specs.States.{ShelfState, SinkState}
use Rattle.sg_shelf.specs.Taken.{TakesFront}
use Rattle.sg_tickets.specs.Expansion.{IsLongTotal, places_of}
use Rattle.sg_tickets.specs.ExpansionLaws.{ArePositive, CoverAsTickets}
use Rattle.sg_tickets.specs.declared.expansion.LongFault.{LongFault}
use Rattle.sg_tickets.proofs.Facts.{days_cover_as_tickets}
use Rattle.sg_tree.specs.declared.report.Report.{Report}
use Rattle.sg_cli.specs.Inputs.{Content, Hold, Input, game, game_file, report, report_file}
use Rattle.sg_cli.specs.Commands.{TakesBefore}
use Rattle.sg_cli.specs.Effects.{IsCutShort, Stops, Writes, surroundings}
use Rattle.sg_cli.specs.Judging.{judging, refuses_wrong, takes_accepted}
use Rattle.sg_cli.specs.Progress.{HasRead, ReachesInput}
use Rattle.sg_cli.specs.RosterSteps.{HasOrder, HasRoster, OrderFails}
use Rattle.sg_cli.specs.Steps.{HasAccepted}
use Rattle.sg_cli.specs.Rostering.{HasLongTotal, IsRoster, IsRostered, refuses_unrostered, rostering, rostering_plan}
use Rattle.sg_cli.specs.declared.refusal.CommandRefusal.{CommandRefusal}
use Rattle.sg_cli.specs.declared.refusal.CommandRefusal.TheVariants.{NotYet, ReportWrong, RosterTooLong, NoShape}
use Rattle.sg_cli.specs.declared.refusal.Refusal.{Refusal}
use Rattle.sg_cli.specs.declared.refusal.Refusal.TheVariants.{Words, NotRead, TooLong, Refused, Own, NotWritten, Memory}
use Rattle.sg_cli.proofs.Progress.{all_read}

-- ---- what is taken

-- no total is too long before the report was read
pub starts : IsRostered []
starts = record { accepted = tt; few = λ total h. h }

one_is_short : (content : Content) (total : ℤ) → ¬ (HasLongTotal (content ∷ []) total)
one_is_short (game g) total h = h
one_is_short (report r) total h = h

pub takes_one : (content : Content) → takes_accepted (content ∷ []) → IsRostered (content ∷ [])
takes_one content h = record { accepted = h; few = one_is_short content }

-- `check` has no refusal of a total
no_total : (contents : List Content) (total : ℤ) → ¬ (refuses_wrong contents (RosterTooLong total))
no_total [] total h = h
no_total (game g ∷ []) total h = h
no_total (game g ∷ game other ∷ contents) total h = h
no_total (game g ∷ report r ∷ []) total h = h
no_total (game g ∷ report r ∷ content ∷ contents) total h = h
no_total (report r ∷ contents) total h = h

pub refuses_so : (contents : List Content) (own : CommandRefusal) → refuses_wrong contents own → refuses_unrostered contents own
refuses_so contents NotYet h = h
refuses_so contents (ReportWrong line reason) h = h
refuses_so contents (RosterTooLong total) h = absurd (no_total contents total h)
refuses_so contents NoShape h = h

-- ---- the order of the tickets

module _ (g : Game) (r : Report) (seed : ℕ) (k : Committed) (days : List ℕ) where
  pub has_order : k ≡ record { tickets = r.tickets.tickets; total = r.tickets.total } → IsAccepted g r → ¬ (IsLongTotal k.total) → days ≡ days_of k.tickets seed
      → All (λ i. i < length k.tickets) days → IsPermutation (places_of k.tickets) days → HasOrder g r seed g k days
  has_order of accepted few ordered known permutation =
      let tickets : k.tickets ≡ r.tickets.tickets = ap (λ (c : Committed). c.tickets) of in
      let total : k.total ≡ r.tickets.total = ap (λ (c : Committed). c.total) of in
      let legal : AreLegal g k.tickets = subst (AreLegal g) (sym tickets) accepted.tickets.legal in
      let positive : ArePositive k.tickets = subst ArePositive (sym tickets) accepted.tickets.positive in
      record {
        same = refl;
        tickets = tickets;
        few = λ long. few (subst IsLongTotal (sym total) long);
        ordered = ordered;
        legal = legal;
        known = known;
        permutation = permutation;
        covers = days_cover_as_tickets g k.tickets days positive legal permutation;
      }

-- tickets that have an order are not too many
pub not_long : (long : Type 0) (total : ℤ) (days : Vec ℕ Global) (result : Result (Vec ℕ Global) LongFault) → (long → result ≡ Err (LongFault.TooLong total)) → result ≡ Ok days → ¬ long
not_long long total days result h is yet = let both : ◌≡◌ {A = Result (Vec ℕ Global) LongFault} (Err (LongFault.TooLong total)) (Ok days) = sym (h yet) ∙ is in cc

-- ---- a run that `check` stops

module _ (hands : HandsOver) (name named : List ℕ) where
  -- as many contents as files
  as_many : (files : Option Files) (inputs : List Input) (contents : List Content) → Hold hands files inputs contents → length contents ≡ length inputs
  as_many files [] [] h = refl
  as_many files [] (content ∷ contents) h = absurd h
  as_many files (input ∷ inputs) [] h = absurd h
  as_many files (input ∷ inputs) (content ∷ contents) h = ap suc (as_many files inputs contents h.1)

  -- what was read of two files
  at_most_two : (files : Option Files) (front rest : List Input) (contents : List Content) → (judging name named).inputs ≡ front ++ rest → Hold hands files front contents → length contents + length rest ≡ 2
  at_most_two files front rest contents e h = omega (arith, as_many files front contents h, ap length e, length-append front rest)

  takes_before : (contents : List Content) → length contents ≤ 2 → TakesBefore (judging name named) [] contents → TakesBefore (rostering_plan name named) [] contents
  takes_before [] two h = tt
  takes_before (a ∷ []) two h = (starts, tt)
  takes_before (a ∷ b ∷ []) two h = (starts, (takes_one a h.1.0, tt))
  takes_before (a ∷ b ∷ c ∷ contents) two h = absurd (omega (arith, two))

  takes_front : (contents : List Content) → length contents < 2 → takes_accepted contents → IsRostered contents
  takes_front [] one h = starts
  takes_front (a ∷ []) one h = takes_one a h
  takes_front (a ∷ b ∷ contents) one h = absurd (omega (arith, one))

  reaches : (a b : ShelfState) (input : Input) → ReachesInput hands (judging name named) a b input → ReachesInput hands (rostering_plan name named) a b input
  reaches a b input r =
      let two : length r.contents + length (input ∷ r.rest) ≡ 2 = at_most_two a.files r.front (input ∷ r.rest) r.contents r.in_order r.read.hold in
      record {
        front = r.front;
        rest = r.rest;
        in_order = r.in_order;
        contents = r.contents;
        read = r.read;
        took = takes_before r.contents (omega (arith, two)) r.took;
        takes = takes_front r.contents (omega (arith, two)) r.takes;
      }

  -- stops `roster` too
  pub stops_so : (a b : ShelfState) (e : Refusal) → Stops hands (judging name named) a b e → Stops hands (rostering_plan name named) a b e
  stops_so a b Words h = h
  stops_so a b (NotRead kind) h =
      record { input = h.input; is_kind = h.is_kind; ends = record { here = h.ends.here; reaches = reaches a h.ends.here h.input h.ends.reaches; answered = h.ends.answered }; cause = h.cause }
  stops_so a b (TooLong kind) h =
      record { input = h.input; is_kind = h.is_kind; ends = record { here = h.ends.here; reaches = reaches a h.ends.here h.input h.ends.reaches; answered = h.ends.answered }; cause = h.cause }
  stops_so a b (Refused fault) h =
      record { input = h.input; ends = record { here = h.ends.here; reaches = reaches a h.ends.here h.input h.ends.reaches; answered = h.ends.answered }; says = h.says }
  stops_so a b (Own own) h =
      let two : length h.contents + length h.rest ≡ 2 = at_most_two a.files h.front h.rest h.contents h.in_order h.read.hold in
      record {
        front = h.front;
        rest = h.rest;
        in_order = h.in_order;
        contents = h.contents;
        read = h.read;
        took = takes_before h.contents (omega (arith, two)) h.took;
        refuses = refuses_so h.contents own h.refuses;
      }
  stops_so a b NotWritten h = h
  stops_so a b Memory h = h

  -- ---- an accepted report that gets no days

  module _ (a b : ShelfState) (g : Game) (r : Report) (read : HasRead hands a b (game_file name ∷ report_file named ∷ []) (game g ∷ report r ∷ [])) where
    pub stops_ordering : takes_accepted (game g ∷ []) → takes_accepted (game g ∷ report r ∷ []) → (e : Refusal) → OrderFails r e → Stops hands (rostering_plan name named) a b e
    stops_ordering first whole Words h = absurd h
    stops_ordering first whole (NotRead kind) h = absurd h
    stops_ordering first whole (TooLong kind) h = absurd h
    stops_ordering first whole (Refused fault) h = absurd h
    stops_ordering first whole (Own NotYet) h = absurd h
    stops_ordering first whole (Own (ReportWrong line reason)) h = absurd h
    stops_ordering first whole (Own NoShape) h = absurd h
    stops_ordering first whole (Own (RosterTooLong total)) h =
        record {
          front = game_file name ∷ report_file named ∷ [];
          rest = [];
          in_order = refl;
          contents = game g ∷ report r ∷ [];
          read = read;
          took = (starts, (takes_one (game g) first, tt));
          refuses = record { accepted = whole; long = h };
        }
    stops_ordering first whole NotWritten h = absurd h
    stops_ordering first whole Memory h = all_read hands a b (game_file name ∷ report_file named ∷ []) (game g ∷ report r ∷ []) read

  -- one that gets them
  pub roster_of : (seed : ℕ) (a b : ShelfState) (first : Game) (r : Report) (g : Game) (k : Committed) (days : List ℕ) → HasAccepted hands (judging name named) a b first r → HasOrder first r seed g k days
      → HasRoster hands name named seed a b g k days
  roster_of seed a b first r g k days h o =
      record {
        of = r;
        read = subst (λ (x : Game). HasRead hands a b (game_file name ∷ report_file named ∷ []) (game x ∷ report r ∷ [])) (sym o.same) h.read;
        first = subst (λ (x : Game). IsRostered (game x ∷ [])) (sym o.same) (takes_one (game first) tt);
        whole = subst (λ (x : Game). IsRostered (game x ∷ report r ∷ [])) (sym o.same) (record { accepted = h.judged; few = λ total long. o.few (subst IsLongTotal (sym long.0) long.1) });
        order = record {
          same = refl;
          tickets = o.tickets;
          few = o.few;
          ordered = o.ordered;
          legal = o.legal;
          known = o.known;
          permutation = o.permutation;
          covers = o.covers;
        };
      }

  -- ---- what is written

  module _ (seed : ℕ) (a b : ShelfState) (g : Game) (k : Committed) (days : List ℕ) (h : HasRoster hands name named seed a b g k days) where
    is_roster : IsRoster g h.of.tickets.tickets seed (roster_text g k.tickets days)
    is_roster =
        let o = h.order in
        let same : days ≡ days_of h.of.tickets.tickets seed = o.ordered ∙ ap (λ (tickets : List Ticket). days_of tickets seed) o.tickets in
        record {
          written = ap (λ (tickets : List Ticket). roster_text g tickets days) o.tickets ∙ ap (roster_text g h.of.tickets.tickets) same;
          permutation = subst (λ (tickets : List Ticket). IsPermutation (places_of tickets) (days_of tickets seed)) o.tickets (subst (IsPermutation (places_of k.tickets)) o.ordered o.permutation);
          covers = subst (λ (tickets : List Ticket). CoverAsTickets g tickets (days_of tickets seed)) o.tickets (subst (CoverAsTickets g k.tickets) o.ordered o.covers);
        }

    pub writes_roster_of : Writes hands (rostering name named seed) a b 0 (roster_text g k.tickets days)
    writes_roster_of = record { contents = game g ∷ report h.of ∷ []; read = h.read; took = (starts, (h.first, tt)); takes = h.whole; ends = refl; writes = is_roster }

    -- of which a front was taken
    pub cut_short : (before after : SinkState) (list : List ℕ) → list ≡ days → TakesFront before.bytes after.bytes (roster_text g k.tickets list)
        → IsCutShort hands (rostering name named seed) (surroundings a before) (surroundings b after)
    cut_short before after list same taken =
        record {
          status = 0;
          text = roster_text g k.tickets days;
          writes = writes_roster_of;
          taken = subst (λ (l : List ℕ). TakesFront before.bytes after.bytes (roster_text g k.tickets l)) same taken;
        }
