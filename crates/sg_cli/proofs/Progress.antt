-- Files read one after the other, and what the refusals of a run's steps come of in the whole run.
use Rattle.std.proofs.Common.{◌≡◌, ◌⊎◌, ℕ, ◌≤◌, List, [], ◌∷◌, ◌++◌, map, Option, Ok, Err, refl, sym, ◌∙◌, ap, subst, arith, inl, inr}
use Rattle.std.proofs.lemmas.List.{append_assoc, append-nil, map-append}
use Rattle.sg_shelf.specs.Faults.{HasRisen}
use Rattle.sg_shelf.specs.Files.{Files, HandsOver, IsMissing, Reads}
use Rattle.sg_shelf.specs.Logs.{Entry, Log}
use Rattle.sg_shelf.specs.States.{ShelfState, SinkState}
use Rattle.sg_shelf.specs.declared.log.Outcome.{Outcome}
use Rattle.sg_shelf.specs.declared.log.Outcome.TheVariants as outcomes
use Rattle.sg_cli.specs.Inputs.{Content, Hold, Input, IsHandedAs, content_of, input_limit}
use Rattle.sg_cli.specs.Commands.{Command, Plan, TakesBefore}
use Rattle.sg_cli.specs.Progress.{HasRead, ReadsFront, ReachesInput, read_of, reads_of}
use Rattle.sg_cli.specs.Effects.{Fails, IsLongWhereTold, Stops, Surroundings, surroundings}
use Rattle.sg_cli.specs.Steps.{GivesContent, GivesNone}
use Rattle.sg_cli.specs.declared.input.InputFault.{InputFault}
use Rattle.sg_cli.specs.declared.refusal.CommandRefusal.{CommandRefusal}
use Rattle.sg_cli.specs.declared.refusal.Refusal.{Refusal}
use Rattle.sg_cli.specs.declared.refusal.Refusal.TheVariants.{Words, NotRead, TooLong, Refused, Own, NotWritten, Memory}

module _ (hands : HandsOver) where
  -- ---- files read

  -- no file was read
  pub none_read : (s : ShelfState) → HasRead hands s s [] []
  none_read s = record { log = sym (append-nil s.log); hold = tt; files = refl; count = omega arith; none = λ e. refl }

  -- what a file holds that was read from a shelf with the same files
  said : (f : Option Files) (b c : ShelfState) (file : Input) (bytes : List ℕ) (content : Content) → b.files ≡ f → GivesContent hands b c file bytes → content_of file.kind bytes ≡ Ok content
      → IsHandedAs hands f file (Ok content)
  said f b c file bytes content same g e = record { bytes = bytes; handed = g.handed; reads = subst (λ (f : Option Files). Reads f file.name (input_limit file.kind) bytes) same g.reads; holds = e }

  -- the first file
  pub first_read : (a b : ShelfState) (file : Input) (bytes : List ℕ) (content : Content) → GivesContent hands a b file bytes → content_of file.kind bytes ≡ Ok content
      → HasRead hands a b (file ∷ []) (content ∷ [])
  first_read a b file bytes content g e = record { log = g.log; hold = (said a.files a b file bytes content refl g e, tt); files = g.files; count = g.count; none = λ e. let no_way : ⊥ = cc in absurd no_way }

  -- and one more
  pub second_read : (a b c : ShelfState) (one two : Input) (bytes : List ℕ) (x y : Content) → HasRead hands a b (one ∷ []) (x ∷ []) → GivesContent hands b c two bytes → content_of two.kind bytes ≡ Ok y
      → HasRead hands a c (one ∷ two ∷ []) (x ∷ y ∷ [])
  second_read a b c one two bytes x y h g e =
      record {
        log = g.log ∙ ap (λ (log : Log). log ++ read_of outcomes.Given two ∷ []) h.log ∙ append_assoc a.log (read_of outcomes.Given one ∷ []) (read_of outcomes.Given two ∷ []);
        hold = (h.hold.0, (said a.files b c two bytes y h.files g e, tt));
        files = g.files ∙ h.files;
        count = omega (arith, h.count, g.count);
        none = λ e. let no_way : ⊥ = cc in absurd no_way;
      }

  -- all of these files were read
  pub all_read : (a b : ShelfState) (inputs : List Input) (contents : List Content) → HasRead hands a b inputs contents → ReadsFront (reads_of inputs) a b
  all_read a b inputs contents h = record { read = reads_of inputs; unread = []; in_order = append-nil (reads_of inputs); reads = h.log }

  -- ---- refusals

  module _ (plan : Plan) (a b : ShelfState) (file : Input) (r : ReachesInput hands plan a b file) where
    -- some of the reads of the plan
    front_of : (c : ShelfState) (read unread : Log) → read ++ unread ≡ reads_of r.front ++ reads_of (file ∷ r.rest) → c.log ≡ a.log ++ read → ReadsFront (reads_of plan.inputs) a c
    front_of c read unread e is =
        record { read = read; unread = unread; in_order = e ∙ sym (map-append (read_of outcomes.Given) r.front (file ∷ r.rest)) ∙ ap reads_of (sym r.in_order); reads = is }

    -- no bytes were read of the file
    pub stops_reading : (c : ShelfState) (e : Refusal) → GivesNone b c file e → Stops hands plan a c e
    stops_reading c Words h = absurd h
    stops_reading c (NotRead kind) (is, answered, cause) =
        record {
          input = file;
          is_kind = is;
          ends = record { here = b; reaches = r; answered = answered };
          cause = elim cause [ inl risen ↦ inl risen | inr missing ↦ inr (subst (λ (f : Option Files). IsMissing f file.name) r.read.files missing) ];
        }
    stops_reading c (TooLong kind) (is, answered, cause) =
        record {
          input = file;
          is_kind = is;
          ends = record { here = b; reaches = r; answered = answered };
          cause = subst (λ (f : Option Files). IsLongWhereTold f file.name (input_limit file.kind) b c) r.read.files cause;
        }
    stops_reading c (Refused fault) h = absurd h
    stops_reading c (Own own) h = absurd h
    stops_reading c NotWritten h = absurd h
    stops_reading c Memory h = front_of c (reads_of r.front) (reads_of (file ∷ r.rest)) refl (ap (λ (s : ShelfState). s.log) h ∙ r.read.log)

    -- its bytes hold nothing of its kind
    pub stops_faulty : (c : ShelfState) (bytes : List ℕ) (fault : InputFault) → GivesContent hands b c file bytes → content_of file.kind bytes ≡ Err fault → Stops hands plan a c (Refused fault)
    stops_faulty c bytes fault g e =
        record {
          input = file;
          ends = record { here = b; reaches = r; answered = g.log };
          says = record { bytes = bytes; handed = g.handed; reads = subst (λ (f : Option Files). Reads f file.name (input_limit file.kind) bytes) r.read.files g.reads; holds = e };
        }

    -- memory was wanted behind it
    pub stops_behind : (c : ShelfState) (bytes : List ℕ) → GivesContent hands b c file bytes → Stops hands plan a c Memory
    stops_behind c bytes g =
        front_of c (reads_of r.front ++ read_of outcomes.Given file ∷ []) (reads_of r.rest) (append_assoc (reads_of r.front) (read_of outcomes.Given file ∷ []) (reads_of r.rest))
        (g.log ∙ ap (λ (log : Log). log ++ read_of outcomes.Given file ∷ []) r.read.log ∙ append_assoc a.log (reads_of r.front) (read_of outcomes.Given file ∷ []))

  -- a command that stops before it writes fails so
  pub fails_by : (command : Command) (before after : ShelfState) (out : SinkState) (e : Refusal) → Stops hands command.plan before after e
      → Fails hands command (surroundings before out) (surroundings after out) e
  fails_by command before after out Words h = absurd h
  fails_by command before after out (NotRead kind) h = (h, refl)
  fails_by command before after out (TooLong kind) h = (h, refl)
  fails_by command before after out (Refused fault) h = (h, refl)
  fails_by command before after out (Own own) h = (h, refl)
  fails_by command before after out NotWritten h = absurd h
  fails_by command before after out Memory h = inl (h, refl)

  -- no such refusal is the output's
  pub not_by_writing : (plan : Plan) (before after : ShelfState) (e : Refusal) → Stops hands plan before after e → ¬ (e ≡ NotWritten)
  not_by_writing plan before after e h is = subst (Stops hands plan before after) is h
