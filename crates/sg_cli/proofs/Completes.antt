-- A run that answers by what it did, or by one refusal, never gives up but for want of memory: told files decide the status.
use Rattle.std.proofs.Common.{◌≡◌, ◌⊎◌, ℕ, ◌<◌, ◌≤◌, Bool, true, false, MatchBool, nat_lt, List, [], ◌∷◌, ◌++◌, length, Option, Some, None, IsSomeAnd, Result, Ok, Err, refl, sym, ◌∙◌, ap, subst, arith, inl, inr}
use Rattle.std.proofs.lemmas.Bool.{lt-ltb, le-ltb}
use Rattle.std.proofs.lemmas.List.{append_assoc, append-nil}
use Rattle.sg_shelf.specs.Faults.{HasRisen}
use Rattle.sg_shelf.specs.Files.{Files, HandsOver, IsLong, IsMissing, bytes_under}
use Rattle.sg_shelf.specs.States.{ShelfState, SinkState}
use Rattle.sg_words.specs.Commands.{Asked}
use Rattle.sg_cli.specs.Inputs.{Content, Hold, Input, IsHandedAs, content_of, input_limit}
use Rattle.sg_cli.specs.Commands.{Command, Plan, TakesBefore}
use Rattle.sg_cli.specs.CommandList.{command_for}
use Rattle.sg_cli.specs.Effects.{Fails, IsDone, IsLongWhereTold, Stops, Surroundings, Writes}
use Rattle.sg_cli.specs.ExpectedStatus.{ByContent, ByFile, ByPlan, ByRest, ExpectedStatus}
use Rattle.sg_cli.specs.Refusals.{fault_status, own_status, status_of}
use Rattle.sg_cli.specs.Runs.{Answers, ComesOf, DoesCommand, FailsCommand, IsComplete, IsOfFault, Observation}
use Rattle.sg_cli.specs.declared.input.InputFault.{InputFault}
use Rattle.sg_cli.specs.declared.refusal.CommandRefusal.{CommandRefusal}
use Rattle.sg_cli.specs.declared.refusal.Refusal.{Refusal}
use Rattle.sg_cli.specs.declared.refusal.Refusal.TheVariants.{Words, NotRead, TooLong, Refused, Own, NotWritten, Memory}

-- ---- by a file

at_true : (b : Bool) (P Q : Type 0) → b ≡ true → P → MatchBool b P Q
at_true true P Q e p = p
at_true false P Q e p = let no_way : ⊥ = cc in absurd no_way

at_false : (b : Bool) (P Q : Type 0) → b ≡ false → Q → MatchBool b P Q
at_false true P Q e q = let no_way : ⊥ = cc in absurd no_way
at_false false P Q e q = q

by_none : (limit : ℕ) (P : List ℕ → ℕ → Type 0) (file : Option (List ℕ)) (status : ℕ) → file ≡ None → status ≡ 4 → ByFile limit P file status
by_none limit P None status e is = is
by_none limit P (Some bytes) status e is = let no_way : ⊥ = cc in absurd no_way

pub by_long : (limit : ℕ) (P : List ℕ → ℕ → Type 0) (file : Option (List ℕ)) (status : ℕ) → IsSomeAnd file (λ bytes. limit < length bytes) → status ≡ 5 → ByFile limit P file status
by_long limit P None status h is = absurd h
by_long limit P (Some bytes) status h is = at_true (nat_lt limit (length bytes)) (status ≡ 5) (P bytes status) (lt-ltb limit (length bytes) h) is

by_bytes : (limit : ℕ) (P : List ℕ → ℕ → Type 0) (file : Option (List ℕ)) (bytes : List ℕ) (status : ℕ) → file ≡ Some bytes → length bytes ≤ limit → P bytes status
    → ByFile limit P file status
by_bytes limit P file bytes status e le h =
    subst (λ (f : Option (List ℕ)). ByFile limit P f status) (sym e) (at_false (nat_lt limit (length bytes)) (status ≡ 5) (P bytes status) (le-ltb limit (length bytes) le) h)

by_content : (P : Content → ℕ → Type 0) (says : Result Content InputFault) (content : Content) (status : ℕ) → says ≡ Ok content → P content status → ByContent P says status
by_content P says content status e h = subst (λ (s : Result Content InputFault). ByContent P s status) (sym e) h

by_fault : (P : Content → ℕ → Type 0) (says : Result Content InputFault) (fault : InputFault) (status : ℕ) → says ≡ Err fault → status ≡ fault_status fault → ByContent P says status
by_fault P says fault status e h = subst (λ (s : Result Content InputFault). ByContent P s status) (sym e) h

-- ---- by the files of a command

module _ (hands : HandsOver) (command : Command) (files : Files) (status : ℕ) where
  -- what is due once a file is read
  abbrev next : List Content → List Input → Content → ℕ → Type 0
  next done rest content = ByRest command files (done ++ content ∷ []) rest

  -- a file that says this decides
  pub by_said : (done : List Content) (input : Input) (rest : List Input) (content : Content) → command.plan.takes done → IsHandedAs hands (Some files) input (Ok content)
      → ByRest command files (done ++ content ∷ []) rest status → ByRest command files done (input ∷ rest) status
  by_said done input rest content takes s h =
      inr (
        takes,
        by_bytes (input_limit input.kind) _ (bytes_under files input.name) s.bytes status s.reads.may_hold s.reads.within
            (by_content (next done rest) (content_of input.kind s.bytes) content status s.holds h),
      )

  -- one whose bytes hold nothing of its kind
  pub by_faulty : (done : List Content) (input : Input) (rest : List Input) (fault : InputFault) → command.plan.takes done → IsHandedAs hands (Some files) input (Err fault)
      → status ≡ fault_status fault → ByRest command files done (input ∷ rest) status
  by_faulty done input rest fault takes s e =
      inr (
        takes,
        by_bytes (input_limit input.kind) _ (bytes_under files input.name) s.bytes status s.reads.may_hold s.reads.within
            (by_fault (next done rest) (content_of input.kind s.bytes) fault status s.holds e),
      )

  -- one that is too long
  pub by_longer : (done : List Content) (input : Input) (rest : List Input) → command.plan.takes done → IsLong (Some files) input.name (input_limit input.kind)
      → status ≡ 5 → ByRest command files done (input ∷ rest) status
  by_longer done input rest takes long e = inr (takes, by_long (input_limit input.kind) _ (bytes_under files input.name) status long e)

  -- and one of which there is none
  by_missing : (done : List Content) (input : Input) (rest : List Input) → command.plan.takes done → IsMissing (Some files) input.name → status ≡ 4 → ByRest command files done (input ∷ rest) status
  by_missing done input rest takes missing e = inr (takes, by_none (input_limit input.kind) _ (bytes_under files input.name) status missing e)

  -- so do the files that were read, whatever comes after them
  by_front : (done contents : List Content) (front rest : List Input) → Hold hands (Some files) front contents → TakesBefore command.plan done contents
      → ByRest command files (done ++ contents) rest status → ByRest command files done (front ++ rest) status
  by_front done [] [] rest hold took h = subst (λ (cs : List Content). ByRest command files cs rest status) (append-nil done) h
  by_front done (content ∷ contents) [] rest hold took h = absurd hold
  by_front done [] (input ∷ front) rest hold took h = absurd hold
  by_front done (content ∷ contents) (input ∷ front) rest hold took h =
      by_said done input (front ++ rest) content took.0 hold.0
      (by_front (done ++ content ∷ []) contents front rest hold.1 took.1
      (subst (λ (cs : List Content). ByRest command files cs rest status) (sym (append_assoc done (content ∷ []) contents)) h))

  -- from the plan's first file on
  by_plan : (front rest : List Input) (contents : List Content) → command.plan.inputs ≡ front ++ rest → Hold hands (Some files) front contents → TakesBefore command.plan [] contents
      → ByRest command files contents rest status → ExpectedStatus command files status
  by_plan front rest contents in_order hold took h =
      subst (λ (inputs : List Input). ByRest command files [] inputs status) (sym in_order) (by_front [] contents front rest hold took h)

  -- ---- a refusal

  rose_before : (earlier : ℕ) {here after : ℕ} → earlier ≤ here → HasRisen here after → HasRisen earlier after
  rose_before earlier le risen = omega (arith, le, risen)

  stops_decide : (before after : ShelfState) (refusal : Refusal) → before.files ≡ Some files → Stops hands command.plan before after refusal → status ≡ status_of refusal
      → (status ≡ 11) ⊎ (((status ≡ 4) × HasRisen before.faults after.faults) ⊎ ExpectedStatus command files status)
  stops_decide before after Words is h e = absurd h
  stops_decide before after (NotRead kind) is h e =
      let r = h.ends.reaches in
      let hold = subst (λ (f : Option Files). Hold hands f r.front r.contents) is r.read.hold in
      elim h.cause [
        | inl risen ↦ inr (inl (e, rose_before before.faults r.read.count risen))
        | inr missing ↦ inr (inr (by_plan r.front (h.input ∷ r.rest) r.contents r.in_order hold r.took
            (by_missing r.contents h.input r.rest r.takes (subst (λ (f : Option Files). IsMissing f h.input.name) is missing) e)))
      ]
  stops_decide before after (TooLong kind) is h e =
      let r = h.ends.reaches in
      let hold = subst (λ (f : Option Files). Hold hands f r.front r.contents) is r.read.hold in
      inr (inr (by_plan r.front (h.input ∷ r.rest) r.contents r.in_order hold r.took
      (by_longer r.contents h.input r.rest r.takes (subst (λ (f : Option Files). IsLongWhereTold f h.input.name (input_limit h.input.kind) h.ends.here after) is h.cause).0 e)))
  stops_decide before after (Refused fault) is h e =
      let r = h.ends.reaches in
      let hold = subst (λ (f : Option Files). Hold hands f r.front r.contents) is r.read.hold in
      inr (inr (by_plan r.front (h.input ∷ r.rest) r.contents r.in_order hold r.took
      (by_faulty r.contents h.input r.rest fault r.takes (subst (λ (f : Option Files). IsHandedAs hands f h.input (Err fault)) is h.says) e)))
  stops_decide before after (Own own) is h e =
      let hold = subst (λ (f : Option Files). Hold hands f h.front h.contents) is h.read.hold in
      inr (inr (by_plan h.front h.rest h.contents h.in_order hold h.took (refused h.contents h.rest own h.refuses e)))
    where
      refused : (done : List Content) (rest : List Input) (own : CommandRefusal) → command.plan.refuses done own → status ≡ own_status own → ByRest command files done rest status
      refused done [] own refuses e = inl (own, refuses, e)
      refused done (input ∷ rest) own refuses e = inl (own, refuses, e)
  stops_decide before after NotWritten is h e = absurd h
  stops_decide before after Memory is h e = inl e

  -- ---- what is written

  pub writes_decide : (before after : ShelfState) (text : List ℕ) → before.files ≡ Some files → Writes hands command before after status text → ExpectedStatus command files status
  writes_decide before after text is h =
      let hold = subst (λ (f : Option Files). Hold hands f command.plan.inputs h.contents) is h.read.hold in
      by_plan command.plan.inputs [] h.contents (sym (append-nil command.plan.inputs)) hold h.took (inr (h.takes, h.ends))

-- ---- the whole

same_asked : (o : Observation) (a b : Asked) → o.asked ≡ Some a → o.asked ≡ Some b → a ≡ b
same_asked o a b p q = let e : ◌≡◌ {A = Option Asked} (Some a) (Some b) = sym p ∙ q in cc

no_asked : (o : Observation) (a : Asked) → o.asked ≡ None → o.asked ≡ Some a → ⊥
no_asked o a p q = let e : ◌≡◌ {A = Option Asked} None (Some a) = sym p ∙ q in cc

pub done_complete : (o : Observation) (status : ℕ) → DoesCommand o status → IsComplete o status
done_complete o status d =
    record {
      words = λ none. absurd (no_asked o d.asked none d.asks);
      told = λ asked files asks is.
          inr (inr (subst (λ (a : Asked). ExpectedStatus (command_for a) files status) (same_asked o d.asked asked d.asks asks)
          (writes_decide o.hands (command_for d.asked) files status o.before.shelf o.after.shelf d.done.text is d.done.writes)));
    }

-- what a refusal of the command decides
abbrev Decided : Observation → ℕ → Files → Asked → Type 0
Decided o status files asked = (status ≡ 11) ⊎ (IsOfFault o status ⊎ ExpectedStatus (command_for asked) files status)

of_stop : (o : Observation) (status : ℕ) (files : Files) (asked : Asked)
    → (status ≡ 11) ⊎ (((status ≡ 4) × HasRisen o.before.shelf.faults o.after.shelf.faults) ⊎ ExpectedStatus (command_for asked) files status) → Decided o status files asked
of_stop o status files asked (inl memory) = inl memory
of_stop o status files asked (inr (inl fault)) = inr (inl (inl fault))
of_stop o status files asked (inr (inr due)) = inr (inr due)

fails_decide : (o : Observation) (status : ℕ) (files : Files) (asked : Asked) (refusal : Refusal) → o.before.shelf.files ≡ Some files
    → Fails o.hands (command_for asked) o.before o.after refusal → status ≡ status_of refusal → Decided o status files asked
fails_decide o status files asked Words is h e = absurd h.0
fails_decide o status files asked (NotRead kind) is h e = of_stop o status files asked (stops_decide o.hands (command_for asked) files status o.before.shelf o.after.shelf (NotRead kind) is h.0 e)
fails_decide o status files asked (TooLong kind) is h e = of_stop o status files asked (stops_decide o.hands (command_for asked) files status o.before.shelf o.after.shelf (TooLong kind) is h.0 e)
fails_decide o status files asked (Refused fault) is h e = of_stop o status files asked (stops_decide o.hands (command_for asked) files status o.before.shelf o.after.shelf (Refused fault) is h.0 e)
fails_decide o status files asked (Own own) is h e = of_stop o status files asked (stops_decide o.hands (command_for asked) files status o.before.shelf o.after.shelf (Own own) is h.0 e)
fails_decide o status files asked NotWritten is h e = inr (inl (inr (e, h.0)))
fails_decide o status files asked Memory is h e = inl e

fails_complete : (o : Observation) (status : ℕ) (refusal : Refusal) → status ≡ status_of refusal → FailsCommand o refusal → IsComplete o status
fails_complete o status refusal e c =
    record {
      words = λ none. absurd (no_asked o c.asked none c.asks);
      told = λ asked files asks is.
          fails_decide o status files asked refusal is (subst (λ (a : Asked). Fails o.hands (command_for a) o.before o.after refusal) (same_asked o c.asked asked c.asks asks) c.fails) e;
    }

refused_complete : (o : Observation) (status : ℕ) (refusal : Refusal) → status ≡ status_of refusal → ComesOf o refusal → IsComplete o status
refused_complete o status Words e c = record { words = λ none. inl e; told = λ asked files asks is. absurd (no_asked o asked c.0 asks) }
refused_complete o status Memory e c = record { words = λ none. inr e; told = λ asked files asks is. inl e }
refused_complete o status (NotRead kind) e c = fails_complete o status (NotRead kind) e c
refused_complete o status (TooLong kind) e c = fails_complete o status (TooLong kind) e c
refused_complete o status (Refused fault) e c = fails_complete o status (Refused fault) e c
refused_complete o status (Own own) e c = fails_complete o status (Own own) e c
refused_complete o status NotWritten e c = fails_complete o status NotWritten e c

pub answers_complete : (o : Observation) (err_before err_after : SinkState) (status : ℕ) → Answers o err_before err_after status → IsComplete o status
answers_complete o eb ea status (inl h) = done_complete o status h.0
answers_complete o eb ea status (inr h) = refused_complete o status h.refusal h.is_status h.cause
