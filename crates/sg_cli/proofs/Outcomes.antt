-- A run that tells a refusal answers by it.
use Rattle.std.proofs.Common.{◌≡◌, ◌≢◌, ◌⊎◌, ℕ, List, [], ◌∷◌, ◌++◌, Option, Some, refl, sym, ◌∙◌, ap, subst, arith, inl, inr}
use Rattle.std.proofs.lemmas.List.{append_assoc, map-append}
use Rattle.sg_shelf.specs.Files.{HandsOver}
use Rattle.sg_shelf.specs.Logs.{Log}
use Rattle.sg_shelf.specs.States.{ShelfState, SinkState}
use Rattle.sg_shelf.specs.declared.log.Outcome.TheVariants.{Given}
use Rattle.sg_cli.specs.Commands.{Plan}
use Rattle.sg_cli.specs.Progress.{ReadsFront, read_of, reads_of}
use Rattle.sg_cli.specs.Effects.{Stops}
use Rattle.sg_cli.specs.Refusals.{status_of, HasNumbers}
use Rattle.sg_cli.specs.Runs.{Answers, ComesOf, FailsCommand, Observation, TellsRefusal}
use Rattle.sg_cli.specs.declared.input.InputFault.{InputFault}
use Rattle.sg_cli.specs.declared.input.InputFault.TheVariants as faults
use Rattle.sg_cli.specs.declared.refusal.CommandRefusal.{CommandRefusal}
use Rattle.sg_cli.specs.declared.refusal.CommandRefusal.TheVariants as owns
use Rattle.sg_cli.specs.declared.refusal.Refusal.{Refusal}
use Rattle.sg_cli.specs.declared.refusal.Refusal.TheVariants.{Words, NotRead, TooLong, Refused, Own, NotWritten, Memory}

-- some of the plan's reads were answered where bytes hold nothing of their kind
front_faulty : (hands : HandsOver) (plan : Plan) (a c : ShelfState) (fault : InputFault) → Stops hands plan a c (Refused fault) → ReadsFront (reads_of plan.inputs) a c
front_faulty hands plan a c fault h =
    let r = h.ends.reaches in
    record {
      read = reads_of r.front ++ read_of Given h.input ∷ [];
      unread = reads_of r.rest;
      in_order = append_assoc (reads_of r.front) (read_of Given h.input ∷ []) (reads_of r.rest) ∙ sym (map-append (read_of Given) r.front (h.input ∷ r.rest)) ∙ ap reads_of (sym r.in_order);
      reads = h.ends.answered ∙ ap (λ (log : Log). log ++ read_of Given h.input ∷ []) r.read.log ∙ append_assoc a.log (reads_of r.front) (read_of Given h.input ∷ []);
    }

-- and where the command refuses what it read
front_own : (hands : HandsOver) (plan : Plan) (a c : ShelfState) (own : CommandRefusal) → Stops hands plan a c (Own own) → ReadsFront (reads_of plan.inputs) a c
front_own hands plan a c own h =
    record { read = reads_of h.front; unread = reads_of h.rest; in_order = sym (map-append (read_of Given) h.front h.rest) ∙ ap reads_of (sym h.in_order); reads = h.read.log }

-- where there is no memory for a line with numbers, want of memory has its cause too
memory_comes : (o : Observation) (e : Refusal) → HasNumbers e → ComesOf o e → ComesOf o Memory
memory_comes o Words k c = absurd k
memory_comes o (NotRead kind) k c = absurd k
memory_comes o (TooLong kind) k c = absurd k
memory_comes o (Refused fault) k c = inl (record { asked = c.asked; asks = c.asks; fails = inl (front_faulty _ _ _ _ fault c.fails.0, c.fails.1) })
memory_comes o (Own own) k c = inl (record { asked = c.asked; asks = c.asks; fails = inl (front_own _ _ _ _ own c.fails.0, c.fails.1) })
memory_comes o NotWritten k c = absurd k
memory_comes o Memory k c = absurd k

pub tells_answer : (o : Observation) (eb ea : SinkState) (due told : Refusal) (status : ℕ) → ComesOf o due
    → (told ≡ due) ⊎ ((told ≡ Memory) × HasNumbers due) → TellsRefusal eb ea told → status ≡ status_of told → Answers o eb ea status
tells_answer o eb ea due told status c (inl same) t e = inr (record { refusal = told; is_status = e; cause = subst (ComesOf o) (sym same) c; tells = t })
tells_answer o eb ea due told status c (inr memory) t e =
    inr (record { refusal = told; is_status = e; cause = subst (ComesOf o) (sym memory.0) (memory_comes o due memory.1 c); tells = t })

-- a run that ends with another status than 9 was not refused by the output
pub not_by_output : (due told : Refusal) (status : ℕ) → (told ≡ due) ⊎ ((told ≡ Memory) × HasNumbers due) → status ≡ status_of told → status ≢ 9 → due ≢ NotWritten
not_by_output due told status (inl same) e other is = other (e ∙ ap status_of (same ∙ is))
not_by_output due told status (inr memory) e other is = subst HasNumbers is memory.1

-- one that ends with 11 only where this holds was refused for memory only there
pub by_memory : (due told : Refusal) (status : ℕ) (P : Type 0) → (told ≡ due) ⊎ ((told ≡ Memory) × HasNumbers due) → status ≡ status_of told → (status ≡ 11 → P) → due ≡ Memory → P
by_memory due told status P (inl same) e only is = only (e ∙ ap status_of (same ∙ is))
by_memory due told status P (inr memory) e only is = only (e ∙ ap status_of memory.0)

-- no refusal has a status of success
pub not_success : (told : Refusal) (status : ℕ) → status ≡ status_of told → (status ≢ 0) × (status ≢ 10)
not_success Words status e = (λ z. absurd (omega (arith, e, z)), λ z. absurd (omega (arith, e, z)))
not_success (NotRead kind) status e = (λ z. absurd (omega (arith, e, z)), λ z. absurd (omega (arith, e, z)))
not_success (TooLong kind) status e = (λ z. absurd (omega (arith, e, z)), λ z. absurd (omega (arith, e, z)))
not_success (Refused (faults.Game fault)) status e = (λ z. absurd (omega (arith, e, z)), λ z. absurd (omega (arith, e, z)))
not_success (Refused (faults.Report fault)) status e = (λ z. absurd (omega (arith, e, z)), λ z. absurd (omega (arith, e, z)))
not_success (Own owns.NotYet) status e = (λ z. absurd (omega (arith, e, z)), λ z. absurd (omega (arith, e, z)))
not_success (Own (owns.ReportWrong line reason)) status e = (λ z. absurd (omega (arith, e, z)), λ z. absurd (omega (arith, e, z)))
not_success (Own (owns.RosterTooLong total)) status e = (λ z. absurd (omega (arith, e, z)), λ z. absurd (omega (arith, e, z)))
not_success (Own owns.NoShape) status e = (λ z. absurd (omega (arith, e, z)), λ z. absurd (omega (arith, e, z)))
not_success NotWritten status e = (λ z. absurd (omega (arith, e, z)), λ z. absurd (omega (arith, e, z)))
not_success Memory status e = (λ z. absurd (omega (arith, e, z)), λ z. absurd (omega (arith, e, z)))
