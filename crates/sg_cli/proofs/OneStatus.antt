-- Told files decide one status for each command.
use Rattle.std.proofs.Common.{◌≡◌, ◌⊎◌, ℕ, Bool, true, false, MatchBool, ◌==◌, nat_lt, List, [], ◌∷◌, length, Option, Some, None, Result, Ok, Err, refl, sym, ◌∙◌, inl, inr}
use Rattle.std.proofs.lemmas.Bool.{eqb-true, false_from_ne_true}
use Rattle.sg_model.specs.declared.fault.GameFault.{GameFault}
use Rattle.sg_model.specs.Games.{Game}
use Rattle.sg_model.specs.Limits.{is_scaled}
use Rattle.sg_format.specs.GameFiles.{game_of_bytes}
use Rattle.sg_tree.specs.declared.report.Report.{Report}
use Rattle.sg_cert.specs.declared.fault.ReportFault.{ReportFault}
use Rattle.sg_cert.specs.Reading.{report_of}
use Rattle.sg_cert.proofs.WholeBack.{whole_forth}
use Rattle.sg_bounds.specs.Accepted.{IsAccepted, is_optimal}
use Rattle.sg_bounds.specs.Checking.{IsReportValue, IsRefused}
use Rattle.sg_bounds.proofs.Answering.{each_is_answered}
use Rattle.sg_bounds.proofs.Verdicts.{refusal_is_one}
use Rattle.sg_shelf.specs.Files.{Files, bytes_under}
use Rattle.sg_cli.specs.Inputs.{Content, game, held_as, report}
use Rattle.sg_cli.specs.Commands.{Plan}
use Rattle.sg_cli.specs.ExpectedStatus.{ByContent, ByFile, ByPlan}
use Rattle.sg_cli.specs.Refusals.{own_status}
use Rattle.sg_cli.specs.declared.input.InputFault.TheVariants as faults
use Rattle.sg_cli.specs.declared.refusal.CommandRefusal.{CommandRefusal}

-- it holds of one status
abbrev pub IsOne : (ℕ → Type 0) → Type 0
IsOne P = (status : ℕ) × P status × ((other : ℕ) → P other → other ≡ status)

-- ---- by files and what they hold

pub just : (n : ℕ) → IsOne (λ status. status ≡ n)
just n = (n, refl, λ other e. e)

either : (b : Bool) (P Q : ℕ → Type 0) → IsOne P → IsOne Q → IsOne (λ status. MatchBool b (P status) (Q status))
either true P Q p q = p
either false P Q p q = q

pub one_file : (limit : ℕ) (P : List ℕ → ℕ → Type 0) → ((bytes : List ℕ) → IsOne (P bytes)) → (file : Option (List ℕ)) → IsOne (ByFile limit P file)
one_file limit P each None = just 4
one_file limit P each (Some bytes) = either (nat_lt limit (length bytes)) (λ status. status ≡ 5) (P bytes) (just 5) (each bytes)

pub one_game : (P : Content → ℕ → Type 0) (says : Result Game GameFault) → ((g : Game) → says ≡ Ok g → IsOne (P (game g))) → IsOne (ByContent P (held_as game faults.Game says))
one_game P (Ok g) each = each g refl
one_game P (Err fault) each = just 6

pub one_report : (P : Content → ℕ → Type 0) (says : Result Report ReportFault) → ((r : Report) → says ≡ Ok r → IsOne (P (report r))) → IsOne (ByContent P (held_as report faults.Report says))
one_report P (Ok r) each = each r refl
one_report P (Err fault) each = just 7

-- a report that was read keeps the rules of its type
pub formed : (bytes : List ℕ) (r : Report) → report_of bytes ≡ Ok r → IsReportValue r
formed bytes r e = let is = (whole_forth bytes r e).0 in record { tickets = is.tickets.rules; value = is.value.reduced; upper = is.upper.reduced }

-- ---- by a plan

-- it refuses what was read, with one status, and doesn't take it
pub one_refusal : (plan : Plan) (done : List Content) (next : ℕ → Type 0) (own : CommandRefusal) → plan.refuses done own
    → ((other : CommandRefusal) → plan.refuses done other → own_status other ≡ own_status own) → ¬ (plan.takes done) → IsOne (ByPlan plan done next)
one_refusal plan done next own is same no_taking = (own_status own, inl (own, is, refl), one)
  where
    one : (other : ℕ) → ByPlan plan done next other → other ≡ own_status own
    one other (inl h) = h.2 ∙ same h.0 h.1
    one other (inr h) = absurd (no_taking h.0)

-- it takes it, and refuses nothing
pub one_taken : (plan : Plan) (done : List Content) (next : ℕ → Type 0) → plan.takes done → ((other : CommandRefusal) → ¬ (plan.refuses done other)) → IsOne next
    → IsOne (ByPlan plan done next)
one_taken plan done next takes none n = (n.0, inr (takes, n.1), one)
  where
    one : (other : ℕ) → ByPlan plan done next other → other ≡ n.0
    one other (inl h) = absurd (none h.0 h.1)
    one other (inr h) = n.2 other h.1
