-- The sums under a value fit exactly where it is formed within 128 bits, since they are the results of the same operations.
use Rattle.std.proofs.Common.{◌≡◌, List, ℤ, pos, ◌*ℤ◌, Result, IsOk, sym, subst}
use Rattle.std.specs.List.{All}
use Rattle.sg_model.specs.declared.ticket.Ticket.{Ticket}
use Rattle.sg_model.specs.Games.{Game, prior_total}
use Rattle.sg_model.specs.Commitments.{weight_total}
use Rattle.sg_num.specs.declared.step.Wide.{Wide}
use Rattle.sg_num.specs.Exact.{Fits}
use Rattle.sg_num.proofs.Firsts.{results-fit}
use Rattle.sg_commit.specs.ExactSums.{exact_base}
use Rattle.sg_commit.specs.SumSteps.{base_steps}
use Rattle.sg_commit.proofs.SumSteps.{sums_are_formed}
use Rattle.sg_bounds.specs.Sizes.{value_sums}
use Rattle.sg_bounds.proofs.StepResults.{value-results}
use Rattle.sg_solve.specs.Sums.{ValueSumsAgree}

pub base_formed : (g : Game) (k : List Ticket) → All Fits (value_sums g k) → IsOk (exact_base g k)
base_formed g k h =
    let v : ℤ = weight_total k *ℤ prior_total g in
    let P : Result ℤ Wide → Type 0 = λ r. IsOk r in
    subst P (sym (sums_are_formed g k).base) ((results-fit (base_steps g k) v).0 (subst (All Fits) (value-results g k) h))

base_fits : (g : Game) (k : List Ticket) → IsOk (exact_base g k) → All Fits (value_sums g k)
base_fits g k h =
    let v : ℤ = weight_total k *ℤ prior_total g in
    let P : Result ℤ Wide → Type 0 = λ r. IsOk r in
    subst (All Fits) (sym (value-results g k)) ((results-fit (base_steps g k) v).1 (subst P (sums_are_formed g k).base h))

pub value_sums_agree : ValueSumsAgree
value_sums_agree g k = (base_formed g k, base_fits g k)
