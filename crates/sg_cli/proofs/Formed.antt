-- The value of accepted tickets is formed within 128 bits, in the order of a commitment's sums too.
use Rattle.std.proofs.Common.{◌≡◌, Bool, true, false, List, [], ◌++◌, ℤ, Err, is_ok, sym, ◌∙◌, ap}
use Rattle.sg_model.specs.declared.ticket.Ticket.{Ticket}
use Rattle.sg_model.specs.Games.{Game}
use Rattle.sg_num.specs.declared.step.Wide.{Wide}
use Rattle.sg_commit.specs.ExactSums.{exact_base}
use Rattle.sg_commit.proofs.Standing.{All-back, All-front}
use Rattle.sg_tree.specs.declared.report.Report.{Report}
use Rattle.sg_num.specs.Exact.{Fits}
use Rattle.sg_bounds.specs.Accepted.{IsAccepted, cap_sums, tree_sums}
use Rattle.sg_bounds.specs.Trees.{node_of}
use Rattle.sg_bounds.specs.Sizes.{value_sums, weight_sums}
use Rattle.sg_solve.proofs.Formed.{base_formed}

-- where a report is accepted, no operation under its value leaves 128 bits
pub never_wide : (g : Game) (r : Report) → IsAccepted g r → (k : List Ticket) → k ≡ r.tickets.tickets → (w : Wide) → exact_base g k ≡ Err w → ⊥
never_wide g r a k same w e =
    let later : List ℤ = value_sums g r.tickets.tickets ++ (cap_sums g 2 r.caps ++ tree_sums g r.caps [] (node_of r.tree)) in
    let fit = All-front Fits (value_sums g r.tickets.tickets) (cap_sums g 2 r.caps ++ tree_sums g r.caps [] (node_of r.tree)) (All-back Fits (weight_sums r.tickets.tickets) later a.sums) in
    let formed : is_ok (exact_base g r.tickets.tickets) ≡ true = base_formed g r.tickets.tickets fit in
    let wide : is_ok (exact_base g r.tickets.tickets) ≡ false = ap is_ok (ap (exact_base g) (sym same) ∙ e) in
    let both : ◌≡◌ {A = Bool} true false = sym formed ∙ wide in cc
