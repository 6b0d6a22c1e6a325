use Rattle.std.proofs.Common.{◌∙◌, ◌+◌, ap, sym, subst, length, All, List}
use Rattle.sg_num.specs.Exact.{Fits}
use Rattle.sg_tree.specs.declared.report.Cap.{Cap}
use Rattle.sg_bounds.specs.Sizes.{bound_sums}
use Rattle.sg_lanes.specs.ProvedCaps.{only_worked}
use Rattle.sg_lanes.proofs.Toplevel.{caps-count, top-fits, top-rho}
use Rattle.sg_lanes.proofs.tops.top_entry.Goals as goal

pub bound_of-requires-clause-caps : goal.bound_of-requires-clause-caps
bound_of-requires-clause-caps c =
    ap (λ (cs : List Cap). length cs + 1) c.requires.caps ∙ caps-count c.args.game.now c.requires.peopled (only_worked c.args.worked.now)

pub bound_of-requires-clause-rho : goal.bound_of-requires-clause-rho
bound_of-requires-clause-rho c =
    top-rho c.args.game.now c.requires.peopled (only_worked c.args.worked.now) c.requires.results c.requires.first.0 c.requires.first.1 c.args.act c.in-Some.fact.now (sym c.in-Some.ensures)

pub bound_of-requires-clause-fits : goal.bound_of-requires-clause-fits
bound_of-requires-clause-fits c =
    subst (λ (cs : List Cap). All Fits (bound_sums c.args.game.now cs 1 c.in-Some.fact.now)) (sym c.requires.caps)
    (top-fits c.args.game.now c.requires.peopled (only_worked c.args.worked.now) c.requires.results c.requires.first.0 c.requires.first.1 c.args.act c.in-Some.fact.now (sym c.in-Some.ensures))
