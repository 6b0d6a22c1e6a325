use Rattle.sg_simplex.proofs.Tried.{products_stop}
use Rattle.sg_simplex.proofs.trying.try_move.Goals as goal

pub returns-in-Err : goal.returns-in-Err
returns-in-Err g c =
    let found = c.in-Err.ensures.found in
    products_stop (g.F.Family.program c.args.family.now) c.args.state.now.tableau c.args.member.now c.requires.bounded c.requires.state c.requires.enters c.in-Err.misfit.name c.in-Err.misfit.wide found.0 found.1
