use Rattle.std.proofs.Common.{refl}
use Rattle.sg_lp.proofs.Leaving.{entering-member}
use Rattle.sg_simplex.proofs.Leaves.{apart_lists, leaving_of, some_leaves}
use Rattle.sg_simplex.proofs.Tried.{products_by, products_fit, products_wide}
use Rattle.sg_simplex.proofs.trying.leaving_row.Goals as goal

pub write_entries-requires-clause-known : goal.write_entries-requires-clause-known
write_entries-requires-clause-known g c = entering-member (g.F.Family.program c.args.family.now) c.args.state.now.tableau c.args.member.now c.requires.enters

pub least_row-requires-clause-apart : goal.least_row-requires-clause-apart
least_row-requires-clause-apart g c =
    let p = g.F.Family.program c.args.family.now in
    let t = c.args.state.now.tableau in
    let s = c.args.member.now in
    let q = c.write_products.new.products in
    apart_lists p t s q c.requires.state (products_by p t s q c.write_entries.new.entries c.write_entries.ensures c.in-Ok.ensures.written)

pub unreachable-requires : goal.unreachable-requires
unreachable-requires g c =
    let p = g.F.Family.program c.args.family.now in
    let t = c.args.state.now.tableau in
    let s = c.args.member.now in
    let q = c.write_products.new.products in
    some_leaves p t s q c.requires.state (products_by p t s q c.write_entries.new.entries c.write_entries.ensures c.in-Ok.ensures.written) c.requires.bounded c.requires.enters c.in-None.ensures

pub returns-in-Some-clause-found : goal.returns-in-Some-clause-found
returns-in-Some-clause-found g c =
    let p = g.F.Family.program c.args.family.now in
    let t = c.args.state.now.tableau in
    let s = c.args.member.now in
    let q = c.write_products.new.products in
    let es = c.write_entries.new.entries in
    leaving_of p t s q c.requires.state (products_by p t s q es c.write_entries.ensures c.in-Ok.ensures.written) c.in-Some.row (products_fit p t s es c.in-Ok.field-0 c.write_entries.ensures c.in-Ok.ensures.formed) c.in-Some.ensures

pub returns-in-Err-clause-found : goal.returns-in-Err-clause-found
returns-in-Err-clause-found g c =
    let p = g.F.Family.program c.args.family.now in
    (refl, products_wide p c.args.state.now.tableau c.args.member.now c.write_entries.new.entries c.in-Err.wide c.write_entries.ensures c.in-Err.ensures.formed)
