use Rattle.std.proofs.Common.{◌≡◌, ℤ, ℕ, List, length, arith, sym, subst, to_z, of_z}
use Rattle.std.specs.Int.{w128}
use Rattle.std.specs.List.{All}
use Rattle.std.proofs.lemmas.Int.{ints}
use Rattle.sg_matchings.specs.declared.part.Part.{Part}
use Rattle.sg_matchings.specs.Decompositions.{IsDecomposition}
use Rattle.sg_split.specs.ByTarget.{AreServed, AreTicketsFor}
use Rattle.sg_split.specs.Matched.{counts_of}
use Rattle.sg_split.proofs.Commits.{no_fault}
use Rattle.sg_split.proofs.Matches.{all_positive, all_served, decomposed_as, matched_is, targets_count, whole_weight, within_as}
use Rattle.sg_split.proofs.TargetRows.{rows_within}
use Rattle.sg_split.proofs.matching.matchings.Goals as goal

pub decompose-requires-clause-counts : goal.decompose-requires-clause-counts
decompose-requires-clause-counts c =
    let g = c.args.game.now in
    let counts = counts_of c.args.table.now in
    let rows = c.in_ok-rows.rows.items in
    let d : ℤ = to_z w128 (of_z w128 c.args.total) in
    let e : d ≡ c.args.total = omega (arith, ints, c.ranges.total) in
    within_as rows c.as_slice.result.now (length g.goals) c.targets.result c.args.total d c.as_slice.ensures.value (targets_count g c.targets.result c.requires.single.security c.targets.ensures.count) e
    (rows_within g c.promises.ensures counts c.args.total c.requires rows c.in_ok-rows.ensures)

pub tickets_for-requires-clause-served : goal.tickets_for-requires-clause-served
tickets_for-requires-clause-served c =
    let g = c.args.game.now in
    let counts = counts_of c.args.table.now in
    let rows = c.in_ok-rows.rows.items in
    let parts = c.in_ok-parts.parts.items in
    let d : ℤ = to_z w128 (of_z w128 c.args.total) in
    let e : d ≡ c.args.total = omega (arith, ints, c.ranges.total) in
    let is : IsDecomposition rows (length g.goals) c.args.total parts =
    decomposed_as rows c.as_slice.result.now (length g.goals) c.targets.result c.args.total d c.as_slice.ensures.value (targets_count g c.targets.result c.requires.single.security c.targets.ensures.count) e parts c.in_ok-parts.ensures in
    subst (λ (ps : List Part). All (λ (part : Part). AreServed g part.columns) ps) (sym c.as_slice-2.ensures.value) (all_served g c.promises.ensures counts c.args.total c.requires rows c.in_ok-rows.ensures parts is)

pub joined-requires : goal.joined-requires
joined-requires c =
    let g = c.args.game.now in
    let counts = counts_of c.args.table.now in
    let rows = c.in_ok-rows.rows.items in
    let parts = c.in_ok-parts.parts.items in
    let tickets = c.in_ok-tickets.tickets.items in
    let d : ℤ = to_z w128 (of_z w128 c.args.total) in
    let e : d ≡ c.args.total = omega (arith, ints, c.ranges.total) in
    let is : IsDecomposition rows (length g.goals) c.args.total parts =
    decomposed_as rows c.as_slice.result.now (length g.goals) c.targets.result c.args.total d c.as_slice.ensures.value (targets_count g c.targets.result c.requires.single.security c.targets.ensures.count) e parts c.in_ok-parts.ensures in
    let for : AreTicketsFor g parts tickets = subst (λ (ps : List Part). AreTicketsFor g ps tickets) c.as_slice-2.ensures.value c.in_ok-tickets.ensures in
    no_fault tickets c.args.total (all_positive g c.promises.ensures counts c.args.total c.requires rows c.in_ok-rows.ensures parts is tickets for)
    (whole_weight g c.promises.ensures counts c.args.total c.requires rows c.in_ok-rows.ensures parts is tickets for) c.requires.positive c.ranges.total

pub returns : goal.returns
returns c =
    let g = c.args.game.now in
    let counts = counts_of c.args.table.now in
    let rows = c.in_ok-rows.rows.items in
    let parts = c.in_ok-parts.parts.items in
    let tickets = c.in_ok-tickets.tickets.items in
    let d : ℤ = to_z w128 (of_z w128 c.args.total) in
    let e : d ≡ c.args.total = omega (arith, ints, c.ranges.total) in
    let is : IsDecomposition rows (length g.goals) c.args.total parts =
    decomposed_as rows c.as_slice.result.now (length g.goals) c.targets.result c.args.total d c.as_slice.ensures.value (targets_count g c.targets.result c.requires.single.security c.targets.ensures.count) e parts c.in_ok-parts.ensures in
    let for : AreTicketsFor g parts tickets = subst (λ (ps : List Part). AreTicketsFor g ps tickets) c.as_slice-2.ensures.value c.in_ok-tickets.ensures in
    matched_is g c.promises.ensures counts c.args.total c.requires rows c.in_ok-rows.ensures parts is tickets for c.joined.result c.joined.ensures.shares c.joined.ensures.rules
