use Rattle.std.proofs.Common.{ℕ, refl}
use Rattle.std.specs.Int.{w128}
use Rattle.std.specs.Prelude.{◌*ℤ◌}
use Rattle.std.proofs.lemmas.Int.{to_z-of_z}
use Rattle.sg_bounds.specs.Coverage.{always, chooses, column_cost, covering}
use Rattle.sg_cover_fact.specs.Holding.{ColumnHolds}
use Rattle.sg_cover_fact.specs.LineSums.{sum_in_column}
use Rattle.sg_cover_fact.proofs.Testable.{by-kind, choice-plain, plain-same}
use Rattle.sg_cover_fact.proofs.fact.columns_hold.Goals as goal

pub returns-then-not-whole_column_holds : goal.returns-then-not-whole_column_holds
returns-then-not-whole_column_holds c =
    let h = rw (to_z-of_z w128 c.args.rho c.ranges.rho, to_z-of_z w128 c.args.mu c.ranges.mu) at c.if-not-whole_column_holds.ensures in
    (λ no_case. cc, λ each. h.1 (each always tt))

pub returns-then-not-choice_columns_hold : goal.returns-then-not-choice_columns_hold
returns-then-not-choice_columns_hold c =
    let plain = choice-plain c.args.game.now c.args.fix.now c.args.rho c.args.mu c.args.lines.now in
    (λ no_case. cc, λ each. c.if-not-choice_columns_hold.ensures.1 (λ r j known low high. (plain r j).1 (each (chooses r j) (known.0, known.1, low, high))))

pub returns : goal.returns
returns c =
    let g = c.args.game.now in
    let fix = c.args.fix.now in
    let rho = c.args.rho in
    let mu = c.args.mu in
    let lines = c.args.lines.now in
    let er = to_z-of_z w128 rho c.ranges.rho in
    let em = to_z-of_z w128 mu c.ranges.mu in
    let whole_h = rw (er, em) at c.if-not-whole_column_holds.ensures in
    let targets_h = rw er at c.target_columns_hold.ensures in
    let plain = choice-plain g fix rho mu lines in
    let row = plain-same g fix rho mu lines in
    let worth = λ (t : ℕ). rho *ℤ column_cost g fix (covering t) in
    let sum = λ (t : ℕ). sum_in_column g fix lines (covering t) in (
      λ holds. by-kind g (ColumnHolds g fix rho mu lines) (whole_h.0 refl) (λ r j known low high. (plain r j).0 (c.if-not-choice_columns_hold.ensures.0 refl r j known low high))
          (λ t known. (row (worth t) (sum t)).0 (targets_h.0 holds t known)),
      λ each. targets_h.1 (λ t known. (row (worth t) (sum t)).1 (each (covering t) known)),
    )
