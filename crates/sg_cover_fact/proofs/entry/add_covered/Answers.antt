use Rattle.std.proofs.Common.{◌≡◌, ◌≢◌, ◌∙◌, ℕ, ℤ, ◌<◌, arith, length, sym}
use Rattle.std.specs.Prelude.{◌*ℤ◌}
use Rattle.std.specs.Int.{w128}
use Rattle.std.proofs.lemmas.Int.{to_z-of_z}
use Rattle.sg_bounds.specs.Coverage.{covering, entry, gains}
use Rattle.sg_bounds.specs.Regions.{act_of}
use Rattle.sg_cover_fact.proofs.Columns.{elsewhere, touched-two}
use Rattle.sg_cover_fact.proofs.entry.add_covered.Goals as goal

pub add_entry-requires-in-Gains-clause-product : goal.add_entry-requires-in-Gains-clause-product
add_entry-requires-in-Gains-clause-product c =
    let m = to_z-of_z w128 c.args.v c.ranges.v in
    let row = rw c.in-Gains.is at c.requires.row in
    rw m (rw c.in-Gains.is at (c.requires.products c.in-Gains.other row.3))

pub add_entry-requires-in-Gains-2-clause-product : goal.add_entry-requires-in-Gains-2-clause-product
add_entry-requires-in-Gains-2-clause-product c =
    let m = to_z-of_z w128 c.args.v c.ranges.v in
    rw m (rw c.in-Gains.is at (c.requires.products c.own_action.result c.own_action.ensures.known))

pub returns-in-Gains : goal.returns-in-Gains
returns-in-Gains c = λ t known.
    let g = c.args.game.now in
    let fix = c.args.fix.now in
    let l = c.in-Gains.l in
    let other = c.in-Gains.other in
    let own = c.own_action.result in
    let m = to_z-of_z w128 c.args.v c.ranges.v in
    let row = rw c.in-Gains.is at c.requires.row in
    let number : own ≡ act_of fix l = c.own_action.ensures.number in
    let f : ℕ → ℤ = λ (t : ℕ). c.args.v *ℤ entry g fix (gains l other) (covering t) in
    let apart : own ≢ other = λ e. row.4 (sym e ∙ number) in
    let in_other : other < length c.args.covered.now = omega (arith, row.3.1, c.requires.room) in
    let in_own : own < length c.args.covered.now = omega (arith, c.own_action.ensures.known.1, c.requires.room) in
    let none : (t : ℕ) → t ≢ other → t ≢ own → f t ≡ _ = λ t no_other no_own. elsewhere c.args.v _ _ other (act_of fix l) t no_other (λ e. no_own (e ∙ sym number)) in
    rw c.in-Gains.is (touched-two f c.args.covered.now c.add_entry-in-Gains.new.covered c.add_entry-in-Gains-2.new.covered other own apart in_other in_own (rw m at c.add_entry-in-Gains.ensures) (rw m at c.add_entry-in-Gains-2.ensures) none t)
