use Rattle.std.proofs.Common.{◌≡◌, ◌∙◌, ℕ, map, ap, arith, sym, subst}
use Rattle.sg_model.specs.Games.{resource_count}
use Rattle.sg_model.specs.Sums.{numbers}
use Rattle.sg_game.specs.Counts.{resource_name}
use Rattle.sg_roster.specs.Writing.{AddsFields}
use Rattle.sg_roster.proofs.Rowed.{columns-listed, none_added, number_added}
use Rattle.sg_roster.proofs.rows.add_resource_names.Goals as goal

pub loop-r-init : goal.loop-r-init
loop-r-init c = none_added c.args.writer.now

pub loop-r-preserved : goal.loop-r-preserved
loop-r-preserved c =
    number_added c.args.writer.now c.loop-r.writer c.add_field.new.writer (resource_name c.args.game.now) c.loop-r.r c.as_bytes.result.now
    (c.as_bytes.ensures.value ∙ c.resource_name.ensures) c.loop-r.invariant c.in_ok-add_field.ensures

pub returns : goal.returns
returns c =
    let g = c.args.game.now in
    let end : c.loop-r.r ≡ resource_count g = omega (arith, c.resources-r-end.ensures.count, c.loop-r-test.false, c.loop-r.auto.r-end) in
    subst (AddsFields c.args.writer.now c.loop-r.writer) (ap (λ (n : ℕ). map (resource_name g) (numbers n)) end ∙ sym (columns-listed g c.requires)) c.loop-r.invariant
