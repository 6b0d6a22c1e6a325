use Rattle.std.proofs.Common.{◌≡◌, ◌∙◌, ◌+◌, ℕ, suc, List, map, ap, arith, sym, subst}
use Rattle.sg_model.specs.Games.{resource_count}
use Rattle.sg_model.specs.Sums.{nth, numbers}
use Rattle.sg_roster.specs.Rows.{choice_name}
use Rattle.sg_roster.specs.Writing.{AddsFields}
use Rattle.sg_roster.proofs.Rowed.{assignments-listed, none_added, number_added}
use Rattle.sg_roster.proofs.rows.add_choices.Goals as goal

pub loop-r-init : goal.loop-r-init
loop-r-init c = none_added c.args.writer.now

pub loop-r-preserved : goal.loop-r-preserved
loop-r-preserved c =
    let g = c.args.game.now in
    let code : List ℕ = c.args.code.now in
    let r : ℕ = c.loop-r.r in
    let one : suc r ≡ r + 1 = omega arith in
    number_added c.args.writer.now c.loop-r.writer c.add_field.new.writer (λ s. choice_name g s (nth code s 0)) r c.as_bytes.result.now
    (c.as_bytes.ensures.value ∙ c.choice_name-name.ensures ∙ ap (λ (s : ℕ). choice_name g (r + 1) (nth code s 0)) one) c.loop-r.invariant c.in_ok-add_field.ensures

pub returns : goal.returns
returns c =
    let g = c.args.game.now in
    let code : List ℕ = c.args.code.now in
    let end : c.loop-r.r ≡ resource_count g = omega (arith, c.resources-r-end.ensures.count, c.loop-r-test.false, c.loop-r.auto.r-end) in
    subst (AddsFields c.args.writer.now c.loop-r.writer) (ap (λ (n : ℕ). map (λ s. choice_name g s (nth code s 0)) (numbers n)) end ∙ sym (assignments-listed g code c.requires.security)) c.loop-r.invariant
