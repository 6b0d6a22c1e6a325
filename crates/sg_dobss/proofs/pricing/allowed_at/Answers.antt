use Rattle.std.proofs.Common.{rules, ◌∙◌, ◌<◌, length, subst, sym, take}
use Rattle.std.specs.Int.{w128}
use Rattle.std.specs.Prelude.{FitsSigned}
use Rattle.std.proofs.lemmas.Int.{to_z-of_z}
use Rattle.sg_rows.specs.Rows.{place}
use Rattle.sg_dobss.specs.Tables.{entry_in}
use Rattle.sg_dobss.proofs.Summed.{summed-more, summed-stops}
use Rattle.sg_dobss.proofs.pricing.allowed_at.Goals as goal

pub product_at-requires-clause-multiplier : goal.product_at-requires-clause-multiplier
product_at-requires-clause-multiplier c = subst (λ z. z < length c.args.y.now) (sym c.live_place-j.ensures.value) (c.requires.within c.loop-i.i 0 c.live_place-j.ensures.there)

pub returns-in-Err : goal.returns-in-Err
returns-in-Err c =
    let a = c.args in
    sym (c.loop-i.invariant ∙ summed-stops (place a.y.now) (λ j. entry_in a.rows.now j a.k) (take a.live.now.count a.live.now.places) c.loop-i.i c.live_place-j.result _ c.in-Err.wide
    c.live_place-j.ensures.there (sym c.live_place-j.ensures.value) (sym c.in-Err.is ∙ c.product_at.ensures.steps))

pub loop-i-preserved : goal.loop-i-preserved
loop-i-preserved c =
    let a = c.args in
    let fits : FitsSigned w128 c.in-Ok.next = search rules in
    simp to_z-of_z (c.loop-i.invariant ∙ summed-more (place a.y.now) (λ j. entry_in a.rows.now j a.k) (take a.live.now.count a.live.now.places) c.loop-i.i c.live_place-j.result _ c.in-Ok.next
    c.live_place-j.ensures.there (sym c.live_place-j.ensures.value) (sym c.in-Ok.is ∙ c.product_at.ensures.steps) c.in-Ok.ensures.value)
