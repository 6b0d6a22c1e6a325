use Rattle.std.proofs.Common.{◌∙◌, sym, ap, bytes_eq}
use Rattle.sg_words.proofs.Loops.{any_hit, any_miss}
use Rattle.sg_words.proofs.stray.has_name.Goals as goal

pub returns-then-eq : goal.returns-then-eq
returns-then-eq c =
    sym (any_hit c.args.settings.now c.loop-setting.setting-index _ c.loop-setting-test.true (λ setting. setting.name.now) (λ known. bytes_eq known c.args.name.now) (ap (λ known. bytes_eq known c.args.name.now) (sym c.as_bytes.ensures.value) ∙ sym c.eq.ensures ∙ c.if-eq.true)) ∙ c.loop-setting.invariant

pub loop-setting-preserved : goal.loop-setting-preserved
loop-setting-preserved c =
    sym (any_miss c.args.settings.now c.loop-setting.setting-index _ c.loop-setting-test.true (λ setting. setting.name.now) (λ known. bytes_eq known c.args.name.now) (ap (λ known. bytes_eq known c.args.name.now) (sym c.as_bytes.ensures.value) ∙ sym c.eq.ensures ∙ c.if-eq.false)) ∙ c.loop-setting.invariant
