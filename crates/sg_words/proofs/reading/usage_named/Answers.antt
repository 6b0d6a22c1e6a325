use Rattle.std.proofs.Common.{◌∙◌, sym, bytes_eq}
use Rattle.sg_words.specs.Usages.{usage_of}
use Rattle.sg_words.proofs.Loops.{find_hit, find_miss}
use Rattle.sg_words.proofs.reading.usage_named.Goals as goal

pub returns-then-eq : goal.returns-then-eq
returns-then-eq c =
    sym (find_hit c.args.usages.now c.loop-usage.usage-index _ c.loop-usage-test.true usage_of (λ usage. bytes_eq usage.name c.args.name.now) (sym c.eq.ensures ∙ c.if-eq.true)) ∙ c.loop-usage.invariant

pub loop-usage-preserved : goal.loop-usage-preserved
loop-usage-preserved c =
    sym (find_miss c.args.usages.now c.loop-usage.usage-index _ c.loop-usage-test.true usage_of (λ usage. bytes_eq usage.name c.args.name.now) (sym c.eq.ensures ∙ c.if-eq.false)) ∙ c.loop-usage.invariant
