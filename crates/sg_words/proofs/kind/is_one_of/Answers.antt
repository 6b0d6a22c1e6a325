use Rattle.std.proofs.Common.{◌∙◌, sym, bytes_eq}
use Rattle.sg_words.proofs.Loops.{any_hit, any_miss}
use Rattle.sg_words.proofs.kind.is_one_of.Goals as goal

pub returns-then-eq : goal.returns-then-eq
returns-then-eq c =
    sym (any_hit c.args.words.now c.loop-word.word-index _ c.loop-word-test.true (λ word. word.now) (λ known. bytes_eq known c.args.text.now) (sym c.eq.ensures ∙ c.if-eq.true)) ∙ c.loop-word.invariant

pub loop-word-preserved : goal.loop-word-preserved
loop-word-preserved c =
    sym (any_miss c.args.words.now c.loop-word.word-index _ c.loop-word-test.true (λ word. word.now) (λ known. bytes_eq known c.args.text.now) (sym c.eq.ensures ∙ c.if-eq.false)) ∙ c.loop-word.invariant
