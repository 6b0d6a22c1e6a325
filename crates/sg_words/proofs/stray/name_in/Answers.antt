use Rattle.std.proofs.Common.{◌≡◌, ◌∙◌, ◌≤◌, ◌<◌, ap, sym, length, take, arith, eq-eqb}
use Rattle.std.specs.Prelude.{◌==◌}
use Rattle.std.proofs.lemmas.List.{take_all}
use Rattle.std.proofs.lemmas.List.Sums.{position_or_len_is}
use Rattle.sg_words.proofs.stray.name_in.Goals as goal

pub returns-then-text-k-eq61 : goal.returns-then-text-k-eq61
returns-then-text-k-eq61 c =
    sym (ap (λ n. take n c.args.text.now)
    (position_or_len_is (λ code. code == 61) c.args.text.now c.loop-k.k 0 (omega (arith, c.loop-k-test.true)) c.loop-k.invariant (λ _. eq-eqb _ 61 c.if-text-k-eq61.true)))

pub returns : goal.returns
returns c =
    sym (ap (λ n. take n c.args.text.now)
    (position_or_len_is (λ code. code == 61) c.args.text.now (length c.args.text.now) 0 (omega arith)
    (λ j lt. c.loop-k.invariant j (omega (arith, lt, c.loop-k-test.false))) (λ lt. absurd (omega (arith, lt))))
    ∙ take_all (length c.args.text.now) c.args.text.now (omega arith))
