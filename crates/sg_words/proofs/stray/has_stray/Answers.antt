use Rattle.std.proofs.Common.{◌≡◌, ◌∙◌, ap, sym, map, string_bytes, true, false}
use Rattle.sg_words.specs.Words.{is_end_of_options}
use Rattle.sg_words.specs.Stray.{is_stray}
use Rattle.sg_words.proofs.Marks.{has_stray_at-end, has_stray_at}
use Rattle.sg_words.proofs.stray.has_stray.Goals as goal

pub returns-then-eq : goal.returns-then-eq
returns-then-eq c =
    let names = map (λ setting. setting.name.now) c.args.settings.now in
    let mark : is_end_of_options (string_bytes c.word-item.result) ≡ true = ap is_end_of_options (sym c.as_str.ensures.value) ∙ sym c.eq.ensures ∙ c.if-eq.true in
    sym (has_stray_at-end names string_bytes c.args.words.now c.loop-word.word-index c.word-item.result c.loop-word-test.true c.word-item.is mark) ∙ c.loop-word.invariant

pub returns-then-is_stray : goal.returns-then-is_stray
returns-then-is_stray c =
    let names = map (λ setting. setting.name.now) c.args.settings.now in
    let mark : is_end_of_options (string_bytes c.word-item.result) ≡ false = ap is_end_of_options (sym c.as_str.ensures.value) ∙ sym c.eq.ensures ∙ c.if-eq.false in
    let stray : is_stray names (string_bytes c.word-item.result) ≡ true = ap (is_stray names) (sym c.as_str-in-loop-word.ensures.value) ∙ sym c.is_stray.ensures ∙ c.if-is_stray.true in
    sym (has_stray_at names string_bytes c.args.words.now c.loop-word.word-index c.word-item.result c.loop-word-test.true c.word-item.is true mark stray) ∙ c.loop-word.invariant

pub loop-word-preserved : goal.loop-word-preserved
loop-word-preserved c =
    let names = map (λ setting. setting.name.now) c.args.settings.now in
    let mark : is_end_of_options (string_bytes c.word-item.result) ≡ false = ap is_end_of_options (sym c.as_str.ensures.value) ∙ sym c.eq.ensures ∙ c.if-eq.false in
    let stray : is_stray names (string_bytes c.word-item.result) ≡ false = ap (is_stray names) (sym c.as_str-in-loop-word.ensures.value) ∙ sym c.is_stray.ensures ∙ c.if-is_stray.false in
    sym (has_stray_at names string_bytes c.args.words.now c.loop-word.word-index c.word-item.result c.loop-word-test.true c.word-item.is false mark stray) ∙ c.loop-word.invariant
