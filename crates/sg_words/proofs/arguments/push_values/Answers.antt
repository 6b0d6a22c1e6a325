use Rattle.std.proofs.Common.{◌≡◌, ◌∙◌, ◌+◌, ◌++◌, List, ap, sym, drop, map, option_map}
use Rattle.std.proofs.lemmas.List.{map-append}
use Rattle.clap.specs.Words.{found_of, rows_of}
use Rattle.sg_words.specs.Words.{Text}
use Rattle.sg_words.specs.Line.{texts_in}
use Rattle.sg_words.specs.Usages.{setting_of, values_by}
use Rattle.sg_words.proofs.Loops.{values_by_at-none, values_by_at, values_by_end}
use Rattle.sg_words.proofs.arguments.push_values.Goals as goal

pub returns-in-None : goal.returns-in-None
returns-in-None c =
    let given = λ (name : Text). texts_in name (rows_of (found_of c.args.found.now)) in
    sym (ap (option_map (λ values. map (λ text. text.now) c.loop-setting.texts.items ++ values))
    (values_by_at-none setting_of given c.args.settings.now c.loop-setting.setting-index _ c.loop-setting-test.true (sym c.in-None.ensures)))
    ∙ c.loop-setting.invariant

pub loop-setting-preserved : goal.loop-setting-preserved
loop-setting-preserved c =
    let given = λ (name : Text). texts_in name (rows_of (found_of c.args.found.now)) in
    ap (λ (texts : List Text). option_map (λ values. texts ++ values) (values_by (map setting_of (drop (c.loop-setting.setting-index + 1) c.args.settings.now)) given))
    (ap (map (λ text. text.now)) c.in_ok-push-in-Some.ensures.items ∙ map-append (λ text. text.now) c.loop-setting.texts.items _)
    ∙ sym (values_by_at setting_of given c.args.settings.now c.loop-setting.setting-index _ (map (λ text. text.now) c.loop-setting.texts.items) c.in-Some.value.now c.loop-setting-test.true (sym c.in-Some.ensures))
    ∙ c.loop-setting.invariant

pub returns : goal.returns
returns c =
    let given = λ (name : Text). texts_in name (rows_of (found_of c.args.found.now)) in
    values_by_end setting_of given c.args.settings.now c.loop-setting.setting-index (map (λ text. text.now) c.loop-setting.texts.items) c.loop-setting-test.false
    ∙ c.loop-setting.invariant
