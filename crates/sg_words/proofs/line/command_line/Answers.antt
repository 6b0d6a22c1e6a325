use Rattle.std.proofs.Common.{◌∙◌, ap, ap₂, map}
use Rattle.std.specs.Prelude.{fold}
use Rattle.clap.specs.Words.{App, app_of, with_rule}
use Rattle.sg_words.specs.Line.{option_rule}
use Rattle.sg_words.specs.Usages.{setting_of}
use Rattle.sg_words.proofs.Loops.{option_added}
use Rattle.sg_words.proofs.line.command_line.Goals as goal

pub loop-setting-init : goal.loop-setting-init
loop-setting-init c =
    ap (λ (a : App). fold (λ app option. with_rule app (option_rule option)) a (map (λ setting. setting.name) (map setting_of c.args.usage.now.options.now)))
    (c.in_ok-command.ensures.shape c.words_arg.ensures.local ∙ ap₂ with_rule c.new.ensures.app c.words_arg.ensures.rule)

pub loop-setting-preserved : goal.loop-setting-preserved
loop-setting-preserved c =
    option_added c.args.usage.now.options.now c.loop-setting.setting-index _ (app_of c.loop-setting.command) (app_of c.in_ok-command-2.command) c.loop-setting-test.true
    (c.in_ok-command-2.ensures.shape c.option_arg.ensures.local ∙ ap (with_rule (app_of c.loop-setting.command)) c.option_arg.ensures.rule)
    ∙ c.loop-setting.invariant
