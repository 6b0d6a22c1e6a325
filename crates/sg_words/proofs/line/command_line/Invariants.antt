use Rattle.std.proofs.Common.{◌≡◌, drop, map}
use Rattle.std.specs.Prelude.{fold}
use Rattle.clap.specs.Words.{app_of, with_rule}
use Rattle.sg_words.specs.Line.{command_line, option_rule}
use Rattle.sg_words.specs.Usages.{option_names, usage_of, setting_of}
use Rattle.sg_words.proofs.line.command_line.Given as goal

abbrev pub invariant-loop-setting : goal.invariant-loop-setting
invariant-loop-setting l = fold (λ app option. with_rule app (option_rule option)) (app_of l.command) (map (λ setting. setting.name) (map setting_of (drop l.setting-index l.usage.options.now)))
    ≡ command_line l.usage.name.now (option_names (usage_of l.usage))
