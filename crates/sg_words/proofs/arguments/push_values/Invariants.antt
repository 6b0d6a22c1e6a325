use Rattle.std.proofs.Common.{◌≡◌, ◌++◌, drop, map, option_map}
use Rattle.clap.specs.Words.{found_of, rows_of}
use Rattle.sg_words.specs.Usages.{setting_of, values_by}
use Rattle.sg_words.specs.Line.{texts_in}
use Rattle.sg_words.proofs.arguments.push_values.Given as goal

abbrev pub invariant-loop-setting : goal.invariant-loop-setting
invariant-loop-setting l = option_map (λ values. map (λ text. text.now) l.texts.items ++ values) (values_by (map setting_of (drop l.setting-index l.settings)) (λ name. texts_in name (rows_of (found_of l.found))))
    ≡ option_map (λ values. map (λ text. text.now) l.initial.texts.items ++ values) (values_by (map setting_of l.settings) (λ name. texts_in name (rows_of (found_of l.found))))
