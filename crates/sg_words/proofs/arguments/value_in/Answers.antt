use Rattle.std.proofs.Common.{◌∙◌, ap}
use Rattle.clap.specs.Words.{found_of}
use Rattle.sg_words.specs.Usages.{option_value, setting_of}
use Rattle.sg_words.proofs.Found.{texts_in-Some, texts_in-None}
use Rattle.sg_words.proofs.arguments.value_in.Goals as goal

pub returns-in-Some : goal.returns-in-Some
returns-in-Some c =
    c.option_value.ensures ∙ ap (option_value (setting_of c.args.setting.now)) (texts_in-Some (found_of c.args.found.now) c.args.setting.now.name.now _ c.in-Some.ensures)

pub returns-in-None : goal.returns-in-None
returns-in-None c = ap (option_value (setting_of c.args.setting.now)) (texts_in-None (found_of c.args.found.now) c.args.setting.now.name.now c.in-None.ensures)
