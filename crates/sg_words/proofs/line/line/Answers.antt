use Rattle.std.proofs.Common.{◌≡◌, ◌∙◌, ap, ap₂, true}
use Rattle.std.proofs.lemmas.Result.{IfOk-weaker}
use Rattle.clap.specs.Words.{App, app_of, with_subcommand}
use Rattle.sg_words.specs.Line.{bare_line}
use Rattle.sg_words.specs.Usages.{option_names, usage_of}
use Rattle.sg_words.proofs.Found.{no_globals}
use Rattle.sg_words.proofs.Rules.{command_line-plain}
use Rattle.sg_words.proofs.line.line.Goals as goal

pub returns : goal.returns
returns c =
    let bare_is : app_of c.subcommand_required.result ≡ bare_line =
    rw (c.subcommand_required.ensures, c.disable_version_flag.ensures, c.disable_help_subcommand.ensures, c.disable_help_flag.ensures, c.no_binary_name.ensures)
    (ap (λ (a : App). record a { top = record a.top { no_binary_name = true; disable_help_flag = true; disable_help_subcommand = true; disable_version_flag = true; subcommand_required = true } }) c.new.ensures.app) in
    let plain = no_globals c.in_ok-command.command _ (command_line-plain c.args.usage.now.name.now (option_names (usage_of c.args.usage.now))) c.in_ok-command.ensures in
    IfOk-weaker c.subcommand.result _ _ (λ r h. h.shape plain ∙ ap₂ with_subcommand bare_is (ap (λ (a : App). a.top) c.in_ok-command.ensures)) c.subcommand.ensures
