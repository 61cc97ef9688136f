use Rattle.std.proofs.Common.{rules, ap, ap₂, true, ◌≡◌, ◌∙◌}
use Rattle.clap.specs.Words.{App, app_of, rule_of, with_rule}
use Rattle.express_cli.specs.CommandLine.{plain_app, command_rule, number_rule}
use Rattle.express_cli.proofs.words.parser.Goals as goal

pub returns : goal.returns
returns c =
    let command_is : rule_of c.required-command_arg.result ≡ command_rule = search rules in
    let number_is : rule_of c.new-number_arg.result ≡ number_rule = search rules in
    let plain_is : app_of c.disable_version_flag-bare.result ≡ plain_app =
    rw (c.disable_version_flag-bare.ensures, c.disable_help_flag.ensures, c.no_binary_name.ensures)
    (ap (λ (a : App). let t : App = record { top = record a.top { no_binary_name = true; disable_help_flag = true; disable_version_flag = true }; subs = a.subs } in t) c.new-2.ensures.app) in
    c.in_ok-whole.ensures.shape (search rules) ∙ ap₂ with_rule (c.in_ok-with_command.ensures.shape (search rules) ∙ ap₂ with_rule plain_is command_is) number_is
