use Rattle.std.proofs.Common.{rules, ap, ap₂, codes, true, ◌≡◌, ◌∙◌}
use Rattle.clap.specs.Words.{App, app_of, rule_of, new_rule, with_rule}
use Rattle.server_words.specs.CommandLine.{plain_app, word_rule}
use Rattle.server_words.proofs.given.parser.Goals as goal

pub returns : goal.returns
returns c =
    let word_is : rule_of c.required-word.result ≡ word_rule = search rules in
    let first_is : rule_of c.new-first.result ≡ new_rule (codes "FIRST") = search rules in
    let second_is : rule_of c.new-second.result ≡ new_rule (codes "SECOND") = search rules in
    let plain_is : app_of c.disable_version_flag-bare.result ≡ plain_app =
    rw (c.disable_version_flag-bare.ensures, c.disable_help_flag.ensures, c.no_binary_name.ensures)
    (ap (λ (a : App). let t : App = record { top = record a.top { no_binary_name = true; disable_help_flag = true; disable_version_flag = true }; subs = a.subs } in t) c.new-2.ensures.app) in
    let with_word = c.in_ok-with_word.ensures.shape (search rules) ∙ ap₂ with_rule plain_is word_is in
    let with_first = c.in_ok-with_first.ensures.shape (search rules) ∙ ap₂ with_rule with_word first_is in
    c.in_ok-whole.ensures.shape (search rules) ∙ ap₂ with_rule with_first second_is
