use Rattle.std.proofs.Common.{rules, ap₂, codes, ◌≡◌, ◌∙◌}
use Rattle.clap.specs.Words.{rule_of, new_rule, with_rule}
use Rattle.desk_words.specs.CommandLine.{word_rule}
use Rattle.desk_words.proofs.given.parser.Goals as goal

pub returns : goal.returns
returns c =
    let word_is : rule_of c.required-word.result ≡ word_rule = search rules in
    let first_is : rule_of c.new-first.result ≡ new_rule (codes "FIRST") = search rules in
    let second_is : rule_of c.new-second.result ≡ new_rule (codes "SECOND") = search rules in
    let with_word = c.in_ok-with_word.ensures.shape (search rules) ∙ ap₂ with_rule c.in_ok-options.ensures word_is in
    let with_first = c.in_ok-with_first.ensures.shape (search rules) ∙ ap₂ with_rule with_word first_is in
    c.in_ok-whole.ensures.shape (search rules) ∙ ap₂ with_rule with_first second_is
