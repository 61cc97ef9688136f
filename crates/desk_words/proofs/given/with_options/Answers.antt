use Rattle.std.proofs.Common.{rules, ap₂, codes, ◌≡◌, ◌∙◌}
use Rattle.clap.specs.Words.{rule_of, with_rule}
use Rattle.desk_words.specs.CommandLine.{flag_rule, option_rule}
use Rattle.desk_words.proofs.given.with_options.Goals as goal

pub returns : goal.returns
returns c =
    let until_is : rule_of c.action-until.result ≡ option_rule (codes "UNTIL") (codes "until") = search rules in
    let now_is : rule_of c.action-now.result ≡ flag_rule (codes "NOW") (codes "now") = search rules in
    let with_until = c.in_ok-with_until.ensures.shape (search rules) ∙ ap₂ with_rule c.in_ok-places.ensures until_is in
    c.in_ok-whole.ensures.shape (search rules) ∙ ap₂ with_rule with_until now_is
