use Rattle.std.proofs.Common.{rules, ap, ap₂, codes, true, ◌≡◌, ◌∙◌}
use Rattle.clap.specs.Words.{App, app_of, rule_of, with_rule}
use Rattle.desk_words.specs.CommandLine.{plain_app, option_rule}
use Rattle.desk_words.proofs.given.with_places.Goals as goal

pub returns : goal.returns
returns c =
    let desk_is : rule_of c.action-desk.result ≡ option_rule (codes "DESK") (codes "desk") = search rules in
    let out_is : rule_of c.action-out.result ≡ option_rule (codes "OUT") (codes "out") = search rules in
    let proxy_is : rule_of c.action-proxy.result ≡ option_rule (codes "PROXY") (codes "proxy") = search rules in
    let plain_is : app_of c.disable_version_flag-bare.result ≡ plain_app =
    rw (c.disable_version_flag-bare.ensures, c.disable_help_flag.ensures, c.no_binary_name.ensures)
    (ap (λ (a : App). let t : App = record { top = record a.top { no_binary_name = true; disable_help_flag = true; disable_version_flag = true }; subs = a.subs } in t) c.new-4.ensures.app) in
    let with_out = c.in_ok-with_out.ensures.shape (search rules) ∙ ap₂ with_rule (c.in_ok-with_desk.ensures.shape (search rules) ∙ ap₂ with_rule plain_is desk_is) out_is in
    c.in_ok-whole.ensures.shape (search rules) ∙ ap₂ with_rule with_out proxy_is
