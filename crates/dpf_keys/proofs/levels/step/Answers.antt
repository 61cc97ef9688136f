use Rattle.std.proofs.Common.{◌≡◌, ◌∙◌, ap}
use Rattle.dpf_rules.specs.Walk.{corrected, step}
use Rattle.dpf_rules.specs.Keys.{on_side}
use Rattle.dpf_rules.specs.Expansion.{child}
use Rattle.dpf_rules.proofs.PointLemmas.{on_side-raw_pair}
use Rattle.dpf_keys.proofs.levels.step.Goals as goal

pub returns : goal.returns
unfolding step
returns c =
    let raw : c.on_side.result ≡ child c.args.state c.args.side =
    c.on_side.ensures ∙ ap (λ p. on_side p c.args.side) c.requires.raw ∙ on_side-raw_pair c.args.state c.args.side c.requires.side_bound in
    c.corrected.ensures ∙ ap (λ r. corrected c.args.word c.args.right c.args.side r c.args.state) raw
