use Rattle.std.proofs.Common.{◌∙◌, ap}
use Rattle.dpf_rules.specs.Expansion.{challenge_r, challenge_s}
use Rattle.audit_rules.specs.Audit.{zero_share, one_share}
use Rattle.step_rules.specs.ClientAsks.{share_for, difference}
use Rattle.client_core.specs.States.{client_in}
use Rattle.client_core.proofs.state.ClientState.proof.Goals as goal

pub returns-clause-zero : goal.returns-clause-zero
unfolding share_for
returns-clause-zero c = c.prove.ensures.zero ∙ ap zero_share c.words-words.ensures

pub returns-clause-one : goal.returns-clause-one
unfolding share_for
returns-clause-one c =
    let cl = client_in c.args.self.now in
    let d = difference cl c.args.target c.args.self.now.message.items in
    let r = challenge_r c.args.ckey.now c.args.target in
    c.prove.ensures.one
    ∙ (ap (λ m. one_share m c.challenge-r.result.0 c.challenge-r.result.1 c.words-words.result) c.difference-difference.ensures
    ∙ (ap (λ n. one_share d n c.challenge-r.result.1 c.words-words.result) c.challenge-r.ensures.r
    ∙ (ap (λ n. one_share d r n c.words-words.result) c.challenge-r.ensures.s
    ∙ ap (λ ws. one_share d r (challenge_s c.args.ckey.now c.args.target) ws) c.words-words.ensures)))
