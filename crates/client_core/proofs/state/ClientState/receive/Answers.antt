use Rattle.std.proofs.Common.{◌∙◌, ap, sym}
use Rattle.step_rules.specs.Client.{Turn}
use Rattle.client_core.specs.Answers.{progress_in, message_or}
use Rattle.client_core.specs.States.{client_in, owned_in}
use Rattle.client_core.proofs.ReplyLemmas.{wrong_width, right_width}
use Rattle.client_core.proofs.state.ClientState.receive.Goals as goal

pub returns-then-zero-self-clause-client : goal.returns-then-zero-self-clause-client
returns-then-zero-self-clause-client c =
    ap (λ (t : Turn). t.client) (sym (wrong_width (client_in c.args.self.now) _ c.args.zero.now c.args.one.now c.if-zero-self.true))

pub returns-then-zero-self-clause-progress : goal.returns-then-zero-self-clause-progress
returns-then-zero-self-clause-progress c =
    ap (λ (t : Turn). progress_in t.progress) (sym (wrong_width (client_in c.args.self.now) _ c.args.zero.now c.args.one.now c.if-zero-self.true))

pub returns-then-zero-self-clause-message : goal.returns-then-zero-self-clause-message
returns-then-zero-self-clause-message c =
    ap (λ (t : Turn). message_or c.args.message.now t.progress) (sym (wrong_width (client_in c.args.self.now) _ c.args.zero.now c.args.one.now c.if-zero-self.true))

pub returns-clause-client : goal.returns-clause-client
returns-clause-client c =
    ap client_in (sym c.ended.ensures.rest)
    ∙ ap (λ (t : Turn). t.client) (sym (right_width (client_in c.args.self.now) _ (owned_in c.own_box.result.now) c.args.zero.now c.args.one.now c.own_box.ensures c.if-zero-self.false))

pub returns-clause-progress : goal.returns-clause-progress
returns-clause-progress c =
    c.ended.ensures.progress
    ∙ ap (λ (t : Turn). progress_in t.progress) (sym (right_width (client_in c.args.self.now) _ (owned_in c.own_box.result.now) c.args.zero.now c.args.one.now c.own_box.ensures c.if-zero-self.false))

pub returns-clause-message : goal.returns-clause-message
returns-clause-message c =
    c.unmask.ensures
    ∙ ap (λ (t : Turn). message_or c.args.message.now t.progress) (sym (right_width (client_in c.args.self.now) _ (owned_in c.own_box.result.now) c.args.zero.now c.args.one.now c.own_box.ensures c.if-zero-self.false))
