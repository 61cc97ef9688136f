use Rattle.std.proofs.Common.{◌∙◌, ap, sym}
use Rattle.std.specs.Prelude.{option_map}
use Rattle.step_rules.specs.ClientAsks.{with_request}
use Rattle.mailbox_rules.specs.Requests.{Request}
use Rattle.client_core.specs.Requests.{plain_request, fault_in}
use Rattle.client_core.specs.States.{client_in}
use Rattle.client_core.proofs.AskLemmas.{refused_is, asked_is}
use Rattle.client_core.proofs.state.ClientState.ask.Goals as goal

pub returns-in-Some-clause-refused : goal.returns-in-Some-clause-refused
returns-in-Some-clause-refused c =
    refused_is (client_in c.args.self.now) (plain_request c.args.request.now) (fault_in c.in-Some.fault)
    (sym (ap (option_map fault_in) c.in-Some.is) ∙ c.fault.ensures.fault)

pub returns-in-None-clause-asked : goal.returns-in-None-clause-asked
returns-in-None-clause-asked c =
    asked_is (client_in c.args.self.now) _ (plain_request c.args.request.now)
    (sym (ap (option_map fault_in) c.in-None.is) ∙ c.fault.ensures.fault)
    (ap (λ s. with_request (client_in s) (plain_request c.args.request.now)) (sym c.task-task.ensures.rest)
    ∙ ap (λ (r : Request). with_request (client_in c.task-task.new.self) r) (sym c.task-task.ensures.request))
