use Rattle.std.proofs.Common.{ap, sym}
use Rattle.std.specs.Prelude.{option_map}
use Rattle.client_core.specs.declared.stage.CurrentStep.{CurrentStep}
use Rattle.client_core.specs.Stages.{current_in}
use Rattle.client_core.specs.States.{client_in}
use Rattle.client_core.proofs.ReplyLemmas.{nothing_given_up, given_up_is}
use Rattle.client_core.proofs.state.ClientState.give_up.Goals as goal

pub returns-in-None-clause-given_up : goal.returns-in-None-clause-given_up
returns-in-None-clause-given_up c =
    let s = c.args.self.now in
    nothing_given_up (client_in s) (ap (option_map (λ (g : CurrentStep). current_in g s.message.items)) c.in-None.is)

pub returns-in-Some-clause-given_up : goal.returns-in-Some-clause-given_up
returns-in-Some-clause-given_up c =
    let s = c.args.self.now in
    given_up_is (client_in s) (client_in c.finish.new.self) (current_in c.in-Some.field-0 s.message.items)
    (ap (option_map (λ (g : CurrentStep). current_in g s.message.items)) c.in-Some.is)
    (ap client_in (sym c.finish.ensures.rest))
