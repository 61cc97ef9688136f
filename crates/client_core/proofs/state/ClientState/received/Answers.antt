use Rattle.std.proofs.lemmas.List.{length-map}
use Rattle.client_core.specs.States.{client_in}
use Rattle.client_core.proofs.ReplyLemmas.{message_read, message_dropped}
use Rattle.client_core.proofs.state.ClientState.received.Goals as goal

pub returns-then-zero-self : goal.returns-then-zero-self
returns-then-zero-self c =
    message_read (client_in c.args.self.now) c.args.own c.args.zero.now c.args.one.now (rw length-map c.requires.own) c.if-zero-self.true

pub returns-else-zero-self : goal.returns-else-zero-self
returns-else-zero-self c =
    message_dropped (client_in c.args.self.now) c.args.own c.args.zero.now c.args.one.now c.if-zero-self.false
