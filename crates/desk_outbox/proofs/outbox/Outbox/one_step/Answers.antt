use Rattle.std.proofs.Common.{inr}
use Rattle.desk_outbox.proofs.outbox.Outbox.one_step.Goals as goal

pub returns-in-Ok-clause-steps : goal.returns-in-Ok-clause-steps
returns-in-Ok-clause-steps g c =
    inr (record {
      sent = c.make_ready.new.self;
      readied = c.in-Ok.ensures.readies;
      proof_first = c.in-Ok.ensures.proof;
      talks = c.talk_once.ensures.talks;
    })
