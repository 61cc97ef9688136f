use Rattle.std.proofs.Common.{None, refl, ap, inl, take, ◌∙◌}
use Rattle.express_words.specs.declared.role.Role.{Role}
use Rattle.node_restart.specs.declared.frames.Sender.{Sender}
use Rattle.node_restart.specs.Frames.{handed}
use Rattle.node_serve.specs.Draining.{begun, took}
use Rattle.node_serve.specs.Handing.{sender_at}
use Rattle.node_serve.proofs.RespondLaws.{responds_to, stops_to}
use Rattle.node_serve.proofs.answering.answer_alone.Goals as goal

pub returns-in-Ok-clause-ends : goal.returns-in-Ok-clause-ends
returns-in-Ok-clause-ends g c = λ peer net.
    let core = g.S.Logged.log.core c.args.server.now in
    let bytes = c.args.received.now in
    let from = c.sender_at.ensures ∙ ap (λ (r : Role). sender_at r bytes) c.role.ensures in
    let tells = c.in-Ok.ensures.steps in
    record {
      answers = record {
        end = took (begun core) c.sender_at.result bytes;
        reaches = record { core = tells.core_is; takes = c.in-Ok.ensures.takes; made = refl };
        reply = take c.in-Ok.stepped.told c.step.new.out;
        responds = responds_to core bytes None _ net.faults c.send.result _ c.requires.alone
            (inl (c.send.ensures.sent, ap (λ (s : Sender). took (begun core) s bytes) from, tells.answer));
        writes = c.send.ensures.writes;
      };
      stops = tt;
    }

pub returns-in-Err-clause-ends : goal.returns-in-Err-clause-ends
returns-in-Err-clause-ends g c = λ peer net.
    let core = g.S.Logged.log.core c.args.server.now in
    let bytes = c.args.received.now in
    let from = c.sender_at.ensures ∙ ap (λ (r : Role). sender_at r bytes) c.role.ensures in
    record {
      answers = tt;
      stops = record {
        end = begun core;
        refused = handed c.sender_at.result bytes;
        reaches = record { core = c.in-Err.ensures.no_step; stops = c.in-Err.ensures.stops; made = refl };
        stops = stops_to core bytes None _ _ c.requires.alone (refl, ap (λ (s : Sender). handed s bytes) from);
      };
    }
