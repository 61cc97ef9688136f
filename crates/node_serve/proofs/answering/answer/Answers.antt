use Rattle.std.proofs.Common.{ℕ, take, ap, sym, inl, inr, ◌∙◌}
use Rattle.std.proofs.lemmas.Result.{IfOk-weaker}
use Rattle.express_words.specs.declared.role.Role.{Role}
use Rattle.frame_rules.specs.Frames.{plain}
use Rattle.frame_rules.specs.Spelling.{spelling}
use Rattle.node_serve.specs.Handing.{drained_for}
use Rattle.node_serve.specs.Responding.{link_down}
use Rattle.node_serve.proofs.RespondLaws.{responds_to, sent_fault, stops_to, writes_down}
use Rattle.node_serve.proofs.answering.answer.Goals as goal

pub returns-in_default-clause-fault : goal.returns-in_default-clause-fault
returns-in_default-clause-fault g c = IfOk-weaker c.answer_alone.result _ _ (λ why sent. sent_fault why _ sent) c.answer_alone.ensures.sent

pub returns-in-Ok-clause-ends : goal.returns-in-Ok-clause-ends
returns-in-Ok-clause-ends g c =
    let core = g.S.Logged.log.core c.args.server.now in
    let bytes = c.args.received.now in
    let h = c.in-Ok.ensures.ends in
    let found = c.in-Some.ensures.exact ∙ ap (λ (r : Role). drained_for r bytes) c.role.ensures in
    record {
      answers = record {
        end = h.0;
        reaches = h.2;
        reply = take c.in-Ok.told c.handle.new.out;
        responds = responds_to core bytes _ h.0 _ _ _ found (inl (c.send.ensures.sent, h.1.0, sym h.1.1));
        writes = c.send.ensures.writes;
      };
      stops = tt;
    }

pub returns-in-Err-Link-clause-ends : goal.returns-in-Err-Link-clause-ends
returns-in-Err-Link-clause-ends g c =
    let core = g.S.Logged.log.core c.args.server.now in
    let bytes = c.args.received.now in
    let why = c.in-Err-Link.why in
    let h = rw c.in-Err-Link.field-0-is at c.in-Err-Link.ensures.ends in
    let found = c.in-Some.ensures.exact ∙ ap (λ (r : Role). drained_for r bytes) c.role.ensures in
    let said = c.say_link_down-told.ensures.written ∙ ap (λ (n : ℕ). spelling (link_down (plain c.in-Some.client) n)) c.faults.ensures in
    let sent = c.send-in-Err-Link in
    record {
      answers = record {
        end = h.0;
        reaches = h.2;
        reply = take c.say_link_down-told.result c.say_link_down-told.new.out;
        responds = responds_to core bytes _ h.0 _ why _ found (inr (h.1, said));
        writes = writes_down h.1.last.core h.1.answer why sent.result _ _ _ _ _ h.1.broken sent.ensures.sent sent.ensures.writes;
      };
      stops = tt;
    }

pub returns-in-Err-Keep-clause-ends : goal.returns-in-Err-Keep-clause-ends
returns-in-Err-Keep-clause-ends g c =
    let core = g.S.Logged.log.core c.args.server.now in
    let bytes = c.args.received.now in
    let h = rw c.in-Err-Keep.field-0-is at c.in-Err-Keep.ensures.ends in
    let found = c.in-Some.ensures.exact ∙ ap (λ (r : Role). drained_for r bytes) c.role.ensures in
    record {
      answers = tt;
      stops = record { end = h.0; refused = h.1.0; reaches = h.1.2; stops = stops_to core bytes _ h.0 h.1.0 found h.1.1 };
    }
