use Rattle.std.proofs.Common.{refl, rules}
use Rattle.std.proofs.lemmas.Result.{IfOk-weaker}
use Rattle.node_serve.specs.Moved.{moved, shown}
use Rattle.node_serve.proofs.ReplyLaws.{own_answer, own_nothing}
use Rattle.node_serve.proofs.RespondLaws.{answers_with}
use Rattle.node_serve.proofs.serving.serve.Goals as goal

pub returns-in-Whole-clause-serves : goal.returns-in-Whole-clause-serves
returns-in-Whole-clause-serves g c =
    let ends = rw c.received.ensures at c.answer.ensures.ends in
    let seen = g.C.Counted.seen in
    let same = answers_with g.S.Logged.log c.args.peer.now c.gather_frame.new.gather (moved c.args.server.now c.answer.new.server) (shown g.N.Counted.seen c.args.net.now c.answer.new.net)
    (seen c.args.conn.now) (seen c.gather_frame.new.source) (seen c.answer.new.conn) in
    record {
      serves = λ enough. IfOk-weaker c.answer.result _ _ (λ why a. same why c.gather_frame.ensures.writes_nothing (c.gather_frame.ensures.unfailed (search rules)) a) ends.answers;
      stops = ends.stops;
      unanswered = search rules;
    }

pub returns-in-Whole-clause-own : goal.returns-in-Whole-clause-own
returns-in-Whole-clause-own g c =
    let ends = rw c.received.ensures at c.answer.ensures.ends in
    let seen = g.C.Counted.seen in
    let net = shown g.N.Counted.seen c.args.net.now c.answer.new.net in
    let same = answers_with g.S.Logged.log c.args.peer.now c.gather_frame.new.gather (moved c.args.server.now c.answer.new.server) net
    (seen c.args.conn.now) (seen c.gather_frame.new.source) (seen c.answer.new.conn) in
    own_answer g.S.Logged.log c.args.peer.now c.gather_frame.new.gather (moved c.args.server.now c.answer.new.server) net (shown seen c.args.conn.now c.answer.new.conn) c.answer.result
    (IfOk-weaker c.answer.result _ _ (λ why a. same why c.gather_frame.ensures.writes_nothing (c.gather_frame.ensures.unfailed (search rules)) a) ends.answers)

pub returns-in-Failed-clause-own : goal.returns-in-Failed-clause-own
returns-in-Failed-clause-own g c = own_nothing _ _ (shown g.N.Counted.seen c.args.net.now c.args.net.now) (shown g.C.Counted.seen c.args.conn.now c.gather_frame.new.source) refl c.gather_frame.ensures.writes_nothing

pub returns-in-Ended-clause-own : goal.returns-in-Ended-clause-own
returns-in-Ended-clause-own g c = own_nothing _ _ (shown g.N.Counted.seen c.args.net.now c.args.net.now) (shown g.C.Counted.seen c.args.conn.now c.gather_frame.new.source) refl c.gather_frame.ensures.writes_nothing
