use Rattle.node_serve.proofs.VisitLaws.{visited, refused}
use Rattle.node_serve.proofs.hosting.visit.Goals as goal

pub returns-in-Ok-answer-clause-ends : goal.returns-in-Ok-answer-clause-ends
returns-in-Ok-answer-clause-ends g c =
    let d = c.in-Ok.ensures in
    let h = c.serve-answer.ensures in
    let k = c.in-Ok-answer.ensures in
    let e = c.close.ensures in
    visited g.S.Logged.log c.args.peer.now g.N.Counted.seen g.N.Conn.Counted.seen _ _ c.in-Ok-answer.answer _ _ _ _ _ _ _ g.met.S.Logged.none h.brings k.cut k.serves k.early k.fault h.door
    (record { whole = d.whole; blank = d.unwritten; tells = d.tells; call = d.call; faults = d.counts.unfailed; doors = d.door.kept })
    (record { call = e.call; counts = record { whole = e.whole; broken = e.broken }; doors = e.door })

pub returns-in-Err-answer-clause-ends : goal.returns-in-Err-answer-clause-ends
returns-in-Err-answer-clause-ends g c =
    let d = c.in-Ok.ensures in
    let h = c.serve-answer.ensures in
    let k = c.in-Err-answer.ensures in
    let e = c.close.ensures in
    refused g.S.Logged.log c.args.peer.now g.N.Counted.seen g.N.Conn.Counted.seen _ _ c.in-Err-answer.fault _ _ _ _ _ _ _ h.brings k.serves k.unfailed h.door
    (record { whole = d.whole; blank = d.unwritten; tells = d.tells; call = d.call; faults = d.counts.unfailed; doors = d.door.kept })
    (record { call = e.call; counts = record { whole = e.whole; broken = e.broken }; doors = e.door })
