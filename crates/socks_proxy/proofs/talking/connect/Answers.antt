use Rattle.std.proofs.Common.{◌++◌, inl, sym, subst}
use Rattle.express_words.specs.Streams.{Took}
use Rattle.socks_proxy.proofs.TalkLaws.{cut_on, gave_more, took_whole}
use Rattle.socks_proxy.proofs.talking.connect.Goals as goal

pub returns-in-Ok-hear_some-clause-yes : goal.returns-in-Ok-hear_some-clause-yes
returns-in-Ok-hear_some-clause-yes g c =
    let a = g.C.Counted.seen c.args.conn.now in
    let b = g.C.Counted.seen c.ask.new.conn in
    let e = g.C.Counted.seen c.hear_some.new.source in
    let rest = c.in-Ok-hear_some.ensures.whole in (
      c.ask.new.answer ++ rest.0,
      c.in-Ok-judge_reply.ensures.yes rest.0 rest.1,
      (
        subst (λ w. Took a.written w c.args.request.now) (sym c.hear_some.ensures.writes_nothing) c.in-Ok.ensures.whole.0,
        gave_more a.content b.content e.content _ _ c.in-Ok.ensures.whole.1 rest.2,
      ),
    )

pub returns-in-Err-hear_some-clause-said : goal.returns-in-Err-hear_some-clause-said
returns-in-Err-hear_some-clause-said g c =
    let a = g.C.Counted.seen c.args.conn.now in
    let e = g.C.Counted.seen c.hear_some.new.source in
    took_whole a.written e.written c.args.request.now
    (subst (λ w. Took a.written w c.args.request.now) (sym c.hear_some.ensures.writes_nothing) c.in-Ok.ensures.whole.0)

pub returns-in-Err-hear_some-clause-refused : goal.returns-in-Err-hear_some-clause-refused
returns-in-Err-hear_some-clause-refused g c =
    let a = g.C.Counted.seen c.args.conn.now in
    let b = g.C.Counted.seen c.ask.new.conn in
    let e = g.C.Counted.seen c.hear_some.new.source in
    let cut = c.in-Err-hear_some.ensures.refused in (
      c.ask.new.answer ++ cut.0,
      gave_more a.content b.content e.content _ _ c.in-Ok.ensures.whole.1 cut.1,
      inl (cut_on a b e c.in-Err-hear_some.why c.in-Ok.ensures.unfailed cut.2),
    )
