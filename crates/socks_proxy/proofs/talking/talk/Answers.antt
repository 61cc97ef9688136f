use Rattle.std.proofs.Common.{◌++◌, ◌∙◌, inl, inr, refl}
use Rattle.socks_proxy.specs.Forms.{greeting, choice, status}
use Rattle.socks_proxy.specs.Talks.{IsReplyCause, IsStatusCause, IsTalkCause}
use Rattle.socks_proxy.proofs.TalkLaws.{refuses_on, talked_more, took_less, took_on}
use Rattle.socks_proxy.proofs.talking.talk.Goals as goal

pub returns-in-Err-clause-said : goal.returns-in-Err-clause-said
returns-in-Err-clause-said g c =
    let a = (g.C.Counted.seen c.args.conn.now).written in
    let b = (g.C.Counted.seen c.greet.new.conn).written in
    took_less a b greeting (c.args.credentials.now ++ c.args.request.now) c.in-Err.ensures.said

pub returns-in-Err-log_in-clause-said : goal.returns-in-Err-log_in-clause-said
returns-in-Err-log_in-clause-said g c =
    let a = (g.C.Counted.seen c.args.conn.now).written in
    let b = (g.C.Counted.seen c.greet.new.conn).written in
    let d = (g.C.Counted.seen c.log_in.new.conn).written in
    took_on a b d greeting (c.args.credentials.now ++ c.args.request.now) c.in-Ok.ensures.yes.0
    (took_less b d c.args.credentials.now c.args.request.now c.in-Err-log_in.ensures.said)

pub returns-in-Err-log_in-clause-refused : goal.returns-in-Err-log_in-clause-refused
returns-in-Err-log_in-clause-refused g c =
    let a = g.C.Counted.seen c.args.conn.now in
    let b = g.C.Counted.seen c.greet.new.conn in
    let d = g.C.Counted.seen c.log_in.new.conn in
    refuses_on IsStatusCause IsTalkCause a b d greeting (choice 2) c.in-Err-log_in.why c.in-Ok.ensures.yes c.in-Ok.ensures.unfailed
    (λ y cause. inr (inl (y, refl, cause))) c.in-Err-log_in.ensures.refused

pub returns-in-Ok-connect-clause-yes : goal.returns-in-Ok-connect-clause-yes
returns-in-Ok-connect-clause-yes g c =
    let a = g.C.Counted.seen c.args.conn.now in
    let b = g.C.Counted.seen c.greet.new.conn in
    let d = g.C.Counted.seen c.log_in.new.conn in
    let e = g.C.Counted.seen c.connect.new.conn in
    let two = talked_more a b d greeting c.args.credentials.now (choice 2) (status 0) c.in-Ok.ensures.yes c.in-Ok-log_in.ensures.yes in
    let yes = c.in-Ok-connect.ensures.yes in (
      choice 2 ++ (status 0 ++ yes.0),
      (yes.0, yes.1, refl),
      talked_more a d e (greeting ++ c.args.credentials.now) c.args.request.now (choice 2 ++ status 0) yes.0 two yes.2,
    )

pub returns-in-Err-connect-clause-said : goal.returns-in-Err-connect-clause-said
returns-in-Err-connect-clause-said g c =
    let a = g.C.Counted.seen c.args.conn.now in
    let b = g.C.Counted.seen c.greet.new.conn in
    let d = g.C.Counted.seen c.log_in.new.conn in
    let e = g.C.Counted.seen c.connect.new.conn in
    let two = talked_more a b d greeting c.args.credentials.now (choice 2) (status 0) c.in-Ok.ensures.yes c.in-Ok-log_in.ensures.yes in
    took_on a.written d.written e.written (greeting ++ c.args.credentials.now) c.args.request.now two.0 c.in-Err-connect.ensures.said

pub returns-in-Err-connect-clause-refused : goal.returns-in-Err-connect-clause-refused
returns-in-Err-connect-clause-refused g c =
    let a = g.C.Counted.seen c.args.conn.now in
    let b = g.C.Counted.seen c.greet.new.conn in
    let d = g.C.Counted.seen c.log_in.new.conn in
    let e = g.C.Counted.seen c.connect.new.conn in
    let two = talked_more a b d greeting c.args.credentials.now (choice 2) (status 0) c.in-Ok.ensures.yes c.in-Ok-log_in.ensures.yes in
    refuses_on IsReplyCause IsTalkCause a d e (greeting ++ c.args.credentials.now) (choice 2 ++ status 0) c.in-Err-connect.why two
    (c.in-Ok-log_in.ensures.unfailed ∙ c.in-Ok.ensures.unfailed) (λ y cause. inr (inr (y, refl, cause))) c.in-Err-connect.ensures.refused
