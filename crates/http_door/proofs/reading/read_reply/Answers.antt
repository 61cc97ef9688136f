use Rattle.std.proofs.Common.{sym, ap, ◌∙◌}
use Rattle.std.specs.Prelude.{option_map}
use Rattle.http_door.specs.Replies.{plain_reply}
use Rattle.http_door.proofs.RequestLaws.{behind}
use Rattle.http_door.proofs.ResponseLaws.{holds_reply}
use Rattle.http_door.proofs.reading.read_reply.Goals as goal

pub returns-in-Some-reply_of-clause-read : goal.returns-in-Some-reply_of-clause-read
returns-in-Some-reply_of-clause-read c =
    let all = behind c.args.held.now c.in-Some.at.len in
    let found = rw c.in-Some.is at c.in_ok-at.ensures.found in
    let size = sym (c.reply_len.ensures.len found.1 found.2.parts) ∙ c.in-Some-reply_len.is in (
      found.1,
      _,
      _,
      holds_reply _ found.1 _ c.in-Some-reply_len.size found.2.takes size (rw all at c.if-after-size.false),
      sym (rw all at (c.reply_of.ensures found.1 found.2.parts))
          ∙ ap (option_map plain_reply) c.in-Some-reply_of.is,
    )

pub returns-in-None-clause-read : goal.returns-in-None-clause-read
returns-in-None-clause-read c =
    let all = behind c.args.held.now c.in-Some.at.len in
    let found = rw c.in-Some.is at c.in_ok-at.ensures.found in
    let size = sym (c.reply_len.ensures.len found.1 found.2.parts) ∙ c.in-Some-reply_len.is in (
      found.1,
      _,
      _,
      holds_reply _ found.1 _ c.in-Some-reply_len.size found.2.takes size (rw all at c.if-after-size.false),
      (
        sym (rw all at (c.reply_of.ensures found.1 found.2.parts)) ∙ ap (option_map plain_reply) c.in-None.is,
        sym found.2.parts.code,
      ),
    )
