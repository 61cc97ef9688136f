use Rattle.http_door.specs.Reading.{plain_read}
use Rattle.http_door.proofs.ReadOnce.{read_once}
use Rattle.door_exchange.proofs.TakingLaws.{not_err, not_none}
use Rattle.door_exchange.proofs.exchanging.answer_in.Goals as goal

pub unreachable-requires : goal.unreachable-requires
unreachable-requires c =
    let once = read_once c.args.path c.args.came.now c.requires.0 (plain_read c.read_reply.result)
    c.requires.1 c.read_reply.ensures.read in
    not_none _ _ _ c.in-Ok-None.is c.in-Ok-None.field-0-is once

pub unreachable-requires-in-Err : goal.unreachable-requires-in-Err
unreachable-requires-in-Err c =
    let once = read_once c.args.path c.args.came.now c.requires.0 (plain_read c.read_reply.result)
    c.requires.1 c.read_reply.ensures.read in
    not_err _ _ _ c.in-Err.is once
