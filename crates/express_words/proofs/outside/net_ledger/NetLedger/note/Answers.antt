use Rattle.std.proofs.Common.{arith, length-append}
use Rattle.express_words.proofs.LedgerLaws.{text_bytes-opened, closes-opened, calls_of-opened}
use Rattle.express_words.proofs.outside.net_ledger.NetLedger.note.Goals as goal

pub invariant_of-self-2 : goal.invariant_of-self-2
invariant_of-self-2 c = (
  grind (arith, c.in-Ok.ensures.len, c.if-lacks_room.ensures, c.self.view_is),
  grind (arith, c.if-lacks_room.ensures, c.self.view_is),
  grind (arith, c.in-Ok-extend_from_slice.ensures.len, c.as_bytes.ensures.len, c.if-lacks_room.ensures, c.self.view_is),
  rw (c.in-Ok.ensures.items, c.in-Ok-extend_from_slice.ensures.items, c.as_bytes.ensures.value, text_bytes-opened, length-append, c.self.invariant.3),
  rw (c.in-Ok.ensures.items, closes-opened) c.self.invariant.4,
)

pub returns : goal.returns
returns c =
    record {
      fits = λ h k. rw (← c.self.view_is, c.in-Ok.ensures.items, c.in-Ok-extend_from_slice.ensures.items, c.as_bytes.ensures.value, calls_of-opened _ _ _ _ _ _ c.self.invariant.3);
      lacks = λ h. absurd (cc (c.if-lacks_room.ensures.1 h));
    }
