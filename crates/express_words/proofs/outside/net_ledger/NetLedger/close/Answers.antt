use Rattle.std.proofs.Common.{arith, length-append}
use Rattle.express_words.proofs.LedgerLaws.{text_bytes-closed, closes-closed, calls_of-closed}
use Rattle.express_words.proofs.outside.net_ledger.NetLedger.close.Goals as goal

pub invariant_of-self-2 : goal.invariant_of-self-2
invariant_of-self-2 c = (
  omega (arith, c.in-Ok.ensures.len),
  omega (arith, c.in-Ok-push.ensures.len),
  omega arith,
  rw (c.in-Ok.ensures.items, text_bytes-closed) c.self.invariant.3,
  rw (c.in-Ok.ensures.items, c.in-Ok-push.ensures.items, closes-closed, length-append, c.self.invariant.4),
)

pub returns-clause-closed : goal.returns-clause-closed
returns-clause-closed c h =
    rw (← c.self.view_is, c.in-Ok.ensures.items, c.in-Ok-push.ensures.items, calls_of-closed _ _ _ _ c.self.invariant.4)
