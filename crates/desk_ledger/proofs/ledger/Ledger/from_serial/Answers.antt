use Rattle.std.proofs.Common.{◌∙◌, ap, sym}
use Rattle.desk_ledger.specs.Ledgers.{LedgerState}
use Rattle.desk_ledger.proofs.ForgetLaws.{same_desk}
use Rattle.desk_ledger.proofs.ledger.Ledger.from_serial.Goals as goal

pub returns-in-Ok-clause-are : goal.returns-in-Ok-clause-are
returns-in-Ok-clause-are g c =
    same_desk c.self.inside.pair c.args.self.now.pair c.in-Ok.entries.items c.self.inside.entries.items _ c.self.invariant.0
    (c.in-Ok.ensures ∙ c.deref.ensures.value) (sym (ap (λ (l : LedgerState g.row.D.Denot). l.pair) c.self.view_is))
