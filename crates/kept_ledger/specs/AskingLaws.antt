-- What holds of a ledger as a machine that asks at doors.
use Rattle.std.proofs.Common.{refl, ap}
use Rattle.std.specs.Prelude.{Some}
use Rattle.door_work.specs.Asking.{AskingHolds, TakesRecords}
use Rattle.kept_ledger.specs.Asking.{ledger_asking, ledger_hears, ledger_wants}
use Rattle.kept_ledger.specs.Ledgers.{LedgerState}
use Rattle.kept_ledger.specs.Machines.{IsNoteRecord, ledger_rules}

pub ledger_asking_holds : AskingHolds ledger_rules ledger_asking
ledger_asking_holds = record {
  same_next = λ a b same. ap ledger_wants same;
  same_heard = λ a b r same. ap (λ (s : LedgerState). ledger_hears s r) same;
}

pub ledger_takes_records : TakesRecords ledger_rules IsNoteRecord (λ bytes. Some bytes) 0
ledger_takes_records = record { input = λ bytes is sized. is; itself = λ bytes. refl; no_room = refl }
