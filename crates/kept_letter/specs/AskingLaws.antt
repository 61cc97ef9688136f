-- What holds of a letter as a machine that asks at doors.
use Rattle.std.proofs.Common.{refl, ap}
use Rattle.door_work.specs.Asking.{AskingHolds, TakesRecords}
use Rattle.std.specs.Prelude.{Some}
use Rattle.kept_letter.specs.Asking.{letter_asking, letter_hears, letter_wants}
use Rattle.kept_letter.specs.Letters.{LetterState}
use Rattle.kept_letter.specs.Machines.{IsNoteRecord, letter_rules}

pub letter_asking_holds : AskingHolds letter_rules letter_asking
letter_asking_holds = record {
  same_next = λ a b same. ap letter_wants same;
  same_heard = λ a b r same. ap (λ (s : LetterState). letter_hears s r) same;
}

pub letter_takes_records : TakesRecords letter_rules IsNoteRecord (λ bytes. Some bytes) 0
letter_takes_records = record { input = λ bytes is sized. is; itself = λ bytes. refl; no_room = refl }
