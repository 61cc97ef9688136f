-- What the boxes of an owner tell, name by name.
use Rattle.std.specs.Prelude.{◌≡◌, ℕ, ◌==◌, not, Bool, List, length}
use Rattle.std.specs.List.{AllZip, flat_map}
use Rattle.told_letters.specs.Mail.{IsMail, Letter, Mail}
use Rattle.kept_ledger.specs.declared.entry.NamedBoxes.{NamedBoxes}
use Rattle.kept_ledger.specs.Ledgers.{LedgerState}
use Rattle.kept_ledger.specs.Standings.{readings_of}
use Rattle.owner_mail.specs.Places.{box_readings, card_addresses, newest_seconds}

-- the letters of a name that are whole, how many of its readings nothing opens, and when the newest was made
pub record NamedMail : Type 0 where
  pub name : List ℕ
  pub letters : List Letter
  pub unopened : ℕ
  pub seconds : ℕ

-- This is what the boxes with a name tell, by all that was read of them and by nothing else.
pub record IsMailOf (s : LedgerState) (name : List ℕ) (m : NamedMail) : Type 0 where
  pub named : m.name ≡ name
  pub mail : Mail
  pub told : IsMail (length (card_addresses s name)) (box_readings s name) mail
  pub letters : m.letters ≡ mail.letters
  pub unopened : m.unopened ≡ length mail.unopened
  pub seconds : m.seconds ≡ newest_seconds (readings_of s name)

-- that of each name, in the order of the names
abbrev pub AreMails : LedgerState → List NamedMail → Type 0
AreMails s mails = AllZip (λ (n : NamedBoxes) (m : NamedMail). IsMailOf s n.name m) s.named mails

-- letters met: nothing opens some of its readings
abbrev pub is_met : NamedMail → Bool
is_met m = not (m.unopened == 0)

abbrev pub all_letters : List NamedMail → List Letter
all_letters mails = flat_map (λ (m : NamedMail). m.letters) mails
