-- Letters that nobody has seen.
use Rattle.std.specs.Prelude.{◌≡◌, ◌&&◌, not, Bool, List}
use Rattle.std.specs.List.{list_any}
use Rattle.std.specs.Str.{is_utf8}
use Rattle.told_letters.specs.Mail.{Letter}
use Rattle.kept_ledger.specs.declared.entry.Handling.TheVariants.{Written}
use Rattle.kept_ledger.specs.declared.entry.Marked.{Marked}
use Rattle.kept_ledger.specs.Ledgers.{LedgerState, is_marked}
use Rattle.owner_mail.specs.Mail.{AreMails, NamedMail}
use Rattle.owner_mail.specs.News.{mark_of}

-- it is no text, so that no screen shows it, and it isn't in a file
abbrev pub is_unseen_letter : List Marked → Letter → Bool
is_unseen_letter marks l = not (is_utf8 l.text) && not (is_marked marks (mark_of l) Written)

abbrev pub has_unseen_letter : List Marked → NamedMail → Bool
has_unseen_letter marks m = list_any (is_unseen_letter marks) m.letters

-- whether there is such a letter among those of all names
pub record IsUnseen (s : LedgerState) (unseen : Bool) : Type 0 where
  pub mails : List NamedMail
  pub are : AreMails s mails
  pub is : unseen ≡ list_any (has_unseen_letter s.marks) mails
