-- What holds of letters that were told.
use Rattle.std.specs.Prelude.{◌≡◌, false, List}
use Rattle.std.specs.List.{Contains}
use Rattle.told_letters.specs.Mail.{Letter}
use Rattle.kept_ledger.specs.declared.entry.Handling.{Handling}
use Rattle.kept_ledger.specs.declared.entry.Marked.{Marked}
use Rattle.owner_mail.specs.Mail.{NamedMail}
use Rattle.owner_mail.specs.News.{Arrived, Item, is_due, marks_after}

-- Behind all news that were told no letter among them is due any more.
abbrev pub ToldLettersArentDue : Type 0
ToldLettersArentDue = (handling : Handling) (items : List Item) (marks : List Marked) (m : NamedMail)
    (l : Letter) → Contains items (Arrived m l)
    → is_due handling (marks_after handling items marks) l ≡ false
