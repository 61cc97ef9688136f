-- What is to be told of a ledger's names, and how the ledger notes it.
use Rattle.std.specs.Prelude.{◌==◌, ◌&&◌, not, if◌then◌else◌, Bool, List, [], ◌∷◌, ◌++◌, map}
use Rattle.std.specs.List.{filter, flat_map}
use Rattle.told_letters.specs.Mail.{Letter}
use Rattle.kept_ledger.specs.declared.entry.Handling.{Handling}
use Rattle.kept_ledger.specs.declared.entry.Handling.TheVariants.{Shown, Written}
use Rattle.kept_ledger.specs.declared.entry.LetterMark.{LetterMark}
use Rattle.kept_ledger.specs.declared.entry.Marked.{Marked}
use Rattle.kept_ledger.specs.Ledgers.{is_marked, marks_with}
use Rattle.owner_mail.specs.declared.news.News.{News}
use Rattle.owner_mail.specs.declared.news.News.TheVariants as news
use Rattle.owner_mail.specs.Mail.{NamedMail}

-- by what a letter is known
abbrev pub mark_of : Letter → LetterMark
mark_of l = record { id = l.heading.letter.0; parts = l.heading.parts }

-- A letter is to be shown that was neither shown nor written out, and to be written that wasn't written out.
abbrev pub is_due : Handling → List Marked → Letter → Bool
is_due Shown marks l = not (is_marked marks (mark_of l) Written) && not (is_marked marks (mark_of l) Shown)
is_due Written marks l = not (is_marked marks (mark_of l) Written)

-- a letter of a name, or how many readings of a name nothing opens
pub data Item : Type 0 where
  Arrived : NamedMail → Letter → Item
  Unopened : NamedMail → Item

abbrev pub plain_news : News → Item
plain_news (news.Letter mail letter) = Arrived mail.now letter.now
plain_news (news.Unopened mail) = Unopened mail.now

abbrev pub letter_news : Handling → List Marked → NamedMail → List Item
letter_news handling marks m = map (Arrived m) (filter (is_due handling marks) m.letters)

abbrev pub unopened_news : NamedMail → List Item
unopened_news m = if m.unopened == 0 then [] else Unopened m ∷ []

-- the letters of a name that are due, and behind them the readings that nothing opens
abbrev pub news_of : Handling → List Marked → NamedMail → List Item
news_of handling marks m = letter_news handling marks m ++ unopened_news m

-- the same of each name, in the order of the names
abbrev pub all_news : Handling → List Marked → List NamedMail → List Item
all_news handling marks mails = flat_map (news_of handling marks) mails

-- ---- how it is noted

-- a letter that was handled so, at its moment
abbrev pub marked : Handling → NamedMail → Letter → Marked
marked handling m l = record { mark = mark_of l; handling = handling; seconds = m.seconds }

abbrev pub marked_by : Handling → Item → List Marked → List Marked
marked_by handling (Arrived m l) marks = marks_with marks (marked handling m l)
marked_by handling (Unopened m) marks = marks

-- the marks once all these are noted, one after another
abbrev pub marks_after : Handling → List Item → List Marked → List Marked
marks_after handling [] marks = marks
marks_after handling (one ∷ items) marks = marks_after handling items (marked_by handling one marks)
