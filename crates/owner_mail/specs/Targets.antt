-- Where letters are written.
use Rattle.std.specs.Prelude.{ℕ}
use Rattle.told_letters.specs.Mail.{Letter}
use Rattle.desk_lines.specs.declared.files.FileMark.{FileMark}
use Rattle.owner_mail.specs.declared.writing.Target.{Target}
use Rattle.owner_mail.specs.Telling.{Files, Way}

abbrev pub file_mark : Letter → ℕ → FileMark
file_mark l tag = record { id = l.heading.letter.0; parts = l.heading.parts; tag = tag }

abbrev pub files_of : Target → Way
files_of target = Files target.folder.now target.tag
