use Rattle.std.proofs.Common.{◌≡◌, take, drop}
use Rattle.std.specs.Prelude.{position}
use Rattle.desk_texts.specs.Lines.{lines_in, begins_sheet}
use Rattle.desk_texts.proofs.FindLaws.{first_of}
use Rattle.desk_texts.proofs.lines.from_first.Given as goal

abbrev pub invariant-loop-number : goal.invariant-loop-number
invariant-loop-number l = record {
  stands : lines_in l.rest ≡ drop l.number (lines_in l.text);
  first : first_of l.number (lines_in l.rest) ≡ position begins_sheet (take 65536 (lines_in l.text));
}
