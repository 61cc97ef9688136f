use Rattle.std.proofs.Common.{◌≡◌, map}
use Rattle.std.specs.List.{range_with_len}
use Rattle.desk_files.specs.Paths.{letter_path}
use Rattle.desk_files.proofs.desk_paths.letter_paths.Given as goal

abbrev pub invariant-loop-number : goal.invariant-loop-number
invariant-loop-number l = l.paths.items ≡ map (letter_path l.folder l.ending) (range_with_len 0 l.number)
