use Rattle.std.proofs.Common.{arith}
use Rattle.std.proofs.lemmas.List.FromFn.{map-range_with_len_more}
use Rattle.desk_files.specs.Paths.{letter_path}
use Rattle.desk_files.proofs.desk_paths.letter_paths.Goals as goal

pub loop-number-preserved : goal.loop-number-preserved
loop-number-preserved c =
    let number = c.loop-number.number in
    let path = letter_path c.args.folder.now c.args.ending.now in
    let more = map-range_with_len_more path 0 number number (omega arith) in
    grind arith
