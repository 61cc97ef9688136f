use Rattle.std.proofs.Common.{◌≡◌, ◌+◌, ◌*◌, take}
use Rattle.std.specs.List.{flat_map}
use Rattle.frame_rules.specs.Spelling.{word}
use Rattle.wire_frames.specs.Writing.{Writes}
use Rattle.wire_frames.proofs.writing.put_words.Given as goal

abbrev pub invariant-loop-word : goal.invariant-loop-word
invariant-loop-word l = record {
  written : Writes l.fn.out l.place (flat_map word (take l.word-index l.words)) l.out l.end;
  end : l.end ≡ l.place + l.word-index * 16;
}
