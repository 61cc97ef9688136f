use Rattle.std.proofs.Common.{◌≡◌, ◌++◌, take, vec_capacity}
use Rattle.many_words.proofs.entry.push_all.Given as goal

abbrev pub invariant-loop-byte : goal.invariant-loop-byte
invariant-loop-byte l = record {
  held : l.held.items ≡ l.fn.held.items ++ take l.byte-index l.bytes;
  capacity : vec_capacity l.held ≡ vec_capacity l.fn.held;
}
