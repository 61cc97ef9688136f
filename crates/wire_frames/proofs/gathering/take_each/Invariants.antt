use Rattle.std.proofs.Common.{◌≡◌, drop, vec_capacity}
use Rattle.frame_rules.specs.Gathering.{gathered}
use Rattle.wire_frames.proofs.gathering.take_each.Given as goal

abbrev pub invariant-loop-byte : goal.invariant-loop-byte
invariant-loop-byte l = record {
  held : gathered l.held.items (drop l.byte-index l.piece) ≡ gathered l.fn.held.items l.piece;
  capacity : vec_capacity l.held ≡ vec_capacity l.fn.held;
}
