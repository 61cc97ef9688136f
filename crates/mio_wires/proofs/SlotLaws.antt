-- A take behind a flush.
use Rattle.std.proofs.Common.{ℕ, List, ◌∙◌, subst}
use Rattle.many_words.specs.declared.door.Door.{Door}
use Rattle.many_words.specs.declared.hub.Taken.{Taken}
use Rattle.mio_wires.specs.Slots.{Slot, Flushes, Reads, Gave}

pub flushed_reads : (door : Door) (result : Taken) (buf : List ℕ) (old mid new : Slot)
    → Flushes old mid → Reads door result buf mid new → Reads door result buf old new
flushed_reads door result buf old mid new flush reads = record {
  room = reads.room ∙ flush.room;
  live = reads.live ∙ flush.live;
  door = reads.door ∙ flush.door;
  cut = reads.cut ∙ flush.cut;
  sent_same = reads.sent_same ∙ flush.sent_same;
  gave = subst (λ before. Gave door before new result buf) flush.given reads.gave;
}
