use Rattle.std.proofs.Common.{◌≡◌, take}
use Rattle.std.specs.List.{flat_map}
use Rattle.express_words.specs.Streams.{Took}
use Rattle.owner_mail.specs.Status.{line_of}
use Rattle.owner_mail.proofs.status.say_boxes.Given as goal

abbrev pub invariant-loop-named : goal.invariant-loop-named
invariant-loop-named g l = record {
  faults : (g.K.Counted.seen l.out).faults ≡ (g.K.Counted.seen l.fn.out).faults;
  said : Took (g.K.Counted.seen l.fn.out).written (g.K.Counted.seen l.out).written
      (flat_map (line_of l.ledger.state) (take l.named-index l.ledger.state.named));
}
