use Rattle.std.proofs.Common.{◌≡◌, take}
use Rattle.std.specs.List.{flat_map}
use Rattle.express_words.specs.Streams.{Took}
use Rattle.desk_run.specs.Standings.{line_of}
use Rattle.desk_run.proofs.standing.say_boxes.Given as goal

abbrev pub invariant-entries : goal.invariant-entries
invariant-entries g l = record {
  faults : (g.K.Counted.seen l.out).faults ≡ (g.K.Counted.seen l.fn.out).faults;
  said : Took (g.K.Counted.seen l.fn.out).written (g.K.Counted.seen l.out).written
      (flat_map (line_of l.entries) (take l.entry-index l.entries));
}
