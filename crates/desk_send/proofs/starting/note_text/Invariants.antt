use Rattle.std.proofs.Common.{◌≡◌, false, length}
use Rattle.kept_letter.specs.Machines.{letter_rules}
use Rattle.kept_machine.specs.Keeps.{IsDurable, sight}
use Rattle.desk_send.proofs.NoteLaws.{IsNotedTo}
use Rattle.desk_send.proofs.starting.note_text.Given as goal

abbrev pub invariant-pieces : goal.invariant-pieces
invariant-pieces g l = record {
  noted : IsNotedTo l.fn.letter.machine.letter l.letter.machine.letter l.rest l.text;
  still_open : l.letter.journal.closed ≡ false;
  durable : IsDurable letter_rules (sight g.D.Disk.disk g.D.Counted.seen l.letter);
}

abbrev pub decreases-pieces : goal.decreases-pieces
decreases-pieces g l = length l.rest
