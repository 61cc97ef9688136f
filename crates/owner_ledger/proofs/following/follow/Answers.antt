use Rattle.std.proofs.Common.{◌∙◌, List, ap, map}
use Rattle.kept_ledger.specs.declared.note.LedgerNote.{LedgerNote}
use Rattle.kept_ledger.specs.Notes.{plain_note, plain_opening}
use Rattle.owner_ledger.specs.Puts.{follower}
use Rattle.owner_ledger.proofs.MakeLaws.{follows, is_next, puts_noted}
use Rattle.owner_ledger.proofs.following.follow.Goals as goal

pub note_and_put-placed-requires : goal.note_and_put-placed-requires
note_and_put-placed-requires g c = record {
  next = is_next c.args.keeping c.args.first c.args.old.now.state _ c.requires.above
      (follows c.args.keeping c.args.first c.args.old.now.state _
      (plain_opening c.opening_at.result) _ c.in_ok-next.ensures.opened c.opening_at.ensures.opening
      (ap (λ (l : List LedgerNote). map plain_note l) c.as_slice.ensures.value ∙ c.in_ok-notes.ensures));
  still_open = c.in_ok-next.ensures.still_open;
}

pub returns-clause-follows : goal.returns-clause-follows
returns-clause-follows g c =
    puts_noted g.F.File.Disk.disk g.F.File.Counted.seen
    (follower c.args.keeping c.args.first c.args.old.now.state) _ c.in_ok-disk.disk
    c.note_and_put-placed.new.next _ _ _ c.note_and_put-placed.result c.in_ok-disk.ensures.made
    c.note_and_put-placed.ensures.noted
    (follows c.args.keeping c.args.first c.args.old.now.state c.in_ok-next.next.machine.ledger.state
    (plain_opening c.opening_at.result) (map plain_note c.as_slice.result.now)
    c.in_ok-next.ensures.opened c.opening_at.ensures.opening
    (ap (λ (l : List LedgerNote). map plain_note l) c.as_slice.ensures.value ∙ c.in_ok-notes.ensures))
    c.note_and_put-placed.ensures.durable c.note_and_put-placed.ensures.placed
