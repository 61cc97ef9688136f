use Rattle.std.proofs.Common.{◌≡◌, ◌∙◌, ◌≤◌, ◌-◌, List, ℕ, length, take, sym, ap, subst, arith, length-take}
use Rattle.node_journal.specs.History.{History, seen_of, wrote, overwritten, bytes_of, left_of}
use Rattle.node_journal.specs.Disk.{Elapses}
use Rattle.node_journal.specs.Memory.{DiskState, LogState}
use Rattle.node_journal.proofs.Histories.{write_time}
use Rattle.node_journal.proofs.memory_disk.MemoryDiskDisk.write.Goals as goal

pub invariant_of-self-2 : goal.invariant_of-self-2
invariant_of-self-2 c =
    let at = c.args.at in
    let bytes = c.args.bytes.now in
    let arriving = c.self.inside.arriving.items in
    let arrived : c.front.result.now ≡ take (length bytes) arriving = cc (c.front.ensures, c.deref.ensures.value) in
    let noted = sym c.write.ensures in
    let room : c.write.new.self.room ≡ c.self.inside.log.room - length bytes = ap (λ (l : LogState). l.room) c.write.ensures in
    let fits : length bytes ≤ c.self.inside.log.room = grind (arith, c.if-lacks_room.ensures) in
    let short : length c.front.result.now ≤ length bytes = omega (arith, ap length arrived, length-take (length bytes) arriving) in (
      c.overwrite.ensures.written ∙ ap (λ (old : List ℕ). overwritten at bytes old) c.self.invariant.0 ∙ ap (λ (l : LogState). bytes_of l.history) noted,
      c.overwrite-2.ensures.written ∙ ap (λ (x : List ℕ). overwritten at x c.self.inside.left.items) arrived
          ∙ ap (λ (old : List ℕ). overwritten at (take (length bytes) arriving) old) c.self.invariant.1 ∙ ap (λ (l : LogState). left_of arriving l.history) noted,
      omega (arith, c.overwrite-2.ensures.growth, c.overwrite-2.ensures.capacity, room, fits, short, c.self.invariant.2),
      omega (arith, c.overwrite.ensures.growth, c.overwrite.ensures.capacity, room, fits, c.self.invariant.3),
      omega (arith, c.overwrite.ensures.growth, c.overwrite-2.ensures.capacity, room, fits, c.self.invariant.4),
    )

pub returns-clause-time : goal.returns-clause-time
returns-clause-time c =
    let before = c.self.inside.log.history in
    let now = c.write.new.self.history in
    let old : before ≡ c.args.self.now.log.history = ap (λ (d : DiskState). d.log.history) c.self.view_is in
    let new : wrote c.args.at c.args.bytes.now before ≡ now = sym (ap (λ (l : LogState). l.history) c.write.ensures) in
    subst (λ (h : History). Elapses (seen_of h) (seen_of now)) old
    (subst (λ (h : History). Elapses (seen_of before) (seen_of h)) new (write_time before c.args.at c.args.bytes.now))
