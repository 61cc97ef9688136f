use Rattle.std.proofs.Common.{refl, inl, inr, ℕ, List}
use Rattle.node_journal.specs.Disk.{DiskSeen}
use Rattle.express_cli.specs.Around.{Around, Read, Streams, over, streams}
use Rattle.express_cli.specs.Ends.{FaultMay}
use Rattle.express_cli.specs.Keeping.{KeepBreaks, KeepMay, keeper}
use Rattle.express_cli.specs.Runs.{UnreadMay}
use Rattle.express_cli.specs.Talking.{EndsBy, Talks}
use Rattle.express_cli.specs.declared.ends.End.{End}
use Rattle.express_cli.proofs.CountLaws.{quiet_counts, text_fault}
use Rattle.express_cli.proofs.Settling.{lift, settled, still_ends, unsettled}
use Rattle.express_cli.proofs.kept_top.keep.Goals as goal

-- the input was read, and work on it ended so
all_read : {D : Type 0} (shows : D → DiskSeen) (disk after : D) (io : Streams) (net : Around) {Leaves : Type 0} (end : End) (bytes : List ℕ) → Read io bytes
    → EndsBy (keeper shows disk after) bytes Leaves net io.out io.out_now end → Talks (KeepMay shows io net disk after) (KeepBreaks io net) Leaves net io.out io.out_now end
all_read shows disk after io net end bytes read h = lift
    (λ e text may. inl (bytes, read, may)) (elim [ inl still ↦ inl still | inr broke ↦ inr (bytes, read, broke) ]) (λ leaves. leaves) h

pub returns-in-Ok-read_serve-clause-ends : goal.returns-in-Ok-read_serve-clause-ends
returns-in-Ok-read_serve-clause-ends g c =
    let io : Streams = streams g.S.Counted.seen g.K.Counted.seen c.args.input.now c.input_of.new.input c.args.out.now c.keep_by.new.out in
    let net : Around = over g.N.Counted.seen g.N.Conn.Counted.seen c.args.seed.now c.args.net.now c.keep_by.new.net in
    all_read g.D.Disk.disk c.args.disk c.keep_by.result.1 io net c.keep_by.result.0 c.as_slice.result.now (rw (← c.as_slice.ensures.value) at c.in-Ok.ensures.read)
    (settled (keeper g.D.Disk.disk c.args.disk c.keep_by.result.1) c.as_slice.result.now c.in-Ok-read_serve.settings c.in-Ok-read_serve.ensures.judges (rw c.in-Ok.ensures.rests at c.keep_by.ensures.ends))

pub returns-in-Ok-clause-ends : goal.returns-in-Ok-clause-ends
returns-in-Ok-clause-ends g c =
    let io : Streams = streams g.S.Counted.seen g.K.Counted.seen c.args.input.now c.input_of.new.input c.args.out.now c.say_fault.new.out in
    let net : Around = over g.N.Counted.seen g.N.Conn.Counted.seen c.args.seed.now c.args.net.now c.args.net.now in
    let says = rw c.in-Ok.ensures.rests at c.say_fault.ensures.says in
    all_read g.D.Disk.disk c.args.disk c.args.disk io net c.say_fault.result c.as_slice.result.now (rw (← c.as_slice.ensures.value) at c.in-Ok.ensures.read)
    (unsettled (keeper g.D.Disk.disk c.args.disk c.args.disk) c.as_slice.result.now c.in-Err-read_serve.fault refl (refl, refl)
    (quiet_counts (FaultMay c.in-Err-read_serve.fault) _ _ _ _ c.say_fault.result _ _ (text_fault c.in-Err-read_serve.fault) says refl) c.in-Err-read_serve.ensures.judges says)

pub returns-clause-ends : goal.returns-clause-ends
returns-clause-ends g c =
    let Unread : End → List ℕ → Type 0 = UnreadMay (g.S.Counted.seen c.args.input.now) (g.S.Counted.seen c.input_of.new.input) in
    still_ends Unread refl (quiet_counts Unread _ _ _ _ c.in-Err.end _ _ (λ text may. may) c.in-Err.ensures.unread refl) (λ e text may. inr ((refl, refl), may)) c.in-Err.ensures.unread

pub returns-clause-input : goal.returns-clause-input
returns-clause-input g c read write = c.in-Err.ensures.told read write
