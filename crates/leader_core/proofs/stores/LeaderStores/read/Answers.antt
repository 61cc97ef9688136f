use Rattle.std.proofs.Common.{◌≡◌, ◌<◌, ℕ, List, length, Some, refl, sym, ap, subst, ◌∙◌, arith}
use Rattle.frame_rules.specs.Frames as frame
use Rattle.lane_table.specs.declared.row.Want.TheVariants.{Read}
use Rattle.server_boxes.specs.Held.{Holdings}
use Rattle.step_rules.specs.Boxes.{Box, addresses_of, with_read}
use Rattle.step_rules.specs.Leader as steps
use Rattle.leader_core.specs.State.{leader_in}
use Rattle.leader_core.proofs.KeepLemmas.{keeps_is, core_set, same_server, slot_here, box_there, no_box}
use Rattle.step_rules.specs.LeaderReplies as replies
use Rattle.std.proofs.Common.{Option, take, drop, ◌++◌}
use Rattle.express_words.specs.Bytes.{xor_bytes}
use Rattle.dpf_rules.specs.Expansion.{mask}
use Rattle.express_words.specs.Limits.{IsWidth}
use Rattle.leader_core.proofs.SlotLemmas.{written_whole}
use Rattle.leader_core.proofs.stores.LeaderStores.read.Goals as goal

pub returns-then-number-count-clause-fits : goal.returns-then-number-count-clause-fits
unfolding replies.read
returns-then-number-count-clause-fits c f issued =
    let s = c.args.self.now in
    rw (no_box s.boxes.boxes c.args.number (omega (arith, c.if-number-count.true, c.count.ensures.count))) refl

pub returns-clause-fits : goal.returns-clause-fits
unfolding replies.read
returns-clause-fits c f issued =
    let s = c.args.self.now in
    let a = leader_in s in
    let cur = c.index_mut-slot.result.now in
    let share = c.args.share.now in
    let inside : c.from.result < length s.slots.items = omega (arith, c.requires.is.server.lanes, c.from.ensures, c.requires.lane) in
    let found = box_there s.boxes.boxes c.args.number (omega (arith, c.if-number-count.false, c.count.ensures.count)) in
    let b = found.0 in
    let own = take cur.own.len (c.read.new.masked ++ drop (length c.read.new.masked) cur.own.items) in
    let other = c.copy_from_slice.new.self.items in
    let own_is : own ≡ replies.masked a f b =
    written_whole cur.own.len c.read.new.masked cur.own.items (c.read.auto.masked ∙ ap length c.deref_mut.ensures.value) (omega arith)
    ∙ (c.read.ensures.masked b found.1
    ∙ (ap (λ k. xor_bytes b.share (mask b.key k c.args.command.now.serial s.boxes.width)) (sym issued.lane)
    ∙ (ap (λ k. xor_bytes b.share (mask b.key f.lane k s.boxes.width)) (sym issued.serial)
    ∙ ap (λ k. xor_bytes b.share (mask b.key f.lane f.serial k)) c.requires.is.server.width))) in
    let boxes = with_read s.settings.width c.args.stays c.args.number b s.boxes.boxes in
    let after : c.read.new.self.boxes ≡ boxes = ap (λ (h : Holdings). h.boxes) (c.read.ensures.cleared b found.1) ∙ ap (λ w. with_read w c.args.stays c.args.number b s.boxes.boxes) c.requires.is.server.width in
    let message = frame.Message own other in
    ap (λ (o : Option Box). replies.read a f c.args.stays c.args.number o share) found.1
    ∙ (ap (λ (m : List ℕ). Some (replies.done (record a { boxes = boxes }) f Read (frame.Message m share))) (sym own_is)
    ∙ (ap (λ (m : List ℕ). Some (replies.done (record a { boxes = boxes }) f Read (frame.Message own m))) (sym c.copy_from_slice.ensures.items)
    ∙ keeps_is s c.read.new.self boxes c.from.result c.finish.new.self f (steps.Done Read message) message after (c.from.ensures ∙ sym issued.lane) inside
    (c.finish.ensures.row ∙ ap (λ k. steps.row k (steps.Done Read message)) (sym issued.serial)) refl))

pub returns-clause-kept : goal.returns-clause-kept
returns-clause-kept c =
    let s = c.args.self.now in
    let cur = c.index_mut-slot.result.now in
    let inside : c.from.result < length s.slots.items = omega (arith, c.requires.is.server.lanes, c.from.ensures, c.requires.lane) in
    let here = slot_here s c.from.result cur c.requires.is inside c.index_mut-slot.ensures.value in
    let same = c.read.auto.masked ∙ ap length c.deref_mut.ensures.value in
    let own : length (take cur.own.len (c.read.new.masked ++ drop (length c.read.new.masked) cur.own.items)) ≡ s.settings.width =
    ap length (written_whole cur.own.len c.read.new.masked cur.own.items same (omega arith)) ∙ (same ∙ here.rooms.own) in
    let other = ap length c.copy_from_slice.ensures.items ∙ c.requires.width in
    record {
      link = refl;
      settings = refl;
      is = core_set s c.read.new.self c.from.result c.finish.new.self c.requires.is (same_server s.settings s.boxes c.read.new.self s.slots.items c.read.ensures.same c.requires.is.server)
          (c.finish.ensures.is_slot (addresses_of c.read.new.self.boxes)
          (record { unlinked = refl; addressed = λ lane serial some. some; is_body = (own ∙ sym other, subst IsWidth (sym own) s.settings.limits.0) })
          s.settings.width s.settings.boxes (record { room = here.rooms.room; own = own; other = other }));
    }
