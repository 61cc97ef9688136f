use Rattle.std.proofs.Common.{◌<◌, length, refl, sym, ap, ◌∙◌, arith}
use Rattle.frame_rules.specs.Frames as frame
use Rattle.step_rules.specs.Boxes.{Box, addresses_of}
use Rattle.step_rules.specs.Leader as steps
use Rattle.leader_core.specs.declared.slot.LeaderSlot.{LeaderSlot}
use Rattle.leader_core.specs.State.{leader_in}
use Rattle.leader_core.proofs.FitLemmas.{stage_there, begins_not, begins_elsewhere, begins_here}
use Rattle.leader_core.proofs.KeepLemmas.{keeps_is, core_set, slot_here, same_slot}
use Rattle.step_rules.specs.LeaderReplies as replies
use Rattle.std.proofs.lemmas.List.{length-map}
use Rattle.leader_core.specs.Replies.{writing_at}
use Rattle.leader_core.proofs.stores.LeaderStores.began.Goals as goal

pub returns-in_default-clause-fits : goal.returns-in_default-clause-fits
returns-in_default-clause-fits c f issued =
    let s = c.args.self.now in
    let cur = c.index.result.now in
    let inside : c.from.result < length s.slots.items = omega (arith, c.requires.is.server.lanes, c.from.ensures, c.requires.lane) in
    ap (λ (st : steps.Stage). replies.began (leader_in s) f st c.args.count c.args.helpers.now) (stage_there s.slots.items c.from.result f.lane cur inside (c.from.ensures ∙ sym issued.lane) c.index.ensures)
    ∙ begins_not (leader_in s) f cur.room.part.items cur.own.items cur.other.items c.args.count c.args.helpers.now cur.stage (sym c.writing.ensures ∙ c.in_default.is)

pub returns-then-count-clause-fits : goal.returns-then-count-clause-fits
returns-then-count-clause-fits c f issued =
    let s = c.args.self.now in
    let cur = c.index.result.now in
    let inside : c.from.result < length s.slots.items = omega (arith, c.requires.is.server.lanes, c.from.ensures, c.requires.lane) in
    ap (λ (st : steps.Stage). replies.began (leader_in s) f st c.args.count c.args.helpers.now) (stage_there s.slots.items c.from.result f.lane cur inside (c.from.ensures ∙ sym issued.lane) c.index.ensures)
    ∙ begins_elsewhere (leader_in s) f cur.room.part.items cur.own.items cur.other.items c.args.count c.args.helpers.now c.in-Some.begins.0 c.in-Some.begins.1 cur.stage (sym c.writing.ensures ∙ c.in-Some.is) (λ e. c.if-count.true (e ∙ sym c.count.ensures.count))

pub returns-clause-fits : goal.returns-clause-fits
returns-clause-fits c f issued =
    let s = c.args.self.now in
    let cur = c.index_mut-slot.result.now in
    let inside : c.from-2.result < length s.slots.items = omega (arith, c.requires.is.server.lanes, c.from-2.ensures, c.requires.lane) in
    let same = same_slot s.slots.items c.from-2.result c.from.result cur c.index.result.now (c.from-2.ensures ∙ sym c.from.ensures) inside c.index_mut-slot.ensures.value c.index.ensures in
    let key = c.challenge_key-ckey.result in
    let stage = steps.Challenged (replies.begun c.in-Some.begins.0 cur.room.part.items key c.args.count) (frame.Challenge key) in
    ap (λ (st : steps.Stage). replies.began (leader_in s) f st c.args.count c.args.helpers.now) (stage_there s.slots.items c.from-2.result f.lane cur inside (c.from-2.ensures ∙ sym issued.lane) c.index_mut-slot.ensures.value)
    ∙ (begins_here (leader_in s) f cur.room.part.items cur.own.items cur.other.items c.args.count c.args.helpers.now c.in-Some.begins.0 c.in-Some.begins.1 key cur.stage
    (ap (λ (x : LeaderSlot). writing_at x.stage) same ∙ (sym c.writing.ensures ∙ c.in-Some.is)) (omega (arith, c.if-count.false, c.count.ensures.count)) c.challenge_key-ckey.ensures
    ∙ keeps_is s s.boxes s.boxes.boxes c.from-2.result c.challenge.new.self f stage (frame.Challenge key) refl (c.from-2.ensures ∙ sym issued.lane) inside
    (c.challenge.ensures.row ∙ ap (λ k. steps.row k stage) (sym issued.serial)) refl)

pub returns-clause-kept : goal.returns-clause-kept
returns-clause-kept c =
    let s = c.args.self.now in
    let inside : c.from-2.result < length s.slots.items = omega (arith, c.requires.is.server.lanes, c.from-2.ensures, c.requires.lane) in
    record {
      link = refl;
      settings = refl;
      is = core_set s s.boxes c.from-2.result c.challenge.new.self c.requires.is c.requires.is.server
          (c.challenge.ensures.is_slot (addresses_of s.boxes.boxes) (omega (arith, c.if-count.false, c.count.ensures.count, length-map s.boxes.boxes (λ (b : Box). b.address))) s.settings.width s.settings.boxes
          (slot_here s c.from-2.result c.index_mut-slot.result.now c.requires.is inside c.index_mut-slot.ensures.value));
    }
