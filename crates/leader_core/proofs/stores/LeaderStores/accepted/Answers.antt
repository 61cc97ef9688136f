use Rattle.std.proofs.Common.{◌<◌, length, refl, sym, ap, ◌∙◌, arith}
use Rattle.frame_rules.specs.Frames as frame
use Rattle.lane_table.specs.declared.row.Want.TheVariants.{Write as Writes}
use Rattle.server_boxes.specs.Held.{Holdings}
use Rattle.step_rules.specs.Boxes.{addresses_of, with_write}
use Rattle.step_rules.specs.Leader as steps
use Rattle.leader_core.specs.State.{leader_in}
use Rattle.leader_core.proofs.FitLemmas.{stage_there, settles_not, accepts_not, accepts_here}
use Rattle.leader_core.proofs.KeepLemmas.{keeps_is, core_set, same_server, slot_here, settling_leaves}
use Rattle.step_rules.specs.LeaderReplies as replies
use Rattle.leader_core.proofs.stores.LeaderStores.accepted.Goals as goal

pub returns-in_default-clause-fits : goal.returns-in_default-clause-fits
returns-in_default-clause-fits c f issued =
    let s = c.args.self.now in
    let cur = c.index-slot.result.now in
    let inside : c.from.result < length s.slots.items = omega (arith, c.requires.is.server.lanes, c.from.ensures, c.requires.lane) in
    ap (λ (st : steps.Stage). replies.accepted (leader_in s) f st) (stage_there s.slots.items c.from.result f.lane cur inside (c.from.ensures ∙ sym issued.lane) c.index-slot.ensures)
    ∙ (settles_not (leader_in s) f cur.room.part.items cur.own.items cur.other.items cur.stage (sym c.settling.ensures ∙ c.in_default.is)).0

pub returns-then-not-judge-clause-fits : goal.returns-then-not-judge-clause-fits
returns-then-not-judge-clause-fits c f issued =
    let s = c.args.self.now in
    let cur = c.index-slot.result.now in
    let inside : c.from.result < length s.slots.items = omega (arith, c.requires.is.server.lanes, c.from.ensures, c.requires.lane) in
    ap (λ (st : steps.Stage). replies.accepted (leader_in s) f st) (stage_there s.slots.items c.from.result f.lane cur inside (c.from.ensures ∙ sym issued.lane) c.index-slot.ensures)
    ∙ accepts_not (leader_in s) f cur.room.part.items cur.own.items cur.other.items c.in-Some.begun c.in-Some.own c.in-Some.other cur.stage (sym c.settling.ensures ∙ c.in-Some.is) (sym c.judge.ensures.judged ∙ c.if-not-judge.true)

pub returns-clause-fits : goal.returns-clause-fits
returns-clause-fits c f issued =
    let s = c.args.self.now in
    let cur = c.index-slot.result.now in
    let b = c.in-Some.begun in
    let inside : c.from.result < length s.slots.items = omega (arith, c.requires.is.server.lanes, c.from.ensures, c.requires.lane) in
    let inside2 : c.from-2.result < length s.slots.items = omega (arith, c.requires.is.server.lanes, c.from-2.ensures, c.requires.lane) in
    let settles = sym c.settling.ensures ∙ c.in-Some.is in
    let here = slot_here s c.from.result cur c.requires.is inside c.index-slot.ensures in
    let after = ap (λ (h : Holdings). h.boxes) (c.add_write.ensures.added 0 (settling_leaves (addresses_of s.boxes.boxes) cur.room cur.own.items cur.other.items b c.in-Some.own c.in-Some.other cur.stage settles here.stage)) in
    ap (λ (st : steps.Stage). replies.accepted (leader_in s) f st) (stage_there s.slots.items c.from.result f.lane cur inside (c.from.ensures ∙ sym issued.lane) c.index-slot.ensures)
    ∙ (accepts_here (leader_in s) f cur.room.part.items cur.own.items cur.other.items b c.in-Some.own c.in-Some.other cur.stage settles (sym c.judge.ensures.judged ∙ c.if-not-judge.false)
    ∙ keeps_is s c.add_write.new.self (with_write cur.room.part.items 0 b.root b.count s.boxes.boxes) c.from-2.result c.finish.new.self f (steps.Done Writes frame.Accepted) frame.Accepted after (c.from-2.ensures ∙ sym issued.lane) inside2
    (c.finish.ensures.row ∙ ap (λ k. steps.row k (steps.Done Writes frame.Accepted)) (sym issued.serial)) refl)

pub returns-clause-kept : goal.returns-clause-kept
returns-clause-kept c =
    let s = c.args.self.now in
    let inside : c.from-2.result < length s.slots.items = omega (arith, c.requires.is.server.lanes, c.from-2.ensures, c.requires.lane) in
    let here = slot_here s c.from-2.result c.index_mut-slot.result.now c.requires.is inside c.index_mut-slot.ensures.value in
    record {
      link = refl;
      settings = refl;
      is = core_set s c.add_write.new.self c.from-2.result c.finish.new.self c.requires.is (same_server s.settings s.boxes c.add_write.new.self s.slots.items c.add_write.ensures.same c.requires.is.server)
          (c.finish.ensures.is_slot (addresses_of c.add_write.new.self.boxes) (record { unlinked = refl; addressed = λ lane serial some. some; is_body = tt }) s.settings.width s.settings.boxes here.rooms);
    }
