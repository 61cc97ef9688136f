use Rattle.std.proofs.Common.{◌≡◌, ◌<◌, List, Some, refl, set, sym, ap, subst, ◌∙◌, length, arith}
use Rattle.std.proofs.lemmas.List.{set-get_or}
use Rattle.std.specs.Prelude.{option_map}
use Rattle.frame_rules.specs.Frames.{plain}
use Rattle.express_words.specs.declared.refusal.Refusal.TheVariants as refusal
use Rattle.step_rules.specs.Boxes.{addresses_of}
use Rattle.step_rules.specs.Helper as steps
use Rattle.helper_core.specs.declared.slot.HelperSlot.{HelperSlot}
use Rattle.helper_core.specs.declared.said.SaidToLeader.TheVariants as said
use Rattle.helper_core.specs.Said.{effect_in}
use Rattle.helper_core.specs.Slots.{IsHelperSlot}
use Rattle.helper_core.specs.State.{server_in}
use Rattle.helper_core.proofs.RowLemmas.{is_of}
use Rattle.helper_core.proofs.CommandLemmas.{held_there}
use Rattle.express_words.specs.declared.audit.Closing.{Closing}
use Rattle.server_boxes.specs.Held.{AreLeaves, with_boxes, write_in}
use Rattle.server_boxes.specs.declared.room.Begun.{Begun}
use Rattle.server_boxes.specs.declared.room.Room.{Room}
use Rattle.step_rules.specs.Boxes.{with_write}
use Rattle.step_rules.specs.HelperCommands.{settle, held_closing, no_deposit}
use Rattle.helper_core.proofs.AuditLemmas.{settle_accepts, settle_rejects}
use Rattle.helper_core.proofs.RegisterLemmas.{same_server, slot_set}
use Rattle.helper_core.proofs.server.Server.settle.Goals as goal

pub returns-in-None-clause-effect : goal.returns-in-None-clause-effect
unfolding settle
returns-in-None-clause-effect c masked =
    let i = c.self.inside in
    let h = c.args.self.now in
    let inside : c.from.result < length i.slots.items = omega (arith, c.self.invariant.lanes, ap (λ (s : steps.Server). s.settings.lanes) c.self.view_is) in
    let key = held_there held_closing h i.settings.lanes i.slots.items c.from.result c.args.frame.now.lane c.args.frame.now.serial c.index_mut-slot.result.now _
    (is_of h i.settings i.boxes i.slots.items i.slots.items i.draws i.seed c.self.view_is refl) inside c.from.ensures c.index_mut-slot.ensures.value c.closing_for.ensures.held in
    let same : set i.slots.items c.from.result c.index_mut-slot.result.now ≡ i.slots.items =
    ap (set i.slots.items c.from.result) c.index_mut-slot.ensures.value ∙ set-get_or i.slots.items c.from.result c.index_mut-slot.result.now in
    ap (settle h (plain c.args.frame.now) c.args.leaders.now) (key ∙ ap (option_map (λ (x : Begun × Closing). (write_in x.0 c.index_mut-slot.result.now.room.part.items, x.1))) c.in-None.is)
    ∙ (ap no_deposit (sym c.self.view_is)
    ∙ ap (λ (xs : List HelperSlot). effect_in (server_in i.settings i.boxes xs i.draws i.seed) (said.Refused refusal.NoDeposit) masked) (sym same))

pub returns-then-judge-clause-effect : goal.returns-then-judge-clause-effect
returns-then-judge-clause-effect c masked =
    let i = c.self.inside in
    let h = c.args.self.now in
    let cur = c.index_mut-slot.result.now in
    let inside : c.from.result < length i.slots.items = omega (arith, c.self.invariant.lanes, ap (λ (s : steps.Server). s.settings.lanes) c.self.view_is) in
    let key = held_there held_closing h i.settings.lanes i.slots.items c.from.result c.args.frame.now.lane c.args.frame.now.serial cur _
    (is_of h i.settings i.boxes i.slots.items i.slots.items i.draws i.seed c.self.view_is refl) inside c.from.ensures c.index_mut-slot.ensures.value c.closing_for.ensures.held in
    let w = write_in c.in-Some.begun cur.room.part.items in
    let here = c.in-Some.ensures.leaves i.settings.width i.settings.boxes (addresses_of i.boxes.boxes) (subst (IsHelperSlot i.settings.width i.settings.boxes (addresses_of i.boxes.boxes)) (sym c.index_mut-slot.ensures.value) (c.self.invariant.rows c.from.result c.index_mut-slot.result.now inside)) in
    let rooms : c.finish.new.self.room ≡ cur.room = c.finish.ensures.room in
    let after : c.add_write.new.self ≡ with_boxes i.boxes (with_write cur.room.part.items 1 w.root w.count i.boxes.boxes) =
    c.add_write.ensures.added 1
    (subst (λ (r : Room). AreLeaves 1 c.in-Some.begun r (addresses_of i.boxes.boxes)) (sym rooms) here.leaves)
    ∙ ap (λ (r : Room). with_boxes i.boxes (with_write r.part.items 1 w.root w.count i.boxes.boxes)) rooms in
    ap (settle h (plain c.args.frame.now) c.args.leaders.now) (key ∙ ap (option_map (λ (x : Begun × Closing). (write_in x.0 cur.room.part.items, x.1))) c.in-Some.is)
    ∙ (ap (λ (s : steps.Server). settle s (plain c.args.frame.now) c.args.leaders.now (Some (w, c.in-Some.own))) (sym c.self.view_is)
    ∙ settle_accepts i.settings i.boxes i.slots.items i.draws i.seed c.self.invariant (plain c.args.frame.now) c.args.leaders.now c.in-Some.own w c.from.result c.finish.new.self c.add_write.new.self
    masked c.from.ensures c.finish.ensures.row (sym c.judge.ensures.judged ∙ c.if-judge.true) after)

pub returns-else-judge-clause-effect : goal.returns-else-judge-clause-effect
returns-else-judge-clause-effect c masked =
    let i = c.self.inside in
    let h = c.args.self.now in
    let cur = c.index_mut-slot.result.now in
    let inside : c.from.result < length i.slots.items = omega (arith, c.self.invariant.lanes, ap (λ (s : steps.Server). s.settings.lanes) c.self.view_is) in
    let key = held_there held_closing h i.settings.lanes i.slots.items c.from.result c.args.frame.now.lane c.args.frame.now.serial cur _
    (is_of h i.settings i.boxes i.slots.items i.slots.items i.draws i.seed c.self.view_is refl) inside c.from.ensures c.index_mut-slot.ensures.value c.closing_for.ensures.held in
    let w = write_in c.in-Some.begun cur.room.part.items in
    ap (settle h (plain c.args.frame.now) c.args.leaders.now) (key ∙ ap (option_map (λ (x : Begun × Closing). (write_in x.0 cur.room.part.items, x.1))) c.in-Some.is)
    ∙ (ap (λ (s : steps.Server). settle s (plain c.args.frame.now) c.args.leaders.now (Some (w, c.in-Some.own))) (sym c.self.view_is)
    ∙ settle_rejects i.settings i.boxes i.slots.items i.draws i.seed c.self.invariant (plain c.args.frame.now) c.args.leaders.now c.in-Some.own w c.from.result c.finish.new.self
    masked c.from.ensures c.finish.ensures.row (sym c.judge.ensures.judged ∙ c.if-judge.false))

pub invariant_of-self-then-judge : goal.invariant_of-self-then-judge
invariant_of-self-then-judge c =
    let i = c.self.inside in
    let inside : c.from.result < length i.slots.items = omega (arith, c.self.invariant.lanes, ap (λ (s : steps.Server). s.settings.lanes) c.self.view_is) in
    same_server i.settings i.boxes c.add_write.new.self (set i.slots.items c.from.result c.finish.new.self) c.add_write.ensures.same
    (slot_set i.settings i.boxes i.slots.items i.draws i.seed c.self.invariant c.from.result c.finish.new.self (c.finish.ensures.is_slot (addresses_of i.boxes.boxes) i.settings.width i.settings.boxes (subst (IsHelperSlot i.settings.width i.settings.boxes (addresses_of i.boxes.boxes)) (sym c.index_mut-slot.ensures.value) (c.self.invariant.rows c.from.result c.index_mut-slot.result.now inside))))
