use Rattle.std.proofs.Common.{◌≡◌, ◌<◌, List, Some, refl, set, sym, ap, subst, ◌∙◌, length, arith}
use Rattle.std.proofs.lemmas.List.{set-get_or}
use Rattle.frame_rules.specs.Frames.{plain}
use Rattle.express_words.specs.declared.refusal.Refusal.TheVariants as refusal
use Rattle.step_rules.specs.Boxes.{addresses_of}
use Rattle.step_rules.specs.Helper as steps
use Rattle.helper_core.specs.declared.slot.HelperSlot.{HelperSlot}
use Rattle.helper_core.specs.declared.said.SaidToLeader.TheVariants as said
use Rattle.helper_core.specs.Said.{effect_in}
use Rattle.helper_core.specs.Slots.{IsHelperSlot}
use Rattle.helper_core.specs.State.{server_in}
use Rattle.helper_core.proofs.RowLemmas.{is_of}
use Rattle.helper_core.proofs.CommandLemmas.{held_there}
use Rattle.step_rules.specs.HelperCommands.{read, held_token, no_deposit}
use Rattle.helper_core.proofs.AuditLemmas.{read_is}
use Rattle.helper_core.proofs.RegisterLemmas.{same_server, slot_set}
use Rattle.helper_core.proofs.server.Server.read.Goals as goal

pub returns-in-None-clause-effect : goal.returns-in-None-clause-effect
unfolding read
returns-in-None-clause-effect c =
    let i = c.self.inside in
    let h = c.args.self.now in
    let inside : c.from.result < length i.slots.items = omega (arith, c.self.invariant.lanes, ap (λ (s : steps.Server). s.settings.lanes) c.self.view_is) in
    let key = held_there held_token h i.settings.lanes i.slots.items c.from.result c.args.frame.now.lane c.args.frame.now.serial c.index_mut-slot.result.now c.token_for.result
    (is_of h i.settings i.boxes i.slots.items i.slots.items i.draws i.seed c.self.view_is refl) inside c.from.ensures c.index_mut-slot.ensures.value c.token_for.ensures in
    let same : set i.slots.items c.from.result c.index_mut-slot.result.now ≡ i.slots.items =
    ap (set i.slots.items c.from.result) c.index_mut-slot.ensures.value ∙ set-get_or i.slots.items c.from.result c.index_mut-slot.result.now in
    ap (read h (plain c.args.frame.now) c.args.stays c.args.number) (key ∙ c.in-None.is)
    ∙ (ap no_deposit (sym c.self.view_is)
    ∙ ap (λ (xs : List HelperSlot). effect_in (server_in i.settings i.boxes xs i.draws i.seed) (said.Refused refusal.NoDeposit) c.args.masked.now) (sym same))

pub returns-in-Some-clause-effect : goal.returns-in-Some-clause-effect
returns-in-Some-clause-effect c =
    let i = c.self.inside in
    let h = c.args.self.now in
    let inside : c.from.result < length i.slots.items = omega (arith, c.self.invariant.lanes, ap (λ (s : steps.Server). s.settings.lanes) c.self.view_is) in
    let key = held_there held_token h i.settings.lanes i.slots.items c.from.result c.args.frame.now.lane c.args.frame.now.serial c.index_mut-slot.result.now c.token_for.result
    (is_of h i.settings i.boxes i.slots.items i.slots.items i.draws i.seed c.self.view_is refl) inside c.from.ensures c.index_mut-slot.ensures.value c.token_for.ensures in
    ap (read h (plain c.args.frame.now) c.args.stays c.args.number) (key ∙ c.in-Some.is)
    ∙ (ap (λ (s : steps.Server). read s (plain c.args.frame.now) c.args.stays c.args.number (Some c.in-Some.held)) (sym c.self.view_is)
    ∙ read_is i.settings i.boxes i.slots.items i.draws i.seed c.self.invariant (plain c.args.frame.now) c.args.stays c.args.number c.in-Some.held c.from.result c.finish.new.self c.read_box.new.boxes c.read_box.result c.read_box.new.masked
    c.from.ensures c.finish.ensures.row (c.read_box.ensures.reading (server_in i.settings i.boxes i.slots.items i.draws i.seed) refl (sym c.self.invariant.width)))

pub invariant_of-self-in-Some : goal.invariant_of-self-in-Some
invariant_of-self-in-Some c =
    let i = c.self.inside in
    let inside : c.from.result < length i.slots.items = omega (arith, c.self.invariant.lanes, ap (λ (s : steps.Server). s.settings.lanes) c.self.view_is) in
    same_server i.settings i.boxes c.read_box.new.boxes (set i.slots.items c.from.result c.finish.new.self) c.read_box.ensures.same
    (slot_set i.settings i.boxes i.slots.items i.draws i.seed c.self.invariant c.from.result c.finish.new.self (c.finish.ensures.is_slot (addresses_of i.boxes.boxes) i.settings.width i.settings.boxes (subst (IsHelperSlot i.settings.width i.settings.boxes (addresses_of i.boxes.boxes)) (sym c.index_mut-slot.ensures.value) (c.self.invariant.rows c.from.result c.index_mut-slot.result.now inside))))
