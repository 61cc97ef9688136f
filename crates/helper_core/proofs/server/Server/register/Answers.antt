use Rattle.std.proofs.Common.{◌≡◌, ◌<◌, List, Some, refl, set, sym, ap, subst, ◌∙◌, length, arith}
use Rattle.std.proofs.lemmas.List.{set-get_or}
use Rattle.frame_rules.specs.Frames.{plain}
use Rattle.express_words.specs.declared.refusal.Refusal.TheVariants as refusal
use Rattle.step_rules.specs.Boxes.{addresses_of}
use Rattle.step_rules.specs.Helper as steps
use Rattle.helper_core.specs.declared.slot.HelperSlot.{HelperSlot}
use Rattle.helper_core.specs.declared.said.SaidToLeader.{SaidToLeader}
use Rattle.helper_core.specs.declared.said.SaidToLeader.TheVariants as said
use Rattle.helper_core.specs.Said.{effect_in}
use Rattle.helper_core.specs.Slots.{IsHelperSlot}
use Rattle.helper_core.specs.State.{server_in}
use Rattle.helper_core.proofs.RowLemmas.{is_of}
use Rattle.helper_core.proofs.CommandLemmas.{held_there}
use Rattle.step_rules.specs.HelperCommands.{register, held_key, no_deposit}
use Rattle.helper_core.proofs.RegisterLemmas.{register_is, register_keeps, slot_set}
use Rattle.helper_core.proofs.server.Server.register.Goals as goal

pub returns-in-None-clause-effect : goal.returns-in-None-clause-effect
unfolding register
returns-in-None-clause-effect c masked =
    let i = c.self.inside in
    let h = c.args.self.now in
    let inside : c.from.result < length i.slots.items = omega (arith, c.self.invariant.lanes, ap (λ (s : steps.Server). s.settings.lanes) c.self.view_is) in
    let key = held_there held_key h i.settings.lanes i.slots.items c.from.result c.args.frame.now.lane c.args.frame.now.serial c.index_mut-slot.result.now c.key_for.result
    (is_of h i.settings i.boxes i.slots.items i.slots.items i.draws i.seed c.self.view_is refl) inside c.from.ensures c.index_mut-slot.ensures.value c.key_for.ensures in
    let same : set i.slots.items c.from.result c.index_mut-slot.result.now ≡ i.slots.items =
    ap (set i.slots.items c.from.result) c.index_mut-slot.ensures.value ∙ set-get_or i.slots.items c.from.result c.index_mut-slot.result.now in
    ap (register h (plain c.args.frame.now) c.args.address) (key ∙ c.in-None.is)
    ∙ (ap no_deposit (sym c.self.view_is)
    ∙ ap (λ (xs : List HelperSlot). effect_in (server_in i.settings i.boxes xs i.draws i.seed) (said.Refused refusal.NoDeposit) masked) (sym same))

pub returns-in-Some-clause-effect : goal.returns-in-Some-clause-effect
returns-in-Some-clause-effect c masked =
    let i = c.self.inside in
    let h = c.args.self.now in
    let inside : c.from.result < length i.slots.items = omega (arith, c.self.invariant.lanes, ap (λ (s : steps.Server). s.settings.lanes) c.self.view_is) in
    let key = held_there held_key h i.settings.lanes i.slots.items c.from.result c.args.frame.now.lane c.args.frame.now.serial c.index_mut-slot.result.now c.key_for.result
    (is_of h i.settings i.boxes i.slots.items i.slots.items i.draws i.seed c.self.view_is refl) inside c.from.ensures c.index_mut-slot.ensures.value c.key_for.ensures in
    ap (register h (plain c.args.frame.now) c.args.address) (key ∙ c.in-Some.is)
    ∙ (ap (λ (s : steps.Server). register s (plain c.args.frame.now) c.args.address (Some c.in-Some.key)) (sym c.self.view_is)
    ∙ (register_is i.settings i.boxes i.slots.items i.draws i.seed c.self.invariant (plain c.args.frame.now) c.args.address c.in-Some.key c.from.result c.finish.new.self c.register-added.result c.register-added.new.self masked
    c.from.ensures c.finish.ensures.row c.register-added.ensures.answer c.register-added.ensures.added c.register-added.ensures.refused
    ∙ ap (λ (x : SaidToLeader). effect_in (server_in i.settings c.register-added.new.self (set i.slots.items c.from.result c.finish.new.self) i.draws i.seed) x masked) (sym c.said_of.ensures.said)))

pub invariant_of-self-in-Some : goal.invariant_of-self-in-Some
invariant_of-self-in-Some c =
    let i = c.self.inside in
    let inside : c.from.result < length i.slots.items = omega (arith, c.self.invariant.lanes, ap (λ (s : steps.Server). s.settings.lanes) c.self.view_is) in
    register_keeps i.settings i.boxes (set i.slots.items c.from.result c.finish.new.self) c.args.address c.in-Some.key c.register-added.result c.register-added.new.self
    (slot_set i.settings i.boxes i.slots.items i.draws i.seed c.self.invariant c.from.result c.finish.new.self (c.finish.ensures.is_slot (addresses_of i.boxes.boxes) i.settings.width i.settings.boxes (subst (IsHelperSlot i.settings.width i.settings.boxes (addresses_of i.boxes.boxes)) (sym c.index_mut-slot.ensures.value) (c.self.invariant.rows c.from.result c.index_mut-slot.result.now inside))))
    c.register-added.ensures.answer c.register-added.ensures.added c.register-added.ensures.refused
