use Rattle.std.proofs.Common.{◌≡◌, ◌<◌, ◌+◌, ℕ, List, Some, None, refl, set, sym, ap, subst, ◌∙◌, length, arith}
use Rattle.std.proofs.lemmas.List.{set-get_or}
use Rattle.std.specs.Prelude.{option_map}
use Rattle.frame_rules.specs.Frames.{plain}
use Rattle.express_words.specs.declared.refusal.Refusal.TheVariants as refusal
use Rattle.step_rules.specs.Boxes.{addresses_of}
use Rattle.step_rules.specs.Helper as steps
use Rattle.server_boxes.specs.Held.{Holdings}
use Rattle.helper_core.specs.declared.slot.HelperSlot.{HelperSlot}
use Rattle.helper_core.specs.declared.said.SaidToLeader.TheVariants as said
use Rattle.helper_core.specs.Said.{effect_in}
use Rattle.helper_core.specs.Slots.{IsHelperSlot}
use Rattle.helper_core.specs.State.{server_in}
use Rattle.helper_core.proofs.RowLemmas.{is_of}
use Rattle.helper_core.proofs.CommandLemmas.{held_there}
use Rattle.express_words.specs.declared.audit.ProofShare.{ProofShare}
use Rattle.server_boxes.specs.Held.{leaves_of, write_in}
use Rattle.server_boxes.specs.declared.room.Begun.{Begun}
use Rattle.helper_core.specs.State.{IsServer}
use Rattle.step_rules.specs.HelperCommands.{audit, audit_steps, held_proof, no_deposit}
use Rattle.helper_core.proofs.AuditLemmas.{audit_is, not_proved}
use Rattle.helper_core.proofs.RegisterLemmas.{slot_set}
use Rattle.helper_core.proofs.server.Server.audit.Goals as goal

pub returns-in-None-clause-effect : goal.returns-in-None-clause-effect
unfolding audit
returns-in-None-clause-effect g c masked =
    let i = c.self.inside in
    let h = c.args.self.now in
    let cur = c.index_mut-slot.result.now in
    let inside : c.from.result < length i.slots.items = omega (arith, c.self.invariant.lanes, ap (λ (s : steps.Server). s.settings.lanes) c.self.view_is) in
    let see = option_map (option_map (λ (x : Begun × ProofShare). (write_in x.0 cur.room.part.items, x.1))) in
    let key = held_there held_proof h i.settings.lanes i.slots.items c.from.result c.args.frame.now.lane c.args.frame.now.serial cur _
    (is_of h i.settings i.boxes i.slots.items i.slots.items i.draws i.seed c.self.view_is refl) inside c.from.ensures c.index_mut-slot.ensures.value c.proof_for.ensures.held in
    let same : set i.slots.items c.from.result c.index_mut-slot.result.now ≡ i.slots.items =
    ap (set i.slots.items c.from.result) c.index_mut-slot.ensures.value ∙ set-get_or i.slots.items c.from.result c.index_mut-slot.result.now in
    ap (audit h (plain c.args.frame.now) c.args.sigma c.args.other.now) (key ∙ ap see c.in-None.is)
    ∙ (ap no_deposit (sym c.self.view_is)
    ∙ ap (λ (xs : List HelperSlot). effect_in (server_in i.settings i.boxes xs i.draws i.seed) (said.Refused refusal.NoDeposit) masked) (sym same))

pub returns-in-None-clause-steps : goal.returns-in-None-clause-steps
unfolding audit_steps
returns-in-None-clause-steps g c =
    let i = c.self.inside in
    let h = c.args.self.now in
    let cur = c.index_mut-slot.result.now in
    let inside : c.from.result < length i.slots.items = omega (arith, c.self.invariant.lanes, ap (λ (s : steps.Server). s.settings.lanes) c.self.view_is) in
    let see = option_map (option_map (λ (x : Begun × ProofShare). (write_in x.0 cur.room.part.items, x.1))) in
    let key = held_there held_proof h i.settings.lanes i.slots.items c.from.result c.args.frame.now.lane c.args.frame.now.serial cur _
    (is_of h i.settings i.boxes i.slots.items i.slots.items i.draws i.seed c.self.view_is refl) inside c.from.ensures c.index_mut-slot.ensures.value c.proof_for.ensures.held in
    let none = ap (audit_steps h) (key ∙ ap see c.in-None.is) in
    omega (arith, none)

pub returns-in-Some-None-clause-effect : goal.returns-in-Some-None-clause-effect
returns-in-Some-None-clause-effect g c masked =
    let i = c.self.inside in
    let h = c.args.self.now in
    let cur = c.index_mut-slot.result.now in
    let inside : c.from.result < length i.slots.items = omega (arith, c.self.invariant.lanes, ap (λ (s : steps.Server). s.settings.lanes) c.self.view_is) in
    let see = option_map (option_map (λ (x : Begun × ProofShare). (write_in x.0 cur.room.part.items, x.1))) in
    let key = held_there held_proof h i.settings.lanes i.slots.items c.from.result c.args.frame.now.lane c.args.frame.now.serial cur _
    (is_of h i.settings i.boxes i.slots.items i.slots.items i.draws i.seed c.self.view_is refl) inside c.from.ensures c.index_mut-slot.ensures.value c.proof_for.ensures.held in
    ap (audit h (plain c.args.frame.now) c.args.sigma c.args.other.now) (key ∙ ap see (c.in-Some-None.is ∙ ap Some c.in-Some-None.field-0-is))
    ∙ (ap (λ (s : steps.Server). audit s (plain c.args.frame.now) c.args.sigma c.args.other.now (Some None)) (sym c.self.view_is)
    ∙ not_proved i.settings i.boxes i.slots.items i.draws i.seed c.self.invariant (plain c.args.frame.now) c.args.sigma c.args.other.now c.from.result c.finish.new.self masked c.from.ensures c.finish.ensures.row)

pub returns-in-Some-None-clause-steps : goal.returns-in-Some-None-clause-steps
unfolding audit_steps
returns-in-Some-None-clause-steps g c =
    let i = c.self.inside in
    let h = c.args.self.now in
    let cur = c.index_mut-slot.result.now in
    let inside : c.from.result < length i.slots.items = omega (arith, c.self.invariant.lanes, ap (λ (s : steps.Server). s.settings.lanes) c.self.view_is) in
    let see = option_map (option_map (λ (x : Begun × ProofShare). (write_in x.0 cur.room.part.items, x.1))) in
    let key = held_there held_proof h i.settings.lanes i.slots.items c.from.result c.args.frame.now.lane c.args.frame.now.serial cur _
    (is_of h i.settings i.boxes i.slots.items i.slots.items i.draws i.seed c.self.view_is refl) inside c.from.ensures c.index_mut-slot.ensures.value c.proof_for.ensures.held in
    let none = ap (audit_steps h) (key ∙ ap see (c.in-Some-None.is ∙ ap Some c.in-Some-None.field-0-is)) in
    omega (arith, none)

pub returns-in-Some-Some-clause-effect : goal.returns-in-Some-Some-clause-effect
returns-in-Some-Some-clause-effect g c masked =
    let i = c.self.inside in
    let h = c.args.self.now in
    let cur = c.index_mut-slot.result.now in
    let inside : c.from.result < length i.slots.items = omega (arith, c.self.invariant.lanes, ap (λ (s : steps.Server). s.settings.lanes) c.self.view_is) in
    let see = option_map (option_map (λ (x : Begun × ProofShare). (write_in x.0 cur.room.part.items, x.1))) in
    let key = held_there held_proof h i.settings.lanes i.slots.items c.from.result c.args.frame.now.lane c.args.frame.now.serial cur _
    (is_of h i.settings i.boxes i.slots.items i.slots.items i.draws i.seed c.self.view_is refl) inside c.from.ensures c.index_mut-slot.ensures.value c.proof_for.ensures.held in
    let w = write_in c.in-Some-Some.begun cur.room.part.items in
    ap (audit h (plain c.args.frame.now) c.args.sigma c.args.other.now) (key ∙ ap see (c.in-Some-Some.is ∙ ap Some c.in-Some-Some.field-0-is))
    ∙ (ap (λ (s : steps.Server). audit s (plain c.args.frame.now) c.args.sigma c.args.other.now (Some (Some (w, c.in-Some-Some.share)))) (sym c.self.view_is)
    ∙ (audit_is i.settings i.boxes i.slots.items i.draws i.seed c.self.invariant (plain c.args.frame.now) w c.in-Some-Some.share c.args.sigma c.args.other.now c.from.result c.audited.new.self c.open_write-own.result c.close-closing.result masked
    c.from.ensures c.open_write-own.ensures.opened c.close-closing.ensures
    (c.audited.ensures.row ∙ ap (λ (p : List ℕ). steps.row c.args.frame.now.serial (steps.Audited (write_in c.in-Some-Some.begun p) c.close-closing.result)) c.open_write-own.ensures.part)
    ∙ ap (λ (x : Holdings). effect_in (server_in i.settings x (set i.slots.items c.from.result c.audited.new.self) i.draws i.seed) (said.Audited c.open_write-own.result c.close-closing.result) masked) (sym c.open_write-own.ensures.same)))

pub returns-in-Some-Some-clause-steps : goal.returns-in-Some-Some-clause-steps
unfolding audit_steps
returns-in-Some-Some-clause-steps g c =
    let i = c.self.inside in
    let h = c.args.self.now in
    let cur = c.index_mut-slot.result.now in
    let inside : c.from.result < length i.slots.items = omega (arith, c.self.invariant.lanes, ap (λ (s : steps.Server). s.settings.lanes) c.self.view_is) in
    let see = option_map (option_map (λ (x : Begun × ProofShare). (write_in x.0 cur.room.part.items, x.1))) in
    let key = held_there held_proof h i.settings.lanes i.slots.items c.from.result c.args.frame.now.lane c.args.frame.now.serial cur _
    (is_of h i.settings i.boxes i.slots.items i.slots.items i.draws i.seed c.self.view_is refl) inside c.from.ensures c.index_mut-slot.ensures.value c.proof_for.ensures.held in
    let some = ap (audit_steps h) (key ∙ ap see (c.in-Some-Some.is ∙ ap Some c.in-Some-Some.field-0-is)) ∙ ap (λ (s : steps.Server). audit_steps s (Some (Some (write_in c.in-Some-Some.begun cur.room.part.items, c.in-Some-Some.share)))) (sym c.self.view_is) in
    c.open_write-own.ensures.steps ∙ ap (λ n. c.args.steps.now + n) (sym some)

pub invariant_of-self-in-Some-Some : goal.invariant_of-self-in-Some-Some
invariant_of-self-in-Some-Some g c =
    let i = c.self.inside in
    let inside : c.from.result < length i.slots.items = omega (arith, c.self.invariant.lanes, ap (λ (s : steps.Server). s.settings.lanes) c.self.view_is) in
    let cur = c.index_mut-slot.result.now in
    let here = (subst (IsHelperSlot i.settings.width i.settings.boxes (addresses_of i.boxes.boxes)) (sym c.index_mut-slot.ensures.value) (c.self.invariant.rows c.from.result c.index_mut-slot.result.now inside)) in
    let v = c.open_write-own in
    let a = addresses_of i.boxes.boxes in
    subst (λ (x : Holdings). IsServer i.settings x (set i.slots.items c.from.result c.audited.new.self)) (sym v.ensures.same)
    (slot_set i.settings i.boxes i.slots.items i.draws i.seed c.self.invariant c.from.result c.audited.new.self
    (c.audited.ensures.is_slot a
    (record {
      count = rw c.in-Some-Some.field-0-is at (c.in-Some-Some.ensures.count i.settings.width i.settings.boxes a here);
      leaves = v.ensures.leaves ∙ ap (λ (p : List ℕ). leaves_of 1 c.in-Some-Some.begun p a) (sym v.ensures.part);
    })
    i.settings.width i.settings.boxes
    (record { part = ap length v.ensures.part ∙ here.room.part; leaves = v.ensures.room ∙ here.room.leaves })))
