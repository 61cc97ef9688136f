-- What a command finds in its lane's slot.
use Rattle.std.proofs.Common.{◌≡◌, ◌<◌, ◌≤◌, ◌+◌, refl, ℕ, List, length, get_or, set, Option, Some, sym, ap, ◌∙◌}
use Rattle.std.proofs.lemmas.Bool.{le-leb, lt-leb}
use Rattle.std.proofs.lemmas.List.{map-set}
use Rattle.express_words.specs.declared.refusal.Refusal.TheVariants as refusal
use Rattle.express_words.specs.declared.settings.Settings.{Settings}
use Rattle.frame_rules.specs.Frames as frame
use Rattle.frame_rules.specs.Frames.{PlainFrame}
use Rattle.dpf_rules.specs.Expansion.{draw32}
use Rattle.server_boxes.specs.Held.{Holdings}
use Rattle.audit_rules.specs.Values.{Write, ckey_of}
use Rattle.express_words.specs.declared.audit.Openings.{Openings}
use Rattle.express_words.specs.declared.audit.Closing.{Closing}
use Rattle.frame_rules.specs.declared.frame.Body.{Body}
use Rattle.frame_rules.specs.declared.frame.Body.TheVariants as body
use Rattle.frame_rules.specs.Frames.{plain_body}
use Rattle.step_rules.specs.HelperCommands.{effect, begin, command, command_steps, carries_out, carry_steps, refuses, no_deposit}
use Rattle.helper_core.specs.declared.said.SaidToLeader.TheVariants as said
use Rattle.helper_core.specs.Said.{effect_in}
use Rattle.helper_core.specs.State.{server_in}
use Rattle.step_rules.specs.Helper as steps
use Rattle.step_rules.specs.HelperCommands.{stage_for}
use Rattle.helper_core.specs.declared.slot.HelperSlot.{HelperSlot}
use Rattle.helper_core.specs.Slots.{row_in, rows_in, IsOf}
use Rattle.helper_core.proofs.RowLemmas.{row_there}

pub held_there : {A : Type 0} (held : steps.Stage → Option A) (h : steps.Server) (lanes : ℕ) (slots : List HelperSlot) (i lane serial : ℕ) (cur : HelperSlot) (found : Option A) → IsOf h lanes slots → i < length slots → i ≡ lane →
    cur ≡ get_or slots i cur → found ≡ held (stage_for (row_in cur) serial) → held (stage_for (steps.row_at h lane) serial) ≡ found
held_there held h lanes slots i lane serial cur found is inside at cur_is found_is =
    ap (λ (r : steps.Row). held (stage_for r serial)) (ap (steps.row_at h) (sym at) ∙ (row_there h lanes slots i cur is inside ∙ ap row_in (sym cur_is)))
    ∙ sym found_is

-- the lane's slot has changed
pub row_set : (settings : Settings) (held : Holdings) (slots : List HelperSlot) (draws : ℕ) (seed : List ℕ) (lane i : ℕ) (s : HelperSlot) (r : steps.Row) → i ≡ lane → row_in s ≡ r →
    steps.with_row (server_in settings held slots draws seed) lane r ≡ server_in settings held (set slots i s) draws seed
row_set settings held slots draws seed lane i s r at row_is =
    ap (λ rows. record (server_in settings held slots draws seed) { rows = rows })
    (ap (λ (x : steps.Row). set (rows_in slots) lane x) (sym row_is) ∙ (ap (λ k. set (rows_in slots) k (row_in s)) (sym at) ∙ sym (map-set row_in slots i s)))

pub begin_is : (settings : Settings) (held : Holdings) (slots : List HelperSlot) (draws : ℕ) (seed : List ℕ) →
    (f : PlainFrame) (leaders part : List ℕ) (root count : ℕ) (ckey drawn : List ℕ) (i : ℕ) (s : HelperSlot) (masked : List ℕ) → i ≡ f.lane →
    count ≡ length held.boxes → drawn ≡ draw32 seed draws → ckey ≡ ckey_of leaders drawn → row_in s ≡ steps.row f.serial (steps.Begun (record { root = root; part = part; count = count; ckey = ckey })) →
    begin (server_in settings held slots draws seed) f leaders part (Some root) ≡ effect_in (server_in settings held (set slots i s) (draws + 1) seed) (said.Begun count drawn) masked
unfolding begin
begin_is settings held slots draws seed f leaders part root count ckey drawn i s masked at count_is drawn_is ckey_is row_is =
    let h = server_in settings held slots draws seed in
    let len : length held.boxes ≡ count = sym count_is in
    let key : ckey_of leaders (draw32 seed draws) ≡ ckey = ap (ckey_of leaders) (sym drawn_is) ∙ sym ckey_is in
    ap (λ (w : Write). effect (record (steps.with_row h f.lane (steps.row f.serial (steps.Begun w))) { draws = draws + 1 }) (frame.LinkBegun (length held.boxes) (draw32 seed draws)))
    (ap (λ n. let w : Write = record { root = root; part = part; count = n; ckey = ckey_of leaders (draw32 seed draws) } in w) len ∙ ap (λ k. let w : Write = record { root = root; part = part; count = count; ckey = k } in w) key)
    ∙ (ap (λ (d : steps.Server). effect (record d { draws = draws + 1 }) (frame.LinkBegun (length held.boxes) (draw32 seed draws))) (row_set settings held slots draws seed f.lane i s _ at row_is)
    ∙ (ap (λ n. effect (server_in settings held (set slots i s) (draws + 1) seed) (frame.LinkBegun n (draw32 seed draws))) len
    ∙ ap (λ k. effect (server_in settings held (set slots i s) (draws + 1) seed) (frame.LinkBegun count k)) (sym drawn_is)))

-- the lane is there, or it isn't
pub lane_below : (h : steps.Server) (f : PlainFrame) → f.lane < h.settings.lanes → carries_out h f ≡ command h f f.body (stage_for (steps.row_at h f.lane) f.serial)
unfolding carries_out
lane_below h f below = rw (lt-leb h.settings.lanes f.lane below) refl

pub lane_above : (h : steps.Server) (f : PlainFrame) → h.settings.lanes ≤ f.lane → carries_out h f ≡ refuses h (refusal.Lane h.settings.lanes)
unfolding carries_out
lane_above h f above = rw (le-leb h.settings.lanes f.lane above) refl

pub steps_below : (h : steps.Server) (f : PlainFrame) → f.lane < h.settings.lanes → carry_steps h f ≡ command_steps h f.body (stage_for (steps.row_at h f.lane) f.serial)
unfolding carry_steps
steps_below h f below = rw (lt-leb h.settings.lanes f.lane below) refl

pub steps_above : (h : steps.Server) (f : PlainFrame) → h.settings.lanes ≤ f.lane → carry_steps h f ≡ 0
unfolding carry_steps
steps_above h f above = rw (le-leb h.settings.lanes f.lane above) refl

-- a body that is none of the commands
pub other_command : (h : steps.Server) (f : PlainFrame) (b : Body) (stage : steps.Stage) →
    ((address : ℕ) → b ≡ body.LinkRegister address → ⊥) → ((ckey : List ℕ) (part : _) → b ≡ body.LinkBegin ckey part → ⊥) →
    ((sigma : ℕ) (opened : Openings) → b ≡ body.LinkAudit sigma opened → ⊥) → ((closing : Closing) → b ≡ body.LinkSettle closing → ⊥) →
    ((number : ℕ) → b ≡ body.LinkRead number → ⊥) → ((number : ℕ) → b ≡ body.LinkRetire number → ⊥) →
    (command h f (plain_body b) stage ≡ no_deposit h) × (command_steps h (plain_body b) stage ≡ 0)
unfolding command command_steps
other_command h f (body.LinkRegister address) stage n1 n2 n3 n4 n5 n6 = absurd (n1 address refl)
other_command h f (body.LinkBegin ckey part) stage n1 n2 n3 n4 n5 n6 = absurd (n2 ckey part refl)
other_command h f (body.LinkAudit sigma opened) stage n1 n2 n3 n4 n5 n6 = absurd (n3 sigma opened refl)
other_command h f (body.LinkSettle closing) stage n1 n2 n3 n4 n5 n6 = absurd (n4 closing refl)
other_command h f (body.LinkRead number) stage n1 n2 n3 n4 n5 n6 = absurd (n5 number refl)
other_command h f (body.LinkRetire number) stage n1 n2 n3 n4 n5 n6 = absurd (n6 number refl)
other_command h f b stage n1 n2 n3 n4 n5 n6 = (refl, refl)
