-- A register: the row is done, and a new box stands behind the others; and what stays of the invariant.
use Rattle.std.proofs.Common.{◌≡◌, ◌<◌, ℕ, Bool, true, false, cond, nat_le, List, [], ◌∷◌, ◌++◌, length, get_or, set, Option, Some, None, Ok, Err, inl, inr, sym, ap, subst, ◌∙◌, arith}
use Rattle.std.specs.Prelude.{All, Result, OnOk, OnErr}
use Rattle.std.proofs.lemmas.List.{length-set}
use Rattle.std.proofs.lemmas.Bool.{leb-false, cases_Bool}
use Rattle.std.proofs.lemmas.List.{map-set, map-append, length-append, take-append-le}
use Rattle.std.proofs.lemmas.List.Elements.{All-set}
use Rattle.express_words.specs.declared.settings.Settings.{Settings}
use Rattle.express_words.specs.declared.refusal.Refusal.TheVariants as refusal
use Rattle.lane_table.specs.declared.row.Want.{Want}
use Rattle.lane_table.specs.declared.row.Want.TheVariants.{Register}
use Rattle.frame_rules.specs.Frames as frame
use Rattle.frame_rules.specs.Frames.{PlainFrame}
use Rattle.box_registry.specs.declared.fault.RegFault.{RegFault}
use Rattle.box_registry.specs.declared.fault.RegFault.TheVariants.{Taken, Full}
use Rattle.box_registry.specs.Boxes.{answer_at}
use Rattle.server_boxes.specs.declared.room.Room.{Room}
use Rattle.server_boxes.specs.Held.{Holdings, HasSameAddresses, with_boxes}
use Rattle.step_rules.specs.Boxes.{Box, addresses_of, place_of, new_box, with_new}
use Rattle.step_rules.specs.Helper as steps
use Rattle.step_rules.specs.HelperCommands.{register, register_at, replies_with, refuses, done}
use Rattle.helper_core.specs.declared.said.SaidToLeader.TheVariants as said
use Rattle.helper_core.specs.Said.{added_in, effect_in}
use Rattle.helper_core.specs.declared.slot.HelperSlot.{HelperSlot}
use Rattle.helper_core.specs.declared.slot.HelperStage.{HelperStage}
use Rattle.helper_core.specs.declared.slot.HelperStage.TheVariants as stage
use Rattle.helper_core.specs.Slots.{row_in, rows_in, IsHelperSlot, IsStage}
use Rattle.helper_core.specs.State.{server_in, IsServer}

-- ---- what registering answers

new_of : (h : steps.Server) (f : PlainFrame) (address : ℕ) (key : List ℕ) (n : ℕ) (full : Bool) → cond full (Err (Full h.settings.boxes)) (Ok (length h.boxes)) ≡ Ok n →
    cond full (refuses (done h f Register) (refusal.Full h.settings.boxes)) (replies_with (record (done h f Register) { boxes = with_new h.settings.width address key h.boxes }) (frame.ReplyRegistered (length h.boxes)))
    ≡ replies_with (record (done h f Register) { boxes = with_new h.settings.width address key h.boxes }) (frame.ReplyRegistered n)
new_of h f address key n true e = absurd (cc e)
new_of h f address key n false e =
    let same : length h.boxes ≡ n = cc in
    ap (λ k. replies_with (record (done h f Register) { boxes = with_new h.settings.width address key h.boxes }) (frame.ReplyRegistered k)) same

pub registers : (h : steps.Server) (f : PlainFrame) (address : ℕ) (key : List ℕ) (n : ℕ) (p : Option ℕ) → answer_at h.settings.boxes (length h.boxes) p ≡ Ok n →
    register_at h f address key p ≡ replies_with (record (done h f Register) { boxes = with_new h.settings.width address key h.boxes }) (frame.ReplyRegistered n)
unfolding register_at
registers h f address key n (Some b) e = absurd (cc e)
registers h f address key n None e = new_of h f address key n (nat_le h.settings.boxes (length h.boxes)) e

pub is_taken : (h : steps.Server) (f : PlainFrame) (address : ℕ) (key : List ℕ) (n : ℕ) (p : Option ℕ) → answer_at h.settings.boxes (length h.boxes) p ≡ Err (Taken n) →
    register_at h f address key p ≡ refuses (done h f Register) (refusal.Taken n)
unfolding register_at
is_taken h f address key n (Some b) e = let same : b ≡ n = cc in ap (λ k. refuses (done h f Register) (refusal.Taken k)) same
is_taken h f address key n None e = not_taken (nat_le h.settings.boxes (length h.boxes)) e
  where
    not_taken : (full : Bool) → cond full (Err (Full h.settings.boxes)) (Ok (length h.boxes)) ≡ Err (Taken n) →
        cond full (refuses (done h f Register) (refusal.Full h.settings.boxes)) (replies_with (record (done h f Register) { boxes = with_new h.settings.width address key h.boxes }) (frame.ReplyRegistered (length h.boxes)))
        ≡ refuses (done h f Register) (refusal.Taken n)
    not_taken true e = absurd (cc e)
    not_taken false e = absurd (cc e)

pub is_full : (h : steps.Server) (f : PlainFrame) (address : ℕ) (key : List ℕ) (limit : ℕ) (p : Option ℕ) → answer_at h.settings.boxes (length h.boxes) p ≡ Err (Full limit) →
    register_at h f address key p ≡ refuses (done h f Register) (refusal.Full limit)
unfolding register_at
is_full h f address key limit (Some b) e = absurd (cc e)
is_full h f address key limit None e = when (nat_le h.settings.boxes (length h.boxes)) e
  where
    when : (full : Bool) → cond full (Err (Full h.settings.boxes)) (Ok (length h.boxes)) ≡ Err (Full limit) →
        cond full (refuses (done h f Register) (refusal.Full h.settings.boxes)) (replies_with (record (done h f Register) { boxes = with_new h.settings.width address key h.boxes }) (frame.ReplyRegistered (length h.boxes)))
        ≡ refuses (done h f Register) (refusal.Full limit)
    when true e = let same : h.settings.boxes ≡ limit = cc in ap (λ k. refuses (done h f Register) (refusal.Full k)) same
    when false e = absurd (cc e)

-- ---- the stores

module _ (settings : Settings) (held : Holdings) (slots : List HelperSlot) (draws : ℕ) (seed : List ℕ) (is : IsServer settings held slots) where
  -- the lane's slot is done
  pub done_is : (f : PlainFrame) (i : ℕ) (s : HelperSlot) (want : Want) → i ≡ f.lane → row_in s ≡ steps.row f.serial (steps.Done want) →
      done (server_in settings held slots draws seed) f want ≡ server_in settings held (set slots i s) draws seed
  done_is f i s want at row_is =
      ap (λ rows. record (server_in settings held slots draws seed) { rows = rows })
      (ap (λ r. set (rows_in slots) f.lane r) (sym row_is) ∙ (ap (λ k. set (rows_in slots) k (row_in s)) (sym at) ∙ sym (map-set row_in slots i s)))

  -- there is room where a box is added
  room_of : (limit count n : ℕ) (p : Option ℕ) → answer_at limit count p ≡ Ok n → count < limit
  room_of limit count n (Some b) e = absurd (cc e)
  room_of limit count n None e = elim (cases_Bool (nat_le limit count)) [
    | inl t ↦ absurd (full (rw t at e))
    | inr t ↦ leb-false limit count t
  ]
    where
      full : (let r : Result ℕ RegFault = Err (Full limit) in r) ≡ Ok n → ⊥
      full e = cc e

  pub register_is : (f : PlainFrame) (address : ℕ) (key : List ℕ) (i : ℕ) (s : HelperSlot) (added : Result ℕ RegFault) (after : Holdings) (masked : List ℕ) → i ≡ f.lane → row_in s ≡ steps.row f.serial (steps.Done Register) →
      added ≡ answer_at held.limit (length held.boxes) (place_of address held.boxes) →
      OnOk added (after ≡ with_boxes held (with_new held.width address key held.boxes)) → OnErr added (after ≡ held) →
      register (server_in settings held slots draws seed) f address (Some key) ≡ effect_in (server_in settings after (set slots i s) draws seed) (added_in added) masked
  unfolding register
  register_is f address key i s (Ok n) after masked at row_is answer ok err =
      let h = server_in settings held slots draws seed in
      registers h f address key n (place_of address held.boxes) (ap (λ l. answer_at l (length held.boxes) (place_of address held.boxes)) (sym is.limit) ∙ sym answer)
      ∙ (ap (λ w. replies_with (record (done h f Register) { boxes = with_new w address key held.boxes }) (frame.ReplyRegistered n)) (sym is.width)
      ∙ (ap (λ (d : steps.Server). replies_with (record d { boxes = with_new held.width address key held.boxes }) (frame.ReplyRegistered n)) (done_is f i s Register at row_is)
      ∙ ap (λ (x : Holdings). effect_in (server_in settings x (set slots i s) draws seed) (said.Registered n) masked) (sym ok)))
  register_is f address key i s (Err (Taken n)) after masked at row_is answer ok err =
      let h = server_in settings held slots draws seed in
      is_taken h f address key n (place_of address held.boxes) (ap (λ l. answer_at l (length held.boxes) (place_of address held.boxes)) (sym is.limit) ∙ sym answer)
      ∙ (ap (λ (d : steps.Server). refuses d (refusal.Taken n)) (done_is f i s Register at row_is)
      ∙ ap (λ (x : Holdings). effect_in (server_in settings x (set slots i s) draws seed) (said.Refused (refusal.Taken n)) masked) (sym err))
  register_is f address key i s (Err (Full n)) after masked at row_is answer ok err =
      let h = server_in settings held slots draws seed in
      is_full h f address key n (place_of address held.boxes) (ap (λ l. answer_at l (length held.boxes) (place_of address held.boxes)) (sym is.limit) ∙ sym answer)
      ∙ (ap (λ (d : steps.Server). refuses d (refusal.Full n)) (done_is f i s Register at row_is)
      ∙ ap (λ (x : Holdings). effect_in (server_in settings x (set slots i s) draws seed) (said.Refused (refusal.Full n)) masked) (sym err))

  -- ---- the invariant

  pub slot_set : (i : ℕ) (s : HelperSlot) → IsHelperSlot settings.width settings.boxes (addresses_of held.boxes) s → IsServer settings held (set slots i s)
  slot_set i s here = record {
    limit = is.limit;
    within = is.within;
    width = is.width;
    lanes = length-set slots i s ∙ is.lanes;
    rows = All-set (IsHelperSlot settings.width settings.boxes (addresses_of held.boxes)) slots i s here is.rows;
  }

-- boxes with the same addresses hold the invariant
pub same_server : (settings : Settings) (old new : Holdings) (xs : List HelperSlot) → HasSameAddresses old new → IsServer settings old xs → IsServer settings new xs
same_server settings old new xs same now = record {
  limit = same.limit ∙ now.limit;
  within = let w = now.within in let c = same.count in omega arith;
  width = same.width ∙ now.width;
  lanes = now.lanes;
  rows = subst (λ (addresses : List ℕ). All (IsHelperSlot settings.width settings.boxes addresses) xs) (sym same.addresses) now.rows;
}

more_stage : (addresses : List ℕ) (x : ℕ) (room : Room) (st : HelperStage) → IsStage addresses room st → IsStage (addresses ++ x ∷ []) room st
more_stage addresses x room (stage.Begun b) h = rw (length-append addresses (x ∷ [])) (omega arith)
more_stage addresses x room (stage.Proved b share) h = rw (length-append addresses (x ∷ [])) (omega arith)
more_stage addresses x room (stage.Audited b closing) h = record {
  count = rw (length-append addresses (x ∷ [])) (let low = h.count in omega arith);
  leaves = rw (take-append-le b.count addresses (x ∷ []) h.count) h.leaves;
}
more_stage addresses x room stage.Idle h = tt
more_stage addresses x room (stage.Deposited held) h = tt
more_stage addresses x room (stage.Done want) h = tt

-- one box more holds the invariant
more_boxes : (settings : Settings) (held : Holdings) (xs : List HelperSlot) (address : ℕ) (key : List ℕ) → length held.boxes < settings.boxes →
    IsServer settings held xs → IsServer settings (with_boxes held (with_new held.width address key held.boxes)) xs
more_boxes settings held xs address key room now =
    let b = new_box held.width address key in
    record {
      limit = now.limit;
      within = rw (length-append held.boxes (b ∷ [])) (omega arith);
      width = now.width;
      lanes = now.lanes;
      rows = λ k d inside.
          let here = now.rows k d inside in
          record {
            room = here.room;
            stage = rw (map-append (λ (x : Box). x.address) held.boxes (b ∷ [])) (more_stage (addresses_of held.boxes) address _ (get_or xs k d).stage here.stage);
          };
    }

pub register_keeps : (settings : Settings) (held : Holdings) (xs : List HelperSlot) (address : ℕ) (key : List ℕ) (added : Result ℕ RegFault) (after : Holdings) → IsServer settings held xs →
    added ≡ answer_at held.limit (length held.boxes) (place_of address held.boxes) →
    OnOk added (after ≡ with_boxes held (with_new held.width address key held.boxes)) → OnErr added (after ≡ held) → IsServer settings after xs
register_keeps settings held xs address key (Ok n) after now answer ok err =
    let room : length held.boxes < settings.boxes = omega (arith, room_of settings held xs 0 [] now held.limit (length held.boxes) n (place_of address held.boxes) (sym answer), now.limit) in
    subst (λ (x : Holdings). IsServer settings x xs) (sym ok) (more_boxes settings held xs address key room now)
register_keeps settings held xs address key (Err r) after now answer ok err = subst (λ (x : Holdings). IsServer settings x xs) (sym err) now
