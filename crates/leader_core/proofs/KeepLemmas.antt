-- A reply is kept for a lane: what that leaves of the leader, and what goes on to hold.
use Rattle.std.proofs.Common.{◌≡◌, ◌<◌, ◌≤◌, ℕ, zero, suc, true, List, [], ◌∷◌, ◌++◌, length, get_or, set, Option, Some, None, Ok, Err, inl, inr, refl, sym, ap, subst, ◌∙◌, arith}
use Rattle.std.specs.Prelude.{All, Result, nat_le, slice_get}
use Rattle.std.specs.Vec.{with_item}
use Rattle.std.proofs.lemmas.Bool.{leb-false, cases_Bool}
use Rattle.std.proofs.lemmas.List.{get_or-set_same, length-append, length-map, map-append, take-append-le}
use Rattle.box_registry.specs.declared.fault.RegFault.{RegFault}
use Rattle.box_registry.specs.declared.fault.RegFault.TheVariants.{Full}
use Rattle.box_registry.specs.Boxes.{answer_at}
use Rattle.express_words.specs.declared.settings.Settings.{Settings}
use Rattle.express_words.specs.declared.audit.Closing.{Closing}
use Rattle.frame_rules.specs.Frames.{PlainFrame, PlainBody}
use Rattle.frame_rules.specs.Whole.{answer}
use Rattle.server_boxes.specs.declared.room.Begun.{Begun}
use Rattle.server_boxes.specs.declared.room.Room.{Room}
use Rattle.server_boxes.specs.Held.{AreLeaves, Holdings, HasLeaves, HasSameAddresses, with_boxes}
use Rattle.step_rules.specs.Boxes.{Box, addresses_of, place_of, new_box, with_new}
use Rattle.step_rules.specs.Leader as steps
use Rattle.step_rules.specs.LeaderReplies.{acknowledged, keeps}
use Rattle.leader_core.specs.declared.stores.LeaderStores.{LeaderStores}
use Rattle.leader_core.specs.declared.slot.LeaderSlot.{LeaderSlot}
use Rattle.leader_core.specs.declared.slot.LeaderStage.{LeaderStage}
use Rattle.leader_core.specs.declared.slot.LeaderStage.TheVariants as stage
use Rattle.leader_core.specs.Replies.{applied, settling_at, told}
use Rattle.leader_core.specs.Slots.{kept_of, row_in, rows_in, IsLeaderSlot, IsStage}
use Rattle.leader_core.specs.State.{leader_in, AreStores, FitsSettings}
use Rattle.leader_core.proofs.SlotLemmas.{get_any, rows_set, slot_set}

pub state_is : (c : LeaderStores) (after : Holdings) (bs : List Box) (i lane : ℕ) (s : LeaderSlot) (r : steps.Row) → after.boxes ≡ bs → i ≡ lane → row_in s ≡ r →
    leader_in (record c { boxes = after; slots = with_item c.slots i s }) ≡ steps.with_row (record (leader_in c) { boxes = bs }) lane r
state_is c after bs i lane s r boxes_are at row_is =
    ap (λ (xs : List Box). record (leader_in c) { boxes = xs; rows = rows_in (set c.slots.items i s) }) boxes_are
    ∙ ap (λ (rows : List steps.Row). record (leader_in c) { boxes = bs; rows = rows }) (rows_set c.slots.items i lane s r at row_is)

pub keeps_is : (c : LeaderStores) (after : Holdings) (bs : List Box) (i : ℕ) (s : LeaderSlot) (f : PlainFrame) (stage : steps.Stage) (body : PlainBody) → after.boxes ≡ bs → i ≡ f.lane → i < length c.slots.items →
    row_in s ≡ steps.row f.serial stage → kept_of stage ≡ body →
    Some (keeps (record (leader_in c) { boxes = bs }) f stage body) ≡ applied (leader_in (record c { boxes = after; slots = with_item c.slots i s })) f true
keeps_is c after bs i s f stage body boxes_are at inside row_is kept =
    let r = steps.row f.serial stage in
    let a = record (leader_in c) { boxes = bs } in
    let state = state_is c after bs i f.lane s r boxes_are at row_is in
    let there : f.lane < length (rows_in c.slots.items) = omega (arith, length-map c.slots.items row_in) in
    let same : kept_of (steps.row_at (steps.with_row a f.lane r) f.lane).stage ≡ body =
    ap (λ (x : steps.Row). kept_of x.stage) (get_or-set_same (rows_in c.slots.items) f.lane r steps.idle there) ∙ kept in
    ap (λ (b : PlainBody). let t : Option steps.AckTurn = Some (record { leader = steps.with_row (acknowledged a) f.lane r; ack = steps.ToLane f.lane (answer f b) }) in t) (sym same)
    ∙ ap (λ (x : steps.Leader). let t : Option steps.AckTurn = Some (told x f) in t) (sym state)

-- ---- what goes on to hold

pub core_set : (c : LeaderStores) (after : Holdings) (i : ℕ) (s : LeaderSlot) → AreStores c → FitsSettings c.settings after c.slots.items → IsLeaderSlot c.settings.width c.settings.boxes (addresses_of after.boxes) s →
    AreStores (record c { boxes = after; slots = with_item c.slots i s })
core_set c after i s is server here = record { server = slot_set c.settings after c.slots.items i s server here; link = is.link }

-- boxes with the same addresses
pub same_server : (settings : Settings) (old new : Holdings) (xs : List LeaderSlot) → HasSameAddresses old new → FitsSettings settings old xs → FitsSettings settings new xs
same_server settings old new xs same now = record {
  limit = same.limit ∙ now.limit;
  within = let w = now.within in let c = same.count in omega arith;
  width = same.width ∙ now.width;
  lanes = now.lanes;
  rows = subst (λ (addresses : List ℕ). All (IsLeaderSlot settings.width settings.boxes addresses) xs) (sym same.addresses) now.rows;
}

more_leaves : (addresses : List ℕ) (x : ℕ) (b : Begun) (room : Room) → HasLeaves 0 b room addresses → HasLeaves 0 b room (addresses ++ x ∷ [])
more_leaves addresses x b room h = record {
  count = rw (length-append addresses (x ∷ [])) (let low = h.count in omega arith);
  leaves = rw (take-append-le b.count addresses (x ∷ []) h.count) h.leaves;
}

more_stage : (addresses : List ℕ) (x : ℕ) (room : Room) (own other : List ℕ) (st : LeaderStage) → IsStage addresses room own other st → IsStage (addresses ++ x ∷ []) room own other st
more_stage addresses x room own other (stage.Challenged b) h = rw (length-append addresses (x ∷ [])) (omega arith)
more_stage addresses x room own other (stage.Auditing n b proof opened) h = more_leaves addresses x b room h
more_stage addresses x room own other (stage.Settling n b ours theirs) h = more_leaves addresses x b room h
more_stage addresses x room own other (stage.Done want reply) h = h
more_stage addresses x room own other stage.Idle h = tt
more_stage addresses x room own other (stage.Waiting n asked) h = tt

-- one box more
more_boxes : (settings : Settings) (held : Holdings) (xs : List LeaderSlot) (address : ℕ) (key : List ℕ) → length held.boxes < settings.boxes →
    FitsSettings settings held xs → FitsSettings settings (with_boxes held (with_new held.width address key held.boxes)) xs
more_boxes settings held xs address key room now =
    let b = new_box held.width address key in
    record {
      limit = now.limit;
      within = rw (length-append held.boxes (b ∷ [])) (omega arith);
      width = now.width;
      lanes = now.lanes;
      rows = λ k d inside.
          let here = now.rows k d inside in
          record {
            rooms = here.rooms;
            stage = rw (map-append (λ (x : Box). x.address) held.boxes (b ∷ [])) (more_stage (addresses_of held.boxes) address _ _ _ (get_or xs k d).stage here.stage);
          };
    }

room_of : (limit count n : ℕ) (p : Option ℕ) → answer_at limit count p ≡ Ok n → count < limit
room_of limit count n (Some b) e = absurd (cc e)
room_of limit count n None e = elim (cases_Bool (nat_le limit count)) [
  | inl t ↦ absurd (full (rw t at e))
  | inr t ↦ leb-false limit count t
]
  where
    full : (let r : Result ℕ RegFault = Err (Full limit) in r) ≡ Ok n → ⊥
    full e = cc e

pub registered_server : (settings : Settings) (held after : Holdings) (xs : List LeaderSlot) (address : ℕ) (key : List ℕ) (n : ℕ) → FitsSettings settings held xs →
    answer_at held.limit (length held.boxes) (place_of address held.boxes) ≡ Ok n → after ≡ with_boxes held (with_new held.width address key held.boxes) → FitsSettings settings after xs
registered_server settings held after xs address key n now answer ok =
    let room : length held.boxes < settings.boxes = omega (arith, room_of held.limit (length held.boxes) n (place_of address held.boxes) answer, now.limit) in
    subst (λ (x : Holdings). FitsSettings settings x xs) (sym ok) (more_boxes settings held xs address key room now)

-- ---- the slot of a lane

pub slot_here : (c : LeaderStores) (i : ℕ) (cur : LeaderSlot) → AreStores c → i < length c.slots.items → cur ≡ get_or c.slots.items i cur → IsLeaderSlot c.settings.width c.settings.boxes (addresses_of c.boxes.boxes) cur
slot_here c i cur is inside value = subst (IsLeaderSlot c.settings.width c.settings.boxes (addresses_of c.boxes.boxes)) (sym value) (is.server.rows i cur inside)

-- it is read twice
pub same_slot : (slots : List LeaderSlot) (i j : ℕ) (a b : LeaderSlot) → i ≡ j → i < length slots → a ≡ get_or slots i a → b ≡ get_or slots j b → a ≡ b
same_slot slots i j a b at inside a_is b_is = a_is ∙ (get_any slots i a b inside ∙ (ap (λ k. get_or slots k b) at ∙ sym b_is))

pub settling_leaves : (addresses : List ℕ) (room : Room) (own other : List ℕ) (b : Begun) (ours theirs : Closing) (st : LeaderStage) → settling_at st ≡ Some (b, ours, theirs) → IsStage addresses room own other st →
    AreLeaves 0 b room addresses
settling_leaves addresses room own other b ours theirs (stage.Settling n w x y) e h =
    let all : (let p : Begun × Closing × Closing = (w, x, y) in p) ≡ (b, ours, theirs) = cc in
    subst (λ (z : Begun). AreLeaves 0 z room addresses) (ap (λ (p : Begun × Closing × Closing). p.0) all) h.leaves
settling_leaves addresses room own other b ours theirs st e h = absurd (cc e)

pub box_there : (xs : List Box) (n : ℕ) → n < length xs → (b : Box) × (slice_get xs n ≡ Some b)
box_there [] n h = absurd (omega arith)
box_there (x ∷ xs) zero h = (x, refl)
box_there (x ∷ xs) (suc n) h = box_there xs n (omega arith)

pub no_box : (xs : List Box) (n : ℕ) → length xs ≤ n → slice_get xs n ≡ None
no_box [] n h = refl
no_box (x ∷ xs) zero h = absurd (omega arith)
no_box (x ∷ xs) (suc n) h = no_box xs n (omega arith)
