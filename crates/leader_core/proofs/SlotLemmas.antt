-- One slot changes, and what holds of the stores stays.
use Rattle.std.proofs.Common.{◌≡◌, ◌<◌, ℕ, zero, suc, List, [], ◌∷◌, ◌++◌, append-nil, length, take, drop, get_or, set, refl, ap, ◌∙◌, arith}
use Rattle.std.proofs.lemmas.List.{length-set, map-set, take_all}
use Rattle.std.proofs.Math.ListN.{drop_of_length-le}
use Rattle.std.proofs.lemmas.List.Elements.{All-set}
use Rattle.express_words.specs.declared.settings.Settings.{Settings}
use Rattle.server_boxes.specs.Held.{Holdings}
use Rattle.step_rules.specs.Boxes.{addresses_of}
use Rattle.step_rules.specs.Leader.{Row}
use Rattle.leader_core.specs.declared.slot.LeaderSlot.{LeaderSlot}
use Rattle.leader_core.specs.Slots.{row_in, rows_in, IsLeaderSlot}
use Rattle.leader_core.specs.State.{FitsSettings}

-- the rows after one slot has changed
pub rows_set : (slots : List LeaderSlot) (i lane : ℕ) (s : LeaderSlot) (r : Row) → i ≡ lane → row_in s ≡ r → rows_in (set slots i s) ≡ set (rows_in slots) lane r
rows_set slots i lane s r at row_is =
    map-set row_in slots i s ∙ (ap (λ k. set (rows_in slots) k (row_in s)) at ∙ ap (λ (x : Row). set (rows_in slots) lane x) row_is)

pub slot_set : (settings : Settings) (held : Holdings) (slots : List LeaderSlot) (i : ℕ) (s : LeaderSlot) → FitsSettings settings held slots →
    IsLeaderSlot settings.width settings.boxes (addresses_of held.boxes) s → FitsSettings settings held (set slots i s)
slot_set settings held slots i s is here = record {
  limit = is.limit;
  within = is.within;
  width = is.width;
  lanes = length-set slots i s ∙ is.lanes;
  rows = All-set (IsLeaderSlot settings.width settings.boxes (addresses_of held.boxes)) slots i s here is.rows;
}

-- a slot that is there, whatever stands for one that isn't
pub get_any : {X : Type 0} (xs : List X) (i : ℕ) (a b : X) → i < length xs → get_or xs i a ≡ get_or xs i b
get_any [] i a b h = absurd (omega arith)
get_any (x ∷ xs) zero a b h = refl
get_any (x ∷ xs) (suc i) a b h = get_any xs i a b (omega arith)

-- the serial alone has changed
pub with_serial : (width limit : ℕ) (addresses : List ℕ) (s : LeaderSlot) (serial : ℕ) → IsLeaderSlot width limit addresses s → IsLeaderSlot width limit addresses (record s { serial = serial })
with_serial width limit addresses s serial is = record {
  rooms = record { room = is.rooms.room; own = is.rooms.own; other = is.rooms.other };
  stage = is.stage;
}

-- all of a vector's items are written over
pub written_whole : {X : Type 0} (n : ℕ) (new old : List X) → length new ≡ length old → n ≡ length old → take n (new ++ drop (length new) old) ≡ new
written_whole n new old same all =
    ap (λ xs. take n (new ++ xs)) (drop_of_length-le old (omega arith))
    ∙ (ap (take n) (append-nil new) ∙ take_all n new (omega arith))
