-- What a change of one slot or of one block does to the lanes.
use Rattle.std.proofs.Common.{◌≡◌, ℕ, ◌<◌, ◌≤◌, List, [], ◌∷◌, length, take, drop, get_or, set, replicate, zero, suc, refl, sym, ap, ◌∙◌, arith}
use Rattle.std.proofs.lemmas.List.{length-take-le, set-get_or}
use Rattle.std.proofs.Math.Seq.{take-append_seam}
use Rattle.block_region.specs.Region.{Blocks, block_at, written_over, zeros}
use Rattle.lane_table.specs.declared.row.Row.{Row}
use Rattle.lane_table.specs.declared.slot.Slot.{Slot}
use Rattle.lane_table.specs.Table.{Lane, idle, lane_at, with_row, with_reply}
use Rattle.lane_table.specs.Slots.{lane_in, lanes_in, AreKept}

pub length-lanes_in : (slots : List Slot) (blocks : List (List ℕ)) → length blocks ≡ length slots → length (lanes_in slots blocks) ≡ length slots
length-lanes_in [] blocks e = refl
length-lanes_in (slot ∷ slots) [] e = absurd (omega arith)
length-lanes_in (slot ∷ slots) (block ∷ blocks) e = ap suc (length-lanes_in slots blocks (omega arith))

lane_at-lanes_in : (slots : List Slot) (blocks : List (List ℕ)) (i : ℕ) (slot : Slot) → length blocks ≡ length slots → i < length slots →
    lane_at (lanes_in slots blocks) i ≡ lane_in (get_or slots i slot) (get_or blocks i [])
lane_at-lanes_in [] blocks i d e h = absurd (omega arith)
lane_at-lanes_in (slot ∷ slots) [] i d e h = absurd (omega arith)
lane_at-lanes_in (slot ∷ slots) (block ∷ blocks) zero d e h = refl
lane_at-lanes_in (slot ∷ slots) (block ∷ blocks) (suc i) d e h = lane_at-lanes_in slots blocks i d (omega arith) (omega arith)

-- the lane of a slot, whichever way that was read
pub lane-of : (slots : List Slot) (blocks : List (List ℕ)) (i : ℕ) (slot : Slot) → length blocks ≡ length slots → i < length slots → slot ≡ get_or slots i slot →
    lane_at (lanes_in slots blocks) i ≡ lane_in slot (get_or blocks i [])
lane-of slots blocks i slot same h e = lane_at-lanes_in slots blocks i slot same h ∙ ap (λ s. lane_in s (get_or blocks i [])) (sym e)

lanes_in-set : (slots : List Slot) (blocks : List (List ℕ)) (i : ℕ) (slot : Slot) (block : List ℕ) → length blocks ≡ length slots →
    lanes_in (set slots i slot) (set blocks i block) ≡ set (lanes_in slots blocks) i (lane_in slot block)
lanes_in-set [] blocks i s b e = refl
lanes_in-set (slot ∷ slots) [] i s b e = absurd (omega arith)
lanes_in-set (slot ∷ slots) (block ∷ blocks) zero s b e = refl
lanes_in-set (slot ∷ slots) (block ∷ blocks) (suc i) s b e = ap (λ rest. lane_in slot block ∷ rest) (lanes_in-set slots blocks i s b (omega arith))

pub lanes_in-idle : (n size : ℕ) → lanes_in (replicate n (record { row = idle.row; length = 0 })) (replicate n (zeros size)) ≡ replicate n idle
lanes_in-idle zero size = refl
lanes_in-idle (suc n) size = ap (λ lanes. idle ∷ lanes) (lanes_in-idle n size)

-- the slot with another row, or with a reply of another length
abbrev pub rowed : Slot → Row → Slot
rowed slot row = record { row = row; length = slot.length }

abbrev pub lengthened : Slot → ℕ → Slot
lengthened slot length = record { row = slot.row; length = length }

module _ (slots : List Slot) (replies : Blocks) (kept : AreKept slots replies) (i : ℕ) (slot : Slot) (within : i < length slots) (at : slot ≡ get_or slots i slot) where
  pub lanes_in-rowed : (row : Row) → lanes_in (set slots i (rowed slot row)) replies.blocks ≡ with_row (lanes_in slots replies.blocks) i row
  lanes_in-rowed row =
      ap (λ blocks. lanes_in (set slots i (rowed slot row)) blocks) (sym (set-get_or replies.blocks i [])) ∙
      (lanes_in-set slots replies.blocks i (rowed slot row) (block_at replies i) kept.same ∙
      ap (λ (lane : Lane). set (lanes_in slots replies.blocks) i (record { row = row; reply = lane.reply })) (sym (lane-of slots replies.blocks i slot kept.same within at)))

  pub lanes_in-kept : (bytes : List ℕ) →
      lanes_in (set slots i (lengthened slot (length bytes))) (set replies.blocks i (written_over (block_at replies i) bytes)) ≡ with_reply (lanes_in slots replies.blocks) i bytes
  lanes_in-kept bytes =
      lanes_in-set slots replies.blocks i (lengthened slot (length bytes)) (written_over (block_at replies i) bytes) kept.same ∙
      (ap (λ reply. set (lanes_in slots replies.blocks) i (record { row = slot.row; reply = reply })) (take-append_seam bytes (drop (length bytes) (block_at replies i))) ∙
      ap (λ (lane : Lane). set (lanes_in slots replies.blocks) i (record { row = lane.row; reply = bytes })) (sym (lane-of slots replies.blocks i slot kept.same within at)))

  pub short-at : slot.length ≤ replies.size
  short-at = omega (arith, ap (λ (s : Slot). s.length) at, kept.short i slot within)

  -- the reply in the slot's block
  pub reply-length : (block : List ℕ) → length block ≡ replies.size → length (take slot.length block) ≡ slot.length
  reply-length block size = length-take-le slot.length block (omega (arith, short-at))
