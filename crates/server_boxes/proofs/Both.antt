-- The boxes that the registry and the shares hold together.
use Rattle.std.proofs.Common.{inl, inr, ◌≡◌, ◌<◌, ◌≤◌, ◌+◌, ◌-◌, ℕ, zero, suc, List, [], ◌∷◌, ◌++◌, length, map, take, drop, get_or, set, replicate, refl, sym, ap, subst, ◌∙◌, arith}
use Rattle.std.specs.Prelude.{◌&&◌, slice_get, Option, Some, None, option_map, Bool, nat_le, position, ◌==◌, Result, Ok, Err, OnOk, OnErr}
use Rattle.std.proofs.lemmas.Bool.{cases_lt, cases_Bool, leb-false}
use Rattle.box_registry.specs.declared.fault.RegFault.{RegFault}
use Rattle.box_registry.specs.declared.fault.RegFault.TheVariants.{Full}
use Rattle.step_rules.specs.Boxes.{place_of, with_read}
use Rattle.std.proofs.lemmas.List.{get_or-drop, get_or-replicate, drop-drop, drop-replicate, drop-set-lt, length-append, length-set}
use Rattle.dpf_rules.specs.Walk.{leaf_bytes, leaf_of, write_bytes}
use Rattle.share_store.specs.Shares.{Share, Shares, shares_with, empty_share, share_at, shares_of, with_cleared}
use Rattle.box_registry.specs.Boxes.{Boxes, with_box, answer_at, answer_to}
use Rattle.box_registry.specs.Boxes as registry
use Rattle.step_rules.specs.Boxes.{Box, addresses_of, added, with_write, with_new}
use Rattle.server_boxes.specs.Held.{Holdings, HasSameAddresses, share_of, with_boxes, with_leaves}
use Rattle.server_boxes.specs.Held as held
use Rattle.server_boxes.specs.Pairs.{boxes_in, box_in, held_in, ArePairs}

pub length-boxes_in : (bs : List registry.Box) (ss : List Share) → length bs ≤ length ss → length (boxes_in bs ss) ≡ length bs
length-boxes_in [] ss h = refl
length-boxes_in (b ∷ bs) [] h = absurd (omega arith)
length-boxes_in (b ∷ bs) (s ∷ ss) h = ap suc (length-boxes_in bs ss (omega arith))

pub addresses-boxes_in : (bs : List registry.Box) (ss : List Share) → length bs ≤ length ss → addresses_of (boxes_in bs ss) ≡ registry.addresses_of bs
addresses-boxes_in [] ss h = refl
addresses-boxes_in (b ∷ bs) [] h = absurd (omega arith)
addresses-boxes_in (b ∷ bs) (s ∷ ss) h = ap (λ rest. b.address ∷ rest) (addresses-boxes_in bs ss (omega arith))

-- one box more
pub append-boxes_in : (bs : List registry.Box) (ss : List Share) (b : registry.Box) (d : Share) → length bs < length ss →
    boxes_in (bs ++ b ∷ []) ss ≡ boxes_in bs ss ++ box_in b (get_or ss (length bs) d) ∷ []
append-boxes_in [] [] b d h = absurd (omega arith)
append-boxes_in [] (s ∷ ss) b d h = refl
append-boxes_in (x ∷ bs) [] b d h = absurd (omega arith)
append-boxes_in (x ∷ bs) (s ∷ ss) b d h = ap (λ rest. box_in x s ∷ rest) (append-boxes_in bs ss b d (omega arith))

-- a share changes
pub set-boxes_in : (bs : List registry.Box) (ss : List Share) (i : ℕ) (s : Share) (d : registry.Box) → i < length bs → length bs ≤ length ss →
    boxes_in bs (set ss i s) ≡ set (boxes_in bs ss) i (box_in (get_or bs i d) s)
set-boxes_in [] ss i s d h l = absurd (omega arith)
set-boxes_in (b ∷ bs) [] i s d h l = absurd (omega arith)
set-boxes_in (b ∷ bs) (x ∷ ss) zero s d h l = refl
set-boxes_in (b ∷ bs) (x ∷ ss) (suc i) s d h l = ap (λ rest. box_in b x ∷ rest) (set-boxes_in bs ss i s d (omega arith) (omega arith))

-- a write is added box by box
pub write-boxes_in : (part : List ℕ) (server root count : ℕ) (bs : List registry.Box) (ss : List Share) → length bs ≤ length ss →
    boxes_in bs (shares_with part (map (leaf_of part server root) (take count (registry.addresses_of bs))) ss) ≡ with_write part server root count (boxes_in bs ss)
unfolding with_write
write-boxes_in part server root count [] ss h = nothing count
  where
    nothing : (n : ℕ) → boxes_in [] (shares_with part (map (leaf_of part server root) (take n (registry.addresses_of []))) ss) ≡ map (added (write_bytes part server root)) (take n []) ++ drop n []
    nothing zero = refl
    nothing (suc n) = refl
write-boxes_in part server root count (b ∷ bs) [] h = absurd (omega arith)
write-boxes_in part server root zero (b ∷ bs) (s ∷ ss) h = refl
write-boxes_in part server root (suc count) (b ∷ bs) (s ∷ ss) h =
    ap (λ rest. added (write_bytes part server root) (box_in b s) ∷ rest) (write-boxes_in part server root count bs ss (omega arith))

-- so are any leaves
pub leaves-boxes_in : (part leaves : List ℕ) (bs : List registry.Box) (ss : List Share) → length bs ≤ length ss →
    boxes_in bs (shares_with part leaves ss) ≡ with_leaves part leaves (boxes_in bs ss)
leaves-boxes_in part [] bs ss h = refl
leaves-boxes_in part (leaf ∷ leaves) [] ss h = refl
leaves-boxes_in part (leaf ∷ leaves) (b ∷ bs) [] h = absurd (omega arith)
leaves-boxes_in part (leaf ∷ leaves) (b ∷ bs) (s ∷ ss) h =
    ap (λ rest. added (λ address. leaf_bytes part leaf) (box_in b s) ∷ rest) (leaves-boxes_in part leaves bs ss (omega arith))

pub length-shares_with : (part leaves : List ℕ) (ss : List Share) → length (shares_with part leaves ss) ≡ length ss
length-shares_with part [] ss = refl
length-shares_with part (l ∷ leaves) [] = refl
length-shares_with part (l ∷ leaves) (s ∷ ss) = ap suc (length-shares_with part leaves ss)

pub drop-shares_with : (n : ℕ) (part leaves : List ℕ) (ss : List Share) → length leaves ≤ n → drop n (shares_with part leaves ss) ≡ drop n ss
drop-shares_with n part [] ss h = refl
drop-shares_with zero part (l ∷ leaves) ss h = absurd (omega arith)
drop-shares_with (suc n) part (l ∷ leaves) [] h = refl
drop-shares_with (suc n) part (l ∷ leaves) (s ∷ ss) h = drop-shares_with n part leaves ss (omega arith)

-- ---- the box of a number

pub none_there : (bs : List registry.Box) (ss : List Share) (n : ℕ) → length bs ≤ n → slice_get (boxes_in bs ss) n ≡ None
none_there [] ss n h = refl
none_there (b ∷ bs) [] n h = refl
none_there (b ∷ bs) (s ∷ ss) zero h = absurd (omega arith)
none_there (b ∷ bs) (s ∷ ss) (suc n) h = none_there bs ss n (omega arith)

pub box_there : (bs : List registry.Box) (ss : List Share) (n : ℕ) (d : registry.Box) (e : Share) → n < length bs → length bs ≤ length ss →
    slice_get (boxes_in bs ss) n ≡ Some (box_in (get_or bs n d) (get_or ss n e))
box_there [] ss n d e h l = absurd (omega arith)
box_there (b ∷ bs) [] n d e h l = absurd (omega arith)
box_there (b ∷ bs) (s ∷ ss) zero d e h l = refl
box_there (b ∷ bs) (s ∷ ss) (suc n) d e h l = box_there bs ss n d e (omega arith) (omega arith)

-- a field of a box that the registry has
pub same_field : {A : Type 0} (f : registry.Box → A) (g : Box → A) → ((b : registry.Box) (s : Share) → g (box_in b s) ≡ f b) → (bs : List registry.Box) (ss : List Share) (n : ℕ) → length bs ≤ length ss →
    option_map g (slice_get (boxes_in bs ss) n) ≡ option_map f (slice_get bs n)
same_field f g same [] ss n h = refl
same_field f g same (b ∷ bs) [] n h = absurd (omega arith)
same_field f g same (b ∷ bs) (s ∷ ss) zero h = ap Some (same b s)
same_field f g same (b ∷ bs) (s ∷ ss) (suc n) h = same_field f g same bs ss n (omega arith)

pub no_box : registry.Box
no_box = record { address = 0; key = [] }

pub there : (bs : List registry.Box) (n : ℕ) (d : registry.Box) → n < length bs → slice_get bs n ≡ Some (get_or bs n d)
there [] n d h = absurd (omega arith)
there (b ∷ bs) zero d h = refl
there (b ∷ bs) (suc n) d h = there bs n d (omega arith)

-- ---- the rows of a registry and of shares

module _ (r : Boxes) (s : Shares) (are : ArePairs r s) where
  pub fits : length r.boxes ≤ length s.boxes
  fits = let w = are.within in omega (arith, are.room)

  pub unused_at : (n : ℕ) → length r.boxes ≤ n → n < r.limit → (d : Share) → get_or s.boxes n d ≡ empty_share s.width
  unused_at n above below d =
      ap (λ k. get_or s.boxes k d) (let z : n ≡ length r.boxes + (n - length r.boxes) = omega arith in z)
      ∙ (sym (get_or-drop (length r.boxes) s.boxes (n - length r.boxes) d)
      ∙ (ap (λ xs. get_or xs (n - length r.boxes) d) are.unused
      ∙ get_or-replicate (r.limit - length r.boxes) (n - length r.boxes) (empty_share s.width) d (omega arith)))

  pub new_is : (address : ℕ) (key : List ℕ) → length r.boxes < r.limit →
      with_new s.width address key (boxes_in r.boxes s.boxes) ≡ boxes_in (with_box r address key).boxes s.boxes
  new_is address key room =
      let d = empty_share s.width in
      let b : registry.Box = record { address = address; key = key } in
      ap (λ x. boxes_in r.boxes s.boxes ++ box_in b x ∷ []) (sym (unused_at (length r.boxes) (omega arith) room d))
      ∙ sym (append-boxes_in r.boxes s.boxes b d (omega (arith, are.room)))

  pub more_rows : (address : ℕ) (key : List ℕ) → length r.boxes < r.limit → ArePairs (with_box r address key) s
  more_rows address key room =
      let b : registry.Box = record { address = address; key = key } in
      let one : length (r.boxes ++ b ∷ []) ≡ length r.boxes + 1 = length-append r.boxes (b ∷ []) in
      record {
        within = omega (arith, one);
        room = are.room;
        unused =
            ap (λ n. drop n s.boxes) one
            ∙ (sym (drop-drop 1 (length r.boxes) s.boxes)
            ∙ (ap (drop 1) are.unused
            ∙ (drop-replicate 1 (r.limit - length r.boxes) (empty_share s.width)
            ∙ ap (λ n. replicate n (empty_share s.width)) (let z : (r.limit - length r.boxes) - 1 ≡ r.limit - length (r.boxes ++ b ∷ []) = omega (arith, one) in z))));
      }

  -- the share of a box, there or not
  pub share_is : (n : ℕ) → n < r.limit → (share_at s.boxes n).bytes ≡ held.share_at (held_in r s) n
  share_is n below = elim (cases_lt n (length r.boxes)) [
    | inl inside ↦ ap (share_of s.width) (sym (box_there r.boxes s.boxes n no_box (empty_share 0) inside fits))
    | inr above ↦
        ap (λ (x : Share). x.bytes) (unused_at n above below (empty_share 0))
        ∙ ap (share_of s.width) (sym (none_there r.boxes s.boxes n above))
  ]

  -- what the registry answers is what the boxes answer
  pub answer_is : (address : ℕ) → answer_at r.limit (length (boxes_in r.boxes s.boxes)) (place_of address (boxes_in r.boxes s.boxes)) ≡ answer_to r address
  answer_is address =
      ap (λ n. answer_at r.limit n (place_of address (boxes_in r.boxes s.boxes))) (length-boxes_in r.boxes s.boxes fits)
      ∙ ap (λ xs. answer_at r.limit (length r.boxes) (position (λ other. other == address) xs)) (addresses-boxes_in r.boxes s.boxes fits)

  -- there is room where the registry adds a box
  room_of : (limit count n : ℕ) (p : Option ℕ) → answer_at limit count p ≡ Ok n → count < limit
  room_of limit count n (Some b) e = absurd (cc e)
  room_of limit count n None e = elim (cases_Bool (nat_le limit count)) [
    | inl t ↦ absurd (full (rw t at e))
    | inr t ↦ leb-false limit count t
  ]
    where
      full : (let r : Result ℕ RegFault = Err (Full limit) in r) ≡ Ok n → ⊥
      full e = cc e

  pub registered_rows : (address : ℕ) (key : List ℕ) (added : Result ℕ RegFault) (after : Boxes) → added ≡ answer_to r address →
      OnOk added (after ≡ with_box r address key) → OnErr added (after ≡ r) → ArePairs after s
  registered_rows address key (Ok n) after answer ok err =
      subst (λ (b : Boxes). ArePairs b s) (sym ok) (more_rows address key (room_of r.limit (length r.boxes) n (registry.place_of address r.boxes) (sym answer)))
  registered_rows address key (Err fault) after answer ok err = subst (λ (b : Boxes). ArePairs b s) (sym err) are

  pub registered_boxes : (address : ℕ) (key : List ℕ) (added : Result ℕ RegFault) (after : Boxes) → added ≡ answer_to r address →
      OnOk added (after ≡ with_box r address key) → OnOk added (held_in after s ≡ with_boxes (held_in r s) (with_new s.width address key (boxes_in r.boxes s.boxes)))
  registered_boxes address key (Ok n) after answer ok =
      ap (λ (b : Boxes). held_in b s) ok
      ∙ ap (λ (bs : List Box). let h : Holdings = record { width = s.width; limit = r.limit; boxes = bs } in h)
      (sym (new_is address key (room_of r.limit (length r.boxes) n (registry.place_of address r.boxes) (sym answer))))
  registered_boxes address key (Err fault) after answer ok = ok

  -- a write is added to the shares
  pub written_rows : (part leaves : List ℕ) (after : Shares) → length leaves ≤ length r.boxes → after ≡ shares_of s.width (shares_with part leaves s.boxes) → ArePairs r after
  written_rows part leaves after few after_is =
      subst (λ (x : Shares). ArePairs r x) (sym after_is)
      (record {
        within = are.within;
        room = length-shares_with part leaves s.boxes ∙ are.room;
        unused = drop-shares_with (length r.boxes) part leaves s.boxes few ∙ are.unused;
      })

  pub written_boxes : (part : List ℕ) (server root count : ℕ) (leaves : List ℕ) (after : Shares) →
      leaves ≡ map (leaf_of part server root) (take count (addresses_of (boxes_in r.boxes s.boxes))) → after ≡ shares_of s.width (shares_with part leaves s.boxes) →
      held_in r after ≡ with_boxes (held_in r s) (with_write part server root count (boxes_in r.boxes s.boxes))
  written_boxes part server root count leaves after leaves_are after_is =
      ap (held_in r) after_is
      ∙ ap (λ (bs : List Box). let h : Holdings = record { width = s.width; limit = r.limit; boxes = bs } in h)
      (ap (λ (ls : List ℕ). boxes_in r.boxes (shares_with part ls s.boxes))
      (leaves_are ∙ ap (λ xs. map (leaf_of part server root) (take count xs)) (addresses-boxes_in r.boxes s.boxes fits))
      ∙ write-boxes_in part server root count r.boxes s.boxes fits)

  -- the box of a number that is there
  pub found_is : (n : ℕ) (found : Box) → n < length r.boxes → slice_get (boxes_in r.boxes s.boxes) n ≡ Some found → found ≡ box_in (get_or r.boxes n no_box) (share_at s.boxes n)
  found_is n found inside e = let z = sym e ∙ box_there r.boxes s.boxes n no_box (empty_share 0) inside fits in cc

  pub found_share : (n : ℕ) (found : Box) → n < length r.boxes → slice_get (boxes_in r.boxes s.boxes) n ≡ Some found → (share_at s.boxes n).bytes ≡ found.share
  found_share n found inside e = ap (λ (b : Box). b.share) (sym (found_is n found inside e))

  pub found_key : (n : ℕ) (found : Box) (k : List ℕ) → n < length r.boxes → slice_get (boxes_in r.boxes s.boxes) n ≡ Some found →
      option_map (λ (b : registry.Box). b.key) (slice_get r.boxes n) ≡ Some k → k ≡ found.key
  found_key n found k inside e key =
      let own = ap (option_map (λ (b : registry.Box). b.key)) (there r.boxes n no_box inside) in
      let same : (get_or r.boxes n no_box).key ≡ k = cc in
      sym same ∙ ap (λ (b : Box). b.key) (sym (found_is n found inside e))

  -- a share is cleared
  pub read_rows : (n : ℕ) (live : Bool) (after : Shares) → n < length r.boxes → after ≡ with_cleared s n live → ArePairs r after
  read_rows n live after inside after_is =
      subst (λ (x : Shares). ArePairs r x) (sym after_is)
      (record {
        within = are.within;
        room = length-set s.boxes n _ ∙ are.room;
        unused = drop-set-lt (length r.boxes) s.boxes n _ inside ∙ are.unused;
      })

  pub read_boxes : (n : ℕ) (stays live : Bool) (found : Box) (after : Shares) → n < length r.boxes → slice_get (boxes_in r.boxes s.boxes) n ≡ Some found →
      live ≡ (stays && (share_at s.boxes n).live) → after ≡ with_cleared s n live →
      held_in r after ≡ with_boxes (held_in r s) (with_read s.width stays n found (boxes_in r.boxes s.boxes))
  read_boxes n stays live found after inside e live_is after_is =
      let empty = λ (l : Bool). let x : Share = record { bytes = replicate s.width 0; live = l } in x in
      ap (held_in r) after_is
      ∙ ap (λ (bs : List Box). let h : Holdings = record { width = s.width; limit = r.limit; boxes = bs } in h)
      (set-boxes_in r.boxes s.boxes n (empty live) no_box inside fits
      ∙ (ap (λ (l : Bool). set (boxes_in r.boxes s.boxes) n (box_in (get_or r.boxes n no_box) (empty l))) live_is
      ∙ ap (λ (b : Box). set (boxes_in r.boxes s.boxes) n (record b { share = replicate s.width 0; live = stays && b.live })) (sym (found_is n found inside e))))

-- the registry alone says which addresses there are
pub same_addresses : (r : Boxes) (old new : Shares) → ArePairs r old → ArePairs r new → new.width ≡ old.width → HasSameAddresses (held_in r old) (held_in r new)
same_addresses r old new was now width = record {
  width = width;
  limit = refl;
  count = length-boxes_in r.boxes new.boxes (fits r new now) ∙ sym (length-boxes_in r.boxes old.boxes (fits r old was));
  addresses = addresses-boxes_in r.boxes new.boxes (fits r new now) ∙ sym (addresses-boxes_in r.boxes old.boxes (fits r old was));
}
