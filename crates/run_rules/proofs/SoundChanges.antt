-- A foreign lane's write that changes two boxes of the plain table has a vector with two places that aren't zero.
use Rattle.std.proofs.Common.{◌≡◌, ◌≢◌, ◌<◌, ◌≤◌, ℕ, zero, suc, Bool, true, false, cond, List, [], ◌∷◌, length, take, Option, Some, None, slice_get, slice_index, replicate, refl, sym, ap, ◌∙◌, subst, inl, inr, arith}
use Rattle.std.proofs.lemmas.Bool.{cases_Bool, cases_lt}
use Rattle.std.proofs.lemmas.List.{length-replicate}
use Rattle.express_words.specs.Bytes.{xor_bytes}
use Rattle.express_words.proofs.Bytes.{xor_bytes_self, xor_bytes_zeros}
use Rattle.dpf_rules.specs.Walk.{write_bytes}
use Rattle.audit_rules.specs.BadWrites.{HasTwo}
use Rattle.audit_rules.proofs.LeafLemmas.{changes_seen}
use Rattle.mailbox_rules.specs.Requests.{Begins, Entry, SettleWrite}
use Rattle.mailbox_rules.specs.Tables.{Mailbox, Table, addresses, after_line, box_with, boxes_with, message_at, no_writes}
use Rattle.mailbox_rules.proofs.Folds.{parts_grow}
use Rattle.mailbox_rules.proofs.Outlines.{outlines_agree}
use Rattle.mailbox_rules.proofs.Widths.{boxes_have_width}
use Rattle.run_rules.specs.Book.{Book, place, request_of, table_at}
use Rattle.run_rules.specs.Values.{accepted_at, counted_at, part_at, root_at}
use Rattle.run_rules.specs.Follows.{BegunAt, SettlesBegun}
use Rattle.run_rules.specs.Plain.{IsHistory, both_add, plain_at, plain_of}
use Rattle.run_rules.specs.Soundness.{DifferTwice, vector_at}
use Rattle.run_rules.proofs.LeaderRegistered.{bare_addresses}
use Rattle.run_rules.proofs.PlainWrites.{length-both_add, plain_within}
use Rattle.run_rules.proofs.WriteLeaderCounts.{addresses_stay}

-- ---- what writes leave of the boxes

past_count : (adds : ℕ → List ℕ) (count : ℕ) (boxes : List Mailbox) (n : ℕ) → count ≤ n
    → slice_get (boxes_with adds count boxes) n ≡ slice_get boxes n
unfolding boxes_with
past_count adds zero boxes n h = refl
past_count adds (suc count) [] n h = refl
past_count adds (suc count) (box ∷ boxes) zero h = absurd (omega (arith, h))
past_count adds (suc count) (box ∷ boxes) (suc n) h = past_count adds count boxes n (omega (arith, h))

none_with : (adds : ℕ → List ℕ) (count : ℕ) (boxes : List Mailbox) (n : ℕ) → slice_get boxes n ≡ None
    → slice_get (boxes_with adds count boxes) n ≡ None
unfolding boxes_with
none_with adds zero boxes n e = e
none_with adds (suc count) [] n e = refl
none_with adds (suc count) (box ∷ boxes) zero e = absurd (cc e)
none_with adds (suc count) (box ∷ boxes) (suc n) e = none_with adds count boxes n e

-- where the bytes that are added leave the box's bytes the box stays
box_stays : (adds : ℕ → List ℕ) (count : ℕ) (boxes : List Mailbox) (n : ℕ) (box : Mailbox) → slice_get boxes n ≡ Some box
    → xor_bytes box.bytes (adds box.address) ≡ box.bytes → slice_get (boxes_with adds count boxes) n ≡ Some box
unfolding boxes_with
box_stays adds zero boxes n box e same = e
box_stays adds (suc count) [] n box e same = absurd (cc e)
box_stays adds (suc count) (x ∷ boxes) zero box e same =
    let here : x ≡ box = cc in
    ap (λ x. Some (box_with (adds x.address) x)) here ∙ ap (λ bytes. Some (record box { bytes = bytes })) (by_life box.live)
  where
    by_life : (t : Bool) → cond t (xor_bytes box.bytes (adds box.address)) box.bytes ≡ box.bytes
    by_life true = same
    by_life false = refl
box_stays adds (suc count) (x ∷ boxes) (suc n) box e same = box_stays adds count boxes n box e same

-- so a box that changes is among the first, and what is added changes its bytes
record Changed (adds : ℕ → List ℕ) (count : ℕ) (boxes : List Mailbox) (n : ℕ) : Type 0 where
  below : n < count
  box : Mailbox
  is : slice_get boxes n ≡ Some box
  other : xor_bytes box.bytes (adds box.address) ≢ box.bytes

changed : (adds : ℕ → List ℕ) (count : ℕ) (boxes : List Mailbox) (n : ℕ)
    → slice_get boxes n ≢ slice_get (boxes_with adds count boxes) n → Changed adds count boxes n
changed adds count boxes n differ = elim (cases_lt n count) [
  | inl below ↦ at_place below (slice_get boxes n) refl
  | inr past ↦ absurd (differ (sym (past_count adds count boxes n past)))
]
  where
    at_place : n < count → (o : Option Mailbox) → slice_get boxes n ≡ o → Changed adds count boxes n
    at_place below None e = absurd (differ (e ∙ sym (none_with adds count boxes n e)))
    at_place below (Some box) e = record {
      below = below;
      box = box;
      is = e;
      other = λ same. differ (e ∙ sym (box_stays adds count boxes n box e same));
    }

-- ---- addresses and counts of the plain table

plain_addresses : (b : Book) (i : ℕ) → addresses (plain_at b i).boxes ≡ addresses (table_at b i).boxes
unfolding plain_at
plain_addresses b i =
    sym (bare_addresses (plain_at b i).boxes)
    ∙ ap (λ t. addresses t.boxes) (outlines_agree b.settings.boxes b.settings.width b.settings.width no_writes (plain_of b) (take i b.entries))
    ∙ bare_addresses (table_at b i).boxes

plain_count : (b : Book) (i c : ℕ) → (plain_at b i).count c ≡ (table_at b i).count c
unfolding plain_at
plain_count b i c =
    ap (λ t. t.count c) (outlines_agree b.settings.boxes b.settings.width b.settings.width no_writes (plain_of b) (take i b.entries))

address_there : (boxes : List Mailbox) (n : ℕ) (box : Mailbox) → slice_get boxes n ≡ Some box
    → slice_index (addresses boxes) n ≡ box.address
address_there [] n box e = absurd (cc e)
address_there (x ∷ boxes) zero box e = let here : x ≡ box = cc in ap (λ x. x.address) here
address_there (x ∷ boxes) (suc n) box e = address_there boxes n box e

taken_index : (xs : List ℕ) (k n : ℕ) → n < k → slice_index (take k xs) n ≡ slice_index xs n
taken_index xs zero n h = absurd (omega (arith, h))
taken_index [] (suc k) n h = refl
taken_index (x ∷ xs) (suc k) zero h = refl
taken_index (x ∷ xs) (suc k) (suc n) h = taken_index xs k n (omega (arith, h))

module _ (b : Book) (k : IsHistory b) (i : ℕ) (e : Entry) (is : slice_get b.entries i ≡ Some e)
    (foreign : b.foreign e.line.lane ≡ true) (does : e.does ≡ SettleWrite) where
  abbrev c : ℕ
  c = e.line.lane

  abbrev s : ℕ
  s = e.line.serial

  abbrev t : Table
  t = plain_at b i

  abbrev adds : ℕ → List ℕ
  adds = (plain_of b).adds c s

  begun : BegunAt b i c s
  begun = subst (SettlesBegun b i e.line) does (k.strange i e is foreign).begun

  count_is : t.count c ≡ length (counted_at b c s)
  count_is = plain_count b i c ∙ begun.count

  next : plain_at b (suc i) ≡ cond (accepted_at b c s) (record t { boxes = boxes_with adds (t.count c) t.boxes }) t
  unfolding plain_at after_line
  next =
      parts_grow b.settings.boxes b.settings.width (plain_of b) b.entries i e is
      ∙ ap (after_line b.settings.boxes b.settings.width (plain_of b) t e.line) does

  -- the address of a box that was counted
  counted_address : (n : ℕ) (box : Mailbox) → n < t.count c → slice_get t.boxes n ≡ Some box
      → slice_index (counted_at b c s) n ≡ box.address
  counted_address n box low at =
      let before = begun.before in
      let size = count_is in
      ap (λ xs. slice_index xs n) (sym (addresses_stay b (place b c s Begins) i (omega (arith, before))))
      ∙ taken_index (addresses (table_at b i).boxes) (length (counted_at b c s)) n (omega (arith, low, size))
      ∙ ap (λ xs. slice_index xs n) (sym (plain_addresses b i))
      ∙ address_there t.boxes n box at

  -- both servers add different bytes to a box that changes
  adds_differ : (n : ℕ) → Changed adds (t.count c) t.boxes n
      → write_bytes (part_at b c s) 0 (root_at b 0 c s) (slice_index (counted_at b c s) n)
      ≢ write_bytes (part_at b c s) 1 (root_at b 1 c s) (slice_index (counted_at b c s) n)
  unfolding plain_at
  adds_differ n h same =
      let at = counted_address n h.box h.below h.is in
      let zero = write_bytes (part_at b c s) 0 (root_at b 0 c s) h.box.address in
      let one = write_bytes (part_at b c s) 1 (root_at b 1 c s) h.box.address in
      let equal : zero ≡ one =
      ap (write_bytes (part_at b c s) 0 (root_at b 0 c s)) (sym at) ∙ same ∙ ap (write_bytes (part_at b c s) 1 (root_at b 1 c s)) at in
      let both : adds h.box.address ≡ both_add b c s h.box.address =
      ap (λ u. cond u (both_add b c s h.box.address) (message_at (request_of b c s) h.box.address)) foreign in
      let none : both_add b c s h.box.address ≡ replicate (length one) 0 = ap (λ z. xor_bytes z one) equal ∙ xor_bytes_self one in
      let wide = length-both_add b c s h.box.address k.sound foreign in
      let size : length (both_add b c s h.box.address) ≡ length one = ap length none ∙ length-replicate (length one) 0 in
      let width : length h.box.bytes ≡ b.settings.width =
      boxes_have_width b.settings.boxes b.settings.width (plain_of b) (take i b.entries) n h.box (plain_within b k) h.is in
      h.other (ap (xor_bytes h.box.bytes) (both ∙ none) ∙ xor_bytes_zeros h.box.bytes (length one) (width ∙ sym wide ∙ size))

  pub changes_are_seen : DifferTwice t.boxes (plain_at b (suc i)).boxes → (accepted_at b c s ≡ true) × HasTwo (vector_at b c s)
  changes_are_seen h = elim (cases_Bool (accepted_at b c s)) [
    | inl accepted ↦
        let boxes : (plain_at b (suc i)).boxes ≡ boxes_with adds (t.count c) t.boxes =
        ap (λ u. u.boxes) (next ∙ ap (λ v. cond v (record t { boxes = boxes_with adds (t.count c) t.boxes }) t) accepted) in
        let one = changed adds (t.count c) t.boxes h.one (λ same. h.first (same ∙ ap (λ l. slice_get l h.one) (sym boxes))) in
        let two = changed adds (t.count c) t.boxes h.two (λ same. h.second (same ∙ ap (λ l. slice_get l h.two) (sym boxes))) in
        let below = two.below in
        let size = count_is in (
          accepted,
          changes_seen (part_at b c s) (root_at b 0 c s) (root_at b 1 c s) (counted_at b c s) h.one h.two h.before (omega (arith, below, size))
              (adds_differ h.one one) (adds_differ h.two two),
        )
    | inr rejected ↦
        let boxes : (plain_at b (suc i)).boxes ≡ t.boxes =
        ap (λ u. u.boxes) (next ∙ ap (λ v. cond v (record t { boxes = boxes_with adds (t.count c) t.boxes }) t) rejected) in
        absurd (h.first (ap (λ l. slice_get l h.one) (sym boxes)))
  ]
