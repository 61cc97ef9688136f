-- What one line does at one box.
use Rattle.std.proofs.Common.{◌≡◌, ◌∙◌, ◌<◌, ◌≤◌, ℕ, zero, suc, Bool, true, false, nat_le, List, [], ◌∷◌, length, replicate, Option, Some, None, slice_get, arith, refl, sym, ap}
use Rattle.std.specs.Int.Bits.{xor_zero_r}
use Rattle.std.proofs.lemmas.Bool.{cond_both, eq-eqb, ne_eqb}
use Rattle.express_words.specs.Bytes.{xor_bytes}
use Rattle.express_words.proofs.Bytes.{zeros_xor_bytes}
use Rattle.mailbox_rules.specs.Requests.{Line, Operation, AddBox, BeginWrite, AuditWrite, SettleWrite, ReadBox, RetireBox, Refuse}
use Rattle.mailbox_rules.specs.Tables.{Mailbox, Table, Gave, box_with, boxes_with, boxes_cleared, box_of, new_box, after_register, after_line, given, result_of}
use Rattle.mailbox_rules.proofs.Folds.{get_left}
use Rattle.file_carry.specs.Carried.{Journal, Holds, IsNothing, LeavesAlone, BeginsNone}

get_with : (f : ℕ → List ℕ) (k : ℕ) (xs : List Mailbox) (n : ℕ) (x : Mailbox) → n < k
    → slice_get xs n ≡ Some x → slice_get (boxes_with f k xs) n ≡ Some (box_with (f x.address) x)
unfolding boxes_with
get_with f zero xs n x l h = absurd (omega arith)
get_with f (suc k) [] n x l h = cc
get_with f (suc k) (y ∷ xs) zero x l h = let same : y ≡ x = cc in ap (λ b. Some (box_with (f b.address) b)) same
get_with f (suc k) (y ∷ xs) (suc n) x l h = get_with f k xs n x (omega arith) h

get_with_same : (f : ℕ → List ℕ) (k : ℕ) (xs : List Mailbox) (n : ℕ) (x : Mailbox)
    → box_with (f x.address) x ≡ x → slice_get xs n ≡ Some x → slice_get (boxes_with f k xs) n ≡ Some x
unfolding boxes_with
get_with_same f zero xs n x e h = h
get_with_same f (suc k) [] n x e h = cc
get_with_same f (suc k) (y ∷ xs) zero x e h = let same : y ≡ x = cc in
    ap (λ b. Some (box_with (f b.address) b)) same ∙ ap (λ b. Some b) e
get_with_same f (suc k) (y ∷ xs) (suc n) x e h = get_with_same f k xs n x e h

get_cleared : (width : ℕ) (stays : Bool) (xs : List Mailbox) (m n : ℕ) (x : Mailbox) → (m ≡ n → ⊥)
    → slice_get xs n ≡ Some x → slice_get (boxes_cleared width stays xs m) n ≡ Some x
unfolding boxes_cleared
get_cleared width stays [] m n x other h = h
get_cleared width stays (y ∷ xs) zero zero x other h = absurd (other refl)
get_cleared width stays (y ∷ xs) zero (suc n) x other h = h
get_cleared width stays (y ∷ xs) (suc m) zero x other h = h
get_cleared width stays (y ∷ xs) (suc m) (suc n) x other h = get_cleared width stays xs m n x (λ e. other (ap suc e)) h

get_register : (limit width : ℕ) (t : Table) (line : Line) (address : ℕ) (o : Option ℕ) (n : ℕ) (x : Mailbox)
    → slice_get t.boxes n ≡ Some x → slice_get (after_register limit width t line address o).boxes n ≡ Some x
unfolding after_register
get_register limit width t line address (Some k) n x h = h
get_register limit width t line address None n x h =
    cond_both {A = Table} (nat_le limit (length t.boxes)) _ _ (λ u. slice_get u.boxes n ≡ Some x) (λ f. h)
    (λ f. get_left t.boxes (new_box width line address ∷ []) n x h)

zeros_added : (xs : List ℕ) (k : ℕ) → k ≤ length xs → xor_bytes xs (replicate k 0) ≡ xs
unfolding xor_bytes
zeros_added [] zero h = refl
zeros_added [] (suc k) h = absurd (omega arith)
zeros_added (x ∷ xs) zero h = refl
zeros_added (x ∷ xs) (suc k) h = rw (xor_zero_r x, zeros_added xs k (omega arith)) refl

nothing_added : (width : ℕ) (bytes more : List ℕ) → length bytes ≡ width → IsNothing width more
    → xor_bytes bytes more ≡ bytes
nothing_added width bytes more size n =
    let fits : n.size ≤ length bytes = omega (arith, size, n.fits) in
    ap (xor_bytes bytes) n.zeros ∙ zeros_added bytes n.size fits

-- a live box of these fields with some bytes
abbrev live_box : (address lane serial : ℕ) (bytes : List ℕ) → Mailbox
live_box address lane serial bytes = record { address = address; lane = lane; serial = serial; bytes = bytes; live = true }

-- a line that leaves a box alone leaves it its bytes
pub holds_alone : (j : Journal) (box address : ℕ) (bytes : List ℕ) (t : Table) (line : Line)
    (does : Operation)
    → length bytes ≡ j.width → LeavesAlone j box address line does
    → Holds t box address bytes → Holds (after_line j.limit j.width j.writes t line does) box address bytes
unfolding after_line
holds_alone j box address bytes t line (AddBox other) size a h =
    record {
      lane = h.lane;
      serial = h.serial;
      is = get_register j.limit j.width t line other (box_of other t.boxes) box _ h.is;
    }
holds_alone j box address bytes t line BeginWrite size a h = record { lane = h.lane; serial = h.serial; is = h.is }
holds_alone j box address bytes t line AuditWrite size a h = h
holds_alone j box address bytes t line SettleWrite size a h =
    cond_both {A = Table} (j.writes.accepts line.lane line.serial) _ _ (λ u. Holds u box address bytes)
    (λ f. record {
      lane = h.lane;
      serial = h.serial;
      is =
          get_with_same (j.writes.adds line.lane line.serial) (t.count line.lane) t.boxes box
          (live_box address h.lane h.serial bytes)
          (ap (live_box address h.lane h.serial) (nothing_added j.width bytes _ size (a f))) h.is;
    })
    (λ f. h)
holds_alone j box address bytes t line (ReadBox other) size a h =
    record { lane = h.lane; serial = h.serial; is = get_cleared j.width true t.boxes other box _ a h.is }
holds_alone j box address bytes t line (RetireBox other) size a h =
    record { lane = h.lane; serial = h.serial; is = get_cleared j.width false t.boxes other box _ a h.is }
holds_alone j box address bytes t line Refuse size a h = h

-- a clear box that an accepted write counts holds what the write adds
pub holds_written : (j : Journal) (box address : ℕ) (bytes : List ℕ) (t : Table) (line : Line)
    → length bytes ≡ j.width → j.writes.accepts line.lane line.serial ≡ true
    → j.writes.adds line.lane line.serial address ≡ bytes → box < t.count line.lane → Holds t box address (replicate j.width 0)
    → Holds (after_line j.limit j.width j.writes t line SettleWrite) box address bytes
unfolding after_line
holds_written j box address bytes t line size accepted adds counted h =
    cond_both {A = Table} (j.writes.accepts line.lane line.serial) _ _ (λ u. Holds u box address bytes)
    (λ f. record {
      lane = h.lane;
      serial = h.serial;
      is =
          get_with (j.writes.adds line.lane line.serial) (t.count line.lane) t.boxes box
          (live_box address h.lane h.serial (replicate j.width 0)) counted h.is
          ∙ ap (λ b. Some (live_box address h.lane h.serial b))
          (ap (xor_bytes (replicate j.width 0)) adds ∙ zeros_xor_bytes j.width bytes size);
    })
    (λ f. absurd (let b : true ≡ false = sym accepted ∙ f in cc))

count_register : (limit width : ℕ) (t : Table) (line : Line) (address : ℕ) (o : Option ℕ) (lane box : ℕ)
    → box < t.count lane → box < (after_register limit width t line address o).count lane
unfolding after_register
count_register limit width t line address (Some k) lane box h = h
count_register limit width t line address None lane box h =
    cond_both {A = Table} (nat_le limit (length t.boxes)) _ _ (λ u. box < u.count lane) (λ f. h) (λ f. h)

-- a lane's count stays until the lane begins another write
pub count_alone : (j : Journal) (lane box : ℕ) (t : Table) (line : Line) (does : Operation)
    → BeginsNone lane line does → box < t.count lane
    → box < (after_line j.limit j.width j.writes t line does).count lane
unfolding after_line
count_alone j lane box t line (AddBox other) b h =
    count_register j.limit j.width t line other (box_of other t.boxes) lane box h
count_alone j lane box t line BeginWrite b h = rw (ne_eqb lane line.lane (λ e. b (sym e))) h
count_alone j lane box t line AuditWrite b h = h
count_alone j lane box t line SettleWrite b h =
    cond_both {A = Table} (j.writes.accepts line.lane line.serial) _ _ (λ u. box < u.count lane) (λ f. h) (λ f. h)
count_alone j lane box t line (ReadBox other) b h = h
count_alone j lane box t line (RetireBox other) b h = h
count_alone j lane box t line Refuse b h = h

pub count_begun : (j : Journal) (lane box : ℕ) (t : Table) (line : Line) → line.lane ≡ lane
    → box < length t.boxes → box < (after_line j.limit j.width j.writes t line BeginWrite).count lane
unfolding after_line
count_begun j lane box t line e h = rw (eq-eqb lane line.lane (sym e)) h

-- a read gives what the box holds
pub gives : (j : Journal) (box address : ℕ) (bytes : List ℕ) (t : Table) (line : Line)
    → Holds t box address bytes → result_of j.limit j.writes t line (ReadBox box) ≡ Gave box bytes
unfolding result_of
gives j box address bytes t line h = ap (given box) h.is
