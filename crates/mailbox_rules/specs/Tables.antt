-- The table of boxes, changed by the entries of a journal in order, and the result of each entry.
-- One fold serves the plain table and both servers' shares: they differ in what a write adds to a box.
use Rattle.std.specs.Prelude.{ℕ, zero, suc, nat_le, nat_eq, ◌==◌, if◌then◌else◌, Bool, true, false, List, []}
use Rattle.std.specs.Prelude.{◌∷◌, ◌++◌, length, map, position, replicate, Option, Some, None, slice_get}
use Rattle.express_words.specs.Bytes.{xor_bytes}
use Rattle.mailbox_rules.specs.Requests.{Request, Write, request_at, Line, Entry, Operation, AddBox}
use Rattle.mailbox_rules.specs.Requests.{BeginWrite, AuditWrite, SettleWrite, ReadBox, RetireBox, Refuse}

-- A box is live until it is retired. Lane and serial are those of the request that registered it.
pub record Mailbox : Type 0 where
  pub address : ℕ
  pub lane : ℕ
  pub serial : ℕ
  pub bytes : List ℕ
  pub live : Bool

-- The boxes by number, the boxes that each lane got, and the number of boxes when each lane's last write
-- began: that write's count.
pub record Table : Type 0 where
  pub boxes : List Mailbox
  pub got : ℕ → List ℕ
  pub count : ℕ → ℕ

-- Which writes are accepted, by lane and serial, and the bytes that they add to a box, by lane, serial and
-- the box's address.
pub record Writes : Type 0 where
  pub accepts : ℕ → ℕ → Bool
  pub adds : ℕ → ℕ → ℕ → List ℕ

-- The result of a line. A box that was read gave its bytes.
pub data Result : Type 0 where
  Registered : (box : ℕ) → Result
  Taken : (box : ℕ) → Result
  Full : (limit : ℕ) → Result
  Began : (count : ℕ) → Result
  WasAudited : Result
  Settled : (accepted : Bool) → Result
  Gave : (box : ℕ) → (bytes : List ℕ) → Result
  NoBox : (box : ℕ) → Result
  Refused : Result

abbrev pub empty_table : Table
empty_table = record { boxes = []; got = λ lane. []; count = λ lane. 0 }

abbrev pub addresses : List Mailbox → List ℕ
addresses boxes = map (λ box. box.address) boxes

-- the box at which an address stands
abbrev pub box_of : ℕ → List Mailbox → Option ℕ
box_of address boxes = position (λ other. other == address) (addresses boxes)

abbrev pub new_box : ℕ → Line → ℕ → Mailbox
new_box width line address =
    record {
      address = address;
      lane = line.lane;
      serial = line.serial;
      bytes = replicate width 0;
      live = true;
    }

-- a retired box gets nothing
abbrev pub box_with : List ℕ → Mailbox → Mailbox
box_with bytes box = record box { bytes = if box.live then xor_bytes box.bytes bytes else box.bytes }

-- the first boxes, as many as the count, get the bytes of their addresses
unfoldable pub boxes_with : (ℕ → List ℕ) → ℕ → List Mailbox → List Mailbox
boxes_with adds zero boxes = boxes
boxes_with adds (suc count) [] = []
boxes_with adds (suc count) (box ∷ boxes) = box_with (adds box.address) box ∷ boxes_with adds count boxes

-- a live box gives its bytes, and stays live or is retired
abbrev pub box_cleared : ℕ → Bool → Mailbox → Mailbox
box_cleared width stays box = if box.live then record box { bytes = replicate width 0; live = stays } else box

unfoldable pub boxes_cleared : ℕ → Bool → List Mailbox → ℕ → List Mailbox
boxes_cleared width stays [] n = []
boxes_cleared width stays (box ∷ boxes) zero = box_cleared width stays box ∷ boxes
boxes_cleared width stays (box ∷ boxes) (suc n) = box ∷ boxes_cleared width stays boxes n

-- a new box, where its address stands at none and there is room
unfoldable pub after_register : ℕ → ℕ → Table → Line → ℕ → Option ℕ → Table
after_register limit width t line address (Some box) = t
after_register limit width t line address None =
    if nat_le limit (length t.boxes) then t else
    record {
      boxes = t.boxes ++ new_box width line address ∷ [];
      got = λ d. if nat_eq d line.lane then t.got line.lane ++ length t.boxes ∷ [] else t.got d;
      count = t.count;
    }

abbrev pub register_result : ℕ → Table → Option ℕ → Result
register_result limit t (Some box) = Taken box
register_result limit t None =
    if nat_le limit (length t.boxes) then Full limit else Registered (length t.boxes)

abbrev pub after_clearing : ℕ → Bool → Table → ℕ → Table
after_clearing width stays t n = record t { boxes = boxes_cleared width stays t.boxes n }

abbrev pub given : ℕ → Option Mailbox → Result
given n None = NoBox n
given n (Some box) = if box.live then Gave n box.bytes else NoBox n

-- the table after a line that does this
unfoldable pub after_line : ℕ → ℕ → Writes → Table → Line → Operation → Table
after_line limit width writes t line (AddBox address) =
    after_register limit width t line address (box_of address t.boxes)
after_line limit width writes t line BeginWrite =
    record t { count = λ d. if nat_eq d line.lane then length t.boxes else t.count d }
after_line limit width writes t line AuditWrite = t
after_line limit width writes t line SettleWrite =
    if writes.accepts line.lane line.serial
    then record t { boxes = boxes_with (writes.adds line.lane line.serial) (t.count line.lane) t.boxes }
    else t
after_line limit width writes t line (ReadBox box) = after_clearing width true t box
after_line limit width writes t line (RetireBox box) = after_clearing width false t box
after_line limit width writes t line Refuse = t

-- the result of a line that does this
unfoldable pub result_of : ℕ → Writes → Table → Line → Operation → Result
result_of limit writes t line (AddBox address) = register_result limit t (box_of address t.boxes)
result_of limit writes t line BeginWrite = Began (length t.boxes)
result_of limit writes t line AuditWrite = WasAudited
result_of limit writes t line SettleWrite = Settled (writes.accepts line.lane line.serial)
result_of limit writes t line (ReadBox box) = given box (slice_get t.boxes box)
result_of limit writes t line (RetireBox box) = given box (slice_get t.boxes box)
result_of limit writes t line Refuse = Refused

unfoldable pub table_from : ℕ → ℕ → Writes → Table → List Entry → Table
table_from limit width writes t [] = t
table_from limit width writes t (e ∷ entries) =
    table_from limit width writes (after_line limit width writes t e.line e.does) entries

unfoldable pub results_from : ℕ → ℕ → Writes → Table → List Entry → List Result
results_from limit width writes t [] = []
results_from limit width writes t (e ∷ entries) =
    result_of limit writes t e.line e.does
    ∷ results_from limit width writes (after_line limit width writes t e.line e.does) entries

-- the table after a whole journal, and the results of its entries
unfoldable pub table_after : ℕ → ℕ → Writes → List Entry → Table
table_after limit width writes entries = table_from limit width writes empty_table entries

unfoldable pub results_after : ℕ → ℕ → Writes → List Entry → List Result
results_after limit width writes entries = results_from limit width writes empty_table entries

-- a run without writes
abbrev pub no_writes : Writes
no_writes = record { accepts = λ lane serial. false; adds = λ lane serial address. [] }

-- In the plain table a client's write adds its message to the box of its target, and nothing to the others.
abbrev pub message_at : Option Request → ℕ → List ℕ
message_at (Some (Write target message)) address = if target == address then message else []
message_at request address = []

-- two servers' shares: what the writes add to each box is split in two
abbrev pub sum_of : Writes → Writes → Writes
sum_of one two = record {
  accepts = one.accepts;
  adds = λ lane serial address. xor_bytes (one.adds lane serial address) (two.adds lane serial address);
}

-- the result at the plain table, from the results at two servers' shares
abbrev pub result_sum : Result → Result → Result
result_sum (Gave box bytes) (Gave other more) = Gave box (xor_bytes bytes more)
result_sum one two = one

-- the plain table's writes, where all lanes are clients', who sent these requests
abbrev pub plain_writes : (ℕ → List Request) → (ℕ → ℕ → Bool) → Writes
plain_writes sent accepts = record {
  accepts = accepts;
  adds = λ lane serial address. message_at (request_at sent lane serial) address;
}

-- a table but for the bytes in its boxes, and a result but for the bytes that it gave
abbrev pub bare : Mailbox → Mailbox
bare box = record box { bytes = [] }

abbrev pub outline : Table → Table
outline t = record t { boxes = map (λ box. bare box) t.boxes }

abbrev pub result_outline : Result → Result
result_outline (Gave box bytes) = Gave box []
result_outline result = result

-- the numbers of a lane's boxes, counted from that number
unfoldable pub own_from : ℕ → ℕ → List Mailbox → List ℕ
own_from lane n [] = []
own_from lane n (box ∷ boxes) =
    if nat_eq lane box.lane then n ∷ own_from lane (suc n) boxes else own_from lane (suc n) boxes
