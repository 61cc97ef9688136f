-- What holds of the tables after every journal.
use Rattle.std.specs.Prelude.{◌≡◌, ℕ, suc, ◌≤◌, false, List, [], ◌∷◌, ◌++◌, length, map, take, Option, Some}
use Rattle.std.specs.Prelude.{None, slice_get}
use Rattle.express_words.specs.Bytes.{xor_bytes}
use Rattle.mailbox_rules.specs.Requests.{Command, Line, Entry, entry, Operation, AddBox, SettleWrite, ReadBox}
use Rattle.mailbox_rules.specs.Requests.{RetireBox}
use Rattle.mailbox_rules.specs.Tables.{Mailbox, Table, Writes, NoBox, addresses, after_line, result_of}
use Rattle.mailbox_rules.specs.Tables.{table_after, results_after, sum_of, result_sum, outline}
use Rattle.mailbox_rules.specs.Tables.{result_outline, own_from}

-- a box's address and life are those of its two shares, and its bytes are their sum
pub record IsShared (x y z : Mailbox) : Type 0 where
  pub one : y.address ≡ x.address
  pub two : z.address ≡ x.address
  pub live_one : y.live ≡ x.live
  pub live_two : z.live ≡ x.live
  pub bytes : x.bytes ≡ xor_bytes y.bytes z.bytes

-- two lists of shares share these boxes, box by box
abbrev pub AreShares : List Mailbox → List Mailbox → List Mailbox → Type 0
AreShares [] [] [] = Unit {0}
AreShares (x ∷ xs) (y ∷ ys) (z ∷ zs) = IsShared x y z × AreShares xs ys zs
AreShares xs ys zs = ⊥

-- both servers accept the same writes
abbrev pub AcceptsSame : Writes → Writes → Type 0
AcceptsSame one two = (lane serial : ℕ) → two.accepts lane serial ≡ one.accepts lane serial

-- after every journal the sums of both servers' shares are the bytes of the plain table
abbrev pub SharesAddUp : Type 0
SharesAddUp = (limit width : ℕ) (one two : Writes) (entries : List Entry) → AcceptsSame one two
    → AreShares (table_after limit width (sum_of one two) entries).boxes
    (table_after limit width one entries).boxes (table_after limit width two entries).boxes

abbrev pub bytes_of : Option Mailbox → List ℕ
bytes_of None = []
bytes_of (Some box) = box.bytes

-- what stands in a box is the sum of what the two servers have there
abbrev pub BytesAddUp : Type 0
BytesAddUp = (limit width : ℕ) (one two : Writes) (entries : List Entry) (n : ℕ) → AcceptsSame one two
    → bytes_of (slice_get (table_after limit width (sum_of one two) entries).boxes n)
    ≡ xor_bytes (bytes_of (slice_get (table_after limit width one entries).boxes n))
    (bytes_of (slice_get (table_after limit width two entries).boxes n))

-- the next entry's result at the plain table is that of both servers, with the bytes that they gave added
abbrev pub ReadsAddUp : Type 0
ReadsAddUp = (limit width : ℕ) (one two : Writes) (entries : List Entry) (line : Line) (does : Operation)
    → AcceptsSame one two
    → result_of limit (sum_of one two) (table_after limit width (sum_of one two) entries) line does
    ≡ result_sum (result_of limit one (table_after limit width one entries) line does)
    (result_of limit two (table_after limit width two entries) line does)

-- a journal's table is that of the part before its last entry, after that entry; and so are its results
abbrev pub TablesGrow : Type 0
TablesGrow = (limit width : ℕ) (writes : Writes) (entries : List Entry) (e : Entry)
    → table_after limit width writes (entries ++ e ∷ [])
    ≡ after_line limit width writes (table_after limit width writes entries) e.line e.does

abbrev pub ResultsGrow : Type 0
ResultsGrow = (limit width : ℕ) (writes : Writes) (entries : List Entry) (e : Entry)
    → results_after limit width writes (entries ++ e ∷ [])
    ≡ results_after limit width writes entries
    ++ result_of limit writes (table_after limit width writes entries) e.line e.does ∷ []

-- so the table after a part of a journal becomes that of the next longer part by the entry that comes next
abbrev pub PartsGrow : Type 0
PartsGrow = (limit width : ℕ) (writes : Writes) (entries : List Entry) (i : ℕ) (e : Entry)
    → slice_get entries i ≡ Some e
    → table_after limit width writes (take (suc i) entries)
    ≡ after_line limit width writes (table_after limit width writes (take i entries)) e.line e.does

-- and the result of an entry is what it gives after the part before it
abbrev pub ResultsStand : Type 0
ResultsStand = (limit width : ℕ) (writes : Writes) (entries : List Entry) (i : ℕ) (e : Entry)
    → slice_get entries i ≡ Some e
    → slice_get (results_after limit width writes entries) i
    ≡ Some (result_of limit writes (table_after limit width writes (take i entries)) e.line e.does)

-- what holds of the lane and serial of each settle of a journal
abbrev pub AtSettle : (ℕ → ℕ → Type 0) → Line → Operation → Type 0
AtSettle P line SettleWrite = P line.lane line.serial
AtSettle P line does = Unit {0}

abbrev pub AtSettles : (ℕ → ℕ → Type 0) → List Entry → Type 0
AtSettles P [] = Unit {0}
AtSettles P (e ∷ entries) = AtSettle P e.line e.does × AtSettles P entries

-- a write is one under both, and one that both accept
pub record IsSameWrite (one two : Writes) (lane serial : ℕ) : Type 0 where
  pub accepts : two.accepts lane serial ≡ one.accepts lane serial
  pub adds : (address : ℕ) → two.adds lane serial address ≡ one.adds lane serial address

-- tables and results depend on the writes that the journal settles alone
abbrev pub TablesAgree : Type 0
TablesAgree = (limit width : ℕ) (one two : Writes) (entries : List Entry)
    → AtSettles (λ lane serial. IsSameWrite one two lane serial) entries
    → (table_after limit width two entries ≡ table_after limit width one entries)
    × (results_after limit width two entries ≡ results_after limit width one entries)

-- Writes change the bytes in the boxes alone: numbers, addresses, owners and lives of the boxes, the boxes
-- got and the counts are those of any other writes and width.
abbrev pub OutlinesAgree : Type 0
OutlinesAgree = (limit width other : ℕ) (one two : Writes) (entries : List Entry)
    → outline (table_after limit other two entries) ≡ outline (table_after limit width one entries)

-- and results but for the bytes depend on which settles are accepted alone
abbrev pub ResultOutlinesAgree : Type 0
ResultOutlinesAgree = (limit width other : ℕ) (one two : Writes) (entries : List Entry)
    → AtSettles (λ lane serial. two.accepts lane serial ≡ one.accepts lane serial) entries
    → map (λ r. result_outline r) (results_after limit other two entries)
    ≡ map (λ r. result_outline r) (results_after limit width one entries)

-- the boxes keep their numbers and addresses, whatever comes after
abbrev pub BoxesStay : Type 0
BoxesStay = (limit width : ℕ) (writes : Writes) (entries more : List Entry) (n a : ℕ)
    → slice_get (addresses (table_after limit width writes entries).boxes) n ≡ Some a
    → slice_get (addresses (table_after limit width writes (entries ++ more)).boxes) n ≡ Some a

-- no address stands at two boxes, and there are no more boxes than the limit
abbrev pub AddressesDiffer : Type 0
AddressesDiffer = (limit width : ℕ) (writes : Writes) (entries : List Entry) (i k a : ℕ)
    → slice_get (addresses (table_after limit width writes entries).boxes) i ≡ Some a
    → slice_get (addresses (table_after limit width writes entries).boxes) k ≡ Some a → i ≡ k

abbrev pub BoxesWithinLimit : Type 0
BoxesWithinLimit = (limit width : ℕ) (writes : Writes) (entries : List Entry)
    → length (table_after limit width writes entries).boxes ≤ limit

-- an entry that did this
pub record Did (entries : List Entry) (does : Operation) : Type 0 where
  pub place : ℕ
  pub line : Line
  pub is : slice_get entries place ≡ Some (entry line does)

-- an entry by which a box was registered
pub record Registering (entries : List Entry) (box : Mailbox) : Type 0 where
  pub place : ℕ
  pub command : Command
  pub is : slice_get entries place
      ≡ Some (entry (record { lane = box.lane; serial = box.serial; command = command }) (AddBox box.address))

-- each box comes from an entry of its lane and serial that added its address
abbrev pub BoxesAreRegistered : Type 0
BoxesAreRegistered = (limit width : ℕ) (writes : Writes) (entries : List Entry) (n : ℕ) (box : Mailbox)
    → slice_get (table_after limit width writes entries).boxes n ≡ Some box → Registering entries box

-- the boxes that a lane got are those that its own entries registered, in their order
abbrev pub GotIsOwn : Type 0
GotIsOwn = (limit width : ℕ) (writes : Writes) (entries : List Entry) (lane : ℕ)
    → (table_after limit width writes entries).got lane
    ≡ own_from lane 0 (table_after limit width writes entries).boxes

-- a box that a lane got stands among the boxes, and is the lane's
pub record OwnBox (t : Table) (lane n : ℕ) : Type 0 where
  pub box : Mailbox
  pub is : slice_get t.boxes n ≡ Some box
  pub owner : box.lane ≡ lane

abbrev pub OwnBoxesStand : Type 0
OwnBoxesStand = (limit width : ℕ) (writes : Writes) (entries : List Entry) (lane k n : ℕ)
    → slice_get ((table_after limit width writes entries).got lane) k ≡ Some n
    → OwnBox (table_after limit width writes entries) lane n

-- a lane gets boxes by its own entries alone
abbrev pub GotByOwn : Type 0
GotByOwn = (limit width : ℕ) (writes : Writes) (entries more : List Entry) (lane : ℕ)
    → ((i : ℕ) (e : Entry) → slice_get more i ≡ Some e → e.line.lane ≡ lane → ⊥)
    → (table_after limit width writes (entries ++ more)).got lane
    ≡ (table_after limit width writes entries).got lane

-- what a lane got stays, and it gets more at the end alone
abbrev pub GotStays : Type 0
GotStays = (limit width : ℕ) (writes : Writes) (entries more : List Entry) (lane k n : ℕ)
    → slice_get ((table_after limit width writes entries).got lane) k ≡ Some n
    → slice_get ((table_after limit width writes (entries ++ more)).got lane) k ≡ Some n

-- a box that isn't live was retired
abbrev pub RetiredByEntry : Type 0
RetiredByEntry = (limit width : ℕ) (writes : Writes) (entries : List Entry) (n : ℕ) (box : Mailbox)
    → slice_get (table_after limit width writes entries).boxes n ≡ Some box → box.live ≡ false
    → Did entries (RetireBox n)

-- where a read of a box that a lane got finds none, that box was retired before
abbrev pub NoBoxIsRetired : Type 0
NoBoxIsRetired = (limit width : ℕ) (writes : Writes) (entries : List Entry) (lane k n : ℕ) (line : Line)
    → slice_get ((table_after limit width writes entries).got lane) k ≡ Some n
    → result_of limit writes (table_after limit width writes entries) line (ReadBox n) ≡ NoBox n
    → Did entries (RetireBox n)
