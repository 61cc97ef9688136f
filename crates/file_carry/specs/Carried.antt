-- What a journal does at the boxes of a file's parts.
use Rattle.std.specs.Prelude.{◌≡◌, ◌<◌, ◌≤◌, ◌+◌, ℕ, suc, true, List, [], ◌∷◌, length, map, take, replicate}
use Rattle.std.specs.Prelude.{Option, Some, slice_get}
use Rattle.mailbox_rules.specs.Requests.{Line, Entry, entry, Operation, BeginWrite, SettleWrite, ReadBox}
use Rattle.mailbox_rules.specs.Requests.{RetireBox}
use Rattle.mailbox_rules.specs.Tables.{Table, Writes, Result, Gave, table_after, results_after}
use Rattle.file_carry.specs.Parts.{part_of}

-- a journal with all that its table depends on
pub record Journal : Type 0 where
  pub limit : ℕ
  pub width : ℕ
  pub writes : Writes
  pub entries : List Entry

-- the table before the entry at a place
abbrev pub table_at : Journal → ℕ → Table
table_at j place = table_after j.limit j.width j.writes (take place j.entries)

-- what the entry at a place came to
abbrev pub result_at : Journal → ℕ → Option Result
result_at j place = slice_get (results_after j.limit j.width j.writes j.entries) place

-- a live box of that number and address holds these bytes
pub record Holds (t : Table) (box address : ℕ) (bytes : List ℕ) : Type 0 where
  pub lane : ℕ
  pub serial : ℕ
  pub is : slice_get t.boxes box
      ≡ Some (record { address = address; lane = lane; serial = serial; bytes = bytes; live = true })

-- bytes that change nothing in a box of that width: zeros, no more than its own, or none
pub record IsNothing (width : ℕ) (bytes : List ℕ) : Type 0 where
  pub size : ℕ
  pub fits : size ≤ width
  pub zeros : bytes ≡ replicate size 0

-- a line leaves a box alone: it doesn't read or retire it, and it settles no accepted write that adds to it
abbrev pub LeavesAlone : Journal → ℕ → ℕ → Line → Operation → Type 0
LeavesAlone j box address line SettleWrite =
    j.writes.accepts line.lane line.serial ≡ true
    → IsNothing j.width (j.writes.adds line.lane line.serial address)
LeavesAlone j box address line (ReadBox other) = other ≡ box → ⊥
LeavesAlone j box address line (RetireBox other) = other ≡ box → ⊥
LeavesAlone j box address line does = Unit {0}

-- a line begins no write of that lane
abbrev pub BeginsNone : ℕ → Line → Operation → Type 0
BeginsNone lane line BeginWrite = line.lane ≡ lane → ⊥
BeginsNone lane line does = Unit {0}

-- it holds of each line from one place on and before the other
abbrev pub Between : List Entry → ℕ → ℕ → (Line → Operation → Type 0) → Type 0
Between entries from to P = (place : ℕ) (e : Entry) → from ≤ place → place < to
    → slice_get entries place ≡ Some e → P e.line e.does

-- the lane's last write before that place began once the box was registered
pub record BeganThere (j : Journal) (place lane box : ℕ) : Type 0 where
  pub begin : ℕ
  pub line : Line
  pub is : slice_get j.entries begin ≡ Some (entry line BeginWrite)
  pub lane_is : line.lane ≡ lane
  pub before : begin < place
  pub last : Between j.entries (suc begin) place (λ line does. BeginsNone lane line does)
  pub registered : box < length (table_at j begin).boxes

-- an accepted write that adds these bytes to a box of that number and address is settled at that place
pub record IsWritten (j : Journal) (place box address : ℕ) (bytes : List ℕ) : Type 0 where
  pub line : Line
  pub is : slice_get j.entries place ≡ Some (entry line SettleWrite)
  pub accepted : j.writes.accepts line.lane line.serial ≡ true
  pub adds : j.writes.adds line.lane line.serial address ≡ bytes
  pub began : BeganThere j place line.lane box

-- A part is carried to the read at that place: the box is live and clear, then it gets the part by an
-- accepted write, then it is read. No other line in between does anything at the box.
pub record IsCarried (j : Journal) (address : ℕ) (part : List ℕ) (read : ℕ) : Type 0 where
  pub box : ℕ
  pub clear : ℕ
  pub zeros : Holds (table_at j clear) box address (replicate j.width 0)
  pub settle : ℕ
  pub clear_first : clear ≤ settle
  pub alone : Between j.entries clear settle (λ line does. LeavesAlone j box address line does)
  pub written : IsWritten j settle box address part
  pub write_first : settle < read
  pub alone_then : Between j.entries (suc settle) read (λ line does. LeavesAlone j box address line does)
  pub line : Line
  pub is : slice_get j.entries read ≡ Some (entry line (ReadBox box))

-- A box is read at that place with nothing written to it: it is live and clear, and no line in between does
-- anything at it.
pub record IsUnwritten (j : Journal) (read : ℕ) : Type 0 where
  pub box : ℕ
  pub address : ℕ
  pub clear : ℕ
  pub zeros : Holds (table_at j clear) box address (replicate j.width 0)
  pub clear_first : clear ≤ read
  pub alone : Between j.entries clear read (λ line does. LeavesAlone j box address line does)
  pub line : Line
  pub is : slice_get j.entries read ≡ Some (entry line (ReadBox box))

-- The parts of a file from an index on are carried, each by the box of an address to the read at a place.
abbrev pub AreCarried : Journal → List ℕ → ℕ → ℕ → List ℕ → List ℕ → Type 0
AreCarried j file id index [] [] = Unit {0}
AreCarried j file id index (address ∷ addresses) (read ∷ reads) =
    IsCarried j address (part_of file id j.width index) read
    × AreCarried j file id (index + 1) addresses reads
AreCarried j file id index addresses reads = ⊥

abbrev pub bytes_given : Option Result → List ℕ
bytes_given (Some (Gave box bytes)) = bytes
bytes_given result = []

-- the bytes that the reads at these places gave
abbrev pub answers : Journal → List ℕ → List (List ℕ)
answers j reads = map (λ place. bytes_given (result_at j place)) reads
