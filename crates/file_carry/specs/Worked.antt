-- A worked journal: two boxes are registered, a file of two parts is written to them, and they are read.
use Rattle.std.specs.Prelude.{◌≡◌, ◌-◌, ℕ, true, List, [], ◌∷◌, length, replicate}
use Rattle.mailbox_rules.specs.Requests.{Request, Write, Command, Registers, Begins, Audits, Settles, Reads}
use Rattle.mailbox_rules.specs.Requests.{Entry, entry, Operation, AddBox, BeginWrite, AuditWrite, SettleWrite}
use Rattle.mailbox_rules.specs.Requests.{ReadBox}
use Rattle.mailbox_rules.specs.Tables.{plain_writes}
use Rattle.file_carry.specs.Parts.{count_of, part_of}
use Rattle.file_carry.specs.Laws.{CanBeCut}
use Rattle.file_carry.specs.Carried.{Journal, AreCarried}

-- seventeen bytes: at a width of 32, one more than a part has room for
abbrev pub worked_file : List ℕ
worked_file = replicate 17 1

-- every client's requests: the two parts of the file, with id 7, to the addresses 5 and 9
abbrev pub worked_requests : List Request
worked_requests = Write 5 (part_of worked_file 7 32 0) ∷ Write 9 (part_of worked_file 7 32 1) ∷ []

abbrev pub step : ℕ → ℕ → Command → Operation → Entry
step lane serial command does = entry (record { lane = lane; serial = serial; command = command }) does

-- lane 0 owns the boxes, and lane 1 writes
abbrev pub worked_entries : List Entry
worked_entries =
    step 0 1 Registers (AddBox 5)
    ∷ step 0 2 Registers (AddBox 9)
    ∷ step 1 1 Begins BeginWrite
    ∷ step 1 1 Audits AuditWrite
    ∷ step 1 1 Settles SettleWrite
    ∷ step 1 2 Begins BeginWrite
    ∷ step 1 2 Audits AuditWrite
    ∷ step 1 2 Settles SettleWrite
    ∷ step 0 3 Reads (ReadBox 0)
    ∷ step 0 4 Reads (ReadBox 1)
    ∷ []

abbrev pub worked_journal : Journal
worked_journal = record {
  limit = 2;
  width = 32;
  writes = plain_writes (λ lane. worked_requests) (λ lane serial. true);
  entries = worked_entries;
}

abbrev pub worked_addresses : List ℕ
worked_addresses = 5 ∷ 9 ∷ []

-- the places of the two reads
abbrev pub worked_reads : List ℕ
worked_reads = 8 ∷ 9 ∷ []

-- The file can be cut, it has a part for each address, and they are carried.
pub record TwoPartsAreCarried : Type 0 where
  pub can : CanBeCut worked_file 7 32
  pub each : length worked_addresses ≡ count_of (length worked_file) (32 - 16)
  pub carried : AreCarried worked_journal worked_file 7 0 worked_addresses worked_reads
