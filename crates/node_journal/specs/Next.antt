-- What a journal finds at its place on a disk.
use Rattle.std.specs.Prelude.{◌≡◌, ℕ, ◌+◌, ◌==◌, nat_le, ◌&&◌, List, [], ◌∷◌, take, drop, Option, Some, None}
use Rattle.std.specs.Prelude.{Result, Ok, Err, if◌then◌else◌}
use Rattle.std.specs.Int.{w32, from_be_bytes}
use Rattle.node_journal.specs.Records.{is_whole}
use Rattle.node_journal.specs.declared.fault.JournalFault.{JournalFault}
use Rattle.node_journal.specs.declared.fault.JournalFault.TheVariants.{Damaged}

-- the record behind an open gate, with its length and what is on the disk after that
abbrev pub judged : ℕ → ℕ → ℕ → List ℕ → Result (Option (List ℕ)) JournalFault
judged end limit len rest =
    if is_whole 1 len rest && nat_le (end + 5 + len + 1) limit
    then Ok (Some (take len rest)) else Err (Damaged end)

-- What stands in the bytes from `end` on: no open gate, a whole record within the limit, or damage.
abbrev pub found : ℕ → ℕ → List ℕ → Result (Option (List ℕ)) JournalFault
found end limit (gate ∷ a ∷ b ∷ c ∷ d ∷ rest) =
    if gate == 1 then judged end limit (from_be_bytes w32 (a ∷ b ∷ c ∷ d ∷ [])) rest else Ok None
found end limit (gate ∷ rest) = if gate == 1 then Err (Damaged end) else Ok None
found end limit [] = Ok None

-- what it finds at byte `end`, whichever content a read gives
abbrev pub Finds : (end limit : ℕ) → (List ℕ → Type 0) → Result (Option (List ℕ)) JournalFault → Type 0
Finds end limit reads what = (c : List ℕ) → reads c → found end limit (drop end c) ≡ what

-- there it finds damage
abbrev pub FindsDamage : (end limit : ℕ) → (List ℕ → Type 0) → Type 0
FindsDamage end limit reads = Finds end limit reads (Err (Damaged end))

-- what it finds there under every limit
abbrev pub FindsUnderAny : ℕ → (List ℕ → Type 0) → Result (Option (List ℕ)) JournalFault → Type 0
FindsUnderAny end reads what =
    (c : List ℕ) → reads c → (limit : ℕ) → found end limit (drop end c) ≡ what

-- an open gate at byte `end`, with this length behind it
abbrev pub FindsOpen : (end len : ℕ) → (List ℕ → Type 0) → Type 0
FindsOpen end len reads = (c : List ℕ) → reads c → (limit : ℕ)
    → found end limit (drop end c) ≡ judged end limit len (drop 5 (drop end c))

-- what the record of this length behind the gate at byte `end` is judged to be
abbrev pub Judges : (end limit len : ℕ) → (List ℕ → Type 0) → Result (Option (List ℕ)) JournalFault → Type 0
Judges end limit len reads what = (c : List ℕ) → reads c → judged end limit len (drop (end + 5) c) ≡ what
