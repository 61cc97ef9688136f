-- The records that a disk's bytes stand for.
use Rattle.std.specs.Prelude.{◌≡◌, ◌≢◌, ◌⊎◌, ℕ, zero, suc, ◌≤◌, ◌==◌, nat_le, ◌+◌, Bool, ◌&&◌, List, [], ◌∷◌}
use Rattle.std.specs.Prelude.{◌++◌, length, take, drop, if◌then◌else◌}
use Rattle.std.specs.Int.{w32, to_be_bytes, from_be_bytes}

-- a record's most bytes: those of a frame of the greatest width, behind the byte of its sender
abbrev pub record_max : ℕ
record_max = 8214

-- a record has from 1 to 8,214 bytes
abbrev pub IsSized : List ℕ → Type 0
IsSized bytes = (1 ≤ length bytes) × (length bytes ≤ record_max)

-- The gate is open, the length is in its range, and the disk has a byte after the record.
abbrev pub is_whole : ℕ → ℕ → List ℕ → Bool
is_whole gate len rest =
    (gate == 1) && nat_le 1 len && nat_le len record_max && nat_le (len + 1) (length rest)

-- at most so many of the records that begin here, each at the byte after the one before it
abbrev pub first_records : ℕ → List ℕ → List (List ℕ)
first_records zero bytes = []
first_records (suc most) (gate ∷ a ∷ b ∷ c ∷ d ∷ rest) =
    if is_whole gate (from_be_bytes w32 (a ∷ b ∷ c ∷ d ∷ [])) rest
    then take (from_be_bytes w32 (a ∷ b ∷ c ∷ d ∷ [])) rest
    ∷ first_records most (drop (from_be_bytes w32 (a ∷ b ∷ c ∷ d ∷ [])) rest)
    else []
first_records (suc most) bytes = []

-- All the records from byte 0 on. Each takes more than one byte, so there are no more than bytes.
abbrev pub content : List ℕ → List (List ℕ)
content bytes = first_records (length bytes) bytes

-- all the records from this byte on
abbrev pub records_from : ℕ → List ℕ → List (List ℕ)
records_from end bytes = content (drop end bytes)

-- no record stands from this byte on
abbrev pub HasNoMore : ℕ → (List ℕ → Type 0) → Type 0
HasNoMore end reads = (c : List ℕ) → reads c → records_from end c ≡ []

-- this record stands from the one byte to the other
abbrev pub HoldsRecord : (start end : ℕ) → List ℕ → (List ℕ → Type 0) → Type 0
HoldsRecord start end record_bytes reads =
    (c : List ℕ) → reads c → records_from start c ≡ record_bytes ∷ records_from end c

-- a record behind its gate: its length, then its bytes
abbrev pub body : List ℕ → List ℕ
body record_bytes = to_be_bytes w32 (length record_bytes) ++ record_bytes

-- these records one after another, each behind an open gate
abbrev pub opened : List (List ℕ) → List ℕ
opened [] = []
opened (r ∷ records) = 1 ∷ body r ++ opened records

abbrev pub AllSized : List (List ℕ) → Type 0
AllSized [] = Unit {0}
AllSized (r ∷ records) = IsSized r × AllSized records

-- Whole records stand before byte `end`. Unless that is the first byte, it is there.
pub record IsBehind (end : ℕ) (bytes : List ℕ) : Type 0 where
  pub records : List (List ℕ)
  pub sized : AllSized records
  pub rest : List ℕ
  pub split : bytes ≡ opened records ++ rest
  pub place : length (opened records) ≡ end
  pub there : 1 ≤ end → 1 ≤ length rest

-- Byte `end` is the gate after whole records, and it is closed.
pub record EndsAt (end : ℕ) (bytes : List ℕ) : Type 0 where
  pub records : List (List ℕ)
  pub sized : AllSized records
  pub gate : ℕ
  pub closed : gate ≢ 1
  pub tail : List ℕ
  pub split : bytes ≡ opened records ++ gate ∷ tail
  pub place : length (opened records) ≡ end

-- From byte `end` on there are whole records and then a closed gate, all of it within the limit.
pub record IsUndamaged (limit end : ℕ) (bytes : List ℕ) : Type 0 where
  pub records : List (List ℕ)
  pub sized : AllSized records
  pub gate : ℕ
  pub closed : gate ≢ 1
  pub tail : List ℕ
  pub split : drop end bytes ≡ opened records ++ gate ∷ tail
  pub fits : end + length (opened records) + 1 ≤ limit

-- where nothing is damaged from the one byte on, nothing is from the other on
abbrev pub StaysUndamaged : (limit start end : ℕ) → (List ℕ → Type 0) → Type 0
StaysUndamaged limit start end reads =
    (c : List ℕ) → reads c → IsUndamaged limit start c → IsUndamaged limit end c

-- Whole records up to byte `end` and a closed gate, with the records of one content that was read before;
-- or one more and its end.
abbrev pub RestsBeforeOrAfter : (List ℕ → Type 0) → ℕ → List ℕ → List ℕ → Type 0
RestsBeforeOrAfter reads end added bytes = (d : List ℕ) × reads d
    × ((EndsAt end bytes × (content bytes ≡ content d))
    ⊎ (EndsAt (end + 5 + length added) bytes × (content bytes ≡ content d ++ added ∷ [])))

-- a read gives no byte
abbrev pub GivesNoByte : (List ℕ → Type 0) → Type 0
GivesNoByte reads = (bytes : List ℕ) → reads bytes → bytes ≡ []

-- A crash leaves no byte.
abbrev pub LeavesNoByte : (List ℕ → Type 0) → Type 0
LeavesNoByte may_leave = (bytes : List ℕ) → may_leave bytes → bytes ≡ []

-- One byte at most; or a closed gate at the front with no record, or behind the first record.
abbrev pub RestsNoneOrFirst : List ℕ → List ℕ → Type 0
RestsNoneOrFirst first bytes = (length bytes ≤ 1)
    ⊎ ((EndsAt 0 bytes × (content bytes ≡ []))
    ⊎ (EndsAt (0 + 5 + length first) bytes × (content bytes ≡ first ∷ [])))

-- The content is no record or exactly the first one. It is undamaged, unless it has one byte at most.
abbrev pub LeavesNoneOrFirst : ℕ → List ℕ → List ℕ → Type 0
LeavesNoneOrFirst limit first bytes = ((content bytes ≡ []) ⊎ (content bytes ≡ first ∷ []))
    × ((length bytes ≤ 1) ⊎ IsUndamaged limit 0 bytes)

-- the content stands for these records, or for them and one more
abbrev pub IsBeforeOrAfter : List (List ℕ) → List ℕ → List ℕ → Type 0
IsBeforeOrAfter records added bytes = (content bytes ≡ records) ⊎ (content bytes ≡ records ++ added ∷ [])

-- The content is undamaged, and stands for the records of one that was read before, or for them and one more.
abbrev pub LeavesBeforeOrAfter : ℕ → (List ℕ → Type 0) → List ℕ → List ℕ → Type 0
LeavesBeforeOrAfter limit reads added bytes =
    (d : List ℕ) × reads d × IsBeforeOrAfter (content d) added bytes × IsUndamaged limit 0 bytes

-- the content stands for the records of one that was read before, and one more
abbrev pub Appended : (List ℕ → Type 0) → List ℕ → List ℕ → Type 0
Appended reads added bytes = (d : List ℕ) × reads d × (content bytes ≡ content d ++ added ∷ [])
