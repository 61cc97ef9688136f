-- The schedule of a mill: 20 clients register 64 boxes, write so many messages, and read all boxes.
use Rattle.std.specs.Prelude.{ℕ, zero, suc, ◌+◌, ◌*◌, ◌/◌, ◌%◌, ◌^◌, List, [], ◌∷◌, ◌++◌, take, replicate, refl}
use Rattle.std.proofs.Math.Dec.{lit≤}
use Rattle.std.specs.Int.{w64, w128, to_le_bytes, from_be_bytes}
use Rattle.dpf_rules.specs.Expansion.{draw32}
use Rattle.schedule_text.specs.declared.schedule.Asked.{Asked}
use Rattle.schedule_text.specs.declared.schedule.Asked.TheVariants.{Register, Write, Read}
use Rattle.schedule_text.specs.declared.schedule.Event.{Event}
use Rattle.schedule_text.specs.declared.schedule.Event.TheVariants.{Ask, Finish}
use Rattle.schedule_text.specs.declared.schedule.Header.{Header}
use Rattle.schedule_text.specs.declared.schedule.Schedule.{Schedule}

-- the number as 8 bytes, the lowest first, and 24 zero bytes
unfoldable pub mill_seed : ℕ → List ℕ
mill_seed n = to_le_bytes w64 n ++ replicate 24 0

abbrev pub mill_header : ℕ → Header
mill_header n = record {
  settings = record {
    width = 1024;
    boxes = 64;
    lanes = 20;
    window = 1;
    limits = ((lit≤ tt, lit≤ tt, refl), (lit≤ tt, lit≤ tt), (lit≤ tt, lit≤ tt), (lit≤ tt, lit≤ tt));
  };
  seed = mill_seed n;
}

-- address i of 64: six bits of i above 121 drawn ones
unfoldable pub mill_address : List ℕ → ℕ → ℕ
mill_address seed i = i * 2 ^ 121 + from_be_bytes w128 (take 16 (draw32 seed (2 ^ 32 + i))) / 128

-- a list so many times, one after the other
abbrev pub times : ℕ → List ℕ → List ℕ
times zero xs = []
times (suc n) xs = times n xs ++ xs

-- message j: a draw of 32 bytes, 32 times
unfoldable pub mill_message : List ℕ → ℕ → List ℕ
mill_message seed j = times 32 (draw32 seed (2 ^ 33 + j))

-- a client is asked, and its requests are worked off
unfoldable pub asked_and_finished : ℕ → Asked → List Event
asked_and_finished client asked = Ask client asked ∷ Finish client ∷ []

-- the events of the first i of 64 registers, j writes, i of 64 reads
unfoldable pub mill_registers : List ℕ → ℕ → List Event
mill_registers seed zero = []
mill_registers seed (suc i) =
    mill_registers seed i ++ asked_and_finished (i % 20) (Register (mill_address seed i))

unfoldable pub mill_writes : List ℕ → ℕ → List Event
mill_writes seed zero = []
mill_writes seed (suc j) =
    mill_writes seed j
    ++ asked_and_finished ((7 * j + 3) % 20) (Write (mill_address seed (11 * j % 64)) (mill_message seed j))

unfoldable pub mill_reads : ℕ → List Event
mill_reads zero = []
mill_reads (suc i) = mill_reads i ++ asked_and_finished (i % 20) (Read (i / 20))

unfoldable pub mill_schedule : ℕ → Schedule
mill_schedule n = record {
  header = mill_header n;
  events = mill_registers (mill_seed n) 64 ++ mill_writes (mill_seed n) n ++ mill_reads 64;
}
