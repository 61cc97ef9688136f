-- The walk of one server down the tree of a distributed point function to the leaf of an address, and its
-- write bytes.
-- Source: Boyle, Gilboa and Ishai, "Function Secret Sharing: Improvements and Extensions", CCS 2016,
-- section 3.
use Rattle.std.specs.Prelude.{ℕ, zero, suc, ◌+◌, ◌-◌, ◌*◌, ◌%◌, ◌==◌, List, length, drop, slice_range}
use Rattle.std.specs.Prelude.{bit_xor, if◌then◌else◌}
use Rattle.std.specs.Int.{bit_at}
use Rattle.express_words.specs.Bytes.{xor_bytes}
use Rattle.express_words.specs.Limits.{levels_len}
use Rattle.dpf_rules.specs.Bytes.{number_of}
use Rattle.dpf_rules.specs.Expansion.{with_bit, child, block}

-- ---- a public part, as bytes: 128 words of 16 bytes, 16 bytes of right bits, and the last correction

-- the word of level i
unfoldable pub word_of : List ℕ → ℕ → ℕ
word_of part i = number_of (slice_range part (16 * i) (16 * i + 16))

-- the right bit of level i
unfoldable pub right_of : List ℕ → ℕ → ℕ
right_of part i = bit_at (number_of (slice_range part 2048 levels_len)) i

-- the last correction
unfoldable pub last_of : List ℕ → List ℕ
last_of part = drop levels_len part

-- ---- the walk

-- the side of an address at level i: its bits from the highest down; 0 is left, 1 is right
abbrev pub side_at : ℕ → ℕ → ℕ
side_at address i = bit_at address (127 - i)

-- the correction of a side: the word, with the right bit as its bit 0 on the right
abbrev pub correction : ℕ → ℕ → ℕ → ℕ
correction word right side = if side == 0 then word else with_bit word right

-- a raw child of a state on a side, corrected where the state's control bit is 1
abbrev pub corrected : ℕ → ℕ → ℕ → ℕ → ℕ → ℕ
corrected word right side raw state = if state % 2 == 1 then bit_xor raw (correction word right side) else raw

-- the next state on a side
unfoldable pub step : ℕ → ℕ → ℕ → ℕ → ℕ
step word right side state = corrected word right side (child state side) state

-- the state of a server, 0 or 1, at level i: it begins at its root, with the server as bit 0
unfoldable pub state_at : List ℕ → ℕ → ℕ → ℕ → ℕ → ℕ
state_at part server root address zero = with_bit root server
state_at part server root address (suc i) =
    step (word_of part i) (right_of part i) (side_at address i) (state_at part server root address i)

-- the leaf of an address
abbrev pub leaf_of : List ℕ → ℕ → ℕ → ℕ → ℕ
leaf_of part server root address = state_at part server root address 128

-- the write bytes of a leaf: its block, with the last correction where its control bit is 1
unfoldable pub leaf_bytes : List ℕ → ℕ → List ℕ
leaf_bytes part leaf =
    let own = block (length (last_of part)) leaf in
    if leaf % 2 == 1 then xor_bytes own (last_of part) else own

-- the write bytes of a server at an address
abbrev pub write_bytes : List ℕ → ℕ → ℕ → ℕ → List ℕ
write_bytes part server root address = leaf_bytes part (leaf_of part server root address)
