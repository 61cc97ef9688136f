-- The room of a desk's ledger, which takes at most 2^28 bytes of the disk.
use Rattle.std.specs.Prelude.{ℕ, ◌*◌, ◌/◌, ◌<◌, min}

-- Behind so many bytes nothing is begun: what is left is for what is under way.
abbrev pub IsFull : ℕ → Type 0
IsFull used = 267386880 < used

-- Behind so many nothing is noted that is to be carried out: 64 boxes take less than what is left up to
-- there.
abbrev pub IsNearlyFull : ℕ → Type 0
IsNearlyFull used = 266338304 < used

-- how many hundredths of it so many bytes are
abbrev pub hundredths : ℕ → ℕ
hundredths used = (min used 268435456 * 100) / 268435456
