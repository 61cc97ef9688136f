-- The limits of a system of mailboxes.
use Rattle.std.specs.Prelude.{◌≡◌, ℕ, ◌-◌, ◌≤◌, ◌%◌, List, length}

-- a message's width in bytes
abbrev pub IsWidth : ℕ → Type 0
IsWidth width = (16 ≤ width) × (width ≤ 4096) × (width % 16 ≡ 0)

-- the bytes of a public part before its last block: 128 words of 16 bytes, then 128 right bits
abbrev pub levels_len : ℕ
levels_len = 2064

-- bytes as many as a public part of some width has
abbrev pub IsPart : List ℕ → Type 0
IsPart part = (levels_len ≤ length part) × IsWidth (length part - levels_len)

abbrev pub KeepsLimits : ℕ → ℕ → ℕ → ℕ → Type 0
KeepsLimits width boxes lanes window =
    IsWidth width × ((1 ≤ boxes) × (boxes ≤ 4096)) × ((1 ≤ lanes) × (lanes ≤ 256))
    × ((1 ≤ window) × (window ≤ 32))
