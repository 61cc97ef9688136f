-- What fits an entry.
use Rattle.std.specs.Prelude.{◌<◌, ◌≤◌, ◌^◌, length}
use Rattle.desk_entries.specs.declared.entry.Held.{Held}
use Rattle.desk_entries.specs.declared.entry.Held.TheVariants.{Nothing, Letter, Met}

-- a letter's id has 64 bits, and its text fits a box
abbrev pub IsSmall : Held → Type 0
IsSmall (Letter id text) = (id < 2 ^ 64) × (length text ≤ 4096)
IsSmall Nothing = Unit {0}
IsSmall Met = Unit {0}
