-- Whether a frame of a lane is let in, by the serial, the phase and the want of the lane's row.
use Rattle.std.specs.Prelude.{ℕ, Bool, true, false, nat_lt, nat_eq, if◌then◌else◌}
use Rattle.lane_table.specs.declared.row.Row.{Row}
use Rattle.lane_table.specs.declared.row.Want.{Want}
use Rattle.lane_table.specs.declared.row.Want.TheVariants.{Nothing, Register, Write, Read}
use Rattle.lane_table.specs.declared.gate.Gate.{Gate}
use Rattle.lane_table.specs.declared.gate.Gate.TheVariants.{New, Same, Stale, Phase}

abbrev pub same_want : Want → Want → Bool
same_want Nothing Nothing = true
same_want Register Register = true
same_want Write Write = true
same_want Read Read = true
same_want a b = false

-- a frame that belongs to the row's request, where that asks for this want
abbrev pub fits_want : Row → Want → Gate
fits_want row want = if same_want want row.want then Same else Phase row.phase

-- a frame that opens a request of this serial and want
unfoldable pub opening_gate : Row → ℕ → Want → Gate
opening_gate row serial want =
    if nat_lt serial row.serial then Stale row.serial else
    if nat_eq serial row.serial then fits_want row want else New

-- a frame that goes on with a request of this serial: only a write has one
unfoldable pub closing_gate : Row → ℕ → Gate
closing_gate row serial = if nat_eq serial row.serial then fits_want row Write else Stale row.serial
