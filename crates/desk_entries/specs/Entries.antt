-- Which values are entries.
use Rattle.std.specs.Prelude.{◌≡◌, ℕ, ◌<◌, ◌≤◌, ◌^◌, true, List, [], ◌∷◌, IfSome, length}
use Rattle.desk_texts.specs.Days.{IsDay}
use Rattle.desk_entries.specs.declared.entry.ClosedName.{ClosedName}
use Rattle.desk_entries.specs.declared.entry.Entry.{Entry}
use Rattle.desk_entries.specs.declared.entry.Entry.TheVariants.{Pair, Named, Registered, Refused, Read}
use Rattle.desk_entries.specs.declared.entry.Entry.TheVariants.{Retiring, Shown, Written, Closed}
use Rattle.desk_entries.specs.declared.entry.Held.{Held}
use Rattle.desk_entries.specs.declared.entry.Held.TheVariants.{Nothing, Letter, Met}
use Rattle.desk_entries.specs.declared.entry.NamedBoxes.{NamedBoxes}
use Rattle.desk_entries.specs.declared.entry.Reading.{Reading}
use Rattle.desk_entries.specs.Names.{is_name}

abbrev pub IsAddress : ℕ → Type 0
IsAddress address = address < 2 ^ 128

abbrev pub AreAddresses : List ℕ → Type 0
AreAddresses [] = Unit {0}
AreAddresses (a ∷ addresses) = IsAddress a × AreAddresses addresses

-- a name, 1 to 64 addresses, and a day of the calendar where there is one
pub record IsNamed (n : NamedBoxes) : Type 0 where
  pub name : is_name n.name ≡ true
  pub some : 1 ≤ length n.addresses
  pub few : length n.addresses ≤ 64
  pub addresses : AreAddresses n.addresses
  pub until : IfSome n.until IsDay

abbrev pub IsHeld : Held → Type 0
IsHeld (Letter id text) = id < 2 ^ 64
IsHeld Nothing = Unit {0}
IsHeld Met = Unit {0}

pub record IsReading (r : Reading) : Type 0 where
  pub serial : r.serial < 2 ^ 32
  pub registered : r.registered < 2 ^ 32
  pub seconds : r.seconds < 2 ^ 64
  pub held : IsHeld r.held

pub record IsClosed (c : ClosedName) : Type 0 where
  pub name : is_name c.name ≡ true
  pub day : IsDay c.day

-- numbers fit their bytes, names are names, and days are days
abbrev pub IsFormed : Entry → Type 0
IsFormed (Pair text) = Unit {0}
IsFormed (Named n) = IsNamed n
IsFormed (Registered b) = (b.serial < 2 ^ 32) × IsAddress b.address
IsFormed (Refused d) = (d.serial < 2 ^ 32) × IsAddress d.address
IsFormed (Read r) = IsReading r
IsFormed (Retiring name) = is_name name ≡ true
IsFormed (Shown count) = count < 2 ^ 32
IsFormed (Written count) = count < 2 ^ 32
IsFormed (Closed c) = IsClosed c
