-- What stays of a desk's entries when its letters are forgotten.
use Rattle.std.specs.Prelude.{if◌then◌else◌, List, Option, Some, None}
use Rattle.std.specs.List.{flat_map}
use Rattle.std.specs.Option.{option_to_list}
use Rattle.desk_entries.specs.declared.entry.Entry.{Entry}
use Rattle.desk_entries.specs.declared.entry.Entry.TheVariants.{Read}
use Rattle.desk_entries.specs.declared.entry.Entry.TheVariants.{Shown, Written}
use Rattle.desk_entries.specs.declared.entry.Held.TheVariants.{Nothing}

-- of a box that was retired, that it is; and all but letters and how many were shown or written
abbrev pub staying : Entry → Option Entry
staying (Read r) = if r.last then Some (Read (record r { held = Nothing })) else None
staying (Shown count) = None
staying (Written count) = None
staying e = Some e

abbrev pub kept : List Entry → List Entry
kept entries = flat_map (λ e. option_to_list (staying e)) entries
