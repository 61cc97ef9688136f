-- What a take gives.
use Rattle.std.specs.Prelude.{◌≡◌, ◌≤◌, ℕ, false, List, length, take, Option}
use Rattle.many_words.specs.Events.{Event, Adds, Came, Ended, Blocked}
use Rattle.many_words.specs.Doors.{is_dialled}
use Rattle.many_words.specs.declared.door.Door.{Door}
use Rattle.many_words.specs.declared.hub.Taken.{Taken}
use Rattle.many_words.specs.declared.hub.Taken.TheVariants.{Bytes, Over, Pending}

-- So many bytes came into the front of the buffer, or the connection has no more, or its output is pending. Of the
-- connection that the server dials bytes are taken all the same.
abbrev pub Gives : Option (List Event) → Option (List Event) → ℕ → Door → Taken → List ℕ → Type 0
Gives old new place door (Bytes n) buf = (n ≤ length buf) × Adds old new (Came place (take n buf))
Gives old new place door Over buf = Adds old new (Ended place)
Gives old new place door Pending buf = (is_dialled door ≡ false) × Adds old new (Blocked place)
