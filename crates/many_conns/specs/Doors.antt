-- The places of a server, as it is opened.
use Rattle.std.specs.Prelude.{List, ◌∷◌, ◌++◌, replicate}
use Rattle.many_words.specs.declared.door.Door.{Door}
use Rattle.many_words.specs.declared.door.Door.TheVariants as door
use Rattle.many_conns.specs.declared.doors.Doors.{Doors}
use Rattle.many_conns.specs.declared.doors.Role.{Role}
use Rattle.many_conns.specs.declared.doors.Role.TheVariants.{Helper, Leader}
use Rattle.many_conns.specs.Places.{Place, empty_place}

-- the door of the other server's place: it is dialled by the leader
abbrev pub link_door : Role → Door
link_door Helper = door.Link
link_door Leader = door.Dialled

-- the other server's place, those of operators and those of clients, all free
abbrev pub free_places : Doors → List Place
free_places doors = empty_place (link_door doors.role)
    ∷ (replicate doors.status (empty_place door.Status) ++ replicate doors.clients (empty_place door.Clients))
