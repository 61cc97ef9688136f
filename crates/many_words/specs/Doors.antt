-- The doors of a server.
use Rattle.std.specs.Prelude.{Bool, true, false}
use Rattle.many_words.specs.declared.door.Door.{Door}
use Rattle.many_words.specs.declared.door.Door.TheVariants.{Clients, Status, Link, Dialled}

abbrev pub is_client : Door → Bool
is_client Clients = true
is_client Status = false
is_client Link = false
is_client Dialled = false

abbrev pub is_link : Door → Bool
is_link Clients = false
is_link Status = false
is_link Link = true
is_link Dialled = false

abbrev pub is_dialled : Door → Bool
is_dialled Clients = false
is_dialled Status = false
is_dialled Link = false
is_dialled Dialled = true

-- the other server is at the connection's end
abbrev pub is_peer : Door → Bool
is_peer Clients = false
is_peer Status = false
is_peer Link = true
is_peer Dialled = true
