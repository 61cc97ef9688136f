-- How connections are opened.
use Rattle.std.specs.Prelude.{◌≡◌, ℕ, zero, suc, ◌*◌, ◌-◌, ◌^◌, min, max, List, [], ◌∷◌, Option, Some, None, replicate}
use Rattle.std.specs.declared.net.socket_addr.SocketAddr.{SocketAddr}
use Rattle.many_words.specs.declared.door.Door.{Door as Entrance}
use Rattle.many_words.specs.declared.door.Door.TheVariants.{Clients, Status, Link, Dialled}
use Rattle.mio_wires.specs.Slots.{Slot, Seen, vacant}
use Rattle.mio_wires.specs.declared.fault.WiresFault.{WiresFault}
use Rattle.mio_wires.specs.declared.fault.WiresFault.TheVariants.{Door, System, OutOfMemory}
use Rattle.mio_wires.specs.declared.settings.OtherServer.{OtherServer}
use Rattle.mio_wires.specs.declared.settings.OtherServer.TheVariants.{Listen, Dial}
use Rattle.mio_wires.specs.declared.settings.WiresSettings.{WiresSettings}

abbrev pub link_address : OtherServer → Option SocketAddr
link_address (Listen at) = Some at
link_address (Dial at) = None

-- where the server listens for those of this door
abbrev pub address_of : WiresSettings → Entrance → Option SocketAddr
address_of settings Clients = Some settings.clients
address_of settings Status = settings.status
address_of settings Link = link_address settings.other
address_of settings Dialled = None

-- a door that can't be opened is one of the settings, and so is its address
abbrev pub NamesItsDoor : WiresSettings → WiresFault → Type 0
NamesItsDoor settings (Door door at why) = address_of settings door ≡ Some at
NamesItsDoor settings (System why) = Unit {0}
NamesItsDoor settings OutOfMemory = Unit {0}

-- this door can't be opened at this address
abbrev pub IsFaultOf : Entrance → SocketAddr → WiresFault → Type 0
IsFaultOf entrance address (Door door at why) = (door ≡ entrance) × (at ≡ address)
IsFaultOf entrance address (System why) = ⊥
IsFaultOf entrance address OutOfMemory = ⊥

-- the system failed, and no door
abbrev pub IsOfSystem : WiresFault → Type 0
IsOfSystem (Door door at why) = ⊥
IsOfSystem (System why) = Unit {0}
IsOfSystem OutOfMemory = ⊥

-- so many bytes may be pending of one answer
abbrev pub answer_room : ℕ
answer_room = 17408

-- so many on their way to the other server
abbrev pub other_room : ℕ → ℕ
other_room outstanding = min (max outstanding 1 * answer_room) (2 ^ 64 - 1)

-- places without connections: the first one is the other server's
abbrev pub vacant_slots : (places outstanding : ℕ) → List Slot
vacant_slots zero outstanding = []
vacant_slots (suc n) outstanding = vacant (other_room outstanding) ∷ replicate n (vacant answer_room)

-- as connections are opened: none is there, and no call was made
abbrev pub opened : WiresSettings → Seen
opened settings = record {
  moment = 0;
  slots = vacant_slots settings.places settings.outstanding;
  calls = [];
}
