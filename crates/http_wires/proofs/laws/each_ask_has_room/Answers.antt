use Rattle.http_wires.proofs.RoomLaws.{has_room}
use Rattle.http_wires.proofs.laws.each_ask_has_room.Goals as goal

pub returns : goal.returns
returns c = has_room
