-- A server at its door.
use Rattle.std.specs.Prelude.{◌≡◌, ℕ, ◌<◌, List, ◌++◌, length, flat_map, Result, Ok, Err}
use Rattle.express_words.specs.Seen.{Seen}
use Rattle.node_exchange.specs.Exchanging.{Makes}
use Rattle.node_serve.specs.Logs.{Log}
use Rattle.node_serve.specs.declared.stop.Halt.{Halt}
use Rattle.node_serve.specs.declared.stop.Halt.TheVariants as halt
use Rattle.node_serve.specs.declared.stop.Stop.{Stop}
use Rattle.node_serve.specs.declared.tally.Tally.{Tally}
use Rattle.node_serve.specs.Tallies.{tally_of}
use Rattle.node_serve.specs.Visits.{Contact, Visit, visit_calls, frames_of, Visits, Standing, DoorFails, IsRefusedVisit}

-- Visits were made one after another, and no other call; the log took the frames that the server was handed.
pub record Visited {S F : Type 0} (log : Log S F) (peer : List ℕ) (shown : Seen → Type 0)
    (start end : Standing S) : Type 0 where
  pub visits : List Visit
  pub made : Visits log peer shown start visits end
  pub takes : log.takes start.server end.server (flat_map frames_of visits)
  pub calls : Makes start.net.calls end.net.calls (flat_map visit_calls visits)

-- behind these, one was made at which the log refused a frame
pub record LogRefuses {S F : Type 0} {log : Log S F} {peer : List ℕ} {shown : Seen → Type 0}
    {start between : Standing S} (fault : F) (done : Visited log peer shown start between) (end : Standing S)
    : Type 0 where
  pub last : Contact
  pub broken : IsRefusedVisit log peer shown last fault between end
  pub stops : log.stops start.server end.server (flat_map frames_of done.visits ++ broken.short.end.frames)
      broken.short.refused fault

-- behind these, an accept failed, or the log refused a frame
abbrev pub Halts : {S F : Type 0} {log : Log S F} {peer : List ℕ} {shown : Seen → Type 0}
    {start between : Standing S} → Halt F → Visited log peer shown start between → Standing S → Type 0
Halts {between = between} halt.Door done end = DoorFails between end
Halts (halt.Log fault) done end = LogRefuses fault done end

-- these were all, or it halted behind them
abbrev pub Ends : {S F : Type 0} {log : Log S F} {peer : List ℕ} {shown : Seen → Type 0}
    {start between : Standing S} → Result Tally (Stop F) → Visited log peer shown start between → Standing S
    → Type 0
Ends {between = between} (Ok tally) done end = end ≡ between
Ends (Err stop) done end = Halts stop.halt done end

-- as many as were asked for, or fewer where it halted
abbrev pub IsEnough : {F : Type 0} → ℕ → Result Tally (Stop F) → List Visit → Type 0
IsEnough connections (Ok tally) visits = length visits ≡ connections
IsEnough connections (Err stop) visits = length visits < connections

abbrev pub tally_in : {F : Type 0} → Result Tally (Stop F) → Tally
tally_in (Ok tally) = tally
tally_in (Err stop) = stop.tally

-- What comes of so many connections at the door of a server with a log, whose helper listens at peer, and
-- whose net's connections may show this.
pub record Hosts {S F : Type 0} (log : Log S F) (peer : List ℕ) (shown : Seen → Type 0) (connections : ℕ)
    (start end : Standing S) (result : Result Tally (Stop F)) : Type 0 where
  pub between : Standing S
  pub done : Visited log peer shown start between
  pub enough : IsEnough connections result done.visits
  pub tally_is : tally_in result ≡ tally_of done.visits
  pub ends : Ends result done end

-- why it ended early
abbrev pub halt_in : {F : Type 0} → Result Tally (Stop F) → Result Tally (Halt F)
halt_in (Ok tally) = Ok tally
halt_in (Err stop) = Err stop.halt
